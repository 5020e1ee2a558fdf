-- What the server's side sends, by the rows of the message layer's law.
use Rattle.std.proofs.Common.{◌≡◌, ◌≢◌, ◌⊎◌, inl, inr, ℕ, ◌<◌, true, false, Some, List, [], ◌∷◌, IfSome, refl, ap, sym}
use Rattle.std.proofs.Common.{subst, ◌∙◌}
use Rattle.std.proofs.Common.{arith}
use Rattle.coap_types.specs.Past.{Ever}
use Rattle.coap_types.specs.declared.endpoint.Endpoint.{Endpoint}
use Rattle.coap_types.specs.declared.message.Kind.{Kind}
use Rattle.coap_types.specs.declared.message.Kind.TheVariants.{Con, Non, Ack, Rst}
use Rattle.coap_codec.specs.Spelling.{message_bytes}
use Rattle.coap_layer.specs.Rows.{Busy, Row, Stands, LayerLaw, Plains, Confirms, IsSpelled, MayGive, Withholds}
use Rattle.coap_layer.specs.Machine.State as L
use Rattle.coap_layer.specs.Machine.State.{made}
use Rattle.coap_layer.specs.Machine.Steps.{Asked as Below, Steps, left_after}
use Rattle.coap_layer.specs.Trace as T
use Rattle.coap_layer.specs.Trace.{with_head, Entry, Content}
use Rattle.coap_layer.specs.declared.setup.Setup.{Setup}
use Rattle.coap_layer.specs.Words.{numbers}
use Rattle.coap_layer.proofs.Facts.Laws.{small}
use Rattle.coap_layer.proofs.Facts.Calls.{steps_left}
use Rattle.coap_exchange.specs.declared.answerer.Asked.{Asked}
use Rattle.coap_exchange.specs.AnswererTrace.{Response, Own, Call, Incoming, Answers, Responds, Ready}
use Rattle.coap_exchange.specs.AnswererTrace.{Notifies}
use Rattle.coap_exchange.specs.AnswererTrace.{NotifiesPlain}
use Rattle.coap_exchange.specs.AnswererSteps.{lower, IsRight, IsResponse, IsSentAs, answering, content_of, content_with}
use Rattle.coap_exchange.specs.AnswererLaw.{own_of, lower_of, below_of, AnswererLaw}
use Rattle.coap_exchange.specs.AnswererFollows.{hands, AreRequests}
use Rattle.coap_exchange.specs.AnswererSends.{carrying, SendsThere, GoesBack, AllGoBack, begins, BeginAlone}
use Rattle.coap_exchange.specs.AnswererSends.{ReadyAlone}
use Rattle.coap_exchange.proofs.Responding.RequestsCame.{came_in}
use Rattle.coap_exchange.proofs.Leading.ServerLeads.{layer_stands}
use Rattle.coap_exchange.proofs.Responding.OneResponse.{counted}
use Rattle.coap_layer.proofs.Facts.StepsOfLayer.{steps_split}

-- a CON that was sent, and a NON
module _ (setup : Setup) (past : List Entry) (e : Entry) (to : Endpoint) (content : Content) (id : ℕ)
    (here : Stands setup past e) (told : e.answer ≡ T.Sent id) where
  abbrev Goes : Kind → Type 0
  Goes kind = SendsThere e to (with_head kind id content)

  confirmed : (w : ℕ) → e.call ≡ T.Confirm to content w → Goes Con × (Busy past to → ⊥)
  confirmed w is = go row.1
    where
      row : IsSpelled content × Confirms setup past e to content
      row = subst (Row setup past e) is here.row

      go : Confirms setup past e to content → Goes Con × (Busy past to → ⊥)
      go (inl r) = let k = r.answer in absurd (cc (k, told))
      go (inr (f, inl r)) = let k = r.answer in absurd (cc (k, told))
      go (inr (f, inr r)) =
          let same : r.id ≡ id = let k = r.answer in cc (k, told) in
          let bound : id < 65536 = let k = r.gives.next in let l =
          small setup.word (numbers past) in omega (arith, same, k, l) in (
            record {
              bytes = _;
              out = subst (λ n. e.out
                  ≡ record { to = to; bytes = message_bytes (with_head Con n content) } ∷ []) same r.out;
              spells = row.0 Con id bound;
            },
            f,
          )

  plained : e.call ≡ T.Plain to content → Goes Non
  plained is = go row.1
    where
      row : IsSpelled content × Plains setup past e to content
      row = subst (Row setup past e) is here.row

      go : Plains setup past e to content → Goes Non
      go (inl r) = let k = r.answer in absurd (cc (k, told))
      go (inr r) =
          let same : r.id ≡ id = let k = r.answer in cc (k, told) in
          let bound : id < 65536 = let k = r.gives.next in let l =
          small setup.word (numbers past) in omega (arith, same, k, l) in
          record {
            bytes = _;
            out = subst (λ n. e.out
                ≡ record { to = to; bytes = message_bytes (with_head Non n content) } ∷ []) same r.out;
            spells = row.0 Non id bound;
          }

-- the answer of the newest call of the layer
told_by : (begin mid new : L.State) (calls : List Below) (now : ℕ) (call : T.Call) (answer : T.Answer)
    → Steps begin calls mid → L.Step mid now call answer new → (made (left_after begin calls) now call).answer ≡ answer
told_by begin mid new calls now call answer before step =
    sym (subst (λ s. answer ≡ (made s now call).answer) (steps_left begin calls mid before) step.right)

-- the request that may be answered has a Message ID of 16 bits
small_id : (a : Asked) (t : List Call) → Ever (λ b. hands b ≡ Some a) t → AreRequests t → a.id.0 < 65536
small_id a [] h came = absurd h
small_id a (Incoming now from bytes up (Some p) ∷ t) (inl h) came =
    let same : p.0 ≡ a = cc h in
    let k = came.0.came now from bytes up p.0 p.1 refl in
    let id : a.id.0 ≡ p.1.id = ap (λ (x : Asked). x.id.0) (sym same ∙ k.0) in
    let bound = k.1.id in
    omega (arith, id, bound)
small_id a (c ∷ t) (inr h) came = small_id a t h came.1
small_id a _ (inl h) came = absurd (cc h)

-- an answer, by the type of its request
module _ (setup : Setup) (past : List Entry) (s : Own) (a : Asked) (r : Response) (below : T.Answer) (old : L.State)
    (right : IsResponse a r) (bound : a.id.0 < 65536) where
  abbrev Entered : Kind → Entry
  Entered kind = made old s.clock (answering s kind a r)

  abbrev Back : Kind → Type 0
  Back kind = (kind ≡ Con → SendsThere (Entered kind) a.from (carrying Ack a.id.0 a.token r))
      × (kind ≢ Con → (id : ℕ) × SendsThere (Entered kind) a.from (carrying Non id a.token r))

  not_con : (kind : Kind) → (kind ≡ Con → ⊥) → (id : ℕ) × SendsThere (Entered kind) a.from (carrying Non id a.token r)
      → Back kind
  not_con kind n f = (λ e. absurd (n e), λ m. f)

  answered : (kind : Kind) → IsSentAs kind below → (Entered kind).answer ≡ below → Stands setup past (Entered kind)
      → Back kind
  answered Con sent told here = (
    λ e. record { bytes = _; out = refl; spells = right.spelled Ack a.id.0 bound },
    λ n. absurd (n refl),
  )
  answered Non sent told here = not_con Non (λ e. cc e)
      (sent.0, plained setup past (Entered Non) a.from (content_of a r) sent.0 here (told ∙ sent.1) refl)
  answered Ack sent told here = not_con Ack (λ e. cc e)
      (sent.0, plained setup past (Entered Ack) a.from (content_of a r) sent.0 here (told ∙ sent.1) refl)
  answered Rst sent told here = not_con Rst (λ e. cc e)
      (sent.0, plained setup past (Entered Rst) a.from (content_of a r) sent.0 here (told ∙ sent.1) refl)

-- each call
module _ (setup : Setup) (t : List Call) (law : AnswererLaw t) (came : AreRequests t) (h : L.State) where
  abbrev past : List Entry
  past = below_of setup t

  abbrev Here : Call → Type 0
  Here c = GoesBack setup t c × IfSome (begins c) (λ to. Busy past to → ⊥)

  abbrev entered : ℕ → T.Call → Entry
  entered now call = made (left_after (L.start setup) (lower_of t)) now call

  pub here : (c : Call) → IsRight (own_of t) c → Steps (L.start setup) (lower_of (c ∷ t)) h
      → LayerLaw setup (below_of setup (c ∷ t)) → Here c
  here (Answers a r below) right steps stands =
      let s : Own = own_of t in
      let call : T.Call = answering s a.kind a r in
      let bound = small_id a t ((counted t law).1.pending a right.0) came in
      let k = answered setup past s a r below (left_after (L.start setup) (lower_of t)) right.1 bound a.kind right.2
      (told_by (L.start setup) steps.0 h (lower_of t) s.clock call below steps.1 steps.2) stands.0 in (
        (
          λ e. record { entry = entered s.clock call; makes = refl; sends = k.0 e },
          λ n. let l = k.1 n in (l.0, record { entry = entered s.clock call; makes = refl; sends = l.1 }),
        ),
        tt,
      )
  here (Responds now a r w id) right steps stands =
      let call : T.Call = T.Confirm a.from (content_of a r) w in
      let k = confirmed setup past (entered now call) a.from (content_of a r) id stands.0
      (told_by (L.start setup) steps.0 h (lower_of t) now call (T.Sent id) steps.1 steps.2) w refl in
      (record { entry = entered now call; makes = refl; sends = k.0 }, k.1)
  here (Notifies now to token r w id) right steps stands =
      let call : T.Call = T.Confirm to (content_with token r) w in
      let k = confirmed setup past (entered now call) to (content_with token r) id stands.0
      (told_by (L.start setup) steps.0 h (lower_of t) now call (T.Sent id) steps.1 steps.2) w refl in
      (record { entry = entered now call; makes = refl; sends = k.0 }, k.1)
  here (NotifiesPlain now to token r id) right steps stands =
      let call : T.Call = T.Plain to (content_with token r) in
      let k = plained setup past (entered now call) to (content_with token r) id stands.0
      (told_by (L.start setup) steps.0 h (lower_of t) now call (T.Sent id) steps.1 steps.2) refl in
      (record { entry = entered now call; makes = refl; sends = k }, tt)
  here _ right steps stands = (tt, tt)

-- where there is room for a CON, none is outstanding
has_room : (setup : Setup) (past : List Entry) (e : Entry) (to : Endpoint) → Stands setup past e → e.call ≡ T.Room to
    → e.answer ≡ T.Is true → Busy past to → ⊥
has_room setup past e to here is told = go (subst (Row setup past e) is here.row).0
  where
    go : ((Busy past to → ⊥) × MayGive setup past e.at × (e.answer ≡ T.Is true))
        ⊎ ((Busy past to ⊎ Withholds setup past e.at) × (e.answer ≡ T.Is false)) → Busy past to → ⊥
    go (inl k) = k.0
    go (inr k) = let other = k.1 in absurd (cc (other, told))

module _ (setup : Setup) (t : List Call) (law : AnswererLaw t) (h : L.State) where
  alone_here : (c : Call) → Steps (L.start setup) (lower_of (c ∷ t)) h
      → LayerLaw setup (below_of setup (c ∷ t))
      → (now : ℕ) (to : Endpoint) → c ≡ Ready now to true → Busy (below_of setup t) to → ⊥
  alone_here (Ready at there answer) steps stands now to e =
      let there_is : there ≡ to = cc e in
      let answer_is : answer ≡ true = cc e in
      let call : T.Call = T.Room there in
      let entry : Entry = made (left_after (L.start setup) (lower_of t)) at call in
      subst (λ x. Busy (below_of setup t) x → ⊥) there_is
      (has_room setup (below_of setup t) entry there stands.0 refl
      (told_by (L.start setup) steps.0 h (lower_of t) at call (T.Is answer) steps.1 steps.2
      ∙ ap T.Is answer_is))
  alone_here _ steps stands now to e = absurd (cc e)

pub ready_alone : (setup : Setup) (t : List Call) → AnswererLaw t → (h : L.State)
    → Steps (L.start setup) (lower_of t) h → ReadyAlone setup t
ready_alone setup [] law h steps = tt
ready_alone setup (c ∷ t) law h steps =
    let parts = steps_split (L.start setup) h (lower (own_of t) c) (lower_of t) steps in (
      alone_here setup t law.1 h c steps
          (layer_stands setup (c ∷ t) (record { rows = law; left = h; layer = steps })),
      ready_alone setup t law.1 parts.0 parts.1,
    )

pub sends_so : (setup : Setup) (t : List Call) → AnswererLaw t → (h : L.State) → Steps (L.start setup) (lower_of t) h
    → AllGoBack setup t × BeginAlone setup t
sends_so setup [] law h steps = (tt, tt)
sends_so setup (c ∷ t) law h steps =
    let parts = steps_split (L.start setup) h (lower (own_of t) c) (lower_of t) steps in
    let earlier = sends_so setup t law.1 parts.0 parts.1 in
    let k = here setup t law.1 (came_in setup t law.1 parts.0 parts.1) h c law.0 steps
    (layer_stands setup (c ∷ t) (record { rows = law; left = h; layer = steps })) in
    ((k.0, earlier.0), (k.1, earlier.1))
