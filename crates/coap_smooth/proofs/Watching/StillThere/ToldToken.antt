-- What a Confirmable message carries of which a server says that a Reset ended it: the token that it says (RFC 7252,
-- sections 4.2 and 5.2.2).
use Rattle.std.proofs.Common.{◌≡◌, ◌≢◌, inl, inr, ⊎_elim, ℕ, true, false, Option, Some, List, [], ◌∷◌, ◌++◌, refl}
use Rattle.std.proofs.Common.{ap, sym, subst, ◌∙◌, append_assoc}
use Rattle.coap_types.specs.Past.{Ever, Since, Always}
use Rattle.coap_types.specs.Recognised.{lacks_critical}
use Rattle.coap_types.specs.Roles.{role_of}
use Rattle.coap_types.specs.declared.role.Role.TheVariants as role
use Rattle.coap_types.specs.declared.direction.Direction.TheVariants.{Response}
use Rattle.coap_types.specs.SameEndpoint.{same_endpoint}
use Rattle.coap_types.proofs.Facts.Endpoints.{same_endpoint-decides}
use Rattle.coap_types.proofs.Facts.Traces.{Ever_append, Ever_map, Always_back}
use Rattle.coap_types.specs.declared.endpoint.Endpoint.{Endpoint}
use Rattle.coap_types.specs.declared.message.Kind.TheVariants.{Con}
use Rattle.coap_codec.specs.Message.{Message, Spells}
use Rattle.coap_codec.specs.Spelling.{message_bytes}
use Rattle.coap_layer.specs.Machine.State.{start}
use Rattle.coap_layer.specs.Machine.Steps.{entries, left_after}
use Rattle.coap_layer.specs.Rows.{LayerLaw, Stands, Row, IsSpelled, Confirms, Busy}
use Rattle.coap_layer.specs.Sends.{Begins, IsOpen, as_begun, packet_of}
use Rattle.coap_layer.specs.Trace as L
use Rattle.coap_layer.specs.Trace.{with_head}
use Rattle.coap_layer.specs.Words.{Open, begun, outstanding}
use Rattle.coap_layer.specs.declared.setup.Setup.{Setup}
use Rattle.coap_layer.proofs.Facts.Laws.{begins_of}
use Rattle.coap_resource.specs.Limits.{Limits}
use Rattle.coap_exchange.specs.declared.answerer.Asked.{Asked}
use Rattle.coap_exchange.specs.declared.answerer.Ended.{Ended}
use Rattle.coap_exchange.specs.declared.separate.Separate.{Separate}
use Rattle.coap_exchange.specs.AnswererLaw as answerer
use Rattle.coap_exchange.specs.AnswererLaw.{below_of}
use Rattle.coap_exchange.specs.AnswererSends.{AllGoBack, BeginAlone, SendsOne, GoesBack, begins, carrying}
use Rattle.coap_exchange.specs.AnswererSteps as P
use Rattle.coap_exchange.specs.AnswererSteps.{reset_by}
use Rattle.coap_exchange.specs.AnswererTells.{EndsTold, SentIn, Tells, TellsIf, fails, reset_from}
use Rattle.coap_exchange.specs.AnswererTrace as R
use Rattle.coap_exchange.proofs.Facts.Adds.{entries_append}
use Rattle.coap_client_laws.proofs.Facts.Exchanges.{open_before}
use Rattle.coap_server.specs.Asks.{answering}
use Rattle.coap_server.specs.Follows.Observes.{ends_in}
use Rattle.coap_server_laws.specs.Follows.Recognised.{IsRecognised}
use Rattle.coap_server.specs.Handling.{heard, incoming}
use Rattle.coap_server.specs.Law.{ServerLaw, own_of, lower_of, layer_of}
use Rattle.coap_server.specs.Trace as S
use Rattle.coap_server_laws.proofs.Facts.Laws as server_facts
use Rattle.coap_smooth.proofs.Smoothly.Answers.Confirms.{SendsSo, sends_so, entries_so, begun_so}
use Rattle.coap_smooth.proofs.Smoothly.Requests.RequestOpen.{open_was_begun}
use Rattle.coap_smooth.proofs.Watching.StillThere.SendsKnown.{IsKnown, Any, Known, all_known}

-- a CON goes out in the entry that begins it
pub out_of_begun : (setup : Setup) (past : List L.Entry) (e : L.Entry) (c : Open) → Stands setup past e → begun e
    ≡ Some c
    → e.out ≡ packet_of c ∷ []
out_of_begun setup past e c stands is = by row.1
  where
    b : Begins e.at e.call e.answer c
    b = begins_of e c is

    row : IsSpelled b.content × Confirms setup past e c.to b.content
    row = subst (Row setup past e) b.call_is stands.row

    by : Confirms setup past e c.to b.content → e.out ≡ packet_of c ∷ []
    by (inl k) = let z = sym b.answer_is ∙ k.answer in absurd (cc z)
    by (inr (alone, inl k)) = let z = sym b.answer_is ∙ k.answer in absurd (cc z)
    by (inr (alone, inr k)) =
        let z : L.Sent c.id ≡ L.Sent k.id = sym b.answer_is ∙ k.answer in
        let id : c.id ≡ k.id = cc z in
        k.out ∙ ap (λ n. record { to = c.to; bytes = message_bytes (with_head Con n b.content) } ∷ []) (sym id)
        ∙ ap (λ bytes. record { to = c.to; bytes = bytes } ∷ []) (sym b.bytes_are)

one_packet : (p q : L.Packet) → p ∷ [] ≡ q ∷ [] → p ≡ q
one_packet p q h = cc h

-- what a call of the exchanges begins in a CON
itself : (b : R.Call) → SendsSo (λ to content. begins b ≡ Some to) (λ to content. Unit {0}) b
itself (R.Responds now a r word id) = refl
itself (R.Notifies now to token r word id) = refl
itself _ = tt

is_busy : (t : List L.Entry) (c : Open) (to : Endpoint) → IsOpen t c → c.to ≡ to → Busy t to
is_busy t c to o there = Ever_map (λ y. as_begun y ≡ c) (λ (y : Open). same_endpoint y.to to ≡ true)
    (λ y k. (same_endpoint-decides y.to to).1 (ap (λ (z : Open). z.to) k ∙ there)) (outstanding t) o

module _ (setup : Setup) (x : Ended) (con : R.Sending) where
  -- it has the token that is told
  pub record Carries (c : Open) : Type 0 where
    pub message : Message
    pub spells : Spells c.bytes message
    pub kind : message.kind ≡ Con
    pub token : message.token ≡ x.token
    pub class : role_of message.code ≡ role.Response
    pub understood : lacks_critical Response message.options ≡ false

  below_next : (b : R.Call) (t : List R.Call)
      → below_of setup (b ∷ t) ≡ entries (left_after (start setup) (answerer.lower_of t))
      (P.lower (answerer.own_of t) b) ++ below_of setup t
  below_next b t = entries_append (start setup) (P.lower (answerer.own_of t) b) (answerer.lower_of t)

  one : (b : R.Call) (t : List R.Call) (to : Endpoint) (m : Message) → LayerLaw setup (below_of setup (b ∷ t))
      → SendsOne setup t b to m → (Busy (below_of setup t) to → ⊥) → to ≡ con.to → m.kind ≡ Con → m.token ≡ x.token
      → role_of m.code ≡ role.Response → lacks_critical Response m.options ≡ false → (c : Open)
      → IsOpen (below_of setup (b ∷ t)) c → c.to ≡ con.to → Carries c
  one b t to m law sends alone there kind token class known c o place =
      by (open_was_begun (sends.entry ∷ below_of setup t) c open_here)
    where
      here : LayerLaw setup (sends.entry ∷ below_of setup t)
      here = subst (LayerLaw setup) sends.makes law

      open_here : IsOpen (sends.entry ∷ below_of setup t) c
      open_here = subst (λ l. IsOpen l c) sends.makes o

      by : Ever (λ e. begun e ≡ Some c) (sends.entry ∷ below_of setup t) → Carries c
      by (inl is) =
          let bytes : sends.sends.bytes ≡ c.bytes =
          ap (λ (p : L.Packet). p.bytes) (one_packet (record { to = to; bytes = sends.sends.bytes }) (packet_of c)
          (sym sends.sends.out ∙ out_of_begun setup (below_of setup t) sends.entry c here.0 is)) in
          record {
            message = m;
            spells = subst (λ z. Spells z m) bytes sends.sends.spells;
            kind = kind;
            token = token;
            class = class;
            understood = known;
          }
      by (inr was) =
          absurd (alone (is_busy (below_of setup t) c to
          (open_before setup (sends.entry ∷ []) (below_of setup t) c here was open_here) (place ∙ sym there)))

  sent_here : (b : R.Call) (t : List R.Call) → LayerLaw setup (below_of setup (b ∷ t)) → GoesBack setup t b
      → BeginAlone setup (b ∷ t) → P.IsRight (answerer.own_of t) b → SendsSo IsKnown Any b → SentIn con x b
      → (c : Open) → IsOpen (below_of setup (b ∷ t)) c → c.to ≡ con.to
      → Carries c
  sent_here (R.Responds now a r w id) t law back alone right known s c o place =
      let there = s.there in
      let sent = s.sent in
      let to : a.from ≡ con.to = cc there in
      let token : a.token ≡ x.token = cc sent in
      one (R.Responds now a r w id) t a.from (carrying Con id a.token r) law back alone.0 to refl token right.1.code
      known c o
      place
  sent_here (R.Notifies now at key r w id) t law back alone right known s c o place =
      let there = s.there in
      let sent = s.sent in
      let to : at ≡ con.to = cc there in
      let token : key ≡ x.token = cc sent in
      one (R.Notifies now at key r w id) t at (carrying Con id key r) law back alone.0 to refl token right.code known c
      o
      place
  sent_here _ t law back alone right known s c o place = let z = s.there in absurd (cc z)

  -- what is outstanding to there, where this was the last that was begun
  pub carried : (t : List R.Call) → LayerLaw setup (below_of setup t) → AllGoBack setup t → BeginAlone setup t
      → answerer.AnswererLaw t → Known t → Since (SentIn con x) (λ b. begins b ≢ Some con.to) t → (c : Open)
      → IsOpen (below_of setup t) c
      → c.to ≡ con.to → Carries c
  carried [] law back alone rows known h c o place = absurd h
  carried (b ∷ t) law back alone rows known (inl s) c o place = sent_here b t law back.0 alone rows.0 known.0 s c o
      place
  carried (b ∷ t) law back alone rows known (inr k) c o place =
      let asks = P.lower (answerer.own_of t) b in
      let old = left_after (start setup) (answerer.lower_of t) in
      let adds = entries old asks in
      let next = below_next b t in
      let whole = subst (LayerLaw setup) next law in
      let here = subst (λ l. IsOpen l c) next o in
      ⊎_elim
      (λ now. absurd (k.0 ((begun_so (λ to content. begins b ≡ Some to) (λ to content. Unit {0}) adds c
      (entries_so (λ to content. begins b ≡ Some to) (λ to content. Unit {0}) old asks
      (sends_so (λ to content. begins b ≡ Some to) (λ to content. Unit {0}) (answerer.own_of t) b (itself b)))
      now).is_so ∙ ap (λ z. Some z) place)))
      (λ was. carried t (Always_back _ adds (below_of setup t) whole) back.1 alone.1 rows.1 known.1 k.1 c
      (open_before setup adds (below_of setup t) c whole was here) place)
      (Ever_append (λ e. begun e ≡ Some c) adds (below_of setup t) (open_was_begun (adds ++ below_of setup t) c here))

at_last : {T : Type 0} (A : List T → T → Type 0) (first : List T) (input : T) (rest : List T)
    → Always A ((first ++ input ∷ []) ++ rest) → Always A (input ∷ rest)
at_last A first input rest h = Always_back A first (input ∷ rest)
    (subst (Always A) (append_assoc first (input ∷ []) rest) h)

-- it is a Reset that is told
reset_is : (from : Endpoint) (up : L.Answer) (xs : List Separate) (x : Ended) → reset_by from up xs ≡ Some x
    → (id : ℕ) × (up ≡ L.Becomes (L.Reset id))
reset_is from (L.Becomes (L.Reset id)) xs x h = (id, refl)
reset_is from _ xs x h = absurd (cc h)

-- what was sent in this CON went there
sent_to : (t : List R.Call) (con : R.Sending) (x : Ended) → Since (SentIn con x) (λ b. begins b ≢ Some con.to) t
    → x.to ≡ con.to
sent_to [] con x h = absurd h
sent_to (b ∷ t) con x (inr k) = sent_to t con x k.1
sent_to (R.Responds now a r w id ∷ t) con x (inl s) = let p = s.there in let q = s.sent in cc (p, q)
sent_to (R.Notifies now to token r w id ∷ t) con x (inl s) = let p = s.there in let q = s.sent in cc (p, q)
sent_to (R.Incoming now from bytes up answer ∷ t) con x (inl s) = let z = s.there in absurd (cc z)
sent_to (R.Answers a r below ∷ t) con x (inl s) = let z = s.there in absurd (cc z)
sent_to (R.Defers now a delay answer ∷ t) con x (inl s) = let z = s.there in absurd (cc z)
sent_to (R.Ticks now below room answer ∷ t) con x (inl s) = let z = s.there in absurd (cc z)
sent_to (R.Ready now to answer ∷ t) con x (inl s) = let z = s.there in absurd (cc z)
sent_to (R.NotifiesPlain now to token r id ∷ t) con x (inl s) = let z = s.there in absurd (cc z)
sent_to (R.Take answer ∷ t) con x (inl s) = let z = s.there in absurd (cc z)
sent_to (R.Forgets peer ∷ t) con x (inl s) = let z = s.there in absurd (cc z)

-- what the exchanges of a server promise of what they say
pub record Says : Type 0 where
  pub told : (setup : Setup) (t : List R.Call) → answerer.ResponseLaw setup t → EndsTold t
  pub back : (setup : Setup) (t : List R.Call) → answerer.ResponseLaw setup t → AllGoBack setup t
  pub alone : (setup : Setup) (t : List R.Call) → answerer.ResponseLaw setup t → BeginAlone setup t
  pub kept : (limits : Limits) (szx : ℕ) (t : List S.Call)
      → (own_of limits szx t).exchanges ≡ answerer.own_of (lower_of limits szx t)

module _ (says : Says) (limits : Limits) (szx : ℕ) (setup : Setup) (t : List S.Call)
    (old : ServerLaw limits szx setup t)
    (recognised : Always (IsRecognised limits szx) t) (now : ℕ) (from : Endpoint) (bytes : List ℕ) (w : ℕ)
    (up : L.Answer) (came : Option (Asked × Message))
    (h : S.Handling) (below : L.Answer) where
  abbrev c : S.Call
  c = S.Feeds now from bytes w up came h below

  pub record ResetTold (x : Ended) : Type 0 where
    pub id : ℕ
    pub up_is : up ≡ L.Becomes (L.Reset id)
    pub to_is : x.to ≡ from
    pub carries : (con : Open) → IsOpen (layer_of limits szx setup t) con → con.to ≡ from
        → Carries setup x (record { to = from; id = id }) con

  pub reset_told : ServerLaw limits szx setup (c ∷ t) → (x : Ended) → ends_in (own_of limits szx t) c ≡ Some x
      → ResetTold x
  reset_told law x is =
      let k = reset_is from up _ x is in
      let s : S.Own = own_of limits szx t in
      let z : S.Own = heard s now (incoming s now from bytes up came) in
      let input : R.Call = incoming s now from bytes up came in
      let rows = at_last (λ p d. TellsIf p d (fails d)) (answering z came h below) input (lower_of limits szx t)
      (says.told setup (lower_of limits szx (c ∷ t)) law.exchanges) in
      told k.0 k.1 rows.0
    where
      told : (id : ℕ) → up ≡ L.Becomes (L.Reset id)
          → TellsIf (lower_of limits szx t) (incoming (own_of limits szx t) now from bytes up came)
          (fails (incoming (own_of limits szx t) now from bytes up came)) → ResetTold x
      told id up_is rows =
          let row : Tells (lower_of limits szx t) (incoming (own_of limits szx t) now from bytes up came)
          (record { to = from; id = id }) =
          subst (λ u. TellsIf (lower_of limits szx t) (incoming (own_of limits szx t) now from bytes up came)
          (reset_from from u)) up_is rows in
          let said : reset_by from up (answerer.own_of (lower_of limits szx t)).separate ≡ Some row.ended = row.said in
          let both : Some row.ended ≡ Some x =
          sym said ∙ (sym (ap (λ (o : R.Own). reset_by from up o.separate) (says.kept limits szx t)) ∙ is) in
          let same : row.ended ≡ x = cc both in
          let last = subst (λ e. Since (SentIn (record { to = from; id = id }) e) (λ b. begins b ≢ Some from)
          (lower_of limits szx t)) same row.last in
          record {
            id = id;
            up_is = up_is;
            to_is = sent_to (lower_of limits szx t) (record { to = from; id = id }) x last;
            carries = λ con o to. carried setup x (record { to = from; id = id }) (lower_of limits szx t)
                (server_facts.layer limits szx setup t old)
                (says.back setup (lower_of limits szx t) old.exchanges)
                (says.alone setup (lower_of limits szx t) old.exchanges) old.exchanges.rows
                (all_known limits szx t recognised) last con o to;
          }
