-- What a server's message layer is given in a call, by type, and what it hears.
use Rattle.std.proofs.Common.{◌≡◌, ◌⊎◌, inl, inr, ℕ, max, ◌==◌, ◌<◌, true, false, Some, is_some, List, [], ◌∷◌}
use Rattle.std.proofs.Common.{◌++◌, refl, ap, sym, subst}
use Rattle.std.proofs.Common.{◌∙◌, arith}
use Rattle.std.proofs.lemmas.Bool.{and_parts}
use Rattle.std.specs.Cmp.{unsigned_Decides}
use Rattle.coap_types.specs.OptionValues.{value_of}
use Rattle.coap_types.specs.Past.{Ever}
use Rattle.coap_types.proofs.Facts.Traces.{Ever_front, Ever_back, Ever_map}
use Rattle.coap_types.specs.Recognised.{recognised}
use Rattle.coap_types.specs.declared.direction.Direction.TheVariants.{Response}
use Rattle.coap_types.specs.declared.endpoint.Endpoint.{Endpoint}
use Rattle.coap_types.specs.declared.message.Kind.{Kind}
use Rattle.coap_types.specs.declared.message.Kind.TheVariants.{Con, Non, Ack, Rst}
use Rattle.coap_types.specs.declared.message.TheConstants.{MESSAGE_IDS as message_ids}
use Rattle.coap_types.specs.declared.option_number.TheConstants.{ETAG as etag, OBSERVE as observe}
use Rattle.coap_codec.specs.Message.{Message, Spells}
use Rattle.coap_codec.specs.Spelling.{message_bytes}
use Rattle.coap_codec.proofs.Facts.EveryDatagram.{one_message}
use Rattle.coap_layer.specs.Machine.Steps as G
use Rattle.coap_layer.specs.Rows.{IsSpelled}
use Rattle.coap_layer.specs.Sends.{PlainOut}
use Rattle.coap_layer.specs.Trace as L
use Rattle.coap_layer.specs.Trace.{Content, with_head}
use Rattle.coap_layer.specs.Words.{Open, begun}
use Rattle.coap_layer.proofs.Facts.Laws.{begins_of, spelled_begun}
use Rattle.coap_layer.specs.declared.setup.Setup.{Setup}
use Rattle.coap_resource.specs.Limits.{Limits}
use Rattle.coap_exchange.specs.declared.answerer.Asked.{Asked}
use Rattle.coap_exchange.specs.EmptyMessages.{ack_bytes, reset_bytes}
use Rattle.coap_exchange.specs.AnswererTrace as E
use Rattle.coap_exchange.specs.AnswererSteps as P
use Rattle.coap_exchange.specs.AnswererLaw as W
use Rattle.coap_exchange.specs.AskerRequests.{asked}
use Rattle.coap_exchange.specs.AskerArrivals.{id_in, replying}
use Rattle.coap_exchange.specs.Adds.{asked_by_server}
use Rattle.coap_exchange.specs.Notifications.{is_notification}
use Rattle.coap_exchange.specs.SuccessCodes.{content}
use Rattle.coap_server.specs.Trace.{Own, Call}
use Rattle.coap_server.specs.Handling.{incoming, heard}
use Rattle.coap_server.specs.Asks.{lower, answering}
use Rattle.coap_server.specs.Law.{ServerLaw, own_of, lower_of, layer_of}
use Rattle.coap_server.specs.Follows.Tells.{HearsAck, InCon, InNon, InReply, Way}
use Rattle.coap_server_laws.proofs.Facts.Laws as facts
use Rattle.coap_exchange.proofs.Facts.AskerReplies.{empty_of, ack_spells, reset_spells}
use Rattle.coap_exchange.proofs.Facts.ComesUp.{entry_of}
use Rattle.coap_server.proofs.Facts.Serving.Brought.{server_back}
use Rattle.coap_server_laws.specs.Follows.Adds.{call_asks, call_adds}
use Rattle.coap_server_laws.specs.Follows.Told.{TakesAck, TellsIn, ServesNon, TellsSent, AllTellSent}
use Rattle.coap_server_laws.specs.Follows.Told.{AcksArrive}
use Rattle.coap_server_laws.proofs.Telling.LayerCalls.{Origin, empties, answers, responds, notifies, plains}
use Rattle.coap_server_laws.proofs.Telling.LayerCalls.{IsOfSending}
use Rattle.coap_server_laws.proofs.Telling.LayerCalls.{Given, given_here, layer_next}
use Rattle.coap_server_laws.proofs.Telling.LayerCalls.{steps_here}
use Rattle.coap_server_laws.proofs.Observing.ToldAt.{told_at}
use Rattle.coap_server_laws.proofs.Telling.OneConACall.{one_con}
use Rattle.coap_server_laws.proofs.Telling.SentNow.{Notes, Says, Serving_of, Means, meant, mean}

-- a message that is carried

noted : (m : Message) (r : E.Response) → m.code ≡ r.code → m.options ≡ r.options → is_notification m ≡ true → Notes r
noted m r code options h =
    let k = and_parts (m.code == content) (is_some (value_of observe (recognised Response m.options))) h in
    record {
      code = sym code ∙ (unsigned_Decides m.code content).0 k.0;
      observe_there = ap (λ os. is_some (value_of observe (recognised Response os))) (sym options) ∙ k.1;
    }

-- an Empty message is no notification
not_empty : (X : Type 0) (bytes : List ℕ) (m e : Message) → Spells bytes m → Spells bytes e
    → e.code ≡ 0 → is_notification m ≡ true → X
not_empty X bytes m e s k none h =
    let same : m ≡ e = one_message bytes m e s k in
    let code : m.code ≡ 0 = ap (λ (x : Message). x.code) same ∙ none in
    let here = (and_parts (m.code == content) (is_some (value_of observe (recognised Response m.options))) h).0 in
    let no : (m.code == content) ≡ false = ap (λ n. n == content) code in
    absurd (cc (here, no))

module _ (kind : Kind) (id : ℕ) (token : List ℕ) (r : E.Response) (bytes : List ℕ) (m : Message)
    (spells : Spells bytes m) (there : Spells bytes (with_head kind id (P.content_with token r))) where
  same : m ≡ with_head kind id (P.content_with token r)
  same = one_message bytes m (with_head kind id (P.content_with token r)) spells there

  notes : is_notification m ≡ true → Notes r
  notes h = noted m r (ap (λ (x : Message). x.code) same) (ap (λ (x : Message). x.options) same) h

  module _ (limits : Limits) (szx : ℕ) (past : List Call) (c : Call) where
    tells_so : (way : Way) (to : Endpoint) → Says limits szx past c way to token r → TellsIn limits szx way to m past c
    tells_so way to s =
        record {
          told = s.told_here;
          here = s.here;
          way_is = s.way_is;
          conveys = record {
            to_is = s.to_is;
            token_is = s.token_is ∙ sym (ap (λ (x : Message). x.token) same);
            tag_is = ap (λ (x : Message). value_of etag (recognised Response x.options)) same ∙ s.tag_is;
            small = s.small;
          };
        }

module _ (limits : Limits) (szx : ℕ) (setup : Setup) (past : List Call) (c : Call)
    (law : ServerLaw limits szx setup (c ∷ past)) where
  abbrev adds : List L.Entry
  adds = call_adds limits szx setup past c

  means : (K : L.Call → L.Answer → Type 0) → (g : Given K (lower (own_of limits szx past) c)) → (e : E.Call)
      → g.call ≡ e
      → Means limits szx past c e × P.IsRight (W.own_of g.before) e
  means K g e is = (
    subst (Means limits szx past c) is (meant limits szx past c g.call (lower (own_of limits szx past) c)
        (mean limits szx setup past c law) g.there),
    subst (P.IsRight (W.own_of g.before)) is g.right,
  )

  -- a CON

  abbrev Confirms : Open → L.Call → L.Answer → Type 0
  Confirms con call answer =
      (x : Content) × (w : ℕ) × (call ≡ L.Confirm con.to x w) × (answer ≡ L.Sent con.id)
      × (con.bytes ≡ message_bytes (with_head Con con.id x))

  confirming : (con : Open) → IsOfSending (Confirms con)
  confirming con = record {
    receive = λ from bytes a h. (let k = h.2 in absurd (cc k));
    room = λ to a h. (let k = h.2 in absurd (cc k));
    ticks = λ a h. (let k = h.2 in absurd (cc k));
    take = λ a h. (let k = h.2 in absurd (cc k));
    pass = λ a h. (let k = h.2 in absurd (cc k));
  }

  begins_so : (con : Open) (e : L.Entry) → begun e ≡ Some con → Confirms con e.call e.answer
  begins_so con e h = let b = begins_of e con h in (b.content, b.word, b.call_is, b.answer_is, b.bytes_are)

  no_confirm : (con : Open) (s : E.Own) (kind : Kind) (a : Asked) (r : E.Response) (below : L.Answer)
      → Confirms con (P.answering s kind a r) below → ⊥
  no_confirm con s Con a r below h = let k = h.2 in cc k
  no_confirm con s Non a r below h = let k = h.2 in cc k
  no_confirm con s Ack a r below h = let k = h.2 in cc k
  no_confirm con s Rst a r below h = let k = h.2 in cc k

  con_small : (con : Open) → Ever (λ b. begun b ≡ Some con) adds → con.id < message_ids
  con_small con h =
      let there = subst (Ever (λ b. begun b ≡ Some con)) (sym (layer_next limits szx setup past c))
      (Ever_front (λ b. begun b ≡ Some con) adds (layer_of limits szx setup past) h) in
      let s = spelled_begun setup (layer_of limits szx setup (c ∷ past)) con
      (facts.layer limits szx setup (c ∷ past) law) there in
      let low = s.1.id in let e = s.3 in omega (arith, low, e)

  module _ (con : Open) (m : Message) (h : Ever (λ b. begun b ≡ Some con) adds)
      (spells : Spells con.bytes m) (note : is_notification m ≡ true) where
    con_says : (id : ℕ) (to : Endpoint) (token : List ℕ) (r : E.Response) (w : ℕ)
        → Confirms con (L.Confirm to (P.content_with token r) w) (L.Sent id) → IsSpelled (P.content_with token r)
        → (Notes r → Says limits szx past c (InCon id) to token r) → TellsIn limits szx (InCon con.id) con.to m past c
    con_says id to token r w k spelled f =
        let call = k.2 in
        let sent = k.3 in
        let x : P.content_with token r ≡ k.0 = cc call in
        let place : to ≡ con.to = cc call in
        let number : id ≡ con.id = cc sent in
        let there = subst (λ b. Spells b (with_head Con con.id (P.content_with token r)))
        (ap (λ z. message_bytes (with_head Con con.id z)) x ∙ sym k.4) (spelled Con con.id (con_small con h)) in
        let said = f (notes Con con.id token r con.bytes m spells there note) in
        tells_so Con con.id token r con.bytes m spells there limits szx past c (InCon con.id) con.to
        (subst (λ z. Says limits szx past c (InCon con.id) z token r) place
        (subst (λ z. Says limits szx past c (InCon z) to token r) number said))

    begun_so : (g : Given (Confirms con) (lower (own_of limits szx past) c))
        → Origin (Confirms con) (W.own_of g.before) g.call → TellsIn limits szx (InCon con.id) con.to m past c
    begun_so g (empties to id (inl k)) = let z = k.2 in absurd (cc z)
    begun_so g (empties to id (inr k)) = let z = k.2 in absurd (cc z)
    begun_so g (answers a r below is k) = absurd (no_confirm con (W.own_of g.before) a.kind a r below k)
    begun_so g (responds now a r w id is k) = let z =
        means (Confirms con) g (E.Responds now a r w id) is in con_says id a.from a.token r w k z.1.1.spelled z.0
    begun_so g (notifies now to token r w id is k) = let z =
        means (Confirms con) g (E.Notifies now to token r w id) is in con_says id to token r w k z.1.spelled z.0
    begun_so g (plains now to token r id is k) = let z = k.2 in absurd (cc z)

    begun_tells : TellsIn limits szx (InCon con.id) con.to m past c
    begun_tells =
        let g = given_here limits szx setup (Confirms con) (confirming con) past c law
        (Ever_map (λ b. begun b ≡ Some con) (λ (e : L.Entry). Confirms con e.call e.answer) (begins_so con) adds h)
        in
        begun_so g g.from

  -- an acknowledgement

  module _ (to : Endpoint) (bytes : List ℕ) (m : Message) (spells : Spells bytes m)
      (note : is_notification m ≡ true) where
    abbrev Replies : L.Call → L.Answer → Type 0
    Replies call answer = call ≡ L.Reply to m.id bytes

    replying_so : IsOfSending Replies
    replying_so = record {
      receive = λ from b a h. absurd (cc h);
      room = λ there a h. absurd (cc h);
      ticks = λ a h. absurd (cc h);
      take = λ a h. absurd (cc h);
      pass = λ a h. absurd (cc h);
    }

    small_id : m.id < message_ids
    small_id = let low = spells.id in omega (arith, low)

    ack_says : (s : E.Own) (kind : Kind) (a : Asked) (r : E.Response) (below : L.Answer)
        → Replies (P.answering s kind a r) below → P.IsResponse a r
        → (Notes r → Says limits szx past c InReply a.from a.token r)
        → TellsIn limits szx InReply to m past c
    ack_says s Con a r below k is f =
        let place : a.from ≡ to = cc k in
        let number : a.id.0 ≡ m.id = cc k in
        let given : message_bytes (with_head Ack a.id.0 (P.content_of a r)) ≡ bytes = cc k in
        let low = small_id in
        let there = subst (λ b. Spells b (with_head Ack a.id.0 (P.content_of a r))) given
        (is.spelled Ack a.id.0 (omega (arith, number, low))) in
        tells_so Ack a.id.0 a.token r bytes m spells there limits szx past c InReply to
        (subst (λ z. Says limits szx past c InReply z a.token r) place
        (f (notes Ack a.id.0 a.token r bytes m spells there note)))
    ack_says s _ a r below k is f = absurd (cc k)

    replied_so : (g : Given Replies (lower (own_of limits szx past) c)) → Origin Replies (W.own_of g.before) g.call
        → TellsIn limits szx InReply to m past c
    replied_so g (empties there id (inl k)) =
        let number : id ≡ m.id = cc k in
        let given : ack_bytes id ≡ bytes = cc k in
        let low = small_id in
        not_empty _ bytes m (empty_of Ack id) spells
        (subst (λ b. Spells b (empty_of Ack id)) given (ack_spells id (omega (arith, number, low)))) refl note
    replied_so g (empties there id (inr k)) =
        let number : id ≡ m.id = cc k in
        let given : reset_bytes id ≡ bytes = cc k in
        let low = small_id in
        not_empty _ bytes m (empty_of Rst id) spells
        (subst (λ b. Spells b (empty_of Rst id)) given (reset_spells id (omega (arith, number, low)))) refl note
    replied_so g (answers a r below is k) = let z =
        means Replies g (E.Answers a r below) is in ack_says (W.own_of g.before) a.kind a r below k z.1.1
        (λ n. (z.0 n).0)
    replied_so g (responds now a r w id is k) = absurd (cc k)
    replied_so g (notifies now there token r w id is k) = absurd (cc k)
    replied_so g (plains now there token r id is k) = absurd (cc k)

    replied_tells : Ever (λ (b : L.Entry). b.call ≡ L.Reply to m.id bytes) adds → TellsIn limits szx InReply to m past c
    replied_tells h = let g = given_here limits szx setup Replies replying_so past c law h in replied_so g g.from

    -- a NON

    abbrev Plainly : L.Call → L.Answer → Type 0
    Plainly call answer = (x : Content) × (id : ℕ) × (call ≡ L.Plain to x) × Spells bytes (with_head Non id x)

    plainly_so : IsOfSending Plainly
    plainly_so = record {
      receive = λ from b a h. (let k = h.2 in absurd (cc k));
      room = λ there a h. (let k = h.2 in absurd (cc k));
      ticks = λ a h. (let k = h.2 in absurd (cc k));
      take = λ a h. (let k = h.2 in absurd (cc k));
      pass = λ a h. (let k = h.2 in absurd (cc k));
    }

    abbrev TellsPlainly : Type 0
    TellsPlainly = (TellsIn limits szx InReply to m past c × ServesNon limits szx to past c)
        ⊎ TellsIn limits szx InNon to m past c

    serves_non : (a : Asked) → Serving_of limits szx past c a → a.from ≡ to → (a.kind ≡ Con → ⊥)
        → ServesNon limits szx to past c
    serves_non a y place none = record {
      request = y.0;
      here = y.1;
      from = ap (λ (z : Asked). z.from) y.2 ∙ place;
      kind = λ e. none (sym (ap (λ (z : Asked). z.kind) y.2) ∙ e);
    }

    non_by : (a : Asked) (r : E.Response) → Plainly (L.Plain a.from (P.content_of a r)) L.Nothing → (a.kind ≡ Con → ⊥)
        → (Notes r → Says limits szx past c InReply a.from a.token r × Serving_of limits szx past c a) → TellsPlainly
    non_by a r k none f =
        let call = k.2 in
        let place : a.from ≡ to = cc call in
        let same_x : P.content_of a r ≡ k.0 = cc call in
        let there = subst (λ z. Spells bytes (with_head Non k.1 z)) (sym same_x) k.3 in
        let said = f (notes Non k.1 a.token r bytes m spells there note) in
        inl (
          tells_so Non k.1 a.token r bytes m spells there limits szx past c InReply to
              (subst (λ z. Says limits szx past c InReply z a.token r) place said.0),
          serves_non a said.1 place none,
        )

    -- a notification
    notice_by : (at : Endpoint) (token : List ℕ) (r : E.Response) (id : ℕ)
        → Plainly (L.Plain at (P.content_with token r)) (L.Sent id)
        → (Notes r → Says limits szx past c InNon at token r)
        → TellsPlainly
    notice_by at token r id k f =
        let call = k.2 in
        let place : at ≡ to = cc call in
        let same_x : P.content_with token r ≡ k.0 = cc call in
        let there = subst (λ z. Spells bytes (with_head Non k.1 z)) (sym same_x) k.3 in
        inr (tells_so Non k.1 token r bytes m spells there limits szx past c InNon to
        (subst (λ z. Says limits szx past c InNon z token r) place
        (f (notes Non k.1 token r bytes m spells there note))))

    non_says : (s : E.Own) (kind : Kind) (a : Asked) (r : E.Response) (below : L.Answer) → a.kind ≡ kind
        → Plainly (P.answering s kind a r) below → (Notes r
        → Says limits szx past c InReply a.from a.token r × Serving_of limits szx past c a)
        → TellsPlainly
    non_says s Con a r below is k f = let z = k.2 in absurd (cc z)
    non_says s Non a r below is k f = non_by a r k (λ e. (let z : Non ≡ Con = sym is ∙ e in absurd (cc z))) f
    non_says s Ack a r below is k f = non_by a r k (λ e. (let z : Ack ≡ Con = sym is ∙ e in absurd (cc z))) f
    non_says s Rst a r below is k f = non_by a r k (λ e. (let z : Rst ≡ Con = sym is ∙ e in absurd (cc z))) f

    plain_so : (g : Given Plainly (lower (own_of limits szx past) c)) → Origin Plainly (W.own_of g.before) g.call
        → TellsPlainly
    plain_so g (empties there id (inl k)) = let z = k.2 in absurd (cc z)
    plain_so g (empties there id (inr k)) = let z = k.2 in absurd (cc z)
    plain_so g (answers a r below is k) = non_says (W.own_of g.before) a.kind a r below refl k
        (means Plainly g (E.Answers a r below) is).0
    plain_so g (responds now a r w id is k) = let z = k.2 in absurd (cc z)
    plain_so g (notifies now there token r w id is k) = let z = k.2 in absurd (cc z)
    plain_so g (plains now there token r id is k) =
        notice_by there token r id k (means Plainly g (E.NotifiesPlain now there token r id) is).0

    plain_tells : Ever (λ (b : L.Entry). PlainOut b (record { to = to; bytes = bytes })) adds → TellsPlainly
    plain_tells h =
        let g = given_here limits szx setup Plainly plainly_so past c law
        (Ever_map (λ (b : L.Entry). PlainOut b (record { to = to; bytes = bytes }))
        (λ (e : L.Entry). Plainly e.call e.answer) (λ e k. (k.content, k.id, k.call, k.spells)) adds h) in
        plain_so g g.from

  tells_sent : TellsSent limits szx setup past c
  tells_sent = record {
    begun_now = λ con m h spells note. begun_tells con m h spells note;
    replied = λ to bytes m h spells note. replied_tells to bytes m spells note h;
    plain = λ to bytes m h spells note. plain_tells to bytes m spells note h;
    now = λ x h. told_at limits szx past c x h;
    one = λ a b p q. one_con limits szx setup past c a b p q;
  }

-- what arrives

abbrev Takes : Endpoint → ℕ → L.Call → L.Answer → Type 0
Takes to id call answer = (bytes : List ℕ) × (call ≡ L.Receive to bytes) × (answer ≡ L.Becomes (L.Acked id))

last_there : {X : Type 0} (P : X → Type 0) (xs : List X) (x : X) → P x → Ever P (xs ++ x ∷ [])
last_there P [] x h = inl h
last_there P (y ∷ xs) x h = inr (last_there P xs x h)

module _ (to : Endpoint) (id : ℕ) where
  abbrev Comes : E.Call → Type 0
  Comes e = (at : ℕ) × (bytes : List ℕ) × (came : _) × (e ≡ E.Incoming at to bytes (L.Becomes (L.Acked id)) came)

  abbrev Taken : List G.Asked → Type 0
  Taken calls = Ever (λ (b : G.Asked). Takes to id b.call b.answer) calls

  taken_by : (s : E.Own) (e : E.Call) → Comes e → Taken (P.lower s e)
  taken_by s e k =
      let up : L.Answer = L.Becomes (L.Acked id) in
      subst (λ z. Taken (P.lower s z)) (sym k.3)
      (last_there (λ (b : G.Asked). Takes to id b.call b.answer) (replying to (id_in up) (P.reject_by up))
      (asked k.0 (L.Receive to k.1) up) (k.1, refl, refl))

  taken_in : (past later : List E.Call) → Ever Comes later → Taken (asked_by_server past later)
  taken_in past [] h = h
  taken_in past (e ∷ later) (inl h) = Ever_front (λ (b : G.Asked). Takes to id b.call b.answer)
      (P.lower (W.own_of (later ++ past)) e) (asked_by_server past later) (taken_by (W.own_of (later ++ past)) e h)
  taken_in past (e ∷ later) (inr h) = Ever_back (λ (b : G.Asked). Takes to id b.call b.answer)
      (P.lower (W.own_of (later ++ past)) e) (asked_by_server past later) (taken_in past later h)

  comes_in : (s : Own) (c : Call) → HearsAck to id c → Ever Comes (lower s c)
  comes_in s c h =
      let up : L.Answer = L.Becomes (L.Acked id) in
      let first : E.Call = incoming s h.now to h.bytes up h.came in
      subst (λ z. Ever Comes (lower s z)) (sym h.is)
      (last_there Comes (answering (heard s h.now first) h.came h.handling h.below) first
      (max s.clock h.now, h.bytes, h.came, refl))

  ack_arrives : (limits : Limits) (szx : ℕ) (setup : Setup) (past : List Call) (c : Call)
      → ServerLaw limits szx setup (c ∷ past)
      → HearsAck to id c → Ever (TakesAck to id) (call_adds limits szx setup past c)
  ack_arrives limits szx setup past c law h =
      let k = steps_here limits szx setup past c law in
      let asks = call_asks limits szx past c in
      Ever_map (λ (e : L.Entry). Takes to id e.call e.answer) (TakesAck to id)
      (λ e z. record { bytes = z.0; call = z.1; answer = z.2 }) (call_adds limits szx setup past c)
      (subst (Ever (λ (e : L.Entry). Takes to id e.call e.answer)) (sym k.3)
      (entry_of (Takes to id) k.0 k.1 asks k.2 (taken_in (lower_of limits szx past) (lower (own_of limits szx past) c)
      (comes_in (own_of limits szx past) c h))))

pub all_tell_sent : (limits : Limits) (szx : ℕ) (setup : Setup) (t : List Call) → ServerLaw limits szx setup t
    → AllTellSent limits szx setup t
all_tell_sent limits szx setup [] law = tt
all_tell_sent limits szx setup (c ∷ t) law = (
  tells_sent limits szx setup t c law,
  all_tell_sent limits szx setup t (server_back limits szx setup c t law),
)

pub acks_arrive : (limits : Limits) (szx : ℕ) (setup : Setup) (t : List Call) → ServerLaw limits szx setup t
    → AcksArrive limits szx setup t
acks_arrive limits szx setup [] law = tt
acks_arrive limits szx setup (c ∷ t) law = (
  λ to id h. ack_arrives to id limits szx setup t c law h,
  acks_arrive limits szx setup t (server_back limits szx setup c t law),
)
