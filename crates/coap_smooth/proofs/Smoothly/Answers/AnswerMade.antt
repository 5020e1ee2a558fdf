-- An answer is made where the server responds to a request of the client, if nothing is observed.
use Rattle.std.proofs.Common.{◌≡◌, ◌⊎◌, inl, inr, ℕ, max, true, Option, Some, None, List, [], ◌∷◌, refl, ap, sym, subst}
use Rattle.std.proofs.Common.{◌∙◌, append_assoc}
use Rattle.coap_types.specs.Past.{Ever, Always}
use Rattle.coap_types.proofs.Facts.Traces.{Always_back}
use Rattle.coap_types.specs.declared.endpoint.Endpoint.{Endpoint}
use Rattle.coap_types.specs.declared.message.Kind.TheVariants.{Con}
use Rattle.coap_codec.specs.Message.{Message}
use Rattle.coap_layer.specs.Trace as L
use Rattle.coap_block.specs.AssemblyState.{AssemblyState}
use Rattle.coap_block.specs.declared.block_verdict.BlockVerdict.{BlockVerdict}
use Rattle.coap_block.specs.declared.block_verdict.BlockVerdict.TheVariants as ruling
use Rattle.coap_resource.specs.Limits.{Limits}
use Rattle.coap_resource.specs.Serves.{Question}
use Rattle.coap_exchange.specs.declared.answerer.Asked.{Asked}
use Rattle.coap_exchange.specs.declared.answerer.Due.TheVariants as due
use Rattle.coap_exchange.specs.AnswererFollows.{responds, CameIn, AreRequests}
use Rattle.coap_exchange.specs.AnswererTrace as R
use Rattle.coap_exchange.proofs.Facts.ServerSide.{came_in}
use Rattle.coap_client_laws.specs.Follows.OfObservations.{AreOfObservations}
use Rattle.coap_server.specs.Asks.{lower, answering}
use Rattle.coap_server.specs.Checks.{Verdict, Ignored, Refused, Asks, Uploads, verdict_on}
use Rattle.coap_server.specs.Follows.Attended as attended
use Rattle.coap_server.specs.Follows.Attended.{AnswersIt, WaitsToAsk, IsIgnored}
use Rattle.coap_server.specs.Follows.Brings.{AsksBy}
use Rattle.coap_server_laws.specs.Follows.Gives.{refusal_by, refusal_of, refusal_in}
use Rattle.coap_server.specs.Follows.Serves.{Serving, serving, hands}
use Rattle.coap_server.specs.Follows.Takes.{Took, took, took_by, taken_by, takes_block}
use Rattle.coap_server.specs.Handling.{heard, incoming}
use Rattle.coap_server.specs.Law.{ServerLaw, own_of, lower_of}
use Rattle.coap_server.specs.Trace as S
use Rattle.coap_server.specs.Uploads.{ruling_of}
use Rattle.coap_server.proofs.Facts.EachCall.{comes_here, comes_refused, szx_is}
use Rattle.coap_server_laws.proofs.Facts.Laws as server_facts
use Rattle.coap_promise.specs.Answers.{IsAnswer, replies, continues, refuses, notifies}
use Rattle.coap_promise.specs.CameFrom.{CameFrom}
use Rattle.coap_record.specs.Events.{Config}
use Rattle.coap_promise.specs.Hops.{hops_at, hops_in}
use Rattle.coap_record.specs.Record.{Entry, OfServer, client_of, server_trace}
use Rattle.coap_smooth.specs.Smooth.{TakesNoObservation}
use Rattle.coap_promise.proofs.Facts.Requests.OfACall.{Lawful, lawful_back}
use Rattle.coap_promise.proofs.Facts.Requests.Traced.{near_later, traced, brought_in}
use Rattle.coap_smooth.proofs.Smoothly.Requests.NoObservers.{none_made}
use Rattle.coap_smooth.proofs.Smoothly.Answers.OneAnswer.{Origin}
use Rattle.coap_layer.specs.Words.{begun}

-- what is served is responded to, at once or now
pub serves_answer : (s : S.Own) (c : S.Call) (x : Serving) → serving s c ≡ Some x
    → Ever (λ b. responds b ≡ Some x.asked) (lower s c)
serves_answer s (S.Feeds now from bytes word up (Some p) (S.Serves q reply left) below) x is =
    inl (ap (λ (o : Option Serving). elim o as (λ w. Option Asked) [ Some y ↦ Some y.asked | None ↦ None ]) is)
serves_answer s (S.Feeds now from bytes word up came S.Silent below) x is = absurd (none came is)
  where
    none : (o : Option (Asked × Message)) → serving s (S.Feeds now from bytes word up o S.Silent below) ≡ Some x → ⊥
    none None h = cc h
    none (Some p) h = cc h
serves_answer s (S.Feeds now from bytes word up came (S.Replies r) below) x is = absurd (none came is)
  where
    none : (o : Option (Asked × Message)) → serving s (S.Feeds now from bytes word up o (S.Replies r) below) ≡ Some x
        → ⊥
    none None h = cc h
    none (Some p) h = cc h
serves_answer s (S.Feeds now from bytes word up came (S.Waits q delay) below) x is = absurd (none came is)
  where
    none : (o : Option (Asked × Message)) → serving s (S.Feeds now from bytes word up o (S.Waits q delay) below)
        ≡ Some x
        → ⊥
    none None h = cc h
    none (Some p) h = cc h
serves_answer s (S.Feeds now from bytes word up came (S.Notifies o reply) below) x is = absurd (none came is)
  where
    none : (z : Option (Asked × Message))
        → serving s (S.Feeds now from bytes word up z (S.Notifies o reply) below) ≡ Some x → ⊥
    none None h = cc h
    none (Some p) h = cc h
serves_answer s (S.Ticks now word below room (due.Ready a) passed (S.Serves q reply left) id answer) x is =
    inl (ap (λ (o : Option Serving). elim o as (λ w. Option Asked) [ Some y ↦ Some y.asked | None ↦ None ]) is)
serves_answer s _ x is = absurd (cc is)

module _ (limits : Limits) (szx : ℕ) (past : List S.Call) (c : S.Call) where
  abbrev own : S.Own
  own = own_of limits szx past

  -- what is refused does not ask
  refused_asks_not : (uploads : AssemblyState) (at code : ℕ) (a : Asked) (q : Question) (v : Verdict)
      → refusal_of uploads at a v ≡ Some code → takes_block own c ≡ taken_by uploads at a v
      → AsksBy limits szx past c a q v → ⊥
  refused_asks_not uploads at code a q Ignored is takes asks = asks
  refused_asks_not uploads at code a q (Refused n) is takes asks = asks
  refused_asks_not uploads at code a q (Asks p) is takes asks = cc is
  refused_asks_not uploads at code a q (Uploads p b) is takes asks =
      by (ruling_of uploads at a p b) is (sym asks.takes ∙ takes)
    where
      by : (r : BlockVerdict) → refusal_by r ≡ Some code → Some (took a p b) ≡ took_by r (took a p b) → ⊥
      by (ruling.Refuse why) h t = cc t
      by (ruling.Join size) h t = cc h
      by ruling.Done h t = cc h

  -- .. nor does a block that others follow
  more_asks_not : (a : Asked) (x : Took) (q : Question) (v : Verdict) → takes_block own c ≡ Some x → x.part.more ≡ true
      → ((p : Question) → v ≡ Asks p → takes_block own c ≡ None) → AsksBy limits szx past c a q v → ⊥
  more_asks_not a x q (Asks p) is more none asks = let z = sym (none p refl) ∙ is in cc z
  more_asks_not a x q (Uploads p b) is more none asks =
      let both : Some x ≡ Some (took a p b) = sym is ∙ asks.takes in
      let same : x ≡ took a p b = cc both in
      let z = sym more ∙ (ap (λ (y : Took). y.part.more) same ∙ asks.last) in
      cc z
  more_asks_not a x q _ is more none asks = asks

module _ (config : Config) where
  abbrev trace : List Entry → List S.Call
  trace es = server_trace config es

  -- the request of the client that is responded to here
  pub record MadeFor (token : List ℕ) (past : List Entry) (c : S.Call) : Type 0 where
    pub asked : Asked
    pub from : asked.from ≡ config.addresses.client
    pub same : asked.token ≡ token
    pub answers : AnswersIt config.limits config.server_szx (trace past) c asked
    pub origin : Origin config asked (OfServer c ∷ past)

  origin_of : (past : List Entry) (c : S.Call) (a : Asked) (v : Verdict) → CameFrom config past (OfServer c) a v
      → Origin config a (OfServer c ∷ past)
  origin_of past c a v k = record {
    sending = k.sending;
    con = k.con;
    sent = k.sent;
    begun_there = near_later (λ b. begun b ≡ Some k.con) (hops_at config past (OfServer c)) (hops_in config past)
        k.begun_before;
    spells = k.spells;
    asked = k.asked;
  }

  -- a request that is handed up and doesn't ask is responded to at once
  module _ (past : List Entry) (c : S.Call) (law : Lawful config (OfServer c ∷ past)) (now : ℕ) (from : Endpoint)
      (bytes : List ℕ) (w : ℕ) (up : L.Answer) (p : Asked × Message) (h : S.Handling) (below : L.Answer)
      (is : c ≡ S.Feeds now from bytes w up (Some p) h below) (client : p.0.from ≡ config.addresses.client)
      (none : (q : Question) → AsksBy config.limits config.server_szx (trace past) c p.0 q
      (verdict_on config.server_szx p.1) → ⊥) where
    abbrev t : List S.Call
    t = trace past

    abbrev feed : S.Call
    feed = S.Feeds now from bytes w up (Some p) h below

    server_law : ServerLaw config.limits config.server_szx config.server_setup (feed ∷ t)
    server_law = subst (λ d. ServerLaw config.limits config.server_szx config.server_setup (d ∷ t)) is law.server

    came : CameFrom config past (OfServer c) p.0 (verdict_on config.server_szx p.1)
    came = law.came.0 p.0 (verdict_on config.server_szx p.1)
        (subst (λ d. Rattle.coap_server.specs.Follows.Brings.Comes config.limits config.server_szx config.server_setup t
        d p.0
        (verdict_on config.server_szx p.1)) (sym is)
        (comes_here config.limits config.server_szx config.server_setup t now from bytes w up p h below server_law))
        client

    kind : p.1.kind ≡ Con
    kind =
        let s : S.Own = own_of config.limits config.server_szx t in
        let first : R.Call = incoming s now from bytes up (Some p) in
        let newer : List R.Call = answering (heard s now first) (Some p) h below in
        let older : List R.Call = lower_of config.limits config.server_szx t in
        let all = came_in config.server_setup (lower_of config.limits config.server_szx (feed ∷ t))
        server_law.exchanges.rows server_law.exchanges.left server_law.exchanges.layer in
        let here = (Always_back (λ q d. CameIn d) newer (first ∷ older)
        (subst AreRequests (append_assoc newer (first ∷ []) older) all)).0 in
        let k = here.came (max s.clock now) from bytes up p.0 p.1 refl in
        sym (ap (λ (z : Asked). z.kind) k.0) ∙ ap (λ (z : Asked). z.kind) came.asked

    answered : AnswersIt config.limits config.server_szx t c p.0
    answered = by ((server_facts.attended config.limits config.server_szx config.server_setup (c ∷ t) law.server).0 p
        (ap attended.came_in is))
      where
        by : AnswersIt config.limits config.server_szx t c p.0
            ⊎ (WaitsToAsk config.limits config.server_szx t c p ⊎ IsIgnored p.1)
            → AnswersIt config.limits config.server_szx t c p.0
        by (inl now) = now
        by (inr (inl waits)) = absurd (none waits.question waits.asks)
        by (inr (inr ignored)) = absurd (ignored.kind kind)

    made : (token : List ℕ) → p.0.token ≡ token → MadeFor token past c
    made token same = record {
      asked = p.0;
      from = client;
      same = same;
      answers = answered;
      origin = origin_of past c p.0 (verdict_on config.server_szx p.1) came;
    }

  refused : (token : List ℕ) (past : List Entry) (c : S.Call) → Lawful config (OfServer c ∷ past)
      → (a : Asked) (code : ℕ)
      → hands c ≡ Some a → refusal_in (own_of config.limits config.server_szx (trace past)) c ≡ Some code
      → a.from ≡ config.addresses.client → a.token ≡ token → MadeFor token past c
  refused token past (S.Feeds now from bytes w up (Some p) h below) law a code hands_it refuses_it client same =
      let c : S.Call = S.Feeds now from bytes w up (Some p) h below in
      let s : S.Own = own_of config.limits config.server_szx (trace past) in
      let is : p.0 ≡ a = cc hands_it in
      let szx = szx_is config.limits config.server_szx (trace past) in
      made past c law now from bytes w up p h below refl (ap (λ (z : Asked). z.from) is ∙ client)
      (λ q asks. refused_asks_not config.limits config.server_szx (trace past) c s.uploads (max s.clock now) code p.0 q
      (verdict_on config.server_szx p.1)
      (ap (λ n. refusal_of s.uploads (max s.clock now) p.0 (verdict_on n p.1)) (sym szx) ∙ refuses_it)
      (ap (λ n. taken_by s.uploads (max s.clock now) p.0 (verdict_on n p.1)) szx) asks)
      token (ap (λ (z : Asked). z.token) is ∙ same)
  refused token past (S.Refuses now from bytes w said up p None below) law a code hands_it refuses_it client same =
      absurd (cc refuses_it)
  refused token past (S.Refuses now from bytes w said up p (Some n) below) law a code hands_it refuses_it client same =
      let is : p.0 ≡ a = cc hands_it in
      let whose : p.0.from ≡ config.addresses.client = ap (λ (z : Asked). z.from) is ∙ client in
      let v : Verdict = verdict_on config.server_szx p.1 in
      record {
        asked = p.0;
        from = whose;
        same = ap (λ (z : Asked). z.token) is ∙ same;
        answers = inl refl;
        origin = origin_of past (S.Refuses now from bytes w said up p (Some n) below) p.0 v (law.came.0 p.0 v
            (comes_refused config.limits config.server_szx config.server_setup (trace past) now from bytes w said up p
            (Some n) below law.server) whose);
      }
  refused token past _ law a code hands_it r client same = absurd (cc hands_it)

  none_taken : (uploads : AssemblyState) (at : ℕ) (a : Asked) (v : Verdict) (p : Question) → v ≡ Asks p
      → taken_by uploads at a v ≡ None
  none_taken uploads at a v p is = ap (taken_by uploads at a) is

  -- the asked of a block that is taken is what came
  took_of : (uploads : AssemblyState) (at : ℕ) (a : Asked) (v : Verdict) (x : Took) → taken_by uploads at a v ≡ Some x
      → x.asked ≡ a
  took_of uploads at a (Uploads p b) x h = by (ruling_of uploads at a p b) h
    where
      by : (r : BlockVerdict) → took_by r (took a p b) ≡ Some x → x.asked ≡ a
      by (ruling.Refuse why) t = absurd (cc t)
      by (ruling.Join size) t = let same : took a p b ≡ x = cc t in sym (ap (λ (z : Took). z.asked) same)
      by ruling.Done t = let same : took a p b ≡ x = cc t in sym (ap (λ (z : Took). z.asked) same)
  took_of uploads at a _ x h = absurd (cc h)

  continued : (token : List ℕ) (past : List Entry) (c : S.Call) → Lawful config (OfServer c ∷ past) → (x : Took)
      → takes_block (own_of config.limits config.server_szx (trace past)) c ≡ Some x → x.part.more ≡ true
      → x.asked.from ≡ config.addresses.client → x.asked.token ≡ token → MadeFor token past c
  continued token past (S.Feeds now from bytes w up (Some p) h below) law x takes more client same =
      let c : S.Call = S.Feeds now from bytes w up (Some p) h below in
      let s : S.Own = own_of config.limits config.server_szx (trace past) in
      let is : x.asked ≡ p.0 = took_of s.uploads (max s.clock now) p.0 (verdict_on s.szx p.1) x takes in
      let szx = szx_is config.limits config.server_szx (trace past) in
      made past c law now from bytes w up p h below refl (sym (ap (λ (z : Asked). z.from) is) ∙ client)
      (λ q asks. more_asks_not config.limits config.server_szx (trace past) c p.0 x q (verdict_on config.server_szx p.1)
      takes more (λ asked is_asked. ap (λ n. taken_by s.uploads (max s.clock now) p.0 (verdict_on n p.1)) szx
      ∙ none_taken s.uploads (max s.clock now) p.0 (verdict_on config.server_szx p.1) asked is_asked) asks)
      token (sym (ap (λ (z : Asked). z.token) is) ∙ same)
  continued token past _ law x takes more client same = absurd (cc takes)

  pub served_origin : (past : List Entry) (c : S.Call) → Lawful config (OfServer c ∷ past) → (x : Serving)
      → serving (own_of config.limits config.server_szx (trace past)) c ≡ Some x → x.asked.from
      ≡ config.addresses.client
      → Origin config x.asked (OfServer c ∷ past)
  served_origin past c law x here from =
      let es : List Entry = OfServer c ∷ past in
      let brings = (server_facts.handed config.limits config.server_szx config.server_setup (trace es) law.server).0 x
      here
      in
      let k = traced config x.asked x.question es law.came from (brought_in config x.asked x.question es brings) in
      record {
        sending = k.came.sending;
        con = k.came.con;
        sent = k.sent;
        begun_there = k.begun_before;
        spells = k.came.spells;
        asked = k.came.asked;
      }

  pub made_for : (past : List Entry) (c : S.Call) → Lawful config (OfServer c ∷ past)
      → AreOfObservations config.client_sizes (client_of past)
      → Always (λ p d. TakesNoObservation d) (client_of past) → (m : Message) → IsAnswer config m (trace past) c
      → MadeFor m.token past c
  made_for past c law observed none m (replies x here r) =
      record {
        asked = x.asked;
        from = r.to_client;
        same = r.token_is;
        answers = serves_answer (own_of config.limits config.server_szx (trace past)) c x here;
        origin = served_origin past c law x here r.to_client;
      }
  made_for past c law observed none m (continues x size takes more asks r) =
      continued m.token past c law x takes more r.to_client r.token_is
  made_for past c law observed none m (refuses a v code comes handed unserved is r) =
      refused m.token past c law a code handed is r.to_client r.token_is
  made_for past c law observed none m (notifies o reply here made shows r) =
      absurd (none_made config o past (lawful_back config past (OfServer c) law) observed none r.to_client made)
