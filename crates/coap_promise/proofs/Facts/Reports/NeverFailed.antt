-- Where another response than a success is reported, no request of the call is applied, before or after.
use Rattle.std.proofs.Common.{◌≡◌, ◌⊎◌, ◌≤◌, inl, inr, ℕ, max, Bool, true, false, ◌&&◌, Some, None, List, [], ◌∷◌}
use Rattle.std.proofs.Common.{refl, ap}
use Rattle.std.proofs.Common.{sym, subst, ◌∙◌}
use Rattle.coap_types.specs.MethodCode.{method_code, method_of}
use Rattle.coap_types.specs.Past.{Sometime}
use Rattle.coap_types.specs.declared.request.Method.{Method}
use Rattle.coap_types.specs.declared.request.Method.TheVariants.{Get}
use Rattle.coap_types.proofs.Facts.Traces.{Sometime_map}
use Rattle.coap_layer.specs.declared.setup.Setup.{Setup}
use Rattle.coap_resource.specs.Limits.{Limits}
use Rattle.coap_block.specs.AssemblyState.{AssemblyState}
use Rattle.coap_block.specs.declared.block_verdict.BlockVerdict.{BlockVerdict}
use Rattle.coap_block.specs.declared.block_verdict.BlockVerdict.TheVariants as ruling
use Rattle.coap_codec.specs.Message.{Message}
use Rattle.coap_resource.specs.Serves.{Question}
use Rattle.coap_exchange.specs.declared.answerer.Asked.{Asked}
use Rattle.coap_client_laws.specs.Follows.Order.{call_of, is_last}
use Rattle.coap_client.specs.Trace as C
use Rattle.coap_client.specs.Sendings.{Taken, WasTaken, Sending}
use Rattle.coap_server.specs.Follows.Brings.{Comes}
use Rattle.coap_server_laws.specs.Follows.Gives.{refusal_by, refusal_of, refusal_in}
use Rattle.coap_server.specs.Follows.Serves.{Serving, serving, hands, times_handed, refuses as refuses_it}
use Rattle.coap_server.specs.Follows.Takes.{Took, took, took_by, taken_by, takes_block}
use Rattle.coap_server.specs.Checks.{Verdict, Asks, Uploads, verdict_on}
use Rattle.coap_server.specs.Law.{own_of}
use Rattle.coap_server.specs.Observers.{is_get}
use Rattle.coap_server.specs.Trace as S
use Rattle.coap_server.specs.Uploads.{ruling_of}
use Rattle.coap_client_laws.proofs.Facts.Laws as client_facts
use Rattle.coap_server_laws.proofs.Facts.Laws as server_facts
use Rattle.coap_server.proofs.Facts.EachCall.{szx_is, comes_here}
use Rattle.coap_promise.specs.Answers.{IsAnswer, replies, continues, refuses, notifies, AnswersAt}
use Rattle.coap_promise.specs.CameFrom.{request_of}
use Rattle.coap_record.specs.Events.{Config}
use Rattle.coap_record.specs.Legal.{IsRequest}
use Rattle.coap_record.specs.Record.{Entry, OfClient, OfServer, client_of, server_trace}
use Rattle.coap_promise.specs.Words.{ReportsAt}
use Rattle.coap_promise.proofs.Facts.Reports.Answered.{all_answered}
use Rattle.coap_promise.proofs.Facts.Requests.LastRequests.{Final, method_is}
use Rattle.coap_promise.proofs.Facts.Requests.OfACall.{Lawful, lawful_back, later_back}
use Rattle.coap_promise.proofs.Facts.Requests.ReadBack.{Changes}
use Rattle.coap_client_laws.specs.Follows.Codes.{Fails}
use Rattle.coap_client_laws.proofs.Facts.EachCall.{reports_codes}
use Rattle.coap_promise.specs.Done.{NeverFailed}
use Rattle.coap_promise.proofs.Reports.AppliedRequest.{Applied, applied_in, same_sending, same_asked, same_verdict}
use Rattle.coap_promise.proofs.Reports.AppliedRequest.{handed_few}
use Rattle.coap_promise.proofs.Reports.Codes.{applied_by, fails_none}
use Rattle.coap_promise.proofs.Facts.Reports.HandedOnce.{once_same, once_either, never, HandsIt, ServesIt, handed_once}
use Rattle.coap_promise.proofs.Facts.Reports.HandedOnce.{served_once}
use Rattle.coap_promise.proofs.Reports.LastAnswered.{FailsBy, same_last}
use Rattle.coap_promise.proofs.Facts.Reports.Located.{LaterAll, Origin, origin_of, brought_served, server_later}
use Rattle.coap_promise.proofs.Facts.Reports.Unregistered.{NoneRegisters, none_made}
use Rattle.coap_promise.proofs.Facts.Requests.AtAnyTime.{at_any_time}

-- a block that is taken is not refused

ruled : (v : BlockVerdict) (x y : Took) (code : ℕ) → took_by v x ≡ Some y → refusal_by v ≡ Some code → ⊥
ruled (ruling.Refuse why) x y code h k = cc h
ruled _ x y code h k = cc k

judged : (uploads : AssemblyState) (at : ℕ) (a : Asked) (v : Verdict) (y : Took) (code : ℕ)
    → taken_by uploads at a v ≡ Some y → refusal_of uploads at a v ≡ Some code → ⊥
judged uploads at a (Uploads q b) y code h k = ruled (ruling_of uploads at a q b) (took a q b) y code h k
judged uploads at a _ y code h k = cc h

not_both : (s : S.Own) (c : S.Call) (y : Took) (code : ℕ) → takes_block s c ≡ Some y → refusal_in s c ≡ Some code → ⊥
not_both s (S.Feeds now from bytes word up (Some p) h below) y code t r =
    judged s.uploads (max s.clock now) p.0 (verdict_on s.szx p.1) y code t r
not_both s _ y code t r = cc t

pub get_is : (m : Method) (b : Bool) → (is_get m && b) ≡ true → m ≡ Get
get_is Get b h = refl
get_is _ b h = absurd (cc h)

-- the request that is refused in a call, and what it comes to
pub record RefusedIn (limits : Limits) (szx : ℕ) (setup : Setup) (past : List S.Call) (c : S.Call) (a : Asked) : Type 0
  where
    pub verdict : Verdict
    pub comes : Comes limits szx setup past c a verdict
    pub uploads : AssemblyState
    pub at : ℕ
    pub code : ℕ
    pub refuses_so : refusal_of uploads at a verdict ≡ Some code

-- the server is to refuse the request that it hands up here
abbrev pub IsToRefuse : S.Call → Type 0
IsToRefuse c = (p : Asked × Message) × (refuses_it c ≡ Some p)

-- a request that is refused without the store comes to a refusal, or the server is to refuse it
pub refused_in : (limits : Limits) (szx : ℕ) (setup : Setup) (past : List S.Call) (c : S.Call) (a : Asked) (code : ℕ)
    → Rattle.coap_server.specs.Law.ServerLaw limits szx setup (c ∷ past)
    → hands c ≡ Some a → refusal_in (own_of limits szx past) c ≡ Some code
    → RefusedIn limits szx setup past c a ⊎ IsToRefuse c
refused_in limits szx setup past (S.Feeds now from bytes w up (Some p) h below) a code law is refuses_so =
    let s : S.Own = own_of limits szx past in
    let same : p.0 ≡ a = cc is in
    inl (record {
      verdict = verdict_on szx p.1;
      comes = subst (λ z. Comes limits szx setup past (S.Feeds now from bytes w up (Some p) h below) z
          (verdict_on szx p.1)) same (comes_here limits szx setup past now from bytes w up p h below law);
      uploads = s.uploads;
      at = max s.clock now;
      code = code;
      refuses_so = ap (λ z. refusal_of s.uploads (max s.clock now) z (verdict_on szx p.1)) (sym same)
          ∙ (ap (λ n. refusal_of s.uploads (max s.clock now) p.0 (verdict_on n p.1)) (sym (szx_is limits szx past))
          ∙ refuses_so);
    })
refused_in limits szx setup past (S.Refuses now from bytes w said up p response below) a code law is refuses_so =
    inr (p, refl)
refused_in limits szx setup past _ a code law is refuses_so = absurd (cc is)

-- what is known wherever it happens
known_so : {E : Type 0} (P : List E → E → Type 0) (X : Type 0) → (t : List E) → Sometime (λ past e. P past e × X) t → X
known_so P X [] h = absurd h
known_so P X (e ∷ past) (inl h) = h.1
known_so P X (e ∷ past) (inr h) = known_so P X past h

-- only a block is both refused without the store and asked of it
uploads_it : (uploads : AssemblyState) (at : ℕ) (a : Asked) (code : ℕ) (v : Verdict) → Final v
    → refusal_of uploads at a v ≡ Some code → (q : Question) × (b : _) × (v ≡ Uploads q b)
uploads_it uploads at a code (Asks q) final h = absurd (cc h)
uploads_it uploads at a code (Uploads q b) final h = (q, b, refl)
uploads_it uploads at a code _ final h = absurd final

module _ (config : Config) (number : ℕ) (all : List Entry) (small : config.client_sizes.szx ≤ 6)
    (whole : Lawful config all)
    (in_range : (x : Taken) → WasTaken x (client_of all) → IsRequest x.request) where
  abbrev Later : List Entry → Type 0
  Later t = LaterAll config number all small whole in_range t

  -- the report of a failure, the answer that it is of, and whose answer that is
  record FailsSo (code : ℕ) (t : List Entry) : Type 0 where
    message : Message
    sending : Sending
    of : call_of sending.operation ≡ Some number
    token : sending.token ≡ message.token
    code_is : message.code ≡ code
    means : Fails sending.operation code
    there : Sometime (FailsBy config.client_sizes number code sending) (client_of t)
    answered : Sometime (AnswersAt config message) t

  fails_here : (code : ℕ) (w : List Entry) (c : C.Call) → Lawful config (OfClient c ∷ w)
      → ReportsAt config (record { number = number; report = C.Failed code }) w (OfClient c)
      → FailsSo code (OfClient c ∷ w)
  fails_here code w c law made =
      let t : List Entry = OfClient c ∷ w in
      let r = (reports_codes config.addresses.server config.client_sizes config.client_setup (client_of t)
      law.client).0.failed number
      code made in
      record {
        message = r.message;
        sending = r.heard.sending;
        of = r.heard.of_call;
        token = r.heard.token;
        code_is = r.code_is;
        means = r.means;
        there = inl (made, r.last);
        answered = inr ((all_answered config t (at_any_time law)).0 r.message r.heard.heard);
      }

  client_later : (P : List C.Call → C.Call → Type 0) (e : Entry) (w : List Entry) → Sometime P (client_of w)
      → Sometime P (client_of (e ∷ w))
  client_later P (OfClient c) w h = inr h
  client_later P (OfServer c) w h = h

  fails_in : (code : ℕ) (t : List Entry) → Lawful config t
      → Sometime (ReportsAt config (record { number = number; report = C.Failed code })) t → FailsSo code t
  fails_in code [] law h = absurd h
  fails_in code (OfServer c ∷ w) law (inl h) = absurd h
  fails_in code (OfClient c ∷ w) law (inl h) = fails_here code w c law h
  fails_in code (e ∷ w) law (inr h) =
      let k = fails_in code w (lawful_back config w e law) h in
      record {
        message = k.message;
        sending = k.sending;
        of = k.of;
        token = k.token;
        code_is = k.code_is;
        means = k.means;
        there = client_later (FailsBy config.client_sizes number code k.sending) e w k.there;
        answered = inr k.answered;
      }

  module _ (a : Applied config number all small whole in_range all) (m : Message)
      (token : a.request.asked.token ≡ m.token) where
    abbrev it : Asked
    it = a.request.asked

    abbrev last : Sending
    last = a.known.sending

    own_token : it.token ≡ last.token
    own_token = ap (λ (z : Asked). z.token) a.known.asked

    -- what is handed up under that token is this request
    is_it : (b : Asked) (v : Verdict) → Origin config number all small whole in_range b v → b.token ≡ m.token → b ≡ it
    is_it b v o same = same_asked config number all small whole in_range last a.known.sent a.known.of_call b it v
        a.verdict o a.comes (same ∙ (sym token ∙ own_token)) own_token

    comes_so : (b : Asked) (v : Verdict) → Origin config number all small whole in_range b v → b.token ≡ m.token
        → v ≡ a.verdict
    comes_so b v o same = same_verdict config number all small whole in_range last a.known.sent a.known.of_call b it v
        a.verdict o a.comes (same ∙ (sym token ∙ own_token)) own_token

    abbrev ServedSo : List S.Call → S.Call → Type 0
    ServedSo past c = (x : Serving) × (serving (own_of config.limits config.server_szx past) c ≡ Some x)
        × (x.reply.code ≡ m.code)

    abbrev RefusedSo : List S.Call → S.Call → Type 0
    RefusedSo past c = (code : ℕ) × (refusal_in (own_of config.limits config.server_szx past) c ≡ Some code)

    abbrev ToRefuse : List S.Call → S.Call → Type 0
    ToRefuse past c = IsToRefuse c

    -- the request is served with the code, or its block is refused, or the server is to refuse it
    abbrev Outcome : List S.Call → S.Call → Type 0
    Outcome past c =
        (ServesIt config.limits config.server_szx it past c × ServedSo past c)
        ⊎ (((HandsIt config.limits config.server_szx it past c × RefusedSo past c)
        × ((q : Question) × (b : _) × (a.verdict ≡ Uploads q b)))
        ⊎ (HandsIt config.limits config.server_szx it past c × ToRefuse past c))

    -- a request of the call that changes something is no registration
    registers_none : NoneRegisters config number all small whole in_range m.token
    registers_none w c later law x here from under observe =
        let b = brought_served config number all small whole in_range w c later law x here from in
        let sending : b.origin.sending ≡ last =
        same_sending config number all small whole in_range last a.known.sent a.known.of_call x.asked b.verdict b.origin
        (under ∙ (sym token ∙ own_token))
        in
        let code : (request_of b.origin.con.id b.origin.sending).code
        ≡ (method_code a.known.request.method).0 = ap (λ (z : Sending). z.request.code) sending
        ∙ ap (λ r. r.code) a.known.message in
        let methods : Some x.question.method ≡ Some a.known.request.method = sym b.method
        ∙ (ap method_of code ∙ method_is a.known.request.method) in
        let method : x.question.method ≡ a.known.request.method = cc methods in
        subst Changes (sym method ∙ get_is x.question.method _ observe) a.known.change

    outcome_here : (w : List Entry) (c : S.Call) → Later (OfServer c ∷ w) → Lawful config (OfServer c ∷ w)
        → IsAnswer config m (server_trace config w) c → Outcome (server_trace config w) c
    outcome_here w c later law (replies x is r) =
        let b = brought_served config number all small whole in_range w c later law x is r.to_client in
        inl ((x, is, is_it x.asked b.verdict b.origin r.token_is), (x, is, sym r.code))
    outcome_here w c later law (continues x size is more asks r) =
        let t : List Entry = OfServer c ∷ w in
        let k = (server_facts.blocks config.limits config.server_szx config.server_setup
        (server_trace config t) law.server).0 x is in
        let v : Verdict = Uploads k.question k.block in
        let o = origin_of config number all small whole in_range w (OfServer c) later x.asked v
        (law.came.0 x.asked v k.comes r.to_client) in
        let final : Final v = subst Final (sym (comes_so x.asked v o r.token_is)) a.final in
        let not_more : x.part.more ≡ false = ap (λ (z : Took). z.part.more) k.is ∙ final in
        absurd (cc (more, not_more))
    outcome_here w c later law (refuses b v code comes handed none is r) =
        by (refused_in config.limits config.server_szx config.server_setup (server_trace config w) c b code law.server
        handed is)
      where
        by : RefusedIn config.limits config.server_szx config.server_setup (server_trace config w) c b ⊎ IsToRefuse c
            → Outcome (server_trace config w) c
        by (inl k) =
            let o = origin_of config number all small whole in_range w (OfServer c) later b k.verdict
            (law.came.0 b k.verdict k.comes r.to_client) in
            let same = comes_so b k.verdict o r.token_is in
            let u = uploads_it k.uploads k.at b k.code a.verdict a.final
            (ap (refusal_of k.uploads k.at b) (sym same) ∙ k.refuses_so) in
            inr (inl ((handed ∙ ap (λ z. Some z) (is_it b k.verdict o r.token_is), (code, is)), u))
        by (inr k) =
            let o = origin_of config number all small whole in_range w (OfServer c) later b v
            (law.came.0 b v comes r.to_client) in
            inr (inr (handed ∙ ap (λ z. Some z) (is_it b v o r.token_is), k))
    outcome_here w c later law (notifies o reply here made shows so) =
        absurd (none_made config number all small whole in_range m.token registers_none o w
        (later_back config number all small whole in_range (OfServer c) w later) (lawful_back config w (OfServer c) law)
        so.to_client so.token_is made)

    outcome_in : (t : List Entry) → Later t → Lawful config t → Sometime (AnswersAt config m) t
        → Sometime Outcome (server_trace config t)
    outcome_in [] later law h = absurd h
    outcome_in (OfClient c ∷ w) later law (inl h) = absurd h
    outcome_in (OfServer c ∷ w) later law (inl h) = inl (outcome_here w c later law h)
    outcome_in (e ∷ w) later law (inr h) = server_later config Outcome e w
        (outcome_in w (later_back config number all small whole in_range e w later) (lawful_back config w e law) h)

    -- the failure is that of this request
    module _ (code : ℕ) (code_is : m.code ≡ code) (means : Fails last.operation code) where
      abbrev t : List S.Call
      t = server_trace config all

      few : times_handed config.limits config.server_szx it t ≤ 1
      few = handed_few config number all small whole in_range last a.known.sent a.known.of_call it a.from own_token

      abbrev AppliedSo : List S.Call → S.Call → Type 0
      AppliedSo past c = serving (own_of config.limits config.server_szx past) c ≡ Some a.request

      failed_so : applied_by a.known.request.method code ≡ false
      failed_so =
          fails_none config.client_sizes number (record a.known.request { body = [] }) a.known.request.body code
          a.known.request.method a.known.transfer a.known.carries
          (sym (ap is_last a.known.operation) ∙ a.known.last)
          (subst (λ o. Fails o code) a.known.operation means)

      served_both : (past : List S.Call) (c : S.Call) → ServedSo past c × AppliedSo past c → ⊥
      served_both past c h =
          let x : Serving = h.0.0 in
          let same : x ≡ a.request = (let e : Some x ≡ Some a.request = sym h.0.1 ∙ h.1 in cc e) in
          let reply : a.request.reply.code ≡ code = ap (λ (z : Serving). z.reply.code) (sym same) ∙ (h.0.2 ∙ code_is) in
          let yes : applied_by a.known.request.method code ≡ true = ap (applied_by a.known.request.method) (sym reply)
          ∙ (ap (λ n. applied_by n a.request.reply.code) (sym a.known.method) ∙ a.right) in
          cc (yes, failed_so)

      none_served : Sometime (λ past c. ServesIt config.limits config.server_szx it past c × ServedSo past c) t → ⊥
      none_served h =
          let S1 = ServesIt config.limits config.server_szx it in
          let once = served_once config.limits config.server_szx it t
          (server_facts.served config.limits config.server_szx config.server_setup t whole.server) few in
          let applied = Sometime_map AppliedSo (λ past c. S1 past c × AppliedSo past c)
          (λ past c k. ((a.request, k, refl), k)) t a.served in
          never (λ past c. ServedSo past c × AppliedSo past c) served_both t
          (once_same S1 ServedSo AppliedSo t once h applied)

      abbrev TakenSo : List S.Call → S.Call → Type 0
      TakenSo past c = (y : Took) × (takes_block (own_of config.limits config.server_szx past) c ≡ Some y)

      none_refused : Sometime (λ past c. HandsIt config.limits config.server_szx it past c × RefusedSo past c) t
          → (q : Question) (b : _) → a.verdict ≡ Uploads q b → ⊥
      none_refused h q b is =
          let once = handed_once config.limits config.server_szx it t few in
          never (λ past c. RefusedSo past c × TakenSo past c)
          (λ past c k. not_both (own_of config.limits config.server_szx past) c k.1.0 k.0.0 k.1.1 k.0.1) t
          (once_same (HandsIt config.limits config.server_szx it) RefusedSo TakenSo t once h (a.took q b is))

      abbrev TakesIt : List S.Call → S.Call → Type 0
      TakesIt past c = refuses_it c ≡ None

      none_to_refuse : Sometime (λ past c. HandsIt config.limits config.server_szx it past c × ToRefuse past c) t → ⊥
      none_to_refuse h =
          let once = handed_once config.limits config.server_szx it t few in
          never (λ past c. ToRefuse past c × TakesIt past c)
          (λ past c k. (let e : Some k.0.0 ≡ None = sym k.0.1 ∙ k.1 in cc e)) t
          (once_same (HandsIt config.limits config.server_szx it) ToRefuse TakesIt t once h a.handed)

      none_applied : Sometime Outcome t → ⊥
      none_applied h =
          let P = λ (past : List S.Call) (c : S.Call). ServesIt config.limits config.server_szx it past c
          × ServedSo past c in
          let R = λ (past : List S.Call) (c : S.Call). HandsIt config.limits config.server_szx it past c
          × RefusedSo past c in
          let U : Type 0 = (q : Question) × (b : _) × (a.verdict ≡ Uploads q b) in
          let T = λ (past : List S.Call) (c : S.Call). HandsIt config.limits config.server_szx it past c
          × ToRefuse past c in
          elim (once_either P (λ past c. (R past c × U) ⊎ T past c) t h) [
            | inl served ↦ none_served served
            | inr refused ↦ elim (once_either (λ past c. R past c × U) T t refused) [
              | inl block ↦ (let u = known_so R U t block in none_refused
                  (Sometime_map (λ past c. R past c × U) R (λ past c k. k.0) t block) u.0 u.1 u.2)
              | inr told ↦ none_to_refuse told
            ]
          ]

  fails_not : (code : ℕ) → FailsSo code all → Applied config number all small whole in_range all → ⊥
  fails_not code f a =
      let y : Sending = a.known.sending in
      let same : y ≡ f.sending = same_last config.client_sizes config.addresses.server config.client_setup number code
      f.sending y f.of
      a.known.of_call a.known.last (client_of all)
      (client_facts.order config.addresses.server config.client_sizes config.client_setup (client_of all) whole.client)
      (client_facts.none_after config.addresses.server config.client_sizes config.client_setup (client_of all)
      whole.client) f.there
      a.known.sent
      in
      let token : a.request.asked.token ≡ f.message.token = ap (λ (z : Asked). z.token) a.known.asked
      ∙ (ap (λ (z : Sending). z.token) same ∙ f.token) in
      none_applied a f.message token code f.code_is (subst (λ (z : Sending). Fails z.operation code) (sym same) f.means)
      (outcome_in a f.message token all (λ x h. h, λ con h. h, λ x h. h) whole f.answered)

pub never_failed : (config : Config) (all : List Entry) → config.client_sizes.szx ≤ 6 → Lawful config all
    → ((x : Taken) → WasTaken x (client_of all) → IsRequest x.request) → NeverFailed config all
never_failed config all small law in_range number code failed applied =
    fails_not config number all small law in_range code
    (fails_in config number all small law in_range code all law failed)
    (applied_in config number all small law in_range all (λ x h. h, λ con h. h, λ x h. h) law applied)
