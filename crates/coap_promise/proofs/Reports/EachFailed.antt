-- Where Failed is reported, the server answered a request of the call so, and what that says of the path was so there.
use Rattle.std.proofs.Common.{◌≡◌, ◌≢◌, inl, inr, ℕ, Some, List, [], ◌∷◌, refl, ap, sym, subst}
use Rattle.std.proofs.Common.{◌∙◌, arith}
use Rattle.coap_types.specs.Past.{Sometime, Always}
use Rattle.coap_types.specs.Recognised.{lacks_critical, recognised}
use Rattle.coap_types.specs.declared.direction.Direction.TheVariants.{Request}
use Rattle.coap_types.specs.declared.request.Method.{Method}
use Rattle.coap_types.specs.declared.request.Method.TheVariants.{Get}
use Rattle.coap_codec.specs.Message.{Message}
use Rattle.coap_exchange.specs.declared.answerer.Asked.{Asked}
use Rattle.coap_resource.specs.Content.{Content}
use Rattle.coap_resource.specs.RequestOptions.{precondition_fails}
use Rattle.coap_client_laws.specs.Follows.Begins.{WasSent}
use Rattle.coap_client_laws.specs.Follows.Order.{call_of}
use Rattle.coap_client.specs.Sendings.{Sending, Taken, WasTaken}
use Rattle.coap_client.specs.Trace as C
use Rattle.coap_client_laws.proofs.Facts.EachCall.{reports_codes}
use Rattle.coap_server.specs.Law.{own_of}
use Rattle.coap_server.specs.Trace as S
use Rattle.coap_server_laws.proofs.Facts.Laws as server_facts
use Rattle.coap_promise.specs.Answers.{IsAnswer, replies, continues, refuses, notifies, AnswersAt}
use Rattle.coap_promise.specs.CameFrom.{CameFrom}
use Rattle.coap_promise.specs.Done.{EachFailed, Explains, FailsHere}
use Rattle.coap_record.specs.Events.{Config}
use Rattle.coap_record.specs.Legal.{IsRequest}
use Rattle.coap_record.specs.Record.{Entry, OfClient, OfServer, client_of, server_trace}
use Rattle.coap_promise.specs.Words.{ReportsAt, holds_at}
use Rattle.coap_promise.proofs.Facts.Reports.Answered.{all_answered}
use Rattle.coap_promise.proofs.Facts.Reports.AskedBy.{asked_by, registered_by}
use Rattle.coap_promise.proofs.Reports.FailureCodes.{fails_there, none_held, notice_none_held, notice_not_failed}
use Rattle.coap_promise.proofs.Reports.FailureCodes.{refusal_says_none}
use Rattle.coap_promise.proofs.Facts.Reports.HeldThere.{OfCall, of_call, one_of_call, Within, within_back, within_self}
use Rattle.coap_promise.proofs.Requests.Conditions.{conditions_back}
use Rattle.coap_promise.proofs.Any.Requests.OfACall.{Lawful, lawful_back, taken_later}
use Rattle.coap_promise.proofs.Facts.Requests.ReadBack.{Changes, in_order, reads_all}
use Rattle.coap_promise.proofs.Facts.Requests.ServedLeaves.{leaves}

changes_of : (m : Method) → m ≢ Get → Changes m
changes_of Get other = absurd (other refl)
changes_of _ other = tt

module _ (config : Config) (number : ℕ) (all : List Entry)
    (in_range : (x : Taken) → WasTaken x (client_of all) → IsRequest x.request) where
  -- the calls that are taken by then are among all
  abbrev Among : List Entry → Type 0
  Among w = (x : Taken) → WasTaken x (client_of w) → WasTaken x (client_of all)

  among_back : (e : Entry) (w : List Entry) → Among (e ∷ w) → Among w
  among_back e w among x h = among x (taken_later x w e h)

  -- the answer to this request of the call, which was sent by then
  module _ (m : Message) (s : Sending) (of : call_of s.operation ≡ Some number) (token : s.token ≡ m.token)
      (whole : List Entry) (laws : Lawful config whole) (sent : WasSent config.client_sizes s (client_of whole)) where
    -- a request under its token is of the call
    record Own (w : List Entry) : Type 0 where
      sending : Sending
      was_sent : WasSent config.client_sizes sending (client_of w)
      of_it : call_of sending.operation ≡ Some number
      token_is : sending.token ≡ m.token
      call : OfCall config number sending w

    abbrev own_of_call : (w : List Entry) → Within config w whole → (x : Sending)
        → WasSent config.client_sizes x (client_of w)
        → x.token ≡ m.token → Own w
    own_of_call w inside x there same =
        let it = one_of_call config whole laws x s number (inside.sent x there) sent of (same ∙ sym token) in
        record { sending = x; was_sent = there; of_it = it; token_is = same; call = of_call config number x w there it }

    fails_by : (w : List Entry) (c : S.Call) → IsAnswer config m (server_trace config w) c → (k : Own w)
        → Explains m.code k.call.request (holds_at config k.call.request.path w)
        → FailsHere config number m.code w (OfServer c)
    fails_by w c made k explains = record {
      response = m;
      made = made;
      code_is = refl;
      own = (k.sending, k.was_sent, k.of_it, k.token_is);
      request = k.call.request;
      called = k.call.called;
      explains = explains;
    }

    -- the sender of what comes
    came_own : (w : List Entry) (c : S.Call) → Within config w whole → (a : Asked) (v : _)
        → CameFrom config w (OfServer c) a v → a.token ≡ m.token → Own w
    came_own w c inside a v k under =
        own_of_call w inside k.sending k.sent (sym (ap (λ (z : Asked). z.token) k.asked) ∙ under)

    fails_here : (w : List Entry) (c : S.Call) → Within config w whole → Among w → Lawful config (OfServer c ∷ w)
        → IsAnswer config m (server_trace config w) c → FailsHere config number m.code w (OfServer c)
    fails_here w c inside among law (replies x is r) =
        let t : List S.Call = server_trace config w in
        let own : S.Own = own_of config.limits config.server_szx t in
        let asked = asked_by config w c law x is r.to_client in
        let k = own_of_call w inside asked.sending asked.sent (asked.token ∙ r.token_is) in
        let q : C.Request = k.call.request in
        let right = (server_facts.right config.limits config.server_szx config.server_setup (c ∷
        t) law.server).0.serves x is
        in
        let path : x.question.path ≡ q.path = asked.path ∙ k.call.path in
        let held : x.old.holds x.question.path ≡ holds_at config q.path w =
        ap (λ (z : Content). z.holds x.question.path) (leaves own c x is).found ∙ ap (λ p. holds_at config p w) path in
        fails_by w c (replies x is r) k (record {
          not_found = λ code. (sym held
              ∙ none_held x.old right.0 x.question x.reply x.left right.1 (sym r.code ∙ code));
          precondition = λ code other. (
              let known = reads_all q k.call.transfer (changes_of q.method other)
              (in_range (record { number = number; request = q })
              (among (record { number = number; request = q }) k.call.called)).format
              (ap (lacks_critical Request) (sym k.call.options) ∙ asked.clear) in
              let options : x.question.options ≡ in_order q q.method k.call.transfer =
              asked.options ∙ (ap (recognised Request) k.call.options ∙ known) in
              sym (conditions_back q q.method k.call.transfer (holds_at config q.path w))
              ∙ (ap (precondition_fails (holds_at config q.path w)) (sym options)
              ∙ (ap (λ o. precondition_fails o x.question.options) (sym held)
              ∙ fails_there x.old right.0 x.question x.reply x.left right.1 (sym r.code ∙ code))));
        })
    fails_here w c inside among law (continues x size is more asks r) =
        let comes = (server_facts.blocks config.limits config.server_szx config.server_setup
        (c ∷ server_trace config w) law.server).0 x is in
        fails_by w c (continues x size is more asks r)
        (came_own w c inside x.asked _ (law.came.0 x.asked _ comes.comes r.to_client) r.token_is) (record {
          not_found = λ code. (let e : 95 ≡ 132 = sym r.code ∙ code in absurd (omega (arith, e)));
          precondition = λ code other. (let e : 95 ≡ 140 = sym r.code ∙ code in absurd (omega (arith, e)));
        })
    fails_here w c inside among law (refuses a v n comes handed none is r) =
        let none_said = refusal_says_none (own_of config.limits config.server_szx (server_trace config w)) c
        law.unrefused.0.unrefused n is in
        fails_by w c (refuses a v n comes handed none is r)
        (came_own w c inside a v (law.came.0 a v comes r.to_client) r.token_is) (record {
          not_found = λ code. absurd (none_said.0 (sym r.code ∙ code));
          precondition = λ code other. absurd (none_said.1 (sym r.code ∙ code));
        })
    fails_here w c inside among law (notifies o reply here made shows so) =
        let own : S.Own = own_of config.limits config.server_szx (server_trace config w) in
        let registered = registered_by config o w (lawful_back config w (OfServer c) law) so.to_client made in
        let k = own_of_call w inside registered.sending registered.sent (registered.token ∙ so.token_is) in
        let path : o.path ≡ k.call.request.path = registered.path ∙ k.call.path in
        fails_by w c (notifies o reply here made shows so) k (record {
          not_found = λ code. (sym (ap (λ p. holds_at config p w) path)
              ∙ notice_none_held o.szx (own.store.holds o.path) _ shows (sym so.code ∙ code));
          precondition = λ code other. absurd
              (notice_not_failed o.szx (own.store.holds o.path) _ shows (sym so.code ∙ code));
        })

    fails_in : (w : List Entry) → Within config w whole → Among w → Lawful config w → Sometime (AnswersAt config m) w
        → Sometime (FailsHere config number m.code) w
    fails_in [] inside among law h = h
    fails_in (OfClient c ∷ w) inside among law (inl h) = absurd h
    fails_in (OfServer c ∷ w) inside among law (inl h) =
        inl (fails_here w c (within_back config whole w (OfServer c) inside) (among_back (OfServer c) w among) law h)
    fails_in (e ∷ w) inside among law (inr h) =
        inr (fails_in w (within_back config whole w e inside) (among_back e w among) (lawful_back config w e law) h)

  module _ (code : ℕ) where
    failed_here : (w : List Entry) (c : C.Call) → Among w → Lawful config (OfClient c ∷ w)
        → ReportsAt config (record { number = number; report = C.Failed code }) w (OfClient c)
        → Sometime (FailsHere config number code) w
    failed_here w c among law made =
        let r = (reports_codes config.addresses.server config.client_sizes config.client_setup (c ∷ client_of w)
        law.client).0.failed number code made in
        let earlier = lawful_back config w (OfClient c) law in
        subst (λ n. Sometime (FailsHere config number n) w) r.code_is
        (fails_in r.message r.heard.sending r.heard.of_call r.heard.token w earlier r.heard.sent w
        (within_self config w)
        among earlier ((all_answered config (OfClient c ∷ w) law).0 r.message r.heard.heard))

    failed_in : (w : List Entry) → Among w → Lawful config w
        → Always (λ past e. ReportsAt config (record { number = number; report = C.Failed code }) past e
        → Sometime (FailsHere config number code) past) w
    failed_in [] among law = tt
    failed_in (OfClient c ∷ w) among law = (
      λ made. failed_here w c (among_back (OfClient c) w among) law made,
      failed_in w (among_back (OfClient c) w among) (lawful_back config w (OfClient c) law),
    )
    failed_in (OfServer c ∷ w) among law = (
      λ made. absurd made,
      failed_in w (among_back (OfServer c) w among) (lawful_back config w (OfServer c) law),
    )

pub each_failed : (config : Config) (all : List Entry) → Lawful config all
    → ((x : Taken) → WasTaken x (client_of all) → IsRequest x.request) → EachFailed config all
each_failed config all law in_range number code =
    failed_in config number all in_range code all (λ x h. h) law
