-- Where each exchange ends by an answer and each request is sent, what is reported of a call that is no GET is the code
-- of a response that the server made to it.
use Rattle.std.proofs.Common.{◌≡◌, ◌≢◌, ◌≤◌, ◌⊎◌, inl, inr, ℕ, nat_le, nat_lt, Bool, true, false, Some, List, [], ◌∷◌}
use Rattle.std.proofs.Common.{length, refl, ap, sym, subst, ◌∙◌, cond, arith, Result, Ok, Err}
use Rattle.std.proofs.lemmas.Bool.Decides.{nat_tests}
use Rattle.coap_types.specs.Past.{Always}
use Rattle.coap_types.specs.declared.request.Method.{Method}
use Rattle.coap_types.specs.declared.request.Method.TheVariants.{Get, Post, Put}
use Rattle.coap_codec.specs.Message.{Message}
use Rattle.coap_block.specs.Sizes.{Sizes}
use Rattle.coap_block.specs.UploadStep.{UploadState}
use Rattle.coap_client_laws.specs.Follows.OfAnswers.{is_by_answer, IsBadFor, MayReport}
use Rattle.coap_client_laws.specs.Follows.OfCalls.{CarriesBody}
use Rattle.coap_client_laws.specs.Follows.Taken.{AllTaken, next_number, waiting_in}
use Rattle.coap_client.specs.Sendings.{Taken, WasTaken, takes}
use Rattle.coap_client.specs.Own.{Transfer, Fetches, Uploads, Single, Calling}
use Rattle.coap_client.specs.Queue.{are_long, block_option_number}
use Rattle.coap_client.specs.Requests.{options_of}
use Rattle.coap_client.specs.Trace as R
use Rattle.coap_client.specs.Trace.{Report, Done, Failed, Call}
use Rattle.coap_client.specs.declared.limits.TheConstants.{MAX_WAITING_CALLS as max_waiting}
use Rattle.coap_client.specs.declared.refusals.CallRefusal.{CallRefusal}
use Rattle.coap_client.specs.declared.refusals.CallRefusal.TheVariants.{QueueFull, BodyTooLarge, BadPath}
use Rattle.coap_client_laws.proofs.Facts.EachCall.{all_taken}
use Rattle.coap_client_laws.proofs.Facts.Laws as client_facts
use Rattle.coap_record.specs.Events.{Config}
use Rattle.coap_record.specs.Legal.{IsConfig, IsRequest}
use Rattle.coap_record.specs.Record.{Entry, OfClient, OfServer, client_of}
use Rattle.coap_smooth.specs.SmoothAnswers.{ChangesAnswered, ComesTo}
use Rattle.coap_promise.specs.Words.{ReportsAt, WasCalled}
use Rattle.coap_promise.proofs.Facts.Reports.Answered.{all_answered}
use Rattle.coap_smooth.proofs.Reports.ByAnswer.{Answering, answering_back, by_answer, heard_so}
use Rattle.coap_promise.proofs.Facts.Reports.Located.{LaterAll}
use Rattle.coap_smooth.proofs.Reports.NoneBad.{changes_of, none_bad}
use Rattle.coap_promise.proofs.Facts.Reports.OnceDone.{applied_since, applies_in}
use Rattle.coap_promise.proofs.Facts.Reports.Understood.{heard_understood}
use Rattle.coap_promise.proofs.Facts.Requests.LastRequests.{of_call_at}
use Rattle.coap_promise.proofs.Facts.Requests.OfACall.{Lawful, lawful_back, later_back}
use Rattle.coap_promise.proofs.Facts.Uploads.Pieces.{one_request}
use Rattle.coap_promise.proofs.Facts.Requests.AtAnyTime.{at_any_time}

-- a body that is taken is no longer than the client's limit

within_limit : (a b c : Bool) (limit len number : ℕ) (next : Result ℕ CallRefusal) → nat_lt limit len ≡ b
    → Ok number ≡ cond a (Err QueueFull) (cond b (Err BodyTooLarge) (cond c (Err BadPath) next)) → len ≤ limit
within_limit true b c limit len number next is h = absurd (cc h)
within_limit false true c limit len number next is h = absurd (cc h)
within_limit false false c limit len number next is h = grind (arith, nat_tests, is)

taken_here : (sizes : Sizes) (t : List Call) (c : Call) → AllTaken sizes (c ∷ t) → (x : Taken) → takes c ≡ Some x
    → length x.request.body ≤ sizes.limit
taken_here sizes t (R.Calls now r (Ok number)) law x is =
    let same : ◌≡◌ {A = Taken} (record { number = number; request = r }) x = cc is in
    let short = within_limit (nat_le max_waiting (length (waiting_in sizes t))) (nat_lt sizes.limit (length r.body))
    (are_long (block_option_number r.method) (options_of r)) sizes.limit (length r.body) number (next_number sizes t)
    refl
    (law.0.calls now r (Ok number) refl) in
    subst (λ (z : Taken). length z.request.body ≤ sizes.limit) same short
taken_here sizes t _ law x is = absurd (cc is)

pub taken_short : (sizes : Sizes) (t : List Call) → AllTaken sizes t → (x : Taken) → WasTaken x t
    → length x.request.body ≤ sizes.limit
taken_short sizes [] law x h = absurd h
taken_short sizes (c ∷ t) law x (inl h) = taken_here sizes t c law x h
taken_short sizes (c ∷ t) law x (inr h) = taken_short sizes t law.1 x h

-- what an answer to such a call may report

no_get : (sizes : Sizes) (m : Method) (body : List ℕ) (f : _) → m ≢ Get → CarriesBody sizes m body (Fetches f) → ⊥
no_get sizes Get body f other h = other refl
no_get sizes _ body f other h = h

module _ (m : Message) (tr : Transfer) (gets : (f : _) → tr ≡ Fetches f → ⊥) (bad : (u : UploadState) → tr ≡ Uploads u
    → IsBadFor u m → ⊥) where
  none_else : (o : Transfer) → tr ≡ o → (report : Report) → is_by_answer report ≡ true
      → ((u : UploadState) → MayReport (Uploads u) m report → ⊥) → (MayReport Single m report → ⊥)
      → MayReport o m report → ⊥
  none_else (Fetches f) is report by_it uploads single may = gets f is
  none_else (Uploads u) is report by_it uploads single may = uploads u may
  none_else Single is report by_it uploads single may = single may

  pub says_code : (report : Report) → is_by_answer report ≡ true → MayReport tr m report
      → (report ≡ Done m.code) ⊎ (report ≡ Failed m.code)
  says_code (R.Done code) is may = inl (ap Done (sym may))
  says_code (R.Failed code) is may = inr (ap Failed (sym may))
  says_code (R.Body tag format body) is may =
      absurd (none_else tr refl (R.Body tag format body) is (λ u h. h) (λ h. h) may)
  says_code (R.Valid tag) is may = absurd (none_else tr refl (R.Valid tag) is (λ u h. h) (λ h. h) may)
  says_code R.Changed is may = absurd (none_else tr refl R.Changed is (λ u h. h) (λ h. h) may)
  says_code R.NoTag is may = absurd (none_else tr refl R.NoTag is (λ u h. h) (λ h. h) may)
  says_code R.TooLarge is may = absurd (none_else tr refl R.TooLarge is (λ u h. h) (λ h. h) may)
  says_code R.BadBlock is may = by tr refl may
    where
      by : (o : Transfer) → tr ≡ o → MayReport o m R.BadBlock → (R.BadBlock ≡ Done m.code)
          ⊎ (R.BadBlock ≡ Failed m.code)
      by (Fetches f) e h = absurd (gets f e)
      by (Uploads u) e h = absurd (bad u e h)
      by Single e h = absurd h
  says_code _ is may = absurd (cc is)

-- where a call that sends a body is

sends_small : (sizes : Sizes) (m : Method) (body : List ℕ) (u : UploadState) → m ≢ Get
    → CarriesBody sizes m body (Uploads u)
    → Rattle.coap_client_laws.specs.Follows.OfCalls.SendsBody sizes body u
sends_small sizes Post body u other h = h
sends_small sizes Put body u other h = h
sends_small sizes _ body u other h = absurd h

module _ (config : Config) (range : IsConfig config) (all : List Entry) (whole : Lawful config all)
    (in_range : (x : Taken) → WasTaken x (client_of all) → IsRequest x.request) where
  module _ (number : ℕ) where
    abbrev Later : List Entry → Type 0
    Later t = LaterAll config number all range.client_szx whole in_range t

    changes_here : (w : List Entry) (c : Call) → Later (OfClient c ∷ w) → Lawful config (OfClient c ∷ w)
        → Answering config (c ∷ client_of w) → (report : Report) (r : R.Request)
        → ReportsAt config (record { number = number; report = report }) w (OfClient c) → WasCalled number r w
        → r.method ≢ Get → ComesTo config report (record { number = number; request = r }) all w (OfClient c)
    changes_here w c later law k report r made called other =
        let h = heard_so config (client_of w) c k number report made in
        let before = later_back config number all range.client_szx whole in_range (OfClient c) w later in
        let earlier = lawful_back config w (OfClient c) law in
        let g = of_call_at config.client_sizes (client_of w)
        (client_facts.of_calls config.client_sizes (client_of w)) h.sending number h.sent h.of in
        let same : r ≡ g.request = one_request number r g.request (client_of w)
        (client_facts.numbers config.addresses.server config.client_sizes config.client_setup (client_of w)
        earlier.client) called g.taken in
        let method : g.request.method ≢ Get = subst (λ (z : R.Request). z.method ≢ Get) same other in
        let calling : Calling number h.request h.transfer ≡ Calling number (record g.request { body = [] }) g.transfer =
        sym h.operation ∙ g.operation in
        let transfer : h.transfer ≡ g.transfer = cc calling in
        let answered = (all_answered config (OfClient c ∷ w) (at_any_time law)).0 h.message h.heard in
        let taken : WasTaken (record { number = number; request = r }) (client_of all) =
        before.2 (record { number = number; request = r }) called in
        let none_fetched : (f : _) → h.transfer ≡ Fetches f → ⊥ = λ f e. no_get config.client_sizes g.request.method
        g.request.body f method (subst (CarriesBody config.client_sizes g.request.method g.request.body)
        (sym transfer ∙ e) g.carries) in
        let none_bad_block : (u : UploadState) → h.transfer ≡ Uploads u → IsBadFor u h.message → ⊥ =
        λ u e.
        let sends = sends_small config.client_sizes g.request.method g.request.body u method
        (subst (CarriesBody config.client_sizes g.request.method g.request.body) (sym transfer ∙ e) g.carries) in
        let szx = sends.size in
        let low = range.client_szx in
        let most = range.client_limit.1 in
        let limit = taken_short config.client_sizes (client_of w)
        (all_taken config.addresses.server config.client_sizes config.client_setup (client_of w) earlier.client)
        (record { number = number; request = g.request }) g.taken in
        let body : length u.body ≤ length g.request.body = subst (λ (b : List ℕ). length u.body ≤ length b)
        sends.body_is
        (omega arith) in
        none_bad config number all range.client_szx whole in_range h.message h.sending (before.0 h.sending h.sent)
        h.token
        h.request u (h.operation ∙ ap (Calling number h.request) e) r taken (changes_of r.method other)
        (omega (arith, body, limit, most))
        (heard_understood config.addresses.server config.client_sizes config.client_setup (client_of w) c law.client
        h.message h.heard)
        w before earlier range.server_szx sends.num (omega (arith, szx, low)) answered
        in
        record {
          response = h.message;
          heard = h.heard;
          own = (h.sending, h.sent, h.of, h.token);
          made = answered;
          says = says_code h.message h.transfer none_fetched none_bad_block report
              (by_answer config (client_of w) c k number report made) h.may;
          applied = λ success. applied_since config number all range.client_szx whole in_range h.message.code w
              (applies_in config number all range.client_szx whole in_range h.message h.sending
              (before.0 h.sending h.sent) h.of h.token success w before earlier answered);
        }

    changes_in : (t : List Entry) → Later t → Lawful config t → Answering config (client_of t)
        → (report : Report) (r : R.Request)
        → Always (λ past e. ReportsAt config (record { number = number; report = report }) past e
        → WasCalled number r past
        → r.method ≢ Get → ComesTo config report (record { number = number; request = r }) all past e) t
    changes_in [] later law k report r = tt
    changes_in (OfClient c ∷ w) later law k report r = (
      λ made called other. changes_here w c later law k report r made called other,
      changes_in w (later_back config number all range.client_szx whole in_range (OfClient c) w later)
          (lawful_back config w (OfClient c) law) (answering_back config (client_of w) c k) report r,
    )
    changes_in (OfServer c ∷ w) later law k report r = (
      λ made called other. absurd made,
      changes_in w (later_back config number all range.client_szx whole in_range (OfServer c) w later)
          (lawful_back config w (OfServer c) law) k report r,
    )

  -- for each report and each call
  each_at : (P : Report → Taken → List Entry → Entry → Type 0) (t : List Entry)
      → ((report : Report) (x : Taken) → Always (P report x) t)
      → Always (λ past e. (report : Report) (x : Taken) → P report x past e) t
  each_at P [] h = tt
  each_at P (e ∷ t) h = ((λ report x. (h report x).0), each_at P t (λ report x. (h report x).1))

  pub changes_answered : Answering config (client_of all) → ChangesAnswered config all
  changes_answered k =
      each_at (λ report x past e. ReportsAt config (record { number = x.number; report = report }) past e
      → WasCalled x.number x.request past → x.request.method ≢ Get → ComesTo config report x all past e) all
      (λ report x. changes_in x.number all (λ y h. h, λ con h. h, λ y h. h) whole k report x.request)
