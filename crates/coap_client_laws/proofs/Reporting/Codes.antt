-- Success and failure are reported of a call where its request is answered so, and there alone.
use Rattle.std.proofs.Common.{◌≡◌, ◌⊎◌, inl, inr, ℕ, max, Bool, true, Some, List, ◌∷◌, [], refl, ap, sym, subst, ◌∙◌}
use Rattle.coap_types.specs.declared.endpoint.Endpoint.{Endpoint}
use Rattle.coap_layer.specs.declared.setup.Setup.{Setup}
use Rattle.coap_codec.specs.Message.{Message}
use Rattle.coap_block.specs.Sizes.{Sizes}
use Rattle.coap_exchange.specs.declared.asker.Event.TheVariants as event_of
use Rattle.coap_client.specs.Trace.{Request, Report, Failed, Done, Call, Feeds}
use Rattle.coap_client.specs.Own.{Transfer, Operation, Calling, Dropped, Own}
use Rattle.coap_client.specs.Calls.{answer}
use Rattle.coap_client.specs.Calls as calls
use Rattle.coap_client.specs.Effects.{of}
use Rattle.coap_client.specs.Events.{called, answered}
use Rattle.coap_client.specs.Deeds.{at, close}
use Rattle.coap_client.specs.Steps.{reports}
use Rattle.coap_client.specs.Law.{ClientLaw, own_of}
use Rattle.coap_client_laws.specs.Follows.AnswersLastRequest.{Answers, AnswersLast}
use Rattle.coap_client_laws.specs.Follows.Begins.{WasSent}
use Rattle.coap_client_laws.specs.Follows.OfCalls.{CarriesBody, IsOfCall, AreOfCalls}
use Rattle.coap_client_laws.specs.Follows.Order.{call_of}
use Rattle.coap_client.specs.Sendings.{Sending, hears, last_sent}
use Rattle.coap_client.proofs.Facts.Turning.Leading.{client_back}
use Rattle.coap_client_laws.proofs.Sending.OfCalls.{are_of_calls}
use Rattle.coap_client.proofs.Facts.Places.Once.{beneath}
use Rattle.coap_client_laws.proofs.Uploading.SentSoFar.{IfTracked, Tracked}
use Rattle.coap_client_laws.proofs.Uploading.AllSent.{all_sends}
use Rattle.coap_client_laws.proofs.Uploading.Pieces.{answers_last}
use Rattle.coap_client_laws.proofs.Sending.LiveTokens.{last_was_sent}
use Rattle.coap_client_laws.specs.Follows.Codes.{Succeeds, Fails, IsOfCode, ReportsCodes}
use Rattle.coap_client_laws.proofs.Reporting.AnswerReports.{GivesReport, gives_of}
use Rattle.coap_client_laws.proofs.Reporting.AnswerCodes.{done_of, failed_of, each_done_of, each_failed_of}

module _ (sizes : Sizes) where
  -- the answer to the call that runs is reported

  pub reports_answer : (s : Own) (c : Call) (k : ℕ) (r : Request) (tr : Transfer) (m : Message) (final : Bool)
      (report : Report) → s.running ≡ Some (Calling k r tr) → hears c ≡ Some m → answer r tr m ≡ calls.Ends final report
      → reports s c ≡ of k report
  reports_answer s (Feeds now from bytes w up settled (Some (event_of.Answer a)) sent token was) k r tr m final report
      runs heard ends_so =
      let same : a ≡ m = cc heard in
      let x : Own = at now s in
      let ended : answer r tr a ≡ calls.Ends final report = ap (answer r tr) same ∙ ends_so in
      ap (λ op. (close (max s.clock now) (answered x (max s.clock now) a op) token).report) runs
      ∙ ap (λ n. (close (max s.clock now) (called k r tr x n) token).report) ended
  reports_answer s _ k r tr m final report runs heard ends_so = absurd (cc heard)

  -- what runs is the request that was sent last, as its call asks

  of_call_in : (t : List Call) → AreOfCalls sizes t → (x : Sending) (k : ℕ) → WasSent sizes x t
      → call_of x.operation ≡ Some k → (past : List Call) × IsOfCall sizes k x past
  of_call_in [] law x k h of = absurd h
  of_call_in (c ∷ t) law x k (inl h) of = (t, law.0 x k h of)
  of_call_in (c ∷ t) law x k (inr h) of = of_call_in t law.1 x k h of

  pub record Runs (t : List Call) (k : ℕ) (r : Request) (tr : Transfer) : Type 0 where
    pub sending : Sending
    pub last : last_sent sizes t ≡ Some sending
    pub operation : sending.operation ≡ Calling k r tr
    pub body : List ℕ
    pub carries : CarriesBody sizes r.method body tr

  module _ (server : Endpoint) (setup : Setup) where
    pub runs_as : (t : List Call) → ClientLaw server sizes setup t → (k : ℕ) (r : Request) (tr : Transfer)
        → (own_of sizes t).running ≡ Some (Calling k r tr) → Runs t k r tr
    runs_as t law k r tr is = by x.same
      where
        x : Tracked sizes t (Calling k r tr) (beneath server sizes setup t).running
        x = subst (λ o. IfTracked sizes t o (beneath server sizes setup t).running) is
            (all_sends sizes server setup t law.rows law.exchanges.rows).tracked

        by : (Calling k r tr ≡ Dropped) ⊎ (x.sending.operation ≡ Calling k r tr) → Runs t k r tr
        by (inl d) = absurd (cc d)
        by (inr same) =
            let g = (of_call_in t (are_of_calls sizes t) x.sending k (last_was_sent sizes t x.sending x.last)
            (ap call_of same)).1 in
            let op : Calling k r tr ≡ Calling k (record g.request { body = [] }) g.transfer = sym same ∙ g.operation in
            let request_is : r ≡ record g.request { body = [] } = cc op in
            let transfer_is : tr ≡ g.transfer = cc op in
            let method_is : r.method ≡ g.request.method = ap (λ (q : Request). q.method) request_is in
            record {
              sending = x.sending;
              last = x.last;
              operation = same;
              body = g.request.body;
              carries = subst (λ z. CarriesBody sizes r.method g.request.body z) (sym transfer_is)
                  (subst (λ z. CarriesBody sizes z g.request.body g.transfer) (sym method_is) g.carries);
            }

    module _ (t : List Call) (c : Call) (law : ClientLaw server sizes setup t)
        (answers : (m : Message) → hears c ≡ Some m → Answers sizes t c m) (k : ℕ) where
      of_code : (Means : Operation → ℕ → Type 0) (report : Report) (code : ℕ)
          (g : GivesReport (own_of sizes t) (hears c) k report) → Means (Calling k g.request g.transfer) g.message.code
          → g.message.code ≡ code → IsOfCode sizes Means k code t c
      of_code Means report code g means same =
          let a = answers g.message g.heard_it in
          let runs = runs_as t law k g.request g.transfer g.runs in
          let sending : a.sending ≡ runs.sending = (let z : Some a.sending ≡ Some runs.sending = sym a.last
          ∙ runs.last in cc z) in
          let op : a.sending.operation ≡ Calling k g.request g.transfer = ap (λ (x : Sending). x.operation) sending
          ∙ runs.operation in
          record {
            message = g.message;
            heard = record {
              heard = g.heard_it;
              sending = a.sending;
              sent = last_was_sent sizes t a.sending a.last;
              of_call = ap call_of op;
              token = a.token;
            };
            last = a.last;
            code_is = same;
            means = subst (Means a.sending.operation) same (subst (λ o. Means o g.message.code) (sym op) means);
          }

      done_so : (code : ℕ) → reports (own_of sizes t) c ≡ of k (Done code) → IsOfCode sizes Succeeds k code t c
      done_so code made =
          let g = gives_of sizes t c k (Done code) refl made in
          let runs = runs_as t law k g.request g.transfer g.runs in
          let d = done_of sizes k g.request runs.body g.message g.transfer runs.carries g.final code g.ends_so in
          of_code Succeeds (Done code) code g d.0 d.1

      failed_so : (code : ℕ) → reports (own_of sizes t) c ≡ of k (Failed code) → IsOfCode sizes Fails k code t c
      failed_so code made =
          let g = gives_of sizes t c k (Failed code) refl made in
          let runs = runs_as t law k g.request g.transfer g.runs in
          let d = failed_of sizes k g.request runs.body g.message g.transfer runs.carries g.final code g.ends_so in
          of_code Fails (Failed code) code g d.0 d.1

      each_done_so : (r : Request) (tr : Transfer) (m : Message) → (own_of sizes t).running ≡ Some (Calling k r tr)
          → hears c ≡ Some m → Succeeds (Calling k r tr) m.code → reports (own_of sizes t) c ≡ of k (Done m.code)
      each_done_so r tr m is heard so =
          let runs = runs_as t law k r tr is in
          reports_answer (own_of sizes t) c k r tr m true (Done m.code) is heard
          (each_done_of sizes k r runs.body m tr runs.carries so)

      each_failed_so : (r : Request) (tr : Transfer) (m : Message) → (own_of sizes t).running ≡ Some (Calling k r tr)
          → hears c ≡ Some m → Fails (Calling k r tr) m.code → reports (own_of sizes t) c ≡ of k (Failed m.code)
      each_failed_so r tr m is heard so =
          let runs = runs_as t law k r tr is in
          reports_answer (own_of sizes t) c k r tr m true (Failed m.code) is heard
          (each_failed_of sizes k r runs.body m tr runs.carries so)

    all_codes : (t : List Call) → ClientLaw server sizes setup t → AnswersLast sizes t → ReportsCodes sizes t
    all_codes [] law answers = tt
    all_codes (c ∷ t) law answers =
        let before = client_back server sizes setup (c ∷ []) t law in (
          record {
            done = λ k code made. done_so t c before answers.0 k code made;
            failed = λ k code made. failed_so t c before answers.0 k code made;
            each_done = λ k r tr m is heard so. each_done_so t c before answers.0 k r tr m is heard so;
            each_failed = λ k r tr m is heard so. each_failed_so t c before answers.0 k r tr m is heard so;
          },
          all_codes t before answers.1,
        )

pub reports_codes : (server : Endpoint) (sizes : Sizes) (setup : Setup) (t : List Call) → ClientLaw server sizes setup t
    → ReportsCodes sizes t
reports_codes server sizes setup t law = all_codes sizes server setup t law (answers_last sizes server setup t law)
