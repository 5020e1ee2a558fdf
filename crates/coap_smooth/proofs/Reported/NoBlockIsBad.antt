-- Where what is reported of a call that is no GET is the code of a response, no block of an upload is bad.
use Rattle.std.proofs.Common.{◌≡◌, ◌≢◌, ⊎_elim, ℕ, Some, List, [], ◌∷◌, sym, subst, ◌∙◌}
use Rattle.coap_types.specs.Past.{Always}
use Rattle.coap_types.specs.declared.request.Method.{Method}
use Rattle.coap_types.specs.declared.request.Method.TheVariants.{Get}
use Rattle.coap_block.specs.UploadStep.{UploadState}
use Rattle.coap_block.specs.Sizes.{Sizes}
use Rattle.coap_client.specs.Effects.{of}
use Rattle.coap_client_laws.specs.Follows.OfCalls.{CarriesBody}
use Rattle.coap_client.specs.Sendings.{Taken}
use Rattle.coap_client.specs.Law.{own_of}
use Rattle.coap_client.specs.Own.{Uploads, Calling}
use Rattle.coap_client.specs.Steps.{reports}
use Rattle.coap_client.specs.Trace.{Request, Report, BadBlock, Done, Failed, Call}
use Rattle.coap_client_laws.proofs.Facts.Laws as client_facts
use Rattle.coap_record.specs.Events.{Config}
use Rattle.coap_record.specs.Record.{Entry, OfClient, OfServer, client_of}
use Rattle.coap_smooth.specs.SmoothAnswers.{ComesTo}
use Rattle.coap_promise.specs.Words.{ReportsAt, WasCalled}
use Rattle.coap_smooth.proofs.Reports.ByAnswer.{Answering, answering_back, heard_so}
use Rattle.coap_promise.proofs.Facts.Requests.LastRequests.{of_call_at}

no_get : (sizes : Sizes) (m : Method) (body : List ℕ) (u : UploadState) → CarriesBody sizes m body (Uploads u) → m ≢ Get
no_get sizes m body u h is = subst (λ (k : Method). CarriesBody sizes k body (Uploads u)) is h

module _ (config : Config) (all : List Entry) where
  abbrev Comes : List Entry → Entry → Type 0
  Comes past e =
      (report : Report) (x : Taken) → ReportsAt config (record { number = x.number; report = report }) past e
      → WasCalled x.number x.request past → x.request.method ≢ Get → ComesTo config report x all past e

  abbrev pub NoneBad : List Call → Call → Type 0
  NoneBad past c =
      (number : ℕ) (r : Request) (u : UploadState)
      → (own_of config.client_sizes past).running ≡ Some (Calling number r (Uploads u))
      → reports (own_of config.client_sizes past) c ≡ of number BadBlock → ⊥

  here : (w : List Entry) (c : Call) → Answering config (c ∷ client_of w) → Comes w (OfClient c)
      → NoneBad (client_of w) c
  here w c k comes number r u run made =
      let h = heard_so config (client_of w) c k number BadBlock made in
      let g = of_call_at config.client_sizes (client_of w)
      (client_facts.of_calls config.client_sizes (client_of w)) h.sending number h.sent h.of in
      let both : Some (Calling number h.request h.transfer) ≡ Some (Calling number r (Uploads u)) = sym h.runs ∙ run in
      let one : Calling number h.request h.transfer ≡ Calling number r (Uploads u) = cc both in
      let transfer : h.transfer ≡ Uploads u = cc one in
      let calling : Calling number h.request h.transfer ≡ Calling number (record g.request { body = [] }) g.transfer =
      sym h.operation ∙ g.operation in
      let same : h.transfer ≡ g.transfer = cc calling in
      let carries = subst (CarriesBody config.client_sizes g.request.method g.request.body) (sym same ∙ transfer)
      g.carries in
      let says = (comes BadBlock (record { number = number; request = g.request }) made g.taken
      (no_get config.client_sizes g.request.method g.request.body u carries)).says in
      ⊎_elim (λ (d : BadBlock ≡ Done _). absurd (cc d)) (λ (d : BadBlock ≡ Failed _). absurd (cc d)) says

  pub none_bad : (t : List Entry) → Answering config (client_of t) → Always Comes t → Always NoneBad (client_of t)
  none_bad [] k h = tt
  none_bad (OfClient c ∷ w) k h = (here w c k h.0, none_bad w (answering_back config (client_of w) c k) h.1)
  none_bad (OfServer c ∷ w) k h = none_bad w k h.1
