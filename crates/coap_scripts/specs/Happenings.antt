-- What happens at an end, in words.
use Rattle.std.specs.Prelude.{ℕ, ◌/◌, ◌%◌, ◌==◌, Bool, true, false, List, [], ◌++◌, codes, decimal, length}
use Rattle.std.specs.Prelude.{Option, Some, None, Result, Ok, Err, if◌then◌else◌}
use Rattle.coap_client.specs.RefusalNumbers.{call_refusal_number, cancel_refusal_number}
use Rattle.coap_client.specs.declared.client.report.CallId.{CallId}
use Rattle.coap_client.specs.declared.refusals.CallRefusal.{CallRefusal}
use Rattle.coap_client.specs.declared.refusals.CancelRefusal.{CancelRefusal}
use Rattle.coap_resource.specs.Content.{refusal_number}
use Rattle.coap_resource.specs.declared.refusal.StoreRefusal.{StoreRefusal}
use Rattle.coap_types.specs.declared.endpoint.Endpoint.{Endpoint}
use Rattle.coap_types.specs.declared.request.Method.{Method}
use Rattle.coap_types.specs.declared.request.Method.TheVariants.{Get, Post, Put, Delete}
use Rattle.coap_run.specs.declared.running.event.What.{What}
use Rattle.coap_run.specs.declared.running.event.What.TheVariants as what
use Rattle.coap_run.specs.declared.running.record.AppliedRequest.{AppliedRequest}
use Rattle.coap_run.specs.declared.running.record.Kind.{Kind}
use Rattle.coap_run.specs.declared.running.record.Kind.TheVariants as kind
use Rattle.coap_print.specs.Datagrams.{length_text}
use Rattle.coap_print.specs.Places.{endpoint_text}
use Rattle.coap_scripts.specs.ReportWords.{report_words}
use Rattle.coap_print.specs.Segments.{path_text}
use Rattle.coap_scripts.specs.declared.chart.age.Age.{Age}

-- what is behind whole seconds, in milliseconds: no more digits than it takes
abbrev pub fraction_text : ℕ → List ℕ
fraction_text ms =
    if ms == 0 then codes " s"
    else if ms % 100 == 0 then codes "." ++ (decimal (ms / 100) ++ codes " s")
    else if ms % 10 == 0 then codes "." ++ (decimal (ms / 100) ++ (decimal (ms / 10 % 10) ++ codes " s"))
    else codes "." ++ (decimal (ms / 100) ++ (decimal (ms / 10 % 10) ++ (decimal (ms % 10) ++ codes " s")))

-- an age in seconds
abbrev pub age_text : ℕ → List ℕ
age_text ms = codes "age " ++ (decimal (ms / 1000) ++ fraction_text (ms % 1000))

-- .. where it is known
abbrev pub age_words : Option Age → List ℕ
age_words None = []
age_words (Some age) = codes ", " ++ age_text age.0

-- the name of a method (RFC 7252, section 12.1.1)
abbrev pub method_name : Method → List ℕ
method_name Get = codes "GET"
method_name Post = codes "POST"
method_name Put = codes "PUT"
method_name Delete = codes "DELETE"

abbrev pub request_words : Method → List (List ℕ) → List ℕ
request_words method path = method_name method ++ (codes " " ++ path_text path)

-- the answer to a call or an observation
abbrev pub answer_words : Result CallId CallRefusal → List ℕ
answer_words (Ok id) = codes " " ++ (decimal id.0 ++ codes ": ")
answer_words (Err refusal) = codes " refused " ++ (decimal (call_refusal_number refusal) ++ codes ": ")

-- .. to a cancel
abbrev pub cancel_words : Result (Unit {0}) CancelRefusal → List ℕ
cancel_words (Ok done) = []
cancel_words (Err refusal) = codes ": refused " ++ decimal (cancel_refusal_number refusal)

-- .. to a forgetting
abbrev pub known_words : Bool → List ℕ
known_words true = []
known_words false = codes ": there is no such observation"

abbrev pub refusal_words : StoreRefusal → List ℕ
refusal_words refusal = codes ": refused " ++ decimal (refusal_number refusal)

-- .. to a local change
abbrev pub put_words : Result ℕ StoreRefusal → List ℕ
put_words (Ok version) = codes ": version " ++ decimal version
put_words (Err refusal) = refusal_words refusal

-- .. to a removal
abbrev pub gone_words : Result Bool StoreRefusal → List ℕ
gone_words (Ok true) = []
gone_words (Ok false) = codes ": nothing is there"
gone_words (Err refusal) = refusal_words refusal

-- whose request is applied: a call's, or that of another endpoint
abbrev pub whose_words : Option CallId → Endpoint → List ℕ
whose_words None from = codes " from " ++ endpoint_text from
whose_words (Some call) from = codes " of call " ++ decimal call.0

-- the version that it made
abbrev pub made_words : ℕ → List ℕ
made_words version = if version == 0 then [] else codes ", version " ++ decimal version

module _ {A : Type 0} where
  abbrev pub call_name : What A → List ℕ
  call_name (what.Observe path) = codes "observe"
  call_name other = codes "call"

  -- what is asked for: the method and the path of a request, and the length of its body
  abbrev pub asked_words : What A → List ℕ
  asked_words (what.Call request) = request_words request.method request.path ++ length_text (length request.body)
  asked_words (what.Observe path) = path_text path
  asked_words other = []

  -- the number of the observation that is ended
  abbrev pub id_words : What A → List ℕ
  id_words (what.Cancel id) = codes " " ++ decimal id.0
  id_words (what.Forget id) = codes " " ++ decimal id.0
  id_words other = []

  -- the path of a local change, and how long the body is
  abbrev pub change_words : What A → List ℕ
  change_words (what.Set path format body) = codes " " ++ (path_text path ++ length_text (length body))
  change_words other = []

  -- the path of a removal
  abbrev pub removal_words : What A → List ℕ
  removal_words (what.Remove path) = codes " " ++ path_text path
  removal_words other = []

  abbrev pub applied_words : AppliedRequest A → List ℕ
  applied_words request =
      codes "applied: " ++ (request_words request.method request.path
      ++ (whose_words request.call request.from ++ made_words request.version))

  -- what a line of a record tells, of an event that asked for this
  abbrev pub happening_text : What A → Option Age → Kind A → List ℕ
  happening_text asked age (kind.Takes answer) = call_name asked ++ (answer_words answer ++ asked_words asked)
  happening_text asked age (kind.Cancels answer) = codes "cancel" ++ (id_words asked ++ cancel_words answer)
  happening_text asked age (kind.Forgets is_known) = codes "forget" ++ (id_words asked ++ known_words is_known)
  happening_text asked age (kind.Puts answer) = codes "set" ++ (change_words asked ++ put_words answer)
  happening_text asked age (kind.Removes answer) = codes "remove" ++ (removal_words asked ++ gone_words answer)
  happening_text asked age (kind.Applies request) = applied_words request
  happening_text asked age (kind.Reports id report) =
      codes "report " ++ (decimal id.0 ++ (codes ": " ++ (report_words report ++ age_words age)))
  happening_text asked age kind.Refused = codes "no memory: this counts as lost"
  happening_text asked age other = []
