-- What is applied of a call that is reported as success, and of one that is reported as Failed (RFC 7252, sections 5.8
-- and 5.9).
use Rattle.std.specs.Prelude.{◌≡◌, ◌≢◌, ℕ, true, Option, None, List}
use Rattle.coap_types.specs.Past.{Sometime, Always}
use Rattle.coap_types.specs.declared.message.TheConstants.Code as codes
use Rattle.coap_types.specs.declared.request.Method.TheVariants.{Get}
use Rattle.coap_codec.specs.Message.{Message}
use Rattle.coap_resource.specs.Content.{Held}
use Rattle.coap_resource.specs.RequestOptions.{precondition_fails}
use Rattle.coap_client.specs.Trace.{Request, Done, Failed}
use Rattle.coap_promise.specs.Answers.{AnswersAt}
use Rattle.coap_promise.specs.Applied.{conditions_of}
use Rattle.coap_record.specs.Events.{Config}
use Rattle.coap_record.specs.Record.{Entry}
use Rattle.coap_promise.specs.Words.{ReportsAt, WasCalled, SentFor, AppliesFor, holds_at}

-- What a failure says of what the call's path holds: 4.04, that it holds nothing; 4.12 to a call that is no GET, that
-- the preconditions of the call fail.
pub record Explains (code : ℕ) (r : Request) (held : Option Held) : Type 0 where
  pub not_found : code ≡ codes.NOT_FOUND.0 → held ≡ None
  pub precondition : code ≡ codes.PRECONDITION_FAILED.0 → r.method ≢ Get
      → precondition_fails held (conditions_of r) ≡ true

module _ (config : Config) where
  -- a request of the call is applied here, after the call
  pub record AppliesSince (number : ℕ) (all past : List Entry) (e : Entry) : Type 0 where
    pub applies : AppliesFor config number all past e
    pub request : Request
    pub called : WasCalled number request past

  -- .. and this is the code of its reply
  pub record AppliesWith (number code : ℕ) (all past : List Entry) (e : Entry) : Type 0 where
    pub since : AppliesSince number all past e
    pub code_is : since.applies.request.reply.code ≡ code

  -- Where success is reported, one was applied after the call and not after the report, and this is its code.
  abbrev pub OnceDone : List Entry → Type 0
  OnceDone all = (number code : ℕ) → Always (λ past e. ReportsAt config
      (record { number = number; report = Done code }) past e → Sometime (AppliesWith number code all) past) all

  -- Where Failed is reported, none is applied, before or after.
  abbrev pub NeverFailed : List Entry → Type 0
  NeverFailed all = (number code : ℕ) → Sometime
      (ReportsAt config (record { number = number; report = Failed code })) all
      → Sometime (AppliesFor config number all) all → ⊥

  -- the server answers a request of the call here, after the call, with this code; what that says is so here
  pub record FailsHere (number code : ℕ) (past : List Entry) (e : Entry) : Type 0 where
    pub response : Message
    pub made : AnswersAt config response past e
    pub code_is : response.code ≡ code
    pub own : SentFor config number response.token past
    pub request : Request
    pub called : WasCalled number request past
    pub explains : Explains code request (holds_at config request.path past)

  -- Where Failed is reported, the server said so after the call and not after the report.
  abbrev pub EachFailed : List Entry → Type 0
  EachFailed all = (number code : ℕ) → Always (λ past e. ReportsAt config
      (record { number = number; report = Failed code }) past e → Sometime (FailsHere number code) past) all
