-- What is applied for a call (RFC 7252, sections 5.8 and 5.10.8; RFC 7959, section 2.5).
use Rattle.std.specs.Prelude.{◌≡◌, ℕ, ◌+◌, true, false, Option, None, Some, List, [], ◌∷◌, ◌++◌, map}
use Rattle.coap_types.specs.CoapOption.{CoapOption, option}
use Rattle.coap_types.specs.Past.{Sometime, Always}
use Rattle.coap_types.specs.declared.option_number.TheConstants.{IF_MATCH as if_match, IF_NONE_MATCH as if_none_match}
use Rattle.coap_types.specs.declared.request.Method.{Method}
use Rattle.coap_types.specs.declared.request.Method.TheVariants.{Get, Post, Put, Delete}
use Rattle.coap_resource.specs.Content.{Held}
use Rattle.coap_resource.specs.RequestOptions.{precondition_fails}
use Rattle.coap_client.specs.Requests.{flag_option}
use Rattle.coap_client.specs.Trace.{Request}
use Rattle.coap_server.specs.Serving.{is_applied}
use Rattle.coap_server.specs.Follows.Serves.{Serving}
use Rattle.coap_record.specs.Events.{Config}
use Rattle.coap_record.specs.Record.{Entry}
use Rattle.coap_promise.specs.Words.{WasCalled, SentFor, ServesAt, AppliesFor, holds_at, changes_in}

-- the options that say the preconditions of a call (RFC 7252, section 5.10.8)
abbrev pub conditions_of : Request → List CoapOption
conditions_of r = map (option if_match) r.if_match ++ flag_option if_none_match r.if_none_match

-- What a request with this body makes of what its path holds: a PUT puts the body, with the format of the call, a POST
-- joins it to what is there, whose format stays, each under the next version; after a DELETE nothing is there.
abbrev pub Does : Method → Request → List ℕ → ℕ → Option Held → Option Held → Type 0
Does Get r body version before after = ⊥
Does Put r body version before after = after ≡ Some (record { version = version; format = r.format; body = body })
Does Post r body version before after = (held : Held) × (before ≡ Some held)
    × (after ≡ Some (record { version = version; format = held.format; body = held.body ++ body }))
Does Delete r body version before after = after ≡ None

-- the body of a call: a PUT and a POST have one (RFC 7252, section 5.8)
abbrev pub body_of : Method → Request → List ℕ
body_of Put r = r.body
body_of Post r = r.body
body_of Get r = []
body_of Delete r = []

module _ (config : Config) where
  -- It has the path and the method of the call, which was made before; the preconditions of the call hold of what the
  -- path holds; the store is asked with the whole body of the call; and it does to that path what the call asks, with
  -- that body.
  pub record IsWhole (number : ℕ) (past : List Entry) (e : Entry) (x : Serving) : Type 0 where
    pub request : Request
    pub called : WasCalled number request past
    pub method : x.question.method ≡ request.method
    pub path : x.question.path ≡ request.path
    pub conditions : precondition_fails (holds_at config request.path past) (conditions_of request) ≡ false
    pub body : x.question.body ≡ body_of request.method request
    pub does : Does request.method request request.body (changes_in config past + 1) (holds_at config request.path past)
        (holds_at config request.path (e ∷ past))

  abbrev pub AppliedWhole : List Entry → Type 0
  AppliedWhole all = (number : ℕ) → Always (λ past e. (a : AppliesFor config number all past e)
      → IsWhole number past e a.request) all

  -- Each that is applied for the client's address belongs to a call.
  abbrev pub EachBelongs : List Entry → Type 0
  EachBelongs all = Always (λ past e. (x : Serving) → ServesAt config x past e → is_applied x.reply.code ≡ true
      → x.asked.from ≡ config.addresses.client → (number : ℕ) × SentFor config number x.asked.token all) all

  -- At most one applied request belongs to a call.
  abbrev pub AtMostOnce : List Entry → Type 0
  AtMostOnce all = (number : ℕ) → Always (λ past e. AppliesFor config number all past e
      → Sometime (AppliesFor config number all) past → ⊥) all
