-- Where Done is reported, a request of the call was applied between call and report, by two clocks: what stands of it at
-- any time (Any) is handed on.
use Rattle.std.proofs.Common.{◌≡◌, ◌≤◌, ℕ, true, Some, List}
use Rattle.coap_types.specs.Past.{Sometime}
use Rattle.coap_codec.specs.Message.{Message}
use Rattle.coap_client.specs.Sendings.{Taken, WasTaken, Sending}
use Rattle.coap_client_laws.specs.Follows.Order.{call_of}
use Rattle.coap_server.specs.Serving.{is_applied}
use Rattle.coap_promise.specs.Answers.{AnswersAt}
use Rattle.coap_promise.specs.Done.{AppliesSince, AppliesWith, OnceDone}
use Rattle.coap_promise.proofs.Any.Reports.OnceDone as any
use Rattle.coap_promise.proofs.Facts.Reports.Located.{LaterAll, SentAll}
use Rattle.coap_promise.proofs.Facts.Requests.OfACall.{Lawful, at_any_time}
use Rattle.coap_record.specs.Events.{Config}
use Rattle.coap_record.specs.Legal.{IsRequest}
use Rattle.coap_record.specs.Record.{Entry, client_of}

module _ (config : Config) (number : ℕ) (all : List Entry) (small : config.client_sizes.szx ≤ 6)
    (whole : Lawful config all)
    (in_range : (x : Taken) → WasTaken x (client_of all) → IsRequest x.request) where
  -- the answer to a request of the call
  pub applies_in : (m : Message) (s : Sending) → SentAll config number all small whole in_range s
      → call_of s.operation ≡ Some number → s.token ≡ m.token → is_applied m.code ≡ true
      → (w : List Entry) → LaterAll config number all small whole in_range w → Lawful config w
      → Sometime (AnswersAt config m) w → Sometime (AppliesWith config number m.code all) w
  applies_in m s sent of token success w later law =
      any.applies_in config number all small (at_any_time whole) in_range m s sent of token success w later
      (at_any_time law)

  -- whatever its code is
  pub applied_since : (code : ℕ) (w : List Entry) → Sometime (AppliesWith config number code all) w
      → Sometime (AppliesSince config number all) w
  applied_since = any.applied_since config number all small (at_any_time whole) in_range

pub once_done : (config : Config) (all : List Entry) → config.client_sizes.szx ≤ 6 → Lawful config all
    → ((x : Taken) → WasTaken x (client_of all) → IsRequest x.request) → OnceDone config all
once_done config all small law = any.once_done config all small (at_any_time law)
