-- Which requests register and remove an observer, and what marks and ends it (RFC 7641, sections 3.6, 4.1, 4.2 and
-- 4.5).
use Rattle.std.specs.Prelude.{ℕ, ◌==◌, nat_lt, Bool, true, false, ◌&&◌, Option, Some, None, List, length, if◌then◌else◌}
use Rattle.std.specs.Option.{option_map}
use Rattle.coap_types.specs.declared.request.Method.{Method}
use Rattle.coap_types.specs.declared.request.Method.TheVariants.{Get}
use Rattle.coap_observe.specs.Observers.{Observer, removed, registered, changed_at, reset_at}
use Rattle.coap_observe.specs.Versions.{sequence_number}
use Rattle.coap_resource.specs.Content.{Content, Held}
use Rattle.coap_types.specs.OptionValues.{uint_at}
use Rattle.coap_resource.specs.RequestOptions.{block_of, szx_by}
use Rattle.coap_resource.specs.Serves.{Question, Reply}
use Rattle.coap_exchange.specs.declared.answerer.Asked.{Asked}
use Rattle.coap_exchange.specs.declared.answerer.Ended.{Ended}
use Rattle.coap_exchange.specs.AnswererTrace.{Sending}
use Rattle.coap_exchange.specs.SuccessCodes.{content}
use Rattle.coap_types.specs.declared.option_number.TheConstants.{OBSERVE as observe}
use Rattle.coap_observe.specs.declared.observers.TheConstants.{MAX_OBSERVERS as max_observers}

-- a GET with this value of Observe
abbrev pub is_get : Method → Bool
is_get Get = true
is_get _ = false

abbrev pub is_number : ℕ → Option ℕ → Bool
is_number n None = false
is_number n (Some value) = value == n

abbrev pub observes : ℕ → Question → Bool
observes n q = is_get q.method && is_number n (uint_at observe q.options)

-- Observe 0 registers where the answer is a 2.05 with the start of the body, and a place is free.
abbrev pub registers : Asked → Question → Reply → List Observer → Bool
registers a q reply os =
    observes 0 q && ((reply.code == content) && ((reply.offset == 0)
    && nat_lt (length (removed a.from a.token os)) max_observers))

-- Observe 1 removes, whatever the answer.
abbrev pub observers_with : ℕ → Asked → Question → Reply → List Observer → List Observer
observers_with at a q reply os =
    if registers a q reply os then registered at a.from a.token q.path (szx_by (block_of q.options) q.szx) os
    else if observes 1 q then removed a.from a.token os
    else os

-- a change of a path marks its observers, with its moment
abbrev pub marked_if : ℕ → List (List ℕ) → Content → Content → List Observer → List Observer
marked_if at path old left os = if left.tally.version == old.tally.version then os else changed_at at path os

-- a Reset of what carried Observe, and that it is given up, removes the observer
abbrev pub unless_ended : Option Ended → List Observer → List Observer
unless_ended None os = os
unless_ended (Some x) os = if x.observe then removed x.to x.token os else os

-- a Reset of the last NON of an observer removes it (RFC 7641, section 3.6)
abbrev pub unless_rejected : ℕ → Option Sending → List Observer → List Observer
unless_rejected at None os = os
unless_rejected at (Some x) os = reset_at at x.to x.id os

-- the number that Observe says: of what the path holds, where it is told
abbrev pub sequence : Option Held → Option ℕ
sequence held = option_map (λ (h : Held). sequence_number h.version) held

abbrev pub sequence_if : Bool → Option Held → Option ℕ
sequence_if true held = sequence held
sequence_if false held = None
