-- How a client numbers its calls and its observations (RFC 7252, section 5.2).
use Rattle.std.specs.Prelude.{◌≡◌, ℕ, Option, Some, None, List, Ok}
use Rattle.coap_types.specs.Past.{Ever, Always}
use Rattle.coap_client.specs.Trace.{Call, Calls, Observes}

-- the number that a call gives
abbrev pub number_given : Call → Option ℕ
number_given (Calls now r (Ok number)) = Some number
number_given (Observes now path (Ok number)) = Some number
number_given c = None

-- Each number is given once, to a call or to an observation.
abbrev pub NumbersOnce : List Call → Type 0
NumbersOnce trace = Always (λ past c. (number : ℕ) → number_given c ≡ Some number
    → Ever (λ b. number_given b ≡ Some number) past → ⊥) trace
