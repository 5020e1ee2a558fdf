-- What a trace does beside its link: it tells of each datagram that passes, once, and counts those that it could not
-- tell of.
use Rattle.std.specs.Prelude.{ℕ, Bool, true, List, ◌≡◌, Option, Some, None, if◌then◌else◌}
use Rattle.coap_types.specs.declared.endpoint.Endpoint.{Endpoint}
use Rattle.coap_links.specs.Carried.{Packet}
use Rattle.coap_links.specs.Faults.{raised}
use Rattle.coap_links.specs.declared.trace.Way.{Way}
use Rattle.coap_links.specs.declared.trace.Way.TheVariants.{Comes}

-- the datagram is told of, or one more could not be (`t` and `u` are the teller before and after, `n` and `m` the
-- counts)
abbrev pub IsTold : {T : Type 0} → (T → Way → Endpoint → List ℕ → Bool → T → Type 0) → T → ℕ → Way → Packet → T → ℕ
    → Type 0
IsTold tells t n way p u m = (told : Bool) × tells t way p.0 p.1 told u × (m ≡ if told then n else raised n)

-- what came is told of; where nothing came, nothing is
abbrev pub IsToldWhere : {T : Type 0} → (T → Way → Endpoint → List ℕ → Bool → T → Type 0) → T → ℕ → Option Packet → T
    → ℕ
    → Type 0
IsToldWhere tells t n None u m = (u ≡ t) × (m ≡ n)
IsToldWhere tells t n (Some p) u m = IsTold tells t n Comes p u m

-- a teller that need not be there: where it is not, nothing is told of, and nothing is missed
abbrev pub TellsWhere : {T : Type 0} → (T → Way → Endpoint → List ℕ → Bool → T → Type 0) → Option T → Way → Endpoint
    → List ℕ → Bool → Option T → Type 0
TellsWhere tells None way peer bytes told u = (told ≡ true) × (u ≡ None)
TellsWhere {T} tells (Some t) way peer bytes told u = (v : T) × tells t way peer bytes told v × (u ≡ Some v)
