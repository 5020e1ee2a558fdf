-- What contracts see of the answers to a client's calls.
use Rattle.std.specs.Prelude.{ℕ, ◌+◌, ◌==◌, Option, Some, None, List, [], ◌∷◌, Result, Ok, Err, if◌then◌else◌}
use Rattle.std.specs.Option.{option_map}
use Rattle.coap_client.specs.declared.refusals.CancelRefusal.{CancelRefusal}
use Rattle.coap_client.specs.Own.{Observation}

-- why a cancel is not taken
abbrev pub refusal_in : {X : Type 0} → Result X CancelRefusal → Option CancelRefusal
refusal_in (Ok done) = None
refusal_in (Err why) = Some why

-- the place of the observation of that number, the first one
abbrev pub place_in : ℕ → List Observation → Option ℕ
place_in number [] = None
place_in number (o ∷ os) = if o.number == number then Some 0 else option_map (λ k. 1 + k) (place_in number os)
