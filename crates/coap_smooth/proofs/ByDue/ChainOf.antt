-- What stands in the law of an object above the message layer is a chain of steps of it.
use Rattle.std.proofs.Common.{List, [], ◌∷◌, ◌++◌, ap, refl}
use Rattle.coap_layer.specs.Machine.State as L
use Rattle.coap_layer.specs.Machine.Steps.{Asked, Steps}
use Rattle.coap_layer.proofs.Facts.StepsOfLayer.{steps_split, one_left}
use Rattle.coap_exchange.specs.Above.{State, Chain, Rows, sum_of, asked_by}

module _ {Own Call : Type 0} (IsRight : Own → Call → Type 0) (after : Own → Call → Own)
    (lower : Own → Call → List Asked) (start : Own) (fresh : L.State) where
  abbrev sum : List Call → Own
  sum t = sum_of start after t

  abbrev asked : List Call → List Asked
  asked t = asked_by start after lower t

  -- what these calls are left with, above a layer that is left so
  abbrev left_with : List Call → L.State → State Own L.State
  left_with t l = record { own = sum t; layer = l }

  pub chain_of : (cs past : List Call) → Rows start after IsRight (cs ++ past) → (left : L.State)
      → Steps fresh (asked (cs ++ past)) left → (was : L.State) → Steps fresh (asked past) was
      → Chain IsRight after lower Steps (left_with past was) cs (left_with (cs ++ past) left)
  chain_of [] past rows left steps was then =
      ap (λ l. left_with past l) (one_left fresh (asked past) left was steps then)
  chain_of (c ∷ cs) past rows left steps was then =
      let k = steps_split fresh left (lower (sum (cs ++ past)) c) (asked (cs ++ past)) steps in (
        left_with (cs ++ past) k.0,
        chain_of cs past rows.1 k.0 k.1 was then,
        record { right = rows.0; own_is = refl; under = k.2 },
      )
