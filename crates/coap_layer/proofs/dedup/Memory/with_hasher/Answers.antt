use Rattle.std.proofs.Common.{arith, sym, subst}
use Rattle.std.specs.List.Sorted.{IsNonDecreasingBy}
use Rattle.coap_layer.proofs.dedup.Memory.with_hasher.Goals as goal

pub invariant_of-result : goal.invariant_of-result
invariant_of-result g c = (
  subst (IsNonDecreasingBy (λ e. e.1.at.0)) (sym c.new.ensures) (λ i j d le lt. absurd (omega (arith, lt))),
  tt,
)
