use Rattle.std.proofs.Common.{◌≡◌, ◌≤◌, ◌<◌, ◌+◌, ◌-◌, ◌++◌, ℕ, [], ◌∷◌, None, Some, length, drop, arith, rules, ap}
use Rattle.std.proofs.Common.{sym, subst, ◌∙◌, refl}
use Rattle.std.specs.List.{IsDistinct}
use Rattle.std.specs.Map.{keys_of}
use Rattle.coap_layer.specs.Machine.Chains.{entries_of}
use Rattle.coap_layer.proofs.Calls.Chained.{chains_none, none_distinct}
use Rattle.coap_layer.proofs.dedup.log.Log.new.Goals as goal

pub invariant_of-result : goal.invariant_of-result
invariant_of-result g c =
    let none = c.new.ensures.items in
    let spare = c.new.ensures.spare in (
      omega arith,
      omega arith,
      c.requires,
      λ h. absurd (omega (arith, h, spare)),
      subst (λ ls. IsDistinct g.K.PartialEq.eq (keys_of (entries_of 0 ls))) (sym none) (none_distinct g.K.PartialEq.eq),
      chains_none _ _ _ _ _ _ c.new.result.items none,
    )
