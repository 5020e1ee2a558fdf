use Rattle.std.proofs.Common.{◌∙◌}
use Rattle.coap_types.proofs.Paths.AsTheirBytes.{same_clones}
use Rattle.coap_types.proofs.path.PathClone.clone.Goals as goal

pub invariant_of-result : goal.invariant_of-result
invariant_of-result g c = rw (same_clones _ _ c.in_ok-segments.ensures.cases.0) c.self.invariant

pub returns : goal.returns
returns g c = record { cases = same_clones _ _ c.in_ok-segments.ensures.cases.0 ∙ c.self.view_is }
