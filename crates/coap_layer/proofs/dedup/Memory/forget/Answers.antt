use Rattle.std.proofs.Common.{arith, ap, sym, subst, ◌∙◌}
use Rattle.std.specs.List.Sorted.{IsNonDecreasingBy}
use Rattle.std.specs.Option.{option_map}
use Rattle.std.proofs.lemmas.List.Sorted.{IsNonDecreasingBy-drop}
use Rattle.coap_layer.specs.Machine.Entries.{arrived_as, arrivals_as}
use Rattle.coap_layer.proofs.Calls.Remembered.{apart_filtered}
use Rattle.coap_layer.proofs.dedup.Memory.forget.Goals as goal

pub invariant_of-self : goal.invariant_of-self
invariant_of-self g c =
    let es = c.self.inside.settled.entries in
    let left = c.let_go.ensures.entries ∙ c.pass.ensures.entries in
    let passed_room = c.pass.ensures.spare in
    let room = c.let_go.ensures.spare in (
      subst (IsNonDecreasingBy (λ e. e.1.at.0)) (sym left)
          (IsNonDecreasingBy-drop (λ e. e.1.at.0) c.passed_by-passed.result es c.self.invariant.0),
      apart_filtered c.args.now.0 (option_map arrived_as c.self.inside.newest) _ _ _ _ c.self.invariant.1
          (ap arrivals_as left ∙ c.passed_by-passed.ensures.live) (omega (arith, passed_room, room)),
    )
