use Rattle.std.proofs.Common.{◌≡◌, ap, sym, subst, ◌∙◌, Some, option_to_list}
use Rattle.std.specs.List.Sorted.{IsNonDecreasingBy}
use Rattle.std.specs.Option.{option_map}
use Rattle.std.proofs.lemmas.List.Sorted.{IsNonDecreasingBy-push}
use Rattle.coap_layer.specs.Machine.Entries.{AreLive, IsApart, IsUpTo, arrived_as, arrivals_as}
use Rattle.coap_layer.proofs.Calls.Passed.{last_behind}
use Rattle.coap_layer.proofs.Calls.Remembered.{absent}
use Rattle.coap_layer.proofs.dedup.Memory.settle_newest.Goals as goal

pub push-requires-clause-unknown : goal.push-requires-clause-unknown
push-requires-clause-unknown g c =
    let es = c.self.inside.settled.entries in
    let there : c.self.inside.newest ≡ Some (c.in-Some.key, c.in-Some.kept) = sym c.take.ensures.value ∙ c.in-Some.is in
    let apart = subst (λ o. IsApart (option_map arrived_as o) (arrivals_as es) c.self.inside.settled.spare) there
    c.self.invariant.1 in
    let before = subst (λ o. IsUpTo c.args.now.0 (option_to_list o))
    (ap (λ m. m.newest) (sym c.self.view_is) ∙ ap (option_map arrived_as) there) c.requires.up_to in
    absent c.args.now.0 c.in-Some.kept.at.0 c.in-Some.key es before.0
    (subst (AreLive c.args.now.0) (ap (λ m. m.settled) (sym c.self.view_is)) c.requires.live) apart.2

pub invariant_of-self : goal.invariant_of-self
invariant_of-self g c =
    let es = c.self.inside.settled.entries in
    let there : c.self.inside.newest ≡ Some (c.in-Some.key, c.in-Some.kept) = sym c.take.ensures.value ∙ c.in-Some.is in
    let apart = subst (λ o. IsApart (option_map arrived_as o) (arrivals_as es) c.self.inside.settled.spare) there
    c.self.invariant.1 in (
      subst (IsNonDecreasingBy (λ e. e.1.at.0)) (sym c.push.ensures.entries)
          (IsNonDecreasingBy-push (λ e. e.1.at.0) es (c.in-Some.key, c.in-Some.kept) c.self.invariant.0
          (λ d lt. last_behind c.in-Some.kept.at.0 es d apart.1 lt)),
      subst (λ o. IsApart (option_map arrived_as o) (arrivals_as c.push.new.self.entries) c.push.new.self.spare)
          (sym c.take.ensures.after) tt,
    )
