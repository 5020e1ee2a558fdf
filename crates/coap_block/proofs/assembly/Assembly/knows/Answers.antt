use Rattle.std.proofs.Common.{◌≡◌, ◌≤◌, ◌∙◌, ◌&&◌, arith, ap, max, subst, sym}
use Rattle.std.specs.List.{list_any}
use Rattle.coap_types.specs.SameEndpoint.{same_endpoint}
use Rattle.coap_block.specs.AssemblyState.{AssemblyState, forgotten, is_live}
use Rattle.coap_block.specs.AssemblyKept.{body_of, partials_of}
use Rattle.coap_block.proofs.Fields.PartialsOfPeers.{any_there}
use Rattle.coap_block.proofs.Fields.PartialsSeen.{forgotten_twice}
use Rattle.coap_block.proofs.assembly.Assembly.knows.Goals as goal

pub returns : goal.returns
returns g c =
    let items = c.self.inside.partials.items in
    let clock = c.self.inside.clock.0 in
    let from = c.args.from in
    let at : c.later.result.0 ≡ max clock c.args.now.0 = c.later.ensures in
    let le : clock ≤ max clock c.args.now.0 = omega arith in
    let there = c.any_from.ensures
    ∙ (ap (λ ps. list_any (λ p. is_live c.later.result.0 (body_of p) && same_endpoint p.key.from from) ps)
    c.deref.ensures.value ∙ any_there c.later.result.0 from items) in
    let here : c.any_from.result ≡ list_any (λ p. same_endpoint p.key.from from)
    (forgotten (max clock c.args.now.0) (forgotten clock (partials_of items))) =
    there ∙ (ap (λ t. list_any (λ p. same_endpoint p.key.from from) (forgotten t (partials_of items))) at
    ∙ sym (ap (λ ps. list_any (λ p. same_endpoint p.key.from from) ps)
    (forgotten_twice clock (max clock c.args.now.0) le (partials_of items)))) in
    subst (λ (s : AssemblyState). c.any_from.result ≡ list_any (λ p. same_endpoint p.key.from from)
    (forgotten (max s.clock c.args.now.0) s.partials)) (ap (λ v. v.state) c.self.view_is) here
