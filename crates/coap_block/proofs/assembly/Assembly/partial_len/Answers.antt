use Rattle.std.proofs.Common.{◌≡◌, ◌≤◌, ◌∙◌, arith, ap, length, max, subst, sym, filter}
use Rattle.coap_block.specs.AssemblyState.{AssemblyState, forgotten, is_live}
use Rattle.coap_block.specs.AssemblyKept.{body_of, partials_of}
use Rattle.coap_block.proofs.Fields.PartialsSeen.{forgotten_twice, length_live}
use Rattle.coap_block.proofs.assembly.Assembly.partial_len.Goals as goal

pub returns : goal.returns
returns g c =
    let items = c.self.inside.partials.items in
    let clock = c.self.inside.clock.0 in
    let at : c.later.result.0 ≡ max clock c.args.now.0 = c.later.ensures in
    let le : clock ≤ max clock c.args.now.0 = omega arith in
    let counted : c.live.result ≡ length (filter (λ p. is_live c.later.result.0 (body_of p)) items) =
    rw c.deref.ensures.value at c.live.ensures in
    let there = length_live c.later.result.0 c.live.result items counted in
    let here : c.live.result ≡ length (forgotten (max clock c.args.now.0) (forgotten clock (partials_of items))) =
    there ∙ (ap (λ t. length (forgotten t (partials_of items))) at
    ∙ sym (ap length (forgotten_twice clock (max clock c.args.now.0) le (partials_of items)))) in
    subst (λ (s : AssemblyState). c.live.result ≡ length (forgotten (max s.clock c.args.now.0) s.partials))
    (ap (λ v. v.state) c.self.view_is) here
