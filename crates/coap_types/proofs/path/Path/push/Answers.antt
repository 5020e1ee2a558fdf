use Rattle.std.proofs.Common.{◌≡◌, ◌<◌, length, arith, rules}
use Rattle.coap_types.specs.Bytes.{AreBytes}
use Rattle.coap_types.proofs.Facts.Bytes.{are_bytes}
use Rattle.coap_types.proofs.Paths.AsTheirBytes.{pushed_path}
use Rattle.coap_types.proofs.path.Path.push.Goals as goal

pub invariant_of-self : goal.invariant_of-self
invariant_of-self g c =
    let is : c.in_ok-copy.copy.items ≡ c.args.segment.now = search rules in
    let bytes : AreBytes c.args.segment.now = are_bytes c.args.segment.now (λ i. omega (arith, c.type_inv.segment i)) in
    let room : length c.self.inside.segments.items < 16 = omega arith in
    pushed_path _ c.self.inside.segments.items _ c.in_ok-copy.copy c.push.ensures.items c.self.invariant room
    (rw is (omega arith)) (rw is bytes)
