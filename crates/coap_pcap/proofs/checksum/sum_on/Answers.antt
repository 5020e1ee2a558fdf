use Rattle.std.proofs.Common.{◌≡◌, ◌≤◌, ◌-◌, arith, length, take, drop, length-drop}
use Rattle.std.proofs.lemmas.List.{take_all}
use Rattle.coap_pcap.proofs.Sums.{sum_step}
use Rattle.coap_pcap.proofs.checksum.sum_on.Goals as goal

pub loop-rest-preserved : goal.loop-rest-preserved
loop-rest-preserved c =
    let rest = c.loop-rest.rest.now in
    let long : 2 ≤ length rest = omega (arith, c.in-len2-up.len_at_least) in
    let step = sum_step c.loop-rest.sum rest long in
    let all : take (length rest - 2) (drop 2 rest) ≡ drop 2 rest =
    take_all (length rest - 2) (drop 2 rest) (omega (arith, length-drop 2 rest)) in
    cc (step, all, c.ones_add-sum.ensures, c.from.ensures, c.from-in-len2-up.ensures, c.loop-rest.invariant)
