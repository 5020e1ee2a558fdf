use Rattle.std.proofs.Common.{length, ap, arith}
use Rattle.coap_codec.proofs.OneOption.LongestRun.{walk_count}
use Rattle.coap_codec.proofs.Spellings.RefusedHasNone.{Options-ascends}
use Rattle.coap_codec.proofs.view.View.options.Goals as goal

pub returns-clause-few : goal.returns-clause-few
returns-clause-few c =
    let n = walk_count 0 c.self.inside.options.now in
    let same = ap (λ m. length m.options) c.self.view_is in
    omega arith

pub returns-clause-order : goal.returns-clause-order
returns-clause-order c = let s = c.self.invariant.1 in rw (← c.self.view_is)
    (Options-ascends _ 0 s.option_bytes s.options)
