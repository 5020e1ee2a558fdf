use Rattle.std.proofs.Common.{subst}
use Rattle.coap_options.specs.Standing.{IsAstray}
use Rattle.knifesilver_exchange.proofs.option_walk.ks_options_next.Goals as goal

pub returns-in-Err-clause-astray : goal.returns-in-Err-clause-astray
returns-in-Err-clause-astray c = λ _.
    subst (λ x. IsAstray c.args.datagram.now x) c.cursor_of-cursor.ensures c.in-Err.ensures.astray.0
