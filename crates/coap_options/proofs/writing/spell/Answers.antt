use Rattle.std.proofs.Common.{refl, arith}
use Rattle.coap_options.proofs.OneBehind.{spelled}
use Rattle.coap_options.proofs.writing.spell.Goals as goal

pub returns-in-Ok-clause-some : goal.returns-in-Ok-clause-some
returns-in-Ok-clause-some c =
    spelled c.args.last c.args.number c.args.value.now c.encode.new.out c.in-Ok.end _ c.requires.order
    (omega (arith, c.ranges.number))
    c.in-Ok.ensures.spelled.1 c.head.ensures.token refl refl c.head.ensures.id
    (omega (arith, c.in-Ok.ensures.spelled.0, c.requires.room, c.encode.auto.out))
