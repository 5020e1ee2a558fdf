use Rattle.std.proofs.Common.{sym, arith}
use borrow.Author.Tests.{ltb-true}
use Rattle.coap_names.proofs.tables.is_over.Goals as goal

pub returns-in-Some-clause-over : goal.returns-in-Some-clause-over
returns-in-Some-clause-over g c h =
    ((c.in-Some.field-0-0.now, c.in-Some.place.now), sym c.in-Some.ensures, (let a = ltb-true _ _ h in omega arith))
