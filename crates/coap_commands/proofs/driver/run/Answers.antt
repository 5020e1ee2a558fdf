use Rattle.std.proofs.Common.{inl}
use Rattle.coap_commands.proofs.driver.run.Goals as goal

pub returns-in-Ok : goal.returns-in-Ok
returns-in-Ok g c = inl (c.in-Ok.order, c.in-Ok.ensures.ok, c.perform-ended.ensures)
