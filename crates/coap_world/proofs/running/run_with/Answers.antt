use Rattle.std.specs.Prelude.{map}
use Rattle.coap_run.specs.Run.Happening.{event_of}
use Rattle.coap_world.proofs.Kept.{if_kept}
use Rattle.coap_world.proofs.running.run_with.Goals as goal

pub returns-clause-record : goal.returns-clause-record
returns-clause-record g c =
    if_kept c.args.config.now (map event_of c.args.events.now) c.run_with.result c.run_with.ensures.record
