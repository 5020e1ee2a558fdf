use Rattle.std.proofs.Common.{List, true}
use Rattle.coap_types.specs.Past.{Always}
use Rattle.coap_client.specs.Turns.Work.{work}
use Rattle.coap_record.specs.Record.{ClientTick}
use Rattle.coap_run.specs.Run.Acts.{Moves}
use Rattle.coap_run.specs.Run.Ends.{ClientLed}
use Rattle.coap_run.proofs.running.ticks.client_ticks.Given as goal

abbrev pub decreases-ticks : goal.decreases-ticks
decreases-ticks g l = work l.end.client l.at.0

abbrev pub invariant-ticks : goal.invariant-ticks
invariant-ticks g l = (calls : List _) × Always (λ past c. ClientTick l.at.0 l.word true c) calls
    × Moves ClientLed l.initial.end calls l.end
