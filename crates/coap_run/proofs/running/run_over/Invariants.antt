use Rattle.std.proofs.Common.{◌≡◌, ◌-◌, ◌≤◌, List, [], map, reverse, take, length}
use Rattle.coap_record.specs.Events.{Config}
use Rattle.coap_record.specs.Record.{Turn}
use Rattle.coap_run.specs.Run.Ends.{ClientLed, ServerLed}
use Rattle.coap_run.specs.Run.Happening.{event_of}
use Rattle.coap_run.specs.Run.Turning.{Stands}
use Rattle.coap_run.proofs.running.run_over.Given as goal

abbrev pub decreases-events : goal.decreases-events
decreases-events g l = length l.events - l.number

abbrev pub invariant-events : goal.invariant-events
invariant-events g l =
    record {
      within : l.number ≤ length l.events;
      stands :
          (config : Config) → config.addresses ≡ l.addresses → Stands ClientLed (ServerLed g.S.Store.content) config []
          [] l.initial.client l.initial.server l.initial.log 0
          → (turns : List Turn) × Stands ClientLed (ServerLed g.S.Store.content) config
          (reverse (map event_of (take l.number l.events))) turns l.client l.server l.log l.last.0;
    }
