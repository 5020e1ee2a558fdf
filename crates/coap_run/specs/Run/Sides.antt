-- The events that are alike for both ends, by the end.
use Rattle.std.specs.Prelude.{ℕ, List}
use Rattle.coap_types.specs.declared.endpoint.Endpoint.{Endpoint}
use Rattle.coap_record.specs.Events.{What, TickClient, TickServer, StrangerToClient, StrangerToServer}
use Rattle.coap_run.specs.declared.running.event.Side.{Side}
use Rattle.coap_run.specs.declared.running.event.Side.TheVariants as side

-- the ticks of an end
abbrev pub ticks_of : Side → What
ticks_of side.Client = TickClient
ticks_of side.Server = TickServer

-- a stranger's datagram comes to an end
abbrev pub stranger_to : Side → Endpoint → List ℕ → What
stranger_to side.Client from bytes = StrangerToClient from bytes
stranger_to side.Server from bytes = StrangerToServer from bytes
