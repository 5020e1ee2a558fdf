-- The events of a run as the specification sees them.
use Rattle.coap_client.specs.Object.CallShown.{shown_request}
use Rattle.coap_record.specs.Events.{Event, What, Calls, Observes, Cancels, Forgets, Sets, Removes, TickClient}
use Rattle.coap_record.specs.Events.{TickServer, Deliver, StrangerToClient, StrangerToServer}
use Rattle.coap_run.specs.declared.running.event.Event as E
use Rattle.coap_run.specs.declared.running.event.What as W
use Rattle.coap_run.specs.declared.running.event.What.TheVariants as what
use Rattle.coap_run.specs.declared.running.event.Side.TheVariants as side

module _ {A : Type 0} where
  abbrev pub what_of : W.What A → What
  what_of (what.Call request) = Calls (shown_request request)
  what_of (what.Observe path) = Observes path
  what_of (what.Cancel id) = Cancels id.0
  what_of (what.Forget id) = Forgets id.0
  what_of (what.Set path format body) = Sets path format body
  what_of (what.Remove path) = Removes path
  what_of (what.Tick side.Client) = TickClient
  what_of (what.Tick side.Server) = TickServer
  what_of (what.Deliver number) = Deliver number
  what_of (what.Stranger side.Client from bytes) = StrangerToClient from bytes
  what_of (what.Stranger side.Server from bytes) = StrangerToServer from bytes

  abbrev pub event_of : E.Event A → Event
  event_of e = record { at = e.at.0; word = e.word; what = what_of e.what }
