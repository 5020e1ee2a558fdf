-- A notification goes in a NON or in a CON.
use Rattle.std.proofs.Common.{ℕ, Bool, true, false}
use Rattle.coap_observe.specs.Observers.{Observer}
use Rattle.coap_exchange.specs.AnswererTrace as E
use Rattle.coap_server.specs.Asks.{notifies_by}

pub in_either : (P : E.Call → Type 0) (plain : Bool) (at : ℕ) (o : Observer) (r : E.Response) (w id : ℕ)
    → P (E.NotifiesPlain at o.to o.token r id) → P (E.Notifies at o.to o.token r w id)
    → P (notifies_by plain at o r w id)
in_either P true at o r w id non con = non
in_either P false at o r w id non con = con
