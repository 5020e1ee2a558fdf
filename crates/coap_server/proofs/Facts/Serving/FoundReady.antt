-- What waits at a server is what its exchanges defer, and what they say is ready is served then.
use Rattle.std.proofs.Common.{◌≡◌, Bool, true, Option, Some, refl}
use Rattle.std.proofs.Common.{sym}
use Rattle.coap_layer.specs.Trace as L
use Rattle.coap_exchange.specs.declared.answerer.Asked.{Asked}
use Rattle.coap_exchange.specs.declared.answerer.Due.TheVariants as due
use Rattle.coap_exchange.specs.declared.separate.Deferred.{Deferred}
use Rattle.coap_exchange.specs.AnswererSteps as P

-- what is due is a request only where the layer was idle, and the first that is ready
pub record FoundReady (below : L.Answer) (o : Option Deferred) (a : Asked) : Type 0 where
  pub idle : below ≡ L.Idle
  pub deferred : Deferred
  pub first : o ≡ Some deferred
  pub asked : deferred.asked ≡ a

pub found_ready : (below : L.Answer) (o : Option Deferred) (room : Bool) (a : Asked)
    → due.Ready a ≡ P.due_of below o room → FoundReady below o a
found_ready L.Idle (Some d) true a h = record
    { idle = refl; deferred = d; first = refl; asked = (let e : a ≡ d.asked = cc h in sym e) }
found_ready _ _ _ a h = absurd (cc h)
