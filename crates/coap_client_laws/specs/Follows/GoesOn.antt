-- What stands in the law of a client goes on: each further call, whatever its arguments, has answers that stand in it
-- too.
use Rattle.std.specs.Prelude.{ℕ, Bool, Option, List, ◌∷◌, Result}
use Rattle.coap_types.specs.declared.endpoint.Endpoint.{Endpoint}
use Rattle.coap_layer.specs.Trace as L
use Rattle.coap_layer.specs.declared.setup.Setup.{Setup}
use Rattle.coap_block.specs.Sizes.{Sizes}
use Rattle.coap_exchange.specs.declared.asker.AskRefusal.{AskRefusal}
use Rattle.coap_exchange.specs.declared.asker.Event.{Event}
use Rattle.coap_exchange.specs.declared.asker.Turn.{Turn}
use Rattle.coap_client.specs.declared.refusals.CallRefusal.{CallRefusal}
use Rattle.coap_client.specs.declared.refusals.CancelRefusal.{CancelRefusal}
use Rattle.coap_client.specs.Trace.{Request, Reported, Requested, Call, Calls, Observes, Cancels}
use Rattle.coap_client.specs.Trace.{Forgets, Feeds, Ticks, NextOut, NextReport, Asked}
use Rattle.coap_client.specs.Law.{ClientLaw}

pub record GoesOn (server : Endpoint) (sizes : Sizes) (setup : Setup) (t : List Call) : Type 0 where
  pub calls : (now : ℕ) (r : Request) → (answer : Result ℕ CallRefusal)
      × ClientLaw server sizes setup (Calls now r answer ∷ t)
  pub observes : (now : ℕ) (path : List (List ℕ))
      → (answer : Result ℕ CallRefusal) × ClientLaw server sizes setup (Observes now path answer ∷ t)
  pub cancels : (now number : ℕ) → (answer : Option CancelRefusal)
      × ClientLaw server sizes setup (Cancels now number answer ∷ t)
  pub forgets : (number : ℕ) → (kept : Bool) × (answer : Bool)
      × ClientLaw server sizes setup (Forgets number kept answer ∷ t)
  pub feeds :
      (now : ℕ) (from : Endpoint) (bytes : List ℕ) (w : ℕ)
      → (up : L.Answer) × (settled : Bool) × (event : Option Event) × (sent : L.Answer)
      × (token : Result (List ℕ) AskRefusal) × (kept : Bool)
      × ClientLaw server sizes setup (Feeds now from bytes w up settled event sent token kept ∷ t)
  pub ticks :
      (now w : ℕ)
      → (below : L.Answer) × (turn : Turn) × (sent : L.Answer) × (token : Result (List ℕ) AskRefusal) × (kept : Bool)
      × (answer : Bool)
      × ClientLaw server sizes setup (Ticks now w below turn sent token kept answer ∷ t)
  pub next_out : (answer : Option L.Packet) × ClientLaw server sizes setup (NextOut answer ∷ t)
  pub next_report : (answer : Option Reported) × ClientLaw server sizes setup (NextReport answer ∷ t)
  pub asked : (answer : Option Requested) × ClientLaw server sizes setup (Asked answer ∷ t)
