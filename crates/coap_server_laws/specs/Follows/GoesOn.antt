-- What stands in the law of a server goes on: each further call, whatever its arguments, has answers that stand in it
-- too.
use Rattle.std.specs.Prelude.{◌≡◌, ℕ, Bool, true, Option, List, ◌∷◌, Result}
use Rattle.coap_types.specs.declared.endpoint.Endpoint.{Endpoint}
use Rattle.coap_codec.specs.Message.{Message}
use Rattle.coap_layer.specs.Trace as L
use Rattle.coap_layer.specs.declared.setup.Setup.{Setup}
use Rattle.coap_resource.specs.Content.{Content, Held}
use Rattle.coap_resource.specs.declared.refusal.StoreRefusal.{StoreRefusal}
use Rattle.coap_resource.specs.Limits.{Limits}
use Rattle.coap_exchange.specs.declared.answerer.Asked.{Asked}
use Rattle.coap_exchange.specs.declared.answerer.Due.{Due}
use Rattle.coap_server.specs.Trace.{Applied, Handling, Call, Sets, Removes, Delays, Feeds, Ticks}
use Rattle.coap_server.specs.Trace.{NextOut, Gets, Plains, TellsApplied, Forgets}
use Rattle.coap_server.specs.Refusing.{is_error, refused_or_fed}
use Rattle.coap_server.specs.Law.{ServerLaw}

pub record GoesOn (limits : Limits) (szx : ℕ) (setup : Setup) (t : List Call) : Type 0 where
  pub sets : (now : ℕ) (path : List (List ℕ)) (format : Option ℕ) (body : List ℕ)
      → (answer : Result ℕ StoreRefusal) × (left : Content)
      × ServerLaw limits szx setup (Sets now path format body answer left ∷ t)
  pub removes : (now : ℕ) (path : List (List ℕ))
      → (answer : Result Bool StoreRefusal) × (left : Content)
      × ServerLaw limits szx setup (Removes now path answer left ∷ t)
  pub delays : (path : List (List ℕ)) (ms : ℕ) → (answer : Bool)
      × ServerLaw limits szx setup (Delays path ms answer ∷ t)
  pub plains : (path : List (List ℕ)) → (answer : Bool) × ServerLaw limits szx setup (Plains path answer ∷ t)
  pub feeds :
      (now : ℕ) (from : Endpoint) (bytes : List ℕ) (w : ℕ)
      → (up : L.Answer) × (came : Option (Asked × Message)) × (handling : Handling) × (below : L.Answer)
      × ServerLaw limits szx setup (Feeds now from bytes w up came handling below ∷ t)
  pub refuses :
      (now : ℕ) (from : Endpoint) (bytes : List ℕ) (w code : ℕ) → is_error code ≡ true
      → (up : L.Answer) × (came : Option (Asked × Message)) × (response : Option ℕ) × (below : L.Answer)
      × ServerLaw limits szx setup (refused_or_fed now from bytes w code up came response below ∷ t)
  pub ticks :
      (now w : ℕ)
      → (below : L.Answer) × (room : Bool) × (due : Due) × (passed : ℕ) × (handling : Handling) × (id : ℕ)
      × (answer : Bool)
      × ServerLaw limits szx setup (Ticks now w below room due passed handling id answer ∷ t)
  pub next_out : (answer : Option L.Packet) × ServerLaw limits szx setup (NextOut answer ∷ t)
  pub gets : (path : List (List ℕ)) → (answer : Option Held) × ServerLaw limits szx setup (Gets path answer ∷ t)
  pub tells_applied : (answer : List Applied) × ServerLaw limits szx setup (TellsApplied answer ∷ t)
  pub forgets : (peer : Endpoint) → ServerLaw limits szx setup (Forgets peer ∷ t)
