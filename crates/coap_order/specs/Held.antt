-- What a client's program takes as the body of a call was held by the server, in a run whose calls are made in any
-- order.
use Rattle.std.specs.Prelude.{◌≡◌, ℕ, Option, Some, List, ◌∷◌}
use Rattle.coap_types.specs.Past.{Always, Sometime}
use Rattle.coap_resource.specs.RequestOptions.{tag_of}
use Rattle.coap_client.specs.Trace.{Body, NextReport, Request}
use Rattle.coap_promise.specs.Words.{WasCalled, holds_at}
use Rattle.coap_record.specs.Events.{Config}
use Rattle.coap_record.specs.Record.{Entry, OfClient}

module _ (config : Config) where
  -- the call was taken, and its path holds this, under the version that the ETag names
  pub record HoldsBody (number : ℕ) (tag : Option (List ℕ)) (format : Option ℕ) (body : List ℕ) (all : List Entry)
      : Type 0 where
    pub request : Request
    pub called : WasCalled number request all
    pub version : ℕ
    pub tag_is : tag ≡ Some (tag_of version)
    pub there : holds_at config request.path all ≡ Some (record { version = version; format = format; body = body })

  -- Where a body is taken, the server held it behind some call of the run before, which is not before the client's own.
  abbrev pub BodiesHeld : List Entry → Type 0
  BodiesHeld run = (number : ℕ) (tag : Option (List ℕ)) (format : Option ℕ) (body : List ℕ)
      → Always (λ past e. e ≡ OfClient (NextReport (Some (record { number = number; report = Body tag format body })))
      → Sometime (λ before x. HoldsBody number tag format body (x ∷ before)) past) run
