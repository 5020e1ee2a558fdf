-- Where a client takes its notifications, and when (RFC 7641, sections 3.2 and 3.4).
use Rattle.std.specs.Prelude.{◌≡◌, ℕ, Some, List}
use Rattle.coap_types.specs.Past.{Ever, Always}
use Rattle.coap_types.specs.declared.endpoint.Endpoint.{Endpoint}
use Rattle.coap_codec.specs.Message.{Message}
use Rattle.coap_layer.specs.Trace.{Entry}
use Rattle.coap_layer.specs.declared.setup.Setup.{Setup}
use Rattle.coap_block.specs.Sizes.{Sizes}
use Rattle.coap_client_laws.specs.Follows.Hears.{Hears}
use Rattle.coap_client.specs.Law.{own_of}
use Rattle.coap_client.specs.Trace.{Call}
use Rattle.coap_client_laws.specs.Follows.Adds.{call_adds}
use Rattle.coap_client_laws.specs.Follows.Newer.{Newly, notifies}
use Rattle.coap_client_laws.specs.Follows.Notified.{notes}

-- The response arrives from the server in the entries that this very call adds, and the message layer hands it up.
abbrev pub AreNoted : Endpoint → (sizes : Sizes) (setup : Setup) → List Call → Type 0
AreNoted server sizes setup t = Always (λ past c. (m : Message) → notes c ≡ Some m
    → Ever (Hears server m) (call_adds server sizes setup past c)) t

-- .. at this moment
pub record HeardAt (server : Endpoint) (m : Message) (at : ℕ) (e : Entry) : Type 0 where
  pub hears : Hears server m e
  pub at_is : e.at ≡ at

-- A notification that is taken, the first or a newer one, is heard so at the moment that its mark has.
abbrev pub AreNotedAt : Endpoint → (sizes : Sizes) (setup : Setup) → List Call → Type 0
AreNotedAt server sizes setup t = Always (λ past c. (n : Newly) → notifies (own_of sizes past) c ≡ Some n
    → Ever (HeardAt server n.message n.mark.at) (call_adds server sizes setup past c)) t
