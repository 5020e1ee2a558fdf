-- What a handle of a client holds, and what a call of it did.
use Rattle.std.specs.Prelude.{⊤, List, ◌∷◌, Option, Some, None}
use Rattle.coap_types.specs.declared.endpoint.Endpoint.{Endpoint}
use Rattle.coap_block.specs.Sizes.{Sizes}
use Rattle.coap_layer.specs.declared.setup.Setup.{Setup}
use Rattle.coap_client.specs.Led.{Led, State}
use Rattle.coap_client.specs.Trace.{Call}
use Rattle.knifesilver.specs.declared.held.Held.{Held}
use Rattle.knifesilver.specs.declared.held.Held.TheVariants.{Server, Client, Names}

-- it is a client
abbrev pub IsClient : Held → Type 0
IsClient (Server s) = ⊥
IsClient (Client c) = ⊤
IsClient (Names t) = ⊥

abbrev pub HoldsClient : Option Held → Type 0
HoldsClient None = ⊥
HoldsClient (Some held) = IsClient held

-- it is a client in a state of which this holds
abbrev pub IsClientIn : (State → Type 0) → Held → Type 0
IsClientIn P (Server s) = ⊥
IsClientIn P (Client c) = P c.client
IsClientIn P (Names t) = ⊥

abbrev pub HoldsClientIn : (State → Type 0) → Option Held → Type 0
HoldsClientIn P None = ⊥
HoldsClientIn P (Some held) = IsClientIn P held

-- these calls can leave a client as what is held (RFC 7252, section 5)
abbrev pub HoldsLed : Endpoint → (sizes : Sizes) (setup : Setup) → List Call → Option Held → Type 0
HoldsLed server sizes setup t held = HoldsClientIn (Led server sizes setup t) held

-- One call like this was made, of the client that was held: whatever led to it before leads, with that call, to what is
-- held then.
abbrev pub Made : (Call → Type 0) → Option Held → Option Held → Type 0
Made like old new = (server : Endpoint) (sizes : Sizes) (setup : Setup) (t : List Call) → HoldsLed server sizes setup t old
    → (call : Call) × like call × HoldsLed server sizes setup (call ∷ t) new
