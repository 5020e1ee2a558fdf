-- Endpoints in the place of others (RFC 7252, section 1.2).
use Rattle.std.specs.Prelude.{◌≡◌, false, if◌then◌else◌}
use Rattle.coap_types.specs.SameEndpoint.{same_endpoint}
use Rattle.coap_types.specs.declared.endpoint.Endpoint.{Endpoint}

-- what stand for two endpoints are the same exactly where these two are
abbrev pub TellsApart : (Endpoint → Endpoint) → Type 0
TellsApart rename = (a b : Endpoint) → same_endpoint (rename a) (rename b) ≡ same_endpoint a b

-- each of the two stands for the other, and every other endpoint for itself
abbrev pub swapped : Endpoint → Endpoint → Endpoint → Endpoint
swapped e f a = if same_endpoint a e then f else if same_endpoint a f then e else a

-- an exchange of two endpoints is over where it is done again
pub record Exchanges (e f : Endpoint) (rename : Endpoint → Endpoint) : Type 0 where
  pub first : rename e ≡ f
  pub second : rename f ≡ e
  pub others : (a : Endpoint) → same_endpoint a e ≡ false → same_endpoint a f ≡ false → rename a ≡ a
  pub back : (a : Endpoint) → rename (rename a) ≡ a
