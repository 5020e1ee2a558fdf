-- What a table of names keeps of its calls.
use Rattle.std.specs.Prelude.{ℕ, Bool, Option, Some, None, List, []}
use Rattle.std.specs.Map.{lookup, set_value}
use Rattle.lru.specs.LruCache.{promoted}
use Rattle.coap_types.specs.declared.endpoint.Endpoint.{Endpoint}
use Rattle.coap_types.specs.SameEndpoint.{same_endpoint}
use Rattle.coap_names.specs.declared.names.Idle.{Idle}
use Rattle.coap_names.specs.declared.numbering.Numbering.{Numbering}

-- what is chosen of a table: how many keys have a name at most at once, and which names it gives
pub record Setup : Type 0 where
  pub most : ℕ
  pub numbering : Numbering

-- what is chosen; the last moment that counted; how many names were given; the keys whose names are not held, that of
-- the last datagram first; those whose names are held; and the key of each name
pub record State (K : Type 0) : Type 0 where
  pub setup : Setup
  pub clock : ℕ
  pub given : ℕ
  pub idle : List (K × Idle)
  pub held : List (K × Endpoint)
  pub keys : List (Endpoint × K)

abbrev pub start : {K : Type 0} → Setup → State K
start setup = record { setup = setup; clock = 0; given = 0; idle = []; held = []; keys = [] }

abbrev pub idle_at : Endpoint → ℕ → Idle
idle_at name at = record { name = name; at = record { 0 = at } }

-- it goes first, with this moment
abbrev pub touched : {K : Type 0} → (K → Bool) → Endpoint → ℕ → List (K × Idle) → List (K × Idle)
touched test name at es = set_value test (promoted test es) (idle_at name at)

-- the key of a name
abbrev pub keyed : {K : Type 0} → State K → Endpoint → Option K
keyed s name = lookup (same_endpoint name) s.keys

-- the name of a key
abbrev pub either : Option Idle → Option Endpoint → Option Endpoint
either (Some p) held = Some p.name
either None held = held

abbrev pub named : {K : Type 0} → (K → K → Bool) → State K → K → Option Endpoint
named eq s key = either (lookup (eq key) s.idle) (lookup (eq key) s.held)
