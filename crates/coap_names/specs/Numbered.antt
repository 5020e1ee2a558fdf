-- How a name is laid out, and which names a table gives.
use Rattle.std.specs.Prelude.{◌≡◌, ℕ, ◌+◌, ◌-◌, ◌*◌, ◌/◌, ◌%◌, ◌<◌}
use Rattle.std.specs.Int.{to_be_bytes, from_be_bytes, w32}
use Rattle.coap_types.specs.declared.endpoint.Endpoint.{Endpoint}
use Rattle.coap_names.specs.declared.numbering.Numbering.{Numbering}
use Rattle.coap_names.specs.declared.numbering.Numbering.TheVariants.{Whole, ThisNetwork}
use Rattle.coap_names.specs.declared.numbering.TheConstants.{NAMES as names, PORTS as ports}
use Rattle.coap_names.specs.declared.numbering.TheConstants.{NAMES_OF_THIS_NETWORK as names_of_this_network}

-- the name of this number: the ports from 1 on count up first, then the addresses from 0.0.0.0 on
abbrev pub numbered : ℕ → Endpoint
numbered n = record { ip = to_be_bytes w32 (n / ports); port = n % ports + 1 }

-- the number of this name
abbrev pub number_of : Endpoint → ℕ
number_of e = from_be_bytes w32 e.ip * ports + (e.port - 1)

-- how many names a table gives, over its whole life
abbrev pub names_in : Numbering → ℕ
names_in Whole = names
names_in ThisNetwork = names_of_this_network

-- a name that a table of this numbering gives
pub record IsOf (numbering : Numbering) (name : Endpoint) : Type 0 where
  pub number : ℕ
  pub within : number < names_in numbering
  pub is : name ≡ numbered number
