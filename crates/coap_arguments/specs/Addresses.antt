-- Hosts and addresses on the command line: `--host HOST` and `--address ADDRESS`.
use Rattle.std.specs.Prelude.{◌≡◌, ◌⊎◌, List, None, codes}
use Rattle.clap.specs.Words.{Row, Text, first_of}
use Rattle.coap_arguments.specs.Hosts.{IsAddressText, IsHostText, IsLoopback, IsNear}
use Rattle.coap_arguments.specs.Values.{IsValue}
use Rattle.coap_arguments.specs.declared.hosts.Address.{Address}
use Rattle.coap_arguments.specs.declared.hosts.Host.{Host}
use Rattle.coap_arguments.specs.declared.refusals.AddressRefusal.{AddressRefusal}
use Rattle.coap_arguments.specs.declared.refusals.AddressRefusal.TheVariants as refusal

-- the argument that is refused so, by its name in clap
abbrev pub address_argument_of : AddressRefusal → Text
address_argument_of refusal.Host = codes "host"
address_argument_of refusal.Address = codes "address"

-- `--host` has this host, or is left out and stands for 127.0.0.1
abbrev pub HasHost : List Row → Host → Type 0
HasHost values host = ((first_of (codes "host") values ≡ None) × IsNear host)
    ⊎ ((text : Text) × IsValue (codes "host") values text × IsHostText text host)

-- `--address` has this address, or is left out and stands for 127.0.0.1
abbrev pub HasAddress : List Row → Address → Type 0
HasAddress values address = ((first_of (codes "address") values ≡ None) × IsLoopback address)
    ⊎ ((text : Text) × IsValue (codes "address") values text × IsAddressText text address)

-- the text says nothing of what the argument takes
abbrev pub SaysNoAddress : AddressRefusal → Text → Type 0
SaysNoAddress refusal.Host text = (host : Host) → IsHostText text host → ⊥
SaysNoAddress refusal.Address text = (address : Address) → IsAddressText text address → ⊥

-- the argument has a value that says none
abbrev pub HasNoAddress : AddressRefusal → List Row → Type 0
HasNoAddress why values = (text : Text) × IsValue (address_argument_of why) values text × SaysNoAddress why text
