-- Where the ends of a run stand: `--client A.B.C.D:PORT` and `--server A.B.C.D:PORT`.
use Rattle.std.specs.Prelude.{◌≡◌, ◌≢◌, ◌⊎◌, ◌∷◌, [], List, None, codes}
use Rattle.std.specs.Net.Addr.{ipv4_octets}
use Rattle.std.specs.Net.Grammar.{IsSocketV4Text}
use Rattle.std.specs.Net.Socket.{v4_ip, v4_port}
use Rattle.std.specs.declared.net.socket_addr.SocketAddrV4.{SocketAddrV4}
use Rattle.clap.specs.Words.{Row, Text, first_of}
use Rattle.coap_types.specs.declared.endpoint.Endpoint.{Endpoint}
use Rattle.coap_arguments.specs.Values.{IsValue}
use Rattle.coap_arguments.specs.declared.refusals.EndsRefusal.{EndsRefusal}
use Rattle.coap_arguments.specs.declared.refusals.EndsRefusal.TheVariants.{Client, Server, Same}

-- where they stand if nothing is said
abbrev pub usual_client : Endpoint
usual_client = record { ip = 127 ∷ 0 ∷ 0 ∷ 1 ∷ []; port = 40001 }

abbrev pub usual_server : Endpoint
usual_server = record { ip = 127 ∷ 0 ∷ 0 ∷ 1 ∷ []; port = 5683 }

-- the text is an address of IPv4, a `:` and a port, and these are the endpoint's
abbrev pub IsEndpointText : Text → Endpoint → Type 0
IsEndpointText text endpoint = (address : SocketAddrV4) × IsSocketV4Text text address
    × (endpoint.ip ≡ ipv4_octets (v4_ip address)) × (endpoint.port ≡ v4_port address)

-- the argument has this endpoint, or is left out and stands for the usual one
abbrev pub HasEndpoint : Text → Endpoint → List Row → Endpoint → Type 0
HasEndpoint name usual values endpoint = ((first_of name values ≡ None) × (endpoint ≡ usual))
    ⊎ ((text : Text) × IsValue name values text × IsEndpointText text endpoint)

-- the argument has a value that is the text of none
abbrev pub HasNoEndpoint : Text → List Row → Type 0
HasNoEndpoint name values = (text : Text) × IsValue name values text
    × ((endpoint : Endpoint) → IsEndpointText text endpoint → ⊥)

-- the client stands at the one and the server at the other, and these are two
abbrev pub HasEnds : List Row → Endpoint → Endpoint → Type 0
HasEnds values client server = HasEndpoint (codes "client") usual_client values client
    × HasEndpoint (codes "server") usual_server values server × (client ≢ server)

-- one of them is none, or both are one
abbrev pub AreNoEnds : EndsRefusal → List Row → Type 0
AreNoEnds Client values = HasNoEndpoint (codes "client") values
AreNoEnds Server values = HasNoEndpoint (codes "server") values
AreNoEnds Same values = (both : Endpoint) × HasEndpoint (codes "client") usual_client values both
    × HasEndpoint (codes "server") usual_server values both
