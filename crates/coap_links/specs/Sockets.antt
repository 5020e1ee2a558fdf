-- What a socket address says of an endpoint.
use Rattle.std.specs.Prelude.{ℕ, Bool, false, List, [], ◌∷◌, ◌==◌, ◌||◌, if◌then◌else◌, Option, Some, None}
use Rattle.std.specs.Net.Addr.{ipv4_octets}
use Rattle.std.specs.Net.Socket.{v4_ip, v4_port}
use Rattle.std.specs.declared.net.socket_addr.SocketAddr.{SocketAddr}
use Rattle.std.specs.declared.net.socket_addr.SocketAddr.TheVariants.{V4, V6}
use Rattle.coap_types.specs.declared.endpoint.Endpoint.{Endpoint}
use Rattle.coap_links.specs.declared.udp_link.TheConstants.{NO_PORT as no_port}

-- an address in 0.0.0.0/8, "this network": no datagram comes from there (RFC 1122, section 3.2.1.3), and what has no
-- address of IPv4 is named by one
abbrev pub is_of_this_network : List ℕ → Bool
is_of_this_network [] = false
is_of_this_network (network ∷ rest) = network == 0

-- One of IPv4 is an endpoint, unless its port is 0: a sender puts 0 there where it takes no reply (RFC 768). One of
-- "this network" is none.
abbrev pub reached_at : List ℕ → ℕ → Option Endpoint
reached_at ip port =
    if (port == no_port) || is_of_this_network ip then None else Some (record { ip = ip; port = port })

abbrev pub endpoint_in : SocketAddr → Option Endpoint
endpoint_in (V4 a) = reached_at (ipv4_octets (v4_ip a)) (v4_port a)
endpoint_in (V6 a) = None
