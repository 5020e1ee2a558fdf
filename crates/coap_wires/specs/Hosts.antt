-- Where a server is that is asked, and by which endpoint a link knows it.
use Rattle.std.specs.Prelude.{◌≡◌, ⊤, ℕ, Bool, true, false, List, [], ◌∷◌, Option, None, Some}
use Rattle.std.specs.Net.Addr.{IsIpv4Mapped, ipv4_octets, ipv6_segments, low_octets}
use Rattle.std.specs.Net.Addr.{IsLoopbackV4, IsLoopbackV6}
use Rattle.std.specs.Net.Socket.{v4_ip, v4_port, v6_ip, v6_port, v6_scope_id}
use Rattle.std.specs.declared.net.socket_addr.SocketAddr.{SocketAddr}
use Rattle.std.specs.declared.net.socket_addr.SocketAddr.TheVariants.{V4, V6}
use Rattle.coap_types.specs.declared.endpoint.Endpoint.{Endpoint}
use Rattle.coap_links.specs.Bound.{IsBoundAt}
use Rattle.coap_links.specs.Sockets.{is_of_this_network}
use Rattle.coap_arguments.specs.declared.hosts.Address.{Address}
use Rattle.coap_arguments.specs.declared.hosts.Address.TheVariants as address
use Rattle.coap_arguments.specs.declared.hosts.Host.{Host}
use Rattle.coap_arguments.specs.declared.hosts.Host.TheVariants.{At, Name}
use Rattle.coap_arguments.specs.declared.hosts.Server.{Server}
use Rattle.coap_wires.specs.declared.hosts.Peer.{Peer}
use Rattle.coap_wires.specs.declared.hosts.Peer.TheVariants as peer

abbrev pub is_four : SocketAddr → Bool
is_four (V4 a) = true
is_four (V6 a) = false

-- the first one of IPv4, or else another one
abbrev pub first_four : List SocketAddr → Option SocketAddr → Option SocketAddr
first_four [] other = other
first_four (V4 a ∷ more) other = Some (V4 a)
first_four (V6 a ∷ more) other = first_four more other

abbrev pub first : List SocketAddr → Option SocketAddr
first [] = None
first (a ∷ more) = Some a

-- of the addresses of a name the first one of IPv4 is asked, or else the first
abbrev pub chosen : List SocketAddr → Option SocketAddr
chosen addresses = first_four addresses (first addresses)

-- at the endpoint of this address of IPv4 and this port
abbrev pub IsAtFour : List ℕ → ℕ → Peer → Type 0
IsAtFour ip port there = there ≡ peer.Four (record { ip = ip; port = port })

-- at this address of IPv6
abbrev pub IsAtSix : (ip : List ℕ) → (scope port : ℕ) → Peer → Type 0
IsAtSix ip scope port (peer.Four endpoint) = ⊥
IsAtSix ip scope port (peer.Six a) = (ipv6_segments (v6_ip a) ≡ ip) × (v6_port a ≡ port) × (v6_scope_id a ≡ scope)

-- the server at this address and port: ::ffff:a.b.c.d is a.b.c.d of IPv4 (RFC 4291, section 2.5.5.2)
abbrev pub IsOfAddress : Address → ℕ → Peer → Type 0
IsOfAddress (address.Four ip) port there = IsAtFour (ipv4_octets ip) port there
IsOfAddress (address.Six ip scope) port there =
    (IsIpv4Mapped (ipv6_segments ip) → IsAtFour (low_octets ip) port there)
    × ((IsIpv4Mapped (ipv6_segments ip) → ⊥) → IsAtSix (ipv6_segments ip) scope port there)

-- .. that of a name is wherever the system says
abbrev pub IsOfHost : Host → ℕ → Peer → Type 0
IsOfHost (At a) port there = IsOfAddress a port there
IsOfHost (Name name) port there = ⊤

abbrev pub IsOfServer : Server → Peer → Type 0
IsOfServer server there = IsOfHost server.host server.port there

-- by this endpoint a link knows it: by its own, or, over IPv6, by a name, which is in 0.0.0.0/8
abbrev pub Knows : Peer → Endpoint → Type 0
Knows (peer.Four endpoint) e = e ≡ endpoint
Knows (peer.Six a) e = is_of_this_network e.ip ≡ true

-- the endpoint stands for the server that the words ask
abbrev pub IsServer : Server → Endpoint → Type 0
IsServer server e = (there : Peer) × IsOfServer server there × Knows there e

-- the peer at this socket address, which the system names
abbrev pub IsOfSocket : SocketAddr → Peer → Type 0
IsOfSocket (V4 a) there = IsAtFour (ipv4_octets (v4_ip a)) (v4_port a) there
IsOfSocket (V6 a) there = IsOfAddress (address.Six (v6_ip a) (v6_scope_id a)) (v6_port a) there

-- .. of the addresses that it names
abbrev pub IsAmong : List SocketAddr → Peer → Type 0
IsAmong addresses there = (a : SocketAddr) × (chosen addresses ≡ Some a) × IsOfSocket a there

-- only the machine itself reaches this address (RFC 1122, section 3.2.1.3; RFC 4291, section 2.5.3)
abbrev pub IsLoopback : Address → Type 0
IsLoopback (address.Four ip) = IsLoopbackV4 ip
IsLoopback (address.Six ip scope) = IsLoopbackV6 ip

-- a link that is bound for such a peer is where this endpoint is: one over IPv6 is known by a name
abbrev pub IsBoundThere : Peer → Endpoint → Type 0
IsBoundThere (peer.Four endpoint) own = IsBoundAt endpoint own
IsBoundThere (peer.Six a) own = is_of_this_network own.ip ≡ true

-- .. for a server at this address and port
abbrev pub IsBoundFor : Address → ℕ → Endpoint → Type 0
IsBoundFor a port own = (there : Peer) × IsOfAddress a port there × IsBoundThere there own
