-- Where a link has its datagrams go, and what it gives of one that came.
use Rattle.std.specs.Prelude.{◌≡◌, ◌==◌, ℕ, Bool, true, false, List, ◌∷◌, take, nat_lt, if◌then◌else◌, Option, Some, None}
use Rattle.std.specs.Prelude.{Result, IfSome, ◌⊎◌}
use Rattle.std.specs.Net.Addr.{ipv4_octets, ipv6_segments, segments_of}
use Rattle.std.specs.Net.Socket.{socket_ip, socket_port, v4_ip, v4_port, v6_ip, v6_port, v6_scope_id}
use Rattle.std.specs.declared.io.Error.{Error}
use Rattle.std.specs.declared.net.ip_addr.IpAddr.TheVariants as family
use Rattle.std.specs.declared.net.socket_addr.SocketAddr.{SocketAddr}
use Rattle.std.specs.declared.net.socket_addr.SocketAddr.TheVariants.{V4, V6}
use Rattle.coap_types.specs.declared.endpoint.Endpoint.{Endpoint}
use Rattle.coap_links.specs.Carried.{Packet}
use Rattle.coap_links.specs.SocketCalls.{SendsOn}
use Rattle.coap_links.specs.Sockets.{endpoint_in, is_of_this_network}
use Rattle.coap_links.specs.PeerTables.{NamesPeer, SendsToName}
use Rattle.coap_links.specs.Sources.{IsSource, mapped_segments}
use Rattle.coap_links.specs.declared.link.TheConstants.{MAX_DATAGRAM_LEN as max_datagram_len}
use Rattle.coap_links.specs.declared.peer_names.SixPeer.{SixPeer}
use Rattle.coap_links.specs.declared.socket.Socket.{Socket}
use Rattle.coap_links.specs.declared.udp6_link.Source.{Source}
use Rattle.coap_links.specs.declared.udp6_link.Source.TheVariants.{Four, Nowhere, Six}

-- the socket address of an endpoint of IPv4
pub record IsAddressOf (to : Endpoint) (address : SocketAddr) : Type 0 where
  pub ip : socket_ip address ≡ family.V4 (record { octets = to.ip })
  pub port : socket_port address ≡ to.port

-- what a socket was asked to connect to, or to be at: the address of this endpoint
abbrev pub IsThatOf : Endpoint → Option SocketAddr → Type 0
IsThatOf to None = ⊥
IsThatOf to (Some address) = IsAddressOf to address

-- .. of IPv6, by the address that stands for one of IPv4 (RFC 4291, section 2.5.5.2)
abbrev pub IsMappedOf : Endpoint → SocketAddr → Type 0
IsMappedOf to (V4 a) = ⊥
IsMappedOf to (V6 a) = (ipv6_segments (v6_ip a) ≡ mapped_segments to.ip) × (v6_port a ≡ to.port)

-- .. of a peer over IPv6, with its zone (RFC 4007, section 6)
abbrev pub IsAddressOfSix : SixPeer → SocketAddr → Type 0
IsAddressOfSix peer (V4 a) = ⊥
IsAddressOfSix peer (V6 a) =
    (ipv6_segments (v6_ip a) ≡ segments_of peer.ip) × (v6_port a ≡ peer.port) × (v6_scope_id a ≡ peer.scope)

-- .. of a peer, where there is one
abbrev pub IsAddressFor : Option SixPeer → Option SocketAddr → Type 0
IsAddressFor None address = address ≡ None
IsAddressFor (Some peer) None = ⊥
IsAddressFor (Some peer) (Some address) = IsAddressOfSix peer address

-- the moment that a clock told; 0, where it fails
abbrev pub Told : {T : Type 0} → (T → ℕ → T → Type 0) → T → T → ℕ → Type 0
Told tells before after now = tells before now after ⊎ (now ≡ 0)

-- Where a link over IPv6 sends what goes to an endpoint: one of IPv4 has its address; a name has the address of the
-- peer that the table of names has for it at this moment, or none, where it is nobody's.
abbrev pub IsReachedAt : (lent : Type 0) → (ℕ → Type 0) → Bool → Endpoint → Option SocketAddr → Type 0
IsReachedAt lent told false to None = ⊥
IsReachedAt lent told false to (Some address) = IsMappedOf to address
IsReachedAt lent told true to address =
    (now : ℕ) × (peer : Option SixPeer) × told now × SendsToName lent now to peer × IsAddressFor peer address

-- a send where there is an address; where there is none, nothing is done
abbrev pub SendsWhere : {D : Type 0} → (D → SocketAddr → List ℕ → Result ℕ Error → D → Type 0) → Socket D
    → Option SocketAddr → List ℕ → Socket D → Type 0
SendsWhere hands s None bytes t = t ≡ s
SendsWhere hands s (Some address) bytes t = SendsOn hands s address bytes t

-- what is given of a datagram of this length that came from there: nothing, where it is too long, or no answer can go
-- there
abbrev pub carried_from : Option Endpoint → ℕ → List ℕ → Option Packet
carried_from None len bytes = None
carried_from (Some from) len bytes = if nat_lt max_datagram_len len then None else Some (from, take len bytes)

abbrev pub carried_in : Option (ℕ × SocketAddr) → List ℕ → Option Packet
carried_in None bytes = None
carried_in (Some came) bytes = carried_from (endpoint_in came.1) came.0 bytes

-- the endpoint of where a datagram came from: a peer over IPv6 has the name that the table of names gives it at this
-- moment, or none
abbrev pub IsNamed : (lent : Type 0) → (ℕ → Type 0) → Source → Option Endpoint → Type 0
IsNamed lent told (Four endpoint) named = named ≡ Some endpoint
IsNamed lent told (Six peer) named =
    (now : ℕ) × told now × NamesPeer lent now peer named × IfSome named (λ name. is_of_this_network name.ip ≡ true)
IsNamed lent told Nowhere named = named ≡ None

-- .. and what is given of it then
abbrev pub IsCarriedBySix : (lent : Type 0) → (ℕ → Type 0) → Option (ℕ × SocketAddr) → List ℕ → Option Packet
    → Type 0
IsCarriedBySix lent told None bytes given = given ≡ None
IsCarriedBySix lent told (Some came) bytes given = (source : Source) × (named : Option Endpoint)
    × IsSource came.1 source × IsNamed lent told source named × (given ≡ carried_from named came.0 bytes)
