-- Where the socket of a link is bound: at one address of the machine, or, at 0.0.0.0, at each (RFC 1122, section
-- 3.2.1.3).
use Rattle.std.specs.Prelude.{ℕ, List, [], ◌∷◌, ◌≡◌, ◌⊎◌, ◌==◌, if◌then◌else◌, Option, Some, None, Result, Ok, Err}
use Rattle.std.specs.Net.Addr.{IsLoopbackV6, IsUnspecifiedV6, IsWithinAt, ipv4_octets, ipv6_segments}
use Rattle.std.specs.Net.Socket.{v4_ip, v4_port, v6_ip, v6_port, v6_scope_id}
use Rattle.std.specs.declared.io.Error.{Error}
use Rattle.std.specs.declared.net.ipv6_addr.Ipv6Addr.{Ipv6Addr}
use Rattle.std.specs.declared.net.socket_addr.SocketAddr.{SocketAddr}
use Rattle.std.specs.declared.net.socket_addr.SocketAddr.TheVariants.{V4, V6}
use Rattle.std.specs.declared.net.socket_addr.SocketAddrV6.{SocketAddrV6}
use Rattle.coap_types.specs.declared.endpoint.Endpoint.{Endpoint}

-- at the address that was asked for, and at the port, where it is not 0, which stands for any
abbrev pub IsBoundAt : Endpoint → Endpoint → Type 0
IsBoundAt asked address = (address.ip ≡ asked.ip) × ((asked.port ≡ 0) ⊎ (address.port ≡ asked.port))

-- where a client's socket is, by the address of its server: on the loopback, where the server is there
abbrev pub client_ip : List ℕ → List ℕ
client_ip [] = 0 ∷ 0 ∷ 0 ∷ 0 ∷ []
client_ip (network ∷ rest) = if network == 127 then 127 ∷ 0 ∷ 0 ∷ 1 ∷ [] else 0 ∷ 0 ∷ 0 ∷ 0 ∷ []

-- where a socket of IPv4 is, by the address that the system says
abbrev pub bound_endpoint : SocketAddr → Option Endpoint
bound_endpoint (V4 a) = Some (record { ip = ipv4_octets (v4_ip a); port = v4_port a })
bound_endpoint (V6 a) = None

-- the system said that a socket is at this endpoint
abbrev pub IsSaidAt : Endpoint → Option SocketAddr → Type 0
IsSaidAt address None = ⊥
IsSaidAt address (Some at) = bound_endpoint at ≡ Some address

-- What comes of a socket of which the system says that it is there: a link at that address, exactly where it is the one
-- that was asked for.
abbrev pub IsPlaced : Endpoint → Result SocketAddr Error → Result Endpoint Error → Type 0
IsPlaced asked said (Ok address) =
    (at : SocketAddr) × (said ≡ Ok at) × (bound_endpoint at ≡ Some address) × IsBoundAt asked address
IsPlaced asked said (Err error) = (at : SocketAddr) (address : Endpoint) → said ≡ Ok at
    → bound_endpoint at ≡ Some address → IsBoundAt asked address → ⊥

-- one of the addresses of a single link (RFC 4291, section 2.5.6)
abbrev pub IsLinkLocal : Ipv6Addr → Type 0
IsLinkLocal ip = IsWithinAt (ipv6_segments ip) 0 0xfe80 0xfebf

-- at the address of IPv6 that was asked for; at the port, where it is not 0, which stands for any; and in the zone,
-- where the address is one of a single link (RFC 4007, section 6)
pub record IsBoundAtSix (asked at : SocketAddrV6) : Type 0 where
  pub ip : ipv6_segments (v6_ip at) ≡ ipv6_segments (v6_ip asked)
  pub port : (v6_port asked ≡ 0) ⊎ (v6_port at ≡ v6_port asked)
  pub zone : IsLinkLocal (v6_ip asked) → v6_scope_id at ≡ v6_scope_id asked

-- .. over IPv6
abbrev pub IsPlacedSix : SocketAddrV6 → Result SocketAddr Error → Result SocketAddrV6 Error → Type 0
IsPlacedSix asked said (Ok at) = (said ≡ Ok (V6 at)) × IsBoundAtSix asked at
IsPlacedSix asked said (Err error) = (at : SocketAddrV6) → said ≡ Ok (V6 at) → IsBoundAtSix asked at → ⊥

-- .. of a client's socket over IPv6: at ::1, where its server is there, and else at ::
pub record IsClientSix (server ip : Ipv6Addr) : Type 0 where
  pub near : IsLoopbackV6 server → IsLoopbackV6 ip
  pub far : (IsLoopbackV6 server → ⊥) → IsUnspecifiedV6 ip

-- .. at a port that is free, and in the zone of its server (RFC 4007, section 6)
pub record IsClientAddress (server address : SocketAddrV6) : Type 0 where
  pub ip : IsClientSix (v6_ip server) (v6_ip address)
  pub port : v6_port address ≡ 0
  pub scope : v6_scope_id address ≡ v6_scope_id server
