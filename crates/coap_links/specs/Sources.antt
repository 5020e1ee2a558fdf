-- Where a datagram came from, by the address that a socket of IPv6 has of it.
use Rattle.std.specs.Prelude.{◌≡◌, ◌==◌, ℕ, List, ◌∷◌, if◌then◌else◌, Option, Some, None}
use Rattle.std.specs.Net.Addr.{IsIpv4Mapped, ipv6_octets, ipv6_segments, low_octets, segments_of}
use Rattle.std.specs.Net.Socket.{v6_ip, v6_port, v6_scope_id}
use Rattle.std.specs.declared.net.socket_addr.SocketAddr.{SocketAddr}
use Rattle.std.specs.declared.net.socket_addr.SocketAddr.TheVariants.{V4, V6}
use Rattle.std.specs.declared.net.socket_addr.SocketAddrV6.{SocketAddrV6}
use Rattle.coap_types.specs.declared.endpoint.Endpoint.{Endpoint}
use Rattle.coap_links.specs.Sockets.{endpoint_in, reached_at}
use Rattle.coap_links.specs.declared.peer_names.SixPeer.{SixPeer}
use Rattle.coap_links.specs.declared.udp6_link.Source.{Source}
use Rattle.coap_links.specs.declared.udp6_link.Source.TheVariants.{Four, Nowhere, Six}
use Rattle.coap_links.specs.declared.udp_link.TheConstants.{NO_PORT as no_port}

abbrev pub four_or_nowhere : Option Endpoint → Source
four_or_nowhere None = Nowhere
four_or_nowhere (Some endpoint) = Four endpoint

-- the peer that has an address of IPv6; a label of its flow is no part of it
abbrev pub peer_at : SocketAddrV6 → SixPeer
peer_at a = record { ip = ipv6_octets (v6_ip a); port = v6_port a; scope = v6_scope_id a }

-- a peer of IPv6, unless its port is 0, where no answer can go (RFC 768)
abbrev pub six_at : SocketAddrV6 → Source
six_at a = if v6_port a == no_port then Nowhere else Six (peer_at a)

-- ::ffff:a.b.c.d is the peer a.b.c.d of IPv4 (RFC 4291, section 2.5.5.2)
abbrev pub IsSource : SocketAddr → Source → Type 0
IsSource (V4 a) source = source ≡ four_or_nowhere (endpoint_in (V4 a))
IsSource (V6 a) source =
    (IsIpv4Mapped (ipv6_segments (v6_ip a)) → source ≡ four_or_nowhere (reached_at (low_octets (v6_ip a)) (v6_port a)))
    × ((IsIpv4Mapped (ipv6_segments (v6_ip a)) → ⊥) → source ≡ six_at a)

-- the segments of the address of IPv6 that stands for this one of IPv4
abbrev pub mapped_segments : List ℕ → List ℕ
mapped_segments ip = 0 ∷ 0 ∷ 0 ∷ 0 ∷ 0 ∷ 0xffff ∷ segments_of ip
