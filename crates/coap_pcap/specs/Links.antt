-- The IP packet in what a link carried (the link-layer header types of tcpdump.org).
use Rattle.std.specs.Prelude.{ℕ, Bool, ◌+◌, ◌*◌, ◌==◌, ◌||◌, nat_lt, if◌then◌else◌, List, [], ◌∷◌, length, drop}
use Rattle.std.specs.Prelude.{Result, Err, Option, Some, None}
use Rattle.coap_pcap.specs.Numbers.{half_at, word_at}
use Rattle.coap_pcap.specs.Packets.{ipv4_datagram, ipv6_datagram, version}
use Rattle.coap_pcap.specs.declared.addresses.Addresses.{Addresses}
use Rattle.coap_pcap.specs.declared.fields.Order.TheVariants.{Big, Little}
use Rattle.coap_pcap.specs.declared.link.Link.{Link}
use Rattle.coap_pcap.specs.declared.link.Link.TheVariants.{Null, Ethernet, Raw, Cooked, Cooked2}
use Rattle.coap_pcap.specs.declared.reasons.Skip.{Skip}
use Rattle.coap_pcap.specs.declared.reasons.Skip.TheVariants.{NotUdp, Cut}

-- LINKTYPE_NULL, LINKTYPE_ETHERNET, LINKTYPE_RAW, LINKTYPE_LINUX_SLL, LINKTYPE_LINUX_SLL2
abbrev pub link_of : ℕ → Option Link
link_of n =
    if n == 0 then Some Null
    else if n == 1 then Some Ethernet
    else if n == 101 then Some Raw
    else if n == 113 then Some Cooked
    else if n == 276 then Some Cooked2
    else None

-- by the number of the protocol (EtherType): IPv4 is 0x0800, IPv6 0x86dd
unfoldable pub of_protocol : ℕ → List ℕ → Result (Addresses × List ℕ) Skip
of_protocol protocol bytes =
    if protocol == 2048 then ipv4_datagram bytes
    else if protocol == 34525 then ipv6_datagram bytes
    else Err NotUdp

-- a tag of a VLAN stands there, and then the protocol: 0x8100, 0x88a8 (IEEE 802.1Q)
unfoldable pub is_tag : ℕ → Bool
is_tag protocol = (protocol == 33024) || (protocol == 34984)

-- the protocol, behind any tags, and what follows it; each tag has two bytes more
abbrev pub behind_tags : List ℕ → Result (Addresses × List ℕ) Skip
behind_tags [] = Err Cut
behind_tags (_ ∷ []) = Err Cut
behind_tags (_ ∷ _ ∷ []) = Err Cut
behind_tags (_ ∷ _ ∷ _ ∷ []) = Err Cut
behind_tags (a ∷ b ∷ c ∷ d ∷ rest) =
    if is_tag (256 * a + b) then behind_tags rest else of_protocol (256 * a + b) (c ∷ d ∷ rest)

-- behind the two addresses of an Ethernet frame
abbrev pub in_frame : List ℕ → Result (Addresses × List ℕ) Skip
in_frame bytes = if nat_lt (length bytes) 12 then Err Cut else behind_tags (drop 12 bytes)

-- by the version of the IP packet
unfoldable pub by_version : List ℕ → Result (Addresses × List ℕ) Skip
by_version [] = Err Cut
by_version (first ∷ more) =
    if version (first ∷ more) == 4 then ipv4_datagram (first ∷ more)
    else if version (first ∷ more) == 6 then ipv6_datagram (first ∷ more)
    else Err NotUdp

-- by the address family in front, in the byte order of the host that captured: AF_INET is 2, AF_INET6 24, 28 or 30
abbrev pub is_inet6 : ℕ → Bool
is_inet6 family = (family == 24) || ((family == 28) || (family == 30))

unfoldable pub by_family : List ℕ → Result (Addresses × List ℕ) Skip
by_family bytes =
    if nat_lt (length bytes) 4 then Err Cut
    else if (word_at Little bytes 0 == 2) || (word_at Big bytes 0 == 2) then ipv4_datagram (drop 4 bytes)
    else if is_inet6 (word_at Little bytes 0) || is_inet6 (word_at Big bytes 0) then ipv6_datagram (drop 4 bytes)
    else Err NotUdp

-- the protocol is at place 14 of a cooked header of 16 bytes, and at 0 of one of 20 bytes
unfoldable pub by_cooked : ℕ → ℕ → List ℕ → Result (Addresses × List ℕ) Skip
by_cooked at len bytes =
    if nat_lt (length bytes) len then Err Cut else of_protocol (half_at Big bytes at) (drop len bytes)

-- the datagram in what a link of this type carried
unfoldable pub datagram_in : Link → List ℕ → Result (Addresses × List ℕ) Skip
datagram_in Null bytes = by_family bytes
datagram_in Ethernet bytes = in_frame bytes
datagram_in Raw bytes = by_version bytes
datagram_in Cooked bytes = by_cooked 14 16 bytes
datagram_in Cooked2 bytes = by_cooked 0 20 bytes
