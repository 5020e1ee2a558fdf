-- The UDP datagram that an IP packet carries: IPv4 (RFC 791, section 3.1), IPv6 (RFC 8200, sections 3 and 4), UDP
-- (RFC 768). Bytes behind the packet's own length count for nothing, and a checksum isn't read: a sending host may
-- leave it to its network card.
use Rattle.std.specs.Prelude.{ℕ, zero, suc, Bool, ◌+◌, ◌-◌, ◌*◌, ◌/◌, ◌%◌, ◌==◌, ◌&&◌, ◌||◌, not, nat_lt, nat_le}
use Rattle.std.specs.Prelude.{if◌then◌else◌, List, length, take, drop, slice_index, Result, Ok, Err, ◌≡◌}
use Rattle.coap_types.specs.declared.endpoint.Endpoint.{Endpoint}
use Rattle.coap_pcap.specs.Numbers.{half_at}
use Rattle.coap_pcap.specs.declared.addresses.Addresses.{Addresses}
use Rattle.coap_pcap.specs.declared.addresses.Addresses.TheVariants.{V4, V6}
use Rattle.coap_pcap.specs.declared.addresses.SixEndpoint.{SixEndpoint}
use Rattle.coap_pcap.specs.declared.fields.Order.TheVariants.{Big}
use Rattle.coap_pcap.specs.declared.reasons.Skip.{Skip}
use Rattle.coap_pcap.specs.declared.reasons.Skip.TheVariants.{NotUdp, Fragment, Cut}

infixl 10 ◌>>=◌
abbrev pub ◌>>=◌ : {A B E : Type 0} → Result A E → (A → Result B E) → Result B E
(Ok x) >>= f = f x
(Err e) >>= f = Err e

-- What a function returned, seen by view, is what reading gives.
abbrev pub Gives : {X Y E : Type 0} → (X → Y) → Result X E → Result Y E → Type 0
Gives view (Ok x) read = read ≡ Ok (view x)
Gives view (Err e) read = read ≡ Err e

-- the first four bits, and the rest of the first byte
abbrev pub version : List ℕ → ℕ
version bytes = slice_index bytes 0 / 16

-- the length of an IPv4 header, whose words have four bytes each; that of the whole packet
abbrev pub ipv4_header : List ℕ → ℕ
ipv4_header bytes = 4 * (slice_index bytes 0 % 16)

abbrev pub ipv4_total : List ℕ → ℕ
ipv4_total bytes = half_at Big bytes 2

-- a header has 5 words at least
unfoldable pub is_ipv4 : List ℕ → Bool
is_ipv4 bytes = (version bytes == 4) && nat_le 20 (ipv4_header bytes)

-- more fragments follow (a bit), or others are in front (13 bits)
unfoldable pub is_fragment : List ℕ → Bool
is_fragment bytes = not (half_at Big bytes 6 % 16384 == 0)

-- what is behind the header of an IPv4 packet that carries UDP (17)
unfoldable pub ipv4_body : List ℕ → Result (List ℕ) Skip
ipv4_body bytes =
    if nat_lt (length bytes) 20 then Err Cut
    else if not (is_ipv4 bytes) then Err NotUdp
    else if nat_lt (ipv4_total bytes) (ipv4_header bytes) then Err NotUdp
    else if not (slice_index bytes 9 == 17) then Err NotUdp
    else if is_fragment bytes then Err Fragment
    else if nat_lt (length bytes) (ipv4_total bytes) then Err Cut
    else Ok (take (ipv4_total bytes - ipv4_header bytes) (drop (ipv4_header bytes) bytes))

-- hop-by-hop options (0), a routing header (43), destination options (60)
unfoldable pub is_extension : ℕ → Bool
is_extension kind = (kind == 0) || ((kind == 43) || (kind == 60))

-- the length of an extension header: the eighths behind the first eight bytes are counted
abbrev pub extension_len : List ℕ → ℕ
extension_len bytes = 8 * (slice_index bytes 1 + 1)

-- What is behind at most so many extension headers, of which the first is of this kind: up to a fragment header (44) or
-- UDP (17). It is cut where the packet says that more bytes follow than were captured.
unfoldable pub behind_extensions : ℕ → ℕ → List ℕ → Result (List ℕ) Skip
behind_extensions zero kind bytes = Err NotUdp
behind_extensions (suc more) kind bytes =
    if kind == 17 then Ok bytes
    else if kind == 44 then Err Fragment
    else if not (is_extension kind) then Err NotUdp
    else if nat_lt (length bytes) 8 then Err Cut
    else if nat_lt (length bytes) (extension_len bytes) then Err Cut
    else behind_extensions more (slice_index bytes 0) (drop (extension_len bytes) bytes)

-- what is behind the headers of an IPv6 packet that carries UDP, as far as it was captured
unfoldable pub ipv6_body : List ℕ → Result (List ℕ) Skip
ipv6_body bytes =
    if nat_lt (length bytes) 40 then Err Cut
    else if not (version bytes == 6) then Err NotUdp
    else behind_extensions 8 (slice_index bytes 6) (take (half_at Big bytes 4) (drop 40 bytes))

-- the ports and the payload of UDP; its length counts the 8 bytes of the header
unfoldable pub udp_at : List ℕ → Result (ℕ × ℕ × List ℕ) Skip
udp_at bytes =
    if nat_lt (length bytes) 8 then Err Cut
    else if nat_lt (half_at Big bytes 4) 8 then Err NotUdp
    else if nat_lt (length bytes) (half_at Big bytes 4) then Err Cut
    else Ok (half_at Big bytes 0, half_at Big bytes 2, take (half_at Big bytes 4 - 8) (drop 8 bytes))

-- bytes of a header, and the endpoint of the address there with this port
abbrev pub ipv4_endpoint : List ℕ → ℕ → ℕ → Endpoint
ipv4_endpoint bytes at port = record { ip = take 4 (drop at bytes); port = port }

abbrev pub ipv6_endpoint : List ℕ → ℕ → ℕ → SixEndpoint
ipv6_endpoint bytes at port = record { ip = take 16 (drop at bytes); port = port }

-- the addresses and the payload of the datagram in an IP packet
unfoldable pub ipv4_datagram : List ℕ → Result (Addresses × List ℕ) Skip
ipv4_datagram bytes = do
  body ← ipv4_body bytes
  udp ← udp_at body
  Ok (V4 (ipv4_endpoint bytes 12 udp.0) (ipv4_endpoint bytes 16 udp.1), udp.2)

unfoldable pub ipv6_datagram : List ℕ → Result (Addresses × List ℕ) Skip
ipv6_datagram bytes = do
  body ← ipv6_body bytes
  udp ← udp_at body
  Ok (V6 (ipv6_endpoint bytes 8 udp.0) (ipv6_endpoint bytes 24 udp.1), udp.2)
