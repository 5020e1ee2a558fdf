-- What is written: a file whose packets are IP packets of UDP (LINKTYPE_RAW), with made-up headers.
use Rattle.std.specs.Prelude.{ℕ, ◌≡◌, ◌≤◌, ◌<◌, ◌+◌, ◌*◌, ◌/◌, ◌%◌, ◌^◌, List, [], ◌∷◌, ◌++◌, length, Ok}
use Rattle.coap_pcap.specs.Checksums.{complement, complement_of_udp, sum_on}
use Rattle.coap_pcap.specs.Files.{Seen}
use Rattle.coap_pcap.specs.Numbers.{half, low_half, low_word}
use Rattle.coap_pcap.specs.declared.addresses.Addresses.{Addresses}
use Rattle.coap_pcap.specs.declared.addresses.Addresses.TheVariants.{V4, V6}
use Rattle.coap_pcap.specs.declared.writing.TheConstants.{MAX_PAYLOAD_LEN as max_payload_len}

-- The magic number of microseconds; version 2.4; two numbers that are 0; the snap length, 262,144; LINKTYPE_RAW, 101.
unfoldable pub file_head : List ℕ
file_head =
    low_word 2712847316
    ++ (low_half 2 ++ (low_half 4 ++ (low_word 0 ++ (low_word 0 ++ (low_word 262144 ++ low_word 101)))))

-- an IPv4 header of five words: not to be fragmented, 64 hops, UDP (17); and its checksum
unfoldable pub ipv4_head : ℕ → ℕ → List ℕ → List ℕ → List ℕ
ipv4_head sum len from to =
    (69 ∷ 0 ∷ half len) ++ ((0 ∷ 0 ∷ 64 ∷ 0 ∷ 64 ∷ 17 ∷ half sum) ++ (from ++ to))

unfoldable pub ipv4_summed : ℕ → List ℕ → List ℕ → List ℕ
ipv4_summed len from to = ipv4_head (complement (sum_on 0 (ipv4_head 0 len from to))) len from to

-- an IPv6 header: no flow label, UDP (17), 64 hops
unfoldable pub ipv6_head : ℕ → List ℕ → List ℕ → List ℕ
ipv6_head len from to = ((96 ∷ 0 ∷ 0 ∷ 0 ∷ half len) ++ (17 ∷ 64 ∷ [])) ++ (from ++ to)

-- the ports, the length and the checksum
unfoldable pub udp_head : ℕ → ℕ → ℕ → ℕ → List ℕ
udp_head source destination len sum = half source ++ (half destination ++ (half len ++ half sum))

-- The header of UDP with its checksum, which goes on from the sum of a pseudo header over the header and the payload.
unfoldable pub udp_summed : ℕ → ℕ → ℕ → List ℕ → List ℕ
udp_summed pseudo source destination payload =
    udp_head source destination (8 + length payload) (
    complement_of_udp (sum_on (sum_on pseudo (udp_head source destination (8 + length payload) 0)) payload)
    )

-- The pseudo headers: the addresses, the protocol and the length (RFC 768; RFC 8200, section 8.1). A length of at most
-- 16 bits, and zeros in front of it, give the sum of any order.
unfoldable pub pseudo : List ℕ → List ℕ → ℕ → ℕ
pseudo from to len = sum_on (sum_on (sum_on 0 from) to) (0 ∷ 17 ∷ half len)

-- the packet of a datagram
unfoldable pub packet : Addresses → List ℕ → List ℕ
packet (V4 from to) payload =
    ipv4_summed (20 + (8 + length payload)) from.ip to.ip
    ++ (udp_summed (pseudo from.ip to.ip (8 + length payload)) from.port to.port payload ++ payload)
packet (V6 from to) payload =
    ipv6_head (8 + length payload) from.ip to.ip
    ++ (udp_summed (pseudo from.ip to.ip (8 + length payload)) from.port to.port payload ++ payload)

-- a record: seconds and microseconds; the length twice, since nothing is left out; the packet
unfoldable pub record_of : ℕ → List ℕ → List ℕ
record_of ms bytes =
    low_word (ms / 1000)
    ++ (low_word (ms % 1000 * 1000) ++ (low_word (length bytes) ++ (low_word (length bytes) ++ bytes)))

-- a datagram that was sent at a moment
pub record Sent : Type 0 where
  pub at : ℕ
  pub addresses : Addresses
  pub payload : List ℕ

abbrev pub records : List Sent → List ℕ
records [] = []
records (s ∷ more) = record_of s.at (packet s.addresses s.payload) ++ records more

abbrev pub file : List Sent → List ℕ
file sent = file_head ++ records sent

-- what has a record: the length of the packet is a number of 16 bits, the seconds are one of 32
abbrev pub AreAddresses : Addresses → Type 0
AreAddresses (V4 from to) = (length from.ip ≡ 4) × (length to.ip ≡ 4) × (from.port < 2 ^ 16) × (to.port < 2 ^ 16)
AreAddresses (V6 from to) = (length from.ip ≡ 16) × (length to.ip ≡ 16) × (from.port < 2 ^ 16) × (to.port < 2 ^ 16)

pub record HasRecord (s : Sent) : Type 0 where
  pub addresses : AreAddresses s.addresses
  pub short : length s.payload ≤ max_payload_len
  pub early : s.at / 1000 < 2 ^ 32

abbrev pub AllHaveRecords : List Sent → Type 0
AllHaveRecords [] = Unit {0}
AllHaveRecords (s ∷ more) = HasRecord s × AllHaveRecords more

-- how it is found again
abbrev pub seen_again : Sent → Seen
seen_again s = record { at = s.at; found = Ok (s.addresses, s.payload) }
