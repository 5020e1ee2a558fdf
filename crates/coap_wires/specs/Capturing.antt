-- What a capture has of each datagram that is sent and received (docs/PROGRAM.md; draft-ietf-opsawg-pcap).
use Rattle.std.specs.Prelude.{◌≡◌, ◌+◌, ◌-◌, ◌^◌, min, ℕ, false, List, [], ◌∷◌, ◌++◌, Option}
use Rattle.std.specs.Io.KnownBytes.{Appends}
use Rattle.coap_types.specs.declared.endpoint.Endpoint.{Endpoint}
use Rattle.coap_links.specs.Sockets.{is_of_this_network}
use Rattle.coap_links.specs.declared.trace.Way.{Way}
use Rattle.coap_links.specs.declared.trace.Way.TheVariants.{Comes, Goes}
use Rattle.coap_pcap.specs.Written.{packet, record_of}
use Rattle.coap_pcap.specs.declared.addresses.Addresses.{Addresses}
use Rattle.coap_pcap.specs.declared.addresses.Addresses.TheVariants.{V4, V6}
use Rattle.coap_pcap.specs.declared.addresses.SixEndpoint.{SixEndpoint}

-- what one at an IPv4 endpoint sends goes from there to its peer, and what it receives comes from its peer
abbrev pub four_addresses : Endpoint → Way → Endpoint → Addresses
four_addresses own Goes peer = V4 own peer
four_addresses own Comes peer = V4 peer own

-- likewise at an IPv6 endpoint
abbrev pub six_addresses : SixEndpoint → Way → SixEndpoint → Addresses
six_addresses own Goes peer = V6 own peer
six_addresses own Comes peer = V6 peer own

-- the endpoint of IPv6 that stands for one of IPv4, ::ffff:a.b.c.d (RFC 4291, section 2.5.5.2)
abbrev pub mapped : Endpoint → SixEndpoint
mapped four =
    record {
      ip = (0 ∷ 0 ∷ 0 ∷ 0 ∷ 0 ∷ 0 ∷ 0 ∷ 0 ∷ 0 ∷ 0 ∷ 255 ∷ 255 ∷ []) ++ four.ip;
      port = four.port;
    }

-- at an IPv6 endpoint, of a peer over IPv6, which has a name, or of one over IPv4
abbrev pub IsOfSix : SixEndpoint → Way → Endpoint → Addresses → Type 0
IsOfSix own way peer addresses =
    (six : SixEndpoint) × (addresses ≡ six_addresses own way six)
    × (is_of_this_network peer.ip ≡ false → six ≡ mapped peer)

-- the moment since 1970 of what is captured where a clock that began at that moment tells this one (`tells` is which
-- moments it tells)
abbrev pub IsCapturedAt : {C : Type 0} → (tells : C → ℕ → C → Type 0) → (before : C) → (begin : ℕ) → (after : C) → ℕ
    → Type 0
IsCapturedAt tells before begin after at = (now : ℕ) × tells before now after × (at ≡ min (begin + now) (2 ^ 64 - 1))

-- behind what a capture has, the record of a datagram is written that goes between such addresses at such a moment
abbrev pub IsCaptured : (ℕ → Type 0) → (Addresses → Type 0) → (old new : Option (List ℕ)) → List ℕ → Type 0
IsCaptured At Between old new bytes =
    (at : ℕ) × At at × (addresses : Addresses) × Between addresses
    × Appends old new (record_of at (packet addresses bytes))
