-- A capture file: a head of 24 bytes, and a record for each packet (draft-ietf-opsawg-pcap, sections 4 and 5).
use Rattle.std.specs.Prelude.{ℕ, Bool, true, false, ◌≡◌, ◌≢◌, ◌+◌, ◌*◌, ◌/◌, ◌%◌, ◌==◌, ◌&&◌, not}
use Rattle.std.specs.Prelude.{nat_lt, if◌then◌else◌}
use Rattle.std.specs.Prelude.{List, [], ◌∷◌, length, map, take, drop, Option, Some, None, Result, Ok, Err}
use Rattle.coap_pcap.specs.Links.{datagram_in, link_of}
use Rattle.coap_pcap.specs.Numbers.{half_at, word_at}
use Rattle.coap_pcap.specs.declared.addresses.Addresses.{Addresses}
use Rattle.coap_pcap.specs.declared.fields.Order.{Order}
use Rattle.coap_pcap.specs.declared.fields.Order.TheVariants.{Big, Little}
use Rattle.coap_pcap.specs.declared.file.LeftOut.{LeftOut}
use Rattle.coap_pcap.specs.declared.head.Head.{Head}
use Rattle.coap_pcap.specs.declared.head.Unit.{Unit as UnitSpec}
use Rattle.coap_pcap.specs.declared.head.Unit.TheVariants.{Micros, Nanos}
use Rattle.coap_pcap.specs.declared.link.Link.{Link}
use Rattle.coap_pcap.specs.declared.packets.Datagram.{Datagram}
use Rattle.coap_pcap.specs.declared.packets.Packet.{Packet as PacketSpec}
use Rattle.coap_pcap.specs.declared.reasons.Fault.{Fault}
use Rattle.coap_pcap.specs.declared.reasons.Reason.{Reason}
use Rattle.coap_pcap.specs.declared.reasons.Reason.TheVariants.{Short, Pcapng, Magic, Version, UnknownLink}
use Rattle.coap_pcap.specs.declared.reasons.Reason.TheVariants.{Torn, Fraction, Lengths}
use Rattle.coap_pcap.specs.declared.reasons.ReadError.{ReadError}
use Rattle.coap_pcap.specs.declared.reasons.ReadError.TheVariants as ReadErrors
use Rattle.coap_pcap.specs.declared.reasons.Skip.{Skip}
use Rattle.coap_pcap.specs.declared.reasons.Skip.TheVariants.{NotUdp, Fragment, Cut}

abbrev pub fault : Reason → ℕ → Fault
fault reason at = record { reason = reason; at = at }

-- The magic numbers, in either byte order: moments are in microseconds, 0xa1b2c3d4, or in nanoseconds, 0xa1b23c4d.
unfoldable pub kind_of : List ℕ → Option (Order × UnitSpec)
kind_of bytes =
    if word_at Little bytes 0 == 2712847316 then Some (Little, Micros)
    else if word_at Little bytes 0 == 2712812621 then Some (Little, Nanos)
    else if word_at Big bytes 0 == 2712847316 then Some (Big, Micros)
    else if word_at Big bytes 0 == 2712812621 then Some (Big, Nanos)
    else None

-- how many parts a second has, and a millisecond
abbrev pub per_second : UnitSpec → ℕ
per_second Micros = 1000000
per_second Nanos = 1000000000

abbrev pub per_ms : UnitSpec → ℕ
per_ms Micros = 1000
per_ms Nanos = 1000000

-- the head, whose magic number says this; it is of version 2.4, and the link is in the last two of its bytes
abbrev pub head_for : Order × UnitSpec → Option Link → Result Head Fault
head_for kind None = Err (fault UnknownLink 20)
head_for kind (Some link) = Ok (record { order = kind.0; unit = kind.1; link = link })

unfoldable pub head_behind : Option (Order × UnitSpec) → List ℕ → Result Head Fault
head_behind None bytes = Err (fault Magic 0)
head_behind (Some kind) bytes =
    if nat_lt (length bytes) 24 then Err (fault Short (length bytes))
    else if not ((half_at kind.0 bytes 4 == 2) && (half_at kind.0 bytes 6 == 4)) then Err (fault Version 4)
    else head_for kind (link_of (word_at kind.0 bytes 20 % 65536))

-- a file that begins with 0x0a0d0d0a is pcapng
unfoldable pub head_of : List ℕ → Result Head Fault
head_of bytes =
    if nat_lt (length bytes) 4 then Err (fault Short (length bytes))
    else if word_at Big bytes 0 == 168627466 then Err (fault Pcapng 0)
    else head_behind (kind_of bytes) bytes

-- a packet and its moment, in milliseconds
pub record Record : Type 0 where
  pub at : ℕ
  pub packet : List ℕ

-- The record in front of these bytes, of which the first is at this place of the file, and what follows it: seconds and
-- a fraction of one, the number of bytes that were captured, that of the packet's bytes, and then those that were
-- captured.
unfoldable pub record_at : Head → ℕ → List ℕ → Result (Record × List ℕ) Fault
record_at head place bytes =
    if nat_lt (length bytes) 16 then Err (fault Torn (place + length bytes))
    else if not (nat_lt (word_at head.order bytes 4) (per_second head.unit)) then Err (fault Fraction (place + 4))
    else if nat_lt (word_at head.order bytes 12) (word_at head.order bytes 8) then Err (fault Lengths (place + 8))
    else if nat_lt (length bytes) (16 + word_at head.order bytes 8) then Err (fault Torn (place + length bytes))
    else Ok (
      record {
        at = word_at head.order bytes 0 * 1000 + word_at head.order bytes 4 / per_ms head.unit;
        packet = take (word_at head.order bytes 8) (drop 16 bytes);
      },
      drop (16 + word_at head.order bytes 8) bytes,
    )

-- These bytes, of which the first is at this place, are the records, one behind the other, up to an end and a rest.
abbrev pub Splits : Head → ℕ → List ℕ → List Record → ℕ → List ℕ → Type 0
Splits head place bytes [] end rest = (end ≡ place) × (rest ≡ bytes)
Splits head place bytes (r ∷ rs) end rest =
    (more : List ℕ) × (record_at head place bytes ≡ Ok (r, more))
    × Splits head (place + (16 + length r.packet)) more rs end rest

-- what a packet is found to be
pub record Seen : Type 0 where
  pub at : ℕ
  pub found : Result (Addresses × List ℕ) Skip

abbrev pub seen_of : Link → Record → Seen
seen_of link r = record { at = r.at; found = datagram_in link r.packet }

-- The file is a head and records, whose packets are found to be these.
pub record Tells (bytes : List ℕ) (seen : List Seen) : Type 0 where
  pub head : Head
  pub records : List Record
  pub end : ℕ
  pub head_is : head_of bytes ≡ Ok head
  pub splits : Splits head 24 (drop 24 bytes) records end []
  pub each : seen ≡ map (seen_of head.link) records

-- The first fault of a file: in its head, or behind records without one.
pub record TearsAt (bytes : List ℕ) (f : Fault) : Type 0 where
  pub head : Head
  pub records : List Record
  pub end : ℕ
  pub rest : List ℕ
  pub head_is : head_of bytes ≡ Ok head
  pub splits : Splits head 24 (drop 24 bytes) records end rest
  pub more : rest ≢ []
  pub fault_is : record_at head end rest ≡ Err f

pub data IsFaulty (bytes : List ℕ) (f : Fault) : Type 0 where
  InHead : (is : head_of bytes ≡ Err f) → IsFaulty bytes f
  InRecord : (is : TearsAt bytes f) → IsFaulty bytes f

-- what was found, as a program has it
abbrev pub datagram_seen : Datagram → Addresses × List ℕ
datagram_seen d = (d.addresses, d.payload.now)

abbrev pub found_seen : Result Datagram Skip → Result (Addresses × List ℕ) Skip
found_seen (Ok d) = Ok (datagram_seen d)
found_seen (Err skip) = Err skip

abbrev pub seen : PacketSpec → Seen
seen p = record { at = p.at.0; found = found_seen p.found }

-- why a file isn't read
abbrev pub Fails : List ℕ → ReadError → Type 0
Fails bytes (ReadErrors.Fault f) = IsFaulty bytes f
Fails bytes ReadErrors.Memory = Unit {0}

-- a packet is left out for this reason, and how many are
abbrev pub is_skip : Skip → Skip → Bool
is_skip NotUdp NotUdp = true
is_skip Fragment Fragment = true
is_skip Cut Cut = true
is_skip _ _ = false

abbrev pub skipped_by : Skip → Result (Addresses × List ℕ) Skip → Bool
skipped_by skip (Ok _) = false
skipped_by skip (Err why) = is_skip skip why

abbrev pub is_skipped : Skip → Seen → Bool
is_skipped skip s = skipped_by skip s.found

abbrev pub count : Skip → List Seen → ℕ
count skip [] = 0
count skip (s ∷ more) = if is_skipped skip s then count skip more + 1 else count skip more

abbrev pub left_out_of : List Seen → LeftOut
left_out_of seen =
    record { not_udp = count NotUdp seen; fragments = count Fragment seen; cut = count Cut seen }
