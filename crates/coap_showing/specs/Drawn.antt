-- Where the datagrams of a capture stand on its chart: the sender of the first one on the left.
use Rattle.std.specs.Prelude.{◌≡◌, ◌≢◌}
use Rattle.coap_pcap.specs.declared.addresses.Addresses.{Addresses}
use Rattle.coap_pcap.specs.declared.addresses.Addresses.TheVariants.{V4, V6}
use Rattle.coap_showing.specs.declared.captured_chart.Course.{Course}
use Rattle.coap_showing.specs.declared.captured_chart.Course.TheVariants.{Elsewhere, Left, Right}
use Rattle.coap_showing.specs.declared.captured_chart.Place.{Place}
use Rattle.coap_showing.specs.declared.captured_chart.Place.TheVariants.{Four, Six}

-- the sender of a datagram, and its receiver
abbrev pub sender : Addresses → Place
sender (V4 from to) = Four (record { 0 = from })
sender (V6 from to) = Six from

abbrev pub receiver : Addresses → Place
receiver (V4 from to) = Four (record { 0 = to })
receiver (V6 from to) = Six to

-- the other way
abbrev pub turned : Addresses → Addresses
turned (V4 from to) = V4 to from
turned (V6 from to) = V6 to from

-- to the right goes what goes as the first datagram does, and to the left what comes back
abbrev pub IsCourse : Course → (first addresses : Addresses) → Type 0
IsCourse Right first addresses = addresses ≡ first
IsCourse Left first addresses = (addresses ≢ first) × (addresses ≡ turned first)
IsCourse Elsewhere first addresses = (addresses ≢ first) × (addresses ≢ turned first)
