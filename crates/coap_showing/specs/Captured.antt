-- With which status a capture is shown (RFC 7252, section 3; draft-ietf-opsawg-pcap).
use Rattle.std.specs.Prelude.{⊤, ℕ, List, All, Any, Result, Ok, Err}
use Rattle.coap_pcap.specs.Files.{IsFaulty, Seen, Tells}
use Rattle.coap_pcap.specs.declared.addresses.Addresses.{Addresses}
use Rattle.coap_pcap.specs.declared.reasons.Fault.{Fault}
use Rattle.coap_pcap.specs.declared.reasons.Skip.{Skip}
use Rattle.coap_status.specs.declared.status.Status.{Status}
use Rattle.coap_status.specs.declared.status.Status.TheVariants.{Done, Refused, Words, Failed, Memory}
use Rattle.coap_print.specs.Spelled.{Spelled}

-- what a packet is found to be spells a message, where it is a datagram
abbrev pub FoundSpells : Result (Addresses × List ℕ) Skip → Type 0
FoundSpells (Ok datagram) = Spelled datagram.1
FoundSpells (Err why) = ⊤

abbrev pub IsSpelled : Seen → Type 0
IsSpelled packet = FoundSpells packet.found

-- done are packets of which each datagram spells a message; of others one doesn't
abbrev pub IsPacketsStatus : List Seen → Status → Type 0
IsPacketsStatus packets Done = All IsSpelled packets
IsPacketsStatus packets Refused = Any (λ packet. IsSpelled packet → ⊥) packets
IsPacketsStatus packets Words = ⊥
IsPacketsStatus packets Failed = ⊥
IsPacketsStatus packets Memory = ⊥

-- a capture is shown so; words are at fault in a file that is none
abbrev pub IsCaptureStatus : List ℕ → Status → Type 0
IsCaptureStatus bytes Done = (packets : List Seen) × Tells bytes packets × IsPacketsStatus packets Done
IsCaptureStatus bytes Refused = (packets : List Seen) × Tells bytes packets × IsPacketsStatus packets Refused
IsCaptureStatus bytes Words = (fault : Fault) × IsFaulty bytes fault
IsCaptureStatus bytes Failed = ⊥
IsCaptureStatus bytes Memory = ⊥
