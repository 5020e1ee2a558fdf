-- How much a program of turns bears, before it gives up.
use Rattle.std.specs.Prelude.{◌≡◌, ◌<◌, ℕ, ◌==◌, nat_le, if◌then◌else◌, Result, Ok, Err}
use Rattle.coap_status.specs.declared.status.Stop.{Stop}
use Rattle.coap_status.specs.declared.status.Stop.TheVariants as stop
use Rattle.coap_wires.specs.declared.bearing.Counting.{Counting}
use Rattle.coap_wires.specs.declared.bearing.Counting.TheVariants as counting
use Rattle.coap_wires.specs.declared.bearing.TheConstants.{MAX_FAILURES as max_failures}
use Rattle.coap_links.specs.declared.tally.Tally.{Tally}
use Rattle.coap_arguments.specs.declared.orders.TheConstants.{FOREVER as forever}

-- so many feeds and ticks that were refused memory end it; then, so many calls of the link that failed
abbrev pub borne : ℕ → Tally → Result (Unit {0}) Stop
borne failures tally =
    if nat_le max_failures tally.refused then Err stop.Memory
    else if nat_le max_failures failures then Err stop.Failed
    else Ok tt

-- .. in all, of a program that ends by itself; these are the faults of its link
abbrev pub borne_in_all : ℕ → Tally → Result (Unit {0}) Stop
borne_in_all faults tally = borne faults tally

-- .. in a row, of a program that is run for ever: receives that failed for what its link itself is. A datagram that is
-- lost never ends it.
abbrev pub borne_in_a_row : ℕ → Tally → Result (Unit {0}) Stop
borne_in_a_row broken tally = borne broken tally

-- .. where such calls count
abbrev pub borne_by : Counting → (faults broken : ℕ) → Tally → Result (Unit {0}) Stop
borne_by counting.InAll faults broken tally = borne_in_all faults tally
borne_by counting.InARow faults broken tally = borne_in_a_row broken tally

-- .. of a server of so many datagrams, in a row where it serves for ever
abbrev pub borne_serving : (count faults broken : ℕ) → Tally → Result (Unit {0}) Stop
borne_serving count faults broken tally =
    if count == forever then borne_in_a_row broken tally else borne_in_all faults tally

-- .. and goes on (`faults` is how many calls of a link failed, `broken` how many receives in a row for what it is)
abbrev pub BearsServing : {L : Type 0} → (faults broken : L → ℕ) → ℕ → L → Tally → Type 0
BearsServing faults broken count l tally = borne_serving count (faults l) (broken l) tally ≡ Ok tt

-- a program without inputs goes on: fewer calls of its link failed
abbrev pub Bears : {L : Type 0} → (faults : L → ℕ) → L → Type 0
Bears faults l = faults l < max_failures
