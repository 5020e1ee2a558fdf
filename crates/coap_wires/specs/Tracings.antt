-- How each datagram is told of.
use Rattle.std.specs.Prelude.{ℕ, Bool, true, false, List, codes, if◌then◌else◌}
use Rattle.coap_links.specs.declared.trace.Way.{Way}
use Rattle.coap_links.specs.declared.trace.Way.TheVariants.{Comes, Goes}
use Rattle.coap_wires.specs.declared.tracing.Tracing.{Tracing}
use Rattle.coap_wires.specs.declared.tracing.Tracing.TheVariants.{Coloured, Off, Plain}

-- it is told of
abbrev pub is_traced : Tracing → Bool
is_traced Off = false
is_traced Plain = true
is_traced Coloured = true

-- .. and in colour, each where that is wanted
abbrev pub tracing_of : Bool → Bool → Tracing
tracing_of wanted coloured = if wanted then (if coloured then Coloured else Plain) else Off

abbrev pub is_in_colour : Tracing → Bool
is_in_colour Off = false
is_in_colour Plain = false
is_in_colour Coloured = true

-- what stands for the way of a datagram
abbrev pub way_sign : Way → List ℕ
way_sign Goes = codes ">"
way_sign Comes = codes "<"
