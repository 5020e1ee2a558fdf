-- Colours of what is told on a terminal.
use Rattle.std.specs.Prelude.{Bool, true, false}
use Rattle.coap_links.specs.declared.trace.Way.{Way}
use Rattle.coap_links.specs.declared.trace.Way.TheVariants.{Comes, Goes}
use Rattle.coap_print.specs.declared.colours.Colour.{Colour}
use Rattle.coap_print.specs.declared.colours.Colour.TheVariants.{Cyan, Green, Usual}
use Rattle.coap_print.specs.declared.printing.Ink.{Ink}
use Rattle.coap_print.specs.declared.printing.Ink.TheVariants as ink
use Rattle.coap_wires.specs.declared.terminal.Terminal.{Terminal}
use Rattle.coap_wires.specs.declared.terminal.Terminal.TheVariants.{Absent, Coloured, Plain}

-- what a chart is drawn with on such a terminal
abbrev pub ink_on : Terminal → Ink
ink_on Absent = ink.Plain
ink_on Plain = ink.Plain
ink_on Coloured = ink.Coloured

-- the colour of the line of a datagram, where colours are wanted: what goes is cyan, what comes green
abbrev pub way_colour : Way → Bool → Colour
way_colour way false = Usual
way_colour Goes true = Cyan
way_colour Comes true = Green
