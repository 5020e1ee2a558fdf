-- Colours of the chart of a capture.
use Rattle.coap_print.specs.declared.colours.Colour.{Colour}
use Rattle.coap_print.specs.declared.colours.Colour.TheVariants.{Cyan, Green, Usual}
use Rattle.coap_print.specs.declared.printing.Ink.{Ink}
use Rattle.coap_print.specs.declared.printing.Ink.TheVariants as ink
use Rattle.coap_showing.specs.declared.captured_chart.Course.{Course}
use Rattle.coap_showing.specs.declared.captured_chart.Course.TheVariants.{Elsewhere, Left, Right}

-- the colour of the row of a datagram: what goes as the first one is cyan, what goes back green
abbrev pub course_colour : Ink → Course → Colour
course_colour ink.Plain course = Usual
course_colour ink.Coloured Right = Cyan
course_colour ink.Coloured Left = Green
course_colour ink.Coloured Elsewhere = Usual
