-- Colours of lines on a terminal (ECMA-48, section 8.3.117): ESC and [ begin a sign; 36 is cyan, 32 green, and 0 ends
-- both.
use Rattle.std.specs.Prelude.{ℕ, List, ◌∷◌, [], Bool, true, false, codes}
use Rattle.coap_print.specs.declared.colours.Colour.{Colour}
use Rattle.coap_print.specs.declared.colours.Colour.TheVariants.{Cyan, Green, Usual}
use Rattle.coap_print.specs.declared.printing.Ink.{Ink}
use Rattle.coap_print.specs.declared.printing.Printing.{Printing}
use Rattle.coap_print.specs.declared.printing.Printing.TheVariants.{Chart, Lines}

-- the sign ESC
abbrev pub escape : ℕ
escape = 27

-- what stands before a line in this colour
abbrev pub sign_before : Colour → List ℕ
sign_before Usual = []
sign_before Cyan = escape ∷ codes "[36m"
sign_before Green = escape ∷ codes "[32m"

-- .. and behind it
abbrev pub sign_behind : Colour → List ℕ
sign_behind Usual = []
sign_behind Cyan = escape ∷ codes "[0m"
sign_behind Green = escape ∷ codes "[0m"

-- how a run or a capture is printed, as a chart where one is asked for
abbrev pub printing_of : Bool → Ink → Printing
printing_of false ink = Lines
printing_of true ink = Chart ink
