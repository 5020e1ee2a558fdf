-- What a terminal shows and takes as no command: the printable characters of ASCII.
use Rattle.std.specs.Prelude.{◌<◌, ◌≤◌, ℕ, List, All}

abbrev pub IsPrintable : ℕ → Type 0
IsPrintable byte = (32 < byte) × (byte < 127)

abbrev pub ArePrintable : List ℕ → Type 0
ArePrintable text = All IsPrintable text

-- .. and the blank between words
abbrev pub IsShown : ℕ → Type 0
IsShown byte = (32 ≤ byte) × (byte < 127)

abbrev pub AreShown : List ℕ → Type 0
AreShown text = All IsShown text
