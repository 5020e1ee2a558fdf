-- With which status a datagram is shown, and a line that may have one in hex (RFC 7252, section 3).
use Rattle.std.specs.Prelude.{◌≡◌, ◌≢◌, ℕ, List, [], ◌∷◌, Ok, map, max}
use Rattle.std.specs.Io.BufRead.{strip_last}
use Rattle.hex.specs.Hex.{decode_of}
use Rattle.coap_scripts.specs.Script.{EachOf, lines_of}
use Rattle.coap_status.specs.StatusNumbers.{status_number}
use Rattle.coap_status.specs.declared.status.Status.{Status}
use Rattle.coap_status.specs.declared.status.Status.TheVariants.{Done, Refused, Words, Failed, Memory}
use Rattle.std.specs.Prelude.{◌⊎◌}
use Rattle.coap_answers.specs.Shown.{IsShown}
use Rattle.coap_status.specs.declared.status.Status.TheVariants as status

-- a line is shown as the datagram that it is the hex of; words are at fault in one that is the hex of none
abbrev pub IsLineStatus : List ℕ → Status → Type 0
IsLineStatus line Done = (datagram : List ℕ) × (decode_of line ≡ Ok datagram) × IsShown datagram Done
IsLineStatus line Refused = (datagram : List ℕ) × (decode_of line ≡ Ok datagram) × IsShown datagram Refused
IsLineStatus line Words = (datagram : List ℕ) → decode_of line ≢ Ok datagram
IsLineStatus line Failed = ⊥
IsLineStatus line Memory = ⊥

-- the lines of a text, each without the carriage return (13) that may stand before its end
abbrev pub dump_lines : List ℕ → List (List ℕ)
dump_lines text = map (strip_last 13) (lines_of text)

-- the greatest of these statuses, as a number; with none nothing is at fault
abbrev pub worst_of : List Status → ℕ
worst_of [] = 0
worst_of (s ∷ statuses) = max (status_number s) (worst_of statuses)

-- each line of the text has its status, and this is the worst of them
abbrev pub IsDumped : List ℕ → Status → Type 0
IsDumped text status = (statuses : List Status) × EachOf (λ s line. IsLineStatus line s) (dump_lines text) statuses
    × (status_number status ≡ worst_of statuses)

-- what a text comes to that can be read: it may be one that can't be read as a script, or as lines of hex
abbrev pub IsOfScript : Status → Type 0
IsOfScript s = (s ≡ status.Done) ⊎ ((s ≡ status.Refused) ⊎ (s ≡ status.Words))
