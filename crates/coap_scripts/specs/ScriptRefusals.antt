-- What refuses a line of a script, and the script.
use Rattle.std.specs.Prelude.{ℕ}
use Rattle.coap_types.specs.declared.path.PathRefusal.{PathRefusal}
use Rattle.coap_types.specs.declared.path.PathRefusal.TheVariants as path
use Rattle.hex.specs.declared.error.FromHexError.{FromHexError}
use Rattle.hex.specs.declared.error.FromHexError.TheVariants as hex
use Rattle.coap_scripts.specs.declared.script.refusal.LineRefusal.{LineRefusal}
use Rattle.coap_scripts.specs.declared.script.refusal.LineRefusal.TheVariants as line
use Rattle.coap_scripts.specs.declared.script.refusal.ScriptRefusal.{ScriptRefusal}
use Rattle.coap_scripts.specs.declared.script.refusal.ScriptRefusal.TheVariants as script

-- a word that says no path
abbrev pub of_path : PathRefusal → LineRefusal
of_path path.Memory = line.Memory
of_path _ = line.Unreadable

-- one that says no bytes
abbrev pub of_hex : FromHexError → LineRefusal
of_hex hex.OutOfMemory = line.Memory
of_hex _ = line.Unreadable

-- the line of this number is refused so
abbrev pub of_line : ℕ → LineRefusal → ScriptRefusal
of_line number line.Unreadable = script.Line number
of_line number line.Memory = script.Memory
