use Rattle.std.proofs.Common.{◌≡◌, ◌+◌, ◌≤◌, length}
use Rattle.coap_scripts.specs.Script.{NamesPath}
use Rattle.coap_scripts.proofs.ScriptLines.{Reads}
use Rattle.coap_scripts.proofs.script.paths.paths_of.Given as goal

-- The paths so far are those of the lines before what is left, as many as these are. Each line is a byte at least.
abbrev pub invariant-lines : goal.invariant-lines
invariant-lines g l = record {
  reads : Reads (λ path line. NamesPath line path) (λ path. path) l.fn.text l.left l.paths.items;
  counted : l.number ≡ length l.paths.items;
  few : l.number + length l.left ≤ length l.fn.text;
}

abbrev pub decreases-lines : goal.decreases-lines
decreases-lines g l = length l.left
