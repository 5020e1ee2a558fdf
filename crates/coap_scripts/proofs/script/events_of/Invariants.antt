use Rattle.std.proofs.Common.{◌≡◌, ◌+◌, ◌≤◌, length}
use Rattle.coap_run.specs.Run.Happening.{event_of}
use Rattle.coap_scripts.specs.Script.{SaysEvent}
use Rattle.coap_scripts.proofs.ScriptLines.{Reads}
use Rattle.coap_scripts.proofs.script.events_of.Given as goal

-- The events so far are those of the lines before what is left, as many as these are. Each line is a byte at least.
abbrev pub invariant-lines : goal.invariant-lines
invariant-lines g l = record {
  reads : Reads SaysEvent event_of l.fn.script l.left l.events.items;
  counted : l.number ≡ length l.events.items;
  few : l.number + length l.left ≤ length l.fn.script;
}

abbrev pub decreases-lines : goal.decreases-lines
decreases-lines g l = length l.left
