use Rattle.coap_showing.specs.Dumps.{IsOfScript}
use Rattle.coap_showing.proofs.DumpedLines.{Dumps}
use Rattle.coap_showing.proofs.dumping.dump_to.Given as goal

-- so far the worst status is one of a text, and that of the lines that were read
abbrev pub invariant-loop-number : goal.invariant-loop-number
invariant-loop-number g l = record {
  kinds : IsOfScript l.worst;
  worst : Dumps (g.I.Read.remaining l.fn.input) (g.I.Read.remaining l.input) l.worst;
}
