use Rattle.std.proofs.Common.{◌≡◌, List, length}
use Rattle.coap_layer.specs.Trace.{Packet}
use Rattle.coap_resource.specs.Entries.{content_of}
use Rattle.coap_server.specs.Object.Shown.{state_of}
use Rattle.std.specs.Io.KnownBytes.{Appends}
use Rattle.coap_answers.specs.Answering.{GivesOut, hex_lines}
use Rattle.coap_answers.proofs.SentTexts.{is_none}
use Rattle.coap_answers.proofs.answering.print_sent.Given as goal

-- so far these were taken, and are written
abbrev pub invariant-loop-datagram : goal.invariant-loop-datagram
invariant-loop-datagram g l =
    (ps : List Packet) × GivesOut (state_of content_of l.fn.server) ps (state_of content_of l.server)
    × (l.is_silent ≡ is_none ps)
    × Appends (g.W.Write.contents l.fn.out) (g.W.Write.contents l.out) (hex_lines ps)

abbrev pub decreases-loop-datagram : goal.decreases-loop-datagram
decreases-loop-datagram g l = length l.server.exchanges.layer.queue
