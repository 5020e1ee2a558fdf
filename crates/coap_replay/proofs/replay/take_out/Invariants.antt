use Rattle.std.proofs.Common.{◌≡◌, List, length}
use Rattle.coap_layer.specs.Trace.{Packet}
use Rattle.coap_server.specs.Object.Shown.{state_of}
use Rattle.coap_replay.specs.Replaying.{GivesOut}
use Rattle.coap_replay.proofs.replay.take_out.Given as goal

abbrev pub invariant-loop : goal.invariant-loop
invariant-loop g l =
    let content = g.S.Store.content in
    (ps : List Packet) × (length ps ≡ l.counter)
    × GivesOut (state_of content l.fn.server) ps (state_of content l.server)
