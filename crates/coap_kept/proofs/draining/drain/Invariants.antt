use Rattle.std.proofs.Common.{List, ◌++◌, ◌≡◌, ◌<◌, ◌^◌, length}
use Rattle.coap_layer.specs.Trace.{Packet}
use Rattle.coap_journaled.specs.Journal.{shown}
use Rattle.coap_journaled.specs.Runs.{end_gives}
use Rattle.coap_kept.specs.Draining.{Drops, may_go}
use Rattle.coap_kept.proofs.draining.drain.Given as goal

-- these were dropped so far
abbrev pub invariant-loop-datagram : goal.invariant-loop-datagram
invariant-loop-datagram g l =
    let begun = shown g.E.End.state l.fn.journaled in
    let now = shown g.E.End.state l.journaled in
    (ps : List Packet) × record {
      drops : Drops (end_gives g.E.End.waiting g.E.End.gives) begun ps now;
      parts : may_go g.E.End.waiting begun ≡ ps ++ may_go g.E.End.waiting now;
      few : 0 < length ps → length (may_go g.E.End.waiting begun) < 2 ^ 64;
      counted : begun.taken ≡ 0 → now.taken ≡ length ps;
      left : now ≡ record begun { end = now.end; taken = now.taken; due = now.due };
    }

abbrev pub decreases-loop-datagram : goal.decreases-loop-datagram
decreases-loop-datagram g l = length (may_go g.E.End.waiting (shown g.E.End.state l.journaled))
