use Rattle.std.proofs.Common.{◌≡◌, ◌++◌, List, length}
use Rattle.coap_journal.specs.Input.{Input, all_spelled}
use Rattle.coap_server.specs.Object.Shown.{state_of}
use Rattle.coap_replay.specs.Replaying.{TakesAll}
use Rattle.coap_replay.proofs.replay.replay_inputs.Given as goal

abbrev pub invariant-loop-rest : goal.invariant-loop-rest
invariant-loop-rest g l =
    let content = g.S.Store.content in
    (inputs : List Input) × (l.fn.bytes ≡ all_spelled inputs ++ l.rest)
    × TakesAll (state_of content l.fn.server) inputs (state_of content l.server)

abbrev pub decreases-loop-rest : goal.decreases-loop-rest
decreases-loop-rest g l = length l.rest
