use Rattle.std.proofs.Common.{[], ◌∷◌, ◌++◌}
use Rattle.coap_replay.proofs.Chains.{spelled_more, takes_more}
use Rattle.coap_replay.proofs.replay.replay_inputs.Goals as goal

pub loop-rest-preserved : goal.loop-rest-preserved
loop-rest-preserved g c =
    let so_far = c.loop-rest.invariant in
    let next = c.in_ok-rest.ensures.done in (
      so_far.0 ++ next.0 ∷ [],
      spelled_more c.args.bytes.now c.loop-rest.rest.now c.in_ok-rest.rest.now so_far.0 next.0 so_far.1 next.1,
      takes_more _ so_far.0 _ next.0 _ so_far.2 next.2,
    )
