use Rattle.std.proofs.Common.{[], ◌∷◌, ◌++◌, arith}
use Rattle.std.proofs.lemmas.List.{length-append}
use Rattle.coap_replay.proofs.Chains.{gives_more}
use Rattle.coap_replay.proofs.replay.take_out.Goals as goal

pub loop-preserved : goal.loop-preserved
loop-preserved g c =
    let so_far = c.loop.invariant in (
      so_far.0 ++ c.in-Some.field-0 ∷ [],
      omega (arith, so_far.1, length-append so_far.0 (c.in-Some.field-0 ∷ [])),
      gives_more _ so_far.0 _ c.in-Some.field-0 _ so_far.2
          (record { first = c.in-Some.ensures.some; step = c.in-Some.ensures.step }),
    )

pub returns-in-None-clause-few : goal.returns-in-None-clause-few
returns-in-None-clause-few g c is =
    let so_far = c.loop.invariant in record {
      out = so_far.0;
      left = _;
      gives = so_far.2;
      none = c.in-None.ensures.none.0;
      fewer = omega (arith, so_far.1);
    }
