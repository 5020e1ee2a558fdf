use Rattle.coap_wires.specs.Words.{IsDrawnWord, IsWord}
use Rattle.coap_commands.proofs.PairCalls.{paired_by}
use Rattle.coap_commands.proofs.pair.pair.Goals as goal

pub returns-clause-paired : goal.returns-clause-paired
returns-clause-paired g c =
    paired_by (IsWord c.args.word) _ _ _ c.in_ok-word.word c.args.limit c.args.remembered c.args.path.now
    c.as_bytes.result.now c.args.body.now _ c.in_ok-server_link.ensures c.in_ok-word.ensures.word
    c.as_bytes.ensures.value c.pair_over.ensures.pairs

pub returns-clause-drawn : goal.returns-clause-drawn
returns-clause-drawn g c =
    paired_by (IsDrawnWord (g.R.Draws.draws c.args.rt.now) c.args.word) _ _ _ c.in_ok-word.word c.args.limit
    c.args.remembered c.args.path.now c.as_bytes.result.now c.args.body.now _ c.in_ok-server_link.ensures
    c.in_ok-word.ensures.drawn c.as_bytes.ensures.value c.pair_over.ensures.pairs
