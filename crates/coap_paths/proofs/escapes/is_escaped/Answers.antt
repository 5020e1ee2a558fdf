use Rattle.std.proofs.Common.{◌∙◌, sym}
use Rattle.coap_paths.proofs.Nexts.{ended_escaped, next_is}
use Rattle.coap_paths.proofs.escapes.is_escaped.Goals as goal

pub bytes-preserved : goal.bytes-preserved
bytes-preserved c =
    let n = next_is c.bytes.left.now _ c.in-Some.after.now c.in-Some.ensures.some in
    sym n.well ∙ c.bytes.invariant

pub returns : goal.returns
returns c = ended_escaped c.bytes.left.now c.is_empty.result c.in_default.ensures.none c.is_empty.ensures
    ∙ c.bytes.invariant
