use Rattle.std.proofs.Common.{rules, not}
use Rattle.arrayvec.proofs.ArrayVecLemmas.{filter-from_retain}
use Rattle.coap_types.specs.SameEndpoint.{same_endpoint}
use Rattle.coap_exchange.proofs.deferrals.retain_others.Goals as goal

pub returns : goal.returns
returns c =
    filter-from_retain _ (λ d. not (same_endpoint d.asked.from c.args.peer)) _ (λ x b f' y k. search rules) _ _
    c.retain.ensures.filtered
