use Rattle.std.proofs.Common.{rules, not}
use Rattle.arrayvec.proofs.ArrayVecLemmas.{filter-from_retain}
use Rattle.coap_operations.specs.Keys.{is_cancel_key}
use Rattle.coap_operations.proofs.operations.drop_cancel.Goals as goal

pub returns : goal.returns
returns c = filter-from_retain _ (λ k. not (is_cancel_key c.args.number k)) _
    (λ x b f' y k. search rules) _ _ c.retain.ensures.filtered
