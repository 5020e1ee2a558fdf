use Rattle.std.proofs.Common.{◌∙◌, ap, rules}
use Rattle.coap_block.specs.AssemblyKept.{body_of, grown}
use Rattle.coap_block.proofs.Fields.PartialsSeen.{kept_set_same, kept_changed, kept_cut_back, on_err}
use Rattle.coap_block.proofs.partials.grow.Goals as goal

pub returns-in_err-grow-clause-err : goal.returns-in_err-grow-clause-err
returns-in_err-grow-clause-err g c =
    on_err _ _ (kept_set_same c.args.partials.now.items c.args.i c.grow.new.self c.index_mut-partial.result.now
    (c.in_err-grow.ensures.err ∙ ap body_of c.index_mut-partial.ensures.value))

pub returns-clause-ok : goal.returns-clause-ok
returns-clause-ok g c =
    kept_changed (grown c.args.arrival.now.payload.now c.args.arrival.now.at.0) c.args.partials.now.items c.args.i
    c.grow.new.self c.index_mut-partial.result.now c.requires
    (c.in_ok-grow.ensures.ok ∙ ap (λ p. grown c.args.arrival.now.payload.now c.args.arrival.now.at.0 (body_of p))
    c.index_mut-partial.ensures.value)

pub returns-clause-back : goal.returns-clause-back
returns-clause-back g c =
    kept_cut_back c.args.arrival.now.payload.now c.args.arrival.now.at.0 c.len.result c.args.partials.now.items c.args.i
    c.grow.new.self c.index_mut-partial.result.now c.requires
    c.index_mut-partial.ensures.value (search rules) c.in_ok-grow.ensures.ok
