use Rattle.std.proofs.Common.{◌∙◌, ap, set}
use Rattle.coap_block.specs.AssemblyKept.{body_of, partials_of}
use Rattle.coap_block.proofs.Fields.PartialsSeen.{kept_set, kept_set_back}
use Rattle.coap_block.proofs.partials.replace.Goals as goal

pub returns-clause-ok : goal.returns-clause-ok
returns-clause-ok g c =
    kept_set c.args.partials.now.items c.args.i c.replace-old.new.dest _
    (ap body_of c.replace-old.ensures.after ∙ c.in_ok-new.ensures)

pub returns-clause-back : goal.returns-clause-back
returns-clause-back g c =
    ap (λ p. set (partials_of (set c.args.partials.now.items c.args.i c.replace-old.new.dest)) c.args.i (body_of p))
    (c.replace-old.ensures.value ∙ c.index_mut.ensures.value)
    ∙ kept_set_back c.args.partials.now.items c.args.i c.replace-old.new.dest c.index_mut.result.now c.requires
