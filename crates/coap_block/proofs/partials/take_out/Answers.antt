use Rattle.std.proofs.Common.{◌∙◌, sym, rules}
use Rattle.coap_block.specs.AssemblyKept.{key_of, partials_of}
use Rattle.coap_block.proofs.Fields.PartialsSeen.{kept_remove, taken_back}
use Rattle.coap_block.proofs.Fields.FoundByKey.{none_out, place_out}
use Rattle.coap_block.proofs.partials.take_out.Goals as goal

pub returns-in-None-clause-left : goal.returns-in-None-clause-left
returns-in-None-clause-left g c = none_out (key_of c.args.key.now) c.args.now.0 (partials_of c.args.partials.now.items)
    (sym (rw c.deref.ensures.value at c.place_of.ensures.place) ∙ c.in-None.is)

pub returns-in-Some-clause-left : goal.returns-in-Some-clause-left
returns-in-Some-clause-left g c =
    rw (c.remove.ensures.items, kept_remove c.args.partials.now.items c.in-Some.i)
    (place_out _ _ _ _ (sym (rw c.deref.ensures.value at c.place_of.ensures.place) ∙ c.in-Some.is))

pub returns-in-Some-clause-back : goal.returns-in-Some-clause-back
returns-in-Some-clause-back g c = taken_back _ _ _ _ c.remove.ensures.items c.remove.ensures.value (search rules)
