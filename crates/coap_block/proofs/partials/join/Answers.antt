use Rattle.std.proofs.Common.{◌∙◌, sym}
use Rattle.coap_block.proofs.Fields.PartialsSeen.{ok_there, ok_back}
use Rattle.coap_block.proofs.Fields.FoundByKey.{put_grown, put_anew, put_first}
use Rattle.coap_block.proofs.partials.join.Goals as goal

pub returns-in-Some-clause-ok : goal.returns-in-Some-clause-ok
returns-in-Some-clause-ok g c =
    ok_there _ c.grow.result _ _ _ c.grow.ensures.ok
    (put_grown _ _ _ _ _ _ c.if-arrival-gt0.true
    (sym (rw c.deref.ensures.value at c.place_of.ensures.place) ∙ c.in-Some.is))

pub returns-in-Some-2-clause-ok : goal.returns-in-Some-2-clause-ok
returns-in-Some-2-clause-ok g c =
    ok_there _ c.replace.result _ _ _ c.replace.ensures.ok
    (put_anew _ _ _ _ _ _ c.if-arrival-gt0.false
    (sym (rw c.deref.ensures.value at c.place_of.ensures.place) ∙ c.in-Some.is))

pub returns-in-None-clause-ok : goal.returns-in-None-clause-ok
returns-in-None-clause-ok g c =
    ok_there _ c.begin.result _ _ _ c.begin.ensures.ok
    (put_first _ _ _ _ _ _ c.requires.order (sym (rw c.deref.ensures.value at c.place_of.ensures.place) ∙ c.in-None.is))

pub returns-in-None-clause-back : goal.returns-in-None-clause-back
returns-in-None-clause-back g c = ok_back c.args.arrival.now.was.0 c.begin.result _ _ c.begin.ensures.back
