use Rattle.coap_block.proofs.Fields.PartialsSeen.{begun_behind, begun_back}
use Rattle.coap_block.proofs.partials.begin.Goals as goal

pub returns-clause-ok : goal.returns-clause-ok
returns-clause-ok g c = begun_behind _ _ _ _ _ _ _ c.in_ok-reserve.ensures.items c.forget.ensures.left
    c.push_within.ensures c.in_ok-new.ensures

pub returns-clause-back : goal.returns-clause-back
returns-clause-back g c =
    begun_back _ _ _ (begun_behind _ _ _ _ _ _ _ c.in_ok-reserve.ensures.items c.forget.ensures.left
    c.push_within.ensures c.in_ok-new.ensures)
