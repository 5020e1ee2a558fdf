use Rattle.std.proofs.Common.{◌∙◌, ap, refl, rules}
use Rattle.coap_block.specs.AssemblyKept.{body_of, cut}
use Rattle.coap_block.proofs.Fields.PartialsSeen.{kept_set, kept_put_back, kept_changed}
use Rattle.coap_block.proofs.partials.restore.Goals as goal

pub returns-in-Replaced : goal.returns-in-Replaced
returns-in-Replaced g c = rw c.in-Replaced.is
    (kept_set c.args.partials.now.items c.in-Replaced.i c.in-Replaced.old _ refl)

pub returns-in-TakenOut : goal.returns-in-TakenOut
returns-in-TakenOut g c =
    rw c.in-TakenOut.is (kept_put_back c.args.partials.now.items _ c.in-TakenOut.i c.in-TakenOut.old
    c.insert-there_is_room.result c.insert-there_is_room.ensures.items
    (c.insert-there_is_room.ensures.succeeds (rw c.in-TakenOut.is at c.requires).1))

pub returns-in-Grown : goal.returns-in-Grown
returns-in-Grown g c =
    rw c.in-Grown.is (kept_changed (cut c.in-Grown.len c.in-Grown.last.0) c.args.partials.now.items c.in-Grown.i
    c.cut.new.self c.index_mut-in-Grown.result.now
    (search rules)
    (c.cut.ensures ∙ ap (λ p. cut c.in-Grown.len c.in-Grown.last.0 (body_of p)) c.index_mut-in-Grown.ensures.value))
