use Rattle.std.proofs.Common.{◌∙◌}
use Rattle.coap_types.proofs.Paths.AsTheirBytes.{same_order}
use Rattle.coap_types.proofs.path.PathOrd.cmp.Goals as goal

pub returns : goal.returns
returns g c = rw (← c.self.view_is, ← c.other.view_is)
    (c.cmp.ensures ∙ same_order {Z = (denote.Param.copied 0 g.row.A).Denot} c.self.inside.segments.items
    c.other.inside.segments.items)
