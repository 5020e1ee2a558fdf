use Rattle.std.proofs.Common.{◌∙◌, ap}
use Rattle.std.specs.List.{fold}
use Rattle.std.specs.Hash as fed
use Rattle.coap_types.proofs.Paths.AsTheirBytes.{same_input}
use Rattle.coap_types.proofs.path.PathHash.hash.Goals as goal

pub returns : goal.returns
returns g c = rw (← c.self.view_is) (c.hash.ensures
    ∙ ap (λ (input : fed.HashWrites). fold g.H.Hasher.write c.args.state.now input)
    (same_input {Z = (denote.Param.copied 0 g.row.A).Denot} c.self.inside.segments.items))
