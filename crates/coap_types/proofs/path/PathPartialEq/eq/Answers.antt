use Rattle.std.proofs.Common.{◌≡◌, ◌∙◌, sym}
use Rattle.coap_types.specs.Path.{same_path}
use Rattle.coap_types.proofs.Facts.Paths.{same_path-decides}
use Rattle.coap_types.proofs.Paths.AsTheirBytes.{same_segments}
use Rattle.coap_types.proofs.path.PathPartialEq.eq.Goals as goal

pub returns : goal.returns
returns g c =
    let value : c.eq.result ≡ same_path c.args.self.now c.args.other.now =
    rw (← c.self.view_is, ← c.other.view_is) (c.eq.ensures
    ∙ same_segments {Z = (denote.Param.copied 0 g.row.A).Denot} c.self.inside.segments.items
    c.other.inside.segments.items) in
    let decides = same_path-decides c.args.self.now c.args.other.now in
    record { value = value; equal = (λ h. decides.0 (sym value ∙ h), λ e. value ∙ decides.1 e) }
