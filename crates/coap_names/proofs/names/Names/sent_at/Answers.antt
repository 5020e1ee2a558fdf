use Rattle.std.proofs.Common.{◌∙◌, sym, ap}
use Rattle.std.specs.Map.{lookup}
use Rattle.coap_names.specs.Tables.{keyed, touched}
use Rattle.coap_names.proofs.Given.{counts}
use Rattle.coap_names.proofs.names.Names.sent_at.Goals as goal

pub returns-in-Some-clause-key : goal.returns-in-Some-clause-key
returns-in-Some-clause-key g c =
    sym c.in-Some.is ∙ (c.key_at.ensures ∙ ap (λ s. keyed s c.args.name.now) c.self.view_is)

pub returns-in-Some-clause-does : goal.returns-in-Some-clause-does
returns-in-Some-clause-does g c =
    let v = c.self.view_is in
    let test = g.K.PartialEq.eq c.in-Some.key in
    counts g.K.PartialEq.eq c.args.self.now c.args.at.0 c.args.name.now c.in-Some.key c.touch.new.idle.entries _
    (ap (λ s. keyed s c.args.name.now) (sym v) ∙ (sym c.key_at.ensures ∙ c.in-Some.is))
    (λ p h. c.touch.ensures.entries p (ap (λ s. lookup test s.idle) v ∙ h)
    ∙ ap (λ s. touched test p.name c.args.at.0 s.idle) v)
    (λ h. ap (λ t. t.entries) (c.touch.ensures.none (ap (λ s. lookup test s.idle) v ∙ h)) ∙ ap (λ s. s.idle) v)
    (λ j. record (v j) { clock = c.args.at.0; idle = c.touch.new.idle.entries })
