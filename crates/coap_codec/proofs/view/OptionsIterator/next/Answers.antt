use Rattle.std.proofs.Common.{rules, ap, sym, ◌∙◌, length}
use Rattle.coap_types.specs.CoapOption.{option_of}
use Rattle.coap_codec.proofs.OneOption.LongestRun.{walk_step, walk_stop}
use Rattle.coap_codec.proofs.view.OptionsIterator.next.Goals as goal

pub returns-in-Ok-clause-steps : goal.returns-in-Ok-clause-steps
returns-in-Ok-clause-steps c =
    sym c.self.view_is ∙ ap (λ w. w.options) (walk_step c.self.inside.number c.self.inside.rest.now
    (option_of c.in-Ok.option) c.in-Ok.rest.now c.in-Ok.ensures)

pub returns-in-Ok-clause-goes : goal.returns-in-Ok-clause-goes
returns-in-Ok-clause-goes c =
    let step = sym c.self.view_is ∙ ap (λ w. w.options)
    (walk_step c.self.inside.number c.self.inside.rest.now
    (option_of c.in-Ok.option) c.in-Ok.rest.now c.in-Ok.ensures) in
    let shorter = ap length step in
    search rules

pub returns-in-Err-clause-steps : goal.returns-in-Err-clause-steps
returns-in-Err-clause-steps c =
    let none = sym c.self.view_is ∙ ap (λ w. w.options)
    (walk_stop c.self.inside.number c.self.inside.rest.now c.in-Err.field-0 c.in-Err.ensures) in
    (none, none)
