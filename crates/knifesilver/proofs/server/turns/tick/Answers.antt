use Rattle.std.proofs.Common.{◌∙◌, inl, inr, pos, refl, sym, ap, subst, Some}
use Rattle.coap_server.proofs.Facts.EachCall.{led_further}
use Rattle.knifesilver.specs.Answers.{told}
use Rattle.knifesilver.specs.ServerCalls.{Ticked}
use Rattle.knifesilver.specs.declared.held.Held.TheVariants.{Server}
use Rattle.knifesilver.proofs.Either.{either}
use Rattle.knifesilver.proofs.server.turns.tick.Goals as goal

pub returns-in-Ok-true-clause-led : goal.returns-in-Ok-true-clause-led
returns-in-Ok-true-clause-led c = λ _.
    let did = ap told (sym c.in-Ok-true.field-0-test) in
    subst (λ h. Ticked c.args.now c.args.word (pos 1) (Some h) (Some (Server c.tick.new.self))) (sym c.in-Server.is)
    (either
    (λ rest. inl (did ∙ ap told rest.0, ap (λ s. Some (Server s)) rest.1, rest.2, rest.3))
    (λ made. inr (
      (λ limits szx setup t led.
          (_, (made.1, made.2, made.3, made.4, made.5, made.6, _, did, refl), led_further limits szx setup t _ _ _ led made.7)),
      made.0,
    ))
    c.in-Ok-true.ensures.ticked)

pub returns-in-Ok-false-clause-led : goal.returns-in-Ok-false-clause-led
returns-in-Ok-false-clause-led c = λ _.
    let did = ap told (sym c.in-Ok-false.field-0-test) in
    subst (λ h. Ticked c.args.now c.args.word (pos 0) (Some h) (Some (Server c.tick.new.self))) (sym c.in-Server.is)
    (either
    (λ rest. inl (did ∙ ap told rest.0, ap (λ s. Some (Server s)) rest.1, rest.2, rest.3))
    (λ made. inr (
      (λ limits szx setup t led.
          (_, (made.1, made.2, made.3, made.4, made.5, made.6, _, did, refl), led_further limits szx setup t _ _ _ led made.7)),
      made.0,
    ))
    c.in-Ok-false.ensures.ticked)
