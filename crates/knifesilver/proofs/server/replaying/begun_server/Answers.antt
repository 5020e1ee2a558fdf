use Rattle.std.proofs.Common.{ℕ, ◌∙◌, ap}
use Rattle.coap_resource.specs.Content.{nothing}
use Rattle.knifesilver.proofs.server.replaying.begun_server.Goals as goal

pub returns-clause-begins : goal.returns-clause-begins
returns-clause-begins c =
    let of = c.args.beginning.now.configuration in
    c.with_setup.ensures.led _ (c.in-Some-new_after.ensures.empty
    ∙ ap (λ (n : ℕ). nothing (record { changes = of.changes; body = of.limit; base = n })) c.in-Some.ensures.1)
