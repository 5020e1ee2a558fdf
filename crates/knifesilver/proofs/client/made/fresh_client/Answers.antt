use Rattle.std.proofs.Common.{[], refl, subst}
use Rattle.coap_types.specs.declared.body_limit.TheConstants.{DEFAULT_BODY_LIMIT as default_limit}
use Rattle.coap_client.specs.Led.{Led}
use Rattle.knifesilver.specs.Configs.{chosen}
use Rattle.knifesilver.proofs.client.made.fresh_client.Goals as goal

pub returns-clause-made : goal.returns-clause-made
returns-clause-made c =
    let choice = c.in-Ok.choice in
    let config = c.args.config.now in
    let word = c.args.seed.now.word in (
      refl,
      choice.szx,
      c.in-Ok.ensures.block,
      subst (λ n. Led c.args.server (record { szx = choice.szx; limit = chosen default_limit config.body_limit })
          (record { word = word; remembered = n }) [] c.with_setup-client.result) c.in-Ok.ensures.remembered
          (subst (λ n. Led c.args.server (record { szx = choice.szx; limit = n })
          (record { word = word; remembered = choice.remembered }) [] c.with_setup-client.result) c.in-Ok.ensures.limit
          c.with_setup-client.ensures.led),
    )
