use Rattle.std.proofs.Common.{[], ◌∙◌, ap, subst}
use Rattle.coap_types.specs.declared.body_limit.TheConstants.{DEFAULT_BODY_LIMIT as default_limit}
use Rattle.coap_resource.specs.Content.{nothing}
use Rattle.coap_resource.specs.Entries.{content_of}
use Rattle.coap_resource.specs.Limits.{Limits}
use Rattle.coap_resource.specs.declared.tally.TheConstants.{MAX_CHANGES_PER_WINDOW as max_changes}
use Rattle.coap_server.specs.Led.{Led}
use Rattle.coap_server.specs.Object.Shown.{state_of}
use Rattle.knifesilver.specs.Configs.{chosen}
use Rattle.knifesilver.proofs.server.made.fresh_server.Goals as goal

pub returns-clause-made : goal.returns-clause-made
returns-clause-made c =
    let choice = c.in-Ok.choice in
    let changes = chosen max_changes c.args.config.now.changes in
    let base = c.args.config.now.base in
    let limits : Limits = record {
      changes = changes;
      body = chosen default_limit c.args.config.now.body_limit;
      base = base;
    } in (
      choice.szx,
      c.in-Ok.ensures.block,
      subst (λ n. Led limits choice.szx (record { word = c.args.seed.now.word; remembered = n }) []
          (state_of content_of c.with_setup-server.result)) c.in-Ok.ensures.remembered
          (c.with_setup-server.ensures.led _ (c.in-Some-new_after.ensures.empty
          ∙ ap (λ n. nothing (record { changes = c.changes_of-changes.result; body = choice.limit; base = n }))
          c.in-Some.ensures.1
          ∙ ap (λ n. nothing (record { changes = n; body = choice.limit; base = base })) c.changes_of-changes.ensures
          ∙ ap (λ n. nothing (record { changes = changes; body = n; base = base })) c.in-Ok.ensures.limit)),
    )
