use Rattle.std.proofs.Common.{◌≡◌, ◌∙◌, ap, arith, sym, subst, true, false, [], take, Err}
use Rattle.std.proofs.lemmas.List.{take_all}
use Rattle.coap_types.specs.declared.remembered.TheConstants.{DEFAULT_REMEMBERED as default_remembered}
use Rattle.coap_server.specs.Plain.{may_be_plain, plains_with}
use Rattle.coap_record.specs.Events.{Config, usual_addresses}
use Rattle.coap_run.specs.Run.Configs.{with_plains}
use Rattle.coap_scripts.specs.Sims.{sim_config}
use Rattle.coap_scripts.proofs.Facts.FoldedItems.{fold_item}
use Rattle.coap_page.proofs.TooMany.{is_full, too_many}
use Rattle.coap_page.proofs.configured.config_with.Goals as goal

pub loop-path-preserved : goal.loop-path-preserved
loop-path-preserved g c =
    let i = c.loop-path.path-index in
    let path = c.path-item.result in
    c.in_ok-plain.ensures.ok
    ∙ ap (λ (config : Config). with_plains config (plains_with path true config.plains)) c.loop-path.invariant
    ∙ ap (with_plains (sim_config usual_addresses default_remembered []))
    (fold_item (λ ps path. plains_with path true ps) [] c.args.plains.now i path c.path-item.is c.loop-path-test.true)

pub returns-clause-ok : goal.returns-clause-ok
returns-clause-ok g c =
    c.loop-path.invariant
    ∙ ap (sim_config usual_addresses default_remembered)
    (take_all c.loop-path.path-index c.args.plains.now (omega arith))

pub returns-in_err-plain-clause-many : goal.returns-in_err-plain-clause-many
returns-in_err-plain-clause-many g c = λ is.
    let path = c.path-item.result in
    let full = is_full c.from_residual.result c.in_err-plain.field-0.0 c.from_residual.ensures.1 is in
    too_many c.args.plains.now c.loop-path.path-index path c.path-item.is c.loop-path-test.true
    (subst (λ (config : Config). may_be_plain path config.plains ≡ false) c.loop-path.invariant
    (c.plain.ensures.full.0 (c.in_err-plain.was ∙ ap Err full)))
