use Rattle.std.proofs.Common.{◌≡◌, ◌∙◌, Err, ap, arith, true, []}
use Rattle.std.proofs.lemmas.List.{take_all}
use Rattle.coap_server.specs.Plain.{plains_with}
use Rattle.coap_record.specs.Events.{Config, usual_addresses}
use Rattle.coap_run.specs.Run.Configs.{with_plains, with_remembered}
use Rattle.coap_scripts.specs.Sims.{sim_config}
use Rattle.coap_server.specs.declared.server.plain.PlainRefusal.TheVariants.{Full}
use Rattle.coap_scripts.proofs.RunEnds.{one_too_many}
use Rattle.coap_scripts.proofs.Facts.FoldedItems.{fold_item}
use Rattle.coap_scripts.proofs.sim.config_with.Goals as goal

pub loop-path-init : goal.loop-path-init
loop-path-init g c =
    let n = c.args.remembered in
    c.remembered.ensures ∙ ap (λ config. with_remembered config n n) c.usual_config-config.ensures

pub loop-path-preserved : goal.loop-path-preserved
loop-path-preserved g c =
    let i = c.loop-path.path-index in
    let path = c.path-item.result in
    c.in_default.ensures.ok
    ∙ ap (λ (config : Config). with_plains config (plains_with path true config.plains)) c.loop-path.invariant
    ∙ ap (with_plains (sim_config usual_addresses c.args.remembered []))
    (fold_item (λ ps path. plains_with path true ps) [] c.args.plains.now i path c.path-item.is c.loop-path-test.true)

pub returns-clause-with : goal.returns-clause-with
returns-clause-with g c =
    c.loop-path.invariant
    ∙ ap (sim_config usual_addresses c.args.remembered)
    (take_all c.loop-path.path-index c.args.plains.now (omega arith))

pub returns-in-Err-clause-full : goal.returns-in-Err-clause-full
returns-in-Err-clause-full g c = λ is.
    let full : c.in-Err.refusal ≡ Full = cc is in
    one_too_many c.args.plains.now c.loop-path.path-index c.path-item.result c.path-item.is c.loop-path-test.true _
    (ap (λ (config : Config). config.plains) c.loop-path.invariant)
    (c.plain.ensures.full.0 (c.in-Err.is ∙ ap Err full))
