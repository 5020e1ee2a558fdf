use Rattle.std.proofs.Common.{◌∙◌, Err, ap, map, subst}
use Rattle.std.specs.Prelude.{IfOk}
use Rattle.coap_run.specs.Run.Happening.{event_of}
use Rattle.coap_scripts.specs.Sims.{IsSim}
use Rattle.coap_scripts.proofs.RunEnds.{never_words}
use Rattle.coap_scripts.proofs.sim.run_events.Goals as goal

pub returns-in-Ok-clause-runs : goal.returns-in-Ok-clause-runs
returns-in-Ok-clause-runs g c =
    subst (λ k. IfOk c.run_by.result (IsSim k (map event_of c.args.events.now))) c.in-Ok.ensures.at
    c.run_by.ensures.runs

pub returns-in-Ok-clause-unset : goal.returns-in-Ok-clause-unset
returns-in-Ok-clause-unset g c = never_words _ c.run_by.result c.run_by.ensures.run

pub returns-in-Err-Words-clause-unset : goal.returns-in-Err-Words-clause-unset
returns-in-Err-Words-clause-unset g c = λ words. c.config_at.ensures.words
    (c.in-Err-Words.is ∙ ap Err c.in-Err-Words.field-0-is)
