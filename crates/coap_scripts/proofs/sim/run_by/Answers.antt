use Rattle.coap_scripts.proofs.RunEnds.{not_words, of_run, of_wrong, refused_not_words}
use Rattle.coap_scripts.proofs.sim.run_by.Goals as goal

pub returns-in-Ok-clause-runs : goal.returns-in-Ok-clause-runs
returns-in-Ok-clause-runs g c = of_run _ _ c.run_over.result _ c.print_run.result c.in-Ok.is c.run_over.ensures.record
    c.print_run.ensures

pub returns-in-Err-clause-runs : goal.returns-in-Err-clause-runs
returns-in-Err-clause-runs g c = of_wrong _ _ _ c.run_over.result _ c.tell_refusal.result c.in-Err.is
    c.run_over.ensures.wrong
    c.tell_refusal.ensures

pub returns-in-Ok-clause-run : goal.returns-in-Ok-clause-run
returns-in-Ok-clause-run g c = not_words _ c.print_run.result (λ is. cc is) c.print_run.ensures

pub returns-in-Err-clause-run : goal.returns-in-Err-clause-run
returns-in-Err-clause-run g c = refused_not_words _ _ c.tell_refusal.result c.tell_refusal.ensures
