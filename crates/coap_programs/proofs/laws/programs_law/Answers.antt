use Rattle.coap_programs.proofs.Programs.{got_was_held, run_of}
use Rattle.coap_programs.proofs.laws.programs_law.Goals as goal

pub returns-clause-run_of : goal.returns-clause-run_of
returns-clause-run_of c config run number request tag format body served got =
    run_of config run number request tag format body served got

pub returns-clause-got : goal.returns-clause-got
returns-clause-got c clocks config run number request tag format body served got legal =
    got_was_held config number request tag format body run got
    (c.order_law.ensures.held clocks config run (run_of config run number request tag format body served got) legal)
