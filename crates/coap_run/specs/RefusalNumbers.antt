-- The numbers of the reasons why there is no record of a run.
use Rattle.std.specs.Prelude.{ℕ}
use Rattle.coap_run.specs.declared.running.RunRefusal.{RunRefusal}
use Rattle.coap_run.specs.declared.running.RunRefusal.TheVariants as run

-- the number of the refusal of a run
abbrev pub run_refusal_number : RunRefusal → ℕ
run_refusal_number (run.NotLegal _) = 1
run_refusal_number run.Memory = 2
