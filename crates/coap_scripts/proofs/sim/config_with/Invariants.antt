use Rattle.std.proofs.Common.{◌≡◌, take}
use Rattle.coap_record.specs.Events.{usual_addresses}
use Rattle.coap_scripts.specs.Sims.{sim_config}
use Rattle.coap_scripts.proofs.sim.config_with.Given as goal

-- so far the first of them are plain
abbrev pub invariant-loop-path : goal.invariant-loop-path
invariant-loop-path g l = l.config ≡ sim_config usual_addresses l.fn.remembered (take l.path-index l.plains)
