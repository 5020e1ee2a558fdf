use Rattle.std.proofs.Common.{◌≡◌, take}
use Rattle.coap_types.specs.declared.remembered.TheConstants.{DEFAULT_REMEMBERED as default_remembered}
use Rattle.coap_record.specs.Events.{usual_addresses}
use Rattle.coap_scripts.specs.Sims.{sim_config}
use Rattle.coap_page.proofs.configured.config_with.Given as goal

-- so far the first of them are plain
abbrev pub invariant-loop-path : goal.invariant-loop-path
invariant-loop-path g l = l.config ≡ sim_config usual_addresses default_remembered (take l.path-index l.plains)
