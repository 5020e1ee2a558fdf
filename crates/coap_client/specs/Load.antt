-- How much a client has at a moment (RFC 7252, sections 4.5 and 4.7; RFC 7641, section 3).
use Rattle.std.specs.Prelude.{◌≡◌, ℕ, max, length}
use Rattle.coap_layer.specs.Machine.Load.{IsLayerLoad}
use Rattle.coap_client.specs.declared.client.load.ClientLoad.{ClientLoad}
use Rattle.coap_client.specs.Led.{State}
use Rattle.coap_client.specs.Turns.Due.{latest}

-- what is told of a client at this moment: how long its lists are; a moment before the last one counts as the last
pub record IsClientLoad (now : ℕ) (told : ClientLoad) (s : State) : Type 0 where
  pub layer : IsLayerLoad (max (latest s) now) told.layer s.layer.layer
  pub waiting : told.waiting ≡ length s.own.queue
  pub observations : told.observations ≡ length s.own.observations
  pub reports : told.reports ≡ length s.own.reports
