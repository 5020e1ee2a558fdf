-- How much a server has at a moment, and how much it has left (RFC 7252, sections 4.5, 4.7 and 5.2.2; RFC 7641,
-- section 4.1; RFC 7959, section 2.5).
use Rattle.std.specs.Prelude.{◌≡◌, ℕ, max, length}
use Rattle.coap_layer.specs.Machine.Load.{IsLayerLoad}
use Rattle.coap_block.specs.AssemblyState.{forgotten}
use Rattle.coap_resource.specs.Rate.{changes_left}
use Rattle.coap_server.specs.declared.server.load.Load.{Load}
use Rattle.coap_server.specs.Led.{State}
use Rattle.coap_server.specs.Turns.WhenDue.{latest}

-- the moment that counts: one before the last counts as the last
abbrev pub moment : State → ℕ → ℕ
moment s now = max (latest s) now

-- what is told of a server at this moment: how long its lists are, of partial bodies those that are not dropped yet; and
-- how many changes are left
pub record IsLoad (now : ℕ) (told : Load) (s : State) : Type 0 where
  pub layer : IsLayerLoad (moment s now) told.layer s.layer
  pub observers : told.observers ≡ length s.own.observers
  pub partial : told.partial ≡ length (forgotten (max s.own.uploads.clock (moment s now)) s.own.uploads.partials)
  pub deferred : told.deferred ≡ length s.own.exchanges.deferred
  pub paths : told.paths ≡ s.own.store.paths
  pub delays : told.delays ≡ length s.own.delays
  pub plains : told.plains ≡ length s.own.plains
  pub changes_left : told.changes_left ≡ changes_left s.own.store.tally (moment s now)
