use Rattle.std.proofs.Common.{◌≡◌, ◌≤◌, ◌-◌, true, length}
use Rattle.coap_types.specs.declared.endpoint.Endpoint.{Endpoint}
use Rattle.coap_exchange.specs.AnswererLaw.{Exchanged}
use Rattle.coap_exchange.specs.Machine.WhatIsDue.{takes_con}
use Rattle.coap_server.specs.Notifying.{marked}
use Rattle.coap_server.proofs.Calls.PassedOver.{passing}
use Rattle.coap_server.proofs.server.notification.first_ready.Given as goal

abbrev pub invariant-observers : goal.invariant-observers
invariant-observers g l = record {
  asked : Exchanged l.initial.exchanges.state (passing l.at.0 l.passed (marked l.observers.list)) l.exchanges.state;
  same : (there : Endpoint) → takes_con l.exchanges.state l.at.0 there
      ≡ takes_con l.initial.exchanges.state l.at.0 there;
  before : l.exchanges.before ≡ l.initial.exchanges.before;
  room : l.initial.exchanges.room ≡ true → l.exchanges.room ≡ true;
  within : l.passed ≤ length (marked l.observers.list);
}

abbrev pub decreases-observers : goal.decreases-observers
decreases-observers g l = length (marked l.observers.list) - l.passed
