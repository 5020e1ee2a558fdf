use Rattle.std.proofs.Common.{◌≡◌, ◌≤◌, ◌-◌, length, drop}
use Rattle.std.specs.List.{list_any}
use Rattle.coap_observe.specs.Observers.{Observer}
use Rattle.coap_exchange.specs.Machine.WhatIsDue.{takes_con}
use Rattle.coap_server.specs.Notifying.{marked}
use Rattle.coap_server.specs.Turns.Idle.{takes_notice}
use Rattle.coap_server.proofs.server.due.can_notify.Given as goal

abbrev pub invariant-observers : goal.invariant-observers
invariant-observers g l = record {
  left : list_any (λ (o : Observer). takes_con l.exchanges.state l.at.0 o.to) (drop l.passed (marked l.observers.list))
      ≡ takes_notice l.exchanges.state l.at.0 l.observers.list;
  within : l.passed ≤ length (marked l.observers.list);
}

abbrev pub decreases-observers : goal.decreases-observers
decreases-observers g l = length (marked l.observers.list) - l.passed
