-- What a datagram was that the message layer made a request, a response or a Reset of.
pub use Rattle.coap_exchange.specs.Machine.Arrived.{Became, Arrived, IsReset}
pub use Rattle.coap_exchange.proofs.Calls.WhatArrived.{arrived}
