-- The law of the server's side: what leads to it, and what follows from it.
use Rattle.std.proofs.Common.{List}
use Rattle.coap_exchange.specs.AnswererTrace.{Call}
use Rattle.coap_exchange.specs.AnswererLaw.{AnswererLaw}
use Rattle.coap_exchange.specs.AnswererFollows.{AreResponses}
use Rattle.coap_exchange.proofs.Responding.OneResponse.{counted}
pub use Rattle.coap_exchange.proofs.Leading.ServerLeads.{led_start, led_call, led_exchanged, led_law, layer_stands}
pub use Rattle.coap_exchange.proofs.Leading.ServerLeads.{exchanged_join, exchanged_split, exchanged_own, exchange_back}
pub use Rattle.coap_exchange.proofs.Exact.ServerExactly.{exact}
pub use Rattle.coap_exchange.proofs.Responding.OneResponse.{same_asked_self, self_hits}
pub use Rattle.coap_exchange.proofs.Responding.RequestsCame.{came_in}
pub use Rattle.coap_exchange.proofs.EndsSaid.AreOutstanding.{waits}
pub use Rattle.coap_exchange.proofs.EndsSaid.HandsOrEnds.{none_ended, hands_or_ends}
pub use Rattle.coap_exchange.proofs.Calls.WhatIsDue.{takes}
pub use Rattle.coap_exchange.proofs.Resting.ServerRests.{rests_led, turns_led, ready_answer, ready_same, idle_below}
pub use Rattle.coap_exchange.proofs.Resting.ServerRests.{idle_same}

pub are_responses : (t : List Call) → AnswererLaw t → AreResponses t
are_responses t law = (counted t law).0
