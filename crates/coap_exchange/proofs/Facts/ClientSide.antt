-- The law of the client's side: what leads to it, and what follows from it.
use Rattle.std.proofs.Common.{List}
use Rattle.coap_types.specs.declared.endpoint.Endpoint.{Endpoint}
use Rattle.coap_exchange.specs.AskerTrace.{Call}
use Rattle.coap_exchange.specs.AskerLaw.{AskerLaw, ExchangeLaw}
use Rattle.coap_exchange.specs.AskerFollows.{AreExchanges, AreTokens}
use Rattle.coap_exchange.proofs.Exchanges.OneAtATime.{known}
use Rattle.coap_exchange.specs.AskerTells.{AreRefused}
use Rattle.coap_exchange.proofs.Exchanges.TokensOnce.{counted}
use Rattle.coap_exchange.proofs.Exchanges.RefusedWhileOneRuns.{refused}
use Rattle.coap_layer.specs.declared.setup.Setup.{Setup}
pub use Rattle.coap_exchange.proofs.Leading.ClientLeads.{led_start, led_call, led_exchanged, led_law, layer_stands}
pub use Rattle.coap_exchange.proofs.Leading.ClientLeads.{exchanged_join, exchanged_split, exchanged_own, exchange_back}
pub use Rattle.coap_exchange.proofs.Exact.ClientExactly.{exact}
pub use Rattle.coap_exchange.proofs.Telling.FromServer.{came_from, server_is}
pub use Rattle.coap_exchange.proofs.Telling.ResponsesMatch.{matched}
pub use Rattle.coap_exchange.proofs.Ending.WhenDue.{when_due}
pub use Rattle.coap_exchange.proofs.Resting.ClientRests.{rests_led, turns_led}

pub are_exchanges : (server : Endpoint) (setup : Setup) (t : List Call) → AskerLaw server setup t → AreExchanges t
are_exchanges server setup t law = (known server setup t law).0

pub are_tokens : (server : Endpoint) (setup : Setup) (t : List Call) → AskerLaw server setup t → AreTokens setup.word t
are_tokens server setup t law = (counted server setup t law).0

pub are_refused : (server : Endpoint) (setup : Setup) (t : List Call) → ExchangeLaw server setup t → AreRefused t
are_refused server setup t law = refused server setup t law.rows law.left law.layer
