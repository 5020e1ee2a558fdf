-- The exchange that runs, and the CON that is outstanding for it (RFC 7252, sections 4.2 and 5.2).
use Rattle.std.proofs.Common.{◌≡◌, ℕ, Some, List}
use Rattle.coap_types.specs.declared.endpoint.Endpoint.{Endpoint}
use Rattle.coap_exchange.specs.AskerTrace.{Call}
use Rattle.coap_exchange.specs.AskerFollows.{Open}
use Rattle.coap_exchange.specs.AskerLaw.{own_of, AskerLaw}
use Rattle.coap_exchange.specs.Machine.ExchangeMoves.{token_in}
use Rattle.coap_exchange.proofs.Exchanges.OneAtATime.{known}
use Rattle.coap_layer.specs.declared.setup.Setup.{Setup}
pub use Rattle.coap_exchange.proofs.Ending.NoEarlier.{fits}

-- an exchange that is open runs
pub runs_it : (server : Endpoint) (setup : Setup) (t : List Call) → AskerLaw server setup t → (token : List ℕ)
    → Open token t
    → token_in (own_of server setup t).running ≡ Some token
runs_it server setup t law token begun = (known server setup t law).1.runs.runs_it token begun
