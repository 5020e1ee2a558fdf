-- The client of a smooth run: it gets a representation by a separate response, each datagram at its last moment (RFC
-- 7252, section 5.2.2).
use Rattle.std.proofs.Common.{false, Some, None, List, [], ◌∷◌, ◌++◌, Ok, refl}
use Rattle.coap_layer.specs.Machine.State.{usual}
use Rattle.coap_layer.specs.Trace as L
use Rattle.coap_exchange.specs.declared.asker.Event.TheVariants as event
use Rattle.coap_client.specs.Trace as C
use Rattle.coap_client.specs.Law.{ClientLaw}
use Rattle.coap_record.specs.Events.{server_end}
use Rattle.coap_promise.specs.LegalRuns.{sizes, get_bytes, empty_ack, separate_bytes}
use Rattle.coap_promise.proofs.Facts.Witness.Gets.Client.{got, called, ticked}
use Rattle.coap_promise.proofs.Facts.Witness.Defers.Client.{separate}
use Rattle.coap_promise.proofs.Facts.Witness.TurnsMade.{client_turn, to_server, rests}
use Rattle.coap_promise.proofs.Facts.Witness.Tests.{messages, client_lawful}

-- the calls of each turn from the first acknowledgement on, the newest first

abbrev pub awaits : List C.Call
awaits = C.Feeds 2000 server_end empty_ack 0 (L.Becomes (L.Acked 0)) false None L.Nothing (Ok []) false ∷ []

abbrev pub hears : List C.Call
hears = C.Feeds 3000 server_end separate_bytes 0 (L.Becomes (L.Response separate)) false
    (Some (event.Answer separate)) L.Nothing (Ok []) false ∷ []

abbrev pub calls : List C.Call
calls =
    client_turn [] [] (rests 3000 ∷ []) ++
    (client_turn (got ∷ []) (to_server empty_ack ∷ []) hears
    ++ (client_turn [] [] (rests 2000 ∷ []) ++ (client_turn [] [] awaits ++ (client_turn [] [] (rests 1000 ∷ [])
    ++ (client_turn [] (to_server get_bytes ∷ []) ticked ++ client_turn [] [] called)))))

pub lawful : ClientLaw server_end sizes (usual 0) calls
unfolding messages
lawful = client_lawful sizes calls (assumption) (assumption) refl
