-- The client of a run with fair loss: its GET goes out five times (RFC 7252, section 4.2).
use Rattle.std.proofs.Common.{ℕ, true, false, Some, List, [], ◌∷◌, ◌++◌, Ok, refl}
use Rattle.coap_layer.specs.Machine.State.{usual}
use Rattle.coap_layer.specs.Trace as L
use Rattle.coap_exchange.specs.declared.asker.Event.TheVariants as event
use Rattle.coap_exchange.specs.declared.asker.Turn.TheVariants as turn
use Rattle.coap_client.specs.Trace as C
use Rattle.coap_client.specs.Law.{ClientLaw}
use Rattle.coap_record.specs.Events.{server_end}
use Rattle.coap_promise.specs.LegalRuns.{sizes, get_bytes, content_bytes}
use Rattle.coap_promise.proofs.Facts.Witness.Gets.Client.{content, got, called, ticked}
use Rattle.coap_promise.proofs.Facts.Witness.TurnsMade.{client_turn, to_server, rests}
use Rattle.coap_promise.proofs.Facts.Witness.Tests.{messages, client_lawful}

-- the calls of each turn, the newest first

abbrev pub copies : ℕ → List C.Call
copies at = rests at ∷ C.Ticks at 0 (L.Copied server_end 0) turn.Copied L.Nothing (Ok []) false true ∷ []

abbrev pub copied : ℕ → List C.Call
copied at = client_turn [] (to_server get_bytes ∷ []) (copies at)

abbrev pub hears : List C.Call
hears = C.Feeds 33000 server_end content_bytes 0 (L.Becomes (L.Response content)) true
    (Some (event.Answer content)) L.Nothing (Ok []) false ∷ []

abbrev calls_asked : List C.Call
calls_asked = client_turn [] (to_server get_bytes ∷ []) ticked ++ client_turn [] [] called

abbrev calls_twice : List C.Call
calls_twice = copied 6000 ++ (copied 2000 ++ calls_asked)

abbrev calls_copied : List C.Call
calls_copied = copied 30000 ++ (copied 14000 ++ calls_twice)

abbrev pub calls : List C.Call
calls = client_turn [] [] (rests 60000 ∷ []) ++ (client_turn (got ∷ []) [] hears ++ calls_copied)

pub lawful : ClientLaw server_end sizes (usual 0) calls
unfolding messages
lawful = client_lawful sizes calls (assumption) (assumption) refl
