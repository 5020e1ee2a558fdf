-- The client of a run by clocks that don't keep pace: it sends a PUT, and copies it late (RFC 7252, section 4.2).
use Rattle.std.proofs.Common.{List, [], ◌∷◌, ◌++◌, Ok, refl}
use Rattle.coap_layer.specs.Machine.State.{usual}
use Rattle.coap_client.specs.Trace as C
use Rattle.coap_client.specs.Law.{ClientLaw}
use Rattle.coap_promise.specs.ClockRuns.{put, put_bytes}
use Rattle.coap_record.specs.Events.{server_end}
use Rattle.coap_promise.specs.LegalRuns.{sizes}
use Rattle.coap_promise.proofs.Facts.Witness.TimesOut.Client.{copies, ticked}
use Rattle.coap_promise.proofs.Facts.Witness.TurnsMade.{client_turn, to_server}
use Rattle.coap_promise.proofs.Facts.Witness.Tests.{messages, client_lawful}

abbrev pub called : List C.Call
called = C.Calls 0 put (Ok 0) ∷ []

abbrev calls : List C.Call
calls = client_turn [] (to_server put_bytes ∷ []) (copies 47000)
    ++ (client_turn [] (to_server put_bytes ∷ []) ticked ++ client_turn [] [] called)

pub lawful : ClientLaw server_end sizes (usual 0) calls
unfolding messages
lawful = client_lawful sizes calls (assumption) (assumption) refl
