-- The client of a smooth run in which it ticks only when something is due: it has nothing to do while it waits for the
-- response (RFC 7252, sections 4.2 and 5.2.2).
use Rattle.std.proofs.Common.{List, [], ◌∷◌, ◌++◌, refl}
use Rattle.coap_layer.specs.Machine.State.{usual}
use Rattle.coap_client.specs.Trace as C
use Rattle.coap_client.specs.Law.{ClientLaw}
use Rattle.coap_record.specs.Events.{server_end}
use Rattle.coap_promise.specs.LegalRuns.{sizes, get_bytes, empty_ack}
use Rattle.coap_promise.proofs.Facts.Witness.Gets.Client.{got, called, ticked}
use Rattle.coap_smooth.proofs.Witness.DefersLate.Client.{awaits}
use Rattle.coap_smooth.proofs.Witness.DefersLongest.Client.{hears}
use Rattle.coap_promise.proofs.Facts.Witness.TurnsMade.{client_turn, to_server, rests}
use Rattle.coap_promise.proofs.Facts.Witness.Tests.{messages, client_lawful}

-- the calls so far: when its request is sent, and when that is acknowledged

abbrev pub asked : List C.Call
asked = client_turn [] (to_server get_bytes ∷ []) ticked ++ client_turn [] [] called

abbrev pub acknowledged : List C.Call
acknowledged = client_turn [] [] awaits ++ asked

abbrev pub calls : List C.Call
calls = client_turn (got ∷ []) (to_server empty_ack ∷ []) hears ++ acknowledged

pub lawful : ClientLaw server_end sizes (usual 0) calls
unfolding messages
lawful = client_lawful sizes calls (assumption) (assumption) refl

-- a tick would do nothing: before its retransmission is due, and while it waits

pub rests_asked : ClientLaw server_end sizes (usual 0) (rests 1000 ∷ asked)
unfolding messages
rests_asked = client_lawful sizes (rests 1000 ∷ asked) (assumption) (assumption) refl

pub rests_then : ClientLaw server_end sizes (usual 0) (rests 11999 ∷ acknowledged)
unfolding messages
rests_then = client_lawful sizes (rests 11999 ∷ acknowledged) (assumption) (assumption) refl

pub rests_last : ClientLaw server_end sizes (usual 0) (rests 12999 ∷ acknowledged)
unfolding messages
rests_last = client_lawful sizes (rests 12999 ∷ acknowledged) (assumption) (assumption) refl
