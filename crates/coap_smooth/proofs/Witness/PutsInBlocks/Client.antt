-- The client of a smooth run: it sends a body in two blocks (RFC 7959, section 2.5).
use Rattle.std.proofs.Common.{List, [], ◌∷◌, ◌++◌, refl}
use Rattle.std.specs.Prelude.{codes}
use Rattle.coap_layer.specs.Machine.State.{usual}
use Rattle.coap_client.specs.Trace as C
use Rattle.coap_client.specs.Law.{ClientLaw}
use Rattle.coap_exchange.specs.SuccessCodes.{created}
use Rattle.coap_smooth.specs.BlockRuns.{first_block, last_block}
use Rattle.coap_record.specs.Events.{server_end}
use Rattle.coap_promise.specs.LateRuns.{answer_bytes, sizes_16}
use Rattle.coap_promise.specs.LegalRuns.{reported}
use Rattle.coap_promise.proofs.Facts.Witness.LateTurns.{called, begins, answer, goes_on, ends}
use Rattle.coap_promise.proofs.Facts.Witness.TurnsMade.{client_turn, to_server, rests}
use Rattle.coap_promise.proofs.Facts.Witness.Tests.{messages, client_lawful}

abbrev pub done : C.Reported
done = reported (C.Done created)

abbrev pub hears : C.Call
hears = ends 4000 (answer_bytes created 1 16) (answer created 1 16)

-- its calls, a few turns after the others

abbrev calls_begun : List C.Call
calls_begun = client_turn [] (to_server first_block ∷ []) (begins 0 0)
    ++ client_turn [] [] (called 0 0 (codes "abcdefghijklmnopq"))

abbrev calls_second : List C.Call
calls_second = client_turn [] [] (rests 2000 ∷ [])
    ++ (client_turn [] (to_server last_block ∷ []) (goes_on 2000 0 8 1 ∷ [])
    ++ (client_turn [] [] (rests 1000 ∷ []) ++ calls_begun))

abbrev calls_done : List C.Call
calls_done = client_turn [] [] (rests 4000 ∷ [])
    ++ (client_turn (done ∷ []) [] (hears ∷ []) ++ (client_turn [] [] (rests 3000 ∷ []) ++ calls_second))

abbrev pub calls : List C.Call
calls = client_turn [] [] (rests 6001 ∷ []) ++ (client_turn [] [] (rests 6000 ∷ [])
    ++ (client_turn [] [] (rests 5000 ∷ []) ++ calls_done))

pub lawful : ClientLaw server_end sizes_16 (usual 0) calls
unfolding messages
lawful = client_lawful sizes_16 calls (assumption) (assumption) refl
