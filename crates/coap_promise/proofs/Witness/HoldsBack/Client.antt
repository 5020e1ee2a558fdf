-- The client of a legal run: it holds an upload back while a block of a failed one may come (RFC 7252, section 4.8.2).
use Rattle.std.proofs.Common.{List, [], ◌∷◌, ◌++◌, refl}
use Rattle.coap_client.specs.Trace as C
use Rattle.coap_client.specs.Law.{ClientLaw}
use Rattle.coap_exchange.specs.SuccessCodes.{created}
use Rattle.coap_promise.specs.LateRuns.{sizes_16, answer_bytes, continue, second_done, lost_body, held_body, lost_first}
use Rattle.coap_promise.specs.LateRuns.{lost_second, held_first, held_second, held_third}
use Rattle.coap_record.specs.Events.{server_end}
use Rattle.coap_promise.specs.LegalRuns.{reported}
use Rattle.coap_layer.specs.Machine.State.{usual}
use Rattle.coap_promise.proofs.Facts.Witness.TurnsMade.{client_turn, to_server, rests}
use Rattle.coap_promise.proofs.Facts.Witness.LateTurns.{called, begins, answer, goes_on, ends, copied, expires, drops}
use Rattle.coap_promise.proofs.Facts.Witness.Tests.{messages, client_lawful}

-- its calls, a few turns after the others

abbrev pub calls_begun : List C.Call
calls_begun = client_turn [] (to_server lost_first ∷ []) (begins 0 0) ++ client_turn [] [] (called 0 0 lost_body)

abbrev pub calls_lost : List C.Call
calls_lost = client_turn [] (to_server lost_second ∷ []) (goes_on 0 0 8 1 ∷ []) ++ calls_begun

abbrev pub calls_twice : List C.Call
calls_twice = copied lost_second 6000 ++ (copied lost_second 2000 ++ calls_lost)

abbrev pub calls_copied : List C.Call
calls_copied = copied lost_second 30000 ++ (copied lost_second 14000 ++ calls_twice)

abbrev pub calls_late : List C.Call
calls_late =
    client_turn [] [] (drops (answer_bytes continue 1 24) ∷ []) ++ (
    client_turn [] [] (rests 130000 ∷ []) ++ (
    client_turn [] [] (called 62000 1 held_body) ++ (
    client_turn (reported C.Timeout ∷ []) [] expires ++
    calls_copied)))

abbrev pub calls_first : List C.Call
calls_first = client_turn [] (to_server held_first ∷ []) (begins 130001 2) ++ calls_late

abbrev pub calls_second : List C.Call
calls_second = client_turn [] (to_server held_second ∷ []) (goes_on 130001 2 8 3 ∷ []) ++ calls_first

abbrev pub calls_done : List C.Call
calls_done =
    client_turn (second_done ∷ []) [] (ends 130001 (answer_bytes created 4 32) (answer created 4 32) ∷ []) ++ (
    client_turn [] (to_server held_third ∷ []) (goes_on 130001 3 24 4 ∷ []) ++
    calls_second)

pub lawful : ClientLaw server_end sizes_16 (usual 0) calls_done
unfolding messages
lawful = client_lawful sizes_16 calls_done (assumption) (assumption) refl
