-- A legal run in which an upload is held back until no block of a failed one can come (RFC 7252, section 4.8.2).
pub mod Client
pub mod Server
use Rattle.std.proofs.Common.{inl, inr, List, [], ◌∷◌, map, refl}
use Rattle.coap_types.specs.Past.{Sometime}
use Rattle.coap_client.specs.Trace.{Timeout}
use Rattle.coap_exchange.specs.SuccessCodes.{created}
use Rattle.coap_record.specs.Events.{Calls, TickClient, Deliver, client_end}
use Rattle.coap_record.specs.LegalEvents.{event}
use Rattle.coap_record.specs.Record.{Entry, OfClient, OfServer, Turn, entries_of}
use Rattle.coap_promise.specs.Words.{AppliesFor, SentFor}
use Rattle.coap_promise.specs.LegalRuns.{from_client, from_server, reported}
use Rattle.coap_types.proofs.Facts.Bytes.{bytes_are}
use Rattle.coap_promise.proofs.Facts.Witness.TurnsMade.{a_turn, client_turn, to_server, rests, AllMade, to_client}
use Rattle.coap_promise.proofs.Facts.Witness.TurnsMade.{rested}
use Rattle.coap_promise.proofs.Facts.Witness.TurnsMade.{ticked, call_taken, to_the_client, to_the_server, ◌⨾◌}
use Rattle.coap_promise.specs.LateRuns.{key, by_16, answer_bytes, uploading, continue, second_done, lost_body}
use Rattle.coap_promise.specs.LateRuns.{held_body}
use Rattle.coap_promise.specs.LateRuns.{lost_first, lost_second, held_first, held_second, held_third, HoldsBack}
use Rattle.coap_promise.proofs.Facts.Witness.LateTurns.{called, begins, answer, goes_on, ends, copied, expires, drops}
use Rattle.coap_promise.proofs.Facts.Witness.LateTurns.{answers}
use Rattle.coap_promise.proofs.Facts.Witness.LateTurns.{range, by_16_range}
use Rattle.coap_promise.proofs.Witness.HoldsBack.Client as client
use Rattle.coap_promise.proofs.Witness.HoldsBack.Server as server
use Rattle.std.specs.Prelude.{Ok}
use Rattle.coap_promise.proofs.Facts.Witness.TurnTests.{InRanges, a_run}

-- the turns up to the last copy

abbrev turns_lost : List Turn
turns_lost =
    a_turn (event 30000 TickClient) (map OfClient (copied lost_second 30000)) ∷
    a_turn (event 14000 TickClient) (map OfClient (copied lost_second 14000)) ∷
    a_turn (event 6000 TickClient) (map OfClient (copied lost_second 6000)) ∷
    a_turn (event 2000 TickClient) (map OfClient (copied lost_second 2000)) ∷
    a_turn (event 0 (Deliver 1)) (map OfClient (client_turn [] (to_server lost_second ∷ []) (goes_on 0 0 8 1 ∷ []))) ∷
    a_turn (event 0 (Deliver 0)) (map OfServer (answers (answer_bytes continue 0 8) server.takes_lost_first)) ∷
    a_turn (event 0 TickClient) (map OfClient (client_turn [] (to_server lost_first ∷ []) (begins 0 0))) ∷
    a_turn (event 0 (Calls (uploading lost_body))) (map OfClient (client_turn [] [] (called 0 0 lost_body))) ∷
    []

made_lost : AllMade turns_lost
made_lost =
    ticked 30000 [] (to_server lost_second ∷ []) _ (_, _, _, _, _, refl) ⨾
    ticked 14000 [] (to_server lost_second ∷ []) _ (_, _, _, _, _, refl) ⨾
    ticked 6000 [] (to_server lost_second ∷ []) _ (_, _, _, _, _, refl) ⨾
    ticked 2000 [] (to_server lost_second ∷ []) _ (_, _, _, _, _, refl) ⨾
    (let g = from_server 0 client_end (answer_bytes continue 0 8) in
    (g, inl (refl, refl), to_the_client 0 g [] (to_server lost_second ∷ []) refl _ _ _ _ _ _)) ⨾
    (let g = from_client 0 lost_first in
    (g, inl (refl, refl), to_the_server 0 g (to_client (answer_bytes continue 0 8) ∷ []) refl _ _ _ _)) ⨾
    ticked 0 [] (to_server lost_first ∷ []) _ (_, _, _, _, _, refl) ⨾
    call_taken 0 (uploading lost_body) (Ok 0) ⨾
    tt

-- .. and from its Timeout on

abbrev turns : List Turn
turns =
    a_turn (event 130001 (Deliver 13)) (map OfClient
    (client_turn (second_done ∷ []) [] (ends 130001 (answer_bytes created 4 32) (answer created 4 32) ∷ []))) ∷
    a_turn (event 130001 (Deliver 12)) (map OfServer (answers (answer_bytes created 4 32) server.puts)) ∷
    a_turn (event 130001 (Deliver 11)) (map OfClient
    (client_turn [] (to_server held_third ∷ []) (goes_on 130001 3 24 4 ∷ []))) ∷
    a_turn (event 130001 (Deliver 10)) (map OfServer (answers (answer_bytes continue 3 24) server.takes_second)) ∷
    a_turn (event 130001 (Deliver 9)) (map OfClient
    (client_turn [] (to_server held_second ∷ []) (goes_on 130001 2 8 3 ∷ []))) ∷
    a_turn (event 130001 (Deliver 8)) (map OfServer (answers (answer_bytes continue 2 8) server.takes_first)) ∷
    a_turn (event 130001 TickClient) (map OfClient (client_turn [] (to_server held_first ∷ []) (begins 130001 2))) ∷
    a_turn (event 130000 (Deliver 7)) (map OfClient (client_turn [] [] (drops (answer_bytes continue 1 24) ∷ []))) ∷
    a_turn (event 130000 (Deliver 6)) (map OfServer (answers (answer_bytes continue 1 24) server.takes_lost_second)) ∷
    a_turn (event 130000 TickClient) (map OfClient (client_turn [] [] (rests 130000 ∷ []))) ∷
    a_turn (event 62000 (Calls (uploading held_body))) (map OfClient (client_turn [] [] (called 62000 1 held_body))) ∷
    a_turn (event 62000 TickClient) (map OfClient (client_turn (reported Timeout ∷ []) [] expires)) ∷
    turns_lost

made : AllMade turns
made =
    (let g = from_server 130001 client_end (answer_bytes created 4 32) in
    (g, inl (refl, refl), to_the_client 130001 g (second_done ∷ []) [] refl _ _ _ _ _ _)) ⨾
    (let g = from_client 130001 held_third in
    (g, inl (refl, refl), to_the_server 130001 g (to_client (answer_bytes created 4 32) ∷ []) refl _ _ _ _)) ⨾
    (let g = from_server 130001 client_end (answer_bytes continue 3 24) in
    (g, inl (refl, refl), to_the_client 130001 g [] (to_server held_third ∷ []) refl _ _ _ _ _ _)) ⨾
    (let g = from_client 130001 held_second in
    (g, inl (refl, refl), to_the_server 130001 g (to_client (answer_bytes continue 3 24) ∷ []) refl _ _ _ _)) ⨾
    (let g = from_server 130001 client_end (answer_bytes continue 2 8) in
    (g, inl (refl, refl), to_the_client 130001 g [] (to_server held_second ∷ []) refl _ _ _ _ _ _)) ⨾
    (let g = from_client 130001 held_first in
    (g, inl (refl, refl), to_the_server 130001 g (to_client (answer_bytes continue 2 8) ∷ []) refl _ _ _ _)) ⨾
    ticked 130001 [] (to_server held_first ∷ []) _ (_, _, _, _, _, refl) ⨾
    (let g = from_server 130000 client_end (answer_bytes continue 1 24) in
    (g, inl (refl, refl), to_the_client 130000 g [] [] refl _ _ _ _ _ _)) ⨾
    (let g = from_client 30000 lost_second in
    (g, inl (refl, refl), to_the_server 130000 g (to_client (answer_bytes continue 1 24) ∷ []) refl _ _ _ _)) ⨾
    rested 130000 ⨾
    call_taken 62000 (uploading held_body) (Ok 1) ⨾
    ticked 62000 (reported Timeout ∷ []) [] _ (_, _, _, _, _, refl) ⨾
    made_lost

-- .. of which these numbers are in range
ranges : InRanges turns
ranges = (range held_body (bytes_are held_body refl), (range lost_body (bytes_are lost_body refl), tt))

-- the last block of the held upload is applied for its call

abbrev all : List Entry
all = entries_of turns

sent : SentFor by_16 1 (key 4) all
sent = (_, inr (inr (inr (inr (inr (inr (inr (inl refl))))))), refl, refl)

applied : Sometime (AppliesFor by_16 1 all) all
applied = inr (inr (inr (inr (inr (inr (inl (record
    { request = _; here = refl; applied = refl; from = refl; belongs = sent })))))))

pub held_back : HoldsBack
held_back = record {
  run = a_run turns refl refl made client.lawful server.lawful by_16_range ranges refl refl;
  reports = refl;
  applied = applied;
  once = refl;
  holds = refl;
}
