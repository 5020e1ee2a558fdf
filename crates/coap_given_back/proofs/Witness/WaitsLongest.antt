-- A legal run in which a GET is given back by NoResponse, at the last moment (RFC 7252, sections 4.2 and 5.2.2).
pub mod Client
pub mod Server
use Rattle.std.proofs.Common.{inl, List, [], ◌∷◌, map, refl}
use Rattle.coap_record.specs.Events.{TickClient, Deliver, client_end}
use Rattle.coap_record.specs.LegalEvents.{event}
use Rattle.coap_record.specs.Record.{OfClient, OfServer, Turn}
use Rattle.coap_promise.specs.LegalRuns.{from_client, from_server, get_bytes, empty_ack}
use Rattle.coap_promise.proofs.Facts.Witness.Defers.{slow_range}
use Rattle.coap_promise.proofs.Facts.Witness.Gets.{turns_before, made_before, ranges}
use Rattle.coap_promise.proofs.Facts.Witness.TurnTests.{a_run}
use Rattle.coap_promise.proofs.Facts.Witness.TurnsMade.{a_turn, client_turn, server_turn, to_server, to_client, AllMade}
use Rattle.coap_promise.proofs.Facts.Witness.TurnsMade.{client_rests, rested, ticked, to_the_client, to_the_server}
use Rattle.coap_promise.proofs.Facts.Witness.TurnsMade.{◌⨾◌}
use Rattle.coap_given_back.specs.GivenBackRuns.{WaitsLongest}
use Rattle.coap_given_back.proofs.Witness.WaitsLongest.Client as client
use Rattle.coap_given_back.proofs.Witness.WaitsLongest.Server as server

abbrev turns : List Turn
turns =
    a_turn (event 310998 TickClient) (map OfClient (client_turn (client.failed ∷ []) [] client.ends)) ∷
    client_rests 309998 ∷
    a_turn (event 62999 (Deliver 5)) (map OfClient (client_turn [] [] client.awaits)) ∷
    client_rests 61999 ∷
    a_turn (event 31000 (Deliver 4)) (map OfServer (server_turn (to_client empty_ack ∷ []) server.waits)) ∷
    a_turn (event 30000 TickClient) (map OfClient (client.copied 30000)) ∷
    a_turn (event 14000 TickClient) (map OfClient (client.copied 14000)) ∷
    a_turn (event 6000 TickClient) (map OfClient (client.copied 6000)) ∷
    a_turn (event 2000 TickClient) (map OfClient (client.copied 2000)) ∷
    turns_before

made : AllMade turns
made =
    ticked 310998 (client.failed ∷ []) [] _ (_, _, _, _, _, refl) ⨾
    rested 309998 ⨾
    (let g = from_server 31000 client_end empty_ack in
    (g, inl (refl, refl), to_the_client 62999 g [] [] refl _ _ _ _ _ _)) ⨾
    rested 61999 ⨾
    (let g = from_client 30000 get_bytes in
    (g, inl (refl, refl), to_the_server 31000 g (to_client empty_ack ∷ []) refl _ _ _ _)) ⨾
    ticked 30000 [] (to_server get_bytes ∷ []) _ (_, _, _, _, _, refl) ⨾
    ticked 14000 [] (to_server get_bytes ∷ []) _ (_, _, _, _, _, refl) ⨾
    ticked 6000 [] (to_server get_bytes ∷ []) _ (_, _, _, _, _, refl) ⨾
    ticked 2000 [] (to_server get_bytes ∷ []) _ (_, _, _, _, _, refl) ⨾
    made_before

pub waited : WaitsLongest
waited = record {
  run = a_run turns refl refl made client.lawful server.lawful slow_range ranges refl refl;
  reports = refl;
  old = inl (refl, client.open_since);
}
