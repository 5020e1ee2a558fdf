-- A legal run with a separate response (RFC 7252, section 5.2.2).
pub mod Client
pub mod Server
use Rattle.std.proofs.Common.{inl, List, [], ◌∷◌, map, refl, arith}
use Rattle.coap_record.specs.Events.{TickServer, Deliver, client_end}
use Rattle.coap_record.specs.Legal.{IsDelay, IsConfig}
use Rattle.coap_record.specs.LegalEvents.{event}
use Rattle.coap_record.specs.Record.{OfClient, OfServer, Turn}
use Rattle.coap_promise.specs.LegalRuns.{from_client, from_server, t, slow, get_bytes, empty_ack, separate_bytes}
use Rattle.coap_promise.specs.LegalRuns.{Defers}
use Rattle.coap_promise.proofs.Facts.Witness.InWords.{configured, of_one, t_is}
use Rattle.coap_promise.proofs.Facts.Witness.TurnsMade.{a_turn, client_turn, server_turn, to_server, to_client, AllMade}
use Rattle.coap_promise.proofs.Facts.Witness.TurnsMade.{server_ticked, to_the_client, to_the_server, ◌⨾◌}
use Rattle.coap_promise.proofs.Facts.Witness.Gets.{turns_before, made_before, ranges}
use Rattle.coap_promise.proofs.Facts.Witness.Gets.Client.{got}
use Rattle.coap_promise.proofs.Facts.Witness.Defers.Client as client
use Rattle.coap_promise.proofs.Facts.Witness.Defers.Server as server
use Rattle.coap_promise.proofs.Facts.Witness.TurnTests.{a_run}

pub slow_range : IsConfig slow
slow_range = configured (record { path = t; ms = 1000 } ∷ [])
    (of_one IsDelay (record { path = t; ms = 1000 }) (record { path = t_is; ms = omega arith })) (omega arith)

abbrev turns : List Turn
turns =
    a_turn (event 1000 (Deliver 3)) (map OfServer (server_turn [] server.hears)) ∷
    a_turn (event 1000 (Deliver 2)) (map OfClient (client_turn (got ∷ []) (to_server empty_ack ∷ []) client.hears)) ∷
    a_turn (event 1000 TickServer) (map OfServer (server_turn (to_client separate_bytes ∷ []) server.ticked)) ∷
    a_turn (event 0 (Deliver 1)) (map OfClient (client_turn [] [] client.awaits)) ∷
    a_turn (event 0 (Deliver 0)) (map OfServer (server_turn (to_client empty_ack ∷ []) server.waits)) ∷
    turns_before

made : AllMade turns
made =
    (let g = from_client 1000 empty_ack in
    (g, inl (refl, refl), to_the_server 1000 g [] refl _ _ _ _)) ⨾
    (let g = from_server 1000 client_end separate_bytes in
    (g, inl (refl, refl), to_the_client 1000 g (got ∷ []) (to_server empty_ack ∷ []) refl _ _ _ _ _ _)) ⨾
    server_ticked 1000 0 (to_client separate_bytes ∷ []) _ (_, _, _, _, _, _, refl) ⨾
    (let g = from_server 0 client_end empty_ack in
    (g, inl (refl, refl), to_the_client 0 g [] [] refl _ _ _ _ _ _)) ⨾
    (let g = from_client 0 get_bytes in
    (g, inl (refl, refl), to_the_server 0 g (to_client empty_ack ∷ []) refl _ _ _ _)) ⨾
    made_before

pub deferred : Defers
deferred = record {
  run = a_run turns refl refl made client.lawful server.lawful slow_range ranges refl refl;
  reports = refl;
}
