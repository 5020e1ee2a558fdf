-- A legal run in which a client observes (RFC 7641, section 1.3).
pub mod Client
pub mod Server
use Rattle.std.proofs.Common.{inl, Some, List, [], ◌∷◌, map, refl, arith}
use Rattle.std.specs.Prelude.{codes, Ok}
use Rattle.coap_record.specs.Events.{Observes, TickClient, TickServer, Deliver, client_end}
use Rattle.coap_record.specs.LegalEvents.{event}
use Rattle.coap_record.specs.Record.{OfClient, OfServer, Turn}
use Rattle.coap_types.proofs.Facts.Bytes.{bytes_are}
use Rattle.coap_promise.proofs.Facts.Witness.InWords.{config_range, t_is}
use Rattle.coap_promise.proofs.Facts.Witness.TurnsMade.{a_turn, client_turn, server_turn, to_server, to_client, AllMade}
use Rattle.coap_promise.proofs.Facts.Witness.TurnsMade.{ticked}
use Rattle.coap_promise.proofs.Facts.Witness.TurnsMade.{server_ticked, observation_taken, change_taken, to_the_client}
use Rattle.coap_promise.proofs.Facts.Witness.TurnsMade.{to_the_server, ◌⨾◌}
use Rattle.coap_promise.specs.LegalRuns.{from_client, from_server, t, puts, empty_ack, plain}
use Rattle.coap_promise.specs.ObservationRuns.{observe_bytes, first_bytes, second_bytes, Observed}
use Rattle.coap_promise.proofs.Facts.Witness.Observed.Client as client
use Rattle.coap_promise.proofs.Facts.Witness.Observed.Server as server
use Rattle.coap_promise.proofs.Facts.Witness.TurnTests.{InRanges, a_run}

-- until the answer comes

abbrev pub turns_before : List Turn
turns_before =
    a_turn (event 2 (Deliver 1))
    (map OfClient (client_turn (client.value 1 (codes "a") ∷ []) [] client.registered)) ∷
    a_turn (event 1 (Deliver 0)) (map OfServer (server_turn (to_client first_bytes ∷ []) server.fed)) ∷
    a_turn (event 0 TickClient) (map OfClient (client_turn [] (to_server observe_bytes ∷ []) client.ticked)) ∷
    a_turn (event 0 (Observes t)) (map OfClient (client_turn [] [] client.observing)) ∷
    a_turn (event 0 (puts (codes "a"))) (map OfServer (server_turn [] server.first_set)) ∷
    []

pub made_before : AllMade turns_before
made_before =
    (let g = from_server 1 client_end first_bytes in
    (g, inl (refl, refl), to_the_client 2 g (client.value 1 (codes "a") ∷ []) [] refl _ _ _ _ _ _)) ⨾
    (let g = from_client 0 observe_bytes in
    (g, inl (refl, refl), to_the_server 1 g (to_client first_bytes ∷ []) refl _ _ _ _)) ⨾
    ticked 0 [] (to_server observe_bytes ∷ []) _ (_, _, _, _, _, refl) ⨾
    observation_taken 0 t (Ok 0) ⨾
    change_taken 0 t (Some plain) (codes "a") _ (_, _, refl) ⨾
    tt

-- .. of which these numbers are in range
pub ranges : InRanges turns_before
ranges = (t_is, ((t_is, omega arith, bytes_are (codes "a") refl), tt))

-- the notification

abbrev turns : List Turn
turns =
    a_turn (event 5 (Deliver 3)) (map OfServer (server_turn [] server.acknowledged)) ∷
    a_turn (event 4 (Deliver 2)) (map OfClient (client_turn (client.value 2 (codes "b") ∷ [])
    (to_server empty_ack ∷ []) client.notified)) ∷
    a_turn (event 3 TickServer) (map OfServer (server_turn (to_client second_bytes ∷ []) server.ticked)) ∷
    a_turn (event 3 (puts (codes "b"))) (map OfServer (server_turn [] server.second_set)) ∷
    turns_before

made : AllMade turns
made =
    (let g = from_client 4 empty_ack in
    (g, inl (refl, refl), to_the_server 5 g [] refl _ _ _ _)) ⨾
    (let g = from_server 3 client_end second_bytes in (
      g,
      inl (refl, refl),
      to_the_client 4 g (client.value 2 (codes "b") ∷ []) (to_server empty_ack ∷ []) refl _ _ _ _ _
          _,
    )) ⨾
    server_ticked 3 0 (to_client second_bytes ∷ []) _ (_, _, _, _, _, _, refl) ⨾
    change_taken 3 t (Some plain) (codes "b") _ (_, _, refl) ⨾
    made_before

pub observed : Observed
observed = record {
  run = a_run turns refl refl made client.lawful server.lawful config_range
      ((t_is, omega arith, bytes_are (codes "b") refl), ranges) refl refl;
  reports = refl;
}
