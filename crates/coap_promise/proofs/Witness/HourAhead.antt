-- A run that is legal by two clocks, of which one is an hour ahead, and by no one clock.
pub mod Client
pub mod Server
use Rattle.std.proofs.Common.{◌≤◌, ◌+◌, inl, ℕ, Some, List, [], ◌∷◌, map, refl, arith}
use Rattle.std.specs.Prelude.{codes, Ok}
use Rattle.coap_types.proofs.Facts.Bytes.{bytes_are}
use Rattle.coap_promise.specs.ClockRuns.{content_bytes, get_bytes, hour, hour_ahead, HourAhead}
use Rattle.coap_promise.specs.Clocks.{AreClocks}
use Rattle.coap_record.specs.Events.{client_end, Calls, Observes, TickClient, TickServer, Deliver}
use Rattle.coap_record.specs.Legal as one
use Rattle.coap_record.specs.LegalEvents.{event}
use Rattle.coap_promise.specs.LegalRuns.{config, from_client, from_server, empty_ack, get, plain, puts, t}
use Rattle.coap_promise.specs.ObservationRuns.{observe_bytes, first_bytes, second_bytes}
use Rattle.coap_record.specs.Record.{OfClient, OfServer, Turn}
use Rattle.coap_promise.proofs.Witness.ClockTests.{a_run, all_legal}
use Rattle.coap_promise.proofs.Facts.Witness.Gets.{range}
use Rattle.coap_promise.proofs.Witness.HourAhead.Client as client
use Rattle.coap_promise.proofs.Witness.HourAhead.Server as server
use Rattle.coap_promise.proofs.Facts.Witness.InWords.{config_range, t_is}
use Rattle.coap_promise.proofs.Facts.Witness.Observed.Client.{value, observing, ticked as asks, registered, notified}
use Rattle.coap_promise.proofs.Witness.PacedClocks.{stepping, steady}
use Rattle.coap_promise.proofs.Facts.Witness.TurnTests.{InRanges}
use Rattle.coap_promise.proofs.Facts.Witness.TurnsMade.{a_turn, client_turn, server_turn, to_server, to_client, AllMade}
use Rattle.coap_promise.proofs.Facts.Witness.TurnsMade.{ticked, idles}
use Rattle.coap_promise.proofs.Facts.Witness.TurnsMade.{server_ticked, call_taken, observation_taken, change_taken}
use Rattle.coap_promise.proofs.Facts.Witness.TurnsMade.{to_the_client}
use Rattle.coap_promise.proofs.Facts.Witness.TurnsMade.{to_the_server, ◌⨾◌}

abbrev turns : List Turn
turns =
    a_turn (event 8 (Deliver 5)) (map OfClient (client_turn (client.got ∷ []) [] (client.hears ∷ []))) ∷
    a_turn (event (hour + 5007) (Deliver 4))
    (map OfServer (server_turn (to_client content_bytes ∷ []) (server.serves ∷ []))) ∷
    a_turn (event 6 TickClient) (map OfClient (client_turn [] (to_server get_bytes ∷ []) client.begins)) ∷
    a_turn (event 6 (Calls get)) (map OfClient (client_turn [] [] client.called)) ∷
    a_turn (event (hour + 5005) (Deliver 3)) (map OfServer (server_turn [] (server.acknowledged ∷ []))) ∷
    a_turn (event 4 (Deliver 2))
    (map OfClient (client_turn (value 2 (codes "b") ∷ []) (to_server empty_ack ∷ []) notified)) ∷
    a_turn (event (hour + 5003) TickServer) (map OfServer
    (server_turn (to_client second_bytes ∷ []) (idles (hour + 5003) 0 0 ∷ server.notifies ∷ []))) ∷
    a_turn (event (hour + 5003) (puts (codes "b"))) (map OfServer (server_turn [] (server.second_set ∷ []))) ∷
    a_turn (event 2 (Deliver 1)) (map OfClient (client_turn (value 1 (codes "a") ∷ []) [] registered)) ∷
    a_turn (event (hour + 1) (Deliver 0))
    (map OfServer (server_turn (to_client first_bytes ∷ []) (server.registers ∷ []))) ∷
    a_turn (event 0 TickClient) (map OfClient (client_turn [] (to_server observe_bytes ∷ []) asks)) ∷
    a_turn (event 0 (Observes t)) (map OfClient (client_turn [] [] observing)) ∷
    a_turn (event hour (puts (codes "a"))) (map OfServer (server_turn [] (server.first_set ∷ []))) ∷
    []

made : AllMade turns
made =
    (let g = from_server (hour + 5007) client_end content_bytes in
    (g, inl (refl, refl), to_the_client 8 g (client.got ∷ []) [] refl _ _ _ _ _ _)) ⨾
    (let g = from_client 6 get_bytes in
    (g, inl (refl, refl), to_the_server (hour + 5007) g (to_client content_bytes ∷ []) refl _ _ _ _)) ⨾
    ticked 6 [] (to_server get_bytes ∷ []) _ (_, _, _, _, _, refl) ⨾
    call_taken 6 get (Ok 1) ⨾
    (let g = from_client 4 empty_ack in
    (g, inl (refl, refl), to_the_server (hour + 5005) g [] refl _ _ _ _)) ⨾
    (let g = from_server (hour + 5003) client_end second_bytes in
    (g, inl (refl, refl), to_the_client 4 g (value 2 (codes "b") ∷ []) (to_server empty_ack ∷ []) refl _ _ _ _ _ _)) ⨾
    server_ticked (hour + 5003) 0 (to_client second_bytes ∷ []) server.notifies (_, _, _, _, _, _, refl) ⨾
    change_taken (hour + 5003) t (Some plain) (codes "b") server.second_set (_, _, refl) ⨾
    (let g = from_server (hour + 1) client_end first_bytes in
    (g, inl (refl, refl), to_the_client 2 g (value 1 (codes "a") ∷ []) [] refl _ _ _ _ _ _)) ⨾
    (let g = from_client 0 observe_bytes in
    (g, inl (refl, refl), to_the_server (hour + 1) g (to_client first_bytes ∷ []) refl _ _ _ _)) ⨾
    ticked 0 [] (to_server observe_bytes ∷ []) _ (_, _, _, _, _, refl) ⨾
    observation_taken 0 t (Ok 0) ⨾
    change_taken hour t (Some plain) (codes "a") server.first_set (_, _, refl) ⨾
    tt

ranges : InRanges turns
ranges = (
  range,
  (
    (t_is, omega arith, bytes_are (codes "b") refl),
    (t_is, ((t_is, omega arith, bytes_are (codes "a") refl), tt)),
  ),
)

abbrev moments : List ℕ
moments = 8 ∷ 7 ∷ 6 ∷ 6 ∷ 5 ∷ 4 ∷ 3 ∷ 3 ∷ 2 ∷ 1 ∷ 0 ∷ 0 ∷ 0 ∷ []

are_clocks : AreClocks hour_ahead
are_clocks = record { near = steady moments refl hour 5000 5 (omega arith); far = stepping moments refl hour 5000 5 }

-- the client's first moment is an hour before the server's
never : one.Legal config turns → ⊥
never h = let later = h.events.1.1.1.1.1.1.1.1.1.1.1.0.later in absurd (omega (arith, later))

pub hour_is_ahead : HourAhead
hour_is_ahead = record {
  run = a_run hour_ahead config turns refl refl made client.lawful server.lawful are_clocks config_range
      (all_legal hour_ahead turns ranges refl) refl;
  reports = refl;
  never = never;
}
