-- A legal run that is smooth, with a separate response: each datagram and each tick comes at its last
-- moment (RFC 7252, section 5.2.2).
pub mod Client
pub mod Server
use Rattle.std.proofs.Common.{◌≡◌, ◌≤◌, inl, List, [], ◌∷◌, map, refl, arith}
use Rattle.coap_server.specs.Trace.{Delay}
use Rattle.coap_record.specs.Events.{TickServer, Deliver, client_end}
use Rattle.coap_record.specs.LegalEvents.{event}
use Rattle.coap_record.specs.Record.{OfClient, OfServer, Turn, entries_of, client_of, server_of}
use Rattle.coap_promise.specs.LegalRuns.{from_client, from_server, t, slow, get_bytes, empty_ack, separate_bytes}
use Rattle.coap_smooth.specs.Smooth.{max_delay, Smooth, to_client as client_came, to_server as server_came}
use Rattle.coap_smooth.specs.Smooth.{NoneObserved}
use Rattle.coap_smooth.specs.SmoothRuns.{DefersLate}
use Rattle.coap_promise.specs.Words.{changes_in}
use Rattle.coap_promise.proofs.Facts.Witness.InWords.{of_one}
use Rattle.coap_smooth.proofs.Witness.SmoothTurns.{few_of, none_taken}
use Rattle.coap_promise.proofs.Facts.Witness.TurnsMade.{a_turn, client_turn, server_turn, to_server, to_client, AllMade}
use Rattle.coap_promise.proofs.Facts.Witness.TurnsMade.{client_rests, server_idles, rested, idled, server_ticked}
use Rattle.coap_promise.proofs.Facts.Witness.TurnsMade.{to_the_client}
use Rattle.coap_promise.proofs.Facts.Witness.TurnsMade.{to_the_server, ◌⨾◌}
use Rattle.coap_promise.proofs.Facts.Witness.Gets.{turns_before, made_before, ranges}
use Rattle.coap_promise.proofs.Facts.Witness.Gets.Client.{got}
use Rattle.coap_smooth.proofs.Witness.DefersLate.Client as client
use Rattle.coap_smooth.proofs.Witness.DefersLate.Server as server
use Rattle.coap_promise.proofs.Facts.Witness.Defers.{slow_range}
use Rattle.coap_smooth.proofs.Witness.SmoothTests.{all_smooth, no_stranger}
use Rattle.coap_promise.proofs.Facts.Witness.TurnTests.{a_run}

abbrev turns : List Turn
turns =
    a_turn (event 4000 (Deliver 3)) (map OfServer (server_turn [] server.hears)) ∷
    server_idles 3000 ∷
    client_rests 3000 ∷
    a_turn (event 3000 (Deliver 2))
    (map OfClient (client_turn (got ∷ []) (to_server empty_ack ∷ []) client.hears)) ∷
    a_turn (event 2000 TickServer) (map OfServer (server_turn (to_client separate_bytes ∷ []) server.ticked)) ∷
    client_rests 2000 ∷
    a_turn (event 2000 (Deliver 1)) (map OfClient (client_turn [] [] client.awaits)) ∷
    server_idles 1000 ∷
    a_turn (event 1000 (Deliver 0)) (map OfServer (server_turn (to_client empty_ack ∷ []) server.waits)) ∷
    client_rests 1000 ∷
    turns_before

made : AllMade turns
made =
    (let g = from_client 3000 empty_ack in
    (g, inl (refl, refl), to_the_server 4000 g [] refl _ _ _ _)) ⨾
    idled 3000 0 0 ⨾
    rested 3000 ⨾
    (let g = from_server 2000 client_end separate_bytes in
    (g, inl (refl, refl), to_the_client 3000 g (got ∷ []) (to_server empty_ack ∷ []) refl _ _ _ _ _ _)) ⨾
    server_ticked 2000 0 (to_client separate_bytes ∷ []) _ (_, _, _, _, _, _, refl) ⨾
    rested 2000 ⨾
    (let g = from_server 1000 client_end empty_ack in
    (g, inl (refl, refl), to_the_client 2000 g [] [] refl _ _ _ _ _ _)) ⨾
    idled 1000 0 0 ⨾
    (let g = from_client 0 get_bytes in
    (g, inl (refl, refl), to_the_server 1000 g (to_client empty_ack ∷ []) refl _ _ _ _)) ⨾
    rested 1000 ⨾
    made_before

smooth : Smooth slow turns
smooth = record {
  goes = all_smooth slow refl turns refl;
  few_to_client = few_of 0 client_came (client_of (entries_of turns)) (omega arith);
  few_to_server = few_of 0 server_came (server_of (entries_of turns)) (omega arith);
  delays = of_one (λ (d : Delay). d.ms ≤ max_delay) (record { path = t; ms = 1000 }) (omega arith);
  versions = (let n : changes_in slow (entries_of turns) ≡ 1 = refl in omega (arith, n));
}

none_observed : NoneObserved turns
none_observed = none_taken (client_of (entries_of turns)) refl

pub deferred_late : DefersLate
deferred_late = record {
  run = a_run turns refl refl made client.lawful server.lawful slow_range ranges refl refl;
  reports = refl;
  smooth = smooth;
  no_stranger = no_stranger turns refl;
  none_observed = none_observed;
}
