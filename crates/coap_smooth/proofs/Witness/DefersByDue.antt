-- A smooth run in which each end ticks only when something is due, and nothing happens for 9,999 ms (RFC 7252, section
-- 5.2.2).
pub mod Client
pub mod Server
use Rattle.std.proofs.Common.{◌≡◌, ◌≤◌, ◌+◌, inl, inr, ℕ, List, [], ◌∷◌, map, refl, arith}
use Rattle.coap_server.specs.Trace.{Delay}
use Rattle.coap_types.specs.Past.{Always}
use Rattle.coap_record.specs.Events.{TickServer, Deliver, client_end, usual_addresses}
use Rattle.coap_record.specs.Legal.{AllLegal}
use Rattle.coap_record.specs.LegalEvents.{event}
use Rattle.coap_record.specs.Record.{OfClient, OfServer, Turn, entries_of, client_of, server_of}
use Rattle.coap_promise.specs.LegalRuns.{from_client, from_server, t, get_bytes, empty_ack, separate_bytes}
use Rattle.coap_smooth.specs.Smooth.{max_age, max_delay, Smooth, GoesSmoothly, TicksOften}
use Rattle.coap_smooth.specs.Smooth.{to_client as client_came, to_server as server_came}
use Rattle.coap_smooth.specs.SmoothRuns.{slowest, DefersByDue}
use Rattle.coap_promise.specs.Words.{changes_in}
use Rattle.coap_promise.proofs.Facts.Witness.InWords.{of_one}
use Rattle.coap_smooth.proofs.Delivery.SmoothGaps.{are_close}
use Rattle.coap_smooth.proofs.Witness.SmoothTurns.{few_of, none_taken}
use Rattle.coap_promise.proofs.Facts.Witness.TurnsMade.{a_turn, client_turn, server_turn, to_server, to_client, AllMade}
use Rattle.coap_promise.proofs.Facts.Witness.TurnsMade.{rests, idle, server_ticked, to_the_client}
use Rattle.coap_promise.proofs.Facts.Witness.TurnsMade.{to_the_server, ◌⨾◌}
use Rattle.coap_promise.proofs.Facts.Witness.Gets.{turns_before, made_before, ranges}
use Rattle.coap_promise.proofs.Facts.Witness.Gets.Client.{got}
use Rattle.coap_smooth.proofs.Witness.DefersByDue.Client as client
use Rattle.coap_smooth.proofs.Witness.DefersByDue.Server as server
use Rattle.coap_smooth.proofs.Witness.DefersLate.Client.{awaits}
use Rattle.coap_smooth.proofs.Witness.DefersLongest.{range}
use Rattle.coap_smooth.proofs.Witness.DefersLongest.Client.{hears}
use Rattle.coap_smooth.proofs.Witness.DefersLongest.Server.{waits, ticked}
use Rattle.coap_smooth.proofs.Witness.SmoothTests.{all_smooth, comes_in_time, no_stranger}
use Rattle.coap_promise.proofs.Facts.Witness.TurnTests.{a_run, all_legal}

-- till the request waits, till that is acknowledged, till it is answered

abbrev turns_1 : List Turn
turns_1 = a_turn (event 1000 (Deliver 0)) (map OfServer (server_turn (to_client empty_ack ∷ []) waits)) ∷ turns_before

abbrev turns_2 : List Turn
turns_2 = a_turn (event 2000 (Deliver 1)) (map OfClient (client_turn [] [] awaits)) ∷ turns_1

abbrev turns_12 : List Turn
turns_12 =
    a_turn (event 11999 TickServer) (map OfServer (server_turn (to_client separate_bytes ∷ []) ticked)) ∷ turns_2

abbrev turns : List Turn
turns =
    a_turn (event 12999 (Deliver 2)) (map OfClient (client_turn (got ∷ []) (to_server empty_ack ∷ []) hears)) ∷ turns_12

made : AllMade turns
made =
    (let g = from_server 11999 client_end separate_bytes in
    (g, inl (refl, refl), to_the_client 12999 g (got ∷ []) (to_server empty_ack ∷ []) refl _ _ _ _ _ _)) ⨾
    server_ticked 11999 0 (to_client separate_bytes ∷ []) _ (_, _, _, _, _, _, refl) ⨾
    (let g = from_server 1000 client_end empty_ack in
    (g, inl (refl, refl), to_the_client 2000 g [] [] refl _ _ _ _ _ _)) ⨾
    (let g = from_client 0 get_bytes in
    (g, inl (refl, refl), to_the_server 1000 g (to_client empty_ack ∷ []) refl _ _ _ _)) ⨾
    made_before

abbrev GoesAt : List Turn → Type 0
GoesAt [] = ⊥
GoesAt (turn ∷ past) = GoesSmoothly slowest past turn

goes_2 : GoesAt turns_2
goes_2 = record {
  in_time = comes_in_time slowest refl turns_1 2000 refl;
  client_keeps_up = inr (inl (record {
    now = 1000;
    since = omega arith;
    before = omega arith;
    soon = omega arith;
    rests = (rests 1000, (0, (_, _, _, _, _, refl)), client.rests_asked);
  }));
  server_keeps_up = inr (inl (record {
    now = 2000;
    since = omega arith;
    before = omega arith;
    soon = omega arith;
    rests = (idle 2000, (0, _, _, _, _, _, _, refl), server.idles_first);
  }));
  all_made = refl;
}

goes_11 : GoesAt turns_12
goes_11 = record {
  in_time = comes_in_time slowest refl turns_2 11999 refl;
  client_keeps_up = inr (inl (record {
    now = 11999;
    since = omega arith;
    before = omega arith;
    soon = omega arith;
    rests = (rests 11999, (0, (_, _, _, _, _, refl)), client.rests_then);
  }));
  server_keeps_up = inr (inl (record {
    now = 10999;
    since = omega arith;
    before = omega arith;
    soon = omega arith;
    rests = (idle 10999, (0, _, _, _, _, _, _, refl), server.idles_last);
  }));
  all_made = refl;
}

goes_12 : GoesAt turns
goes_12 = record {
  in_time = comes_in_time slowest refl turns_12 12999 refl;
  client_keeps_up = inr (inl (record {
    now = 12999;
    since = omega arith;
    before = omega arith;
    soon = omega arith;
    rests = (rests 12999, (0, (_, _, _, _, _, refl)), client.rests_last);
  }));
  server_keeps_up = inl (inl (inl (refl, omega arith)));
  all_made = refl;
}

goes : Always (GoesSmoothly slowest) turns
goes = (goes_12, (goes_11, (goes_2, all_smooth slowest refl turns_1 refl)))

smooth : Smooth slowest turns
smooth = record {
  goes = goes;
  few_to_client = few_of 0 client_came (client_of (entries_of turns)) (omega arith);
  few_to_server = few_of 0 server_came (server_of (entries_of turns)) (omega arith);
  delays = of_one (λ (d : Delay). d.ms ≤ max_delay) (record { path = t; ms = 10000 }) (omega arith);
  versions = (let n : changes_in slowest (entries_of turns) ≡ 1 = refl in omega (arith, n));
}

legal : AllLegal usual_addresses turns
legal = all_legal turns ranges refl

pub deferred_by_due : DefersByDue
deferred_by_due = record {
  run = a_run turns refl refl made client.lawful server.lawful range ranges refl refl;
  reports = refl;
  smooth = smooth;
  no_stranger = no_stranger turns refl;
  none_observed = none_taken (client_of (entries_of turns)) refl;
  rare = λ often. (let close = (are_close usual_addresses turns legal often).1.0 in
      omega (arith, close));
}
