-- The smooth run in which an exchange is open longest: for 12,999 ms (RFC 7252, section 5.2.2).
pub mod Client
pub mod Server
use Rattle.std.proofs.Common.{◌≡◌, ◌≤◌, ◌+◌, inl, ℕ, List, [], ◌∷◌, map, refl, arith}
use Rattle.coap_server.specs.Trace.{Delay}
use Rattle.coap_record.specs.Events.{TickServer, Deliver, client_end}
use Rattle.coap_record.specs.Legal.{IsDelay, IsConfig}
use Rattle.coap_record.specs.LegalEvents.{event}
use Rattle.coap_record.specs.Record.{OfClient, OfServer, Turn, entries_of, client_of, server_of}
use Rattle.coap_promise.specs.LegalRuns.{from_client, from_server, t, get_bytes, empty_ack, separate_bytes}
use Rattle.coap_smooth.specs.Smooth.{max_delay, Smooth, to_client as client_came, to_server as server_came}
use Rattle.coap_smooth.specs.SmoothRuns.{slowest, DefersLongest}
use Rattle.coap_promise.specs.Words.{changes_in}
use Rattle.coap_promise.proofs.Facts.Witness.InWords.{configured, of_one, t_is}
use Rattle.coap_smooth.proofs.Witness.SmoothTurns.{few_of, none_taken}
use Rattle.coap_promise.proofs.Facts.Witness.TurnsMade.{a_turn, client_turn, server_turn, to_server, to_client, AllMade}
use Rattle.coap_promise.proofs.Facts.Witness.TurnsMade.{client_rests, server_idles, rested, idled, server_ticked}
use Rattle.coap_promise.proofs.Facts.Witness.TurnsMade.{to_the_client}
use Rattle.coap_promise.proofs.Facts.Witness.TurnsMade.{to_the_server, ◌⨾◌}
use Rattle.coap_promise.proofs.Facts.Witness.Gets.{turns_before, made_before, ranges}
use Rattle.coap_promise.proofs.Facts.Witness.Gets.Client.{got}
use Rattle.coap_smooth.proofs.Witness.DefersLate.Client.{awaits}
use Rattle.coap_smooth.proofs.Witness.DefersLongest.Client as client
use Rattle.coap_smooth.proofs.Witness.DefersLongest.Server as server
use Rattle.coap_smooth.proofs.Witness.SmoothTests.{all_smooth, no_stranger}
use Rattle.coap_promise.proofs.Facts.Witness.TurnTests.{a_run}

pub range : IsConfig slowest
range = configured (record { path = t; ms = 10000 } ∷ [])
    (of_one IsDelay (record { path = t; ms = 10000 }) (record { path = t_is; ms = omega arith })) (omega arith)

-- seconds in which both ends tick, and nothing else happens

abbrev seconds : List ℕ → List Turn → List Turn
seconds [] past = past
seconds (at ∷ ats) past = client_rests (at + 1) ∷ server_idles at ∷ seconds ats past

made_seconds : (ats : List ℕ) (past : List Turn) → AllMade past → AllMade (seconds ats past)
made_seconds [] past all = all
made_seconds (at ∷ ats) past all = (rested (at + 1), (idled at 0 0, made_seconds ats past all))

-- the request comes, its acknowledgement comes, it waits and is answered

abbrev turns_waiting : List Turn
turns_waiting =
    client_rests 2000 ∷
    a_turn (event 2000 (Deliver 1)) (map OfClient (client_turn [] [] awaits)) ∷
    server_idles 1999 ∷
    a_turn (event 1000 (Deliver 0)) (map OfServer (server_turn (to_client empty_ack ∷ []) server.waits)) ∷
    client_rests 1000 ∷
    server_idles 999 ∷
    turns_before

abbrev quiet : List ℕ
quiet = 10999 ∷ 9999 ∷ 8999 ∷ 7999 ∷ 6999 ∷ 5999 ∷ 4999 ∷ 3999 ∷ 2999 ∷ []

abbrev turns : List Turn
turns =
    a_turn (event 12999 (Deliver 2))
    (map OfClient (client_turn (got ∷ []) (to_server empty_ack ∷ []) client.hears)) ∷
    client_rests 12000 ∷
    a_turn (event 11999 TickServer) (map OfServer (server_turn (to_client separate_bytes ∷ []) server.ticked)) ∷
    seconds quiet turns_waiting

made_waiting : AllMade turns_waiting
made_waiting =
    rested 2000 ⨾
    (let g = from_server 1000 client_end empty_ack in
    (g, inl (refl, refl), to_the_client 2000 g [] [] refl _ _ _ _ _ _)) ⨾
    idled 1999 0 0 ⨾
    (let g = from_client 0 get_bytes in
    (g, inl (refl, refl), to_the_server 1000 g (to_client empty_ack ∷ []) refl _ _ _ _)) ⨾
    rested 1000 ⨾
    idled 999 0 0 ⨾
    made_before

made : AllMade turns
made =
    (let g = from_server 11999 client_end separate_bytes in
    (g, inl (refl, refl), to_the_client 12999 g (got ∷ []) (to_server empty_ack ∷ []) refl _ _ _ _ _ _)) ⨾
    rested 12000 ⨾
    server_ticked 11999 0 (to_client separate_bytes ∷ []) _ (_, _, _, _, _, _, refl) ⨾
    made_seconds quiet turns_waiting made_waiting

smooth : Smooth slowest turns
smooth = record {
  goes = all_smooth slowest refl turns refl;
  few_to_client = few_of 0 client_came (client_of (entries_of turns)) (omega arith);
  few_to_server = few_of 0 server_came (server_of (entries_of turns)) (omega arith);
  delays = of_one (λ (d : Delay). d.ms ≤ max_delay) (record { path = t; ms = 10000 }) (omega arith);
  versions = (let n : changes_in slowest (entries_of turns) ≡ 1 = refl in omega (arith, n));
}

pub deferred_longest : DefersLongest
deferred_longest = record {
  run = a_run turns refl refl made client.lawful server.lawful range ranges refl refl;
  reports = refl;
  smooth = smooth;
  no_stranger = no_stranger turns refl;
  none_observed = none_taken (client_of (entries_of turns)) refl;
  old = inl (refl, client.open_12);
}
