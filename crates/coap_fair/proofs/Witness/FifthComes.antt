-- A legal run with fair loss: a GET is answered whose fifth copy alone comes (RFC 7252, sections 4.2 and 5.2.1).
pub mod Client
pub mod Server
use Rattle.std.proofs.Common.{◌≡◌, inl, inr, true, List, [], ◌∷◌, map, refl, arith, subst}
use Rattle.coap_layer.specs.Channel.{Hop, near_of}
use Rattle.coap_layer.specs.Sends.{IsIn}
use Rattle.coap_layer.specs.Taking.{ArrivesWithin}
use Rattle.coap_layer.specs.Words.{Open}
use Rattle.coap_record.specs.Events.{TickClient, Deliver, client_end, server_end}
use Rattle.coap_record.specs.LegalEvents.{event}
use Rattle.coap_record.specs.Record.{OfClient, OfServer, Turn, entries_of, client_of, server_of}
use Rattle.coap_promise.specs.Hops.{hops_of}
use Rattle.coap_promise.specs.LegalRuns.{config, from_client, from_server, get_bytes, content_bytes}
use Rattle.coap_promise.proofs.Facts.Witness.Gets.{turns_before, made_before, ranges}
use Rattle.coap_promise.proofs.Facts.Witness.Gets.Client.{got}
use Rattle.coap_promise.proofs.Facts.Witness.InWords.{config_range}
use Rattle.coap_promise.proofs.Facts.Witness.Tests.{messages}
use Rattle.coap_promise.proofs.Facts.Witness.TurnTests.{a_run}
use Rattle.coap_promise.proofs.Facts.Witness.TurnsMade.{a_turn, client_turn, server_turn, to_server, to_client, AllMade}
use Rattle.coap_promise.proofs.Facts.Witness.TurnsMade.{client_rests, rested, ticked, to_the_client, to_the_server, ◌⨾◌}
use Rattle.coap_smooth.specs.Smooth.{to_server as server_came}
use Rattle.coap_smooth.proofs.Witness.SmoothTurns.{few_of, none_taken}
use Rattle.coap_fair.specs.FairLoss.{FairRun, GetsThrough}
use Rattle.coap_fair.specs.FairRuns.{FifthComes}
use Rattle.coap_fair.proofs.Witness.FairTests.{copies_in_time, in_time, none_asked}
use Rattle.coap_fair.proofs.Witness.ThroughTests.{begun_in, is_begun, far_within, back_of}
use Rattle.coap_fair.proofs.Witness.FifthComes.Client as client
use Rattle.coap_fair.proofs.Witness.FifthComes.Server as server

abbrev turns_then : List Turn
turns_then =
    a_turn (event 33000 (Deliver 5)) (map OfClient (client_turn (got ∷ []) [] client.hears)) ∷
    a_turn (event 31500 (Deliver 4)) (map OfServer (server_turn (to_client content_bytes ∷ []) server.serves)) ∷
    a_turn (event 30000 TickClient) (map OfClient (client.copied 30000)) ∷
    a_turn (event 14000 TickClient) (map OfClient (client.copied 14000)) ∷
    a_turn (event 6000 TickClient) (map OfClient (client.copied 6000)) ∷
    a_turn (event 2000 TickClient) (map OfClient (client.copied 2000)) ∷
    turns_before

abbrev turns : List Turn
turns = client_rests 60000 ∷ turns_then

made : AllMade turns
made =
    rested 60000 ⨾
    (let g = from_server 31500 client_end content_bytes in
    (g, inl (refl, refl), to_the_client 33000 g (got ∷ []) [] refl _ _ _ _ _ _)) ⨾
    (let g = from_client 30000 get_bytes in
    (g, inl (refl, refl), to_the_server 31500 g (to_client content_bytes ∷ []) refl _ _ _ _)) ⨾
    ticked 30000 [] (to_server get_bytes ∷ []) _ (_, _, _, _, _, refl) ⨾
    ticked 14000 [] (to_server get_bytes ∷ []) _ (_, _, _, _, _, refl) ⨾
    ticked 6000 [] (to_server get_bytes ∷ []) _ (_, _, _, _, _, refl) ⨾
    ticked 2000 [] (to_server get_bytes ∷ []) _ (_, _, _, _, _, refl) ⨾
    made_before

abbrev hops : List Hop
hops = hops_of config turns_then

-- the one that was begun
abbrev con : Open
con = record { to = server_end; id = 0; bytes = get_bytes; timeout = 2000; first = 0; last = 0 }

through : GetsThrough 1500 client_end server_end con hops
unfolding messages
through = record {
  there = far_within 47500 client_end get_bytes 0 31500 hops _ refl refl refl (omega arith) (omega arith);
  back = λ later past reply bytes is r.
      back_of 49000 server_end hops []
      ((_, 33000, refl, refl, refl, omega arith, omega arith), tt) later past reply client_end 0 bytes is r.call;
}

one_begun : (other : Open) → IsIn other (begun_in (near_of hops)) → con ≡ other
unfolding messages
one_begun other (inl h) = h
one_begun other (inr h) = absurd h

copies_come : copies_in_time config turns ≡ true
unfolding messages
copies_come = refl

fair : FairRun 1500 config turns
fair = record {
  fair = (
    λ other began five late.
        subst (λ c. GetsThrough 1500 client_end server_end c hops) (one_begun other (is_begun (near_of hops) other
        began))
        through,
    none_asked 1500 config turns_then refl,
  );
  in_time = in_time 1500 config turns copies_come;
  few = few_of 0 server_came (server_of (entries_of turns)) (omega arith);
  no_delays = refl;
  none_observed = none_taken (client_of (entries_of turns)) refl;
  soon = omega arith;
}

pub answered : FifthComes
answered = record {
  run = a_run turns refl refl made client.lawful server.lawful config_range ranges refl refl;
  reports = refl;
  fair = fair;
}
