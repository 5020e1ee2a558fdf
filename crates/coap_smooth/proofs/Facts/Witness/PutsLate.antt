-- A smooth run in which a PUT is applied, with a separate response: each datagram and each tick comes at its last
-- moment (RFC 7252, section 5.2.2).
pub mod Client
pub mod Server
use Rattle.std.proofs.Common.{◌≡◌, ◌≤◌, inl, inr, Some, List, [], ◌∷◌, map, refl, arith}
use Rattle.std.specs.Prelude.{codes, Ok}
use Rattle.coap_types.specs.Past.{Sometime}
use Rattle.coap_types.proofs.Facts.Bytes.{bytes_are}
use Rattle.coap_server.specs.Trace.{Delay}
use Rattle.coap_record.specs.Events.{Calls, TickClient, TickServer, Deliver, client_end}
use Rattle.coap_record.specs.Legal.{IsRequest}
use Rattle.coap_record.specs.LegalEvents.{event}
use Rattle.coap_promise.specs.LegalRuns.{from_client, from_server, plain, t, hi, slow, empty_ack, token}
use Rattle.coap_record.specs.Record.{Entry, OfClient, OfServer, Turn, entries_of, client_of, server_of}
use Rattle.coap_smooth.specs.Smooth.{max_delay, Smooth, to_client as client_came, to_server as server_came}
use Rattle.coap_smooth.specs.Smooth.{NoneObserved}
use Rattle.coap_smooth.specs.SmoothRuns.{put, put_bytes, separate_changed, PutsLate}
use Rattle.coap_promise.specs.Words.{AppliesFor, SentFor, changes_in}
use Rattle.coap_promise.proofs.Facts.Witness.InWords.{of_one, t_is, no_tags}
use Rattle.coap_smooth.proofs.Witness.SmoothTurns.{few_of, none_taken}
use Rattle.coap_promise.proofs.Facts.Witness.TurnsMade.{a_turn, client_turn, server_turn, to_server, to_client, AllMade}
use Rattle.coap_promise.proofs.Facts.Witness.TurnsMade.{ticked}
use Rattle.coap_promise.proofs.Facts.Witness.TurnsMade.{client_rests, server_idles, rested, idled, server_ticked}
use Rattle.coap_promise.proofs.Facts.Witness.TurnsMade.{to_the_client}
use Rattle.coap_promise.proofs.Facts.Witness.TurnsMade.{to_the_server, call_taken, change_taken, ◌⨾◌}
use Rattle.coap_promise.proofs.Facts.Witness.Gets.Client as first
use Rattle.coap_promise.proofs.Facts.Witness.Gets.Server as stores
use Rattle.coap_smooth.proofs.Witness.DefersLate.Client.{awaits}
use Rattle.coap_smooth.proofs.Witness.DefersLate.Server.{hears}
use Rattle.coap_smooth.proofs.Facts.Witness.PutsLate.Client as client
use Rattle.coap_smooth.proofs.Facts.Witness.PutsLate.Server as server
use Rattle.coap_promise.proofs.Facts.Witness.Defers.{slow_range}
use Rattle.coap_promise.proofs.Facts.Witness.TurnTests.{InRanges, a_run}
use Rattle.coap_smooth.proofs.Witness.SmoothTests.{all_smooth, no_stranger}

abbrev turns : List Turn
turns =
    a_turn (event 4000 (Deliver 3)) (map OfServer (server_turn [] hears)) ∷
    server_idles 3000 ∷
    client_rests 3000 ∷
    a_turn (event 3000 (Deliver 2))
    (map OfClient (client_turn (client.done ∷ []) (to_server empty_ack ∷ []) client.hears)) ∷
    a_turn (event 2000 TickServer) (map OfServer (server_turn (to_client separate_changed ∷ []) server.ticked)) ∷
    client_rests 2000 ∷
    a_turn (event 2000 (Deliver 1)) (map OfClient (client_turn [] [] awaits)) ∷
    server_idles 1000 ∷
    a_turn (event 1000 (Deliver 0)) (map OfServer (server_turn (to_client empty_ack ∷ []) server.waits)) ∷
    client_rests 1000 ∷
    a_turn (event 0 TickClient) (map OfClient (client_turn [] (to_server put_bytes ∷ []) first.ticked)) ∷
    a_turn (event 0 (Calls put)) (map OfClient (client_turn [] [] client.called)) ∷
    a_turn (event 0 hi) (map OfServer (server_turn [] (stores.sets ∷ []))) ∷
    []

made : AllMade turns
made =
    (let g = from_client 3000 empty_ack in
    (g, inl (refl, refl), to_the_server 4000 g [] refl _ _ _ _)) ⨾
    idled 3000 0 0 ⨾
    rested 3000 ⨾
    (let g = from_server 2000 client_end separate_changed in
    (g, inl (refl, refl), to_the_client 3000 g (client.done ∷ []) (to_server empty_ack ∷ []) refl _ _ _ _ _ _)) ⨾
    server_ticked 2000 0 (to_client separate_changed ∷ []) _ (_, _, _, _, _, _, refl) ⨾
    rested 2000 ⨾
    (let g = from_server 1000 client_end empty_ack in
    (g, inl (refl, refl), to_the_client 2000 g [] [] refl _ _ _ _ _ _)) ⨾
    idled 1000 0 0 ⨾
    (let g = from_client 0 put_bytes in
    (g, inl (refl, refl), to_the_server 1000 g (to_client empty_ack ∷ []) refl _ _ _ _)) ⨾
    rested 1000 ⨾
    ticked 0 [] (to_server put_bytes ∷ []) _ (_, _, _, _, _, refl) ⨾
    call_taken 0 put (Ok 0) ⨾
    change_taken 0 t (Some plain) (codes "hi") stores.sets (_, _, refl) ⨾
    tt

range : IsRequest put
range = record {
  path = t_is;
  format = tt;
  body = bytes_are (codes "ho") refl;
  etags = no_tags;
  if_match = no_tags;
  accept = tt;
}

-- .. of which these numbers are in range
ranges : InRanges turns
ranges = (range, ((t_is, omega arith, bytes_are (codes "hi") refl), tt))

smooth : Smooth slow turns
smooth = record {
  goes = all_smooth slow refl turns refl;
  few_to_client = few_of 0 client_came (client_of (entries_of turns)) (omega arith);
  few_to_server = few_of 0 server_came (server_of (entries_of turns)) (omega arith);
  delays = of_one (λ (d : Delay). d.ms ≤ max_delay) (record { path = t; ms = 1000 }) (omega arith);
  versions = (let n : changes_in slow (entries_of turns) ≡ 2 = refl in omega (arith, n));
}

-- the request is applied for its call

abbrev all : List Entry
all = entries_of turns

sent : SentFor slow 0 token all
sent = (
  _,
  inr (inr (inr (inr (inr (inr (inr (inr (inr (inr (inr
      (inr (inr (inr (inr (inr (inr (inr (inr (inr (inr (inl refl))))))))))))))))))))),
  refl,
  refl,
)

applied : Sometime (AppliesFor slow 0 all) all
applied = inr (inr (inr (inr (inr (inr (inr (inr (inr (inr (inr
    (inr (inr (inr (inr (inl (record {
      request = _;
      here = refl;
      applied = refl;
      from = refl;
      belongs = sent;
    }))))))))))))))))

pub put_late : PutsLate
put_late = record {
  run = a_run turns refl refl made client.lawful server.lawful slow_range ranges refl refl;
  reports = refl;
  smooth = smooth;
  no_stranger = no_stranger turns refl;
  none_observed = none_taken (client_of (entries_of turns)) refl;
  applied = applied;
  once = refl;
  holds = refl;
}
