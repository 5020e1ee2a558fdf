-- A run by clocks that don't keep pace, in which one PUT is applied twice (RFC 7252, sections 4.5 and 4.8.2).
pub mod Client
pub mod Server
use Rattle.std.proofs.Common.{inl, inr, Some, List, [], ◌∷◌, map, refl, arith}
use Rattle.std.specs.Prelude.{codes, Ok}
use Rattle.coap_types.specs.Past.{Sometime}
use Rattle.coap_types.proofs.Facts.Bytes.{bytes_are}
use Rattle.coap_promise.specs.Applied.{AtMostOnce}
use Rattle.coap_promise.specs.ClockRuns.{strays, put, put_bytes, created_bytes, changed_bytes, GainsInAll, PutsTwice}
use Rattle.coap_record.specs.Events.{Calls, TickClient, Deliver}
use Rattle.coap_record.specs.Legal.{IsRequest}
use Rattle.coap_record.specs.LegalEvents.{event}
use Rattle.coap_promise.specs.LegalRuns.{config, from_client, token}
use Rattle.coap_record.specs.Record.{Entry, OfClient, OfServer, Turn, entries_of}
use Rattle.coap_promise.specs.Words.{AppliesFor, SentFor}
use Rattle.coap_promise.proofs.Witness.ClockTests.{all_legal}
use Rattle.coap_promise.proofs.Facts.Witness.InWords.{config_range, t_is, no_tags}
use Rattle.coap_promise.proofs.Witness.PacedClocks.{gains}
use Rattle.coap_promise.proofs.Witness.PutsTwice.Client as client
use Rattle.coap_promise.proofs.Witness.PutsTwice.Server as server
use Rattle.coap_promise.proofs.Facts.Witness.TimesOut.Client.{copies, ticked as asks}
use Rattle.coap_promise.proofs.Facts.Witness.TurnTests.{InRanges, made_at}
use Rattle.coap_promise.proofs.Facts.Witness.TurnsMade.{a_turn, client_turn, server_turn, to_server, to_client, AllMade}
use Rattle.coap_promise.proofs.Facts.Witness.TurnsMade.{ticked}
use Rattle.coap_promise.proofs.Facts.Witness.TurnsMade.{call_taken, to_the_server, ◌⨾◌}

abbrev earlier : List Turn
earlier =
    a_turn (event 47000 TickClient) (map OfClient (client_turn [] (to_server put_bytes ∷ []) (copies 47000))) ∷
    a_turn (event 0 (Deliver 0)) (map OfServer (server_turn (to_client created_bytes ∷ []) (server.creates ∷ []))) ∷
    a_turn (event 0 TickClient) (map OfClient (client_turn [] (to_server put_bytes ∷ []) asks)) ∷
    a_turn (event 0 (Calls put)) (map OfClient (client_turn [] [] client.called)) ∷
    []

abbrev turns : List Turn
turns =
    a_turn (event 247001 (Deliver 2)) (map OfServer (server_turn (to_client changed_bytes ∷ []) (server.changes ∷
    []))) ∷
    earlier

made : AllMade turns
made =
    (let g = from_client 47000 put_bytes in
    (g, inl (refl, refl), to_the_server 247001 g (to_client changed_bytes ∷ []) refl _ _ _ _)) ⨾
    ticked 47000 [] (to_server put_bytes ∷ []) _ (_, _, _, _, _, refl) ⨾
    (let g = from_client 0 put_bytes in
    (g, inl (refl, refl), to_the_server 0 g (to_client created_bytes ∷ []) refl _ _ _ _)) ⨾
    ticked 0 [] (to_server put_bytes ∷ []) _ (_, _, _, _, _, refl) ⨾
    call_taken 0 put (Ok 0) ⨾
    tt

range : IsRequest put
range = record {
  path = t_is;
  format = tt;
  body = bytes_are (codes "a") refl;
  etags = no_tags;
  if_match = no_tags;
  accept = tt;
}

ranges : InRanges turns
ranges = (range, tt)

gain : GainsInAll 100001 strays
gain = gains (147000 ∷ 47000 ∷ 0 ∷ 0 ∷ 0 ∷ []) refl 0 100001 4

-- both are applied for the one call

abbrev all : List Entry
all = entries_of turns

sent : SentFor config 0 token all
sent = (_, inr (inr (inr (inr (inr (inr (inr (inr (inr (inl refl))))))))), refl, refl)

applied : Sometime (AppliesFor config 0 all) (entries_of earlier)
applied = inr (inr (inr (inr (inr (inr (inr (inl (record
    { request = _; here = refl; applied = refl; from = refl; belongs = sent }))))))))

twice : AtMostOnce config all → ⊥
twice once = (once 0).1.1.0 (record { request = _; here = refl; applied = refl; from = refl; belongs = sent }) applied

pub puts_it_twice : PutsTwice
puts_it_twice = record {
  turns = turns;
  made = record {
    events_are = refl;
    made = made_at config.addresses turns refl made;
    client = client.lawful;
    server = server.lawful;
  };
  range = config_range;
  events = all_legal strays turns ranges refl;
  gains = gain;
  gives = refl;
  twice = twice;
  changes = refl;
}
