-- A legal run in which a POST is applied after its Timeout (RFC 7252, sections 4.2 and 4.8.2).
pub mod Client
pub mod Server
use Rattle.std.proofs.Common.{inl, Some, List, [], ◌∷◌, map, refl, arith}
use Rattle.std.specs.Prelude.{codes, Ok}
use Rattle.coap_types.specs.Path.{IsPath}
use Rattle.coap_record.specs.Events.{Calls, Sets, TickClient, Deliver}
use Rattle.coap_record.specs.Legal.{IsRequest}
use Rattle.coap_record.specs.LegalEvents.{event}
use Rattle.coap_record.specs.Record.{OfClient, OfServer, Turn}
use Rattle.coap_types.proofs.Facts.Bytes.{bytes_are}
use Rattle.coap_promise.proofs.Facts.Witness.InWords.{config_range, path_of_one, no_tags}
use Rattle.coap_promise.proofs.Facts.Witness.TurnsMade.{a_turn, client_turn, server_turn, to_server, to_client, AllMade}
use Rattle.coap_promise.proofs.Facts.Witness.TurnsMade.{ticked}
use Rattle.coap_promise.proofs.Facts.Witness.TurnsMade.{call_taken, change_taken, to_the_server, ◌⨾◌}
use Rattle.coap_promise.specs.LegalRuns.{from_client, plain, log, post, call_bytes, changed_bytes, TimesOut}
use Rattle.coap_promise.proofs.Facts.Witness.TimesOut.Client as client
use Rattle.coap_promise.proofs.Facts.Witness.TimesOut.Server as server
use Rattle.coap_promise.proofs.Facts.Witness.TurnTests.{InRanges, a_run}

log_is : IsPath log
log_is = path_of_one (codes "log") (omega arith) (bytes_are (codes "log") refl)

range : IsRequest post
range = record {
  path = log_is;
  format = tt;
  body = bytes_are (codes "a") refl;
  etags = no_tags;
  if_match = no_tags;
  accept = tt;
}

abbrev pub turns : List Turn
turns =
    a_turn (event 130000 (Deliver 4)) (map OfServer (server_turn (to_client changed_bytes ∷ []) server.serves)) ∷
    a_turn (event 62000 TickClient) (map OfClient (client_turn (client.failed ∷ []) [] client.expires)) ∷
    a_turn (event 30000 TickClient) (map OfClient (client.copied 30000)) ∷
    a_turn (event 14000 TickClient) (map OfClient (client.copied 14000)) ∷
    a_turn (event 6000 TickClient) (map OfClient (client.copied 6000)) ∷
    a_turn (event 2000 TickClient) (map OfClient (client.copied 2000)) ∷
    a_turn (event 0 TickClient) (map OfClient (client_turn [] (to_server call_bytes ∷ []) client.ticked)) ∷
    a_turn (event 0 (Calls post)) (map OfClient (client_turn [] [] client.called)) ∷
    a_turn (event 0 (Sets log (Some plain) (codes "x"))) (map OfServer (server_turn [] server.set)) ∷
    []

pub made : AllMade turns
made =
    (let g = from_client 30000 call_bytes in
    (g, inl (refl, refl), to_the_server 130000 g (to_client changed_bytes ∷ []) refl _ _ _ _)) ⨾
    ticked 62000 (client.failed ∷ []) [] _ (_, _, _, _, _, refl) ⨾
    ticked 30000 [] (to_server call_bytes ∷ []) _ (_, _, _, _, _, refl) ⨾
    ticked 14000 [] (to_server call_bytes ∷ []) _ (_, _, _, _, _, refl) ⨾
    ticked 6000 [] (to_server call_bytes ∷ []) _ (_, _, _, _, _, refl) ⨾
    ticked 2000 [] (to_server call_bytes ∷ []) _ (_, _, _, _, _, refl) ⨾
    ticked 0 [] (to_server call_bytes ∷ []) _ (_, _, _, _, _, refl) ⨾
    call_taken 0 post (Ok 0) ⨾
    change_taken 0 log (Some plain) (codes "x") _ (_, _, refl) ⨾
    tt

-- .. of which these numbers are in range
pub ranges : InRanges turns
ranges = (range, ((log_is, omega arith, bytes_are (codes "x") refl), tt))

unfoldable pub timed_out : TimesOut
timed_out = record {
  run = a_run turns refl refl made client.lawful server.lawful config_range ranges refl refl;
  reports = refl;
  holds = refl;
}
