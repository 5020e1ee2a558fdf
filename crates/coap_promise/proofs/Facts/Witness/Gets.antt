-- A legal run in which a client gets what the server holds (RFC 7252, section 5.2.1).
pub mod Client
pub mod Server
use Rattle.std.proofs.Common.{inl, Some, List, [], ◌∷◌, map, refl, arith}
use Rattle.std.specs.Prelude.{codes, Ok}
use Rattle.coap_record.specs.Events.{Calls, TickClient, Deliver, client_end}
use Rattle.coap_record.specs.Legal.{IsRequest}
use Rattle.coap_record.specs.LegalEvents.{event}
use Rattle.coap_record.specs.Record.{OfClient, OfServer, Turn}
use Rattle.coap_promise.specs.LegalRuns.{from_client, from_server, plain, t, hi, get, get_bytes, content_bytes, Gets}
use Rattle.coap_types.proofs.Facts.Bytes.{bytes_are}
use Rattle.coap_promise.proofs.Facts.Witness.InWords.{config_range, t_is, no_tags}
use Rattle.coap_promise.proofs.Facts.Witness.TurnsMade.{a_turn, client_turn, server_turn, to_server, to_client, AllMade}
use Rattle.coap_promise.proofs.Facts.Witness.TurnsMade.{ticked}
use Rattle.coap_promise.proofs.Facts.Witness.TurnsMade.{call_taken, change_taken, to_the_client, to_the_server, ◌⨾◌}
use Rattle.coap_promise.proofs.Facts.Witness.Gets.Client as client
use Rattle.coap_promise.proofs.Facts.Witness.Gets.Server as server
use Rattle.coap_promise.proofs.Facts.Witness.TurnTests.{InRanges, a_run}

pub range : IsRequest get
range = record { path = t_is; format = tt; body = bytes_are [] refl; etags = no_tags; if_match = no_tags; accept = tt }

-- until the request is out

abbrev pub turns_before : List Turn
turns_before =
    a_turn (event 0 TickClient) (map OfClient (client_turn [] (to_server get_bytes ∷ []) client.ticked)) ∷
    a_turn (event 0 (Calls get)) (map OfClient (client_turn [] [] client.called)) ∷
    a_turn (event 0 hi) (map OfServer (server_turn [] (server.sets ∷ []))) ∷
    []

pub made_before : AllMade turns_before
made_before =
    ticked 0 [] (to_server get_bytes ∷ []) _ (_, _, _, _, _, refl) ⨾
    call_taken 0 get (Ok 0) ⨾
    change_taken 0 t (Some plain) (codes "hi") server.sets (_, _, refl) ⨾
    tt

-- .. of which these numbers are in range
pub ranges : InRanges turns_before
ranges = (range, ((t_is, omega arith, bytes_are (codes "hi") refl), tt))

-- the request comes, and its response

abbrev turns : List Turn
turns =
    a_turn (event 9 (Deliver 1)) (map OfClient (client_turn (client.got ∷ []) [] (client.hears ∷ []))) ∷
    a_turn (event 5 (Deliver 0)) (map OfServer (server_turn (to_client content_bytes ∷ []) (server.serves ∷ []))) ∷
    turns_before

made : AllMade turns
made =
    (let g = from_server 5 client_end content_bytes in
    (g, inl (refl, refl), to_the_client 9 g (client.got ∷ []) [] refl _ _ _ _ _ _)) ⨾
    (let g = from_client 0 get_bytes in
    (g, inl (refl, refl), to_the_server 5 g (to_client content_bytes ∷ []) refl _ _ _ _)) ⨾
    made_before

pub gotten : Gets
gotten = record {
  run = a_run turns refl refl made client.lawful server.lawful config_range ranges refl refl;
  reports = refl;
}
