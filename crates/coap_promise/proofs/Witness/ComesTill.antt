-- A datagram may come to 100,000 ms after it was given out.
use Rattle.std.proofs.Common.{◌≤◌, inl, inr, ℕ, true, Some, List, [], ◌∷◌, map, refl, arith, Ok}
use Rattle.coap_layer.specs.Trace as L
use Rattle.coap_resource.specs.Content.{nothing}
use Rattle.coap_resource.specs.Serves.{Reply, bare}
use Rattle.coap_exchange.specs.AnswererSteps.{asked_of}
use Rattle.coap_server.specs.Trace as S
use Rattle.coap_server.specs.Law.{ServerLaw}
use Rattle.coap_promise.specs.LegalRuns.{limits, config, from_client, from_server, get, get_bytes, not_found_bytes}
use Rattle.coap_promise.specs.LegalRuns.{Runs}
use Rattle.coap_promise.specs.LegalRuns.{MayComeTill}
use Rattle.coap_record.specs.Events.{Calls, TickClient, Deliver, client_end, usual_addresses}
use Rattle.coap_record.specs.Legal.{AllLegal}
use Rattle.coap_record.specs.LegalEvents.{event, comes_at}
use Rattle.coap_record.specs.Record.{OfClient, OfServer, Turn}
use Rattle.coap_layer.specs.Machine.State.{usual}
use Rattle.coap_promise.proofs.Facts.Witness.InWords.{config_range}
use Rattle.coap_promise.proofs.Facts.Witness.TurnsMade.{a_turn, client_turn, server_turn, to_server, to_client}
use Rattle.coap_promise.proofs.Facts.Witness.TurnsMade.{legal_at}
use Rattle.coap_promise.proofs.Facts.Witness.TurnsMade.{AllMade, ticked, call_taken, to_the_server, ◌⨾◌}
use Rattle.coap_promise.proofs.Facts.Witness.Gets.{range}
use Rattle.coap_promise.proofs.Facts.Witness.Gets.Client as client
use Rattle.coap_promise.proofs.Facts.Witness.Gets.Server.{request, question}
use Rattle.coap_promise.proofs.Facts.Witness.Tests.{messages, server_lawful}

abbrev reply : Reply
reply = bare 132 0

module _ (at : ℕ) where
  abbrev serves : S.Call
  serves = S.Feeds at client_end get_bytes 0 (L.Becomes (L.Request request true))
      (Some (asked_of client_end request, request)) (S.Serves question reply (nothing limits)) L.Nothing

  abbrev calls : List S.Call
  calls = server_turn (to_client not_found_bytes ∷ []) (serves ∷ [])

  pub lawful : ServerLaw limits 6 (usual 0) calls
  unfolding messages
  lawful = server_lawful limits 6 calls
      (tt, (tt, (record { reply = reply; left = nothing limits; serves = (refl, refl); is = refl }, tt))) refl refl

  module _ (early : at ≤ 100000) where
    abbrev turns : List Turn
    turns =
        a_turn (event at (Deliver 0)) (map OfServer calls) ∷
        a_turn (event 0 TickClient) (map OfClient (client_turn [] (to_server get_bytes ∷ []) client.ticked)) ∷
        a_turn (event 0 (Calls get)) (map OfClient (client_turn [] [] client.called)) ∷
        []

    made : AllMade turns
    made =
        (let g = from_client 0 get_bytes in
        (g, inl (refl, refl), to_the_server at g (to_client not_found_bytes ∷ []) refl _ _ _ _)) ⨾
        ticked 0 [] (to_server get_bytes ∷ []) _ (_, _, _, _, _, refl) ⨾
        call_taken 0 get (Ok 0) ⨾
        tt

    legal : AllLegal usual_addresses turns
    legal = (
      legal_at at (Deliver 0) (omega (arith, early)) tt (omega (arith, early))
          (from_client 0 get_bytes, inl (refl, refl), inr refl, omega (arith, early)),
      (legal_at 0 TickClient (omega arith) tt (omega arith) tt, (legal_at 0 (Calls get) (omega arith) range tt tt, tt)),
    )

    runs : Runs config (comes_at at get) (from_server at client_end not_found_bytes ∷ from_client 0 get_bytes ∷ [])
    runs = record {
      turns = turns;
      made = record { events_are = refl; made = made; client = client.lawful_before; server = lawful };
      legal = record { range = config_range; events = legal };
      gives = refl;
    }

pub may_come : MayComeTill 100000
may_come at early = runs at early
