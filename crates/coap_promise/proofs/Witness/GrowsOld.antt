-- Runs in which a body is reported that is as old as one may be (RFC 7252, sections 4.2, 4.5 and 4.8.2).
pub mod Client
pub mod Server
use Rattle.std.proofs.Common.{◌≡◌, ◌<◌, ◌+◌, inl, inr, ℕ, Some, List, [], ◌∷◌, length, map, refl, arith}
use Rattle.std.specs.Prelude.{codes, Ok}
use Rattle.coap_types.proofs.Facts.Bytes.{bytes_are}
use Rattle.coap_promise.specs.AgeRuns.{gaining, old_bytes, old_report, Oldest, OldestByTwo}
use Rattle.coap_promise.specs.Clocks.{AreClocks}
use Rattle.coap_record.specs.Events.{client_end, TickClient, Deliver}
use Rattle.coap_promise.specs.Fresh.{AreFresh}
use Rattle.coap_record.specs.LegalEvents.{event}
use Rattle.coap_promise.specs.LegalRuns.{config, from_client, from_server, plain, t, tag, puts, get, get_bytes}
use Rattle.coap_record.specs.Events.{Calls}
use Rattle.coap_record.specs.Record.{OfClient, OfServer, Turn}
use Rattle.coap_promise.proofs.Witness.ClockTests as clocks
use Rattle.coap_promise.proofs.Facts.Witness.Gets.{range}
use Rattle.coap_promise.proofs.Facts.Witness.Gets.Client as first
use Rattle.coap_promise.proofs.Witness.GrowsOld.Client as client
use Rattle.coap_promise.proofs.Witness.GrowsOld.Server as server
use Rattle.coap_promise.proofs.Facts.Witness.InWords.{config_range, t_is}
use Rattle.coap_promise.proofs.Witness.LastHeld.{none_young}
use Rattle.coap_promise.proofs.Witness.PacedClocks.{stepping, steady}
use Rattle.coap_promise.proofs.Facts.Witness.TimesOut.Client.{copies}
use Rattle.coap_promise.proofs.Facts.Witness.TurnTests.{InRanges, a_run}
use Rattle.coap_promise.proofs.Facts.Witness.TurnsMade.{a_turn, client_turn, server_turn, to_server, to_client, AllMade}
use Rattle.coap_promise.proofs.Facts.Witness.TurnsMade.{ticked}
use Rattle.coap_promise.proofs.Facts.Witness.TurnsMade.{call_taken, change_taken, to_the_client, to_the_server, ◌⨾◌}

-- until the answer comes
abbrev earlier : List Turn
earlier =
    a_turn (event 147000 (Deliver 2)) (map OfServer (server_turn (to_client old_bytes ∷ []) (server.replays ∷ []))) ∷
    a_turn (event 47000 TickClient) (map OfClient (client_turn [] (to_server get_bytes ∷ []) (copies 47000))) ∷
    a_turn (event 1 (puts (codes "new"))) (map OfServer (server_turn [] (server.second_set ∷ []))) ∷
    a_turn (event 0 (Deliver 0)) (map OfServer (server_turn (to_client old_bytes ∷ []) (server.serves ∷ []))) ∷
    a_turn (event 0 TickClient) (map OfClient (client_turn [] (to_server get_bytes ∷ []) first.ticked)) ∷
    a_turn (event 0 (Calls get)) (map OfClient (client_turn [] [] first.called)) ∷
    a_turn (event 0 (puts (codes "old"))) (map OfServer (server_turn [] (server.first_set ∷ []))) ∷
    []

abbrev turns : ℕ → List Turn
turns at =
    a_turn (event at (Deliver 3)) (map OfClient (client_turn (old_report ∷ []) [] (client.hears at ∷ []))) ∷ earlier

made : (at : ℕ) → AllMade (turns at)
made at =
    (let g = from_server 147000 client_end old_bytes in
    (g, inl (refl, refl), to_the_client at g (old_report ∷ []) [] refl _ _ _ _ _ _)) ⨾
    (let g = from_client 47000 get_bytes in
    (g, inl (refl, refl), to_the_server 147000 g (to_client old_bytes ∷ []) refl _ _ _ _)) ⨾
    ticked 47000 [] (to_server get_bytes ∷ []) _ (_, _, _, _, _, refl) ⨾
    change_taken 1 t (Some plain) (codes "new") server.second_set (_, _, refl) ⨾
    (let g = from_client 0 get_bytes in
    (g, inl (refl, refl), to_the_server 0 g (to_client old_bytes ∷ []) refl _ _ _ _)) ⨾
    ticked 0 [] (to_server get_bytes ∷ []) _ (_, _, _, _, _, refl) ⨾
    call_taken 0 get (Ok 0) ⨾
    change_taken 0 t (Some plain) (codes "old") server.first_set (_, _, refl) ⨾
    tt

ranges : (at : ℕ) → InRanges (turns at)
ranges at = (
  (t_is, omega arith, bytes_are (codes "new") refl),
  (range, ((t_is, omega arith, bytes_are (codes "old") refl), tt)),
)

-- by one clock

no_lower : (age : ℕ) → age < 247000 → AreFresh config (λ past turn. turn.event.at) age (turns 247000) → ⊥
no_lower age less fresh =
    none_young config t 0 (Some (tag 1)) (Some plain) (codes "old") (λ past turn. turn.event.at) 247000 247000 age less
    earlier refl ((fresh.bodies 0 (Some (tag 1)) (Some plain) (codes "old")).0 (inr (inr (inr (inl refl)))))

pub oldest : Oldest
oldest = record {
  run = a_run (turns 247000) refl refl (made 247000) client.lawful server.lawful config_range (ranges 247000) refl refl;
  reports = refl;
  no_lower = no_lower;
}

-- by two

abbrev moments : List ℕ
moments = 247000 ∷ 147000 ∷ 47000 ∷ 1 ∷ 0 ∷ 0 ∷ 0 ∷ 0 ∷ []

are_clocks : AreClocks gaining
are_clocks = record { near = stepping moments refl 0 5000 7; far = steady moments refl 0 5000 7 (omega arith) }

no_lower_by_two : (age : ℕ) → age < 252000
    → AreFresh config (λ past turn. gaining.client (length past)) age (turns 252000) → ⊥
no_lower_by_two age less fresh =
    none_young config t 0 (Some (tag 1)) (Some plain) (codes "old") (λ past turn. gaining.client (length past)) 252000
    252000 age less earlier refl
    ((fresh.bodies 0 (Some (tag 1)) (Some plain) (codes "old")).0 (inr (inr (inr (inl refl)))))

pub oldest_by_two : OldestByTwo
oldest_by_two = record {
  run = clocks.a_run gaining config (turns 252000) refl refl
      (made 252000) client.lawful_gaining server.lawful are_clocks
      config_range (clocks.all_legal gaining (turns 252000) (ranges 252000) refl) refl;
  reports = refl;
  no_lower = no_lower_by_two;
}
