-- A smooth run in which a value comes 4,000 ms after the change that it shows (RFC 7641, section 4.5).
pub mod Client
pub mod Server
use Rattle.std.proofs.Common.{Some, ◌≡◌, ◌≤◌, inl, inr, List, [], ◌∷◌, map, refl, arith}
use Rattle.std.proofs.lemmas.List.Elements.{All-nil}
use Rattle.std.specs.Prelude.{codes}
use Rattle.coap_server.specs.Trace.{Delay}
use Rattle.coap_smooth.specs.Current.{HoldsFor, WasShown}
use Rattle.coap_smooth.specs.CurrentRuns as runs
use Rattle.coap_smooth.specs.CurrentRuns.{ShowsLate, third, third_bytes, second_ack}
use Rattle.coap_record.specs.Events.{Deliver, TickServer, client_end}
use Rattle.coap_record.specs.LegalEvents.{event, at_with}
use Rattle.coap_promise.specs.LegalRuns.{config, t, puts, from_client, from_server, empty_ack, plain}
use Rattle.coap_record.specs.Record.{OfClient, OfServer, Turn, entries_of, client_of, server_of}
use Rattle.coap_smooth.specs.Smooth.{max_delay, Smooth, to_client as client_came, to_server as server_came}
use Rattle.coap_promise.specs.Words.{changes_in}
use Rattle.coap_promise.proofs.Facts.Witness.InWords.{config_range, t_is}
use Rattle.coap_smooth.proofs.Witness.ObservedAlone.{alone_of, short_of, open_of, kept_of}
use Rattle.coap_smooth.proofs.Witness.SmoothTurns.{few_of}
use Rattle.coap_promise.proofs.Facts.Witness.TurnsMade.{idles, a_turn, client_turn, server_turn, to_server, to_client}
use Rattle.coap_promise.proofs.Facts.Witness.TurnsMade.{AllMade}
use Rattle.coap_promise.proofs.Facts.Witness.TurnsMade.{client_rests, server_idles, rested, idled, server_ticked}
use Rattle.coap_promise.proofs.Facts.Witness.TurnsMade.{change_taken, to_the_client}
use Rattle.coap_promise.proofs.Facts.Witness.TurnsMade.{to_the_server, ◌⨾◌}
use Rattle.coap_promise.proofs.Facts.Witness.Observed.{turns_before, made_before, ranges}
use Rattle.coap_promise.proofs.Facts.Witness.Observed.Server as first
use Rattle.coap_smooth.proofs.Witness.ShowsLate.Client as client
use Rattle.coap_smooth.proofs.Witness.ShowsLate.Server as server
use Rattle.coap_types.proofs.Facts.Bytes.{bytes_are}
use Rattle.coap_promise.specs.ObservationRuns.{second_bytes}
use Rattle.coap_promise.proofs.Facts.Witness.Observed.Client.{value}
use Rattle.coap_promise.proofs.Facts.Witness.TurnTests.{InRanges, a_run}
use Rattle.coap_smooth.proofs.Witness.SmoothTests.{all_smooth, no_stranger}

abbrev turns : List Turn
turns =
    server_idles 5003 ∷
    a_turn (event 5003 (Deliver 5)) (map OfServer (server_turn [] server.last_acked)) ∷
    client_rests 5000 ∷
    a_turn (event 4003 (Deliver 4))
    (map OfClient (client_turn (value 3 (codes "c") ∷ []) (to_server second_ack ∷ []) client.third)) ∷
    a_turn (event 4003 TickServer) (map OfServer (server_turn [] (idles 4003 0 0 ∷ []))) ∷
    client_rests 4002 ∷
    client_rests 4000 ∷
    a_turn (event 3003 TickServer) (map OfServer (server_turn (to_client third_bytes ∷ []) server.tells_third)) ∷
    client_rests 3000 ∷
    a_turn (event 2003 (Deliver 3)) (map OfServer (server_turn [] server.acked)) ∷
    a_turn (event 2003 TickServer) (map OfServer (server_turn [] (idles 2003 0 1 ∷ []))) ∷
    client_rests 2000 ∷
    a_turn (event 1003 (Deliver 2))
    (map OfClient (client_turn (value 2 (codes "b") ∷ []) (to_server empty_ack ∷ []) client.second)) ∷
    a_turn (event 1003 TickServer) (map OfServer (server_turn [] (idles 1003 0 1 ∷ []))) ∷
    client_rests 1000 ∷
    a_turn (event 3 (puts (codes "c"))) (map OfServer (server_turn [] server.third_set)) ∷
    a_turn (at_with 3 1 TickServer) (map OfServer (server_turn (to_client second_bytes ∷ []) server.tells_second)) ∷
    a_turn (event 3 (puts (codes "b"))) (map OfServer (server_turn [] first.second_set)) ∷
    turns_before

made : AllMade turns
made =
    idled 5003 0 0 ⨾
    (let g = from_client 4003 second_ack in
    (g, inl (refl, refl), to_the_server 5003 g [] refl _ _ _ _)) ⨾
    rested 5000 ⨾
    (let g = from_server 3003 client_end third_bytes in
    (g, inl (refl, refl), to_the_client 4003 g (value 3 (codes "c") ∷ []) (to_server second_ack ∷ []) refl _ _ _ _ _ _))
    ⨾
    idled 4003 0 0 ⨾
    rested 4002 ⨾
    rested 4000 ⨾
    server_ticked 3003 0 (to_client third_bytes ∷ []) _ (_, _, _, _, _, _, refl) ⨾
    rested 3000 ⨾
    (let g = from_client 1003 empty_ack in
    (g, inl (refl, refl), to_the_server 2003 g [] refl _ _ _ _)) ⨾
    idled 2003 0 1 ⨾
    rested 2000 ⨾
    (let g = from_server 3 client_end second_bytes in
    (g, inl (refl, refl), to_the_client 1003 g (value 2 (codes "b") ∷ []) (to_server empty_ack ∷ []) refl _ _ _ _ _ _))
    ⨾
    idled 1003 0 1 ⨾
    rested 1000 ⨾
    change_taken 3 t (Some plain) (codes "c") _ (_, _, refl) ⨾
    server_ticked 3 1 (to_client second_bytes ∷ []) _ (_, _, _, _, _, _, refl) ⨾
    change_taken 3 t (Some plain) (codes "b") _ (_, _, refl) ⨾
    made_before

in_range : InRanges turns
in_range = ((t_is, omega arith, bytes_are (codes "c") refl), ((t_is, omega arith, bytes_are (codes "b") refl), ranges))

smooth : Smooth config turns
smooth = record {
  goes = all_smooth config refl turns refl;
  few_to_client = few_of 0 client_came (client_of (entries_of turns)) (omega arith);
  few_to_server = few_of 0 server_came (server_of (entries_of turns)) (omega arith);
  delays = All-nil (λ (d : Delay). d.ms ≤ max_delay);
  versions = (let n : changes_in config (entries_of turns) ≡ 3 = refl in omega (arith, n));
}

-- since the change at 3 the path held this, and a value was reported by then
held_for : HoldsFor config t third 5003 turns
held_for =
    refl ⨾ inr (refl ⨾ inr (refl ⨾ inr (refl ⨾ inr (refl ⨾ inr
    (refl ⨾ inr (refl ⨾ inr (refl ⨾ inr (refl ⨾ inr (refl ⨾ inr
    (refl ⨾ inr (refl ⨾ inr (refl ⨾ inr (refl ⨾ inr (refl ⨾ inr ((refl, inl (omega arith)))))))))))))))))

was_shown : WasShown config 0 5003 turns
was_shown =
    inr (inr (inr (inr (inr (inr (inr (inr (inr (inr (inr (inr
    (inr (inr (inr (inl (omega arith, (runs.value 1 (codes "a"), refl)))))))))))))))))

pub shows_late : ShowsLate
shows_late = record {
  run = a_run turns refl refl made client.lawful server.lawful config_range in_range refl refl;
  smooth = record { smooth = smooth; told = inl (no_stranger turns refl) };
  alone = alone_of (client_of (entries_of turns)) refl;
  old = inr (inr (inr (inr (inr (inl (record { moment = refl; held = refl; shown = refl }))))));
  new = inr (inr (inr (inl (record { moment = refl; held = refl; shown = refl }))));
  short = short_of config t (entries_of turns) refl;
  speaks = inl (record {
    moment = refl;
    holds = held_for;
    was_shown = was_shown;
    watches = record
        { kept = kept_of 0 (client_of (entries_of turns)) refl; still = open_of config 0 (entries_of turns) refl };
  });
  then = inl (record { moment = refl; held = refl; shown = refl });
}
