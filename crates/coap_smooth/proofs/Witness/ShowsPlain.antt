-- A smooth run in which a path is observed whose notifications go in NONs (RFC 7641, section 4.5).
pub mod Client
pub mod Server
use Rattle.std.proofs.Common.{◌≡◌, ◌≤◌, inl, inr, Some, List, [], ◌∷◌, map, refl, arith}
use Rattle.std.proofs.lemmas.List.Elements.{All-nil}
use Rattle.std.specs.Prelude.{codes}
use Rattle.coap_types.proofs.Facts.Bytes.{bytes_are}
use Rattle.coap_types.specs.Path.{IsPath}
use Rattle.coap_server.specs.Trace.{Delay}
use Rattle.coap_smooth.specs.Current.{HoldsFor, WasShown}
use Rattle.coap_smooth.specs.CurrentRuns as runs
use Rattle.coap_record.specs.Events.{client_end, TickServer, Deliver}
use Rattle.coap_record.specs.Legal.{IsConfig}
use Rattle.coap_record.specs.LegalEvents.{event}
use Rattle.coap_promise.specs.LegalRuns.{from_server, plain, puts, t}
use Rattle.coap_smooth.specs.PlainRuns.{by_non, plain_bytes, second, ShowsPlain}
use Rattle.coap_record.specs.Record.{OfClient, OfServer, Turn, entries_of, client_of, server_of}
use Rattle.coap_smooth.specs.Smooth.{max_delay, Smooth, to_client as client_came, to_server as server_came}
use Rattle.coap_promise.specs.Words.{changes_in}
use Rattle.coap_promise.proofs.Facts.Witness.InWords.{config_range, of_one, t_is}
use Rattle.coap_promise.proofs.Facts.Witness.Observed.{turns_before, made_before, ranges}
use Rattle.coap_promise.proofs.Facts.Witness.Observed.Client.{value}
use Rattle.coap_promise.proofs.Facts.Witness.Observed.Server as first
use Rattle.coap_smooth.proofs.Witness.ObservedAlone.{alone_of, short_of, open_of, kept_of}
use Rattle.coap_smooth.proofs.Witness.ShowsPlain.Client as client
use Rattle.coap_smooth.proofs.Witness.ShowsPlain.Server as server
use Rattle.coap_smooth.proofs.Witness.SmoothTurns.{few_of}
use Rattle.coap_promise.proofs.Facts.Witness.TurnTests.{InRanges, a_run}
use Rattle.coap_smooth.proofs.Witness.SmoothTests.{all_smooth, no_stranger}
use Rattle.coap_promise.proofs.Facts.Witness.TurnsMade.{a_turn, client_turn, server_turn, to_client, AllMade}
use Rattle.coap_promise.proofs.Facts.Witness.TurnsMade.{client_rests}
use Rattle.coap_promise.proofs.Facts.Witness.TurnsMade.{server_idles, rested, idled, server_ticked, change_taken}
use Rattle.coap_promise.proofs.Facts.Witness.TurnsMade.{to_the_client, ◌⨾◌}

abbrev turns : List Turn
turns =
    server_idles 5003 ∷
    client_rests 5000 ∷
    server_idles 4003 ∷
    client_rests 4000 ∷
    server_idles 3003 ∷
    client_rests 3000 ∷
    server_idles 2003 ∷
    client_rests 2000 ∷
    a_turn (event 1003 (Deliver 2)) (map OfClient (client_turn (value 2 (codes "b") ∷ []) [] (client.notified ∷ []))) ∷
    server_idles 1003 ∷
    client_rests 1000 ∷
    a_turn (event 3 TickServer) (map OfServer (server_turn (to_client plain_bytes ∷ []) first.ticked)) ∷
    a_turn (event 3 (puts (codes "b"))) (map OfServer (server_turn [] first.second_set)) ∷
    turns_before

made : AllMade turns
made =
    idled 5003 0 0 ⨾
    rested 5000 ⨾
    idled 4003 0 0 ⨾
    rested 4000 ⨾
    idled 3003 0 0 ⨾
    rested 3000 ⨾
    idled 2003 0 0 ⨾
    rested 2000 ⨾
    (let g = from_server 3 client_end plain_bytes in
    (g, inl (refl, refl), to_the_client 1003 g (value 2 (codes "b") ∷ []) [] refl _ _ _ _ _ _)) ⨾
    idled 1003 0 0 ⨾
    rested 1000 ⨾
    server_ticked 3 0 (to_client plain_bytes ∷ []) _ (_, _, _, _, _, _, refl) ⨾
    change_taken 3 t (Some plain) (codes "b") _ (_, _, refl) ⨾
    made_before

in_range : InRanges turns
in_range = ((t_is, omega arith, bytes_are (codes "b") refl), ranges)

by_non_range : IsConfig by_non
by_non_range = record {
  addresses = config_range.addresses;
  client_setup = config_range.client_setup;
  client_szx = omega arith;
  client_limit = (omega arith, omega arith);
  server_setup = config_range.server_setup;
  server_szx = omega arith;
  some = omega arith;
  limit = config_range.limit;
  server_limit = config_range.server_limit;
  base = config_range.base;
  delays = config_range.delays;
  few = omega arith;
  plains = of_one IsPath t t_is;
  few_plains = omega arith;
}

smooth : Smooth by_non turns
smooth = record {
  goes = all_smooth by_non refl turns refl;
  few_to_client = few_of 0 client_came (client_of (entries_of turns)) (omega arith);
  few_to_server = few_of 0 server_came (server_of (entries_of turns)) (omega arith);
  delays = All-nil (λ (d : Delay). d.ms ≤ max_delay);
  versions = (let n : changes_in by_non (entries_of turns) ≡ 2 = refl in omega (arith, n));
}

-- since the change at 3 the path held this, and a value was reported by then

held_for : HoldsFor by_non t second 5003 turns
held_for = refl ⨾ inr (refl ⨾ inr (refl ⨾ inr (refl ⨾ inr (refl ⨾ inr (refl ⨾ inr (refl ⨾ inr (refl ⨾ inr
    (refl ⨾ inr (refl ⨾ inr (refl ⨾ inr (refl ⨾ inr ((refl, inl (omega arith))))))))))))))

was_shown : WasShown by_non 0 5003 turns
was_shown = inr (inr (inr (inr (inr (inr (inr (inr (inr (inr (inr (inr (inr (inl (
  omega arith,
  (
    runs.value 1
        (codes "a"),
    refl,
  ),
))))))))))))))

pub shown_plain : ShowsPlain
shown_plain = record {
  run = a_run turns refl refl made client.lawful server.lawful by_non_range in_range refl refl;
  smooth = record { smooth = smooth; told = inl (no_stranger turns refl) };
  alone = alone_of (client_of (entries_of turns)) refl;
  short = short_of by_non t (entries_of turns) refl;
  speaks = inl (record {
    moment = refl;
    holds = held_for;
    was_shown = was_shown;
    watches = record
        { kept = kept_of 0 (client_of (entries_of turns)) refl; still = open_of by_non 0 (entries_of turns) refl };
    shown = refl;
  });
}
