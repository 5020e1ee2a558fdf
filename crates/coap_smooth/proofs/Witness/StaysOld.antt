-- A run in which a notification is lost, so that an old value stays the last one (RFC 7641, section 4.5).
pub mod Client
pub mod Server
use Rattle.std.proofs.Common.{Some, inl, inr, List, [], ◌∷◌, map, refl, arith}
use Rattle.std.specs.Prelude.{codes}
use Rattle.coap_types.proofs.Facts.Bytes.{bytes_are}
use Rattle.coap_smooth.specs.Current.{CurrentAlone}
use Rattle.coap_smooth.specs.CurrentRuns.{StaysOld, value, watched}
use Rattle.coap_record.specs.Events.{TickServer}
use Rattle.coap_record.specs.LegalEvents.{event}
use Rattle.coap_promise.specs.LegalRuns.{config, puts, t, plain}
use Rattle.coap_promise.specs.ObservationRuns.{second_bytes}
use Rattle.coap_record.specs.Record.{OfServer, Turn, entries_of, client_of}
use Rattle.coap_promise.proofs.Facts.Witness.InWords.{config_range, t_is}
use Rattle.coap_smooth.proofs.Witness.ObservedAlone.{alone_of, short_of, kept_of, open_of}
use Rattle.coap_promise.proofs.Facts.Witness.TurnsMade.{a_turn, server_turn, to_client, AllMade, client_rests, rested}
use Rattle.coap_promise.proofs.Facts.Witness.TurnsMade.{server_ticked, change_taken, ◌⨾◌}
use Rattle.coap_promise.proofs.Facts.Witness.Observed.{turns_before, made_before, ranges}
use Rattle.coap_promise.proofs.Facts.Witness.Observed.Server.{held}
use Rattle.coap_promise.proofs.Facts.Witness.Observed.Server as first
use Rattle.coap_smooth.proofs.Witness.StaysOld.Client as client
use Rattle.coap_smooth.proofs.Witness.StaysOld.Server as server
use Rattle.coap_promise.proofs.Facts.Witness.TurnTests.{a_run}

abbrev turns : List Turn
turns =
    client_rests 5003 ∷
    a_turn (event 3 TickServer) (map OfServer (server_turn (to_client second_bytes ∷ []) first.ticked)) ∷
    a_turn (event 3 (puts (codes "b"))) (map OfServer (server_turn [] first.second_set)) ∷
    turns_before

made : AllMade turns
made =
    rested 5003 ⨾
    server_ticked 3 0 (to_client second_bytes ∷ []) _ (_, _, _, _, _, _, refl) ⨾
    change_taken 3 t (Some plain) (codes "b") _ (_, _, refl) ⨾
    made_before

stale : CurrentAlone config turns → ⊥
stale promised = absurd (cc ((promised watched (alone_of (client_of (entries_of turns)) refl)
    (short_of config t (entries_of turns) refl) (omega arith)).0 (held 2 (codes "b")) (
      refl,
      inr (
        refl,
        inl (omega arith),
      ),
    )
    (inr (inl (omega arith, (value 1 (codes "a"), refl))))
    (record {
      kept = kept_of 0 (client_of (entries_of turns)) refl;
      still = open_of config 0 (entries_of turns) refl;
    })))

pub stays_old : StaysOld
stays_old = record {
  run = a_run turns refl refl made client.lawful server.lawful config_range
      ((t_is, omega arith, bytes_are (codes "b") refl), ranges) refl refl;
  alone = alone_of (client_of (entries_of turns)) refl;
  reports = refl;
  holds = refl;
  stale = stale;
}
