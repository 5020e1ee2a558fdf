-- A record of a legal run is one from its beginning, and each of its turns begins and ends with nothing left to be
-- taken.
use Rattle.std.proofs.Common.{◌⊎◌, ◌≤◌, List, ◌∷◌, map, refl, arith}
use Rattle.coap_record.specs.Events.{Config, Event}
use Rattle.coap_record.specs.Legal.{IsConfig, Legal, AllLegal}
use Rattle.coap_record.specs.Record.{Turn, RecordOf, entries_of}
use Rattle.coap_promise.proofs.Facts.Delivery.HopsAreAChannel as joined
use Rattle.coap_promise.proofs.Facts.Delivery.HopsAreAChannel.{Ran}
use Rattle.coap_promise.proofs.Facts.Delivery.OneEndATurn.{ClientTurn, ServerTurn, side}
use Rattle.coap_smooth.proofs.Smoothly.Arriving.SentIsGivenOut.{Turned}
pub use Rattle.coap_smooth.proofs.Smoothly.Ticks.NothingIsLeft.{AllMade, ForClient, ForServer, client_behind}
pub use Rattle.coap_smooth.proofs.Smoothly.Ticks.NothingIsLeft.{server_behind}

module _ (config : Config) where
  pub record Stands (turns : List Turn) : Type 0 where
    pub range : IsConfig config
    pub made : AllMade config.addresses turns
    pub legal : AllLegal config.addresses turns
    pub client : ForClient config (entries_of turns)
    pub server : ForServer config (entries_of turns)

  pub stands : (events : List Event) (turns : List Turn) → RecordOf config events turns → Legal config turns
      → Stands turns
  stands events turns run legal =
      record {
        range = legal.range;
        made = run.made;
        legal = legal.events;
        client = run.client;
        server = run.server;
      }

  pub before : (turn : Turn) (past : List Turn) → Stands (turn ∷ past) → Stands past
  before turn past s =
      record {
        range = s.range;
        made = s.made.1;
        legal = s.legal.1;
        client = client_behind config turn.entries (entries_of past) s.client;
        server = server_behind config turn.entries (entries_of past) s.server;
      }

  pub record_of : (turns : List Turn) → Stands turns → RecordOf config (map (λ (t : Turn). t.event) turns) turns
  record_of turns s = record { events_are = refl; made = s.made; client = s.client; server = s.server }

  pub legal_of : (turns : List Turn) → Stands turns → Legal config turns
  legal_of turns s = record { range = s.range; events = s.legal }

  pub ran : (turns : List Turn) → Stands turns → Ran config turns
  ran turns s = joined.run config (map (λ (t : Turn). t.event) turns) turns (record_of turns s) (legal_of turns s)

  pub turned : (turn : Turn) (past : List Turn) → Stands (turn ∷ past)
      → Turned config turn.event.at turn.entries (entries_of past)
  turned turn past s =
      let old = ran past (before turn past s) in
      let new = ran (turn ∷ past) s in
      let same : turn.event.at ≤ turn.event.at = omega arith in
      let after = new.still turn.event.at same in
      record {
        still = old.still turn.event.at s.legal.0.later;
        good_client = (s.client.exchanges.left, s.client.exchanges.layer);
        good_server = (s.server.exchanges.left, s.server.exchanges.layer);
        none_client = after.client_none;
        none_server = after.server_none;
      }

  pub side_of : (turn : Turn) (past : List Turn) → Stands (turn ∷ past)
      → ClientTurn turn.event.at turn.entries ⊎ ServerTurn turn.event.at turn.entries
  side_of turn past s = side config.addresses past turn.event.at turn.event.word turn.refused turn.entries
      turn.event.what s.made.0
