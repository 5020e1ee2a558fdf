-- A record that goes on smoothly does so from its beginning, and each of its turns begins and ends with nothing left to
-- be taken.
use Rattle.std.proofs.Common.{◌⊎◌, ◌≤◌, List, [], ◌∷◌, ◌++◌, map, refl, arith}
use Rattle.coap_types.specs.Past.{Always}
use Rattle.coap_client.specs.Law.{ClientLaw}
use Rattle.coap_client_laws.proofs.Facts.Laws as client_facts
use Rattle.coap_server.specs.Law.{ServerLaw}
use Rattle.coap_server_laws.proofs.Facts.Laws as server_facts
use Rattle.coap_record.specs.Events.{Config, Event}
use Rattle.coap_record.specs.Legal.{IsConfig, Legal, AllLegal}
use Rattle.coap_record.specs.Record.{Entry, OfClient, OfServer, Turn, RecordOf, Makes, entries_of, client_of}
use Rattle.coap_record.specs.Record.{server_trace}
use Rattle.coap_smooth.specs.Smooth.{GoesSmoothly, Smooth}
use Rattle.coap_promise.proofs.Facts.Delivery.HopsAreAChannel as joined
use Rattle.coap_promise.proofs.Facts.Delivery.HopsAreAChannel.{Ran}
use Rattle.coap_promise.proofs.Facts.Delivery.OneEndATurn.{ClientTurn, ServerTurn, side}
use Rattle.coap_smooth.proofs.Smoothly.Arriving.SentIsGivenOut.{Turned}
use Rattle.coap_record.specs.declared.addresses.Addresses.{Addresses}

abbrev pub AllMade : Addresses → List Turn → Type 0
AllMade addresses turns = Always (λ past t. Makes addresses past t.event.at t.event.word t.event.what t.refused
    t.entries) turns

module _ (config : Config) where
  abbrev pub ForClient : List Entry → Type 0
  ForClient t = ClientLaw config.addresses.server config.client_sizes config.client_setup (client_of t)

  abbrev pub ForServer : List Entry → Type 0
  ForServer t = ServerLaw config.limits config.server_szx config.server_setup (server_trace config t)

  pub client_behind : (later past : List Entry) → ForClient (later ++ past) → ForClient past
  client_behind [] past law = law
  client_behind (OfClient c ∷ later) past law = client_behind later past
      (client_facts.back config.addresses.server config.client_sizes config.client_setup (c ∷ [])
      (client_of (later ++ past)) law)
  client_behind (OfServer c ∷ later) past law = client_behind later past law

  pub server_behind : (later past : List Entry) → ForServer (later ++ past) → ForServer past
  server_behind [] past law = law
  server_behind (OfClient c ∷ later) past law = server_behind later past law
  server_behind (OfServer c ∷ later) past law = server_behind later past
      (server_facts.back config.limits config.server_szx config.server_setup (c ∷ [])
      (server_trace config (later ++ past)) law)

  pub record Stands (turns : List Turn) : Type 0 where
    pub range : IsConfig config
    pub made : AllMade config.addresses turns
    pub legal : AllLegal config.addresses turns
    pub client : ForClient (entries_of turns)
    pub server : ForServer (entries_of turns)
    pub goes : Always (GoesSmoothly config) turns

  pub stands : (events : List Event) (turns : List Turn) → RecordOf config events turns → Legal config turns
      → Smooth config turns → Stands turns
  stands events turns run legal smooth =
      record {
        range = legal.range;
        made = run.made;
        legal = legal.events;
        client = run.client;
        server = run.server;
        goes = smooth.goes;
      }

  pub before : (turn : Turn) (past : List Turn) → Stands (turn ∷ past) → Stands past
  before turn past s =
      record {
        range = s.range;
        made = s.made.1;
        legal = s.legal.1;
        client = client_behind turn.entries (entries_of past) s.client;
        server = server_behind turn.entries (entries_of past) s.server;
        goes = s.goes.1;
      }

  pub record_of : (turns : List Turn) → Stands turns → RecordOf config (map (λ (t : Turn). t.event) turns) turns
  record_of turns s = record { events_are = refl; made = s.made; client = s.client; server = s.server }

  pub legal_of : (turns : List Turn) → Stands turns → Legal config turns
  legal_of turns s = record { range = s.range; events = s.legal }

  pub ran : (turns : List Turn) → Stands turns → Ran config turns
  ran turns s = joined.run config (map (λ (t : Turn). t.event) turns) turns (record_of turns s) (legal_of turns s)

  pub turned : (turn : Turn) (past : List Turn) → Stands (turn ∷ past)
      → Turned config turn.event.at turn.entries (entries_of past)
  turned turn past s =
      let old = ran past (before turn past s) in
      let new = ran (turn ∷ past) s in
      let same : turn.event.at ≤ turn.event.at = omega arith in
      let after = new.still turn.event.at same in
      record {
        still = old.still turn.event.at s.legal.0.later;
        good_client = (s.client.exchanges.left, s.client.exchanges.layer);
        good_server = (s.server.exchanges.left, s.server.exchanges.layer);
        none_client = after.client_none;
        none_server = after.server_none;
      }

  pub side_of : (turn : Turn) (past : List Turn) → Stands (turn ∷ past)
      → ClientTurn turn.event.at turn.entries ⊎ ServerTurn turn.event.at turn.entries
  side_of turn past s = side config.addresses past turn.event.at turn.event.word turn.refused turn.entries
      turn.event.what s.made.0
