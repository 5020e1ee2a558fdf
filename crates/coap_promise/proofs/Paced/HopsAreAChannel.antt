-- The hops of a run that is legal by two clocks stand in the law of two layers, each with its clock, and the datagrams
-- between them.
use Rattle.std.proofs.Common.{◌≡◌, inl, inr, ◌≤◌, ℕ, suc, List, [], ◌∷◌, ◌++◌, refl, ap, sym, subst, arith}
use Rattle.std.proofs.Common.{length}
use Rattle.coap_types.specs.Past.{Ever, Always, all_of}
use Rattle.coap_types.proofs.Facts.Traces.{Ever_append}
use Rattle.coap_layer.specs.Channel.{RepliesSo}
use Rattle.coap_layer.specs.Paced.{IsFair, ChannelLaw}
use Rattle.coap_layer.specs.Rows.{LayerLaw}
use Rattle.coap_layer.specs.Words.{waiting}
use Rattle.coap_layer.specs.Machine.State.{start}
use Rattle.coap_layer.specs.Machine.Steps.{left_after, entries}
use Rattle.coap_exchange.specs.AnswererLaw as answerer
use Rattle.coap_client_laws.proofs.Facts.Laws as client_facts
use Rattle.coap_server_laws.proofs.Facts.Laws as server_facts
use Rattle.coap_promise.specs.Clocks.{Clocks, of_layers, AreClocks, IsLegal, Legal}
use Rattle.coap_promise.specs.Delivery as D
use Rattle.coap_record.specs.Events.{Config, Event}
use Rattle.coap_promise.specs.Hops.{SentIn, hops_of}
use Rattle.coap_record.specs.Record.{Given, Entry, client_of, server_trace, Turn, given_in, settings}
use Rattle.coap_record.specs.Record.{entries_of, RecordOf}
use Rattle.coap_promise.proofs.Facts.Delivery.ClientInTime as client
use Rattle.coap_promise.proofs.Facts.Delivery.ClientTurns as client_turns
use Rattle.coap_promise.proofs.Facts.Delivery.HopsAreEntries.{begins_silent, near_is, far_is}
use Rattle.coap_promise.proofs.Facts.Delivery.SentByTheLayer.{by_server, by_client, found_in, sent_still, begins_by}
use Rattle.coap_promise.proofs.Facts.Delivery.SentByTheLayer.{client_down}
use Rattle.coap_promise.proofs.Facts.Delivery.SentByTheLayer.{server_down}
use Rattle.coap_promise.proofs.Facts.Delivery.ServerInTime as server
use Rattle.coap_promise.proofs.Facts.Delivery.ServerTurns as server_turns
use Rattle.coap_promise.proofs.Paced.AfterATurn.{Still, Goes}
use Rattle.coap_promise.proofs.Paced.ClientTurns.{client_turn}
use Rattle.coap_promise.proofs.Paced.GivenOutBefore.{OfAnEnd, Made, comes_any, side, to_server, to_client}
use Rattle.coap_promise.proofs.Paced.ServerTurns.{server_turn}

module _ (c : Clocks) (config : Config) (two : config.addresses.client ≡ config.addresses.server
    → ⊥) (clocks : AreClocks c) where
  still_later : (n m : ℕ) (es : List Entry) → n ≤ m → Still c config n es → Still c config m es
  still_later n m es le still =
      let near = clocks.near.rises n m le in
      let far = clocks.far.rises n m le in
      let a = still.near_by in
      let b = still.far_by in
      record {
        client = client.later_by config (c.client n) (c.client m) (client_of es) near still.client;
        server = server.later_by config (c.server n) (c.server m) (server_trace config es) far still.server;
        client_none = still.client_none;
        server_none = still.server_none;
        near_by = omega (arith, near, a);
        far_by = omega (arith, far, b);
      }

  still_first : (n : ℕ) → Still c config n []
  still_first n =
      let none = begins_silent config (settings config) in
      record {
        client = record { own = omega arith; layer = omega arith };
        server = record {
          own = begins_by config (c.server n) (settings config);
          between = subst (λ l. (answerer.own_of l).clock ≤ c.server n) (sym none) (omega arith);
          layer = subst (λ l. (left_after (start config.server_setup) (answerer.lower_of l)).clock ≤ c.server n)
              (sym none)
              (omega arith);
        };
        client_none = refl;
        server_none = ap (λ l. waiting (entries (start config.server_setup) (answerer.lower_of l))) none;
        near_by = omega arith;
        far_by = omega arith;
      }

  pub record Ran (turns : List Turn) : Type 0 where
    pub still : (n : ℕ) → length turns ≤ suc n → Still c config n (entries_of turns)
    pub sent : (g : Given) → Ever (λ h. h ≡ g) (all_of (given_in config.addresses) turns)
        → SentIn config.addresses (hops_of config turns) g
    pub fair : Always (IsFair (of_layers c) config.addresses.client config.addresses.server) (hops_of config turns)

  ran_first : Ran []
  ran_first = record { still = λ n le. still_first n; sent = λ g h. absurd h; fair = tt }

  -- one turn more
  ran_next : (turn : Turn) (past : List Turn) → Ran past
      → Goes c config (length past) turn.event.at turn.entries (entries_of past) → Ran (turn ∷ past)
  ran_next turn past ran goes =
      record {
        still = λ n le. still_later (length past) n (turn.entries ++ entries_of past) (omega (arith, le))
            goes.leaves.still;
        sent = λ g h. elim (Ever_append (λ x. x ≡ g) (given_in config.addresses turn)
            (all_of (given_in config.addresses) past) h) [
              | inl now ↦ goes.leaves.sent g now
              | inr before ↦ sent_still config g turn.entries (entries_of past) (ran.sent g before)
            ];
        fair = goes.fair;
      }

  turn_goes : (turn : Turn) (past : List Turn) → Ran past
      → ((bytes : List ℕ) → Ever (D.FedToServer config.addresses.client bytes) turn.entries
      → Ever (D.GaveOut config.addresses.client config.addresses.server bytes (c.client (length past)))
      (all_of (given_in config.addresses) past))
      → ((bytes : List ℕ) → Ever (D.FedToClient config.addresses.server bytes) turn.entries
      → Ever (D.GaveOut config.addresses.server config.addresses.client bytes (c.server (length past)))
      (all_of (given_in config.addresses) past))
      → client_turns.IsGood config (client_of (turn.entries ++ entries_of past))
      → server_turns.IsGood config (server_trace config (turn.entries ++ entries_of past))
      → OfAnEnd c (length past) turn.event.at turn.entries
      → Goes c config (length past) turn.event.at turn.entries (entries_of past)
  turn_goes turn past ran to_server to_client good_client good_server (inl t) =
      client_turn c config (length past) turn.event.at turn.entries (entries_of past) t.0 t.1
      (ran.still (length past) (omega arith)) good_client
      (λ bytes h. let k = found_in _ (all_of (given_in config.addresses) past) (to_client bytes h) in by_server
      config.addresses two
      (hops_of config past) bytes (c.server (length past)) k.0 k.1 (ran.sent k.0 k.2)) ran.fair
  turn_goes turn past ran to_server to_client good_client good_server (inr t) =
      server_turn c config (length past) turn.event.at turn.entries (entries_of past) t.0 t.1
      (ran.still (length past) (omega arith)) good_server
      (λ bytes h. let k = found_in _ (all_of (given_in config.addresses) past) (to_server bytes h) in by_client
      config.addresses two
      (hops_of config past) bytes (c.client (length past)) k.0 k.1 (ran.sent k.0 k.2)) ran.fair

  pub ran : (turns : List Turn) → Made config.addresses turns → Always (IsLegal config.addresses c) turns
      → client_turns.IsGood config (client_of (entries_of turns))
      → server_turns.IsGood config (server_trace config (entries_of turns)) → Ran turns
  ran [] made legal good_client good_server = ran_first
  ran (turn ∷ past) made legal good_client good_server =
      let before = ran past made.1 legal.1 (client_down config turn.entries (entries_of past) good_client)
      (server_down config turn.entries (entries_of past) good_server) in
      ran_next turn past before
      (turn_goes turn past before
      (λ bytes h. to_server config two c clocks past made.1 legal.1 turn.event.at turn.event.word turn.refused
      turn.entries
      bytes turn.event.what made.0 legal.0.comes h)
      (λ bytes h. to_client config two c clocks past made.1 legal.1 turn.event.at turn.event.word turn.refused
      turn.entries
      bytes turn.event.what made.0 legal.0.comes h)
      good_client good_server
      (side config.addresses two c past turn.event.at turn.event.word turn.refused turn.entries turn.event.what made.0
      (comes_any config.addresses c past turn.event.at turn.event.what legal.0.comes)))

  -- by the event of each turn
  abbrev pub Stills : List Turn → Type 0
  Stills turns = Always (λ past turn. Still c config (length past) (turn.entries ++ entries_of past)) turns

  pub stills : (turns : List Turn) → Made config.addresses turns → Always (IsLegal config.addresses c) turns
      → client_turns.IsGood config (client_of (entries_of turns))
      → server_turns.IsGood config (server_trace config (entries_of turns)) → Stills turns
  stills [] made legal good_client good_server = tt
  stills (turn ∷ past) made legal good_client good_server = (
    (ran (turn ∷ past) made legal good_client good_server).still (length past) (omega arith),
    stills past made.1 legal.1 (client_down config turn.entries (entries_of past) good_client)
        (server_down config turn.entries (entries_of past) good_server),
  )

pub stills_by : (c : Clocks) (config : Config) (events : List Event) (turns : List Turn) → RecordOf config events turns
    → (legal : Legal c config turns) → Stills c config legal.range.addresses.two legal.clocks turns
stills_by c config events turns made legal =
    let below = made.client.exchanges in
    let under = made.server.exchanges in
    stills c config legal.range.addresses.two legal.clocks turns made.made legal.events (below.left, below.layer)
    (under.left, under.layer)

pub channel : (c : Clocks) (config : Config) (events : List Event) (turns : List Turn) → RecordOf config events turns
    → Legal c config turns
    → ChannelLaw (of_layers c) config.client_setup config.server_setup config.addresses.client config.addresses.server
    (hops_of config turns)
channel c config events turns made legal =
    let near = near_is config (entries_of turns) in
    let far = far_is config (entries_of turns) in
    let client = client_of (entries_of turns) in
    let server = server_trace config (entries_of turns) in
    let below = made.client.exchanges in
    let under = made.server.exchanges in
    record {
      pace = legal.clocks;
      near_law = subst (LayerLaw config.client_setup) (sym near)
          (client_facts.layer config.addresses.server config.client_sizes config.client_setup client made.client);
      far_law = subst (LayerLaw config.server_setup) (sym far)
          (server_facts.layer config.limits config.server_szx config.server_setup server made.server);
      near_replies = subst (Always RepliesSo) (sym near)
          (client_facts.replies config.addresses.server config.client_sizes config.client_setup client made.client);
      far_replies = subst (Always RepliesSo) (sym far)
          (server_facts.replies config.limits config.server_szx config.server_setup server made.server);
      fair = (ran c config legal.range.addresses.two legal.clocks turns made.made legal.events (below.left, below.layer)
          (under.left, under.layer)).fair;
    }
