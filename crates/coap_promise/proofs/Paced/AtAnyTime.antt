-- The hops of a run in which datagrams come at any time stand in the law of two layers between which they do.
use Rattle.std.proofs.Common.{◌≡◌, inl, inr, ◌≤◌, ℕ, Bool, false, List, [], ◌∷◌, ◌++◌, refl, ap, sym, subst, ◌∙◌}
use Rattle.std.proofs.Common.{arith, length}
use Rattle.coap_types.specs.Past.{Ever, Always, all_of}
use Rattle.coap_types.proofs.Facts.Traces.{Ever_append, Ever_map, Ever_of_Sometime}
use Rattle.coap_types.specs.declared.endpoint.Endpoint.{Endpoint}
use Rattle.coap_layer.specs.AtAnyTime.{WasOut, IsFair, FairLaw}
use Rattle.coap_layer.specs.Channel.{Hop, Near, Far, OnNear, OnFar, RepliesSo}
use Rattle.coap_layer.specs.Machine.State.{start}
use Rattle.coap_layer.specs.Machine.Steps.{left_after, entries}
use Rattle.coap_layer.specs.Rows.{LayerLaw}
use Rattle.coap_layer.specs.Words.{waiting}
use Rattle.coap_exchange.specs.AnswererLaw as answerer
use Rattle.coap_client_laws.proofs.Facts.Laws as client_facts
use Rattle.coap_server_laws.proofs.Facts.Laws as server_facts
use Rattle.coap_promise.specs.AtAnyTime.{Rise, MayCome, IsLegal, Legal}
use Rattle.coap_promise.specs.Clocks.{Clocks}
use Rattle.coap_promise.specs.Delivery.{FedToServer, FedToClient}
use Rattle.coap_record.specs.Events.{Config, Event, What, Cancels, Forgets, Sets}
use Rattle.coap_record.specs.Events.{Removes, TickClient, TickServer, Deliver, StrangerToClient, StrangerToServer}
use Rattle.coap_promise.specs.Hops.{SendsAt, SentIn, hops_of}
use Rattle.coap_record.specs.Record.{Given, Entry, Turn, client_of, server_trace, given_in, settings, entries_of}
use Rattle.coap_record.specs.Record.{RecordOf}
use Rattle.coap_record.specs.Record.{IsNumber, ClientTick, ServerTick, Makes}
use Rattle.coap_promise.proofs.Facts.Delivery.ClientInTime as client
use Rattle.coap_promise.proofs.Facts.Delivery.ClientTurns as client_turns
use Rattle.coap_promise.proofs.Facts.Delivery.GivenOutBefore.{one_call, tick_of, packet_is, server_call, client_call}
use Rattle.coap_promise.proofs.Facts.Delivery.GivenOutBefore.{arrives_so, same_bytes, same_source, never_there}
use Rattle.coap_promise.proofs.Facts.Delivery.GivenOutBefore.{never_here}
use Rattle.coap_promise.proofs.Facts.Delivery.HopsAreEntries.{begins_silent, near_is, far_is}
use Rattle.coap_promise.proofs.Facts.Delivery.SentByTheLayer.{found_in, sent_still, begins_by, client_down, server_down}
use Rattle.coap_promise.proofs.Facts.Delivery.ServerInTime as server
use Rattle.coap_promise.proofs.Facts.Delivery.ServerTurns as server_turns
use Rattle.coap_promise.proofs.Paced.AfterATurn.{Still, Leaves}
use Rattle.coap_promise.proofs.Paced.ClientTurns as of_client
use Rattle.coap_promise.proofs.Paced.GivenOutBefore.{OfAnEnd, Made, side}
use Rattle.coap_promise.proofs.Paced.ServerTurns as of_server
use Rattle.coap_record.specs.declared.addresses.Addresses.{Addresses}

-- what is fed was given out before

-- by this end, to that one
pub record GaveOut (from to : Endpoint) (bytes : List ℕ) (g : Given) : Type 0 where
  pub packet : g.packet ≡ record { to = to; bytes = bytes }
  pub by : g.from ≡ from

gave : (addresses : Addresses) (past : List Turn) (number : ℕ) (g : Given) → IsNumber addresses number g past
    → (from to : Endpoint) (bytes : List ℕ)
    → g.from ≡ from → g.packet.to ≡ to → g.packet.bytes ≡ bytes
    → Ever (GaveOut from to bytes) (all_of (given_in addresses) past)
gave addresses past number g is from to bytes f t b =
    Ever_map (λ h. h ≡ g) (GaveOut from to bytes)
    (λ h k. subst (GaveOut from to bytes) (sym k) (record { packet = packet_is g.packet to bytes t b; by = f }))
    (all_of (given_in addresses) past) (Ever_of_Sometime _ (λ h. h ≡ g) (λ before h k. inl k.0)
    (all_of (given_in addresses) past) is)

module _ (addresses : Addresses) (c : Clocks) (past : List Turn) (at word : ℕ) (refused : Bool) (entries : List Entry)
    (bytes : List ℕ) where
  to_server : (what : What) → Makes addresses past at word what refused entries → MayCome addresses c past at what
      → Ever (FedToServer addresses.client bytes) entries → Ever (GaveOut addresses.client addresses.server bytes)
      (all_of (given_in addresses) past)
  to_server (Sets path format body) m may h = let k =
      one_call _ _ refused m.0 m.1 (server_call addresses.client bytes m.0 entries m.2 h) in
      absurd (cc (arrives_so k.1.2 k.2))
  to_server (Removes path) m may h = let k =
      one_call _ _ false m.0 m.1.0 (server_call addresses.client bytes m.0 entries m.2 h) in
      absurd (cc (arrives_so k.1.2 k.2))
  to_server TickServer m may h = let k = tick_of (ServerTick at word) _ refused m.0 m.1
      (server_call addresses.client bytes m.0 entries m.2 h) in absurd (cc (arrives_so k.2.6 k.3))
  to_server (StrangerToServer from b) m may h =
      let k = one_call _ _ refused m.0 m.1 (server_call addresses.client bytes m.0 entries m.2 h) in
      let same : from ≡ addresses.client = same_source _ _ _ _ (arrives_so k.1.4 k.2) in
      absurd (may.0 same)
  to_server (Deliver number) m may h = elim m.2 [
    | inl d ↦ (let k = one_call _ _ refused d.1 d.2 (server_call addresses.client bytes d.1 entries d.3 h) in
        gave addresses past number m.0 m.1 addresses.client addresses.server bytes
        (same_source _ _ _ _ (arrives_so k.1.4 k.2)) d.0
        (same_bytes _ _ _ _ (arrives_so k.1.4 k.2)))
    | inr d ↦ absurd (never_there addresses.client bytes d.1 entries d.3 h)
  ]
  to_server _ m may h = absurd (never_there addresses.client bytes m.0 entries m.2 h)

  to_client : (what : What) → Makes addresses past at word what refused entries → MayCome addresses c past at what
      → Ever (FedToClient addresses.server bytes) entries → Ever (GaveOut addresses.server addresses.client bytes)
      (all_of (given_in addresses) past)
  to_client (Cancels number) m may h = let k =
      one_call _ _ false m.0 m.1.0 (client_call addresses.server bytes m.0 entries m.2 h) in absurd (cc (k.1.1, k.2.8))
  to_client (Forgets number) m may h = let k =
      one_call _ _ false m.0 m.1.0 (client_call addresses.server bytes m.0 entries m.2 h) in absurd (cc (k.1.2, k.2.8))
  to_client TickClient m may h = let k = tick_of (ClientTick at word) _ refused m.0 m.1
      (client_call addresses.server bytes m.0 entries m.2 h) in absurd (cc (k.2.5, k.3.8))
  to_client (StrangerToClient from b) m may h =
      let k = one_call _ _ refused m.0 m.1 (client_call addresses.server bytes m.0 entries m.2 h) in
      let same : from ≡ addresses.server = cc (k.1.6, k.2.8) in
      absurd (may.1 same)
  to_client (Sets path format body) m may h = absurd (never_here addresses.server bytes m.0 entries m.2 h)
  to_client (Removes path) m may h = absurd (never_here addresses.server bytes m.0 entries m.2 h)
  to_client TickServer m may h = absurd (never_here addresses.server bytes m.0 entries m.2 h)
  to_client (StrangerToServer from b) m may h = absurd (never_here addresses.server bytes m.0 entries m.2 h)
  to_client (Deliver number) m may h = elim m.2 [
    | inl d ↦ absurd (never_here addresses.server bytes d.1 entries d.3 h)
    | inr d ↦ (let k = one_call _ _ refused d.1 d.2 (client_call addresses.server bytes d.1 entries d.3 h) in
        gave addresses past number m.0 m.1 addresses.server addresses.client bytes (cc (k.1.6, k.2.8)) d.0
        (cc (k.1.6, k.2.8)))
  ]
  to_client _ m may h =
      let k = one_call _ _ refused m.0 m.1 (client_call addresses.server bytes m.0 entries m.2 h) in
      absurd (cc (k.1.1, k.2.8))

-- so its layer sent it

by_server : (addresses : Addresses) → (addresses.client ≡ addresses.server → ⊥)
    → (hs : List Hop) (bytes : List ℕ) (g : Given) → GaveOut addresses.server addresses.client bytes g
    → SentIn addresses hs g
    → Ever (OnFar (WasOut addresses.client bytes)) hs
by_server addresses two hs bytes g given (inl h) = absurd (two (sym h.0 ∙ given.by))
by_server addresses two hs bytes g given (inr h) = Ever_map (OnFar (SendsAt g.at g.packet))
    (OnFar (WasOut addresses.client bytes)) each hs h.1
  where
    each : (e : Hop) → OnFar (SendsAt g.at g.packet) e → OnFar (WasOut addresses.client bytes) e
    each (Near e) k = absurd k
    each (Far e) k = subst (λ p. Ever (λ q. q ≡ p) e.out) given.packet k.out

by_client : (addresses : Addresses) → (addresses.client ≡ addresses.server → ⊥)
    → (hs : List Hop) (bytes : List ℕ) (g : Given) → GaveOut addresses.client addresses.server bytes g
    → SentIn addresses hs g
    → Ever (OnNear (WasOut addresses.server bytes)) hs
by_client addresses two hs bytes g given (inr h) = absurd (two (sym given.by ∙ h.0))
by_client addresses two hs bytes g given (inl h) = Ever_map (OnNear (SendsAt g.at g.packet))
    (OnNear (WasOut addresses.server bytes)) each hs h.1
  where
    each : (e : Hop) → OnNear (SendsAt g.at g.packet) e → OnNear (WasOut addresses.server bytes) e
    each (Near e) k = subst (λ p. Ever (λ q. q ≡ p) e.out) given.packet k.out
    each (Far e) k = absurd k

module _ (c : Clocks) (config : Config) (two : config.addresses.client ≡ config.addresses.server → ⊥) (rise : Rise c)
  where
    still_later : (n m : ℕ) (es : List Entry) → n ≤ m → Still c config n es → Still c config m es
    still_later n m es le still =
        let near = rise.client n m le in
        let far = rise.server n m le in
        let a = still.near_by in
        let b = still.far_by in
        record {
          client = client.later_by config (c.client n) (c.client m) (client_of es) near still.client;
          server = server.later_by config (c.server n) (c.server m) (server_trace config es) far still.server;
          client_none = still.client_none;
          server_none = still.server_none;
          near_by = omega (arith, near, a);
          far_by = omega (arith, far, b);
        }

    still_first : (n : ℕ) → Still c config n []
    still_first n =
        let none = begins_silent config (settings config) in
        record {
          client = record { own = omega arith; layer = omega arith };
          server = record {
            own = begins_by config (c.server n) (settings config);
            between = subst (λ l. (answerer.own_of l).clock ≤ c.server n) (sym none) (omega arith);
            layer = subst (λ l. (left_after (start config.server_setup) (answerer.lower_of l)).clock ≤ c.server n)
                (sym none)
                (omega arith);
          };
          client_none = refl;
          server_none = ap (λ l. waiting (entries (start config.server_setup) (answerer.lower_of l))) none;
          near_by = omega arith;
          far_by = omega arith;
        }

    record Ran (turns : List Turn) : Type 0 where
      pub still : (n : ℕ) → length turns ≤ n → Still c config n (entries_of turns)
      pub sent : (g : Given) → Ever (λ h. h ≡ g) (all_of (given_in config.addresses) turns)
          → SentIn config.addresses (hops_of config turns) g
      pub fair : Always (IsFair config.addresses.client config.addresses.server) (hops_of config turns)

    ran_next : (turn : Turn) (past : List Turn) → Ran past
        → Leaves c config (length past) turn.event.at turn.entries (entries_of past)
        → Always (IsFair config.addresses.client config.addresses.server) (hops_of config (turn ∷ past))
        → Ran (turn ∷ past)
    ran_next turn past ran goes fair =
        record {
          still = λ n le. still_later (length past) n (turn.entries ++ entries_of past) (omega (arith, le)) goes.still;
          sent = λ g h. elim (Ever_append (λ x. x ≡ g) (given_in config.addresses turn)
              (all_of (given_in config.addresses) past) h) [
                | inl now ↦ goes.sent g now
                | inr before ↦ sent_still config g turn.entries (entries_of past) (ran.sent g before)
              ];
          fair = fair;
        }

    ran : (turns : List Turn) → Made config.addresses turns → Always (IsLegal config.addresses c) turns
        → client_turns.IsGood config (client_of (entries_of turns))
        → server_turns.IsGood config (server_trace config (entries_of turns)) → Ran turns
    ran [] made legal good_client good_server =
        record { still = λ n le. still_first n; sent = λ g h. absurd h; fair = tt }
    ran (turn ∷ past) made legal good_client good_server =
        by (ran past made.1 legal.1 (client_down config turn.entries (entries_of past) good_client)
        (server_down config turn.entries (entries_of past) good_server))
        (side config.addresses two c past turn.event.at turn.event.word turn.refused turn.entries turn.event.what made.0
        legal.0.comes)
      where
        by : Ran past → OfAnEnd c (length past) turn.event.at turn.entries → Ran (turn ∷ past)
        by before (inl t) =
            let k = of_client.any_turn c config (length past) turn.event.at turn.entries (entries_of past) t.0 t.1
            (before.still (length past) (omega arith)) good_client
            (λ bytes h. let k = found_in _ (all_of (given_in config.addresses) past)
            (to_client config.addresses c past turn.event.at turn.event.word turn.refused turn.entries bytes
            turn.event.what made.0
            legal.0.comes h) in by_server config.addresses two (hops_of config past) bytes k.0 k.1
            (before.sent k.0 k.2))
            before.fair in
            ran_next turn past before k.0 k.1
        by before (inr t) =
            let k = of_server.any_turn c config (length past) turn.event.at turn.entries (entries_of past) t.0 t.1
            (before.still (length past) (omega arith)) good_server
            (λ bytes h. let k = found_in _ (all_of (given_in config.addresses) past)
            (to_server config.addresses c past turn.event.at turn.event.word turn.refused turn.entries bytes
            turn.event.what made.0
            legal.0.comes h) in by_client config.addresses two (hops_of config past) bytes k.0 k.1
            (before.sent k.0 k.2))
            before.fair in
            ran_next turn past before k.0 k.1

pub fair : (c : Clocks) (config : Config) (events : List Event) (turns : List Turn) → RecordOf config events turns
    → Legal c config turns
    → FairLaw config.client_setup config.server_setup config.addresses.client config.addresses.server
    (hops_of config turns)
fair c config events turns made legal =
    let near = near_is config (entries_of turns) in
    let far = far_is config (entries_of turns) in
    let client = client_of (entries_of turns) in
    let server = server_trace config (entries_of turns) in
    let below = made.client.exchanges in
    let under = made.server.exchanges in
    record {
      near_law = subst (LayerLaw config.client_setup) (sym near)
          (client_facts.layer config.addresses.server config.client_sizes config.client_setup client made.client);
      far_law = subst (LayerLaw config.server_setup) (sym far)
          (server_facts.layer config.limits config.server_szx config.server_setup server made.server);
      near_replies = subst (Always RepliesSo) (sym near)
          (client_facts.replies config.addresses.server config.client_sizes config.client_setup client made.client);
      far_replies = subst (Always RepliesSo) (sym far)
          (server_facts.replies config.limits config.server_szx config.server_setup server made.server);
      fair = (ran c config legal.range.addresses.two legal.rise turns made.made legal.events (below.left, below.layer)
          (under.left, under.layer)).fair;
    }
