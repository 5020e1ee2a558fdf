-- The calls of a legal record are a legal run: what is given out was made, and each call is handed what its turn is.
use Rattle.std.proofs.Common.{◌≡◌, ◌≢◌, ◌⊎◌, ⊎_elim, inl, inr, ◌≤◌, ◌<◌, ℕ, ◌+◌, ◌^◌, Bool, false, Some, None, List, []}
use Rattle.std.proofs.Common.{◌∷◌, ◌++◌}
use Rattle.std.proofs.Common.{length, length-append, map, refl, ap, sym, ◌∙◌, subst, arith}
use Rattle.coap_types.specs.Past.{Always, Ever, all_of}
use Rattle.coap_types.proofs.Facts.Traces.{Ever_back, Ever_map, Ever_of_Sometime}
use Rattle.coap_types.specs.declared.endpoint.Endpoint.{Endpoint}
use Rattle.coap_layer.specs.Trace.{Packet}
use Rattle.coap_client.specs.Trace as C
use Rattle.coap_server.specs.Trace as S
use Rattle.coap_promise.specs.Clocks.{Clocks, IsLegal, Legal, MayCome, Shows}
use Rattle.coap_promise.specs.Hops.{SentIn, hops_in}
use Rattle.coap_promise.proofs.Facts.Delivery.ClientTurns as client_turns
use Rattle.coap_promise.proofs.Facts.Delivery.EntriesInTime.{Every}
use Rattle.coap_promise.proofs.Facts.Delivery.End.{every_front}
use Rattle.coap_promise.proofs.Facts.Delivery.GivenOutBefore.{number_unique, packet_is}
use Rattle.coap_promise.proofs.Facts.Delivery.OneEndATurn.{each_one, each_tick}
use Rattle.coap_promise.proofs.Facts.Delivery.SentByTheLayer.{client_down, server_down}
use Rattle.coap_promise.proofs.Facts.Delivery.ServerTurns as server_turns
use Rattle.coap_promise.proofs.Paced.HopsAreAChannel as joined
use Rattle.coap_record.specs.Events.{Calls, Cancels, Config, Deliver, Event, Forgets, Observes, Removes, Sets}
use Rattle.coap_record.specs.Events.{StrangerToClient, StrangerToServer, TickClient, TickServer, What}
use Rattle.coap_record.specs.Legal.{InRange, max_delivery}
use Rattle.coap_record.specs.Record.{ClientTick, Entry, Given, IsNumber, IsOne, Makes, OfClient, OfServer, OnClient}
use Rattle.coap_record.specs.Record.{OnServer, RecordOf, ServerTick, Turn, client_of, entries_of, given_in}
use Rattle.coap_record.specs.Record.{server_trace}
use Rattle.coap_order.specs.Calls.{ClientMay, ServerMay}
use Rattle.coap_order.specs.OfRecords.{IsRun, at_calls, turn_at}
use Rattle.coap_order.specs.Run.{LegalRun, MayFeed, MayMake, RunOf, WasMade, made, made_by}
use Rattle.coap_order.proofs.Channel.{they_rise}
use Rattle.coap_order.proofs.Lawful.{all_go, made_same, places}
use Rattle.coap_order.proofs.TurnOfCall.{Same, paced_at, same_before, stands}
use Rattle.coap_order.proofs.SentIsMade.{unsent}

-- what a call may be handed at one moment it may be handed at the same, where what may come there may come here

module _ (at there : ℕ) (same : at ≡ there) (Come There : Endpoint → List ℕ → Type 0)
    (to : (from : Endpoint) (bytes : List ℕ) → Come from bytes → There from bytes) where
  client_may : (call : C.Call) → ClientMay at Come call → ClientMay there There call
  client_may (C.Calls now r answer) h = (sym same ∙ h.0, h.1)
  client_may (C.Observes now path answer) h = (sym same ∙ h.0, h.1)
  client_may (C.Cancels now number answer) h = (sym same ∙ h.0, h.1)
  client_may (C.Forgets number kept answer) h = h
  client_may (C.Feeds now from bytes word up settled event sent token kept) h = (sym same ∙ h.0, h.1, to from bytes h.2)
  client_may (C.Ticks now word below turn sent token kept answer) h = (sym same ∙ h.0, h.1)
  client_may (C.NextOut answer) h = tt
  client_may (C.NextReport answer) h = tt
  client_may (C.Asked answer) h = tt

  server_may : (call : S.Call) → ServerMay at Come call → ServerMay there There call
  server_may (S.Sets now path format body answer left) h = (sym same ∙ h.0, h.1, h.2, h.3)
  server_may (S.Removes now path answer left) h = (sym same ∙ h.0, h.1)
  server_may (S.Feeds now from bytes word up came w below) h = (sym same ∙ h.0, h.1, to from bytes h.2)
  server_may (S.Ticks now word below room due passed w id answer) h = (sym same ∙ h.0, h.1)
  server_may (S.NextOut answer) h = tt
  server_may (S.Gets path answer) h = tt
  server_may (S.TellsApplied answer) h = tt
  server_may (S.Delays path ms answer) h = absurd h
  server_may (S.Plains path answer) h = absurd h
  server_may (S.Refuses now from bytes word code up came response below) h = absurd h
  server_may (S.Forgets peer) h = absurd h

module _ (config : Config) (c : Clocks) (whole : List Turn) where
  abbrev d : Clocks
  d = at_calls c whole

  -- what was made before the turn, and may come in it
  pub record CanCome (past : List Turn) (from to : Endpoint) (bytes : List ℕ) (g : Given) : Type 0 where
    pub by : g.from ≡ from
    pub packet : g.packet ≡ record { to = to; bytes = bytes }
    pub now : ℕ
    pub shown : Shows config.addresses c (length past) from now
    pub young : now ≤ g.at + max_delivery

  abbrev Comes : List Turn → Endpoint → Endpoint → List ℕ → Type 0
  Comes past to from bytes = Ever (CanCome past from to bytes) (made config d (entries_of past))
      ⊎ ((from ≢ config.addresses.client) × (from ≢ config.addresses.server))

  abbrev GivenOut : List Turn → Type 0
  GivenOut past = (g : Given) → Ever (λ h. h ≡ g) (all_of (given_in config.addresses) past)
      → Ever (λ h. h ≡ g) (made config d (entries_of past))

  -- what a turn's event hands its end
  module _ (past : List Turn) (t word : ℕ) (refused : Bool) (entries : List Entry) (word_in : word < 2 ^ 64)
      (gave : GivenOut past) where
    abbrev ClientCan : C.Call → Type 0
    ClientCan call = ClientMay (c.client (length past)) (Comes past config.addresses.client) call

    abbrev ServerCan : S.Call → Type 0
    ServerCan call = ServerMay (c.server (length past)) (Comes past config.addresses.server) call

    pub record ClientTakes : Type 0 where
      pub calls : List C.Call
      pub is : entries ≡ map OfClient calls
      pub may : Every ClientCan calls
      pub shown : c.client (length past) ≡ t

    pub record ServerTakes : Type 0 where
      pub calls : List S.Call
      pub is : entries ≡ map OfServer calls
      pub may : Every ServerCan calls
      pub shown : c.server (length past) ≡ t

    client_takes : (calls : List C.Call) → OnClient calls entries → c.client (length past) ≡ t → Every ClientCan calls
        → ClientTakes
    client_takes calls on shown may = record {
      calls = client_turns.turn_calls on.outs on.reports calls;
      is = on.is;
      may = (
        tt,
        every_front ClientCan (λ (r : C.Reported). C.NextReport (Some r)) (λ r. tt) on.reports
            (C.NextOut None ∷ (map (λ p. C.NextOut (Some p)) on.outs ++ calls))
            (tt, every_front ClientCan (λ (p : Packet). C.NextOut (Some p)) (λ p. tt) on.outs calls may),
      );
      shown = shown;
    }

    server_takes : (calls : List S.Call) → OnServer calls entries → c.server (length past) ≡ t → Every ServerCan calls
        → ServerTakes
    server_takes calls on shown may = record {
      calls = server_turns.turn_calls on.outs calls;
      is = on.is;
      may = (tt, every_front ServerCan (λ (p : Packet). S.NextOut (Some p)) (λ p. tt) on.outs calls may);
      shown = shown;
    }

    -- what was given out before may come
    can_come : (number : ℕ) (g : Given) (to : Endpoint) → IsNumber config.addresses number g past → g.packet.to ≡ to
        → (now : ℕ) → Shows config.addresses c (length past) g.from now → now ≤ g.at + max_delivery
        → Comes past to g.from g.packet.bytes
    can_come number g to is at_is now shown young = inl (Ever_map (λ h. h ≡ g) (CanCome past g.from to g.packet.bytes)
        (λ h e. subst (CanCome past g.from to g.packet.bytes) (sym e) (record {
          by = refl;
          packet = packet_is g.packet to g.packet.bytes at_is refl;
          now = now;
          shown = shown;
          young = young;
        })) (made config d (entries_of past))
        (gave g (Ever_of_Sometime _ (λ h. h ≡ g) (λ before h k. inl k.0) (all_of (given_in config.addresses) past) is)))

    shown_client : (two : config.addresses.client ≡ config.addresses.server → ⊥) (to : Endpoint)
        → to ≡ config.addresses.client → Shows config.addresses c (length past) to t → c.client (length past) ≡ t
    shown_client two to is (inl h) = h.1
    shown_client two to is (inr h) = absurd (two (sym is ∙ h.0))

    shown_server : (two : config.addresses.client ≡ config.addresses.server → ⊥) (to : Endpoint)
        → to ≡ config.addresses.server → Shows config.addresses c (length past) to t → c.server (length past) ≡ t
    shown_server two to is (inl h) = absurd (two (sym h.0 ∙ is))
    shown_server two to is (inr h) = h.1

    pub takes : (two : config.addresses.client ≡ config.addresses.server → ⊥) (what : What)
        → Makes config.addresses past t word what refused entries → InRange what
        → MayCome config.addresses c past t what
        → ClientTakes ⊎ ServerTakes
    takes two (Calls r) m range h = inl (client_takes m.0 m.2 h
        (each_one _ ClientCan (λ call k. subst ClientCan (sym k.1) (h, range)) refused m.0 m.1))
    takes two (Observes path) m range h = inl (client_takes m.0 m.2 h
        (each_one _ ClientCan (λ call k. subst ClientCan (sym k.1) (h, range)) refused m.0 m.1))
    takes two (Cancels number) m range h = inl (client_takes m.0 m.2 h
        (each_one _ ClientCan (λ call k. subst ClientCan (sym k.1) (h, range)) false m.0 m.1.0))
    takes two (Forgets number) m range h = inl (client_takes m.0 m.2 h
        (each_one _ ClientCan (λ call k. subst ClientCan (sym k.2) range) false m.0 m.1.0))
    takes two TickClient m range h = inl (client_takes m.0 m.2 h
        (each_tick (ClientTick t word) ClientCan (λ b call k. subst ClientCan (sym k.5) (h, word_in)) refused m.0 m.1))
    takes two (StrangerToClient from bytes) m range h = inl (client_takes m.0 m.2 h.2
        (each_one _ ClientCan (λ call k. subst ClientCan (sym k.6) (h.2, word_in, inr (h.0, h.1))) refused m.0 m.1))
    takes two (Sets path format body) m range h = inr (server_takes m.0 m.2 h
        (each_one _ ServerCan (λ call k. subst ServerCan (sym k.2) (h, range.0, range.1, range.2)) refused m.0 m.1))
    takes two (Removes path) m range h = inr (server_takes m.0 m.2 h
        (each_one _ ServerCan (λ call k. subst ServerCan (sym k.2) (h, range)) false m.0 m.1.0))
    takes two TickServer m range h = inr (server_takes m.0 m.2 h
        (each_tick (ServerTick t word) ServerCan (λ b call k. subst ServerCan (sym k.6) (h, word_in)) refused m.0 m.1))
    takes two (StrangerToServer from bytes) m range h = inr (server_takes m.0 m.2 h.2
        (each_one _ ServerCan (λ call k. subst ServerCan (sym k.4) (h.2, word_in, inr (h.0, h.1))) refused m.0 m.1))
    takes two (Deliver number) m range h =
        let g : Given = m.0 in
        let same : h.0 ≡ g = number_unique number h.0 g (all_of (given_in config.addresses) past) h.1 m.1 in
        let shown = subst (λ (x : Given). Shows config.addresses c (length past) x.packet.to t) same h.2 in
        let late = subst (λ (x : Given). (now : ℕ) × Shows config.addresses c (length past) x.from now
        × (now ≤ x.at + max_delivery)) same h.3 in
        elim m.2 [
          | inl to ↦ (let at = shown_server two g.packet.to to.0 shown in
              inr (server_takes to.1 to.3 at
              (each_one _ ServerCan (λ call k. subst ServerCan (sym k.4)
              (at, word_in, can_come number g config.addresses.server m.1 to.0 late.0 late.1 late.2)) refused to.1
              to.2)))
          | inr to ↦ (let at = shown_client two g.packet.to to.0 shown in
              inl (client_takes to.1 to.3 at
              (each_one _ ClientCan (λ call k. subst ClientCan (sym k.6)
              (at, word_in, can_come number g config.addresses.client m.1 to.0 late.0 late.1 late.2)) refused to.1
              to.2)))
        ]

  -- so each call of the turn may be made, at its place
  module _ (past : List Turn) (older : Always (MayMake config d max_delivery) (entries_of past)) where
    abbrev In : List Entry → Type 0
    In es = (n : ℕ) → length (entries_of past) ≤ n → n < length (es ++ entries_of past) → turn_at whole n ≡ length past

    made_before : (P : Given → Type 0) (es : List Entry) → Ever P (made config d (entries_of past))
        → Ever P (made config d (es ++ entries_of past))
    made_before P [] h = h
    made_before P (e ∷ es) h = Ever_back P (made_by config d (es ++ entries_of past) e)
        (made config d (es ++ entries_of past)) (made_before P es h)

    shows : (n : ℕ) → turn_at whole n ≡ length past → (end : Endpoint) (now : ℕ)
        → Shows config.addresses c (length past) end now → Shows config.addresses d n end now
    shows n same end now (inl h) = inl (h.0, ap c.client same ∙ h.1)
    shows n same end now (inr h) = inr (h.0, ap c.server same ∙ h.1)

    feeds : (es : List Entry) → turn_at whole (length (es ++ entries_of past)) ≡ length past → (to from : Endpoint)
        (bytes : List ℕ) → Comes past to from bytes → MayFeed config d max_delivery
        (es ++ entries_of past) to from bytes
    feeds es same to from bytes (inr h) = inr h
    feeds es same to from bytes (inl h) =
        inl (made_before (WasMade config d max_delivery (length (es ++ entries_of past)) from to bytes) es
        (Ever_map (CanCome past from to bytes) (WasMade config d max_delivery
        (length (es ++ entries_of past)) from to bytes)
        (λ g k. record {
          by = k.by;
          packet = k.packet;
          now = k.now;
          shown = shows (length (es ++ entries_of past)) same from k.now k.shown;
          young = k.young;
        }) (made config d (entries_of past)) h))

    client_each : (t : ℕ) → t < 2 ^ 64 → c.client (length past) ≡ t → (calls : List C.Call) → In (map OfClient calls)
        → Every (λ call. ClientMay (c.client (length past)) (Comes past config.addresses.client) call) calls
        → Always (MayMake config d max_delivery) (map OfClient calls ++ entries_of past)
    client_each t small shown [] within may = older
    client_each t small shown (call ∷ calls) within may =
        let es : List Entry = map OfClient calls in
        let n : ℕ = length (es ++ entries_of past) in
        let e = length-append es (entries_of past) in
        let same = within n (omega (arith, e)) (omega arith) in
        let at : d.client n ≡ c.client (length past) = ap c.client same in (
          (
            subst (λ (m : ℕ). m < 2 ^ 64) (sym (at ∙ shown)) small,
            client_may (c.client (length past)) (d.client n) (sym at) (Comes past config.addresses.client)
                (MayFeed config d max_delivery (es ++ entries_of past) config.addresses.client)
                (λ from bytes k. feeds es same config.addresses.client from bytes k) call may.0,
          ),
          client_each t small shown calls (λ m le less. within m le (omega (arith, less))) may.1,
        )

    server_each : (t : ℕ) → t < 2 ^ 64 → c.server (length past) ≡ t → (calls : List S.Call) → In (map OfServer calls)
        → Every (λ call. ServerMay (c.server (length past)) (Comes past config.addresses.server) call) calls
        → Always (MayMake config d max_delivery) (map OfServer calls ++ entries_of past)
    server_each t small shown [] within may = older
    server_each t small shown (call ∷ calls) within may =
        let es : List Entry = map OfServer calls in
        let n : ℕ = length (es ++ entries_of past) in
        let e = length-append es (entries_of past) in
        let same = within n (omega (arith, e)) (omega arith) in
        let at : d.server n ≡ c.server (length past) = ap c.server same in (
          (
            subst (λ (m : ℕ). m < 2 ^ 64) (sym (at ∙ shown)) small,
            server_may (c.server (length past)) (d.server n) (sym at) (Comes past config.addresses.server)
                (MayFeed config d max_delivery (es ++ entries_of past) config.addresses.server)
                (λ from bytes k. feeds es same config.addresses.server from bytes k) call may.0,
          ),
          server_each t small shown calls (λ m le less. within m le (omega (arith, less))) may.1,
        )

module _ (config : Config) (c : Clocks) (whole : List Turn) (ranged : Legal c config whole) where
  abbrev two : config.addresses.client ≡ config.addresses.server → ⊥
  two = ranged.range.addresses.two

  -- what was given out was made, where each call before may be made
  gave : (past : List Turn) → Always (λ before t. Makes config.addresses before t.event.at t.event.word t.event.what
      t.refused t.entries) past → Always (IsLegal config.addresses c) past
      → client_turns.IsGood config (client_of (entries_of past)) → server_turns.IsGood config (server_trace config
      (entries_of past))
      → Always (MayMake config (at_calls c whole) max_delivery) (entries_of past) → GivenOut config c whole past
  gave past made_are legal good_client good_server older g h =
      let es = entries_of past in
      let sent = (joined.ran c config two ranged.clocks past made_are legal good_client good_server).sent g h in
      subst (Ever (λ x. x ≡ g)) (made_same config (at_calls c whole) es)
      (unsent config (at_calls c whole) two (they_rise (at_calls c whole)
      (paced_at c whole ranged.clocks)) max_delivery g
      (places es) es (all_go config (at_calls c whole) max_delivery es older) sent)

  all_may : (turns : List Turn) → Same whole turns
      → Always (λ before t. Makes config.addresses before t.event.at t.event.word t.event.what t.refused t.entries)
      turns
      → Always (IsLegal config.addresses c) turns → client_turns.IsGood config (client_of (entries_of turns))
      → server_turns.IsGood config (server_trace config (entries_of turns))
      → Always (MayMake config (at_calls c whole) max_delivery) (entries_of turns)
  all_may [] same made_are legal good_client good_server = tt
  all_may (t ∷ past) same made_are legal good_client good_server =
      let client_good = client_down config t.entries (entries_of past) good_client in
      let server_good = server_down config t.entries (entries_of past) good_server in
      let older = all_may past (same_before whole t past same) made_are.1 legal.1 client_good server_good in
      let within = stands whole t past same in
      ⊎_elim
      (λ k. subst (λ (es : List Entry). Always (MayMake config (at_calls c whole) max_delivery) (es ++ entries_of past))
      (sym k.is) (client_each config c whole past older t.event.at legal.0.at k.shown k.calls
      (subst (λ (es : List Entry). In config c whole past older es) k.is within) k.may))
      (λ k. subst (λ (es : List Entry). Always (MayMake config (at_calls c whole) max_delivery) (es ++ entries_of past))
      (sym k.is) (server_each config c whole past older t.event.at legal.0.at k.shown k.calls
      (subst (λ (es : List Entry). In config c whole past older es) k.is within) k.may))
      (takes config c whole past t.event.at t.event.word t.refused t.entries legal.0.word
      (gave past made_are.1 legal.1 client_good server_good older) two t.event.what made_are.0 legal.0.range
      legal.0.comes)

pub records_are_runs : (c : Clocks) (config : Config) (events : List Event) (turns : List Turn)
    → RecordOf config events turns → Legal c config turns → IsRun c config turns
records_are_runs c config events turns run legal =
    let below = run.client.exchanges in
    let under = run.server.exchanges in
    record {
      is = record { client = run.client; server = run.server };
      legal = record {
        clocks = paced_at c turns legal.clocks;
        range = legal.range;
        calls = all_may config c turns legal turns (λ n less. refl) run.made legal.events (below.left, below.layer)
            (under.left, under.layer);
      };
    }
