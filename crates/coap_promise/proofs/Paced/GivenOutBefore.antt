-- What comes from an end's address in a run that is legal by two clocks was given out by that end, at most 100,000 ms
-- before by its own clock.
use Rattle.std.proofs.Common.{◌≡◌, ◌⊎◌, inl, inr, ⊎_elim, ◌≤◌, ℕ, ◌+◌, Bool, false, List, [], ◌∷◌}
use Rattle.std.proofs.Common.{length, refl, ap, sym, subst, ◌∙◌, arith}
use Rattle.coap_types.specs.Past.{Ever, Always, all_of}
use Rattle.coap_types.proofs.Facts.Traces.{Ever_map, Ever_append, Ever_of_Sometime}
use Rattle.coap_types.specs.declared.endpoint.Endpoint.{Endpoint}
use Rattle.coap_client.specs.Trace as C
use Rattle.coap_server.specs.Trace as S
use Rattle.coap_promise.specs.AtAnyTime as any_time
use Rattle.coap_promise.specs.Clocks.{Clocks, AreClocks, Shows, MayCome, IsLegal}
use Rattle.coap_promise.specs.Delivery.{GaveOut, FedToServer, FedToClient}
use Rattle.coap_record.specs.Events.{Config, What, Calls, Observes, Cancels, Forgets, Sets, Removes}
use Rattle.coap_record.specs.Events.{TickClient, TickServer, Deliver, StrangerToClient, StrangerToServer}
use Rattle.coap_record.specs.Record.{Given, IsOne, Entry, Turn, given_by, given_in, IsNumber, OnClient}
use Rattle.coap_record.specs.Record.{OnServer, ClientTick, ServerTick, Makes}
use Rattle.coap_promise.proofs.Facts.Delivery.BothEnds.{client_side, server_side}
use Rattle.coap_promise.proofs.Facts.Delivery.End.{taken_out}
use Rattle.coap_promise.proofs.Facts.Delivery.GivenOutBefore.{number_unique, one_call, tick_of, packet_is, server_call}
use Rattle.coap_promise.proofs.Facts.Delivery.GivenOutBefore.{client_call}
use Rattle.coap_promise.proofs.Facts.Delivery.GivenOutBefore.{arrives_so, same_bytes, same_source, never_there}
use Rattle.coap_promise.proofs.Facts.Delivery.GivenOutBefore.{never_here}
use Rattle.coap_promise.proofs.Facts.Delivery.OneEndATurn.{ClientTurn, ServerTurn, each_one, each_tick}
use Rattle.coap_promise.proofs.Facts.Delivery.ClientInTime as client
use Rattle.coap_promise.proofs.Facts.Delivery.ClientTurns as client_turns
use Rattle.coap_promise.proofs.Facts.Delivery.ServerInTime as server
use Rattle.coap_promise.proofs.Facts.Delivery.ServerTurns as server_turns
use Rattle.coap_record.specs.declared.addresses.Addresses.{Addresses}

-- each turn is one end's, at the moment that its clock shows
abbrev pub OfAnEnd : Clocks → ℕ → ℕ → List Entry → Type 0
OfAnEnd c n at entries = (ClientTurn at entries × (c.client n ≡ at)) ⊎ (ServerTurn at entries × (c.server n ≡ at))

module _ (addresses : Addresses) (two : addresses.client ≡ addresses.server → ⊥) (c : Clocks) (past : List Turn)
    (t word : ℕ) (refused : Bool) (entries : List Entry) where
  client_one : (Is : C.Call → Type 0) → ((c : C.Call) → Is c → client.IsAt t c) → (gone : Bool) (calls : List C.Call)
      → IsOne Is gone calls → OnClient calls entries → ClientTurn t entries
  client_one Is at gone calls one on =
      record { calls = calls; on = on; at = each_one Is (client.IsAt t) at gone calls one }

  server_one : (Is : S.Call → Type 0) → ((c : S.Call) → Is c → server.IsAt t c) → (gone : Bool) (calls : List S.Call)
      → IsOne Is gone calls → OnServer calls entries → ServerTurn t entries
  server_one Is at gone calls one on =
      record { calls = calls; on = on; at = each_one Is (server.IsAt t) at gone calls one }

  at_server : (to : Endpoint) → to ≡ addresses.server → Shows addresses c (length past) to t → c.server (length past)
      ≡ t
  at_server to is (inl h) = absurd (two (sym h.0 ∙ is))
  at_server to is (inr h) = h.1

  at_client : (to : Endpoint) → to ≡ addresses.client → Shows addresses c (length past) to t → c.client (length past)
      ≡ t
  at_client to is (inl h) = h.1
  at_client to is (inr h) = absurd (two (sym is ∙ h.0))

  -- it may come at any time
  pub side : (what : What) → Makes addresses past t word what refused entries → any_time.MayCome addresses c past t what
      → OfAnEnd c (length past) t entries
  side (Calls r) m h =
      inl (client_one _ (λ c k. subst (client.IsAt t) (sym k.1) refl) refused m.0 m.1 m.2, h)
  side (Observes path) m h =
      inl (client_one _ (λ c k. subst (client.IsAt t) (sym k.1) refl) refused m.0 m.1 m.2, h)
  side (Cancels number) m h =
      inl (client_one _ (λ c k. subst (client.IsAt t) (sym k.1) refl) false m.0 m.1.0 m.2, h)
  side (Forgets number) m h =
      inl (client_one _ (λ c k. subst (client.IsAt t) (sym k.2) tt) false m.0 m.1.0 m.2, h)
  side TickClient m h =
      inl (
        record {
          calls = m.0;
          on = m.2;
          at = each_tick (ClientTick t word) (client.IsAt t)
              (λ b c k. subst (client.IsAt t) (sym k.5) refl) refused m.0 m.1;
        },
        h,
      )
  side (StrangerToClient from bytes) m h =
      inl (client_one _ (λ c k. subst (client.IsAt t) (sym k.6) refl) refused m.0 m.1 m.2, h.2)
  side (Sets path format body) m h =
      inr (server_one _ (λ c k. subst (server.IsAt t) (sym k.2) refl) refused m.0 m.1 m.2, h)
  side (Removes path) m h =
      inr (server_one _ (λ c k. subst (server.IsAt t) (sym k.2) refl) false m.0 m.1.0 m.2, h)
  side TickServer m h =
      inr (
        record {
          calls = m.0;
          on = m.2;
          at = each_tick (ServerTick t word) (server.IsAt t)
              (λ b c k. subst (server.IsAt t) (sym k.6) refl) refused m.0 m.1;
        },
        h,
      )
  side (StrangerToServer from bytes) m h =
      inr (server_one _ (λ c k. subst (server.IsAt t) (sym k.4) refl) refused m.0 m.1 m.2, h.2)
  side (Deliver number) m h =
      let same : h.0 ≡ m.0 = number_unique number h.0 m.0 (all_of (given_in addresses) past) h.1 m.1 in
      let shows : Shows addresses c (length past) m.0.packet.to t =
      subst (λ (g : Given). Shows addresses c (length past) g.packet.to t) same h.2 in
      elim m.2 [
        | inl d ↦ inr (
          server_one _ (λ c k. subst (server.IsAt t) (sym k.4) refl) refused d.1 d.2 d.3,
          at_server m.0.packet.to d.0 shows,
        )
        | inr d ↦ inl (
          client_one _ (λ c k. subst (client.IsAt t) (sym k.6) refl) refused d.1 d.2 d.3,
          at_client m.0.packet.to d.0 shows,
        )
      ]

-- what comes in time may come
pub comes_any : (addresses : Addresses) (c : Clocks) (past : List Turn) (at : ℕ) (what : What)
    → MayCome addresses c past at what
    → any_time.MayCome addresses c past at what
comes_any addresses c past at (Deliver number) m = (m.0, m.1, m.2)
comes_any addresses c past at (StrangerToClient from bytes) m = m
comes_any addresses c past at (StrangerToServer from bytes) m = m
comes_any addresses c past at (Calls r) m = m
comes_any addresses c past at (Observes path) m = m
comes_any addresses c past at (Cancels number) m = m
comes_any addresses c past at (Forgets number) m = m
comes_any addresses c past at (Sets path format body) m = m
comes_any addresses c past at (Removes path) m = m
comes_any addresses c past at TickClient m = m
comes_any addresses c past at TickServer m = m

abbrev pub Made : Addresses → List Turn → Type 0
Made addresses turns = Always (λ past t. Makes addresses past t.event.at t.event.word t.event.what t.refused t.entries)
    turns

module _ (config : Config) (two : config.addresses.client ≡ config.addresses.server → ⊥) (c : Clocks)
    (clocks : AreClocks c) where
  -- it was given out by an end, whose clock shows no less at the event of this number
  abbrev pub Before : ℕ → Given → Type 0
  Before n g = ((g.from ≡ config.addresses.client) × (g.at ≤ c.client n))
      ⊎ ((g.from ≡ config.addresses.server) × (g.at ≤ c.server n))

  in_turn : (t : Turn) (past : List Turn) (n : ℕ) → length past ≤ n → OfAnEnd c (length past) t.event.at t.entries
      → (g : Given) → Ever (λ h. h ≡ g) (given_in config.addresses t) → Before n g
  in_turn t past n le (inl s) g h =
      let k = taken_out (client_side config) t.event.at g (client_turns.turn_calls s.0.on.outs s.0.on.reports s.0.calls)
      (subst (λ es. Ever (λ x. x ≡ g) (all_of (given_by config.addresses t.event.at) es)) s.0.on.is h) in
      let r = clocks.near.rises (length past) n le in
      let at = k.at in
      let is = s.1 in
      inl (k.by, omega (arith, at, is, r))
  in_turn t past n le (inr s) g h =
      let k = taken_out (server_side config) t.event.at g (server_turns.turn_calls s.0.on.outs s.0.calls)
      (subst (λ es. Ever (λ x. x ≡ g) (all_of (given_by config.addresses t.event.at) es)) s.0.on.is h) in
      let r = clocks.far.rises (length past) n le in
      let at = k.at in
      let is = s.1 in
      inr (k.by, omega (arith, at, is, r))

  pub given_before : (turns : List Turn) → Made config.addresses turns → Always (IsLegal config.addresses c) turns
      → (n : ℕ) → length turns ≤ n → (g : Given)
      → Ever (λ h. h ≡ g) (all_of (given_in config.addresses) turns) → Before n g
  given_before [] made legal n le g h = absurd h
  given_before (t ∷ past) made legal n le g h = ⊎_elim
      (in_turn t past n (omega (arith, le)) (side config.addresses two c past t.event.at t.event.word t.refused
      t.entries t.event.what made.0
      (comes_any config.addresses c past t.event.at t.event.what legal.0.comes)) g)
      (given_before past made.1 legal.1 n (omega (arith, le)) g)
      (Ever_append (λ x. x ≡ g) (given_in config.addresses t) (all_of (given_in config.addresses) past) h)

  -- the datagram of a number
  module _ (past : List Turn) (made : Made config.addresses past) (legal : Always (IsLegal config.addresses c) past)
      (at : ℕ) (number : ℕ)
      (may : MayCome config.addresses c past at (Deliver number)) (g : Given)
      (is : IsNumber config.addresses number g past) where
    there : Ever (λ h. h ≡ g) (all_of (given_in config.addresses) past)
    there = Ever_of_Sometime _ (λ h. h ≡ g) (λ before h k. inl k.0) (all_of (given_in config.addresses) past) is

    same : may.0 ≡ g
    same = number_unique number may.0 g (all_of (given_in config.addresses) past) may.1 is

    now_shown : Shows config.addresses c (length past) g.from may.3.0
    now_shown = subst (λ (x : Given). Shows config.addresses c (length past) x.from may.3.0) same may.3.1

    now_young : may.3.0 ≤ g.at + 100000
    now_young = let y = may.3.2 in let e : may.0.at ≡ g.at = ap (λ (x : Given). x.at) same in omega (arith, y, e)

    gave : (from to : Endpoint) (bytes : List ℕ) (when : ℕ) → g.from ≡ from → g.packet.to ≡ to → g.packet.bytes ≡ bytes
        → g.at ≤ when → when ≤ g.at + 100000 → Ever (GaveOut from to bytes when)
        (all_of (given_in config.addresses) past)
    gave from to bytes when f t b early young =
        Ever_map (λ h. h ≡ g) (GaveOut from to bytes when)
        (λ h k. subst (GaveOut from to bytes when) (sym k)
        (record { packet = packet_is g.packet to bytes t b; by = f; early = early; young = omega (arith, young) }))
        (all_of (given_in config.addresses) past) there

    pub client_gave : (bytes : List ℕ) → g.from ≡ config.addresses.client → g.packet.to ≡ config.addresses.server
        → g.packet.bytes ≡ bytes
        → Ever (GaveOut config.addresses.client config.addresses.server bytes (c.client (length past)))
        (all_of (given_in config.addresses) past)
    client_gave bytes f t b = ⊎_elim ours (λ k. absurd (two (sym f ∙ k.0)))
        (given_before past made legal (length past) (omega arith) g there)
      where
        ours : (g.from ≡ config.addresses.client) × (g.at ≤ c.client (length past))
            → Ever (GaveOut config.addresses.client config.addresses.server bytes (c.client (length past)))
            (all_of (given_in config.addresses) past)
        ours k = ⊎_elim
            (λ s. let y = now_young in let e = s.1 in
            gave config.addresses.client config.addresses.server bytes (c.client (length past)) f t b k.1
            (omega (arith, y, e)))
            (λ s. absurd (two (sym f ∙ s.0))) now_shown

    pub server_gave : (bytes : List ℕ) → g.from ≡ config.addresses.server → g.packet.to ≡ config.addresses.client
        → g.packet.bytes ≡ bytes
        → Ever (GaveOut config.addresses.server config.addresses.client bytes (c.server (length past)))
        (all_of (given_in config.addresses) past)
    server_gave bytes f t b = ⊎_elim (λ k. absurd (two (sym k.0 ∙ f))) ours
        (given_before past made legal (length past) (omega arith) g there)
      where
        ours : (g.from ≡ config.addresses.server) × (g.at ≤ c.server (length past))
            → Ever (GaveOut config.addresses.server config.addresses.client bytes (c.server (length past)))
            (all_of (given_in config.addresses) past)
        ours k = ⊎_elim (λ s. absurd (two (sym s.0 ∙ f)))
            (λ s. let y = now_young in let e = s.1 in
            gave config.addresses.server config.addresses.client bytes (c.server (length past)) f t b k.1
            (omega (arith, y, e))) now_shown

  module _ (past : List Turn) (made : Made config.addresses past) (legal : Always (IsLegal config.addresses c) past)
      (at word : ℕ) (refused : Bool)
      (entries : List Entry) (bytes : List ℕ) where
    pub to_server : (what : What) → Makes config.addresses past at word what refused entries
        → MayCome config.addresses c past at what
        → Ever (FedToServer config.addresses.client bytes) entries
        → Ever (GaveOut config.addresses.client config.addresses.server bytes (c.client (length past)))
        (all_of (given_in config.addresses) past)
    to_server (Sets path format body) m may h = let k =
        one_call _ _ refused m.0 m.1 (server_call config.addresses.client bytes m.0 entries m.2 h) in absurd
        (cc (arrives_so k.1.2 k.2))
    to_server (Removes path) m may h = let k =
        one_call _ _ false m.0 m.1.0 (server_call config.addresses.client bytes m.0 entries m.2 h) in absurd
        (cc (arrives_so k.1.2 k.2))
    to_server TickServer m may h = let k = tick_of (ServerTick at word) _ refused m.0 m.1
        (server_call config.addresses.client bytes m.0 entries m.2 h) in absurd (cc (arrives_so k.2.6 k.3))
    to_server (StrangerToServer from b) m may h =
        let k = one_call _ _ refused m.0 m.1 (server_call config.addresses.client bytes m.0 entries m.2 h) in
        let same : from ≡ config.addresses.client = same_source _ _ _ _ (arrives_so k.1.4 k.2) in
        absurd (may.0 same)
    to_server (Deliver number) m may h = elim m.2 [
      | inl d ↦ (let k = one_call _ _ refused d.1 d.2 (server_call config.addresses.client bytes d.1 entries d.3 h) in
          client_gave past made legal at number may m.0 m.1 bytes (same_source _ _ _ _ (arrives_so k.1.4 k.2)) d.0
          (same_bytes _ _ _ _ (arrives_so k.1.4 k.2)))
      | inr d ↦ absurd (never_there config.addresses.client bytes d.1 entries d.3 h)
    ]
    to_server _ m may h = absurd (never_there config.addresses.client bytes m.0 entries m.2 h)

    pub to_client : (what : What) → Makes config.addresses past at word what refused entries
        → MayCome config.addresses c past at what
        → Ever (FedToClient config.addresses.server bytes) entries
        → Ever (GaveOut config.addresses.server config.addresses.client bytes (c.server (length past)))
        (all_of (given_in config.addresses) past)
    to_client (Cancels number) m may h = let k =
        one_call _ _ false m.0 m.1.0 (client_call config.addresses.server bytes m.0 entries m.2 h) in absurd
        (cc (k.1.1, k.2.8))
    to_client (Forgets number) m may h = let k =
        one_call _ _ false m.0 m.1.0 (client_call config.addresses.server bytes m.0 entries m.2 h) in absurd
        (cc (k.1.2, k.2.8))
    to_client TickClient m may h = let k = tick_of (ClientTick at word) _ refused m.0 m.1
        (client_call config.addresses.server bytes m.0 entries m.2 h) in absurd (cc (k.2.5, k.3.8))
    to_client (StrangerToClient from b) m may h =
        let k = one_call _ _ refused m.0 m.1 (client_call config.addresses.server bytes m.0 entries m.2 h) in
        let same : from ≡ config.addresses.server = cc (k.1.6, k.2.8) in
        absurd (may.1 same)
    to_client (Sets path format body) m may h = absurd (never_here config.addresses.server bytes m.0 entries m.2 h)
    to_client (Removes path) m may h = absurd (never_here config.addresses.server bytes m.0 entries m.2 h)
    to_client TickServer m may h = absurd (never_here config.addresses.server bytes m.0 entries m.2 h)
    to_client (StrangerToServer from b) m may h = absurd (never_here config.addresses.server bytes m.0 entries m.2 h)
    to_client (Deliver number) m may h = elim m.2 [
      | inl d ↦ absurd (never_here config.addresses.server bytes d.1 entries d.3 h)
      | inr d ↦ (let k = one_call _ _ refused d.1 d.2 (client_call config.addresses.server bytes d.1 entries d.3 h) in
          server_gave past made legal at number may m.0 m.1 bytes (cc (k.1.6, k.2.8)) d.0 (cc (k.1.6, k.2.8)))
    ]
    to_client _ m may h =
        let k = one_call _ _ refused m.0 m.1 (client_call config.addresses.server bytes m.0 entries m.2 h) in
        absurd (cc (k.1.1, k.2.8))
