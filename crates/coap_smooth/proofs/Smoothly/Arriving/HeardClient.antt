-- In a smooth run the server hears from the client alone, since there is no stranger, and it sends to the client alone.
use Rattle.std.proofs.Common.{◌≡◌, ◌⊎◌, inl, inr, ℕ, false, Some, None, List, [], ◌∷◌, ◌++◌, map, ap, sym, subst, ◌∙◌}
use Rattle.std.proofs.Common.{append_assoc, refl}
use Rattle.coap_types.specs.Past.{Ever, all_of}
use Rattle.coap_types.proofs.Facts.Traces.{Ever_of_Sometime}
use Rattle.coap_types.specs.declared.endpoint.Endpoint.{Endpoint}
use Rattle.coap_layer.specs.Trace as L
use Rattle.coap_layer.proofs.Facts.Hops.{far_ever}
use Rattle.coap_server.specs.Follows.Observes.{AreObservers}
use Rattle.coap_server.specs.Trace as S
use Rattle.coap_record.specs.Events.{Config, What, Sets, Removes, TickServer, Deliver}
use Rattle.coap_record.specs.Events.{StrangerToClient, StrangerToServer}
use Rattle.coap_promise.specs.Hops.{server_adds, SendsAt, SentIn, hops_of}
use Rattle.coap_client.specs.Trace as C
use Rattle.coap_record.specs.Record.{Given, Entry, Turn, IsNumber, OnClient, OnServer, ServerTick, Makes, begun_with}
use Rattle.coap_record.specs.Record.{given_in, entries_of, server_of, server_trace}
use Rattle.coap_smooth.specs.Smooth.{IsOfAnEnd, NoStranger}
use Rattle.coap_promise.proofs.Facts.Delivery.EntriesInTime.{Every, every_join, every_map, Timely}
use Rattle.coap_promise.proofs.Facts.Delivery.HopsAreEntries.{server_layer, server_next, far_is}
use Rattle.coap_promise.proofs.Facts.Delivery.GivenOutBefore.{arrives_so, same_source}
use Rattle.coap_promise.proofs.Facts.Delivery.OneEndATurn.{each_one, each_tick}
use Rattle.coap_record.proofs.Facts.CallsOfEnds.{server_client, server_server}
use Rattle.coap_promise.proofs.Facts.Delivery.ServerInTime as server
use Rattle.coap_promise.proofs.Facts.Delivery.ServerTurns.{all_at as server_at}
use Rattle.coap_smooth.proofs.Smoothly.Ticks.NothingIsLeft.{Stands, before, ran, turned}
use Rattle.coap_smooth.proofs.Smoothly.Arriving.ToClient.{IsFromClient, GoesToClient, HeardClient, all_to_client}
use Rattle.coap_promise.proofs.Facts.Delivery.ClientTurns.{turn_calls as client_turn_calls}
use Rattle.coap_promise.proofs.Facts.Delivery.ServerTurns.{turn_calls as server_turn_calls}
use Rattle.coap_record.specs.declared.addresses.Addresses.{Addresses}

abbrev FeedsFromClient : Addresses → S.Call → Type 0
FeedsFromClient addresses c = (from : Endpoint) (bytes : List ℕ) → server.Fed c from bytes → from ≡ addresses.client

-- a turn of the server in which it hears from the client alone
record HearsTurn (addresses : Addresses) (t : ℕ) (entries : List Entry) : Type 0 where
  calls : List S.Call
  on : OnServer calls entries
  at : Every (server.IsAt t) calls
  from : Every (FeedsFromClient addresses) calls

of_feed : (addresses : Addresses) (c : S.Call) (now word : ℕ) (source : Endpoint) (bytes : List ℕ) (up : _) (came : _)
    (h : _) (below : _)
    → c ≡ S.Feeds now source bytes word up came h below → source ≡ addresses.client → FeedsFromClient addresses c
of_feed addresses c now word source bytes up came h below is client from other f =
    let whose : source ≡ from = same_source source from bytes other (arrives_so is f) in
    sym whose ∙ client

module _ (addresses : Addresses) (past : List Turn) (t : ℕ) (word : ℕ) (refused : _) (entries : List Entry)
    (given : (number : ℕ) (g : Given) → IsNumber addresses number g past → g.packet.to ≡ addresses.server → g.from
    ≡ addresses.client) where
  of_one : (what : What) → Makes addresses past t word what refused entries → IsOfAnEnd what
      → ((calls : List C.Call) × OnClient calls entries) ⊎ HearsTurn addresses t entries
  of_one (Sets path format body) m smooth = inr (record {
    calls = m.0;
    on = m.2;
    at = each_one _ (server.IsAt t) (λ c h. subst (server.IsAt t) (sym h.2) refl) refused m.0 m.1;
    from = each_one _ (FeedsFromClient addresses) (λ c h from bytes f. absurd (cc (arrives_so h.2 f))) refused m.0 m.1;
  })
  of_one (Removes path) m smooth = inr (record {
    calls = m.0;
    on = m.2;
    at = each_one _ (server.IsAt t) (λ c h. subst (server.IsAt t) (sym h.2) refl) false m.0 m.1.0;
    from = each_one _ (FeedsFromClient addresses) (λ c h from bytes f. absurd (cc (arrives_so h.2 f))) false m.0 m.1.0;
  })
  of_one TickServer m smooth = inr (record {
    calls = m.0;
    on = m.2;
    at = each_tick (ServerTick t word) (server.IsAt t)
        (λ b c h. subst (server.IsAt t) (sym h.6) refl) refused m.0 m.1;
    from = each_tick (ServerTick t word) (FeedsFromClient addresses)
        (λ b c h from bytes f. absurd (cc (arrives_so h.6 f))) refused m.0 m.1;
  })
  of_one (StrangerToServer from bytes) m smooth = absurd smooth
  of_one (StrangerToClient from bytes) m smooth = absurd smooth
  of_one (Deliver number) m smooth = elim m.2 [
    | inl d ↦ inr (record {
      calls = d.1;
      on = d.3;
      at = each_one _ (server.IsAt t) (λ c h. subst (server.IsAt t) (sym h.4) refl) refused d.1 d.2;
      from = each_one _ (FeedsFromClient addresses)
          (λ c h. of_feed addresses c t word m.0.from m.0.packet.bytes h.0 h.1 h.2 h.3 h.4 (given number m.0 m.1 d.0))
          refused d.1
          d.2;
    })
    | inr d ↦ inl (d.1, d.3)
  ]
  of_one _ m smooth = inl (m.0, m.2)

module _ (config : Config) (observers : (t : List S.Call) → AreObservers config.limits config.server_szx t) where
  abbrev Heard : List Turn → Type 0
  Heard turns = HeardClient config observers (server_trace config (entries_of turns))

  -- what it gives out is addressed to the client, so what is addressed to it was given out by the client
  given_by_client : (past : List Turn) → Stands config past → Heard past → (number : ℕ) (g : Given)
      → IsNumber config.addresses number g past → g.packet.to ≡ config.addresses.server → g.from
      ≡ config.addresses.client
  given_by_client past s heard number g is to =
      by ((ran config past s).sent g (Ever_of_Sometime _ (λ h. h ≡ g) (λ older h k. inl k.0)
      (all_of (given_in config.addresses) past) is))
    where
      found : (es : List L.Entry) → Every (GoesToClient config.addresses) es → Ever (SendsAt g.at g.packet) es
          → g.packet.to ≡ config.addresses.client
      found [] all h = absurd h
      found (e ∷ es) all (inl h) = all.0 g.packet h.out
      found (e ∷ es) all (inr h) = found es all.1 h

      by : SentIn config.addresses (hops_of config past) g → g.from ≡ config.addresses.client
      by (inl k) = k.0
      by (inr k) =
          let sent = subst (Ever (SendsAt g.at g.packet)) (far_is config (entries_of past))
          (far_ever (SendsAt g.at g.packet) (hops_of config past) k.1) in
          let there = found (server_layer config (server_trace config (entries_of past)))
          (all_to_client config observers (server_trace config (entries_of past)) s.server heard) sent in
          absurd (s.range.addresses.two (sym there ∙ to))

  -- the entries of calls that hear from the client
  adds_heard : (t : ℕ) (cs past : List S.Call) → Every (server.IsAt t) cs → Every (FeedsFromClient config.addresses) cs
      → server.IsBy config t past → HeardClient config observers past → HeardClient config observers (cs ++ past)
  adds_heard t [] past at_t from by heard = heard
  adds_heard t (c ∷ cs) past at_t from by heard =
      subst (Every (IsFromClient config.addresses)) (sym (server_next config (cs ++ past) c))
      (every_join (IsFromClient config.addresses) (server_adds config (cs ++ past) c) (server_layer config (cs ++ past))
      (every_map (Timely t (server.Fed c)) (IsFromClient config.addresses)
      (λ e k source bytes is. from.0 source bytes (k.fed source bytes is).0) (server_adds config (cs ++ past) c)
      (server.adds_timely config t (cs ++ past) c (by_calls cs at_t.1) at_t.0))
      (adds_heard t cs past at_t.1 from.1 by heard))
    where
      by_calls : (ds : List S.Call) → Every (server.IsAt t) ds → server.IsBy config t (ds ++ past)
      by_calls [] at_t = by
      by_calls (d ∷ ds) at_t = server.next_by config t (ds ++ past) d (by_calls ds at_t.1) at_t.0

  outs_from : (outs : List L.Packet) (calls : List S.Call) → Every (FeedsFromClient config.addresses) calls
      → Every (FeedsFromClient config.addresses) (S.NextOut None ∷ (map (λ p. S.NextOut (Some p)) outs ++ calls))
  outs_from outs calls h = (λ from bytes f. absurd (cc f), taken outs)
    where
      taken : (ps : List L.Packet) → Every (FeedsFromClient config.addresses)
          (map (λ p. S.NextOut (Some p)) ps ++ calls)
      taken [] = h
      taken (p ∷ ps) = (λ from bytes f. absurd (cc f), taken ps)

  one_more : (turn : Turn) (past : List Turn) → Stands config (turn ∷ past) → IsOfAnEnd turn.event.what → Heard past
      → Heard (turn ∷ past)
  one_more turn past s mine older =
      by (of_one config.addresses past turn.event.at turn.event.word turn.refused turn.entries
      (given_by_client past (before config turn past s) older) turn.event.what s.made.0 mine)
    where
      by : ((calls : List C.Call) × OnClient calls turn.entries) ⊎ HearsTurn config.addresses turn.event.at turn.entries
          → Heard (turn ∷ past)
      by (inl on) =
          let cs : List C.Call = client_turn_calls on.1.outs on.1.reports on.0 in
          subst (λ z. HeardClient config observers (z ++ begun_with config))
          (sym (ap (λ z. server_of (z ++ entries_of past)) on.1.is ∙ server_client cs (entries_of past))) older
      by (inr on) =
          let cs : List S.Call = server_turn_calls on.on.outs on.calls in
          let is : server_trace config (turn.entries ++ entries_of past) ≡ cs ++ server_trace config (entries_of past) =
          ap (λ l. l ++ begun_with config) (ap (λ z. server_of (z ++ entries_of past)) on.on.is
          ∙ server_server cs (entries_of past)) ∙ append_assoc cs (server_of (entries_of past)) (begun_with config) in
          subst (HeardClient config observers) (sym is)
          (adds_heard turn.event.at cs (server_trace config (entries_of past))
          (server_at turn.event.at on.on.outs on.calls on.at) (outs_from on.on.outs on.calls on.from)
          (turned config turn past s).still.server older)

  pub heard_client : (turns : List Turn) → Stands config turns → NoStranger turns → Heard turns
  heard_client [] s none = subst (Every (IsFromClient config.addresses)) (far_is config []) tt
  heard_client (turn ∷ past) s none = one_more turn past s none.0 (heard_client past (before config turn past s) none.1)
