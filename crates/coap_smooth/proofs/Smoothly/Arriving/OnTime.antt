-- Where a datagram arrives at the server's message layer, the server is no later than that.
use Rattle.std.proofs.Common.{◌≡◌, ◌⊎◌, inl, inr, ◌≤◌, ℕ, List, [], ◌∷◌, ◌++◌, map, ap, sym, subst, ◌∙◌, arith}
use Rattle.std.proofs.Common.{append_assoc}
use Rattle.coap_types.specs.Past.{Always}
use Rattle.coap_types.specs.declared.endpoint.Endpoint.{Endpoint}
use Rattle.coap_layer.specs.Trace as L
use Rattle.coap_client.specs.Trace as C
use Rattle.coap_server.specs.Law.{own_of}
use Rattle.coap_server.specs.Trace as S
use Rattle.coap_record.specs.Events.{Config}
use Rattle.coap_promise.specs.Hops.{server_adds}
use Rattle.coap_record.specs.Record.{Turn, begun_with, entries_of, server_of, server_trace, Setting, DelayOf, PlainOf}
use Rattle.coap_record.specs.Record.{gives_it, settings}
use Rattle.coap_promise.proofs.Facts.Delivery.EntriesInTime.{Every, every_map, Timely}
use Rattle.coap_promise.proofs.Facts.Delivery.OneEndATurn.{ClientTurn, ServerTurn}
use Rattle.coap_record.proofs.Facts.CallsOfEnds.{server_client, server_server}
use Rattle.coap_promise.proofs.Facts.Delivery.ServerInTime as server
use Rattle.coap_promise.proofs.Facts.Delivery.ServerTurns.{all_at as server_at}
use Rattle.coap_smooth.proofs.Smoothly.Ticks.NothingIsLeft.{Stands, before, turned, side_of}
use Rattle.coap_promise.proofs.Facts.Delivery.ClientTurns.{turn_calls as client_turn_calls}
use Rattle.coap_promise.proofs.Facts.Delivery.ServerTurns.{turn_calls as server_turn_calls}

-- what holds of each holds of the oldest
pub every_last : (Q : L.Entry → Type 0) (xs : List L.Entry) (e : L.Entry) → Every Q (xs ++ e ∷ []) → Q e
every_last Q [] e h = h.0
every_last Q (x ∷ xs) e h = every_last Q xs e h.1

module _ (config : Config) where
  abbrev now_of : List S.Call → ℕ
  now_of t = (own_of config.limits config.server_szx t).clock

  abbrev pub OnTime : List S.Call → S.Call → Type 0
  OnTime past c =
      Every (λ (e : L.Entry). (from : Endpoint) (bytes : List ℕ) → e.call ≡ L.Receive from bytes
      → now_of (c ∷ past) ≤ e.at) (server_adds config past c)

  module _ (t : ℕ) (past : List S.Call) where
    here : (cs : List S.Call) (c : S.Call) → server.IsAt t c → server.IsBy config t (cs ++ past) → OnTime (cs ++ past) c
    here cs c at by =
        let next = server.next_by config t (cs ++ past) c by at in
        let till = next.own in
        every_map (Timely t (server.Fed c))
        (λ (e : L.Entry). (from : Endpoint) (bytes : List ℕ) → e.call ≡ L.Receive from bytes
        → now_of (c ∷ (cs ++ past)) ≤ e.at)
        (λ e k from bytes is. (let z = (k.fed from bytes is).1 in omega (arith, z, till)))
        (server_adds config (cs ++ past) c) (server.adds_timely config t (cs ++ past) c by at)

    all_here : (cs : List S.Call) → Every (server.IsAt t) cs → server.IsBy config t past → Always OnTime past
        → server.IsBy config t (cs ++ past) × Always OnTime (cs ++ past)
    all_here [] at by old = (by, old)
    all_here (c ∷ cs) at by old =
        let k = all_here cs at.1 by old in
        (server.next_by config t (cs ++ past) c k.0 at.0, (here cs c at.0 k.0, k.1))

  at_first : (ss : List Setting) → Always OnTime (map gives_it ss)
  at_first [] = tt
  at_first (DelayOf d ∷ ss) = (tt, at_first ss)
  at_first (PlainOf p ∷ ss) = (tt, at_first ss)

  pub on_time : (turns : List Turn) → Stands config turns → Always OnTime (server_trace config (entries_of turns))
  on_time [] s = at_first (settings config)
  on_time (turn ∷ past) s = by (on_time past (before config turn past s)) (side_of config turn past s)
    where
      by : Always OnTime (server_trace config (entries_of past))
          → ClientTurn turn.event.at turn.entries ⊎ ServerTurn turn.event.at turn.entries
          → Always OnTime (server_trace config (turn.entries ++ entries_of past))
      by older (inl on) =
          let cs : List C.Call = client_turn_calls on.on.outs on.on.reports on.calls in
          let is : server_of (turn.entries ++ entries_of past) ≡ server_of (entries_of past) =
          ap (λ z. server_of (z ++ entries_of past)) on.on.is ∙ server_client cs (entries_of past) in
          subst (λ l. Always OnTime (l ++ begun_with config)) (sym is) older
      by older (inr on) =
          let cs : List S.Call = server_turn_calls on.on.outs on.calls in
          let is : server_trace config (turn.entries ++ entries_of past) ≡ cs ++ server_trace config (entries_of past) =
          ap (λ l. l ++ begun_with config)
          (ap (λ z. server_of (z ++ entries_of past)) on.on.is ∙ server_server cs (entries_of past))
          ∙ append_assoc cs (server_of (entries_of past)) (begun_with config) in
          subst (Always OnTime) (sym is)
          (all_here turn.event.at (server_trace config (entries_of past)) cs
          (server_at turn.event.at on.on.outs on.calls on.at) (turned config turn past s).still.server older).1
