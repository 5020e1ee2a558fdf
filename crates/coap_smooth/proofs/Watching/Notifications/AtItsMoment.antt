-- In a smooth run each call of an end has its entries in its message layer at the moment of its event.
use Rattle.std.proofs.Common.{◌⊎◌, inl, inr, ℕ, List, [], ◌∷◌, ◌++◌, map, sym, subst}
use Rattle.coap_types.specs.Past.{Always}
use Rattle.coap_client.specs.Trace as C
use Rattle.coap_server.specs.Trace as S
use Rattle.coap_record.specs.Events.{Config}
use Rattle.coap_promise.specs.Hops.{client_adds, server_adds}
use Rattle.coap_record.specs.Record.{Entry, OfClient, OfServer, Turn, entries_of, client_of, server_trace}
use Rattle.coap_promise.proofs.Facts.Delivery.ClientInTime as client
use Rattle.coap_promise.proofs.Facts.Delivery.EntriesInTime.{Every, Timely}
use Rattle.coap_promise.proofs.Facts.Delivery.OneEndATurn.{ClientTurn, ServerTurn}
use Rattle.coap_promise.proofs.Facts.Delivery.ServerInTime as server
use Rattle.coap_promise.proofs.Facts.Delivery.ClientTurns.{all_at as client_at}
use Rattle.coap_promise.proofs.Facts.Delivery.ServerTurns.{all_at as server_at}
use Rattle.coap_smooth.proofs.Smoothly.Ticks.NothingIsLeft.{Stands, before, turned, side_of}
use Rattle.coap_promise.proofs.Facts.Delivery.ClientTurns.{turn_calls as client_turn_calls}
use Rattle.coap_promise.proofs.Facts.Delivery.ServerTurns.{turn_calls as server_turn_calls}

module _ (config : Config) where
  pub record ClientAt (past : List C.Call) (c : C.Call) : Type 0 where
    pub moment : ℕ
    pub at : client.IsAt moment c
    pub timely : Every (Timely moment (client.Fed c)) (client_adds config past c)

  pub record ServerAt (past : List S.Call) (c : S.Call) : Type 0 where
    pub moment : ℕ
    pub at : server.IsAt moment c
    pub by : server.IsBy config moment past
    pub timely : Every (Timely moment (server.Fed c)) (server_adds config past c)

  abbrev pub AtMoment : List Entry → Entry → Type 0
  AtMoment past (OfClient c) = ClientAt (client_of past) c
  AtMoment past (OfServer c) = ServerAt (server_trace config past) c

  -- the calls of a turn
  module _ (t : ℕ) (es : List Entry) where
    client_calls : (cs : List C.Call) → Every (client.IsAt t) cs → client.IsBy config t (client_of es)
        → Always AtMoment es
        → client.IsBy config t (client_of (map OfClient cs ++ es)) × Always AtMoment (map OfClient cs ++ es)
    client_calls [] at by old = (by, old)
    client_calls (c ∷ cs) at by old =
        let k = client_calls cs at.1 by old in
        let past : List C.Call = client_of (map OfClient cs ++ es) in (
          client.next_by config t past c k.0 at.0,
          (record { moment = t; at = at.0; timely = client.adds_timely config t past c k.0 at.0 }, k.1),
        )

    server_calls : (cs : List S.Call) → Every (server.IsAt t) cs → server.IsBy config t (server_trace config es)
        → Always AtMoment es
        → server.IsBy config t (server_trace config (map OfServer cs ++ es)) × Always AtMoment (map OfServer cs ++ es)
    server_calls [] at by old = (by, old)
    server_calls (c ∷ cs) at by old =
        let k = server_calls cs at.1 by old in
        let past : List S.Call = server_trace config (map OfServer cs ++ es) in (
          server.next_by config t past c k.0 at.0,
          (record { moment = t; at = at.0; by = k.0; timely = server.adds_timely config t past c k.0 at.0 }, k.1),
        )

  pub at_moments : (turns : List Turn) → Stands config turns → Always AtMoment (entries_of turns)
  at_moments [] s = tt
  at_moments (turn ∷ past) s = by (at_moments past (before config turn past s)) (side_of config turn past s)
    where
      t : ℕ
      t = turn.event.at

      by : Always AtMoment (entries_of past) → ClientTurn t turn.entries ⊎ ServerTurn t turn.entries
          → Always AtMoment (turn.entries ++ entries_of past)
      by older (inl on) =
          let cs : List C.Call = client_turn_calls on.on.outs on.on.reports on.calls in
          subst (λ z. Always AtMoment (z ++ entries_of past)) (sym on.on.is)
          (client_calls t (entries_of past) cs (client_at t on.on.outs on.on.reports on.calls on.at)
          (turned config turn past s).still.client older).1
      by older (inr on) =
          let cs : List S.Call = server_turn_calls on.on.outs on.calls in
          subst (λ z. Always AtMoment (z ++ entries_of past)) (sym on.on.is)
          (server_calls t (entries_of past) cs (server_at t on.on.outs on.calls on.at)
          (turned config turn past s).still.server older).1
