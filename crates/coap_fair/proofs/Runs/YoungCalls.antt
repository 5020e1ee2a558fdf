-- Where each exchange is young at each event, it is at each call of the client, and at each entry of its message layer.
use Rattle.std.proofs.Common.{◌≡◌, ◌⊎◌, inl, inr, ◌≤◌, ℕ, ◌+◌, List, [], ◌∷◌, ◌++◌, ap, sym, subst, ◌∙◌, arith}
use Rattle.coap_types.specs.Past.{Always}
use Rattle.coap_layer.specs.Trace as L
use Rattle.coap_block.specs.Sizes.{Sizes}
use Rattle.coap_client_laws.specs.Follows.Clock.{moment_of}
use Rattle.coap_client_laws.specs.Follows.Open.{IsOpenSince, BeginsAt}
use Rattle.coap_client.specs.Law.{own_of}
use Rattle.coap_client.specs.Trace as C
use Rattle.coap_client_laws.proofs.Facts.Laws.{clock_is}
use Rattle.coap_server.specs.Trace as S
use Rattle.coap_record.specs.Events.{Config}
use Rattle.coap_promise.specs.Hops.{client_adds}
use Rattle.coap_record.specs.Record.{Turn, entries_of, client_of}
use Rattle.coap_smooth.specs.Young.{AreYoungBy}
use Rattle.coap_promise.proofs.Facts.Delivery.ClientInTime as client
use Rattle.coap_promise.proofs.Facts.Delivery.EntriesInTime.{Every, every_map, Timely}
use Rattle.coap_promise.proofs.Facts.Delivery.OneEndATurn.{ClientTurn, ServerTurn}
use Rattle.coap_record.proofs.Facts.CallsOfEnds.{client_client, client_server}
use Rattle.coap_promise.proofs.Facts.Delivery.ClientTurns.{all_at as client_at}
use Rattle.coap_fair.proofs.Runs.Stands.{Stands, before, turned, side_of}
use Rattle.coap_promise.proofs.Facts.Delivery.ClientTurns.{turn_calls as client_turn_calls}
use Rattle.coap_promise.proofs.Facts.Delivery.ServerTurns.{turn_calls as server_turn_calls}

-- what begins in a turn begins at its moment
pub began_at : (sizes : Sizes) (t at : ℕ) (past : List C.Call) (c : C.Call) → client.IsAt t c → BeginsAt sizes at past c
    → t ≤ at
began_at sizes t at past (C.Feeds now from bytes w up settled event sent token kept) is b =
    let m = b.moment in omega (arith, is, m)
began_at sizes t at past (C.Ticks now w below turn sent token kept answer) is b =
    let m = b.moment in omega (arith, is, m)
began_at sizes t at past _ is b = absurd (cc (b.sends_it))

opened_in : (sizes : Sizes) (t at : ℕ) (cs past : List C.Call) → Every (client.IsAt t) cs
    → IsOpenSince sizes at (cs ++ past)
    → (t ≤ at) ⊎ IsOpenSince sizes at past
opened_in sizes t at [] past h o = inr o
opened_in sizes t at (c ∷ cs) past h (inl b) = inl (began_at sizes t at (cs ++ past) c h.0 b)
opened_in sizes t at (c ∷ cs) past h (inr o) = opened_in sizes t at cs past h.1 o.2

module _ (config : Config) (most : ℕ) where
  -- No exchange that is open as the call is made began so many ms before it, and more.
  pub record YoungAt (past : List C.Call) (c : C.Call) : Type 0 where
    pub moment : (at : ℕ) → IsOpenSince config.client_sizes at past
        → moment_of (own_of config.client_sizes past) c ≤ at + most
    pub adds : (at : ℕ) → IsOpenSince config.client_sizes at past
        → Every (λ (e : L.Entry). e.at ≤ at + most) (client_adds config past c)

  -- the calls of a turn, at whose event each exchange that is open is young
  module _ (t : ℕ) (past : List C.Call)
      (young : (at : ℕ) → IsOpenSince config.client_sizes at past → t ≤ at + most) where
    aged : (at : ℕ) → (t ≤ at) ⊎ IsOpenSince config.client_sizes at past → t ≤ at + most
    aged at (inl h) = omega (arith, h)
    aged at (inr h) = young at h

    young_at : (cs : List C.Call) (c : C.Call) → Every (client.IsAt t) (c ∷ cs) → client.IsBy config t (cs ++ past)
        → YoungAt (cs ++ past) c
    young_at cs c at by =
        record {
          moment = λ since o. (let next = client.next_by config t (cs ++ past) c by at.0 in
              let till : moment_of (own_of config.client_sizes (cs ++ past)) c ≤ t =
              subst (λ (n : ℕ). n ≤ t) (clock_is (own_of config.client_sizes (cs ++ past)) c) next.own in
              let old = aged since (opened_in config.client_sizes t since cs past at.1 o) in
              omega (arith, old, till));
          adds = λ since o. (let old = aged since (opened_in config.client_sizes t since cs past at.1 o) in
              every_map (Timely t (client.Fed c)) (λ (e : L.Entry). e.at ≤ since + most)
              (λ e k. (let z = k.till in omega (arith, z, old))) (client_adds config (cs ++ past) c)
              (client.adds_timely config t (cs ++ past) c by at.0));
        }

    all_young : (cs : List C.Call) → Every (client.IsAt t) cs → client.IsBy config t past → Always YoungAt past
        → client.IsBy config t (cs ++ past) × Always YoungAt (cs ++ past)
    all_young [] at by old = (by, old)
    all_young (c ∷ cs) at by old =
        let k = all_young cs at.1 by old in
        (client.next_by config t (cs ++ past) c k.0 at.0, (young_at cs c at k.0, k.1))

  pub young_calls : (turns : List Turn) → Stands config turns → AreYoungBy config most turns
      → Always YoungAt (client_of (entries_of turns))
  young_calls [] s young = tt
  young_calls (turn ∷ past) s young =
      by (young_calls past (before config turn past s) young.1) (side_of config turn past s)
    where
      by : Always YoungAt (client_of (entries_of past))
          → ClientTurn turn.event.at turn.entries ⊎ ServerTurn turn.event.at turn.entries
          → Always YoungAt (client_of (turn.entries ++ entries_of past))
      by older (inr on) =
          let cs : List S.Call = server_turn_calls on.on.outs on.calls in
          let is : client_of (turn.entries ++ entries_of past) ≡ client_of (entries_of past) =
          ap (λ z. client_of (z ++ entries_of past)) on.on.is ∙ client_server cs (entries_of past) in
          subst (Always YoungAt) (sym is) older
      by older (inl on) =
          let cs : List C.Call = client_turn_calls on.on.outs on.on.reports on.calls in
          let is : client_of (turn.entries ++ entries_of past) ≡ cs ++ client_of (entries_of past) =
          ap (λ z. client_of (z ++ entries_of past)) on.on.is ∙ client_client cs (entries_of past) in
          subst (Always YoungAt) (sym is)
          (all_young turn.event.at (client_of (entries_of past)) young.0 cs
          (client_at turn.event.at on.on.outs on.on.reports on.calls on.at)
          (turned config turn past s).still.client older).1
