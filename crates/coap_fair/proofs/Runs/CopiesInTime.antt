-- Where no copy is overdue at an event, none is at an entry of the client's layer.
use Rattle.std.proofs.Common.{◌≡◌, ◌⊎◌, inl, inr, ◌≤◌, ◌<◌, ℕ, ◌-◌, ◌*◌, Bool, true, false, cond, Some, None}
use Rattle.std.proofs.Common.{List, [], ◌∷◌, ◌++◌, refl, ap, sym, subst, ◌∙◌, arith, option_to_list}
use Rattle.std.specs.List.{filter_map}
use Rattle.coap_types.specs.Past.{Ever, Always}
use Rattle.coap_types.proofs.Facts.Traces.{Ever_append, Ever_map}
use Rattle.coap_types.specs.declared.endpoint.Endpoint.{Endpoint}
use Rattle.coap_types.specs.declared.transmission.TheConstants.{MAX_RETRANSMIT as max_retransmit}
use Rattle.coap_layer.specs.BackOff.{factors}
use Rattle.coap_layer.specs.Sends.{IsIn}
use Rattle.coap_layer.specs.Trace as L
use Rattle.coap_layer.specs.Words.{Open, begun, begun_in, copies_in, ends_in, left_by, outstanding}
use Rattle.coap_layer.proofs.Copies.CopiesInTime.{begun_fresh, in_filter_map, in_option}
use Rattle.coap_client.specs.Trace as C
use Rattle.coap_server.specs.Trace as S
use Rattle.coap_record.specs.Events.{Config}
use Rattle.coap_record.specs.Record.{Turn, entries_of, client_of}
use Rattle.coap_record.proofs.Facts.CallsOfEnds.{client_client, client_server}
use Rattle.coap_promise.specs.Hops.{client_adds}
use Rattle.coap_promise.proofs.Facts.Delivery.ClientInTime as client
use Rattle.coap_promise.proofs.Facts.Delivery.ClientTurns.{all_at as client_at, turn_calls as client_turn_calls}
use Rattle.coap_promise.proofs.Facts.Delivery.EntriesInTime.{Every, Timely}
use Rattle.coap_promise.proofs.Facts.Delivery.HopsAreEntries.{client_layer, client_next, near_is}
use Rattle.coap_promise.proofs.Facts.Delivery.OneEndATurn.{ClientTurn, ServerTurn}
use Rattle.coap_promise.proofs.Facts.Delivery.ServerTurns.{turn_calls as server_turn_calls}
use Rattle.coap_fair.specs.FairLoss.{CopiesInTime}
use Rattle.coap_fair.specs.FiveCopies.{max_age, NoneOverdue}
use Rattle.coap_fair.proofs.Runs.Stands.{Stands, before, turned, side_of}

none_of : (P : ℕ → Type 0) (ks : List ℕ) → ((k : ℕ) → P k → ⊥) → Ever P ks → ⊥
none_of P [] f h = h
none_of P (k ∷ ks) f (inl h) = f k h
none_of P (k ∷ ks) f (inr h) = none_of P ks f h

-- no copy is overdue as the entry is made
abbrev pub Up : List L.Entry → L.Entry → Type 0
Up past e = NoneOverdue past e.at

abbrev IsDue : ℕ → Open → ℕ → Type 0
IsDue now con k = (con.last - con.first < con.timeout * k) × (con.timeout * k ≤ (now - con.first) - max_age)

earlier : (past : List L.Entry) (now then : ℕ) → then ≤ now → NoneOverdue past now → NoneOverdue past then
earlier past now then le none con there h =
    none con there (Ever_map (IsDue then con) (IsDue now con)
    (λ k d. (d.0, (let a = d.1 in omega (arith, a, le)))) (factors max_retransmit) h)

fresh_due : (due first last at now : ℕ) → first ≡ at → last ≡ at → now ≤ at → last - first < due
    → due ≤ (now - first) - 1000 → ⊥
fresh_due due first last at now f l le less more = omega (arith, f, l, le, less, more)

copied_due : (due first last at now : ℕ) → at ≡ last → now ≤ at → last - first < due → due ≤ (now - first) - 1000 → ⊥
copied_due due first last at now l le less more = omega (arith, l, le, less, more)

module _ (now : ℕ) where
  stays : (e : L.Entry) (past : List L.Entry) → (e.call ≡ L.Take) ⊎ (now ≤ e.at) → NoneOverdue past now
      → NoneOverdue (e ∷ past) now
  stays e past late none con there over =
      elim (Ever_append (λ y. y ≡ con) (filter_map (left_by e) (outstanding past)) (option_to_list (begun e)) there) [
        | inl old ↦ (let q = in_filter_map (left_by e) con (outstanding past) old in kept q.0 q.1 q.2)
        | inr new ↦ fresh late (in_option con (begun e) new)
      ]
    where
      fresh : (e.call ≡ L.Take) ⊎ (now ≤ e.at) → begun e ≡ Some con → ⊥
      fresh (inl take) is = let z = sym (ap (λ c. begun_in e.at c e.answer) take) ∙ is in cc z
      fresh (inr le) is =
          let f = begun_fresh e.at e.call e.answer con is in
          none_of (IsDue now con) (factors max_retransmit)
          (λ k d. fresh_due (con.timeout * k) con.first con.last e.at now f.0 f.1 le d.0 d.1) over

      copied : (e.call ≡ L.Take) ⊎ (now ≤ e.at) → (q : Open) → copies_in e.call e.answer q.to q.id ≡ true
          → record q { last = e.at } ≡ con → ⊥
      copied (inl take) q is con_is =
          let z = sym (ap (λ c. copies_in c e.answer q.to q.id) take) ∙ is in cc z
      copied (inr le) q is con_is =
          let last_is : e.at ≡ con.last = ap (λ (z : Open). z.last) con_is in
          none_of (IsDue now con) (factors max_retransmit)
          (λ k d. copied_due (con.timeout * k) con.first con.last e.at now last_is le d.0 d.1) over

      kept : (q : Open) → IsIn q (outstanding past) → left_by e q ≡ Some con → ⊥
      kept q there_q left = by (ends_in e.call e.answer q.to q.id) (copies_in e.call e.answer q.to q.id) refl left
        where
          by : (x y : Bool) → copies_in e.call e.answer q.to q.id ≡ y
              → cond x None (cond y (Some (record q { last = e.at })) (Some q)) ≡ Some con → ⊥
          by true y is h = cc h
          by false true is h = copied late q is (cc h)
          by false false is h =
              let same : q ≡ con = cc h in
              none con (subst (λ z. IsIn z (outstanding past)) same there_q) over

  entries_up : (Fed : Endpoint → List ℕ → Type 0) (es past : List L.Entry) → Every (Timely now Fed) es
      → NoneOverdue past now → Always Up past → NoneOverdue (es ++ past) now × Always Up (es ++ past)
  entries_up Fed [] past h none old = (none, old)
  entries_up Fed (e ∷ es) past h none old =
      let k = entries_up Fed es past h.1 none old in
      (stays e (es ++ past) h.0.since k.0, (earlier (es ++ past) now e.at h.0.till k.0, k.1))

module _ (config : Config) where
  abbrev layer : List C.Call → List L.Entry
  layer t = client_layer config t

  record UpTo (now : ℕ) (t : List C.Call) : Type 0 where
    by : client.IsBy config now t
    none : NoneOverdue (layer t) now
    up : Always Up (layer t)

  calls_up : (now : ℕ) (cs past : List C.Call) → Every (client.IsAt now) cs → UpTo now past → UpTo now (cs ++ past)
  calls_up now [] past at k = k
  calls_up now (c ∷ cs) past at old =
      let k = calls_up now cs past at.1 old in
      let next = client_next config (cs ++ past) c in
      let e = entries_up now (client.Fed c) (client_adds config (cs ++ past) c) (layer (cs ++ past))
      (client.adds_timely config now (cs ++ past) c k.by at.0) k.none k.up in
      record {
        by = client.next_by config now (cs ++ past) c k.by at.0;
        none = subst (λ l. NoneOverdue l now) (sym next) e.0;
        up = subst (Always Up) (sym next) e.1;
      }

  pub all_up : (ms : ℕ) (turns : List Turn) → Stands config turns → CopiesInTime ms config turns
      → Always Up (layer (client_of (entries_of turns)))
  all_up ms [] s in_time = tt
  all_up ms (turn ∷ past) s in_time =
      by (all_up ms past (before config turn past s) in_time.1) (side_of config turn past s)
    where
      by : Always Up (layer (client_of (entries_of past)))
          → ClientTurn turn.event.at turn.entries ⊎ ServerTurn turn.event.at turn.entries
          → Always Up (layer (client_of (turn.entries ++ entries_of past)))
      by old (inr on) =
          let cs : List S.Call = server_turn_calls on.on.outs on.calls in
          let is : client_of (turn.entries ++ entries_of past) ≡ client_of (entries_of past) =
          ap (λ z. client_of (z ++ entries_of past)) on.on.is ∙ client_server cs (entries_of past) in
          subst (λ t. Always Up (layer t)) (sym is) old
      by old (inl on) =
          let cs : List C.Call = client_turn_calls on.on.outs on.on.reports on.calls in
          let is : client_of (turn.entries ++ entries_of past) ≡ cs ++ client_of (entries_of past) =
          ap (λ z. client_of (z ++ entries_of past)) on.on.is ∙ client_client cs (entries_of past) in
          let k = calls_up turn.event.at cs (client_of (entries_of past))
          (client_at turn.event.at on.on.outs on.on.reports on.calls on.at) (record {
            by = (turned config turn past s).still.client;
            none = subst (λ l. NoneOverdue l turn.event.at) (near_is config (entries_of past)) in_time.0;
            up = old;
          }) in
          subst (λ t. Always Up (layer t)) (sym is) k.up
