-- In a smooth run no Confirmable message of the server to the client is outstanding for more than 2,000 ms, at any
-- call.
use Rattle.std.proofs.Common.{◌≡◌, ◌⊎◌, inl, inr, ⊎_elim, ◌≤◌, ℕ, ◌+◌, Some, List, [], ◌∷◌, ◌++◌, map, refl, ap, sym}
use Rattle.std.proofs.Common.{subst, ◌∙◌, arith, append_assoc}
use Rattle.std.proofs.Math.Decide.{dec_le}
use Rattle.coap_types.specs.Past.{Ever, Always}
use Rattle.coap_types.proofs.Facts.Traces.{Ever_append}
use Rattle.coap_layer.specs.Rows.{LayerLaw}
use Rattle.coap_layer.specs.Sends.{IsOpen}
use Rattle.coap_layer.specs.Trace as L
use Rattle.coap_layer.specs.Words.{Open, begun}
use Rattle.coap_layer.proofs.Facts.Laws.{begins_of}
use Rattle.coap_client_laws.proofs.Facts.Exchanges.{open_before}
use Rattle.coap_client.specs.Trace as C
use Rattle.coap_server.specs.Law.{own_of}
use Rattle.coap_server.specs.Trace as S
use Rattle.coap_server_laws.proofs.Facts.Laws as server_facts
use Rattle.coap_record.specs.Events.{Config}
use Rattle.coap_promise.specs.Hops.{server_adds}
use Rattle.coap_record.specs.Record.{Entry, OfClient, OfServer, Turn, entries_of, server_trace}
use Rattle.coap_smooth.specs.Smooth.{max_age}
use Rattle.coap_promise.proofs.Facts.Delivery.EntriesInTime.{Every, Timely}
use Rattle.coap_promise.proofs.Facts.Delivery.HopsAreEntries.{server_layer, server_next, far_is}
use Rattle.coap_promise.proofs.Facts.Delivery.OneEndATurn.{ClientTurn, ServerTurn}
use Rattle.coap_promise.proofs.Facts.Delivery.ServerInTime as server
use Rattle.coap_smooth.proofs.Smoothly.Arriving.AllTaken.{Beneath, Goes, goes_before, taken_here}
use Rattle.coap_promise.proofs.Facts.Delivery.ServerTurns.{all_at as server_at}
use Rattle.coap_smooth.proofs.Smoothly.Requests.RequestOpen.{open_was_begun}
use Rattle.coap_smooth.proofs.Smoothly.Ticks.NothingIsLeft.{ForServer, server_behind, turned, side_of}
use Rattle.coap_promise.proofs.Facts.Delivery.ClientTurns.{turn_calls as client_turn_calls}
use Rattle.coap_promise.proofs.Facts.Delivery.ServerTurns.{turn_calls as server_turn_calls}

-- the call of the server has this moment
abbrev pub EntryAt : ℕ → Entry → Type 0
EntryAt t (OfClient c) = Unit {0}
EntryAt t (OfServer c) = server.IsAt t c

clients_at : (t : ℕ) (cs : List C.Call) → Every (EntryAt t) (map OfClient cs)
clients_at t [] = tt
clients_at t (c ∷ cs) = (tt, clients_at t cs)

servers_at : (t : ℕ) (cs : List S.Call) → Every (server.IsAt t) cs → Every (EntryAt t) (map OfServer cs)
servers_at t [] h = tt
servers_at t (c ∷ cs) h = (h.0, servers_at t cs h.1)

turn_at : (t : ℕ) (entries : List Entry) → ClientTurn t entries ⊎ ServerTurn t entries → Every (EntryAt t) entries
turn_at t entries (inl on) = subst (Every (EntryAt t)) (sym on.on.is)
    (clients_at t (client_turn_calls on.on.outs on.on.reports on.calls))
turn_at t entries (inr on) = subst (Every (EntryAt t)) (sym on.on.is)
    (servers_at t (server_turn_calls on.on.outs on.calls)
    (server_at t on.on.outs on.calls on.at))

-- what begins there begins no earlier
begun_since : (t : ℕ) (F : _) (es : List L.Entry) (con : Open) → Every (Timely t F) es
    → Ever (λ b. begun b ≡ Some con) es → t ≤ con.first
begun_since t F [] con all h = absurd h
begun_since t F (e ∷ es) con all (inr h) = begun_since t F es con all.1 h
begun_since t F (e ∷ es) con all (inl h) = by all.0.since
  where
    by : (e.call ≡ L.Take) ⊎ (t ≤ e.at) → t ≤ con.first
    by (inl k) = let b = begins_of e con h in let z = sym b.call_is ∙ k in absurd (cc z)
    by (inr k) = let b = begins_of e con h in let f = b.first_is in omega (arith, k, f)

module _ (config : Config) where
  abbrev pub layer_at : List Entry → List L.Entry
  layer_at es = server_layer config (server_trace config es)

  pub front_at : (mid es : List Entry) → (front : List L.Entry) × (layer_at (mid ++ es) ≡ front ++ layer_at es)
  front_at [] es = ([], refl)
  front_at (OfClient c ∷ mid) es = front_at mid es
  front_at (OfServer c ∷ mid) es =
      let k = front_at mid es in
      let t : List S.Call = server_trace config (mid ++ es) in (
        server_adds config t c ++ k.0,
        server_next config t c ∙ (ap (λ l. server_adds config t c ++ l) k.1
            ∙ sym (append_assoc (server_adds config t c) k.0 (layer_at es))),
      )

  by_in : (t : ℕ) (mid es : List Entry) → Every (EntryAt t) mid → server.IsBy config t (server_trace config es)
      → server.IsBy config t (server_trace config (mid ++ es))
  by_in t [] es at by = by
  by_in t (OfClient c ∷ mid) es at by = by_in t mid es at.1 by
  by_in t (OfServer c ∷ mid) es at by =
      server.next_by config t (server_trace config (mid ++ es)) c (by_in t mid es at.1 by) at.0

  begun_in : (t : ℕ) (con : Open) (mid es : List Entry) → Every (EntryAt t) mid
      → server.IsBy config t (server_trace config es) → Ever (λ b. begun b ≡ Some con) (layer_at (mid ++ es))
      → (t ≤ con.first) ⊎ Ever (λ b. begun b ≡ Some con) (layer_at es)
  begun_in t con [] es at by h = inr h
  begun_in t con (OfClient c ∷ mid) es at by h = begun_in t con mid es at.1 by h
  begun_in t con (OfServer c ∷ mid) es at by h =
      let calls : List S.Call = server_trace config (mid ++ es) in
      ⊎_elim
      (λ now. inl (begun_since t (server.Fed c) (server_adds config calls c) con
      (server.adds_timely config t calls c (by_in t mid es at.1 by) at.0) now))
      (λ k. begun_in t con mid es at.1 by k)
      (Ever_append (λ b. begun b ≡ Some con) (server_adds config calls c) (server_layer config calls)
      (subst (Ever (λ b. begun b ≡ Some con)) (server_next config calls c) h))

  -- a call of the server, its moment, and what is outstanding before it
  pub record IsTimely (past : List Entry) (c : S.Call) : Type 0 where
    pub at : ℕ
    pub is_at : server.IsAt at c
    pub timely : Every (Timely at (server.Fed c)) (server_adds config (server_trace config past) c)
    pub clock : (own_of config.limits config.server_szx (c ∷ server_trace config past)).clock ≤ at
    pub young : (con : Open) → con.to ≡ config.addresses.client → IsOpen (layer_at past) con
        → at ≤ con.first + (max_age + max_age)

  abbrev pub AtMoment : List Entry → Entry → Type 0
  AtMoment past (OfClient c) = Unit {0}
  AtMoment past (OfServer c) = IsTimely past c

  module _ (beneath : Beneath) (turn : Turn) (past : List Turn) (g : Goes config (turn ∷ past)) where
    abbrev at : ℕ
    at = turn.event.at

    abbrev es : List Entry
    es = entries_of past

    entries_at : Every (EntryAt at) turn.entries
    entries_at = turn_at at turn.entries (side_of config turn past g.stands)

    young_at : (later mid : List Entry) → turn.entries ≡ later ++ mid → Every (EntryAt at) mid → (con : Open)
        → con.to ≡ config.addresses.client → IsOpen (layer_at (mid ++ es)) con → at ≤ con.first + (max_age + max_age)
    young_at later mid is each con to o =
        by (begun_in at con mid es each (turned config turn past g.stands).still.server
        (open_was_begun (layer_at (mid ++ es)) con o))
      where
        law : LayerLaw config.server_setup (layer_at (mid ++ es))
        law = server_facts.layer config.limits config.server_szx config.server_setup (server_trace config (mid ++ es))
            (server_behind config later (mid ++ es)
            (subst (ForServer config) (ap (λ z. z ++ es) is ∙ append_assoc later mid es) g.stands.server))

        by : (at ≤ con.first) ⊎ Ever (λ b. begun b ≡ Some con) (layer_at es) → at ≤ con.first + (max_age + max_age)
        by (inl k) = omega (arith, k)
        by (inr was) =
            elim (dec_le (1 + (con.first + max_age + max_age)) at) [
              | yes old ↦ (let far = far_is config es in
                  let k = front_at mid es in
                  let was_open = open_before config.server_setup k.0 (layer_at es) con
                  (subst (LayerLaw config.server_setup) k.1 law) was (subst (λ l. IsOpen l con) k.1 o) in
                  absurd ((taken_here config beneath turn past g).over con
                  (subst (Ever (λ b. begun b ≡ Some con)) (sym far) was) to (omega (arith, old))
                  (subst (λ l. IsOpen l con) (sym far) was_open)))
              | no young ↦ omega (arith, young)
            ]

    in_turn : (later mid : List Entry) → turn.entries ≡ later ++ mid → Every (EntryAt at) mid
        → Always AtMoment es → Always AtMoment (mid ++ es)
    in_turn later [] is each old = old
    in_turn later (OfClient c ∷ mid) is each old = (
      tt,
      in_turn (later ++ OfClient c ∷ []) mid (is ∙ sym (append_assoc later (OfClient c ∷ []) mid)) each.1 old,
    )
    in_turn later (OfServer c ∷ mid) is each old =
        let next = is ∙ sym (append_assoc later (OfServer c ∷ []) mid) in
        let calls : List S.Call = server_trace config (mid ++ es) in
        let by = by_in at mid es each.1 (turned config turn past g.stands).still.server in (
          record {
            at = at;
            is_at = each.0;
            timely = server.adds_timely config at calls c by each.0;
            clock = (server.next_by config at calls c by each.0).own;
            young = young_at (later ++ OfServer c ∷ []) mid next each.1;
          },
          in_turn (later ++ OfServer c ∷ []) mid next each.1 old,
        )

  pub all_moments : Beneath → (turns : List Turn) → Goes config turns → Always AtMoment (entries_of turns)
  all_moments beneath [] g = tt
  all_moments beneath (turn ∷ past) g = in_turn beneath turn past g [] turn.entries refl
      (entries_at beneath turn past g)
      (all_moments beneath past (goes_before config turn past g))
