-- What the message layer of an end sends in a call of a run, that call made: so what is given out was made.
use Rattle.std.proofs.Common.{◌≡◌, ⊎_elim, inl, inr, ◌≤◌, ℕ, Bool, true, false, List, [], ◌∷◌, ◌++◌, refl, ap, sym, ◌∙◌}
use Rattle.std.proofs.Common.{subst, cond, map, arith}
use Rattle.coap_types.specs.Past.{Always, Ever}
use Rattle.coap_types.proofs.Facts.Traces.{Ever_append, Ever_back, Ever_by_law, Ever_front, Ever_map, forget}
use Rattle.coap_types.specs.declared.endpoint.Endpoint.{Endpoint}
use Rattle.coap_layer.specs.Channel.{Far, Hop, Near, OnFar, OnNear}
use Rattle.coap_layer.specs.Machine.State.{State, start}
use Rattle.coap_layer.specs.Machine.Steps.{Asked, entries, left_after}
use Rattle.coap_layer.specs.Sends.{IsIn}
use Rattle.coap_layer.specs.Trace as L
use Rattle.coap_layer.specs.Trace.{Packet}
use Rattle.coap_client.specs.Trace as C
use Rattle.coap_server.specs.Trace as S
use Rattle.coap_promise.specs.AtAnyTime.{Rise}
use Rattle.coap_promise.specs.Clocks.{Clocks}
use Rattle.coap_promise.specs.Hops.{SendsAt, SentIn, client_adds, hops_in, server_adds}
use Rattle.coap_promise.proofs.Facts.Delivery.ClientInTime as client
use Rattle.coap_promise.proofs.Facts.Delivery.EntriesInTime.{Every, Timely}
use Rattle.coap_promise.proofs.Facts.Delivery.ServerInTime as server
use Rattle.coap_record.specs.Events.{Config}
use Rattle.coap_record.specs.Record.{Entry, Given, OfClient, OfServer, client_of, server_trace}
use Rattle.coap_order.specs.Inputs.{is_client_input, is_server_input}
use Rattle.coap_order.specs.Run.{behind, client_waits, given_at, made_at, server_waits}
use Rattle.coap_order.proofs.Channel.{AllGo, made_in, ran}
use Rattle.coap_order.proofs.MadeIsSent.{client_puts, server_puts}

-- what sends something has the moment of its call
at_moment : (t at : ℕ) (G : Endpoint → List ℕ → Type 0) (p : Packet) (xs : List L.Entry) → Every (Timely t G) xs
    → Ever (SendsAt at p) xs → at ≡ t
at_moment t at G p xs times h = forget (at ≡ t) xs
    (Ever_by_law (λ past e. Timely t G e) (SendsAt at p) (λ e. at ≡ t) (λ past e l s. one e l.0 s) xs times h)
  where
    one : (e : L.Entry) → Timely t G e → SendsAt at p e → at ≡ t
    one e l s = ⊎_elim (λ none. absurd (subst (IsIn p) none s.out))
        (λ from. (let k = l.till in let a = s.at in omega (arith, from, k, a))) l.from

given_so : (b : Bool) (at : ℕ) (from : Endpoint) (ps : List Packet) (g : Given) → b ≡ true → g.at ≡ at → g.from ≡ from
    → Ever (λ q. q ≡ g.packet) ps → Ever (λ x. x ≡ g) (cond b (given_at at from ps) [])
given_so b at from ps g is at_is from_is h =
    subst (λ (z : Bool). Ever (λ x. x ≡ g) (cond z (given_at at from ps) [])) (sym is) (go ps h)
  where
    same : (p : Packet) → p ≡ g.packet → record { at = at; from = from; packet = p } ≡ g
    same p e = ap (λ (z : ℕ). record { at = z; from = from; packet = p }) (sym at_is)
        ∙ ap (λ (z : Endpoint). record { at = g.at; from = z; packet = p }) (sym from_is)
        ∙ ap (λ (z : Packet). record { at = g.at; from = g.from; packet = z }) e

    go : (ps : List Packet) → Ever (λ q. q ≡ g.packet) ps → Ever (λ x. x ≡ g) (given_at at from ps)
    go [] k = absurd k
    go (p ∷ ps) (inl k) = inl (same p k)
    go (p ∷ ps) (inr k) = inr (go ps k)

-- only what is sent there
of_near : (P : L.Entry → Type 0) (xs : List L.Entry) → Ever (OnNear P) (map Near xs) → Ever P xs
of_near P [] h = h
of_near P (x ∷ xs) (inl h) = inl h
of_near P (x ∷ xs) (inr h) = inr (of_near P xs h)

no_far : (P : L.Entry → Type 0) (xs : List L.Entry) → Ever (OnFar P) (map Near xs) → ⊥
no_far P [] h = h
no_far P (x ∷ xs) (inl h) = h
no_far P (x ∷ xs) (inr h) = no_far P xs h

of_far : (P : L.Entry → Type 0) (xs : List L.Entry) → Ever (OnFar P) (map Far xs) → Ever P xs
of_far P [] h = h
of_far P (x ∷ xs) (inl h) = inl h
of_far P (x ∷ xs) (inr h) = inr (of_far P xs h)

no_near : (P : L.Entry → Type 0) (xs : List L.Entry) → Ever (OnNear P) (map Far xs) → ⊥
no_near P [] h = h
no_near P (x ∷ xs) (inl h) = h
no_near P (x ∷ xs) (inr h) = no_near P xs h

module _ (config : Config) (c : Clocks) (two : config.addresses.client ≡ config.addresses.server → ⊥) (rise : Rise c)
    (late : ℕ) (g : Given) where
  abbrev Is : Given → Type 0
  Is x = x ≡ g

  -- a call's own
  client_own : (n : ℕ) (is : List ℕ) (past : List Entry) (call : C.Call)
      → AllGo config c late (n ∷ is) (OfClient call ∷ past) → g.from ≡ config.addresses.client
      → Ever (SendsAt g.at g.packet) (client_adds config (client_of past) call)
      → Ever Is (made_at config c n past (OfClient call))
  client_own n is past call go from h =
      let t : ℕ = c.client n in
      let adds : List L.Entry = client_adds config (client_of past) call in
      let b = (ran config c two rise late is past go.1).by n go.0.later in
      let times = client.adds_timely config t (client_of past) call b.client go.0.at in
      let k = client_puts config g.packet (client_of past) call
      (Ever_map (SendsAt g.at g.packet) (λ e. IsIn g.packet e.out) (λ e s. s.out) adds h) in
      given_so (is_client_input call) t config.addresses.client
      (behind (client_waits config (client_of past)) (client_waits config (call ∷ client_of past))) g k.0
      (at_moment t g.at (client.Fed call) g.packet adds times h) from k.1

  server_own : (n : ℕ) (is : List ℕ) (past : List Entry) (call : S.Call)
      → AllGo config c late (n ∷ is) (OfServer call ∷ past) → g.from ≡ config.addresses.server
      → Ever (SendsAt g.at g.packet) (server_adds config (server_trace config past) call)
      → Ever Is (made_at config c n past (OfServer call))
  server_own n is past call go from h =
      let t : ℕ = c.server n in
      let adds : List L.Entry = server_adds config (server_trace config past) call in
      let b = (ran config c two rise late is past go.1).by n go.0.later in
      let times = server.adds_timely config t (server_trace config past) call b.server go.0.at in
      let k = server_puts config g.packet (server_trace config past) call
      (Ever_map (SendsAt g.at g.packet) (λ e. IsIn g.packet e.out) (λ e s. s.out) adds h) in
      given_so (is_server_input call) t config.addresses.server
      (behind (server_waits config (server_trace config past)) (server_waits config (call ∷ server_trace config past)))
      g k.0 (at_moment t g.at (server.Fed call) g.packet adds times h) from k.1

  pub unsent : (is : List ℕ) (es : List Entry) → AllGo config c late is es → SentIn config.addresses
      (hops_in config es) g
      → Ever Is (made_in config c is es)
  unsent [] [] go (inl h) = absurd h.1
  unsent [] [] go (inr h) = absurd h.1
  unsent [] (e ∷ past) go h = absurd go
  unsent (n ∷ is) [] go h = absurd go
  unsent (n ∷ is) (OfClient call ∷ past) go (inl h) =
      let adds : List L.Entry = client_adds config (client_of past) call in
      ⊎_elim
      (λ now. Ever_front Is (made_at config c n past (OfClient call)) (made_in config c is past)
      (client_own n is past call go h.0 (of_near (SendsAt g.at g.packet) adds now)))
      (λ was. Ever_back Is (made_at config c n past (OfClient call)) (made_in config c is past)
      (unsent is past go.1 (inl (h.0, was))))
      (Ever_append (OnNear (SendsAt g.at g.packet)) (map Near adds) (hops_in config past) h.1)
  unsent (n ∷ is) (OfClient call ∷ past) go (inr h) =
      let adds : List L.Entry = client_adds config (client_of past) call in
      ⊎_elim (λ now. absurd (no_far (SendsAt g.at g.packet) adds now))
      (λ was. Ever_back Is (made_at config c n past (OfClient call)) (made_in config c is past)
      (unsent is past go.1 (inr (h.0, was))))
      (Ever_append (OnFar (SendsAt g.at g.packet)) (map Near adds) (hops_in config past) h.1)
  unsent (n ∷ is) (OfServer call ∷ past) go (inl h) =
      let adds : List L.Entry = server_adds config (server_trace config past) call in
      ⊎_elim (λ now. absurd (no_near (SendsAt g.at g.packet) adds now))
      (λ was. Ever_back Is (made_at config c n past (OfServer call)) (made_in config c is past)
      (unsent is past go.1 (inl (h.0, was))))
      (Ever_append (OnNear (SendsAt g.at g.packet)) (map Far adds) (hops_in config past) h.1)
  unsent (n ∷ is) (OfServer call ∷ past) go (inr h) =
      let adds : List L.Entry = server_adds config (server_trace config past) call in
      ⊎_elim
      (λ now. Ever_front Is (made_at config c n past (OfServer call)) (made_in config c is past)
      (server_own n is past call go h.0 (of_far (SendsAt g.at g.packet) adds now)))
      (λ was. Ever_back Is (made_at config c n past (OfServer call)) (made_in config c is past)
      (unsent is past go.1 (inr (h.0, was))))
      (Ever_append (OnFar (SendsAt g.at g.packet)) (map Far adds) (hops_in config past) h.1)
