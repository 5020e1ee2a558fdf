-- What an input makes, the message layer of its end sends in that very call.
use Rattle.std.proofs.Common.{◌≡◌, ⊎_elim, inl, inr, ℕ, true, false, List, [], ◌∷◌, ◌++◌, refl, ap, sym, ◌∙◌}
use Rattle.std.proofs.Common.{Bool, subst, drop, cond, arith, append_assoc}
use Rattle.std.proofs.lemmas.List.{append-nil}
use Rattle.coap_types.specs.Past.{Ever}
use Rattle.coap_types.proofs.Facts.Traces.{Ever_append, Ever_back, Ever_by_law, Ever_front}
use Rattle.coap_types.specs.declared.endpoint.Endpoint.{Endpoint}
use Rattle.coap_layer.specs.Machine.State.{State, start}
use Rattle.coap_layer.specs.Machine.Steps.{Asked, entries, left_after}
use Rattle.coap_layer.specs.Sends.{IsIn}
use Rattle.coap_layer.specs.Trace as L
use Rattle.coap_layer.specs.Trace.{Packet}
use Rattle.coap_layer.specs.Words.{takes_in}
use Rattle.coap_layer.specs.declared.setup.Setup.{Setup}
use Rattle.coap_exchange.proofs.Facts.Adds.{left_append}
use Rattle.coap_exchange.specs.Adds.{asked_by_client, asked_by_server}
use Rattle.coap_exchange.specs.AnswererTrace as R
use Rattle.coap_exchange.specs.AnswererLaw as answerer
use Rattle.coap_exchange.specs.AskerTrace as A
use Rattle.coap_exchange.specs.AskerLaw as asker
use Rattle.coap_client.specs.Law as client_law
use Rattle.coap_client.specs.Trace as C
use Rattle.coap_server.specs.Law as server_law
use Rattle.coap_server.specs.Trace as S
use Rattle.coap_promise.specs.Hops.{SendsAt, SentIn, client_adds, client_asked, client_asks, hops_in, server_adds}
use Rattle.coap_promise.specs.Hops.{server_asked, server_asks}
use Rattle.coap_promise.proofs.Facts.Delivery.AfterATurn.{on_far, on_near}
use Rattle.coap_promise.proofs.Facts.Delivery.EntriesInTime.{Every, Timely}
use Rattle.coap_promise.proofs.Facts.Delivery.HopsAreEntries.{client_asked_next, server_asked_next}
use Rattle.coap_record.specs.Events.{Config}
use Rattle.coap_record.specs.Record.{Entry, Given, OfClient, OfServer, client_of, server_trace}
use Rattle.coap_order.specs.Inputs.{is_client_input, is_server_input}
use Rattle.coap_order.specs.Queue.{NoneTakes, made_by, outs}
use Rattle.coap_order.specs.Run.{behind, client_waits, given_at, server_waits}
use Rattle.coap_order.proofs.ClientChains as client_chains
use Rattle.coap_order.proofs.ClientSteps as client_steps
use Rattle.coap_order.proofs.ServerChains as server_chains
use Rattle.coap_order.proofs.ServerSteps as server_steps
use Rattle.coap_order.proofs.Waiting.{none_both}

-- calls of a layer that take nothing put theirs behind what waits

one_puts : (q o r : List Packet) (n : ℕ) → n ≡ 0 → r ≡ drop n q ++ o → r ≡ q ++ o
one_puts q o r n none is = is ∙ ap (λ (m : ℕ). drop m q ++ o) none

queue_after : (old : State) (asks : List Asked) → NoneTakes asks → (left_after old asks).queue ≡ old.queue
    ++ outs old asks
queue_after old [] none = sym (append-nil old.queue)
queue_after old (a ∷ earlier) none =
    let s : State = left_after old earlier in
    one_puts s.queue (made_by s a) (left_after old (a ∷ earlier)).queue (takes_in a.call) none.0 refl
    ∙ ap (λ (q : List Packet). q ++ made_by s a) (queue_after old earlier none.1)
    ∙ append_assoc old.queue (outs old earlier) (made_by s a)

-- .. and so they stand in its entries
in_entries : (p : Packet) (old : State) (asks : List Asked) → Ever (λ q. q ≡ p) (outs old asks)
    → Ever (λ e. IsIn p e.out) (entries old asks)
in_entries p old [] h = h
in_entries p old (a ∷ earlier) h =
    ⊎_elim (λ l. inr (in_entries p old earlier l)) (λ r. inl r)
    (Ever_append (λ q. q ≡ p) (outs old earlier) (made_by (left_after old earlier) a) h)

-- .. and back
of_entries : (p : Packet) (old : State) (asks : List Asked) → Ever (λ e. IsIn p e.out) (entries old asks)
    → Ever (λ q. q ≡ p) (outs old asks)
of_entries p old [] h = h
of_entries p old (a ∷ earlier) (inl h) =
    Ever_back (λ q. q ≡ p) (outs old earlier) (made_by (left_after old earlier) a) h
of_entries p old (a ∷ earlier) (inr h) =
    Ever_front (λ q. q ≡ p) (outs old earlier) (made_by (left_after old earlier) a) (of_entries p old earlier h)

drop_front : (q o : List Packet) → behind q (q ++ o) ≡ o
drop_front [] o = refl
drop_front (x ∷ q) o = drop_front q o

sends : (t : ℕ) (G : Endpoint → List ℕ → Type 0) (p : Packet) (e : L.Entry) → Timely t G e → IsIn p e.out
    → SendsAt t p e
sends t G p e time h = ⊎_elim (λ none. absurd (subst (IsIn p) none h))
    (λ from. (let k = time.till in record { out = h; at = omega (arith, from, k) })) time.from

module _ (t : ℕ) (G : Endpoint → List ℕ → Type 0) (p : Packet) where
  sent_here : (old : State) (asks : List Asked) → NoneTakes asks → Every (Timely t G) (entries old asks)
      → Ever (λ q. q ≡ p) (behind old.queue (left_after old asks).queue) → Ever (SendsAt t p) (entries old asks)
  sent_here old asks none times h =
      let now = subst (Ever (λ q. q ≡ p))
      (ap (behind old.queue) (queue_after old asks none) ∙ drop_front old.queue (outs old asks)) h in
      Ever_by_law (λ past e. Timely t G e) (λ e. IsIn p e.out) (SendsAt t p) (λ past e l i. sends t G p e l.0 i)
      (entries old asks) times (in_entries p old asks now)

-- what exchanges ask of the layer takes nothing, where they take nothing

none_by_server : (past calls : List R.Call) → server_chains.NoTakes calls → NoneTakes (asked_by_server past calls)
none_by_server past [] h = tt
none_by_server past (c ∷ later) h =
    none_both _ (asked_by_server past later)
    (server_chains.none_taken (answerer.own_of (later ++ past)) c h.0) (none_by_server past later h.1)

none_by_client : (to : Endpoint) (setup : Setup) (past calls : List A.Call) → client_chains.NoTakes calls
    → NoneTakes (asked_by_client to setup past calls)
none_by_client to setup past [] h = tt
none_by_client to setup past (c ∷ later) h =
    none_both _ (asked_by_client to setup past later)
    (client_chains.none_taken (asker.own_of to setup (later ++ past)) c h.0) (none_by_client to setup past later h.1)

-- some datagram of a list, as it was given out
pub of_given : (at : ℕ) (from : Endpoint) (g : Given) (ps : List Packet) → Ever (λ x. x ≡ g) (given_at at from ps)
    → (g.at ≡ at) × (g.from ≡ from) × Ever (λ q. q ≡ g.packet) ps
of_given at from g [] h = absurd h
of_given at from g (p ∷ ps) (inl h) =
    (sym (ap (λ (x : Given). x.at) h), sym (ap (λ (x : Given). x.from) h), inl (ap (λ (x : Given). x.packet) h))
of_given at from g (p ∷ ps) (inr h) = let k = of_given at from g ps h in (k.0, k.1, inr k.2)

module _ (config : Config) where
  server_sends : (t : ℕ) (G : Endpoint → List ℕ → Type 0) (p : Packet) (past : List S.Call) (c : S.Call)
      → is_server_input c ≡ true → Every (Timely t G) (server_adds config past c)
      → Ever (λ q. q ≡ p) (behind (server_waits config past) (server_waits config (c ∷ past)))
      → Ever (SendsAt t p) (server_adds config past c)
  server_sends t G p past c input times h =
      let old : State = left_after (start config.server_setup) (server_asked config past) in
      sent_here t G p old (server_asks config past c)
      (none_by_server (server_law.lower_of config.limits config.server_szx past) _
      (server_steps.no_take (server_law.own_of config.limits config.server_szx past) c input)) times
      (subst (λ (s : State). Ever (λ q. q ≡ p) (behind old.queue s.queue))
      (ap (left_after (start config.server_setup)) (server_asked_next config past c)
      ∙ left_append (start config.server_setup) (server_asks config past c) (server_asked config past)) h)

  client_sends : (t : ℕ) (G : Endpoint → List ℕ → Type 0) (p : Packet) (past : List C.Call) (c : C.Call)
      → is_client_input c ≡ true → Every (Timely t G) (client_adds config past c)
      → Ever (λ q. q ≡ p) (behind (client_waits config past) (client_waits config (c ∷ past)))
      → Ever (SendsAt t p) (client_adds config past c)
  client_sends t G p past c input times h =
      let old : State = left_after (start config.client_setup) (client_asked config past) in
      sent_here t G p old (client_asks config past c)
      (none_by_client config.addresses.server config.client_setup (client_law.lower_of config.client_sizes past) _
      (client_steps.no_take (client_law.own_of config.client_sizes past) c input)) times
      (subst (λ (s : State). Ever (λ q. q ≡ p) (behind old.queue s.queue))
      (ap (left_after (start config.client_setup)) (client_asked_next config past c)
      ∙ left_append (start config.client_setup) (client_asks config past c) (client_asked config past)) h)

  -- what a call makes is in its hops, at its moment

  pub server_sent : (t : ℕ) (G : Endpoint → List ℕ → Type 0) (g : Given) (past : List Entry) (c : S.Call)
      → Every (Timely t G) (server_adds config (server_trace config past) c) → (input : Bool)
      → is_server_input c ≡ input
      → Ever (λ x. x ≡ g) (cond input (given_at t config.addresses.server
      (behind (server_waits config (server_trace config past)) (server_waits config
      (c ∷ server_trace config past)))) [])
      → (g.at ≡ t) × (g.from ≡ config.addresses.server) × SentIn config.addresses (hops_in config (OfServer c ∷ past)) g
  server_sent t G g past c times false is h = absurd h
  server_sent t G g past c times true is h =
      let k = of_given t config.addresses.server g _ h in (
        k.0,
        k.1,
        inr (
          k.1,
          on_far (SendsAt g.at g.packet) (server_adds config (server_trace config past) c) (hops_in config past)
              (subst (λ (m : ℕ). Ever (SendsAt m g.packet) (server_adds config (server_trace config past) c)) (sym k.0)
              (server_sends t G g.packet (server_trace config past) c is times k.2)),
        ),
      )

  pub client_sent : (t : ℕ) (G : Endpoint → List ℕ → Type 0) (g : Given) (past : List Entry) (c : C.Call)
      → Every (Timely t G) (client_adds config (client_of past) c) → (input : Bool) → is_client_input c ≡ input
      → Ever (λ x. x ≡ g) (cond input (given_at t config.addresses.client
      (behind (client_waits config (client_of past)) (client_waits config (c ∷ client_of past)))) [])
      → (g.at ≡ t) × (g.from ≡ config.addresses.client) × SentIn config.addresses (hops_in config (OfClient c ∷ past)) g
  client_sent t G g past c times false is h = absurd h
  client_sent t G g past c times true is h =
      let k = of_given t config.addresses.client g _ h in (
        k.0,
        k.1,
        inl (
          k.1,
          on_near (SendsAt g.at g.packet) (client_adds config (client_of past) c) (hops_in config past)
              (subst (λ (m : ℕ). Ever (SendsAt m g.packet) (client_adds config (client_of past) c)) (sym k.0)
              (client_sends t G g.packet (client_of past) c is times k.2)),
        ),
      )

  -- what the layer sends in a call, an input made

  no_server_out : (p : Packet) (past : List S.Call) (c : S.Call) → is_server_input c ≡ false
      → Ever (λ e. IsIn p e.out) (server_adds config past c) → ⊥
  no_server_out p past (S.NextOut answer) e (inl h) = h
  no_server_out p past (S.NextOut answer) e (inr h) = h
  no_server_out p past (S.Gets path answer) e h = h
  no_server_out p past (S.TellsApplied answer) e h = h
  no_server_out p past (S.Sets now path format body answer left) e h = absurd (cc e)
  no_server_out p past (S.Removes now path answer left) e h = absurd (cc e)
  no_server_out p past (S.Delays path ms answer) e h = absurd (cc e)
  no_server_out p past (S.Plains path answer) e h = absurd (cc e)
  no_server_out p past (S.Feeds now from bytes word up came w below) e h = absurd (cc e)
  no_server_out p past (S.Refuses now from bytes word code up came response below) e h = absurd (cc e)
  no_server_out p past (S.Ticks now word below room due passed w id answer) e h = absurd (cc e)
  no_server_out p past (S.Forgets peer) e h = absurd (cc e)

  no_client_out : (p : Packet) (past : List C.Call) (c : C.Call) → is_client_input c ≡ false
      → Ever (λ e. IsIn p e.out) (client_adds config past c) → ⊥
  no_client_out p past (C.NextOut answer) e (inl h) = h
  no_client_out p past (C.NextOut answer) e (inr h) = h
  no_client_out p past (C.NextReport answer) e h = h
  no_client_out p past (C.Asked answer) e h = h
  no_client_out p past (C.Calls now r answer) e h = absurd (cc e)
  no_client_out p past (C.Observes now path answer) e h = absurd (cc e)
  no_client_out p past (C.Cancels now number answer) e h = absurd (cc e)
  no_client_out p past (C.Forgets number kept answer) e h = absurd (cc e)
  no_client_out p past (C.Feeds now from bytes word up settled event sent token kept) e h = absurd (cc e)
  no_client_out p past (C.Ticks now word below turn sent token kept answer) e h = absurd (cc e)

  pub server_puts : (p : Packet) (past : List S.Call) (c : S.Call)
      → Ever (λ e. IsIn p e.out) (server_adds config past c)
      → (is_server_input c ≡ true)
      × Ever (λ q. q ≡ p) (behind (server_waits config past) (server_waits config (c ∷ past)))
  server_puts p past c h = by (is_server_input c) refl
    where
      by : (b : Bool) → is_server_input c ≡ b → (is_server_input c ≡ true)
          × Ever (λ q. q ≡ p) (behind (server_waits config past) (server_waits config (c ∷ past)))
      by false e = absurd (no_server_out p past c e h)
      by true e =
          let old : State = left_after (start config.server_setup) (server_asked config past) in
          let asks : List Asked = server_asks config past c in
          let none = none_by_server (server_law.lower_of config.limits config.server_szx past) _
          (server_steps.no_take (server_law.own_of config.limits config.server_szx past) c e) in (
            e,
            subst (λ (s : State). Ever (λ q. q ≡ p) (behind old.queue s.queue))
                (sym (ap (left_after (start config.server_setup)) (server_asked_next config past c)
                ∙ left_append (start config.server_setup) asks (server_asked config past)))
                (subst (Ever (λ q. q ≡ p)) (sym (ap (behind old.queue) (queue_after old asks none)
                ∙ drop_front old.queue (outs old asks))) (of_entries p old asks h)),
          )

  pub client_puts : (p : Packet) (past : List C.Call) (c : C.Call)
      → Ever (λ e. IsIn p e.out) (client_adds config past c)
      → (is_client_input c ≡ true)
      × Ever (λ q. q ≡ p) (behind (client_waits config past) (client_waits config (c ∷ past)))
  client_puts p past c h = by (is_client_input c) refl
    where
      by : (b : Bool) → is_client_input c ≡ b → (is_client_input c ≡ true)
          × Ever (λ q. q ≡ p) (behind (client_waits config past) (client_waits config (c ∷ past)))
      by false e = absurd (no_client_out p past c e h)
      by true e =
          let old : State = left_after (start config.client_setup) (client_asked config past) in
          let asks : List Asked = client_asks config past c in
          let none = none_by_client config.addresses.server config.client_setup
          (client_law.lower_of config.client_sizes past)
          _ (client_steps.no_take (client_law.own_of config.client_sizes past) c e) in (
            e,
            subst (λ (s : State). Ever (λ q. q ≡ p) (behind old.queue s.queue))
                (sym (ap (left_after (start config.client_setup)) (client_asked_next config past c)
                ∙ left_append (start config.client_setup) asks (client_asked config past)))
                (subst (Ever (λ q. q ≡ p)) (sym (ap (behind old.queue) (queue_after old asks none)
                ∙ drop_front old.queue (outs old asks))) (of_entries p old asks h)),
          )
