-- A request that has to wait is acknowledged at once, by an Empty message.
use Rattle.std.proofs.Common.{◌≡◌, inl, inr, ℕ, true, Some, List, [], ◌∷◌, ◌++◌, refl, ap, sym}
use Rattle.std.proofs.Common.{subst, ◌∙◌}
use Rattle.coap_types.specs.Past.{Ever}
use Rattle.coap_types.proofs.Facts.Traces.{Ever_front}
use Rattle.coap_types.specs.declared.endpoint.Endpoint.{Endpoint}
use Rattle.coap_codec.specs.Message.{Message}
use Rattle.coap_layer.specs.EmptyMessages.{ack_bytes}
use Rattle.coap_layer.specs.Machine.State.{State, start}
use Rattle.coap_layer.specs.Machine.Steps.{Asked as Below, left_after, entries}
use Rattle.coap_layer.specs.Trace as L
use Rattle.coap_exchange.specs.AnswererLaw as answerer
use Rattle.coap_exchange.specs.AnswererSteps as P
use Rattle.coap_exchange.specs.AnswererSteps.{deferring, may_defer}
use Rattle.coap_exchange.specs.AnswererTrace as R
use Rattle.coap_exchange.specs.declared.answerer.Asked.{Asked}
use Rattle.coap_resource.specs.Serves.{Question}
use Rattle.coap_exchange.specs.Adds.{asked_by_server}
use Rattle.coap_server.specs.Asks.{answering}
use Rattle.coap_server.specs.Deferring.{delay_for, deferral_by}
use Rattle.coap_server.specs.Follows.Attended.{MakesWait}
use Rattle.coap_server.specs.Handling.{heard, incoming}
use Rattle.coap_server.specs.Law.{ServerLaw, own_of, lower_of}
use Rattle.coap_server.specs.Trace as S
use Rattle.coap_server.specs.Trace.{Waiting}
use Rattle.coap_record.specs.Events.{Config}
use Rattle.coap_promise.specs.Hops.{server_adds, server_asks, server_asked}

-- lists that end alike; a list is no longer than itself

no_end : {X : Type 0} (b : List X) (x : X) → [] ≡ b ++ x ∷ [] → ⊥
no_end [] x e = cc e
no_end (z ∷ b) x e = cc e

last_same : {X : Type 0} (a : List X) (y x : X) → a ++ y ∷ [] ≡ a ++ x ∷ [] → y ≡ x
last_same [] y x e = cc e
last_same (z ∷ a) y x e = let k : a ++ y ∷ [] ≡ a ++ x ∷ [] = cc e in last_same a y x k

not_longer : {X : Type 0} (a : List X) (x : X) → a ≡ a ++ x ∷ [] → ⊥
not_longer [] x e = no_end [] x e
not_longer (z ∷ a) x e = let k : a ≡ a ++ x ∷ [] = cc e in not_longer a x k

-- what is asked of the layer has its entries
in_entries : (Q : L.Call → Type 0) (old : State) (asks : List Below) → Ever (λ (a : Below). Q a.call) asks
    → Ever (λ (e : L.Entry). Q e.call) (entries old asks)
in_entries Q old [] h = h
in_entries Q old (a ∷ asks) (inl h) = inl h
in_entries Q old (a ∷ asks) (inr h) = inr (in_entries Q old asks h)

module _ (config : Config) (t : List S.Call) (now : ℕ) (from : Endpoint) (bytes : List ℕ) (word : ℕ) (up : L.Answer)
    (p : Asked × Message) (below : L.Answer) where
  abbrev s : S.Own
  s = own_of config.limits config.server_szx t

  abbrev z : S.Own
  z = heard s now (incoming s now from bytes up (Some p))

  abbrev call : S.Handling → S.Call
  call h = S.Feeds now from bytes word up (Some p) h below

  abbrev Acks : L.Call → Type 0
  Acks c = c ≡ L.Reply p.0.from p.0.id.0 (ack_bytes p.0.id.0)

  -- behind the arrival
  abbrev known : List R.Call
  known = incoming s now from bytes up (Some p) ∷ lower_of config.limits config.server_szx t

  -- where it is deferred
  deferred : (h : S.Handling) (delay : ℕ)
      → answering z (Some p) h below ≡ R.Defers z.clock p.0 delay true ∷ []
      → ServerLaw config.limits config.server_szx config.server_setup (call h ∷ t)
      → Ever (λ (e : L.Entry). Acks e.call) (server_adds config t (call h))
  deferred h delay is law =
      in_entries Acks (left_after (start config.server_setup) (server_asked config t)) (server_asks config t (call h))
      (subst (λ l. Ever (λ (a : Below). Acks a.call) (asked_by_server (lower_of config.limits config.server_szx t)
      (l ++ incoming s now from bytes up (Some p) ∷ []))) (sym is) first)
    where
      place : true ≡ may_defer (answerer.own_of known).deferred
      place =
          let arrival = incoming s now from bytes up (Some p) in
          let before = lower_of config.limits config.server_szx t in
          (subst (λ l. answerer.AnswererLaw ((l ++ arrival ∷ []) ++ before)) is law.exchanges.rows).0.2

      first : Ever (λ (a : Below). Acks a.call) (asked_by_server (lower_of config.limits config.server_szx t)
          (R.Defers z.clock p.0 delay true ∷ incoming s now from bytes up (Some p) ∷ []))
      first =
          Ever_front (λ (a : Below). Acks a.call) (P.lower (answerer.own_of known) (R.Defers z.clock p.0 delay true)) _
          (Ever_front (λ (a : Below). Acks a.call) (deferring (may_defer (answerer.own_of known).deferred) p.0) _
          (subst (λ b. Ever (λ (a : Below). Acks a.call) (deferring b p.0)) place (inl refl)))

  pub acknowledged : (h : S.Handling) (q : Question) → MakesWait config.limits config.server_szx t (call h) p.0 q
      → ServerLaw config.limits config.server_szx config.server_setup (call h ∷ t)
      → Ever (λ (e : L.Entry). Acks e.call) (server_adds config t (call h))
  acknowledged (S.Waits other delay) q w law =
      let same : record { asked = p.0; at = z.clock; delay = delay; question = other }
      ≡ record { asked = p.0; at = z.clock; delay = w.delay; question = q } =
      last_same s.waiting _ _ w.behind in
      let question : other ≡ q = ap (λ (x : Waiting). x.question) same in
      deferred (S.Waits other delay) w.delay
      (ap (λ (x : Question). deferral_by (delay_for p.0.kind x.path s.delays) (may_defer s.exchanges.deferred) z.clock
      p.0)
      question
      ∙ (ap (λ k. deferral_by (delay_for k q.path s.delays) (may_defer s.exchanges.deferred) z.clock p.0) w.has_to.kind
      ∙ (ap (λ o. deferral_by o (may_defer s.exchanges.deferred) z.clock p.0) w.has_to.has_delay
      ∙ ap (λ b. deferral_by (Some w.delay) b z.clock p.0) w.has_to.place))) law
  acknowledged S.Silent q w law = absurd (not_longer s.waiting _ w.behind)
  acknowledged (S.Replies r) q w law = absurd (not_longer s.waiting _ w.behind)
  acknowledged (S.Serves other reply left) q w law = absurd (not_longer s.waiting _ w.behind)
  acknowledged (S.Notifies o reply) q w law = absurd (not_longer s.waiting _ w.behind)
