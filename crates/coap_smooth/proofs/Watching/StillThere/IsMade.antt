-- Where a registration is made the server has it, and what is told under it was told behind that (RFC 7641, section
-- 4.1).
use Rattle.std.proofs.Common.{◌≡◌, ◌==◌, inl, inr, ℕ, Bool, true, false, cond, Option, Some, None, List, [], ◌∷◌, map}
use Rattle.std.proofs.Common.{refl, ap, sym}
use Rattle.std.proofs.Common.{subst, ◌∙◌, option_map}
use Rattle.coap_types.specs.Past.{Sometime}
use Rattle.coap_types.specs.declared.endpoint.Endpoint.{Endpoint}
use Rattle.coap_observe.specs.Observers.{Observer, begun, changed_at, marked_by, registered, registration, removed}
use Rattle.coap_observe.proofs.Facts.Registrations.{registration-changed_at, registration-registered}
use Rattle.coap_resource.specs.Content.{Content}
use Rattle.coap_resource.specs.Limits.{Limits}
use Rattle.coap_resource.specs.RequestOptions.{block_of, szx_by}
use Rattle.coap_resource.specs.Serves.{Question, Reply}
use Rattle.coap_exchange.specs.declared.answerer.Asked.{Asked}
use Rattle.coap_exchange.specs.declared.answerer.Due.TheVariants as due
use Rattle.coap_server.specs.Follows.Tells.{Pair, Telling, registering, registers_by, telling}
use Rattle.coap_server_laws.specs.Follows.Told.{AreUnder, ServesPair}
use Rattle.coap_server.specs.Handling.{heard, incoming, ticking}
use Rattle.coap_server.specs.Law.{own_of}
use Rattle.coap_server.specs.Observers.{observers_with, observes, registers}
use Rattle.coap_server.specs.Serving.{observers_served}
use Rattle.coap_server.specs.Trace as S
use Rattle.coap_record.specs.Record.{Setting, DelayOf, PlainOf, gives_it}

-- there is one of this endpoint and token
abbrev pub HasOne : Endpoint → List ℕ → List Observer → Type 0
HasOne to token os = (o : Observer) × (registration to token os ≡ Some o)

marked_has : (at : ℕ) (path : List (List ℕ)) (b : Bool) (to : Endpoint) (token : List ℕ) (os : List Observer)
    → HasOne to token os → HasOne to token (cond b os (changed_at at path os))
marked_has at path true to token os h = h
marked_has at path false to token os h = (
  marked_by at path h.0,
  registration-changed_at at path to token os ∙ ap (λ (r : Option Observer). option_map (marked_by at path) r) h.1,
)

served_has : (at : ℕ) (old : Content) (a : Asked) (q : Question) (reply : Reply) (left : Content) (os : List Observer)
    → registers a q reply os ≡ true → HasOne a.from a.token (observers_served at old a q reply left os)
served_has at old a q reply left os is =
    marked_has at q.path (left.tally.version == old.tally.version) a.from a.token (observers_with at a q reply os)
    (subst (HasOne a.from a.token)
    (sym (ap (λ b. cond b (registered at a.from a.token q.path (szx_by (block_of q.options) q.szx) os)
    (cond (observes 1 q) (removed a.from a.token os) os)) is)) (
      begun at a.from a.token q.path (szx_by (block_of q.options) q.szx),
      registration-registered at a.from a.token q.path (szx_by (block_of q.options) q.szx) os,
    ))

by_pair : (s : S.Own) (at : ℕ) (a : Asked) (q : Question) (reply : Reply) (left : Content) (p : Pair)
    → registers_by s a q reply ≡ Some p → HasOne p.to p.token (observers_served at s.store a q reply left s.observers)
by_pair s at a q reply left p h = by (registers a q reply s.observers) refl h
  where
    by : (b : Bool) → registers a q reply s.observers ≡ b
        → cond {A = Option Pair} b (Some (record { to = a.from; token = a.token })) None ≡ Some p
        → HasOne p.to p.token (observers_served at s.store a q reply left s.observers)
    by true is k =
        let same : record { to = a.from; token = a.token } ≡ p = cc k in
        subst (λ (z : Pair). HasOne z.to z.token (observers_served at s.store a q reply left s.observers)) same
        (served_has at s.store a q reply left s.observers is)
    by false is k = absurd (cc k)

module _ (limits : Limits) (szx : ℕ) (t : List S.Call) where
  abbrev own : S.Own
  own = own_of limits szx t

  pub made_has : (c : S.Call) (p : Pair) → registering own c ≡ Some p
      → HasOne p.to p.token (own_of limits szx (c ∷ t)).observers
  made_has (S.Feeds now from bytes w up (Some m) (S.Serves q reply left) below) p h =
      let s : S.Own = heard own now (incoming own now from bytes up (Some m)) in by_pair s s.clock m.0 q reply left p h
  made_has (S.Ticks now w below room (due.Ready a) passed (S.Serves q reply left) id answer) p h =
      let s : S.Own = heard own now (ticking own now below room (due.Ready a)) in by_pair s s.clock a q reply left p h
  made_has _ p e = absurd (cc e)

-- the server tells something under this registration
module _ (limits : Limits) (szx : ℕ) (pair : Pair) where
  pub record TellsOf (past : List S.Call) (c : S.Call) : Type 0 where
    pub told : Telling
    pub here : telling (own_of limits szx past) c ≡ Some told
    pub to_is : told.to ≡ pair.to
    pub token_is : told.token ≡ pair.token

  -- so it made it
  pub told_under : (t : List S.Call) → AreUnder limits szx t → Sometime TellsOf t
      → Sometime (ServesPair limits szx pair) t
  told_under [] under h = h
  told_under (c ∷ t) under (inr h) = inr (told_under t under.1 h)
  told_under (c ∷ t) under (inl k) =
      let is : record { to = k.told.to; token = k.told.token } ≡ pair =
      ap (λ z. record { to = z; token = k.told.token }) k.to_is
      ∙ ap (λ z. record { to = pair.to; token = z }) k.token_is in
      elim (under.0 k.told k.here) [
        | inl now ↦ inl (subst (λ p. ServesPair limits szx p t c) is now.1)
        | inr old ↦ inr (subst (λ p. Sometime (ServesPair limits szx p) t) is old.1)
      ]

  pub none_first : (ss : List Setting) → Sometime (ServesPair limits szx pair) (map gives_it ss) → ⊥
  none_first [] h = h
  none_first (s ∷ ss) (inr h) = none_first ss h
  none_first (DelayOf d ∷ ss) (inl h) = let here = h.here in cc here
  none_first (PlainOf p ∷ ss) (inl h) = let here = h.here in cc here
