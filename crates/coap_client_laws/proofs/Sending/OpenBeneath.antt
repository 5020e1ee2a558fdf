-- The exchange that is open beneath a client: the one that began last, unless it ended.
use Rattle.std.proofs.Common.{◌≡◌, ◌≤◌, ◌⊎◌, inl, inr, ℕ, ◌%◌, ◌+◌, Bool, true, false, cond, Option, Some, None, List}
use Rattle.std.proofs.Common.{[], ◌∷◌, refl, ap, sym, ◌∙◌, arith, Ok, Err}
use Rattle.coap_types.specs.declared.endpoint.Endpoint.{Endpoint}
use Rattle.coap_types.specs.declared.endpoint.Moment.{Moment}
use Rattle.coap_types.specs.declared.transmission.TheConstants.{ACK_TIMEOUT_MS as ack_timeout}
use Rattle.coap_types.specs.declared.transmission.TheConstants.{TIMEOUT_VALUES as timeout_values}
use Rattle.coap_layer.specs.Trace as L
use Rattle.coap_layer.specs.declared.setup.Setup.{Setup}
use Rattle.coap_exchange.specs.declared.asker.Exchange.{Exchange}
use Rattle.coap_exchange.specs.AskerTrace as E
use Rattle.coap_exchange.specs.AskerArrivals.{is_of_request}
use Rattle.coap_exchange.specs.AskerDue.{last_acked}
use Rattle.coap_exchange.specs.AskerFollows as A
use Rattle.coap_exchange.specs.AskerLaw as X
use Rattle.coap_exchange.proofs.Facts.Moves.{token_in, Moves, starts, stops, keeps, moves}

none_in : (o : Option Exchange) → token_in o ≡ None → o ≡ None
none_in None h = refl
none_in (Some x) h = absurd (cc h)

some_in : (o : Option Exchange) (token : List ℕ) → token_in o ≡ Some token → (x : Exchange) × (o ≡ Some x)
some_in None token h = absurd (cc h)
some_in (Some x) token h = (x, refl)

module _ (server : Endpoint) (setup : Setup) where
  abbrev pub running_in : List E.Call → Option Exchange
  running_in t = (X.own_of server setup t).running

  -- when the exchange that is open began
  abbrev pub open_at : List E.Call → Option ℕ
  open_at [] = None
  open_at (E.Ask now r w below (Ok token) ∷ past) = Some (A.moment server setup past now)
  open_at (c ∷ past) = cond (A.ends c) None (open_at past)

  pub record IsOpened (t : List E.Call) : Type 0 where
    pub exchange : Exchange
    pub begun : A.Begun
    pub runs : running_in t ≡ Some exchange
    pub last : A.last_begun server setup t ≡ Some begun
    pub at : open_at t ≡ Some begun.at

  abbrev pub Opened : List E.Call → Type 0
  Opened t = ((running_in t ≡ None) × (open_at t ≡ None)) ⊎ IsOpened t

  plain : (t : List E.Call) (c : E.Call) → A.begun c ≡ None → open_at (c ∷ t) ≡ cond (A.ends c) None (open_at t)
      → A.last_begun server setup (c ∷ t) ≡ A.last_begun server setup t
      → Moves (running_in t) (running_in (c ∷ t)) c → Opened t → Opened (c ∷ t)
  plain t c none is last (starts x b e a before now) o = let k : None ≡ Some x.token = sym none ∙ b in absurd (cc k)
  plain t c none is last (stops x b e a before now) o = inl (now, is ∙ ap (λ z. cond z None (open_at t)) e)
  plain t c none is last (keeps b e a same) (inl o) = inl (
    none_in (running_in (c ∷ t)) (same ∙ ap token_in o.0),
    is ∙ (ap (λ z. cond z None (open_at t)) e ∙ o.1),
  )
  plain t c none is last (keeps b e a same) (inr o) =
      let y = some_in (running_in (c ∷ t)) (o.exchange).token (same ∙ ap token_in o.runs) in
      inr (record {
        exchange = y.0;
        begun = o.begun;
        runs = y.1;
        last = last ∙ o.last;
        at = is ∙ (ap (λ z. cond z None (open_at t)) e ∙ o.at);
      })

  -- an exchange is open exactly where one runs
  pub opened : (t : List E.Call) → X.AskerLaw server setup t → Opened t
  opened [] law = inl (refl, refl)
  opened (E.Ask now r w below (Ok token) ∷ t) law = asks (moves (X.own_of server setup t) _ law.0)
    where
      asks : Moves (running_in t) (running_in (E.Ask now r w below (Ok token) ∷ t)) (E.Ask now r w below (Ok token))
          → Opened (E.Ask now r w below (Ok token) ∷ t)
      asks (starts x b e a before now_runs) = inr (record {
        exchange = x;
        begun = record { at = A.moment server setup t now; timeout = ack_timeout + w % timeout_values };
        runs = now_runs;
        last = refl;
        at = refl;
      })
      asks (stops x b e a before now_runs) = absurd (cc b)
      asks (keeps b e a same) = absurd (cc b)
  opened (E.Ask now r w below (Err why) ∷ t) law =
      plain t (E.Ask now r w below (Err why)) refl refl refl (moves (X.own_of server setup t) _ law.0) (opened t law.1)
  opened (E.Receive now from bytes up settled answer ∷ t) law =
      plain t (E.Receive now from bytes up settled answer) refl refl refl (moves (X.own_of server setup t) _ law.0)
      (opened t law.1)
  opened (E.Ticks now below answer ∷ t) law =
      plain t (E.Ticks now below answer) refl refl refl (moves (X.own_of server setup t) _ law.0) (opened t law.1)
  opened (E.Keep token answer ∷ t) law =
      plain t (E.Keep token answer) refl refl refl (moves (X.own_of server setup t) _ law.0) (opened t law.1)
  opened (E.Release token answer ∷ t) law =
      plain t (E.Release token answer) refl refl refl (moves (X.own_of server setup t) _ law.0) (opened t law.1)
  opened (E.Take answer ∷ t) law =
      plain t (E.Take answer) refl refl refl (moves (X.own_of server setup t) _ law.0) (opened t law.1)

  -- it began no later than now, and its first timeout is ACK_TIMEOUT at least
  pub begun_by : (t : List E.Call) (b : A.Begun) → A.last_begun server setup t ≡ Some b
      → (b.at ≤ (X.own_of server setup t).clock) × (ack_timeout ≤ b.timeout)
  begun_by [] b h = absurd (cc h)
  begun_by (E.Ask now r w below (Ok token) ∷ t) b h =
      let same : ◌≡◌ {A = A.Begun}
      (record { at = A.moment server setup t now; timeout = ack_timeout + w % timeout_values }) b = cc h in
      let at_is = ap (λ (z : A.Begun). z.at) same in
      let timeout_is = ap (λ (z : A.Begun). z.timeout) same in
      (omega (arith, at_is), omega (arith, timeout_is))
  begun_by (E.Keep token answer ∷ t) b h = begun_by t b h
  begun_by (E.Release token answer ∷ t) b h = begun_by t b h
  begun_by (E.Take answer ∷ t) b h = begun_by t b h
  begun_by (_ ∷ t) b h = let k = begun_by t b h in let l = k.0 in (omega (arith, l), k.1)

  acked_here : (t : List E.Call) (now : ℕ) (b : A.Begun) → A.last_begun server setup t ≡ Some b
      → (a : Moment) (c : Bool)
      → (last_acked server setup t ≡ Some a → b.at ≤ a.0)
      → cond c (Some (record { 0 = A.moment server setup t now })) (last_acked server setup t) ≡ Some a → b.at ≤ a.0
  acked_here t now b k a true f e =
      let same : ◌≡◌ {A = Moment} (record { 0 = A.moment server setup t now }) a = cc e in
      let is = ap (λ (m : Moment). m.0) same in
      let l = (begun_by t b k).0 in
      omega (arith, is, l)
  acked_here t now b k a false f e = f e

  -- it was acknowledged no earlier
  pub acked_after : (t : List E.Call) (a : Moment) (b : A.Begun) → last_acked server setup t ≡ Some a
      → A.last_begun server setup t ≡ Some b → b.at ≤ a.0
  acked_after [] a b h k = absurd (cc h)
  acked_after (E.Ask now r w below (Ok token) ∷ t) a b h k = absurd (cc h)
  acked_after (E.Receive now from bytes (L.Becomes (L.Acked id)) settled answer ∷ t) a b h k =
      acked_here t now b k a (is_of_request (X.own_of server setup t) from id)
      (λ e. acked_after t a b e k) h
  acked_after (E.Receive now from bytes (L.Becomes (L.Response m)) settled answer ∷ t) a b h k = acked_after t a b h k
  acked_after (E.Receive now from bytes (L.Becomes (L.Request m held)) settled answer ∷ t) a b h k =
      acked_after t a b h k
  acked_after (E.Receive now from bytes (L.Becomes (L.Reset id)) settled answer ∷ t) a b h k = acked_after t a b h k
  acked_after (E.Receive now from bytes (L.Becomes L.Dropped) settled answer ∷ t) a b h k = acked_after t a b h k
  acked_after (E.Receive now from bytes (L.Becomes (L.Unmatched id)) settled answer ∷ t) a b h k =
      acked_after t a b h k
  acked_after (E.Receive now from bytes (L.Becomes L.Replayed) settled answer ∷ t) a b h k = acked_after t a b h k
  acked_after (E.Receive now from bytes (L.Becomes L.Rejected) settled answer ∷ t) a b h k = acked_after t a b h k
  acked_after (_ ∷ t) a b h k = acked_after t a b h k
