-- An exchange of the client's side that keeps up is young: it fails when it is due, or its wait ends then.
use Rattle.std.proofs.Common.{◌≡◌, inl, inr, ◌≤◌, ◌<◌, ℕ, ◌+◌, ◌-◌, ◌*◌, ◌%◌, max, Bool, true, false, cond}
use Rattle.std.proofs.Common.{Option, Some, None, List, [], ◌∷◌, refl, ap, sym, ◌∙◌, arith, Ok, Err}
use Rattle.std.proofs.Math.Decide.{dec_le}
use Rattle.coap_types.specs.declared.endpoint.Endpoint.{Endpoint}
use Rattle.coap_types.specs.declared.endpoint.Moment.{Moment}
use Rattle.coap_types.specs.declared.transmission.TheConstants.{EXCHANGE_LIFETIME_MS as exchange_lifetime}
use Rattle.coap_types.specs.declared.transmission.TheConstants.{FAILURE_TIMEOUTS as failure_timeouts}
use Rattle.coap_layer.specs.Trace as L
use Rattle.coap_layer.specs.declared.setup.Setup.{Setup}
use Rattle.coap_exchange.specs.declared.asker.Exchange.{Exchange}
use Rattle.coap_exchange.specs.declared.asker.Turn.TheVariants as turn
use Rattle.coap_exchange.specs.AskerArrivals.{is_of_request}
use Rattle.coap_exchange.specs.AskerDue.{last_acked}
use Rattle.coap_exchange.specs.AskerFollows.{Begun, last_begun, moment, begun}
use Rattle.coap_exchange.specs.AskerLaw.{own_of, AskerLaw, ExchangeLaw}
use Rattle.coap_exchange.specs.AskerTrace.{Call, Ask, Receive, Ticks, Keep, Release, Take}
use Rattle.coap_exchange.proofs.Facts.ClientSide.{when_due, exchange_back}
use Rattle.coap_exchange.proofs.Facts.Moves.{token_in, Moves, starts, stops, keeps, moves}
use Rattle.coap_given_back.specs.AskerYoung.{longest_exchange, clock, RestsBy, HasRested, KeepsUp, KeepsUpSince}
use Rattle.coap_given_back.specs.AskerYoung.{AreYoung}
use Rattle.coap_given_back.proofs.Young.AckedOnce.{acked_once}

some_in : (o : Option Exchange) (token : List ℕ) → token_in o ≡ Some token → (x : Exchange) × (o ≡ Some x)
some_in None token h = absurd (cc h)
some_in (Some x) token h = (x, refl)

-- sums

failed_by : (m b timeout : ℕ) → timeout ≤ 3000 → (timeout * failure_timeouts ≤ m - b → ⊥) → m < b + 93000
failed_by m b timeout short not_due =
    let long : m - b < timeout * failure_timeouts = omega (arith, not_due) in
    omega (arith, short, long)

waited_by : (m a : ℕ) → (exchange_lifetime ≤ m - a → ⊥) → m < a + 247000
waited_by m a not_due = omega (arith, not_due)

-- what comes before that moment is no later either
pub no_later : (from_ m b late : ℕ) → (from_ ≤ m → m < max from_ b + 93000 + late) → m < max from_ b + 93000 + late
no_later from_ m b late f = elim (dec_le from_ m) [
  | yes le ↦ f le
  | no less ↦ omega (arith, less)
]

module _ (server : Endpoint) (setup : Setup) (late : ℕ) where
  abbrev running : List Call → Option Exchange
  running t = (own_of server setup t).running

  rises : (t : List Call) (c : Call) → clock server setup t ≤ clock server setup (c ∷ t)
  rises t (Ask now r w below answer) = omega arith
  rises t (Receive now from bytes up settled answer) = omega arith
  rises t (Ticks now below answer) = omega arith
  rises t _ = omega arith

  -- a moment at which it rested is no later than the next
  pub rested_by : (at : ℕ) (t : List Call) (next : ℕ) → clock server setup t ≤ next
      → HasRested server setup late at next t
      → at ≤ next + late
  rested_by at [] next by h = let a = h.before in let b = h.soon in omega (arith, a, b)
  rested_by at (c ∷ t) next by (inl h) = let a = h.before in let b = h.soon in omega (arith, a, b)
  rested_by at (Ask now r w below answer ∷ t) next by (inr h) =
      let a = rested_by at t (clock server setup (Ask now r w below answer ∷ t)) (rises t (Ask now r w below answer)) h
      in omega (arith, a, by)
  rested_by at (Receive now from bytes up settled answer ∷ t) next by (inr h) =
      let a = rested_by at t (clock server setup (Receive now from bytes up settled answer ∷ t))
      (rises t (Receive now from bytes up settled answer)) h in omega (arith, a, by)
  rested_by at (Ticks now below answer ∷ t) next by (inr h) =
      let a = rested_by at t (clock server setup (Ticks now below answer ∷ t)) (rises t (Ticks now below answer)) h in
      omega (arith, a, by)
  rested_by at (Keep token answer ∷ t) next by (inr h) = rested_by at t next by h
  rested_by at (Release token answer ∷ t) next by (inr h) = rested_by at t next by h
  rested_by at (Take answer ∷ t) next by (inr h) = rested_by at t next by h

  -- the longest initial timeout
  timeout_by : (t : List Call) (b : Begun) → last_begun server setup t ≡ Some b → b.timeout ≤ 3000
  timeout_by [] b h = absurd (cc h)
  timeout_by (Ask now r w below (Ok token) ∷ t) b h =
      let same : ◌≡◌ {A = Begun} (record { at = moment server setup t now; timeout = 2000 + w % 1001 }) b = cc h in
      let timeout_is = ap (λ (z : Begun). z.timeout) same in
      omega (arith, timeout_is)
  timeout_by (Ask now r w below (Err why) ∷ t) b h = timeout_by t b h
  timeout_by (Receive now from bytes up settled answer ∷ t) b h = timeout_by t b h
  timeout_by (Ticks now below answer ∷ t) b h = timeout_by t b h
  timeout_by (Keep token answer ∷ t) b h = timeout_by t b h
  timeout_by (Release token answer ∷ t) b h = timeout_by t b h
  timeout_by (Take answer ∷ t) b h = timeout_by t b h

  -- a call that begins none: what runs behind it ran before
  ran_before : (t : List Call) (c : Call) → AskerLaw server setup (c ∷ t) → begun c ≡ None → (x : Exchange)
      → running (c ∷ t) ≡ Some x → (y : Exchange) × (running t ≡ Some y)
  ran_before t c law none x runs = by (moves (own_of server setup t) c law.0)
    where
      by : Moves (running t) (running (c ∷ t)) c → (y : Exchange) × (running t ≡ Some y)
      by (starts y b e a before now) = let k : None ≡ Some y.token = sym none ∙ b in absurd (cc k)
      by (stops y b e a before now) = let k : None ≡ Some x = sym now ∙ runs in absurd (cc k)
      by (keeps b e a same) = some_in (running t) x.token (sym same ∙ ap token_in runs)

  -- a request that is not acknowledged

  not_acked : (t : List Call) (now : ℕ) (b c : Bool) → cond c (Some (record { 0 = moment server setup t now }))
      (last_acked server setup t) ≡ None → last_acked server setup t ≡ None
  not_acked t now b true h = absurd (cc h)
  not_acked t now b false h = h

  abbrev Unheard : ℕ → ℕ → List Call → Type 0
  Unheard at next t = (x : Exchange) → running t ≡ Some x → last_acked server setup t ≡ None → (b : Begun)
      → last_begun server setup t ≡ Some b → HasRested server setup late at next t → at < b.at + 93000 + late

  module _ (at : ℕ) where
    here : (next : ℕ) (t : List Call) → RestsBy server setup late at next t → (x : Exchange) → running t ≡ Some x
        → last_acked server setup t ≡ None → (b : Begun) → last_begun server setup t ≡ Some b
        → at < b.at + 93000 + late
    here next t r x runs none b last =
        let law = r.law in
        let due = (when_due server setup (Ticks r.now r.below turn.Idle ∷ t) law.rows law.left law.layer).0 in
        let f = due.unheard r.now r.below turn.Idle x refl runs (due.acked x runs ∙ none) in
        let both : Some f.begun ≡ Some b = sym f.last ∙ last in
        let same : f.begun ≡ b = cc both in
        let fails : f.begun.timeout * failure_timeouts ≤ moment server setup t r.now - f.begun.at → ⊥ =
        λ over. cc (f.ends over) in
        let k = failed_by (moment server setup t r.now) f.begun.at f.begun.timeout (timeout_by t f.begun f.last) fails
        in
        let at_is = ap (λ (z : Begun). z.at) same in
        let soon = r.soon in
        omega (arith, k, at_is, soon)

    unheard : (t : List Call) → AskerLaw server setup t → (next : ℕ) → Unheard at next t
    unheard [] law next x runs none b last h = absurd (cc last)
    unheard (c ∷ t) law next x runs none b last (inl h) = here next (c ∷ t) h x runs none b last
    unheard (Ask now r w below (Ok token) ∷ t) law next x runs none b last (inr h) =
        let same : ◌≡◌ {A = Begun} (record { at = moment server setup t now; timeout = 2000 + w % 1001 }) b = cc last in
        let at_is : moment server setup t now ≡ b.at = ap (λ (z : Begun). z.at) same in
        let k = rested_by at t (clock server setup (Ask now r w below (Ok token) ∷ t))
        (rises t (Ask now r w below (Ok token))) h in
        omega (arith, at_is, k)
    unheard (Ask now r w below (Err why) ∷ t) law next x runs none b last (inr h) =
        let y = ran_before t (Ask now r w below (Err why)) law refl x runs in
        unheard t law.1 _ y.0 y.1 none b last h
    unheard (Receive now from bytes (L.Becomes (L.Acked id)) settled answer ∷ t) law next x runs none b last (inr h) =
        let y = ran_before t (Receive now from bytes (L.Becomes (L.Acked id)) settled answer) law refl x runs in
        unheard t law.1 _ y.0 y.1 (not_acked t now true (is_of_request (own_of server setup t) from id) none) b last h
    unheard (Receive now from bytes (L.Becomes (L.Response m)) settled answer ∷ t) law next x runs none b last (inr h) =
        let y = ran_before t (Receive now from bytes (L.Becomes (L.Response m)) settled answer) law refl x runs in
        unheard t law.1 _ y.0 y.1 none b last h
    unheard (Receive now from bytes (L.Becomes (L.Request m k)) settled answer ∷ t) law next x runs none b last
        (inr h) =
        let y = ran_before t (Receive now from bytes (L.Becomes (L.Request m k)) settled answer) law refl x runs in
        unheard t law.1 _ y.0 y.1 none b last h
    unheard (Receive now from bytes (L.Becomes (L.Reset id)) settled answer ∷ t) law next x runs none b last (inr h) =
        let y = ran_before t (Receive now from bytes (L.Becomes (L.Reset id)) settled answer) law refl x runs in
        unheard t law.1 _ y.0 y.1 none b last h
    unheard (Receive now from bytes (L.Becomes L.Dropped) settled answer ∷ t) law next x runs none b last (inr h) =
        let y = ran_before t (Receive now from bytes (L.Becomes L.Dropped) settled answer) law refl x runs in
        unheard t law.1 _ y.0 y.1 none b last h
    unheard (Receive now from bytes (L.Becomes (L.Unmatched id)) settled answer ∷ t) law next x runs none b last
        (inr h) =
        let y = ran_before t (Receive now from bytes (L.Becomes (L.Unmatched id)) settled answer) law refl x runs in
        unheard t law.1 _ y.0 y.1 none b last h
    unheard (Receive now from bytes (L.Becomes L.Replayed) settled answer ∷ t) law next x runs none b last (inr h) =
        let y = ran_before t (Receive now from bytes (L.Becomes L.Replayed) settled answer) law refl x runs in
        unheard t law.1 _ y.0 y.1 none b last h
    unheard (Receive now from bytes (L.Becomes L.Rejected) settled answer ∷ t) law next x runs none b last (inr h) =
        let y = ran_before t (Receive now from bytes (L.Becomes L.Rejected) settled answer) law refl x runs in
        unheard t law.1 _ y.0 y.1 none b last h
    unheard (Receive now from bytes up settled answer ∷ t) law next x runs none b last (inr h) =
        let y = ran_before t (Receive now from bytes up settled answer) law refl x runs in
        unheard t law.1 _ y.0 y.1 none b last h
    unheard (c ∷ t) law next x runs none b last (inr h) =
        let y = ran_before t c law refl x runs in
        unheard t law.1 _ y.0 y.1 none b last h

  -- while it keeps up, no acknowledgement comes later
  pub soon_unheard : (from at : ℕ) (t : List Call) → AskerLaw server setup t → (x : Exchange) → running t ≡ Some x
      → last_acked server setup t ≡ None → (b : Begun) → last_begun server setup t ≡ Some b
      → KeepsUp server setup late from at t → at < max from b.at + 93000 + late
  soon_unheard from at t law x runs none b last (inl h) =
      let k = unheard at t law at x runs none b last h in omega (arith, k)
  soon_unheard from at t law x runs none b last (inr near) = omega (arith, near)

  abbrev Soon : ℕ → Moment → Begun → Type 0
  Soon from a b = a.0 < max from b.at + 93000 + late

  back : (c : Call) (t : List Call) → ExchangeLaw server setup (c ∷ t) → ExchangeLaw server setup t
  back c t law = exchange_back server setup (c ∷ []) t law

  module _ (t : List Call) (now : ℕ) (from : Endpoint) (bytes : List ℕ) (id : ℕ) (settled : Bool) (answer : Option _)
      (law : ExchangeLaw server setup (Receive now from bytes (L.Becomes (L.Acked id)) settled answer ∷ t))
      (from_ : ℕ) (up_to : from_ ≤ moment server setup t now
      → KeepsUp server setup late from_ (moment server setup t now) t) (y : Exchange) (ran : running t ≡ Some y)
      (b : Begun) (last : last_begun server setup t ≡ Some b) (a : Moment)
      (old : last_acked server setup t ≡ Some a → Soon from_ a b) where
    none_yet : (o : Option Moment) → last_acked server setup t ≡ o → last_acked server setup t ≡ None
    none_yet None is = is
    none_yet (Some z) is =
        let due = (when_due server setup (Receive now from bytes (L.Becomes (L.Acked id)) settled answer ∷ t)
        law.rows law.left law.layer).0 in
        absurd (acked_once server setup t now from bytes id settled answer law y ran z (due.acked y ran ∙ is))

    acked_here : (c : Bool) → cond c (Some (record { 0 = moment server setup t now })) (last_acked server setup t)
        ≡ Some a → Soon from_ a b
    acked_here false h = old h
    acked_here true h =
        let same : ◌≡◌ {A = Moment} (record { 0 = moment server setup t now }) a = cc h in
        let is : moment server setup t now ≡ a.0 = ap (λ (z : Moment). z.0) same in
        let k = no_later from_ (moment server setup t now) b.at late
        (λ le. soon_unheard from_ (moment server setup t now) t law.rows.1 y ran
        (none_yet (last_acked server setup t) refl) b last (up_to le)) in
        omega (arith, is, k)

  heard_soon : (from_ : ℕ) (t : List Call) → ExchangeLaw server setup t → KeepsUpSince server setup late from_ t
      → (x : Exchange)
      → running t ≡ Some x → (b : Begun) → last_begun server setup t ≡ Some b → (a : Moment)
      → last_acked server setup t ≡ Some a → Soon from_ a b
  heard_soon from_ [] law up x runs b last a is = absurd (cc is)
  heard_soon from_ (Ask now r w below (Ok token) ∷ t) law up x runs b last a is = absurd (cc is)
  heard_soon from_ (Ask now r w below (Err why) ∷ t) law up x runs b last a is =
      let y = ran_before t (Ask now r w below (Err why)) law.rows refl x runs in
      heard_soon from_ t (back (Ask now r w below (Err why)) t law) up.1 y.0 y.1 b last a is
  heard_soon from_ (Receive now from bytes (L.Becomes (L.Acked id)) settled answer ∷ t) law up x runs b last a is =
      let y = ran_before t (Receive now from bytes (L.Becomes (L.Acked id)) settled answer) law.rows refl x runs in
      acked_here t now from bytes id settled answer law from_ (up.0 tt) y.0 y.1 b last a
      (λ h. heard_soon from_ t (back (Receive now from bytes (L.Becomes (L.Acked id)) settled answer) t law) up.1 y.0
      y.1 b last a h) (is_of_request (own_of server setup t) from id) is
  heard_soon from_ (Receive now from bytes (L.Becomes (L.Response m)) settled answer ∷ t) law up x runs b last a is =
      let y = ran_before t (Receive now from bytes (L.Becomes (L.Response m)) settled answer) law.rows refl x runs in
      heard_soon from_ t (back (Receive now from bytes (L.Becomes (L.Response m)) settled answer) t law) up.1 y.0 y.1 b
      last a is
  heard_soon from_ (Receive now from bytes (L.Becomes (L.Request m k)) settled answer ∷ t) law up x runs b last a is =
      let y = ran_before t (Receive now from bytes (L.Becomes (L.Request m k)) settled answer) law.rows refl x runs in
      heard_soon from_ t (back (Receive now from bytes (L.Becomes (L.Request m k)) settled answer) t law) up.1 y.0 y.1
      b last a is
  heard_soon from_ (Receive now from bytes (L.Becomes (L.Reset id)) settled answer ∷ t) law up x runs b last a is =
      let y = ran_before t (Receive now from bytes (L.Becomes (L.Reset id)) settled answer) law.rows refl x runs in
      heard_soon from_ t (back (Receive now from bytes (L.Becomes (L.Reset id)) settled answer) t law) up.1 y.0 y.1 b
      last a is
  heard_soon from_ (Receive now from bytes (L.Becomes L.Dropped) settled answer ∷ t) law up x runs b last a is =
      let y = ran_before t (Receive now from bytes (L.Becomes L.Dropped) settled answer) law.rows refl x runs in
      heard_soon from_ t (back (Receive now from bytes (L.Becomes L.Dropped) settled answer) t law) up.1 y.0 y.1 b last
      a is
  heard_soon from_ (Receive now from bytes (L.Becomes (L.Unmatched id)) settled answer ∷ t) law up x runs b last a is =
      let y = ran_before t (Receive now from bytes (L.Becomes (L.Unmatched id)) settled answer) law.rows refl x runs in
      heard_soon from_ t (back (Receive now from bytes (L.Becomes (L.Unmatched id)) settled answer) t law) up.1 y.0 y.1
      b last a is
  heard_soon from_ (Receive now from bytes (L.Becomes L.Replayed) settled answer ∷ t) law up x runs b last a is =
      let y = ran_before t (Receive now from bytes (L.Becomes L.Replayed) settled answer) law.rows refl x runs in
      heard_soon from_ t (back (Receive now from bytes (L.Becomes L.Replayed) settled answer) t law) up.1 y.0 y.1 b
      last a is
  heard_soon from_ (Receive now from bytes (L.Becomes L.Rejected) settled answer ∷ t) law up x runs b last a is =
      let y = ran_before t (Receive now from bytes (L.Becomes L.Rejected) settled answer) law.rows refl x runs in
      heard_soon from_ t (back (Receive now from bytes (L.Becomes L.Rejected) settled answer) t law) up.1 y.0 y.1 b
      last a is
  heard_soon from_ (Receive now from bytes up_is settled answer ∷ t) law up x runs b last a is =
      let y = ran_before t (Receive now from bytes up_is settled answer) law.rows refl x runs in
      heard_soon from_ t (back (Receive now from bytes up_is settled answer) t law) up.1 y.0 y.1 b last a is
  heard_soon from_ (c ∷ t) law up x runs b last a is =
      let y = ran_before t c law.rows refl x runs in heard_soon from_ t (back c t law) up.1 y.0 y.1 b last a is

  -- at a moment at which it rests
  pub young_at_rest : (from_ at next : ℕ) (t : List Call) → ExchangeLaw server setup t
      → KeepsUpSince server setup late from_ t
      → RestsBy server setup late at next t → (x : Exchange) → running t ≡ Some x → (b : Begun)
      → last_begun server setup t ≡ Some b → at < max from_ b.at + longest_exchange late
  young_at_rest from_ at next t law up r x runs b last = by (last_acked server setup t) refl
    where
      by : (o : Option Moment) → last_acked server setup t ≡ o → at < max from_ b.at + longest_exchange late
      by None is = let k = here at next t r x runs is b last in omega (arith, k)
      by (Some a) is =
          let lawful = r.law in
          let due = (when_due server setup (Ticks r.now r.below turn.Idle ∷ t) lawful.rows lawful.left lawful.layer).0
          in
          let waits : exchange_lifetime ≤ moment server setup t r.now - a.0 → ⊥ =
          λ over. cc (due.heard r.now r.below turn.Idle x a refl runs (due.acked x runs ∙ is) over) in
          let w = waited_by (moment server setup t r.now) a.0 waits in
          let s = heard_soon from_ t law up x runs b last a is in
          let soon = r.soon in
          omega (arith, w, s, soon)

  rested_young : (from_ at : ℕ) (t : List Call) (next : ℕ) → ExchangeLaw server setup t
      → KeepsUpSince server setup late from_ t
      → HasRested server setup late at next t → (x : Exchange) → running t ≡ Some x → (b : Begun)
      → last_begun server setup t ≡ Some b → at < max from_ b.at + longest_exchange late
  rested_young from_ at [] next law up h x runs b last = absurd (cc last)
  rested_young from_ at (c ∷ t) next law up (inl h) x runs b last = young_at_rest from_ at next (c ∷ t) law up h x runs
      b last
  rested_young from_ at (Ask now r w below (Ok token) ∷ t) next law up (inr h) x runs b last =
      let same : ◌≡◌ {A = Begun} (record { at = moment server setup t now; timeout = 2000 + w % 1001 }) b = cc last in
      let at_is : moment server setup t now ≡ b.at = ap (λ (z : Begun). z.at) same in
      let k = rested_by at t (clock server setup (Ask now r w below (Ok token) ∷ t))
      (rises t (Ask now r w below (Ok token))) h in
      omega (arith, at_is, k)
  rested_young from_ at (Ask now r w below (Err why) ∷ t) next law up (inr h) x runs b last =
      let y = ran_before t (Ask now r w below (Err why)) law.rows refl x runs in
      rested_young from_ at t _ (back (Ask now r w below (Err why)) t law) up.1 h y.0 y.1 b last
  rested_young from_ at (Receive now from bytes up_is settled answer ∷ t) next law up (inr h) x runs b last =
      let y = ran_before t (Receive now from bytes up_is settled answer) law.rows refl x runs in
      rested_young from_ at t _ (back (Receive now from bytes up_is settled answer) t law) up.1 h y.0 y.1 b last
  rested_young from_ at (Ticks now below answer ∷ t) next law up (inr h) x runs b last =
      let y = ran_before t (Ticks now below answer) law.rows refl x runs in
      rested_young from_ at t _ (back (Ticks now below answer) t law) up.1 h y.0 y.1 b last
  rested_young from_ at (Keep token answer ∷ t) next law up (inr h) x runs b last =
      let y = ran_before t (Keep token answer) law.rows refl x runs in
      rested_young from_ at t _ (back (Keep token answer) t law) up.1 h y.0 y.1 b last
  rested_young from_ at (Release token answer ∷ t) next law up (inr h) x runs b last =
      let y = ran_before t (Release token answer) law.rows refl x runs in
      rested_young from_ at t _ (back (Release token answer) t law) up.1 h y.0 y.1 b last
  rested_young from_ at (Take answer ∷ t) next law up (inr h) x runs b last =
      let y = ran_before t (Take answer) law.rows refl x runs in
      rested_young from_ at t _ (back (Take answer) t law) up.1 h y.0 y.1 b last

  pub are_young : (t : List Call) → ExchangeLaw server setup t → AreYoung server setup late t
  are_young t law from_ up x b runs last at (inl h) = rested_young from_ at t at law up h x runs b last
  are_young t law from_ up x b runs last at (inr near) = omega (arith, near)
