-- A call that is taken where no exchange is open: its first request goes out at the next tick, or when the hold is
-- over.
use Rattle.std.proofs.Common.{◌≡◌, ◌⊎◌, inl, inr, ◌≤◌, ◌<◌, ℕ, ◌+◌, ◌-◌, ◌*◌, true, cond, is_some, Option}
use Rattle.std.proofs.Common.{Some, None, List, [], ◌∷◌, refl, ap, sym, subst, ◌∙◌, arith, Ok}
use Rattle.coap_types.specs.Past.{Sometime}
use Rattle.coap_types.specs.declared.endpoint.Endpoint.{Endpoint}
use Rattle.coap_types.specs.declared.transmission.TheConstants.{MAX_LATENCY_MS as max_latency}
use Rattle.coap_layer.specs.declared.setup.Setup.{Setup}
use Rattle.coap_block.specs.Sizes.{Sizes}
use Rattle.coap_client.specs.Law.{ClientLaw, own_of}
use Rattle.coap_client.specs.Sendings.{Taken, WasTaken, Sending, takes, sends}
use Rattle.coap_client.specs.Trace.{Call, Calls}
use Rattle.coap_client_laws.specs.Follows.Answered.{AreAnswered, HasReport, WaitsFor}
use Rattle.coap_client_laws.specs.Follows.Holds.{moment, SendsOf, is_copy}
use Rattle.coap_client_laws.specs.Follows.Open.{IsOpenSince}
use Rattle.coap_client_laws.proofs.Facts.Exchanges.{open_runs}
use Rattle.coap_client_laws.proofs.Facts.Laws.{clock_is}
use Rattle.coap_given_back.specs.AskerYoung.{longest_exchange}
use Rattle.coap_given_back.specs.GivenBack.{one_sent, TakenSince, TakenAlone, IsShut}
use Rattle.coap_given_back.specs.GivenBack.{AreGivenBackAlone}
use Rattle.coap_given_back.specs.KeepsUp as client
use Rattle.coap_given_back.specs.KeepsUp.{has_moment}
use Rattle.coap_given_back.proofs.GivenBack.EachGivenBack.{some_sending, copy_soon, quiet_tick, next_by, rested_by}
use Rattle.coap_given_back.proofs.GivenBack.EachGivenBack.{back}
use Rattle.coap_given_back.proofs.GivenBack.EachGivenBack.{none_more, one_more, takes_then, taken_by, sends_then, soon}
use Rattle.coap_given_back.proofs.GivenBack.LastSent.{last_at, last_now, last_same}
use Rattle.coap_given_back.proofs.GivenBack.Reported.{reported_or_not}
use Rattle.coap_given_back.proofs.Young.Beneath.{rises}

module _ (server : Endpoint) (sizes : Sizes) (setup : Setup) (late : ℕ) where
  abbrev Law : List Call → Type 0
  Law t = ClientLaw server sizes setup t

  abbrev clock : List Call → ℕ
  clock t = client.clock server sizes setup t

  abbrev last : List Call → ℕ
  last t = last_at server sizes setup t

  abbrev Up : ℕ → List Call → Type 0
  Up from_ t = client.KeepsUpSince server sizes setup late from_ t

  abbrev Alone : Taken → ℕ → ℕ → ℕ → List Call → Type 0
  Alone x at wait sent t = TakenAlone server sizes setup x at wait sent t

  pub since_alone : (x : Taken) (at wait sent : ℕ) (t : List Call) → Alone x at wait sent t
      → TakenSince server sizes setup x at sent t
  since_alone x at wait sent [] h = absurd h
  since_alone x at wait sent (c ∷ t) (inl k) = inl (k.0, k.1, k.4)
  since_alone x at wait sent (c ∷ t) (inr k) = inr (k.0, since_alone x at wait k.0 t k.1, k.2)

  was_taken : (x : Taken) (at wait sent : ℕ) (t : List Call) → Alone x at wait sent t → WasTaken x t
  was_taken x at wait sent [] h = absurd h
  was_taken x at wait sent (c ∷ t) (inl k) = inl k.0
  was_taken x at wait sent (c ∷ t) (inr k) = inr (was_taken x at wait k.0 t k.1)

  -- no request was sent here, nor before
  none_here : (t : List Call) (c : Call) (sent before : ℕ) → sent ≡ 0 → sent ≡ one_sent server sizes setup t c + before
      → (sends (own_of sizes t) c ≡ None) × (before ≡ 0)
  none_here t c sent before zero sum = by (sends (own_of sizes t) c) refl
    where
      by : (o : Option Sending) → sends (own_of sizes t) c ≡ o
          → (sends (own_of sizes t) c ≡ None) × (before ≡ 0)
      by None is =
          let one : one_sent server sizes setup t c ≡ 0 = ap (λ (o : Option Sending). cond (is_some o) 1 0) is in
          (is, omega (arith, zero, sum, one))
      by (Some y) is =
          let one : one_sent server sizes setup t c ≡ 1 = ap (λ (o : Option Sending). cond (is_some o) 1 0) is in
          absurd (omega (arith, zero, sum, one))

  takes_none : (t : List Call) (c : Call) (x : Taken) → takes c ≡ Some x → sends (own_of sizes t) c ≡ None
  takes_none t (Calls now r (Ok number)) x h = refl
  takes_none t _ x h = absurd (cc h)

  -- .. so none is open
  shut : (x : Taken) (at wait : ℕ) (t : List Call) (sent : ℕ) → sent ≡ 0 → Alone x at wait sent t
      → IsShut server sizes setup t
  shut x at wait [] sent zero h since o = absurd h
  shut x at wait (c ∷ t) sent zero (inl k) since (inl b) =
      let z = sym (takes_none t c x k.0) ∙ b.sends_it in cc z
  shut x at wait (c ∷ t) sent zero (inl k) since (inr o) = k.2 since o.2
  shut x at wait (c ∷ t) sent zero (inr k) since (inl b) =
      let n = none_here t c sent k.0 zero k.2 in
      let z = sym n.0 ∙ b.sends_it in cc z
  shut x at wait (c ∷ t) sent zero (inr k) since (inr o) =
      let n = none_here t c sent k.0 zero k.2 in
      shut x at wait t k.0 n.1 k.1 since o.2

  -- the call was taken by then
  taken_before : (x : Taken) (at wait sent : ℕ) (t : List Call) (c : Call) → Alone x at wait sent t
      → at ≤ clock (c ∷ t)
  taken_before x at wait sent t c h =
      let a = taken_by server sizes setup late x at t sent (since_alone x at wait sent t h) in
      let r = rises server sizes setup late t c in
      omega (arith, a, r)

  takes_no_copy : (c : Call) (x : Taken) → takes c ≡ Some x → is_copy c ≡ true → ⊥
  takes_no_copy (Calls now r (Ok number)) x h is = cc is
  takes_no_copy _ x h is = cc h

  more_than : (k m : ℕ) → (m < k → ⊥) → k ≤ m
  more_than k m f = omega (arith, f)

  later_yet : (m k other : ℕ) (u : List Call) → Sometime (λ earlier b. SendsOf sizes other earlier b
      × (k ≤ moment (own_of sizes earlier) b + max_latency)) u → m < k
      → Sometime (λ earlier b. SendsOf sizes other earlier b
      × (m < moment (own_of sizes earlier) b + max_latency)) u
  later_yet m k other [] q less = q
  later_yet m k other (b ∷ u) (inl q) less = inl (q.0, (let a = q.1 in omega (arith, a, less)))
  later_yet m k other (b ∷ u) (inr q) less = inr (later_yet m k other u q less)

  -- the hold is of an upload before the call
  held_by : (x : Taken) (at wait : ℕ) (t : List Call) (sent : ℕ) → sent ≡ 0 → Law t → Up at t → Alone x at wait sent t
      → (other k : ℕ) → Sometime (λ earlier b. SendsOf sizes other earlier b
      × (k ≤ moment (own_of sizes earlier) b + max_latency)) t → k ≤ at + wait
  held_by x at wait [] sent zero law up h other k s = absurd h
  held_by x at wait (c ∷ t) sent zero law up (inl h) other k (inl (inl out, over)) =
      let y = some_sending other (sends (own_of sizes t) c) out in
      absurd (shut x at wait (c ∷ t) sent zero (inl h) (clock (c ∷ t)) (inl (record {
        sending = y.0;
        sends_it = y.1;
        moment = sym (clock_is (own_of sizes t) c);
      })))
  held_by x at wait (c ∷ t) sent zero law up (inl h) other k (inl (inr copy, over)) =
      absurd (takes_no_copy c x h.0 copy.0)
  held_by x at wait (c ∷ t) sent zero law up (inl h) other k (inr s) =
      more_than k (at + wait) (λ less. h.3 other (later_yet (at + wait) k other t s less))
  held_by x at wait (c ∷ t) sent zero law up (inr h) other k (inl (inl out, over)) =
      let n = none_here t c sent h.0 zero h.2 in
      let y = some_sending other (sends (own_of sizes t) c) out in
      let z = sym n.0 ∙ y.1 in absurd (cc z)
  held_by x at wait (c ∷ t) sent zero law up (inr h) other k (inl (inr copy, over)) =
      let n = none_here t c sent h.0 zero h.2 in
      let o = copy_soon server sizes setup late at t c law up (taken_before x at wait h.0 t c h.1) copy.0 other copy.1
      in
      absurd (shut x at wait t h.0 n.1 h.1 o.0 o.1)
  held_by x at wait (c ∷ t) sent zero law up (inr h) other k (inr s) =
      let n = none_here t c sent h.0 zero h.2 in
      held_by x at wait t h.0 n.1 (back server sizes setup late c t law) up.1 h.1 other k s

  module _ (answered : (t : List Call) → Law t → AreAnswered server sizes setup t) where
    -- where it rests, an upload is held back
    waits : (x : Taken) (at wait : ℕ) (t : List Call) (sent : ℕ) → sent ≡ 0 → Law t → Up at t → Alone x at wait sent t
        → (HasReport server sizes setup x.number t → ⊥) → (now next : ℕ)
        → client.RestsBy server sizes setup late now next t → now ≤ at + wait + late
    waits x at wait t sent zero law up h untold now next r =
        by ((answered (r.tick ∷ t) r.law).0 r.idle x (was_taken x at wait sent t h) untold)
      where
        q : (sends (own_of sizes t) r.tick ≡ None) × (is_copy r.tick ≡ true → ⊥)
        q = quiet_tick server sizes setup late t r.tick r.idle r.law

        open_then : (since : ℕ) → IsOpenSince sizes since (r.tick ∷ t) → now ≤ at + wait + late
        open_then since (inl b) = let z = sym q.0 ∙ b.sends_it in absurd (cc z)
        open_then since (inr o) = absurd (shut x at wait t sent zero h since o.2)

        held : (other : ℕ) → Sometime (λ earlier b. SendsOf sizes other earlier b
            × (clock (r.tick ∷ t) ≤ moment (own_of sizes earlier) b + max_latency)) (r.tick ∷ t)
            → now ≤ at + wait + late
        held other (inl (inl out, over)) =
            let y = some_sending other (sends (own_of sizes t) r.tick) out in
            let z = sym q.0 ∙ y.1 in absurd (cc z)
        held other (inl (inr copy, over)) = absurd (q.1 copy.0)
        held other (inr s) =
            let k = held_by x at wait t sent zero law up h other (clock (r.tick ∷ t)) s in
            let soon_is = r.soon in
            omega (arith, k, soon_is)

        by : WaitsFor server sizes setup t r.tick → now ≤ at + wait + late
        by (inl n) =
            let o = (open_runs server sizes setup (r.tick ∷ t) r.law).is_open n.exchange n.running in
            open_then o.0 o.1
        by (inr w) = held w.other w.sent

    soon_rested : (x : Taken) (at wait now : ℕ) (t : List Call) (sent next : ℕ) → sent ≡ 0 → Law t → Up at t
        → Alone x at wait sent t → (HasReport server sizes setup x.number t → ⊥)
        → clock t ≤ next → client.HasRested server sizes setup late now next t → now ≤ at + wait + late
    soon_rested x at wait now [] sent next zero law up h untold later r = absurd h
    soon_rested x at wait now (c ∷ t) sent next zero law up h untold later (inl r) =
        waits x at wait (c ∷ t) sent zero law up h untold now next r
    soon_rested x at wait now (c ∷ t) sent next zero law up (inl h) untold later (inr r) =
        let rest : client.HasRested server sizes setup late now (clock (c ∷ t)) t =
        subst (λ b. client.HasRested server sizes setup late now (cond b (clock (c ∷ t)) next) t)
        (takes_then server sizes setup late answered c x h.0) r in
        let a = rested_by server sizes setup late answered now t (clock (c ∷ t)) (rises server sizes setup late t c)
        rest in
        let is = h.1 in
        omega (arith, a, is)
    soon_rested x at wait now (c ∷ t) sent next zero law up (inr h) untold later (inr r) =
        let n = none_here t c sent h.0 zero h.2 in
        let up_by = rises server sizes setup late t c in
        soon_rested x at wait now t h.0 (client.next_of server sizes setup next c t) n.1
        (back server sizes setup late c t law) up.1 h.1 (λ told. untold (inr told))
        (next_by server sizes setup late answered (has_moment c) (clock (c ∷ t)) next (clock t) up_by
        (omega (arith, up_by, later))) r

    first_soon : (x : Taken) (at wait now : ℕ) (t : List Call) (sent : ℕ) → sent ≡ 0 → Law t → Up at t
        → Alone x at wait sent t → (HasReport server sizes setup x.number t → ⊥)
        → clock t ≤ now → client.KeepsUp server sizes setup late at now t → now ≤ at + wait + late
    first_soon x at wait now t sent zero law up h untold later (inl r) =
        soon_rested x at wait now t sent now zero law up h untold later r
    first_soon x at wait now t sent zero law up h untold later (inr near) = omega (arith, near)

    abbrev longest : ℕ
    longest = longest_exchange late

    abbrev Sum : ℕ → ℕ → ℕ → ℕ
    Sum at wait n = at + (wait + (late + n * longest))

    -- when the request was sent that was sent last, if one was
    abbrev Latest : ℕ → ℕ → ℕ → List Call → Type 0
    Latest at wait sent t = (sent ≡ 0) ⊎ ((1 ≤ sent) × (last t + longest_exchange late ≤ Sum at wait sent))

    sent_soon : (o : Option Sending) (x : Taken) (at wait : ℕ) (t : List Call) (c : Call) (sent : ℕ) → Law (c ∷ t)
        → Up at (c ∷ t) → (before : ℕ) → Alone x at wait before t
        → sent ≡ one_sent server sizes setup t c + before
        → (HasReport server sizes setup x.number (c ∷ t) → ⊥) → Latest at wait before t
        → sends (own_of sizes t) c ≡ o → Latest at wait sent (c ∷ t)
    sent_soon None x at wait t c sent law up before h sum untold (inl zero) is =
        let one : one_sent server sizes setup t c ≡ 0 = ap (λ (o : Option Sending). cond (is_some o) 1 0) is in
        inl (omega (arith, sum, one, zero))
    sent_soon None x at wait t c sent law up before h sum untold (inr k) is =
        let same = last_same server sizes setup t c is in
        let one : one_sent server sizes setup t c ≡ 0 = ap (λ (o : Option Sending). cond (is_some o) 1 0) is in
        let some = k.0 in
        let by_then = k.1 in
        let times = none_more longest (one_sent server sizes setup t c) before sent sum one in
        inr (omega (arith, sum, one, some), omega (arith, same, times, by_then))
    sent_soon (Some y) x at wait t c sent law up before h sum untold (inl zero) is =
        let same = last_now server sizes setup t c y is in
        let one : one_sent server sizes setup t c ≡ 1 = ap (λ (o : Option Sending). cond (is_some o) 1 0) is in
        let a = first_soon x at wait (clock (c ∷ t)) t before zero (back server sizes setup late c t law) up.1 h
        (λ told. untold (inr told)) (rises server sizes setup late t c)
        (up.0 (sends_then server sizes setup late answered t c y is) (taken_before x at wait before t c h)) in
        let times = one_more longest (one_sent server sizes setup t c) before sent sum one in
        let none = none_more longest 0 0 before (omega (arith, zero)) refl in
        inr (omega (arith, sum, one, zero), omega (arith, same, times, none, a))
    sent_soon (Some y) x at wait t c sent law up before h sum untold (inr k) is =
        let same = last_now server sizes setup t c y is in
        let one : one_sent server sizes setup t c ≡ 1 = ap (λ (o : Option Sending). cond (is_some o) 1 0) is in
        let some = k.0 in
        let by_then = k.1 in
        let b : ℕ = before - 1 in
        let more : before ≡ 1 + b = omega (arith, some) in
        let times = one_more longest (one_sent server sizes setup t c) before sent sum one in
        let older = one_more longest 1 b before more refl in
        let a = soon server sizes setup late answered x at (Sum at wait b) (clock (c ∷ t)) (omega arith) t before
        (back server sizes setup late c t law) up.1 (since_alone x at wait before t h) (λ told. untold (inr told))
        (omega (arith, older, by_then)) (rises server sizes setup late t c)
        (up.0 (sends_then server sizes setup late answered t c y is) (taken_before x at wait before t c h)) in
        inr (omega (arith, sum, one), omega (arith, same, times, older, a))

    latest : (x : Taken) (at wait : ℕ) (t : List Call) (sent : ℕ) → Law t → Up at t → Alone x at wait sent t
        → (HasReport server sizes setup x.number t → ⊥) → Latest at wait sent t
    latest x at wait [] sent law up h untold = absurd h
    latest x at wait (c ∷ t) sent law up (inl k) untold = inl k.4
    latest x at wait (c ∷ t) sent law up (inr k) untold =
        sent_soon (sends (own_of sizes t) c) x at wait t c sent law up k.0 k.1 k.2 untold
        (latest x at wait t k.0 (back server sizes setup late c t law) up.1 k.1 (λ told. untold (inr told))) refl

    too_late : (x : Taken) (at wait sent now : ℕ) (t : List Call) → Law t → Up at t → Alone x at wait sent t
        → (HasReport server sizes setup x.number t → ⊥) → clock t ≤ now
        → client.KeepsUp server sizes setup late at now t
        → Sum at wait sent < now → Latest at wait sent t → ⊥
    too_late x at wait sent now t law up h untold later here over (inl zero) =
        let a = first_soon x at wait now t sent zero law up h untold later here in
        let none = none_more longest 0 0 sent (omega (arith, zero)) refl in
        omega (arith, none, a, over)
    too_late x at wait sent now t law up h untold later here over (inr k) =
        let some = k.0 in
        let by_then = k.1 in
        let b : ℕ = sent - 1 in
        let more : sent ≡ 1 + b = omega (arith, some) in
        let times = one_more longest 1 b sent more refl in
        let a = soon server sizes setup late answered x at (Sum at wait b) now (omega arith) t sent law up
        (since_alone x at wait sent t h) untold (omega (arith, times, by_then)) later here in
        omega (arith, times, a, over)

    pub are_given_back_alone : (t : List Call) → Law t → AreGivenBackAlone server sizes setup late t
    are_given_back_alone t law x at wait sent now h up over =
        by (reported_or_not server sizes setup x.number t)
      where
        by : HasReport server sizes setup x.number t ⊎ (HasReport server sizes setup x.number t → ⊥)
            → HasReport server sizes setup x.number t
        by (inl told) = told
        by (inr untold) =
            absurd (too_late x at wait sent now t law up.0 h untold up.1 up.2 over
            (latest x at wait t sent law up.0 h untold))
