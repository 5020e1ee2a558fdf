-- While a call is not reported, the next request goes out soon, or the exchange that is open ends soon.
use Rattle.std.proofs.Common.{◌≡◌, ◌⊎◌, inl, inr, ◌≤◌, ◌<◌, ℕ, ◌+◌, ◌*◌, max, Bool, true, false, cond, is_some}
use Rattle.std.proofs.Common.{Option, Some, None, List, [], ◌∷◌, refl, ap, sym, subst, ◌∙◌, arith, Result, Ok}
use Rattle.std.proofs.Math.Decide.{dec_le}
use Rattle.coap_types.specs.Past.{Sometime}
use Rattle.coap_types.specs.declared.endpoint.Endpoint.{Endpoint}
use Rattle.coap_types.specs.declared.transmission.TheConstants.{MAX_LATENCY_MS as max_latency}
use Rattle.coap_layer.specs.Trace as L
use Rattle.coap_layer.specs.declared.setup.Setup.{Setup}
use Rattle.coap_block.specs.Sizes.{Sizes}
use Rattle.coap_exchange.specs.declared.asker.AskRefusal.{AskRefusal}
use Rattle.coap_exchange.specs.declared.asker.Turn.{Turn}
use Rattle.coap_exchange.specs.declared.asker.Turn.TheVariants as turn_is
use Rattle.coap_client.specs.Law.{ClientLaw, own_of, lower_of}
use Rattle.coap_client.specs.Own.{Operation}
use Rattle.coap_client.specs.Sendings.{Taken, WasTaken, Sending, takes, sends, sent_by}
use Rattle.coap_client.specs.Trace.{Call, Calls, Feeds, Ticks}
use Rattle.coap_client.proofs.Facts.Turning.Leading.{client_back}
use Rattle.coap_client_laws.specs.Follows.Answered.{AreAnswered, HasReport, IsIdleTick, WaitsFor}
use Rattle.coap_client_laws.specs.Follows.Holds.{moment, SendsOf, sends_of, is_copy, is_upload_of}
use Rattle.coap_client_laws.specs.Follows.Open.{IsOpenSince}
use Rattle.coap_client_laws.proofs.Facts.Exchanges.{open_runs}
use Rattle.coap_client_laws.proofs.Rest.Resting.{rested}
use Rattle.coap_client_laws.proofs.Sending.Moments.{moment_same}
use Rattle.coap_given_back.specs.AskerYoung.{longest_exchange}
use Rattle.coap_given_back.specs.GivenBack.{one_sent, TakenSince, AreGivenBack}
use Rattle.coap_given_back.specs.KeepsUp as client
use Rattle.coap_given_back.specs.KeepsUp.{has_moment}
use Rattle.coap_given_back.proofs.GivenBack.Copied.{copied_soon}
use Rattle.coap_given_back.proofs.GivenBack.LastSent.{last_at, last_by, last_rises, last_now, last_same, since_last}
use Rattle.coap_given_back.proofs.GivenBack.Reported.{reported_or_not}
use Rattle.coap_given_back.proofs.Young.AskerYoung.{young_at_rest}
use Rattle.coap_given_back.proofs.Young.Beneath.{rises, rest_beneath, keeps_up_since}

pub some_op : (number : ℕ) (o : Option Operation) → is_upload_of number o ≡ true → (op : Operation) × (o ≡ Some op)
some_op number None h = absurd (cc h)
some_op number (Some op) h = (op, refl)

pub some_sending : (number : ℕ) (o : Option Sending) → sends_of number o ≡ true → (x : Sending) × (o ≡ Some x)
some_sending number None h = absurd (cc h)
some_sending number (Some x) h = (x, refl)

-- so many requests, and one more or none

pub none_more : (longest one before sent : ℕ) → sent ≡ one + before → one ≡ 0 → sent * longest ≡ before * longest
none_more longest one before sent sum zero =
    let same : sent ≡ before = omega (arith, sum, zero) in ap (λ n. n * longest) same

pub one_more : (longest one before sent : ℕ) → sent ≡ one + before → one ≡ 1
    → sent * longest ≡ longest + before * longest
one_more longest one before sent sum is =
    let same : sent ≡ 1 + before = omega (arith, sum, is) in
    let times : (1 + before) * longest ≡ longest + before * longest = omega arith in
    ap (λ n. n * longest) same ∙ times

module _ (server : Endpoint) (sizes : Sizes) (setup : Setup) (late : ℕ) where
  abbrev Law : List Call → Type 0
  Law t = ClientLaw server sizes setup t

  abbrev clock : List Call → ℕ
  clock t = client.clock server sizes setup t

  abbrev last : List Call → ℕ
  last t = last_at server sizes setup t

  abbrev Up : ℕ → List Call → Type 0
  Up from_ t = client.KeepsUpSince server sizes setup late from_ t

  pub back : (c : Call) (t : List Call) → Law (c ∷ t) → Law t
  back c t law = client_back server sizes setup (c ∷ []) t law

  -- a copy of an upload is sent soon behind its beginning
  pub copy_soon : (from_ : ℕ) (t : List Call) (c : Call) → Law (c ∷ t) → Up from_ (c ∷ t) → from_ ≤ clock (c ∷ t)
      → is_copy c ≡ true → (number : ℕ)
      → is_upload_of number (own_of sizes t).running ≡ true → (since : ℕ) × IsOpenSince sizes since t
      × (clock (c ∷ t) < max from_ since + 93000 + late)
  copy_soon from_ t (Ticks now w below turn_is.Copied sent token kept answer) law up from_then is number runs =
      let o = some_op number (own_of sizes t).running runs in
      copied_soon server sizes setup t now w below sent token kept answer law late from_ (up.0 refl from_then)
      (rises server sizes setup late t (Ticks now w below turn_is.Copied sent token kept answer)) o.0 o.1
  copy_soon from_ t _ law up from_then is number runs = absurd (cc is)

  held_by : (from_ : ℕ) (t : List Call) → Law t → Up from_ t → (till : ℕ) → last t ≤ till → from_ ≤ till → (other k : ℕ)
      → Sometime (λ earlier b. SendsOf sizes other earlier b
      × (k ≤ moment (own_of sizes earlier) b + max_latency)) t → k ≤ till + 193000 + late
  held_by from_ [] law up till le from_till other k h = absurd h
  held_by from_ (c ∷ t) law up till le from_till other k (inr h) =
      let r = last_rises server sizes setup t c in
      held_by from_ t (back c t law) up.1 till (omega (arith, r, le)) from_till other k h
  held_by from_ (c ∷ t) law up till le from_till other k (inl (inl sent, over)) =
      let x = some_sending other (sends (own_of sizes t) c) sent in
      let now = last_now server sizes setup t c x.0 x.1 in
      let same = moment_same (own_of sizes t) c in
      omega (arith, now, same, le, over)
  held_by from_ (c ∷ t) law up till le from_till other k (inl (inr copy, over)) =
      let same = moment_same (own_of sizes t) c in
      let soon : clock (c ∷ t) < till + 93000 + late = elim (dec_le from_ (clock (c ∷ t))) [
        | yes from_then ↦ (
            let o = copy_soon from_ t c law up from_then copy.0 other copy.1 in
            let began = since_last server sizes setup o.0 t o.1 in
            let r = last_rises server sizes setup t c in
            let is = o.2 in
            omega (arith, began, r, is, le, from_till))
        | no less ↦ omega (arith, less, from_till)
      ] in
      omega (arith, soon, same, over)

  -- a tick that does nothing

  module _ (t : List Call) (now w : ℕ) (below : L.Answer) (turn : Turn) (sent : L.Answer)
      (token : Result (List ℕ) AskRefusal) (kept : Bool)
      (law : Law (Ticks now w below turn sent token kept false ∷ t)) where
    abbrev tick : Call
    tick = Ticks now w below turn sent token kept false

    sends_none : sends (own_of sizes t) tick ≡ None
    sends_none =
        let r = rested server sizes setup t now w below turn sent token kept law.rows.0 in
        ap (λ e. sent_by e e.deed token) r.effect_is

    no_copy : is_copy tick ≡ true → ⊥
    no_copy h =
        let r = rested server sizes setup t now w below turn sent token kept law.rows.0 in
        let k : false ≡ true =
        sym (ap (λ u. is_copy (Ticks now w below u sent token kept false)) r.idle_is) ∙ h in
        cc k

  pub quiet_tick : (t : List Call) (c : Call) → IsIdleTick server sizes setup c → Law (c ∷ t)
      → (sends (own_of sizes t) c ≡ None) × (is_copy c ≡ true → ⊥)
  quiet_tick t c k law =
      let is = k.7 in
      subst (λ d. (sends (own_of sizes t) d ≡ None) × (is_copy d ≡ true → ⊥)) (sym is) (
        sends_none t k.0 k.1 k.2 k.3 k.4 k.5 k.6 (subst (λ d. Law (d ∷ t)) is law),
        no_copy t k.0 k.1 k.2 k.3 k.4 k.5 k.6 (subst (λ d. Law (d ∷ t)) is law),
      )

  pub taken_by : (x : Taken) (taken : ℕ) (t : List Call) (sent : ℕ) → TakenSince server sizes setup x taken sent t
      → taken ≤ clock t
  taken_by x taken [] sent since = absurd since
  taken_by x taken (c ∷ t) sent (inl k) = let is = k.1 in omega (arith, is)
  taken_by x taken (c ∷ t) sent (inr k) =
      let a = taken_by x taken t k.0 k.1 in let r = rises server sizes setup late t c in omega (arith, a, r)

  module _ (answered : (t : List Call) → Law t → AreAnswered server sizes setup t) where
    -- where it rests, an exchange is open, or an upload is held back
    waits : (from_ : ℕ) (t : List Call) → Law t → Up from_ t → (x : Taken) → WasTaken x t
        → (HasReport server sizes setup x.number t → ⊥)
        → (at next : ℕ) → client.RestsBy server sizes setup late at next t → (till : ℕ) → last t ≤ till → from_ ≤ till
        → at < till + longest_exchange late
    waits from_ t law up x was untold at next r till le from_till =
        by ((answered (r.tick ∷ t) r.law).0 r.idle x was untold)
      where
        q : (sends (own_of sizes t) r.tick ≡ None) × (is_copy r.tick ≡ true → ⊥)
        q = quiet_tick t r.tick r.idle r.law

        open_then : (since : ℕ) → IsOpenSince sizes since (r.tick ∷ t) → at < till + longest_exchange late
        open_then since (inl b) = let z = sym q.0 ∙ b.sends_it in absurd (cc z)
        open_then since (inr o) =
            let runs = (open_runs server sizes setup t law).runs since o.2 in
            let young = young_at_rest server setup late from_ at next (lower_of sizes t) law.exchanges
            (keeps_up_since server sizes setup late from_ t up) (rest_beneath server sizes setup late at next t r)
            runs.exchange runs.runs runs.begun runs.last_begun in
            let m = runs.moment in
            let began = since_last server sizes setup since t o.2 in
            omega (arith, young, m, began, le, from_till)

        held : (other : ℕ) → Sometime (λ earlier b. SendsOf sizes other earlier b
            × (clock (r.tick ∷ t) ≤ moment (own_of sizes earlier) b + max_latency)) (r.tick ∷ t)
            → at < till + longest_exchange late
        held other (inl (inl sent, over)) =
            let x_sent = some_sending other (sends (own_of sizes t) r.tick) sent in
            let z = sym q.0 ∙ x_sent.1 in absurd (cc z)
        held other (inl (inr copy, over)) = absurd (q.1 copy.0)
        held other (inr h) =
            let k = held_by from_ t law up till le from_till other (clock (r.tick ∷ t)) h in
            let soon = r.soon in
            omega (arith, k, soon)

        by : WaitsFor server sizes setup t r.tick → at < till + longest_exchange late
        by (inl n) =
            let o = (open_runs server sizes setup (r.tick ∷ t) r.law).is_open n.exchange n.running in
            open_then o.0 o.1
        by (inr h) = held h.other h.sent

    -- the moment of the next call

    pub next_by : (b : Bool) (m n k : ℕ) → k ≤ m → k ≤ n → k ≤ cond b m n
    next_by true m n k h l = h
    next_by false m n k h l = l

    pub next_till : (b : Bool) (m n : ℕ) → m ≤ n → cond b m n ≤ n
    next_till true m n h = h
    next_till false m n h = omega arith

    pub rested_by : (at : ℕ) (t : List Call) (next : ℕ) → clock t ≤ next
        → client.HasRested server sizes setup late at next t
        → at ≤ next + late
    rested_by at [] next le r = let a = r.before in let b = r.soon in omega (arith, a, b)
    rested_by at (c ∷ t) next le (inl r) = let a = r.before in let b = r.soon in omega (arith, a, b)
    rested_by at (c ∷ t) next le (inr h) =
        let up = rises server sizes setup late t c in
        let k = rested_by at t (client.next_of server sizes setup next c t)
        (next_by (has_moment c) (clock (c ∷ t)) next (clock t) up (omega (arith, up, le))) h in
        let till = next_till (has_moment c) (clock (c ∷ t)) next le in
        omega (arith, k, till)

    pub takes_then : (c : Call) (x : Taken) → takes c ≡ Some x → has_moment c ≡ true
    takes_then (Calls now r (Ok number)) x h = refl
    takes_then _ x h = absurd (cc h)

    pub takes_alone : (t : List Call) (c : Call) (x : Taken) → takes c ≡ Some x → sends (own_of sizes t) c ≡ None
    takes_alone t (Calls now r (Ok number)) x h = refl
    takes_alone t _ x h = absurd (cc h)

    was_taken : (x : Taken) (at sent : ℕ) (t : List Call) → TakenSince server sizes setup x at sent t → WasTaken x t
    was_taken x at sent [] h = absurd h
    was_taken x at sent (c ∷ t) (inl k) = inl k.0
    was_taken x at sent (c ∷ t) (inr k) = inr (was_taken x at k.0 t k.1)

    -- so soon behind what was sent last, or behind the call
    soon_rested : (x : Taken) (taken till at : ℕ) → taken ≤ till → (t : List Call) (sent next : ℕ) → Law t
        → Up taken t
        → TakenSince server sizes setup x taken sent t → (HasReport server sizes setup x.number t → ⊥)
        → last t ≤ till → clock t ≤ next → client.HasRested server sizes setup late at next t
        → at < till + longest_exchange late
    soon_rested x taken till at from [] sent next law up since untold le later h = absurd since
    soon_rested x taken till at from (c ∷ t) sent next law up since untold le later (inl r) =
        waits taken (c ∷ t) law up x (was_taken x taken sent (c ∷ t) since) untold at next r till le from
    soon_rested x taken till at from (c ∷ t) sent next law up (inl k) untold le later (inr h) =
        let rest : client.HasRested server sizes setup late at (clock (c ∷ t)) t =
        subst (λ b. client.HasRested server sizes setup late at (cond b (clock (c ∷ t)) next) t) (takes_then c x k.0) h
        in
        let a = rested_by at t (clock (c ∷ t)) (rises server sizes setup late t c) rest in
        let is = k.1 in
        omega (arith, a, is, from)
    soon_rested x taken till at from (c ∷ t) sent next law up (inr k) untold le later (inr h) =
        let r = last_rises server sizes setup t c in
        let clock_rises = rises server sizes setup late t c in
        soon_rested x taken till at from t k.0 (client.next_of server sizes setup next c t) (back c t law) up.1 k.1
        (λ told. untold (inr told)) (omega (arith, r, le))
        (next_by (has_moment c) (clock (c ∷ t)) next (clock t) clock_rises (omega (arith, clock_rises, later))) h

    pub soon : (x : Taken) (taken till at : ℕ) → taken ≤ till → (t : List Call) (sent : ℕ) → Law t → Up taken t
        → TakenSince server sizes setup x taken sent t → (HasReport server sizes setup x.number t → ⊥)
        → last t ≤ till → clock t ≤ at → client.KeepsUp server sizes setup late taken at t
        → at < till + longest_exchange late
    soon x taken till at from t sent law up since untold le later (inl h) =
        soon_rested x taken till at from t sent at law up since untold le later h
    soon x taken till at from t sent law up since untold le later (inr near) = omega (arith, near, from)

    pub sends_then : (t : List Call) (c : Call) (x : Sending) → sends (own_of sizes t) c ≡ Some x → has_moment c ≡ true
    sends_then t (Feeds now from bytes w up settled event sent token kept) x h = refl
    sends_then t (Ticks now w below turn sent token kept answer) x h = refl
    sends_then t _ x h = absurd (cc h)

    -- .. so each request was sent soon

    sent_soon : (o : Option Sending) (x : Taken) (taken : ℕ) (t : List Call) (c : Call) (sent : ℕ) → Law (c ∷ t)
        → Up taken (c ∷ t) → (before : ℕ) → TakenSince server sizes setup x taken before t
        → sent ≡ one_sent server sizes setup t c + before
        → (HasReport server sizes setup x.number (c ∷ t) → ⊥)
        → last t ≤ taken + before * longest_exchange late → sends (own_of sizes t) c ≡ o
        → last (c ∷ t) ≤ taken + sent * longest_exchange late
    sent_soon None x taken t c sent law up before since sum untold by_then is =
        let same = last_same server sizes setup t c is in
        let one : one_sent server sizes setup t c ≡ 0 = ap (λ (o : Option Sending). cond (is_some o) 1 0) is in
        let times = none_more (longest_exchange late) (one_sent server sizes setup t c) before sent sum one in
        omega (arith, same, times, by_then)
    sent_soon (Some y) x taken t c sent law up before since sum untold by_then is =
        let same = last_now server sizes setup t c y is in
        let one : one_sent server sizes setup t c ≡ 1 = ap (λ (o : Option Sending). cond (is_some o) 1 0) is in
        let was = taken_by x taken t before since in
        let r = rises server sizes setup late t c in
        let a = soon x taken (taken + before * longest_exchange late) (clock (c ∷ t)) (omega arith) t before (back c t
        law)
        up.1 since (λ told. untold (inr told)) by_then r (up.0 (sends_then t c y is) (omega (arith, was, r))) in
        let times = one_more (longest_exchange late) (one_sent server sizes setup t c) before sent sum one in
        omega (arith, same, times, a)

    latest : (x : Taken) (taken : ℕ) (t : List Call) (sent : ℕ) → Law t → Up taken t
        → TakenSince server sizes setup x taken sent t → (HasReport server sizes setup x.number t → ⊥)
        → last t ≤ taken + sent * longest_exchange late
    latest x taken [] sent law up since untold = absurd since
    latest x taken (c ∷ t) sent law up (inl k) untold =
        let same = last_same server sizes setup t c (takes_alone t c x k.0) in
        let a = last_by server sizes setup t in
        let b = rises server sizes setup late t c in
        let is = k.1 in
        let none = k.2 in
        omega (arith, same, a, b, is, none)
    latest x taken (c ∷ t) sent law up (inr k) untold =
        let before = latest x taken t k.0 (back c t law) up.1 k.1 (λ told. untold (inr told)) in
        sent_soon (sends (own_of sizes t) c) x taken t c sent law up k.0 k.1 k.2 untold before refl

    pub are_given_back : (t : List Call) → Law t → AreGivenBack server sizes setup late t
    are_given_back t law x taken sent now since up over =
        by (reported_or_not server sizes setup x.number t)
      where
        by : HasReport server sizes setup x.number t ⊎ (HasReport server sizes setup x.number t → ⊥)
            → HasReport server sizes setup x.number t
        by (inl told) = told
        by (inr untold) =
            let a = latest x taken t sent law up.0 since untold in
            let b = soon x taken (taken + sent * longest_exchange late) now (omega arith) t sent law up.0 since untold a
            up.1 up.2 in
            absurd (omega (arith, b, over))
