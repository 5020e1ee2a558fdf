-- Clocks that show the moments of a run's events, and of which one makes a step: what one gains on the other.
use Rattle.std.proofs.Common.{◌≡◌, ◌⊎◌, inl, inr, ⊎_elim, ◌≤◌, ◌<◌, ℕ, ◌+◌, nat_le, Bool, true, false, ◌&&◌, List, []}
use Rattle.std.proofs.Common.{◌∷◌, length, refl, ap, arith, cond}
use Rattle.std.proofs.lemmas.Bool.{le-leb, lt-leb, leb-true, cases_lt, and_parts}
use Rattle.coap_layer.specs.Clocks.{KeepsPace, max_gain}
use Rattle.coap_promise.specs.ClockRuns.{shows, leaps, GainsInAll}

-- moments, the newest first, none of which is before an older one

abbrev newest : List ℕ → ℕ
newest [] = 0
newest (at ∷ past) = at

abbrev pub are_rising : List ℕ → Bool
are_rising [] = true
are_rising (at ∷ past) = nat_le (newest past) at && are_rising past

here : (at : ℕ) (past : List ℕ) (n : ℕ) → length past ≤ n → shows (at ∷ past) n ≡ at
here at past n le = ap (λ b. cond b at (shows past n)) (le-leb (length past) n le)

before : (at : ℕ) (past : List ℕ) (n : ℕ) → n < length past → shows (at ∷ past) n ≡ shows past n
before at past n less = ap (λ b. cond b at (shows past n)) (lt-leb (length past) n less)

till : (moments : List ℕ) (n : ℕ) → are_rising moments ≡ true → shows moments n ≤ newest moments
till [] n rising = omega arith
till (at ∷ past) n rising =
    let k = and_parts _ _ rising in
    let last = leb-true (newest past) at k.0 in
    ⊎_elim (λ less. let b = before at past n less in let r = till past n k.1 in omega (arith, b, r, last))
    (λ le. let h = here at past n le in omega (arith, h)) (cases_lt n (length past))

rises : (moments : List ℕ) (i j : ℕ) → are_rising moments ≡ true → i ≤ j → shows moments i ≤ shows moments j
rises [] i j rising le = omega arith
rises (at ∷ past) i j rising le =
    let k = and_parts _ _ rising in
    by (leb-true (newest past) at k.0) (till past i k.1) (rises past i j k.1 le) (cases_lt i (length past))
    (cases_lt j (length past))
  where
    by : newest past ≤ at → shows past i ≤ newest past → shows past i ≤ shows past j
        → (i < length past) ⊎ (length past ≤ i) → (j < length past) ⊎ (length past ≤ j)
        → shows (at ∷ past) i ≤ shows (at ∷ past) j
    by last most r (inl early) (inl soon) =
        let a = before at past i early in let b = before at past j soon in omega (arith, a, b, r)
    by last most r (inl early) (inr late) =
        let a = before at past i early in let b = here at past j late in omega (arith, a, b, last, most)
    by last most r (inr behind) q =
        let a = here at past i behind in let b = here at past j (omega (arith, behind, le)) in omega (arith, a, b)

-- the step

abbrev step : (by from n : ℕ) → ℕ
step by from n = cond (nat_le from n) by 0

stepped : (by from i j : ℕ) → i ≤ j → (step by from i ≤ step by from j) × (step by from j ≤ step by from i + by)
stepped by from i j le = go (nat_le from i) (nat_le from j) later
  where
    later : nat_le from i ≡ true → nat_le from j ≡ true
    later h = let k = leb-true from i h in le-leb from j (omega (arith, k, le))

    go : (a b : Bool) → (a ≡ true → b ≡ true) → (cond a by 0 ≤ cond b by 0) × (cond b by 0 ≤ cond a by 0 + by)
    go true true h = (omega arith, omega arith)
    go true false h = absurd (let e : false ≡ true = h refl in cc e)
    go false true h = (omega arith, omega arith)
    go false false h = (omega arith, omega arith)

module _ (moments : List ℕ) (rising : are_rising moments ≡ true) (ahead by from : ℕ) where
  leaping : (i j : ℕ) → i ≤ j → leaps moments ahead by from i ≤ leaps moments ahead by from j
  leaping i j le = let r = rises moments i j rising le in let s = (stepped by from i j le).0 in omega (arith, r, s)

  loses_none : (i j : ℕ) → i ≤ j
      → shows moments j + leaps moments ahead by from i ≤ shows moments i + leaps moments ahead by from j
  loses_none i j le = let s = (stepped by from i j le).0 in omega (arith, s)

  gains_most : (i j : ℕ) → i ≤ j
      → leaps moments ahead by from j + shows moments i ≤ leaps moments ahead by from i + shows moments j + by
  gains_most i j le = let s = (stepped by from i j le).1 in omega (arith, s)

  -- the clock that makes the step is the server's, and gains so much on the client's
  pub gains : GainsInAll by (record { client = shows moments; server = leaps moments ahead by from })
  gains = record {
    client = λ i j le. rises moments i j rising le;
    server = leaping;
    behind = loses_none;
    ahead = gains_most;
  }

  -- a step that is no longer than pace allows

  pub steady : by ≤ max_gain → KeepsPace (shows moments) (leaps moments ahead by from)
  steady few = record {
    rises = λ i j le. rises moments i j rising le;
    pace = λ i j passed le short is. (let g = gains_most i j le in omega (arith, g, is, few));
  }

  pub stepping : KeepsPace (leaps moments ahead by from) (shows moments)
  stepping = record {
    rises = leaping;
    pace = λ i j passed le short is. (let g = loses_none i j le in omega (arith, g, is));
  }
