-- Clocks that show the moments of a run, and more: they keep pace.
use Rattle.std.proofs.Common.{◌≡◌, ◌⊎◌, inl, inr, ⊎_elim, ◌≤◌, ◌<◌, ℕ, ◌+◌, nat_le, Bool, true, ◌&&◌, List, [], ◌∷◌}
use Rattle.std.proofs.Common.{length, ap, arith, cond}
use Rattle.std.proofs.lemmas.Bool.{le-leb, lt-leb, leb-true, cases_lt, and_parts}
use Rattle.coap_types.specs.declared.endpoint.Endpoint.{Endpoint}
use Rattle.coap_promise.specs.ClockRuns.{shows}
use Rattle.coap_promise.specs.Clocks.{AreClocks}
use Rattle.coap_many.specs.Clocks.{of_two}
use Rattle.coap_many.specs.ManyRuns.{clocks_of, more}

-- moments, the newest first, none of which is before an older one

abbrev newest : List ℕ → ℕ
newest [] = 0
newest (at ∷ past) = at

abbrev pub are_rising : List ℕ → Bool
are_rising [] = true
are_rising (at ∷ past) = nat_le (newest past) at && are_rising past

here : (at : ℕ) (past : List ℕ) (n : ℕ) → length past ≤ n → shows (at ∷ past) n ≡ at
here at past n le = ap (λ b. cond b at (shows past n)) (le-leb (length past) n le)

before : (at : ℕ) (past : List ℕ) (n : ℕ) → n < length past → shows (at ∷ past) n ≡ shows past n
before at past n less = ap (λ b. cond b at (shows past n)) (lt-leb (length past) n less)

till : (moments : List ℕ) (n : ℕ) → are_rising moments ≡ true → shows moments n ≤ newest moments
till [] n rising = omega arith
till (at ∷ past) n rising =
    let k = and_parts _ _ rising in
    let last = leb-true (newest past) at k.0 in
    ⊎_elim (λ less. let b = before at past n less in let r = till past n k.1 in omega (arith, b, r, last))
    (λ le. let h = here at past n le in omega (arith, h)) (cases_lt n (length past))

rises : (moments : List ℕ) (i j : ℕ) → are_rising moments ≡ true → i ≤ j → shows moments i ≤ shows moments j
rises [] i j rising le = omega arith
rises (at ∷ past) i j rising le =
    let k = and_parts _ _ rising in
    by (leb-true (newest past) at k.0) (till past i k.1) (rises past i j k.1 le) (cases_lt i (length past))
    (cases_lt j (length past))
  where
    by : newest past ≤ at → shows past i ≤ newest past → shows past i ≤ shows past j
        → (i < length past) ⊎ (length past ≤ i) → (j < length past) ⊎ (length past ≤ j)
        → shows (at ∷ past) i ≤ shows (at ∷ past) j
    by last most r (inl early) (inl soon) =
        let a = before at past i early in let b = before at past j soon in omega (arith, a, b, r)
    by last most r (inl early) (inr late) =
        let a = before at past i early in let b = here at past j late in omega (arith, a, b, last, most)
    by last most r (inr behind) q =
        let a = here at past i behind in let b = here at past j (omega (arith, behind, le)) in omega (arith, a, b)

-- of whatever client and the server
pub are_clocks : (moments : List ℕ) → are_rising moments ≡ true → (who : Endpoint)
    → AreClocks (of_two (clocks_of moments) who)
are_clocks moments rising who = paced (more who)
  where
    paced : (gain : ℕ) → AreClocks (record { client = λ n. gain + shows moments n; server = shows moments })
    paced gain = record {
      near = record {
        rises = λ i j le. (let r = rises moments i j rising le in omega (arith, r));
        pace = λ i j passed le short is. omega (arith, is);
      };
      far = record {
        rises = λ i j le. rises moments i j rising le;
        pace = λ i j passed le short is. omega (arith, is);
      };
    }
