-- Numbers in network byte order: their bounds, their fewest bytes, and that they have one spelling.
use Rattle.std.proofs.Common.{◌≡◌, ◌≢◌, ℕ, ◌%◌, ◌==◌, nat_le, nat_lt, Bool, true, false, Some, None, if◌then◌else◌, ◌+◌}
use Rattle.std.proofs.Common.{◌*◌, ◌/◌, ◌^◌, ◌<◌, ◌≤◌, ◌∙◌, List, [], ◌∷◌, length, refl, sym, ap, arith, inl, inr}
use native.Mathlib.Numerals.{unary_clauses}
use Rattle.std.proofs.Math.Nat.{pow-le-pow_right}
use Rattle.std.proofs.lemmas.Bool.{cases_lt, cond-true, le-leb}
use Rattle.std.proofs.lemmas.Bool.Decides.{nat_tests}
use Rattle.std.proofs.lemmas.List.Elements.{All-tail}
use Rattle.std.proofs.lemmas.Nat.{div-mul-add, mul-add-lt, mul-le}
use Rattle.coap_types.specs.Bytes.{AreBytes}
use Rattle.coap_types.proofs.Facts.Bytes.{AreBytes-nil, AreBytes-cons}
use Rattle.coap_types.specs.Uint.{IsSpelling, LeadsWithNoZero, number_of, uint, uint_value}

-- what follows a byte
rest_bytes : (b : ℕ) (bs : List ℕ) → AreBytes (b ∷ bs) → AreBytes bs
rest_bytes b bs bytes = All-tail (λ (x : ℕ). x < 256) b bs bytes

-- so many bytes spell a number below this power
pub number_below : (bs : List ℕ) → AreBytes bs → number_of bs < 256 ^ length bs
number_below [] bytes = omega arith
number_below (b ∷ bs) bytes = simp unary_clauses
    (mul-add-lt b (256 ^ length bs) (number_of bs) 256 (bytes 0 0 (omega arith))
    (number_below bs (rest_bytes b bs bytes)))

-- where no zero byte leads, no fewer bytes spell the number
pub fewest : (xs ys : List ℕ) → LeadsWithNoZero xs → AreBytes ys → number_of ys ≡ number_of xs → length xs ≤ length ys
fewest [] ys lead bytes same = omega arith
fewest (b ∷ bs) ys lead bytes same =
    elim (cases_lt (length bs) (length ys)) [
      | inl longer ↦ omega arith
      | inr shorter ↦
          let powers : 256 ^ length ys ≤ 256 ^ length bs = pow-le-pow_right {n = 256} (omega arith) shorter in
          let head : 1 * 256 ^ length bs ≤ b * 256 ^ length bs =
          mul-le 1 (256 ^ length bs) b (256 ^ length bs) (omega arith) (omega arith) in
          let below : number_of ys < 256 ^ length ys = number_below ys bytes in
          omega arith
    ]

-- as many bytes that spell the same number are the same
pub same_bytes : (xs ys : List ℕ) → length xs ≡ length ys → AreBytes xs → AreBytes ys → number_of xs ≡ number_of ys
    → xs ≡ ys
same_bytes [] [] long xs_bytes ys_bytes same = refl
same_bytes [] (y ∷ ys) long xs_bytes ys_bytes same = absurd (omega arith)
same_bytes (x ∷ xs) [] long xs_bytes ys_bytes same = absurd (omega arith)
same_bytes (x ∷ xs) (y ∷ ys) long xs_bytes ys_bytes same =
    let tails : length xs ≡ length ys = omega arith in
    let power : 256 ^ length xs ≡ 256 ^ length ys = ap (λ (n : ℕ). 256 ^ n) tails in
    let below : number_of xs < 256 ^ length ys = rw (← power) (number_below xs (rest_bytes x xs xs_bytes)) in
    let even : x * 256 ^ length ys + number_of xs
    ≡ y * 256 ^ length ys + number_of ys = ap (λ (p : ℕ). x * p + number_of xs) (sym power) ∙ same in
    let heads : x ≡ y =
    sym (div-mul-add x (256 ^ length ys) (number_of xs) below) ∙ ap (λ (n : ℕ). n / 256 ^ length ys) even
    ∙ div-mul-add y (256 ^ length ys) (number_of ys) (number_below ys (rest_bytes y ys ys_bytes)) in
    let worth : x * 256 ^ length ys ≡ y * 256 ^ length ys = ap (λ (n : ℕ). n * 256 ^ length ys) heads in
    let rest : number_of xs ≡ number_of ys = omega arith in
    λ i. heads i ∷ same_bytes xs ys tails (rest_bytes x xs xs_bytes) (rest_bytes y ys ys_bytes) rest i

-- a number has one spelling
pub one_spelling : (xs ys : List ℕ) (number : ℕ) → IsSpelling xs number → IsSpelling ys number → xs ≡ ys
one_spelling xs ys number p q =
    let same : number_of xs ≡ number_of ys = p.spelt ∙ sym q.spelt in
    let up : length xs ≤ length ys = fewest xs ys p.no_zero q.are_bytes (sym same) in
    let down : length ys ≤ length xs = fewest ys xs q.no_zero p.are_bytes same in
    same_bytes xs ys (omega arith) p.are_bytes q.are_bytes same

-- a number below this power of 256 has at most so many bytes
pub few_bytes : (bytes : List ℕ) (number most : ℕ) → IsSpelling bytes number → number < 256 ^ most → length bytes ≤ most
few_bytes [] number most s below = omega arith
few_bytes (b ∷ bs) number most s below =
    elim (cases_lt (length bs) most) [
      | inl shorter ↦ omega arith
      | inr longer ↦
          let powers : 256 ^ most ≤ 256 ^ length bs = pow-le-pow_right {n = 256} (omega arith) longer in
          let lead : 0 < b = s.no_zero in
          let head : 1 * 256 ^ length bs ≤ b * 256 ^ length bs =
          mul-le 1 (256 ^ length bs) b (256 ^ length bs) (omega arith) (omega arith) in
          let spelt : b * 256 ^ length bs + number_of bs ≡ number = s.spelt in
          absurd (omega (arith, powers, head, spelt, below))
    ]

-- the fewest bytes, by how many they are

-- these are bytes
are_2 : (a b : ℕ) → a < 256 → b < 256 → AreBytes (a ∷ b ∷ [])
are_2 a b small_a small_b = AreBytes-cons a (b ∷ []) small_a (AreBytes-cons b [] small_b AreBytes-nil)

are_3 : (a b c : ℕ) → a < 256 → b < 256 → c < 256 → AreBytes (a ∷ b ∷ c ∷ [])
are_3 a b c small_a small_b small_c = AreBytes-cons a (b ∷ c ∷ []) small_a (are_2 b c small_b small_c)

one_byte : (n : ℕ) → n ≢ 0 → n < 256 → IsSpelling (n ∷ []) n
one_byte n some below = record {
  are_bytes = AreBytes-cons n [] below AreBytes-nil;
  spelt = omega arith;
  no_zero = omega arith;
}

two_bytes : (n : ℕ) → 256 ≤ n → n < 65536 → IsSpelling (n / 256 ∷ n % 256 ∷ []) n
two_bytes n least below = record {
  are_bytes = are_2 (n / 256) (n % 256) (omega arith) (omega arith);
  spelt = omega arith;
  no_zero = omega arith;
}

three_bytes : (n : ℕ) → 65536 ≤ n → n < 16777216 → IsSpelling (n / 65536 ∷ n / 256 % 256 ∷ n % 256 ∷ []) n
three_bytes n least below = record {
  are_bytes = are_3 (n / 65536) (n / 256 % 256) (n % 256) (omega arith) (omega arith) (omega arith);
  spelt = omega arith;
  no_zero = omega arith;
}

four_bytes : (n : ℕ) → 16777216 ≤ n → n < 2 ^ 32
    → IsSpelling (n / 16777216 ∷ n / 65536 % 256 ∷ n / 256 % 256 ∷ n % 256 ∷ []) n
four_bytes n least below = record {
  are_bytes =
      AreBytes-cons (n / 16777216) (n / 65536 % 256 ∷ n / 256 % 256 ∷ n % 256 ∷ []) (omega arith)
      (are_3 (n / 65536 % 256) (n / 256 % 256) (n % 256) (omega arith) (omega arith) (omega arith));
  spelt = omega arith;
  no_zero = omega arith;
}

-- the fewest bytes spell the number
pub uint_spells : (number : ℕ) → number < 2 ^ 32 → IsSpelling (uint number) number
uint_spells n small = by (n == 0) (nat_lt n 256) (nat_lt n 65536) (nat_lt n 16777216) refl refl refl refl
  where
    by : (z a b c : Bool) → (n == 0) ≡ z → nat_lt n 256 ≡ a → nat_lt n 65536 ≡ b → nat_lt n 16777216 ≡ c
        → IsSpelling (if z then [] else if a then n ∷ [] else if b then n / 256 ∷ n % 256 ∷ []
        else if c then n / 65536 ∷ n / 256 % 256 ∷ n % 256 ∷ [] else
        n / 16777216 ∷ n / 65536 % 256 ∷ n / 256 % 256 ∷ n % 256 ∷ []) n
    by true a b c is_z is_a is_b is_c = record {
      are_bytes = AreBytes-nil;
      spelt = grind (arith, nat_tests);
      no_zero = tt;
    }
    by false true b c is_z is_a is_b is_c = one_byte n (grind (arith, nat_tests)) (grind (arith, nat_tests))
    by false false true c is_z is_a is_b is_c = two_bytes n (grind (arith, nat_tests)) (grind (arith, nat_tests))
    by false false false true is_z is_a is_b is_c = three_bytes n (grind (arith, nat_tests)) (grind (arith, nat_tests))
    by false false false false is_z is_a is_b is_c = four_bytes n (grind (arith, nat_tests)) small

-- they are at most four
pub uint_few : (number : ℕ) → length (uint number) ≤ 4
uint_few n = by (n == 0) (nat_lt n 256) (nat_lt n 65536) (nat_lt n 16777216)
  where
    by : (z a b c : Bool)
        → length (if z then [] else if a then n ∷ [] else if b then n / 256 ∷ n % 256 ∷ []
        else if c then n / 65536 ∷ n / 256 % 256 ∷ n % 256 ∷ [] else
        n / 16777216 ∷ n / 65536 % 256 ∷ n / 256 % 256 ∷ n % 256 ∷ []) ≤ 4
    by true a b c = omega arith
    by false true b c = omega arith
    by false false true c = omega arith
    by false false false true = omega arith
    by false false false false = omega arith

-- and read back as the number
pub uint_read : (number : ℕ) → number < 2 ^ 32 → uint_value (uint number) ≡ Some number
uint_read n small =
    cond-true (nat_le (length (uint n)) 4) (Some (number_of (uint n))) None (le-leb (length (uint n)) 4 (uint_few n))
    ∙ ap (λ k. Some k) ((uint_spells n small).spelt)
