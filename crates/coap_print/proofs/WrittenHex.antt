-- What is written of bytes in hex.
use Rattle.std.proofs.Common.{◌≡◌, ◌++◌, ◌∷◌, [], ◌∙◌, ℕ, zero, suc, List, Bool, true, false, ◌&&◌, ◌==◌, ◌<◌, ◌+◌, ◌-◌}
use Rattle.std.proofs.Common.{◌/◌, ◌%◌, ◌^◌}
use Rattle.std.proofs.Common.{length, take, get_or, slice_index, sym, ap, refl, arith, add-one, inl, inr, nat_lt, subst}
use Rattle.std.proofs.Math.Seq.{take-suc}
use Rattle.std.proofs.lemmas.Bool.{and_parts, cases_lt, eqb-true}
use Rattle.std.proofs.lemmas.Fmt.{hex_byte}
use Rattle.std.proofs.lemmas.List.Elements.{All-cons, All-nil}
use Rattle.std.specs.Fmt.{digit_glyph, digits, format_spec, padded_integral}
use Rattle.hex.specs.Hex.{encode_lower, encode_with, lower_digits}
use Rattle.coap_types.specs.Bytes.{AreBytes}
use Rattle.coap_print.specs.Printable.{ArePrintable, IsPrintable}

-- the digit at a place is the one that is written of that number, and is shown
abbrev is_digit : ℕ → Bool
is_digit d =
    (slice_index lower_digits d == digit_glyph false d)
    && (nat_lt 32 (slice_index lower_digits d) && nat_lt (slice_index lower_digits d) 127)

abbrev are_digits : ℕ → Bool
are_digits zero = true
are_digits (suc n) = is_digit n && are_digits n

digit_at : (n d : ℕ) → are_digits n ≡ true → d < n → is_digit d ≡ true
digit_at zero d all lt = absurd (omega arith)
digit_at (suc n) d all lt =
    let parts = and_parts (is_digit n) (are_digits n) all in
    elim (cases_lt d n) [
      | inl below ↦ digit_at n d parts.1 below
      | inr top ↦ let same : n ≡ d = omega arith in subst (λ k. is_digit k ≡ true) same parts.0
    ]

digit_is : (d : ℕ) → d < 16 → slice_index lower_digits d ≡ digit_glyph false d
digit_is d lt =
    eqb-true (slice_index lower_digits d) (digit_glyph false d)
    (and_parts (slice_index lower_digits d == digit_glyph false d)
    (nat_lt 32 (slice_index lower_digits d) && nat_lt (slice_index lower_digits d) 127) (digit_at 16 d refl lt)).0

digit_printable : (d : ℕ) → d < 16 → IsPrintable (slice_index lower_digits d)
digit_printable d lt =
    let shown = and_parts (nat_lt 32 (slice_index lower_digits d)) (nat_lt (slice_index lower_digits d) 127)
    (and_parts (slice_index lower_digits d == digit_glyph false d)
    (nat_lt 32 (slice_index lower_digits d) && nat_lt (slice_index lower_digits d) 127) (digit_at 16 d refl lt)).1 in
    (grind (arith, shown.0), grind (arith, shown.1))

pub hex_nil : encode_lower [] ≡ []
unfolding encode_with
hex_nil = refl

-- what `{:02x}` writes of a byte
pub hex_one : (byte : ℕ) → byte < 256
    → padded_integral (format_spec 32 0 4 2 (2 ^ 64 - 1)) false [] (digits 16 false byte) ≡ encode_lower (byte ∷ [])
unfolding encode_with
hex_one byte small =
    hex_byte false byte small
    ∙ ap (λ d. d ∷ digit_glyph false (byte % 16) ∷ []) (sym (digit_is (byte / 16) (omega arith)))
    ∙ ap (λ d. slice_index lower_digits (byte / 16) ∷ d ∷ []) (sym (digit_is (byte % 16) (omega arith)))

hex_append : (xs ys : List ℕ) → encode_lower (xs ++ ys) ≡ encode_lower xs ++ encode_lower ys
unfolding encode_with
hex_append [] ys = refl
hex_append (x ∷ xs) ys =
    ap (λ t. slice_index lower_digits (x / 16) ∷ slice_index lower_digits (x % 16) ∷ t) (hex_append xs ys)

-- the first bytes, and one more
pub hex_more : (xs : List ℕ) (i d : ℕ) → i < length xs
    → encode_lower (take i xs) ++ encode_lower (get_or xs i d ∷ []) ≡ encode_lower (take (i + 1) xs)
hex_more xs i d lt =
    rw (add-one i) (sym (ap encode_lower (take-suc xs i d lt) ∙ hex_append (take i xs) (get_or xs i d ∷ [])))

pub hex_printable : (bytes : List ℕ) → AreBytes bytes → ArePrintable (encode_lower bytes)
unfolding encode_with
hex_printable [] are = All-nil IsPrintable
hex_printable (b ∷ bs) are =
    let small : b < 256 = are 0 0 (omega arith) in
    let high : ℕ = slice_index lower_digits (b / 16) in
    let low : ℕ = slice_index lower_digits (b % 16) in
    All-cons IsPrintable high (low ∷ encode_lower bs) (digit_printable (b / 16) (omega (arith, small)))
    (All-cons IsPrintable low (encode_lower bs) (digit_printable (b % 16) (omega arith))
    (hex_printable bs (λ k d lt. are (suc k) d (omega arith))))
