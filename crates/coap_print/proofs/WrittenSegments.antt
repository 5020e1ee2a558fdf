-- What is written of a segment, byte by byte.
use Rattle.std.proofs.Common.{◌≡◌, ◌++◌, ◌∷◌, [], ℕ, List, suc, ◌<◌, ◌+◌, length, take, get_or, sym, ap, ◌∙◌, All}
use Rattle.std.proofs.Common.{arith, true, false, append-nil, Bool, refl, ◌/◌, ◌%◌, if◌then◌else◌, add-one, ◌||◌, ◌&&◌}
use Rattle.std.proofs.Common.{◌==◌, ◌⊎◌, inl, inr, subst, codes, nat_le, nat_lt, ◌≤◌}
use Rattle.std.proofs.Math.Seq.{take-suc}
use Rattle.std.specs.Fmt.{digit_glyph}
use Rattle.percent_encoding.specs.Percent.{percent_encode_byte}
use Rattle.std.proofs.lemmas.Grind.{flat_map-append}
use Rattle.std.proofs.lemmas.List.Elements.{All-append, All-nil, All-cons}
use Rattle.std.specs.List.{list_all, list_any}
use Rattle.coap_print.specs.Printable.{ArePrintable, IsPrintable}
use Rattle.coap_print.specs.Segments.{segment_byte, segment_text, is_alphanumeric, is_pchar, is_within}

pub one_more : (xs : List ℕ) (i d : ℕ) → i < length xs
    → segment_text (take i xs) ++ segment_byte (get_or xs i d) ≡ segment_text (take (i + 1) xs)
one_more xs i d lt =
    rw (add-one i) (sym (ap segment_text (take-suc xs i d lt)
    ∙ flat_map-append segment_byte (take i xs) (get_or xs i d ∷ [])
    ∙ ap (λ (t : List ℕ). segment_text (take i xs) ++ t) (append-nil (segment_byte (get_or xs i d)))))

either : (p q : Bool) → (p || q) ≡ true → (p ≡ true) ⊎ (q ≡ true)
either true q h = inl refl
either false q h = inr h

both : (p q : Bool) → (p && q) ≡ true → (p ≡ true) × (q ≡ true)
both true q h = (refl, h)
both false q h = absurd (cc h)

abbrev is_shown : ℕ → Bool
is_shown s = nat_lt 32 s && nat_lt s 127

shown_printable : (b : ℕ) → is_shown b ≡ true → IsPrintable b
shown_printable b h = let parts = both (nat_lt 32 b) (nat_lt b 127) h in
    (grind (arith, parts.0), grind (arith, parts.1))

-- one of signs that are shown is
sign_printable : (signs : List ℕ) (b : ℕ) → list_all is_shown signs ≡ true → list_any (λ sign. sign == b) signs ≡ true
    → IsPrintable b
sign_printable [] b all h = absurd (cc h)
sign_printable (s ∷ ss) b all h =
    let here = both (is_shown s) (list_all is_shown ss) all in
    elim (either (s == b) (list_any (λ sign. sign == b) ss) h) [
      | inl is ↦ let same : s ≡ b = grind (arith, is) in subst IsPrintable same (shown_printable s here.0)
      | inr more ↦ sign_printable ss b here.1 more
    ]

within_printable : (low high b : ℕ) → 32 < low → high < 127 → is_within low high b ≡ true → IsPrintable b
within_printable low high b over under h =
    let parts = both (nat_le low b) (nat_le b high) h in
    let least : low ≤ b = grind (arith, parts.0) in
    let most : b ≤ high = grind (arith, parts.1) in
    (omega (arith, least, over), omega (arith, most, under))

alphanumeric_printable : (b : ℕ) → is_alphanumeric b ≡ true → IsPrintable b
alphanumeric_printable b h =
    elim (either (is_within 65 90 b) (is_within 97 122 b || is_within 48 57 b) h) [
      | inl upper ↦ within_printable 65 90 b (omega arith) (omega arith) upper
      | inr other ↦ elim (either (is_within 97 122 b) (is_within 48 57 b) other) [
        | inl lower ↦ within_printable 97 122 b (omega arith) (omega arith) lower
        | inr digit ↦ within_printable 48 57 b (omega arith) (omega arith) digit
      ]
    ]

pchar_printable : (b : ℕ) → is_pchar b ≡ true → IsPrintable b
pchar_printable b is =
    elim (either (is_alphanumeric b) (list_any (λ sign. sign == b) (codes "-._~!$&'()*+,;=:@")) is) [
      | inl letter ↦ alphanumeric_printable b letter
      | inr sign ↦ sign_printable (codes "-._~!$&'()*+,;=:@") b refl sign
    ]

glyph_printable : (d : ℕ) → d < 16 → IsPrintable (digit_glyph true d)
glyph_printable d lt = grind arith

percent_printable : (b : ℕ) → b < 256 → ArePrintable (percent_encode_byte b)
unfolding percent_encode_byte
percent_printable b small =
    let high : ℕ = digit_glyph true (b / 16 % 16) in
    let low : ℕ = digit_glyph true (b % 16) in
    All-cons IsPrintable 37 (high ∷ low ∷ []) (omega arith, omega arith)
    (All-cons IsPrintable high (low ∷ []) (glyph_printable (b / 16 % 16) (omega arith))
    (All-cons IsPrintable low [] (glyph_printable (b % 16) (omega arith)) (All-nil IsPrintable)))

by_plain : (b : ℕ) (p : Bool) → is_pchar b ≡ p → b < 256 → ArePrintable (if p then b ∷ [] else percent_encode_byte b)
by_plain b true is small = All-cons IsPrintable b [] (pchar_printable b is) (All-nil IsPrintable)
by_plain b false is small = percent_printable b small

pub byte_printable : (b : ℕ) → b < 256 → ArePrintable (segment_byte b)
byte_printable b small = by_plain b (is_pchar b) refl small

pub printable : (bytes : List ℕ) → All (λ b. b < 256) bytes → ArePrintable (segment_text bytes)
printable [] h = All-nil IsPrintable
printable (b ∷ bs) h =
    All-append IsPrintable (segment_byte b) (segment_text bs) (byte_printable b (h 0 0 (omega arith)))
    (printable bs (λ k d lt. h (suc k) d (omega arith)))
