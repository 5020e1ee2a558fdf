-- What stands in front of bytes: a number, an option.
use Rattle.std.proofs.Common.{◌≡◌, ◌≤◌, ◌<◌, ◌⊎◌, ℕ, ◌+◌, ◌-◌, ◌*◌, ◌/◌, ◌%◌, ◌^◌, List, [], ◌∷◌, ◌++◌, length, take}
use Rattle.std.proofs.Common.{drop, Option}
use Rattle.std.proofs.Common.{Some, None, inl, inr, refl, sym, ap, subst, ◌∙◌, arith}
use Rattle.std.specs.Prelude.{slice_index_or, IfNone}
use Rattle.std.proofs.Common.{length-append}
use Rattle.std.proofs.lemmas.List.{take_rest, append_assoc}
use Rattle.coap_types.specs.CoapOption.{CoapOption}
use Rattle.coap_codec.specs.Extension.{Ext}
use Rattle.coap_codec.specs.Options.{IsOption}
use Rattle.coap_options.specs.Standing.{HasNone, SaysNone}

-- the first byte, or two, and the others
pub one_ahead : (bytes : List ℕ) (b : ℕ) → 1 ≤ length bytes → b ≡ slice_index_or bytes 0 0
    → bytes ≡ b ∷ take (length bytes - 1) (drop 1 bytes)
one_ahead [] b long is = absurd (omega arith)
one_ahead (x ∷ xs) b long is = ap (λ k. k ∷ xs) (sym is) ∙ ap (λ r. b ∷ r) (sym (take_rest (x ∷ xs) 1))

pub two_ahead : (bytes : List ℕ) (a b : ℕ) → 2 ≤ length bytes → a ≡ slice_index_or bytes 0 0
    → b ≡ slice_index_or bytes 1 0 → bytes ≡ a ∷ b ∷ take (length bytes - 2) (drop 2 bytes)
two_ahead [] a b long is also = absurd (omega arith)
two_ahead (x ∷ []) a b long is also = absurd (omega arith)
two_ahead (x ∷ y ∷ xs) a b long is also =
    ap (λ k. k ∷ y ∷ xs) (sym is) ∙ ap (λ k. a ∷ k ∷ xs) (sym also)
    ∙ ap (λ r. a ∷ b ∷ r) (sym (take_rest (x ∷ y ∷ xs) 2))

-- a number that begins with this nibble is in front of bytes once
pub one_number : (n m nibble : ℕ) (x y r s : List ℕ) → Ext n nibble x → Ext m nibble y → x ++ r ≡ y ++ s
    → (n ≡ m) × (r ≡ s)
one_number n m nibble [] [] r s p q same = (omega arith, same)
one_number n m nibble [] (b ∷ []) r s p q same = absurd (omega arith)
one_number n m nibble [] (b ∷ c ∷ []) r s p q same = absurd (omega arith)
one_number n m nibble [] (b ∷ c ∷ d ∷ y) r s p q same = absurd q
one_number n m nibble (a ∷ []) [] r s p q same = absurd (omega arith)
one_number n m nibble (a ∷ []) (b ∷ []) r s p q same = let e : a ≡ b = cc in (omega arith, cc)
one_number n m nibble (a ∷ []) (b ∷ c ∷ []) r s p q same = absurd (omega arith)
one_number n m nibble (a ∷ []) (b ∷ c ∷ d ∷ y) r s p q same = absurd q
one_number n m nibble (a ∷ b ∷ []) [] r s p q same = absurd (omega arith)
one_number n m nibble (a ∷ b ∷ []) (c ∷ []) r s p q same = absurd (omega arith)
one_number n m nibble (a ∷ b ∷ []) (c ∷ d ∷ []) r s p q same =
    let e : a ≡ c = cc in
    let f : b ≡ d = cc in (omega arith, cc)
one_number n m nibble (a ∷ b ∷ []) (c ∷ d ∷ e ∷ y) r s p q same = absurd q
one_number n m nibble (a ∷ b ∷ c ∷ x) y r s p q same = absurd p

-- the nibble of a number is below 15
below_15 : (n nibble : ℕ) (x : List ℕ) → Ext n nibble x → nibble < 15
below_15 n nibble [] is = omega arith
below_15 n nibble (a ∷ []) is = omega arith
below_15 n nibble (a ∷ b ∷ []) is = omega arith
below_15 n nibble (a ∷ b ∷ c ∷ x) is = absurd is

-- An option in front of bytes whose first has these two nibbles: they are its own, and so is what follows it.
pub record IsSplit (base delta len : ℕ) (o : CoapOption) (tail rest : List ℕ) : Type 0 where
  pub more_delta : List ℕ
  pub more_len : List ℕ
  pub number : Ext (o.number - base) delta more_delta
  pub value : Ext (length o.value) len more_len
  pub rises : base ≤ o.number
  pub fits : o.number < 2 ^ 16
  pub parts : tail ≡ more_delta ++ (more_len ++ (o.value ++ rest))

pub split : (base delta len : ℕ) (o : CoapOption) (tail first rest : List ℕ) → len < 16
    → IsOption base o first → (delta * 16 + len) ∷ tail ≡ first ++ rest → IsSplit base delta len o tail rest
split base delta len o tail first rest few is same =
    let d = below_15 (o.number - base) is.delta is.more_delta is.number in
    let l = below_15 (length o.value) is.len is.more_len is.value in
    let all : (delta * 16 + len) ∷ tail
    ≡ (is.delta * 16 + is.len) ∷ ((is.more_delta ++ (is.more_len ++ o.value)) ++ rest) =
    same ∙ ap (λ b. b ++ rest) is.parts in
    let head : delta * 16 + len ≡ is.delta * 16 + is.len = cc in
    let others : tail ≡ (is.more_delta ++ (is.more_len ++ o.value)) ++ rest = cc in
    let one : is.delta ≡ delta = omega (arith, few, l, head) in
    let two : is.len ≡ len = omega (arith, few, l, head) in record {
      more_delta = is.more_delta;
      more_len = is.more_len;
      number = subst (λ k. Ext (o.number - base) k is.more_delta) one is.number;
      value = subst (λ k. Ext (length o.value) k is.more_len) two is.value;
      rises = is.rises;
      fits = is.fits;
      parts = others ∙ append_assoc is.more_delta (is.more_len ++ o.value) rest
          ∙ ap (λ b. is.more_delta ++ b) (append_assoc is.more_len o.value rest);
    }

-- the first byte of bytes, and those that follow it
abbrev pub top : List ℕ → ℕ
top bytes = slice_index_or bytes 0 0

abbrev pub rest_of : List ℕ → List ℕ
rest_of bytes = take (length bytes - 1) (drop 1 bytes)

nibbles : (bytes : List ℕ) → 1 ≤ length bytes → (top bytes / 16 * 16 + top bytes % 16) ∷ rest_of bytes ≡ bytes
nibbles bytes long =
    let both : top bytes / 16 * 16 + top bytes % 16 ≡ top bytes = omega arith in
    ap (λ k. k ∷ rest_of bytes) both ∙ sym (one_ahead bytes (top bytes) long refl)

pub split_front : (base : ℕ) (bytes : List ℕ) → 1 ≤ length bytes → (o : CoapOption) (first rest : List ℕ)
    → IsOption base o first → bytes ≡ first ++ rest
    → IsSplit base (top bytes / 16) (top bytes % 16) o (rest_of bytes) rest
split_front base bytes long o first rest is same =
    split base (top bytes / 16) (top bytes % 16) o (rest_of bytes) first rest (omega arith) is
    (nibbles bytes long ∙ same)

-- the number that its first nibble says, and what follows that
abbrev pub IsSaid : ℕ → ℕ → List ℕ → List ℕ → Type 0
IsSaid n nibble bytes rest = (more : List ℕ) × Ext n nibble more × (bytes ≡ more ++ rest)

-- why no option is in front of bytes: its first nibble says no number, its second one says none behind that, there is
-- no option of that number, or its value is cut off
pub no_delta : (base : ℕ) (bytes : List ℕ) → 1 ≤ length bytes → SaysNone (top bytes / 16) (rest_of bytes)
    → HasNone base bytes
no_delta base bytes long none o first rest is same =
    let it = split_front base bytes long o first rest is same in
    none (o.number - base) it.more_delta (it.more_len ++ (o.value ++ rest)) it.number it.parts

pub no_len : (base delta : ℕ) (bytes behind : List ℕ) → 1 ≤ length bytes
    → IsSaid delta (top bytes / 16) (rest_of bytes) behind → SaysNone (top bytes % 16) behind → HasNone base bytes
no_len base delta bytes behind long said none o first rest is same =
    let it = split_front base bytes long o first rest is same in
    let one = one_number delta (o.number - base) (top bytes / 16) said.0 it.more_delta behind
    (it.more_len ++ (o.value ++ rest)) said.1 it.number (sym said.2 ∙ it.parts) in
    none (length o.value) it.more_len (o.value ++ rest) it.value one.1

pub no_value : (base delta len : ℕ) (bytes behind after : List ℕ) → 1 ≤ length bytes
    → IsSaid delta (top bytes / 16) (rest_of bytes) behind → IsSaid len (top bytes % 16) behind after
    → (65535 < base + delta) ⊎ (length after < len) → HasNone base bytes
no_value base delta len bytes behind after long said also none o first rest is same =
    let it = split_front base bytes long o first rest is same in
    let one = one_number delta (o.number - base) (top bytes / 16) said.0 it.more_delta behind
    (it.more_len ++ (o.value ++ rest)) said.1 it.number (sym said.2 ∙ it.parts) in
    let two = one_number len (length o.value) (top bytes % 16) also.0 it.more_len after
    (o.value ++ rest) also.1 it.value (sym also.2 ∙ one.1) in
    let value = ap length two.1 in
    let parts = length-append o.value rest in
    elim none [
      | inl large ↦ absurd (omega (arith, large, one.0, it.fits, it.rises))
      | inr short ↦ absurd (omega (arith, short, two.0, value, parts))
    ]

-- the option that is in front of bytes
abbrev pub IsFront : ℕ → List ℕ → CoapOption → List ℕ → Type 0
IsFront base bytes o rest = (first : List ℕ) × IsOption base o first × (bytes ≡ first ++ rest)

pub in_front : (base delta len : ℕ) (bytes behind after rest : List ℕ) (o : CoapOption) → 1 ≤ length bytes
    → IsSaid delta (top bytes / 16) (rest_of bytes) behind → IsSaid len (top bytes % 16) behind after
    → o.number ≡ base + delta → o.number < 2 ^ 16 → length o.value ≡ len → after ≡ o.value ++ rest
    → IsFront base bytes o rest
in_front base delta len bytes behind after rest o long said also number fits count value =
    let less : o.number - base ≡ delta = omega (arith, number) in (
      (top bytes / 16 * 16 + top bytes % 16) ∷ (said.0 ++ (also.0 ++ o.value)),
      record {
        rises = omega (arith, number);
        fits = fits;
        delta = top bytes / 16;
        more_delta = said.0;
        len = top bytes % 16;
        more_len = also.0;
        number = subst (λ n. Ext n (top bytes / 16) said.0) (sym less) said.1;
        value = subst (λ n. Ext n (top bytes % 16) also.0) (sym count) also.1;
        parts = refl;
      },
      sym (nibbles bytes long) ∙ ap (λ b. (top bytes / 16 * 16 + top bytes % 16) ∷ b)
          (said.2 ∙ ap (λ b. said.0 ++ b)
          (also.2 ∙ ap (λ b. also.0 ++ b) value ∙ sym (append_assoc also.0 o.value rest))
          ∙ sym (append_assoc said.0 (also.0 ++ o.value) rest)),
    )

-- what follows where there is none
pub if_none_then : {X : Type 0} (r : Option X) {P Q : Type 0} → IfNone r P → (P → Q) → IfNone r Q
if_none_then (Some x) none f = tt
if_none_then None none f = f none
