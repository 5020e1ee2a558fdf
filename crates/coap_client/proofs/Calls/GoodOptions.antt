-- The options of a client's requests ascend, can be written, and are as long as the longest ones at most (RFC 7252,
-- sections 3.1 and 4.6).
use Rattle.std.proofs.Common.{◌≡◌, ◌≤◌, ◌<◌, ℕ, suc, ◌+◌, ◌-◌, Bool, true, false, cond, ◌&&◌, Option, Some, None, List}
use Rattle.std.proofs.Common.{[], ◌∷◌, ◌++◌, length, map, ap, refl, arith}
use Rattle.std.specs.Prelude.{nat_le, nat_lt, IfSome}
use Rattle.std.specs.List.{list_all}
use Rattle.std.proofs.lemmas.Bool.{le-leb}
use Rattle.std.proofs.lemmas.List.{length-append}
use Rattle.byteorder.specs.Endian.{big_bytes}
use Rattle.coap_types.specs.CoapOption.{CoapOption, option}
use Rattle.coap_types.specs.OptionValues.{option_with}
use Rattle.coap_codec.specs.BoundedSpelling.{is_numbered}
use Rattle.coap_codec.specs.Refused.{ascends, is_short}
use Rattle.coap_codec.specs.Spelling.{more, option_bytes, options_bytes}
use Rattle.coap_client.specs.Object.CallShown.{IsGood}

both : (a b : Bool) → a ≡ true → b ≡ true → (a && b) ≡ true
both true b h k = k
both false b h k = absurd (cc h)

pub good_nil : (k : ℕ) → IsGood k []
good_nil k = record { order = λ base h. refl; numbers = refl; short = refl }

pub good_cons : (k n : ℕ) (v : List ℕ) (os : List CoapOption) → n < 65536 → length v ≤ 65804 → k ≤ n → IsGood n os
    → IsGood k (option n v ∷ os)
good_cons k n v os small few up g = record {
  order = λ base h. both (nat_le base n) (ascends n os) (le-leb base n (omega (arith, h, up)))
      (g.order n (omega arith));
  numbers = both (nat_lt n 65536) (list_all is_numbered os) (le-leb (suc n) 65536 (omega (arith, small))) g.numbers;
  short = both (nat_le (length v) 65804) (list_all is_short os) (le-leb (length v) 65804 few) g.short;
}

pub good_weaken : (j k : ℕ) (os : List CoapOption) → j ≤ k → IsGood k os → IsGood j os
good_weaken j k os h g = record {
  order = λ base b. g.order base (omega (arith, h, b));
  numbers = g.numbers;
  short =
      g.short;
}

-- each is short enough to be written
abbrev pub AreShort : List (List ℕ) → Type 0
AreShort [] = Unit {0}
AreShort (v ∷ vs) = (length v ≤ 65804) × AreShort vs

pub good_run : (k n : ℕ) (vs : List (List ℕ)) (os : List CoapOption) → n < 65536 → AreShort vs → k ≤ n → IsGood n os
    → IsGood k (map (option n) vs ++ os)
good_run k n [] os small few up g = good_weaken k n os up g
good_run k n (v ∷ vs) os small few up g = good_cons k n v (map (option n) vs ++ os) small few.0 up
    (good_run n n vs os small few.1 (omega arith) g)

pub good_with : (k n : ℕ) (o : Option (List ℕ)) (os : List CoapOption) → n < 65536 → IfSome o (λ v. length v ≤ 65804)
    → k ≤ n → IsGood n os → IsGood k (option_with n o ++ os)
good_with k n None os small few up g = good_weaken k n os up g
good_with k n (Some v) os small few up g = good_cons k n v os small few up g

-- more options take more bytes
pub longer_with : (base : ℕ) (os more_options : List CoapOption)
    → length (options_bytes base os) ≤ length (options_bytes base (os ++ more_options))
unfolding options_bytes
longer_with base [] ms = omega arith
longer_with base (o ∷ os) ms =
    let a = length-append (option_bytes base o) (options_bytes o.number os) in
    let b = length-append (option_bytes base o) (options_bytes o.number (os ++ ms)) in
    let h = longer_with o.number os ms in
    omega (arith, a, b, h)

-- a value of three bytes is the longest of those
few_more : (len : ℕ) → len ≤ 3 → more len ≡ []
few_more len h = ap (λ b. cond b [] (cond (nat_lt len 269) ((len - 13) ∷ []) (big_bytes 2 (len - 269))))
    (le-leb (suc len) 13 (omega (arith, h)))

option_length : (base n : ℕ) (v : List ℕ) → length v ≤ 3
    → length (option_bytes base (option n v)) ≡ 1 + (length (more (n - base)) + length v)
unfolding option_bytes
option_length base n v few =
    let a = length-append (more (n - base)) (more (length v) ++ v) in
    let b = ap (λ (m : List ℕ). length (m ++ v)) (few_more (length v) few) in
    omega (arith, a, b)

pub longest_with : (base n : ℕ) (v : List ℕ) (os : List CoapOption) → length v ≤ 3
    → length (options_bytes base (os ++ option n v ∷ []))
    ≤ length (options_bytes base (os ++ option n (255 ∷ 255 ∷ 255 ∷ []) ∷ []))
unfolding options_bytes
longest_with base n v [] few =
    let a = option_length base n v few in
    let b = option_length base n (255 ∷ 255 ∷ 255 ∷ []) (omega arith) in
    let c = length-append (option_bytes base (option n v)) [] in
    let d = length-append (option_bytes base (option n (255 ∷ 255 ∷ 255 ∷ []))) [] in
    omega (arith, a, b, c, d, few)
longest_with base n v (o ∷ os) few =
    let a = length-append (option_bytes base o) (options_bytes o.number (os ++ option n v ∷ [])) in
    let b = length-append (option_bytes base o) (options_bytes o.number (os ++ option n (255 ∷ 255 ∷ 255 ∷ []) ∷ [])) in
    let h = longest_with o.number n v os few in
    omega (arith, a, b, h)
