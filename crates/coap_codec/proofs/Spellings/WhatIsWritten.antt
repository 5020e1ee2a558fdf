-- What is written spells the message.
use Rattle.std.proofs.Common.{◌≡◌, ℕ, suc, ◌+◌, ◌-◌, ◌^◌, ◌<◌, ◌≤◌, true, List, [], ◌∷◌, ◌++◌, length, get_or, take}
use Rattle.std.proofs.Common.{drop, refl, sym, ap, ◌∙◌, arith, inl, inr}
use Rattle.std.specs.Prelude.{nat_le}
use Rattle.std.specs.List.{list_all}
use Rattle.std.proofs.lemmas.Bool.{cases_lt, lt-ltb, le-ltb, and_parts, leb-true, ltb-true}
use Rattle.std.proofs.lemmas.List.{take_at, drop_at, length-append, nil_from_length}
use Rattle.coap_types.specs.CoapOption.{CoapOption, option_of, options_of}
use Rattle.coap_types.specs.declared.options.Opt.{Opt}
use Rattle.coap_codec.specs.BoundedSpelling.{CanBeSpelled, is_numbered}
use Rattle.coap_codec.specs.Extension.{Ext}
use Rattle.coap_codec.specs.Options.{IsOption, Options}
use Rattle.coap_codec.specs.Message.{Message, marked, Spells}
use Rattle.coap_codec.specs.Refused.{ascends, is_short, IsEmptyNotBare}
use Rattle.coap_codec.specs.Writing.{Puts}
use Rattle.coap_codec.specs.Spelling.{nibble, more, option_bytes, options_bytes, message_bytes}

Ext-of : (n : ℕ) → n ≤ 65804 → Ext n (nibble n) (more n)
Ext-of n most =
    elim (cases_lt n 13) [
      | inl p ↦ rw (lt-ltb n 13 p) (p, refl)
      | inr p ↦ elim (cases_lt n 269) [
        | inl q ↦ rw (le-ltb n 13 p, lt-ltb n 269 q) (omega arith, omega arith, refl)
        | inr q ↦ rw (le-ltb n 13 p, le-ltb n 269 q) (omega arith, omega arith, omega arith, refl)
      ]
    ]

pub option_is : (base : ℕ) (option : CoapOption) → base ≤ option.number → option.number < 2 ^ 16
    → length option.value ≤ 65804 → IsOption base option (option_bytes base option)
unfolding option_bytes
option_is base option rises fits short = record {
  rises = rises;
  fits = fits;
  delta = nibble (option.number - base);
  more_delta = more (option.number - base);
  len = nibble (length option.value);
  more_len = more (length option.value);
  number = Ext-of (option.number - base) (omega arith);
  value = Ext-of (length option.value) short;
  parts = refl;
}

-- options that ascend, have numbers and are short, have this spelling
pub options_spelled : (os : List CoapOption) (base : ℕ) → ascends base os ≡ true → list_all is_numbered os ≡ true
    → list_all is_short os ≡ true → Options base (options_bytes base os) os
unfolding options_bytes
options_spelled [] base order numbers short = refl
options_spelled (o ∷ os) base order numbers short =
    let p = and_parts (nat_le base o.number) (ascends o.number os) order in
    let n = and_parts (is_numbered o) (list_all is_numbered os) numbers in
    let q = and_parts (is_short o) (list_all is_short os) short in
    let first = option_is base o (leb-true base o.number p.0) (ltb-true o.number (2 ^ 16) n.0)
    (leb-true (length o.value) 65804 q.0) in
    (option_bytes base o, options_bytes o.number os, refl, first, options_spelled os o.number p.1 n.1 q.1)

pub spelled_by : (m : Message) → CanBeSpelled m → Spells (message_bytes m) m
spelled_by m can = record {
  code = can.code;
  id = can.id;
  token = can.token;
  option_bytes = options_bytes 0 m.options;
  options = options_spelled m.options 0 can.order can.numbers can.short;
  parts = refl;
  empty = λ none. absurd (let some = can.some in omega arith);
}

pub options_are : (options : List Opt) (base : ℕ) → ascends base (options_of options) ≡ true
    → list_all is_short (options_of options) ≡ true
    → ((k : ℕ) (d : Opt) → k < length options → (get_or options k d).number < 2 ^ 16)
    → Options base (options_bytes base (options_of options)) (options_of options)
unfolding options_bytes
options_are [] base order short numbers = refl
options_are (option ∷ options) base order short numbers =
    let p = and_parts (nat_le base option.number) (ascends option.number (options_of options)) order in
    let q = and_parts (is_short (option_of option)) (list_all is_short (options_of options)) short in
    let first = option_is base (option_of option) (leb-true base option.number p.0) (numbers 0 option (omega arith))
    (leb-true (length option.value.now) 65804 q.0) in (
      option_bytes base (option_of option),
      options_bytes option.number (options_of options),
      refl,
      first,
      options_are options option.number p.1 q.1 (λ k d h. numbers (suc k) d (omega arith)),
    )

bare_length : (m : Message) → (IsEmptyNotBare m → ⊥) → m.code ≡ 0 → length (message_bytes m) ≡ 4
unfolding options_bytes
bare_length m h z =
    elim (cases_lt 0 (length m.token + (length m.options + length m.payload))) [
      | inl p ↦ absurd (h (z, p))
      | inr p ↦
          let t = nil_from_length m.token (omega arith) in
          let o = nil_from_length m.options (omega arith) in
          let b = nil_from_length m.payload (omega arith) in
          rw (t, o, b) refl
    ]

pub message_is : (m : Message) (options : List Opt) → m.options ≡ options_of options → m.code < 2 ^ 8 → m.id < 2 ^ 16
    → length m.token ≤ 8 → (IsEmptyNotBare m → ⊥)
    → ascends 0 (options_of options) ≡ true → list_all is_short (options_of options) ≡ true
    → ((k : ℕ) (d : Opt) → k < length options → (get_or options k d).number < 2 ^ 16) → Spells (message_bytes m) m
message_is m options is code id token bare order short numbers = record {
  code = code;
  id = id;
  token = token;
  option_bytes = options_bytes 0 m.options;
  options = rw is (options_are options 0 order short numbers);
  parts = refl;
  empty = λ z. bare_length m bare z;
}

-- what is written from the start on
pub front_of : (old bytes new : List ℕ) (n : ℕ) → n ≡ length bytes → Puts old 0 bytes new → take n new ≡ bytes
front_of old bytes new n e p = ap (take n) p ∙ take_at bytes (drop (0 + length bytes) old) n (sym e)

pub back_of : (old bytes new : List ℕ) (n : ℕ) → n ≡ length bytes → Puts old 0 bytes new → drop n new ≡ drop n old
back_of old bytes new n e p =
    let same : 0 + length bytes ≡ n = omega arith in
    ap (drop n) p ∙ drop_at bytes (drop (0 + length bytes) old) n (sym e) ∙ ap (λ (k : ℕ). drop k old) same

pub message_length : (m : Message) → length (message_bytes m)
    ≡ 4 + (length m.token + (length (options_bytes 0 m.options) + length (marked m.payload)))
message_length m = omega (
  arith,
  length-append m.token (options_bytes 0 m.options ++ marked m.payload),
  length-append (options_bytes 0 m.options) (marked m.payload),
)

pub marked_more : (payload : List ℕ) → (length payload ≡ 0 → ⊥) → marked payload ≡ 255 ∷ payload
marked_more [] h = absurd (h refl)
marked_more (b ∷ bytes) h = refl
