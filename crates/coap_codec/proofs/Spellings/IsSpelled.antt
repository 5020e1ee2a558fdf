-- The test whether bytes spell a message tells just that.
use Rattle.std.proofs.Common.{◌≡◌, ℕ, zero, suc, ◌^◌, Bool, true, false, ◌||◌, ◌==◌, List, length, refl, arith, sym, ap}
use Rattle.std.proofs.Common.{subst, ◌∙◌}
use Rattle.std.specs.Prelude.{nat_lt, nat_le, nat_eq}
use Rattle.std.specs.List.{list_all}
use Rattle.std.specs.Cmp.Lexicographic.{pointwise, same_text, other_text}
use Rattle.std.proofs.lemmas.Bool.{and_parts, lt-ltb, ltb-true, le-leb, leb-true, eqb-true}
use Rattle.coap_codec.specs.BoundedSpelling.{is_numbered}
use Rattle.coap_codec.specs.IsSpelled.{has_spelling, is_spelled}
use Rattle.coap_codec.specs.Message.{Message, Spells}
use Rattle.coap_codec.specs.Refused.{ascends, is_short}
use Rattle.coap_codec.specs.Spelling.{options_bytes, message_bytes}
use Rattle.coap_codec.proofs.Spellings.ItsOwnBytes.{Options-numbered, spelled_by_no_others}
use Rattle.coap_codec.proofs.Spellings.RefusedHasNone.{Options-ascends, Options-short}
use Rattle.coap_codec.proofs.Spellings.WhatIsWritten.{options_spelled}

bare_so : (code len : ℕ) → (nat_lt 0 code || len == 4) ≡ true → code ≡ 0 → len ≡ 4
bare_so zero len e z = eqb-true len 4 e
bare_so (suc code) len e z = absurd (cc z)

bare_is : (code len : ℕ) → (code ≡ 0 → len ≡ 4) → (nat_lt 0 code || len == 4) ≡ true
bare_is zero len h = rw (h refl) refl
bare_is (suc code) len h = rw (lt-ltb 0 (suc code) (omega arith)) refl

has_so : (m : Message) → has_spelling m ≡ true → Spells (message_bytes m) m
unfolding has_spelling
has_so m e =
    let code = and_parts (nat_lt m.code (2 ^ 8)) _ e in
    let id = and_parts (nat_lt m.id 65536) _ code.1 in
    let token = and_parts (nat_le (length m.token) 8) _ id.1 in
    let order = and_parts (ascends 0 m.options) _ token.1 in
    let numbers = and_parts (list_all is_numbered m.options) _ order.1 in
    let short = and_parts (list_all is_short m.options) _ numbers.1 in
    record {
      code = ltb-true m.code (2 ^ 8) code.0;
      id = ltb-true m.id 65536 id.0;
      token = leb-true (length m.token) 8 token.0;
      option_bytes = options_bytes 0 m.options;
      options = options_spelled m.options 0 order.0 numbers.0 short.0;
      parts = refl;
      empty = bare_so m.code (length (message_bytes m)) short.1;
    }

has_it : (bytes : List ℕ) (m : Message) → Spells bytes m → has_spelling m ≡ true
unfolding has_spelling
has_it bytes m s =
    let is : bytes ≡ message_bytes m = spelled_by_no_others bytes m s in
    rw (
      lt-ltb m.code (2 ^ 8) s.code,
      lt-ltb m.id 65536 s.id,
      le-leb (length m.token) 8 s.token,
      Options-ascends m.options 0 s.option_bytes s.options,
      Options-numbered m.options 0 s.option_bytes s.options,
      Options-short m.options 0 s.option_bytes s.options,
    )
    (bare_is m.code (length (message_bytes m)) (λ z. sym (ap length is) ∙ s.empty z))

same_it : (a b : List ℕ) → a ≡ b → pointwise nat_eq a b ≡ true
same_it a b is = told (pointwise nat_eq a b) refl
  where
    told : (r : Bool) → r ≡ pointwise nat_eq a b → r ≡ true
    told true e = refl
    told false e = absurd (other_text a b e is)

pub spelled_so : (bytes : List ℕ) (m : Message) → is_spelled bytes m ≡ true → Spells bytes m
unfolding is_spelled
spelled_so bytes m e =
    let p = and_parts (has_spelling m) (pointwise nat_eq bytes (message_bytes m)) e in
    subst (λ (b : List ℕ). Spells b m) (sym (same_text bytes (message_bytes m) (sym p.1))) (has_so m p.0)

pub spelled_it : (bytes : List ℕ) (m : Message) → Spells bytes m → is_spelled bytes m ≡ true
unfolding is_spelled
spelled_it bytes m s =
    rw (has_it bytes m s, same_it bytes (message_bytes m) (spelled_by_no_others bytes m s)) refl
