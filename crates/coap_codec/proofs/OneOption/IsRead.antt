-- One option that is read is in the grammar, and one in the grammar is read again.
use Rattle.std.proofs.Common.{◌≡◌, ◌≢◌, ℕ, suc, ◌+◌, ◌-◌, ◌*◌, ◌/◌, ◌%◌, ◌^◌, ◌<◌, ◌≤◌, ◌⊎◌, Bool, true, false, cond}
use Rattle.std.proofs.Common.{ltb, eqb, List, [], ◌∷◌, ◌++◌, length, take, drop, Result, Ok, Err, refl, sym, ap, subst}
use Rattle.std.proofs.Common.{◌∙◌, append_assoc, arith, inl, inr}
use Rattle.std.proofs.lemmas.Bool.{ltb-true, ltb-false, eqb-true, eqb-false, lt-ltb, le-ltb, ne_eqb}
use Rattle.std.proofs.lemmas.List.{take_at, drop_at, take-append-drop, length-append, length-take}
use Rattle.coap_types.specs.CoapOption.{CoapOption}
use Rattle.coap_codec.specs.declared.fault.Reason.{Reason}
use Rattle.coap_codec.specs.declared.fault.Reason.TheVariants.{DeltaReserved, LengthReserved, OptionCut, NumberTooLarge}
use Rattle.coap_codec.specs.Extension.{Ext}
use Rattle.coap_codec.specs.Options.{IsOption}
use Rattle.coap_types.specs.Bytes.{AreBytes}
use Rattle.coap_types.proofs.Facts.Bytes.{AreBytes-rest, AreBytes-tail, byte_at}
use Rattle.coap_codec.specs.Reading.{◌>>=◌, one_more, two_more, extended, value_at, nibbles_at, option_at}

pub chosen : {A : Type 0} (b : Bool) (x y z : A) → cond b x y ≡ z → ((b ≡ true) × (x ≡ z)) ⊎ ((b ≡ false) × (y ≡ z))
chosen true x y z e = inl (refl, e)
chosen false x y z e = inr (refl, e)

pub cases_result : {A E : Type 0} (r : Result A E) → ((x : A) × (r ≡ Ok x)) ⊎ ((d : E) × (r ≡ Err d))
cases_result (Ok x) = inl (x, refl)
cases_result (Err d) = inr (d, refl)

pub bind_ok : {A B E : Type 0} (r : Result A E) (f : A → Result B E) (y : B) → (r >>= f) ≡ Ok y
    → (x : A) × (r ≡ Ok x) × (f x ≡ Ok y)
bind_ok (Ok x) f y e = (x, refl, e)
bind_ok (Err d) f y e = absurd cc

abbrev pub done : {A : Type 0} → A → Result A Reason
done x = Ok x

pub ok_is : {A : Type 0} (x y : A) → done x ≡ done y → x ≡ y
ok_is x y e = cc

-- ---- numbers in nibbles

pub record Said (n nibble : ℕ) (bytes rest : List ℕ) : Type 0 where
  pub more : List ℕ
  pub says : Ext n nibble more
  pub parts : bytes ≡ more ++ rest

said_at : (nibble : ℕ) (bytes : List ℕ) (m : ℕ) (left : List ℕ) (n : ℕ) (rest : List ℕ)
    → done {A = ℕ × List ℕ} (m, left) ≡ done (n, rest) → Said m nibble bytes left → Said n nibble bytes rest
said_at nibble bytes m left n rest e s = subst (λ (p : ℕ × List ℕ). Said p.0 nibble bytes p.1)
    (ok_is (m, left) (n, rest) e) s

one_reads : (nibble : ℕ) (bytes : List ℕ) (n : ℕ) (rest : List ℕ) → AreBytes bytes → nibble ≡ 13
    → one_more bytes ≡ Ok (n, rest) → Said n nibble bytes rest
one_reads nibble [] n rest fits is e = absurd cc
one_reads nibble (b ∷ bytes) n rest fits is e =
    said_at nibble (b ∷ bytes) (13 + b) bytes n rest e
    (record { more = b ∷ []; says = (byte_at (b ∷ bytes) fits 0, refl, is); parts = refl })

two_reads : (nibble : ℕ) (bytes : List ℕ) (n : ℕ) (rest : List ℕ) → AreBytes bytes → nibble ≡ 14
    → two_more bytes ≡ Ok (n, rest) → Said n nibble bytes rest
two_reads nibble [] n rest fits is e = absurd cc
two_reads nibble (a ∷ []) n rest fits is e = absurd cc
two_reads nibble (a ∷ b ∷ bytes) n rest fits is e =
    said_at nibble (a ∷ b ∷ bytes) (269 + (a * 256 + b)) bytes n rest e
    (record {
      more = a ∷ b ∷ [];
      says = (byte_at (a ∷ b ∷ bytes) fits 0, byte_at (a ∷ b ∷ bytes) fits 1, refl, is);
      parts = refl;
    })

pub extended_reads : (nibble : ℕ) (bytes : List ℕ) (n : ℕ) (rest : List ℕ) → AreBytes bytes → nibble < 15
    → extended nibble bytes ≡ Ok (n, rest) → Said n nibble bytes rest
unfolding extended
extended_reads nibble bytes n rest fits lt e =
    elim (chosen (ltb nibble 13) (done {A = ℕ × List ℕ} (nibble, bytes))
    (cond (eqb nibble 13) (one_more bytes) (two_more bytes)) (Ok (n, rest)) e) [
      | inl p ↦ said_at nibble bytes nibble bytes n rest p.1
          (record { more = []; says = (ltb-true nibble 13 p.0, refl); parts = refl })
      | inr p ↦ elim (chosen (eqb nibble 13) (one_more bytes) (two_more bytes) (Ok (n, rest)) p.1) [
        | inl q ↦ one_reads nibble bytes n rest fits (eqb-true nibble 13 q.0) q.1
        | inr q ↦
            let above : 13 ≤ nibble = ltb-false nibble 13 p.0 in
            let other : nibble ≢ 13 = eqb-false nibble 13 q.0 in
            two_reads nibble bytes n rest fits (omega arith) q.1
      ]
    ]

pub extended_again : (n nibble : ℕ) (more rest : List ℕ) → Ext n nibble more
    → extended nibble (more ++ rest) ≡ Ok (n, rest)
unfolding extended
extended_again n nibble [] rest p = rw (p.1, lt-ltb n 13 p.0) refl
extended_again n nibble (b ∷ []) rest p = rw (p.2, p.1) refl
extended_again n nibble (a ∷ b ∷ []) rest p = rw (p.3, p.2) refl
extended_again n nibble (a ∷ b ∷ c ∷ more) rest p = absurd p

pub Ext-small : (n nibble : ℕ) (more : List ℕ) → Ext n nibble more → nibble < 15
Ext-small n nibble [] p = omega arith
Ext-small n nibble (b ∷ []) p = omega arith
Ext-small n nibble (a ∷ b ∷ []) p = omega arith
Ext-small n nibble (a ∷ b ∷ c ∷ more) p = absurd p

-- ---- options

pub record ValueRead (n k : ℕ) (bytes : List ℕ) (option : CoapOption) (rest : List ℕ) : Type 0 where
  pub number : option.number ≡ n
  pub small : n < 2 ^ 16
  pub len : length option.value ≡ k
  pub parts : bytes ≡ option.value ++ rest

pub value_reads : (number len : ℕ) (bytes : List ℕ) (option : CoapOption) (rest : List ℕ)
    → value_at number len bytes ≡ Ok (option, rest) → ValueRead number len bytes option rest
unfolding value_at
value_reads number len bytes option rest e =
    let whole : CoapOption × List ℕ = (record { number = number; value = take len bytes }, drop len bytes) in
    elim (chosen (ltb 65535 number) (Err NumberTooLarge) (cond (ltb (length bytes) len) (Err OptionCut) (Ok whole))
    (Ok (option, rest)) e) [
      | inl p ↦ absurd cc
      | inr p ↦ elim (chosen (ltb (length bytes) len) (Err OptionCut) (Ok whole) (Ok (option, rest)) p.1) [
        | inl q ↦ absurd cc
        | inr q ↦
            let small : number ≤ 65535 = ltb-false 65535 number p.0 in
            let long : len ≤ length bytes = ltb-false (length bytes) len q.0 in
            subst (λ (x : CoapOption × List ℕ). ValueRead number len bytes x.0 x.1) (ok_is whole (option, rest) q.1)
            (record {
              number = refl;
              small = omega arith;
              len = omega (arith, length-take len bytes);
              parts = sym (take-append-drop len bytes);
            })
      ]
    ]

pub value_again : (option : CoapOption) (len : ℕ) (rest : List ℕ) → option.number < 2 ^ 16 → length option.value ≡ len
    → value_at option.number len (option.value ++ rest) ≡ Ok (option, rest)
unfolding value_at
value_again option len rest small is =
    rw (
      le-ltb 65535 option.number (omega arith),
      le-ltb (length (option.value ++ rest)) len (omega (arith, length-append option.value rest)),
      take_at option.value rest len is,
      drop_at option.value rest len is,
    ) refl

-- what stands behind the first byte of an option
pub record Behind (base delta len : ℕ) (bytes : List ℕ) (option : CoapOption) (rest : List ℕ) : Type 0 where
  pub rises : base ≤ option.number
  pub fits : option.number < 2 ^ 16
  pub more_delta : List ℕ
  pub more_len : List ℕ
  pub number : Ext (option.number - base) delta more_delta
  pub value : Ext (length option.value) len more_len
  pub parts : bytes ≡ more_delta ++ (more_len ++ (option.value ++ rest))

pub nibbles_reads : (base delta len : ℕ) (bytes : List ℕ) (option : CoapOption) (rest : List ℕ) → AreBytes bytes
    → delta < 15 → len < 15 → nibbles_at base delta len bytes ≡ Ok (option, rest)
    → Behind base delta len bytes option rest
unfolding nibbles_at
nibbles_reads base delta len bytes option rest fits small_delta small_len e =
    let b = bind_ok (extended delta bytes) (λ d. extended len d.1 >>= λ l. value_at (base + d.0) l.0 l.1)
    (option, rest) e in
    let d = b.0 in
    let said = extended_reads delta bytes d.0 d.1 fits small_delta b.1 in
    let fits' : AreBytes d.1 = AreBytes-rest said.more d.1 (subst AreBytes said.parts fits) in
    let b' = bind_ok (extended len d.1) (λ l. value_at (base + d.0) l.0 l.1) (option, rest) b.2 in
    let l = b'.0 in
    let said' = extended_reads len d.1 l.0 l.1 fits' small_len b'.1 in
    let v = value_reads (base + d.0) l.0 l.1 option rest b'.2 in
    let delta-is : d.0 ≡ option.number - base = omega (arith, v.number) in
    let last : d.1 ≡ said'.more ++ (option.value ++ rest) = rw (← v.parts) said'.parts in
    let rest_parts : bytes ≡ said.more ++ (said'.more ++ (option.value ++ rest)) = rw (← last) said.parts in
    record {
      rises = omega (arith, v.number);
      fits = omega (arith, v.number, v.small);
      more_delta = said.more;
      more_len = said'.more;
      number = subst (λ (k : ℕ). Ext k delta said.more) delta-is said.says;
      value = subst (λ (k : ℕ). Ext k len said'.more) (sym v.len) said'.says;
      parts = rest_parts;
    }

pub nibbles_again : (base delta len : ℕ) (bytes : List ℕ) (option : CoapOption) (rest : List ℕ)
    → Behind base delta len bytes option rest → nibbles_at base delta len bytes ≡ Ok (option, rest)
unfolding nibbles_at
nibbles_again base delta len bytes option rest h =
    let sum : base + (option.number - base) ≡ option.number = omega (arith, h.rises) in
    rw (
      h.parts,
      extended_again (option.number - base) delta h.more_delta (h.more_len ++ (option.value ++ rest)) h.number,
      extended_again (length option.value) len h.more_len (option.value ++ rest) h.value,
      sum,
    )
    (value_again option (length option.value) rest h.fits refl)

pub record Taken (base : ℕ) (bytes : List ℕ) (option : CoapOption) (rest : List ℕ) : Type 0 where
  pub first : List ℕ
  pub is_option : IsOption base option first
  pub parts : bytes ≡ first ++ rest

pub option_reads : (base : ℕ) (bytes : List ℕ) (option : CoapOption) (rest : List ℕ) → AreBytes bytes
    → option_at base bytes ≡ Ok (option, rest) → Taken base bytes option rest
unfolding option_at
option_reads base [] option rest fits e = absurd cc
option_reads base (first ∷ bytes) option rest fits e =
    let read = nibbles_at base (first / 16) (first % 16) bytes in
    elim (chosen (eqb (first / 16) 15) (Err DeltaReserved) (cond (eqb (first % 16) 15) (Err LengthReserved) read)
    (Ok (option, rest)) e) [
      | inl p ↦ absurd cc
      | inr p ↦ elim (chosen (eqb (first % 16) 15) (Err LengthReserved) read (Ok (option, rest)) p.1) [
        | inl q ↦ absurd cc
        | inr q ↦
            let byte : first < 256 = byte_at (first ∷ bytes) fits 0 in
            let delta : first / 16 ≢ 15 = eqb-false (first / 16) 15 p.0 in
            let len : first % 16 ≢ 15 = eqb-false (first % 16) 15 q.0 in
            let h = nibbles_reads base (first / 16) (first % 16) bytes option rest (AreBytes-tail first bytes fits)
            (omega arith) (omega arith) q.1 in
            let text = h.more_delta ++ (h.more_len ++ option.value) in
            let whole : first ≡ first / 16 * 16 + first % 16 = omega arith in
            let regrouped : h.more_delta ++ (h.more_len ++ (option.value ++ rest)) ≡ text ++ rest = simp append_assoc in
            record {
              first = first ∷ text;
              is_option = record {
                rises = h.rises;
                fits = h.fits;
                delta = first / 16;
                more_delta = h.more_delta;
                len = first % 16;
                more_len = h.more_len;
                number = h.number;
                value = h.value;
                parts = ap (λ (b : ℕ). b ∷ text) whole;
              };
              parts = ap (λ (t : List ℕ). first ∷ t) (h.parts ∙ regrouped);
            }
      ]
    ]

pub option_again : (base : ℕ) (option : CoapOption) (first rest : List ℕ) → IsOption base option first
    → option_at base (first ++ rest) ≡ Ok (option, rest)
unfolding option_at
option_again base option first rest h =
    let small_delta = Ext-small (option.number - base) h.delta h.more_delta h.number in
    let small_len = Ext-small (length option.value) h.len h.more_len h.value in
    let byte = h.delta * 16 + h.len in
    let delta-is : byte / 16 ≡ h.delta = omega arith in
    let len-is : byte % 16 ≡ h.len = omega arith in
    let regrouped : (h.more_delta ++ (h.more_len ++ option.value)) ++ rest ≡ h.more_delta
    ++ (h.more_len ++ (option.value ++ rest)) = simp append_assoc in
    rw (h.parts, regrouped, delta-is, len-is, ne_eqb h.delta 15 (λ e. omega arith), ne_eqb h.len 15 (λ e. omega arith))
    (nibbles_again base h.delta h.len (h.more_delta ++ (h.more_len ++ (option.value ++ rest))) option rest
    (record {
      rises = h.rises;
      fits = h.fits;
      more_delta = h.more_delta;
      more_len = h.more_len;
      number = h.number;
      value = h.value;
      parts = refl;
    }))

-- ---- what is left is shorter

one_shorter : (bytes : List ℕ) (n : ℕ) (rest : List ℕ) → one_more bytes ≡ Ok (n, rest) → length rest ≤ length bytes
one_shorter [] n rest e = absurd cc
one_shorter (b ∷ bytes) n rest e = subst (λ (p : ℕ × List ℕ). length p.1 ≤ suc (length bytes))
    (ok_is (13 + b, bytes) (n, rest) e) (omega arith)

two_shorter : (bytes : List ℕ) (n : ℕ) (rest : List ℕ) → two_more bytes ≡ Ok (n, rest) → length rest ≤ length bytes
two_shorter [] n rest e = absurd cc
two_shorter (a ∷ []) n rest e = absurd cc
two_shorter (a ∷ b ∷ bytes) n rest e = subst (λ (p : ℕ × List ℕ). length p.1 ≤ suc (suc (length bytes)))
    (ok_is (269 + (a * 256 + b), bytes) (n, rest) e) (omega arith)

extended_shorter : (nibble : ℕ) (bytes : List ℕ) (n : ℕ) (rest : List ℕ) → extended nibble bytes ≡ Ok (n, rest)
    → length rest ≤ length bytes
unfolding extended
extended_shorter nibble bytes n rest e =
    elim (chosen (ltb nibble 13) (done {A = ℕ × List ℕ} (nibble, bytes))
    (cond (eqb nibble 13) (one_more bytes) (two_more bytes)) (Ok (n, rest)) e) [
      | inl p ↦ subst (λ (p : ℕ × List ℕ). length p.1 ≤ length bytes) (ok_is (nibble, bytes) (n, rest) p.1)
          (omega arith)
      | inr p ↦ elim (chosen (eqb nibble 13) (one_more bytes) (two_more bytes) (Ok (n, rest)) p.1) [
        | inl q ↦ one_shorter bytes n rest q.1
        | inr q ↦ two_shorter bytes n rest q.1
      ]
    ]

nibbles_shorter : (base delta len : ℕ) (bytes : List ℕ) (option : CoapOption) (rest : List ℕ)
    → nibbles_at base delta len bytes ≡ Ok (option, rest) → length rest ≤ length bytes
unfolding nibbles_at
nibbles_shorter base delta len bytes option rest e =
    let b = bind_ok (extended delta bytes) (λ d. extended len d.1 >>= λ l. value_at (base + d.0) l.0 l.1)
    (option, rest) e in
    let d = b.0 in
    let first = extended_shorter delta bytes d.0 d.1 b.1 in
    let b' = bind_ok (extended len d.1) (λ l. value_at (base + d.0) l.0 l.1) (option, rest) b.2 in
    let l = b'.0 in
    let second = extended_shorter len d.1 l.0 l.1 b'.1 in
    let v = value_reads (base + d.0) l.0 l.1 option rest b'.2 in
    let third : length l.1 ≡ length option.value + length rest = ap length v.parts ∙ length-append option.value rest in
    omega arith

pub option_shorter : (base : ℕ) (bytes : List ℕ) (option : CoapOption) (rest : List ℕ)
    → option_at base bytes ≡ Ok (option, rest) → length rest < length bytes
unfolding option_at
option_shorter base [] option rest e = absurd cc
option_shorter base (first ∷ bytes) option rest e =
    let read = nibbles_at base (first / 16) (first % 16) bytes in
    elim (chosen (eqb (first / 16) 15) (Err DeltaReserved) (cond (eqb (first % 16) 15) (Err LengthReserved) read)
    (Ok (option, rest)) e) [
      | inl p ↦ absurd cc
      | inr p ↦ elim (chosen (eqb (first % 16) 15) (Err LengthReserved) read (Ok (option, rest)) p.1) [
        | inl q ↦ absurd cc
        | inr q ↦ let h = nibbles_shorter base (first / 16) (first % 16) bytes option rest q.1 in omega arith
      ]
    ]
