-- A walk over whole options takes the longest run of them.
use Rattle.std.proofs.Common.{◌≡◌, ℕ, zero, suc, ◌+◌, ◌≤◌, List, [], ◌∷◌, ◌++◌, length, Ok, Err, refl, sym, ap, subst}
use Rattle.std.proofs.Common.{◌∙◌, append_assoc, arith, inl, inr}
use Rattle.std.proofs.lemmas.List.{length-append}
use Rattle.coap_types.specs.CoapOption.{CoapOption}
use Rattle.coap_codec.specs.declared.fault.Reason.{Reason}
use Rattle.coap_codec.specs.declared.fault.Reason.TheVariants.{OptionCut}
use Rattle.coap_codec.specs.Options.{Options}
use Rattle.coap_codec.specs.Faulty.{last_number}
use Rattle.coap_codec.specs.Reading.{option_at, Walk, with_first, ends_at, walk_of, walk}
use Rattle.coap_types.specs.Bytes.{AreBytes}
use Rattle.coap_types.proofs.Facts.Bytes.{AreBytes-rest}
use Rattle.coap_codec.proofs.OneOption.IsRead.{cases_result, option_reads, option_again, option_shorter}

one_step : (n base : ℕ) (bytes : List ℕ) (option : CoapOption) (rest : List ℕ)
    → option_at base bytes ≡ Ok (option, rest) → walk_of (suc n) base bytes
    ≡ with_first option (walk_of n option.number rest)
unfolding walk_of
one_step n base bytes option rest e = rw (e, walk_of) refl

no_step : (n base : ℕ) (bytes : List ℕ) (reason : Reason) → option_at base bytes ≡ Err reason
    → walk_of (suc n) base bytes ≡ ends_at base bytes reason
unfolding walk_of
no_step n base bytes reason e = rw (e, walk_of) refl

same_step : (n m base : ℕ) (bytes : List ℕ) → length bytes ≤ suc n → length bytes ≤ suc m
    → ((base : ℕ) (bytes : List ℕ) → length bytes ≤ n → length bytes ≤ m → walk_of n base bytes ≡ walk_of m base bytes)
    → walk_of (suc n) base bytes ≡ walk_of (suc m) base bytes
same_step n m base bytes p q ih =
    elim (cases_result (option_at base bytes)) [
      | inl h ↦
          let option = h.0.0 in
          let rest = h.0.1 in
          let s = option_shorter base bytes option rest h.1 in
          one_step n base bytes option rest h.1 ∙ ap (with_first option)
          (ih option.number rest (omega arith) (omega arith)) ∙ sym (one_step m base bytes option rest h.1)
      | inr h ↦ no_step n base bytes h.0 h.1 ∙ sym (no_step m base bytes h.0 h.1)
    ]

walk_same : (n m base : ℕ) (bytes : List ℕ) → length bytes ≤ n → length bytes ≤ m
    → walk_of n base bytes ≡ walk_of m base bytes
unfolding walk_of option_at
walk_same zero zero base bytes p q = refl
walk_same zero (suc m) base [] p q = refl
walk_same zero (suc m) base (b ∷ bytes) p q = absurd (omega arith)
walk_same (suc n) zero base [] p q = refl
walk_same (suc n) zero base (b ∷ bytes) p q = absurd (omega arith)
walk_same (suc n) (suc m) base [] p q = refl
walk_same (suc n) (suc m) base (b ∷ bytes) p q = same_step n m base (b ∷ bytes) p q (walk_same n m)

module _ (base : ℕ) (bytes : List ℕ) where
  pub walk_step : (option : CoapOption) (rest : List ℕ) → option_at base bytes ≡ Ok (option, rest)
      → walk base bytes ≡ with_first option (walk option.number rest)
  unfolding walk
  walk_step option rest e =
      let s = option_shorter base bytes option rest e in
      walk_same (length bytes) (suc (length bytes)) base bytes (omega arith) (omega arith)
      ∙ one_step (length bytes) base bytes option rest e
      ∙ ap (with_first option) (walk_same (length bytes) (length rest) option.number rest (omega arith) (omega arith))

  pub walk_stop : (reason : Reason) → option_at base bytes ≡ Err reason → walk base bytes ≡ ends_at base bytes reason
  unfolding walk
  walk_stop reason e =
      walk_same (length bytes) (suc (length bytes)) base bytes (omega arith) (omega arith)
      ∙ no_step (length bytes) base bytes reason e

-- what a walk finds is a run of options, and no option begins where it ends
pub record Walked (base : ℕ) (bytes : List ℕ) (w : Walk) : Type 0 where
  pub front : List ℕ
  pub run : Options base front w.options
  pub parts : bytes ≡ front ++ w.rest
  pub last : w.number ≡ last_number base w.options
  pub ends : option_at w.number w.rest ≡ Err w.reason
  pub fits : AreBytes w.rest

walked_case : (n base : ℕ) (bytes : List ℕ) → AreBytes bytes → length bytes ≤ suc n
    → ((base : ℕ) (bytes : List ℕ) → AreBytes bytes → length bytes ≤ n → Walked base bytes (walk base bytes))
    → Walked base bytes (walk base bytes)
walked_case n base bytes fits p ih =
    elim (cases_result (option_at base bytes)) [
      | inl h ↦
          let option = h.0.0 in
          let rest = h.0.1 in
          let s = option_shorter base bytes option rest h.1 in
          let t = option_reads base bytes option rest fits h.1 in
          let w = ih option.number rest (AreBytes-rest t.first rest (subst AreBytes t.parts fits)) (omega arith) in
          let regrouped : t.first ++ (w.front ++ (walk option.number rest).rest) ≡ (t.first ++ w.front)
          ++ (walk option.number rest).rest = sym (append_assoc t.first w.front (walk option.number rest).rest) in
          subst (Walked base bytes) (sym (walk_step base bytes option rest h.1)) (record {
            front = t.first ++ w.front;
            run = (t.first, w.front, refl, t.is_option, w.run);
            parts = t.parts ∙ ap (λ (r : List ℕ). t.first ++ r) w.parts ∙ regrouped;
            last = w.last;
            ends = w.ends;
            fits = w.fits;
          })
      | inr h ↦
          subst (Walked base bytes) (sym (walk_stop base bytes h.0 h.1))
          (record { front = []; run = refl; parts = refl; last = refl; ends = h.1; fits = fits })
    ]

walked_within : (n base : ℕ) (bytes : List ℕ) → AreBytes bytes → length bytes ≤ n → Walked base bytes (walk base bytes)
unfolding option_at
walked_within zero base [] fits p = subst (Walked base []) (sym (walk_stop base [] OptionCut refl))
    (record { front = []; run = refl; parts = refl; last = refl; ends = refl; fits = fits })
walked_within zero base (b ∷ bytes) fits p = absurd (omega arith)
walked_within (suc n) base bytes fits p = walked_case n base bytes fits p (walked_within n)

pub walked : (base : ℕ) (bytes : List ℕ) → AreBytes bytes → Walked base bytes (walk base bytes)
walked base bytes fits = walked_within (length bytes) base bytes fits (omega arith)

-- a run is walked over
pub walk_again : (options : List CoapOption) (base : ℕ) (front rest : List ℕ) (reason : Reason)
    → Options base front options → option_at (last_number base options) rest ≡ Err reason
    → walk base (front ++ rest) ≡ record {
      options = options;
      number = last_number base options;
      rest = rest;
      reason = reason;
    }
walk_again [] base front rest reason run e = rw run (walk_stop base rest reason e)
walk_again (option ∷ options) base front rest reason run e =
    let first = run.0 in
    let more = run.1 in
    let parts : front ++ rest ≡ first ++ (more ++ rest) = rw run.2 (append_assoc first more rest) in
    let again = option_again base option first (more ++ rest) run.3 in
    rw parts (walk_step base (first ++ (more ++ rest)) option (more ++ rest) again
    ∙ ap (with_first option) (walk_again options option.number more rest reason run.4 e))

-- no run is longer than the walk
pub walk_longest : (options : List CoapOption) (base : ℕ) (bytes run left : List ℕ) → AreBytes bytes
    → Options base run options → bytes ≡ run ++ left → length (walk base bytes).rest ≤ length left
walk_longest [] base bytes run left fits is e =
    let w = walked base bytes fits in
    let whole : length bytes ≡ length w.front + length (walk base bytes).rest = ap length w.parts
    ∙ length-append w.front (walk base bytes).rest in
    let same : bytes ≡ left = e ∙ ap (λ (r : List ℕ). r ++ left) is in
    let len = ap length same in
    omega arith
walk_longest (option ∷ options) base bytes run left fits is e =
    let first = is.0 in
    let more = is.1 in
    let parts : bytes ≡ first ++ (more ++ left) = e ∙ ap (λ (r : List ℕ). r ++ left) is.2
    ∙ append_assoc first more left in
    let fits' : AreBytes (first ++ (more ++ left)) = subst AreBytes parts fits in
    let again = option_again base option first (more ++ left) is.3 in
    let step = walk_step base (first ++ (more ++ left)) option (more ++ left) again in
    rw (parts, step) (walk_longest options option.number (more ++ left) more left
    (AreBytes-rest first (more ++ left) fits') is.4 refl)

-- each option takes a step
count_within : (n base : ℕ) (bytes : List ℕ) → length (walk_of n base bytes).options ≤ n
unfolding walk_of
count_within zero base bytes = omega arith
count_within (suc n) base bytes =
    elim (cases_result (option_at base bytes)) [
      | inl h ↦ let e = ap (λ w. length w.options) (one_step n base bytes h.0.0 h.0.1 h.1) in let r =
          count_within n h.0.0.number h.0.1 in omega arith
      | inr h ↦ let e = ap (λ w. length w.options) (no_step n base bytes h.0 h.1) in omega arith
    ]

pub walk_count : (base : ℕ) (bytes : List ℕ) → length (walk base bytes).options ≤ length bytes
unfolding walk
walk_count base bytes = count_within (length bytes) base bytes
