-- The header and the token of a datagram.
use Rattle.std.proofs.Common.{◌≡◌, ◌≢◌, ℕ, ◌+◌, ◌<◌, ◌≤◌, ◌⊎◌, false, not, ◌&&◌, cond, ltb, eqb, List, length, Option}
use Rattle.std.proofs.Common.{Some, None, refl, sym, ap, subst, ◌∙◌, arith, inl, inr}
use Rattle.std.proofs.lemmas.Bool.{ltb-true, ltb-false, eqb-true, eqb-false, lt-ltb, le-ltb, eq-eqb, ne_eqb, cases_lt}
use Rattle.std.proofs.lemmas.Bool.{not-true, not-false, and_cases, and_left, and_right}
use Rattle.std.proofs.lemmas.Bool.Decides.{nat_tests}
use Rattle.coap_codec.specs.declared.fault.Reason.{Reason}
use Rattle.coap_codec.specs.declared.fault.Reason.TheVariants.{Short, Version, TokenLength, TokenCut, EmptyNotBare}
use Rattle.coap_codec.specs.Header.{version, token_length, code}
use Rattle.coap_codec.specs.Faulty.{IsHeader, IsFramed, Faulty}
use Rattle.coap_codec.specs.Reading.{frame_fault}
use Rattle.coap_codec.proofs.OneOption.IsRead.{chosen}

abbrev found : Reason → ℕ → Option (Reason × ℕ)
found reason at = Some (reason, at)

found_is : (r s : Reason) (a b : ℕ) → found r a ≡ found s b → (r ≡ s) × (a ≡ b)
found_is r s a b e = let p : Path (Reason × ℕ) (r, a) (s, b) =
    cc in (ap (λ (x : Reason × ℕ). x.0) p, ap (λ (x : Reason × ℕ). x.1) p)

module _ (bytes : List ℕ) where
  pub frame_none : frame_fault bytes ≡ None → IsFramed bytes
  unfolding frame_fault
  frame_none e = record {
    header = record {
      long = grind (arith, nat_tests);
      version = grind (arith, nat_tests);
      token = grind (arith, nat_tests);
    };
    bare = λ h. (grind (arith, nat_tests), grind (arith, nat_tests));
    token = grind (arith, nat_tests);
  }

  bare : (eqb (token_length bytes) 0 && eqb (length bytes) 4) ≡ false → 4 ≤ length bytes
      → (token_length bytes ≢ 0) ⊎ (4 < length bytes)
  bare e long =
      elim (and_cases (eqb (token_length bytes) 0) (eqb (length bytes) 4) e) [
        | inl p ↦ inl (eqb-false (token_length bytes) 0 p)
        | inr p ↦ let n : length bytes ≢ 4 = eqb-false (length bytes) 4 p in inr (omega arith)
      ]

  not_bare : ((token_length bytes ≢ 0) ⊎ (4 < length bytes))
      → (eqb (token_length bytes) 0 && eqb (length bytes) 4) ≡ false
  not_bare h = grind (arith, nat_tests, and_left, and_right)

  leads : (r : Reason) (a : ℕ) (s : Reason) (b : ℕ) → found r a ≡ found s b → Faulty bytes r a → Faulty bytes s b
  leads r a s b e h = let p : Path (Reason × ℕ) (r, a) (s, b) =
      cc in subst (λ (x : Reason × ℕ). Faulty bytes x.0 x.1) p h

  pub frame_some : (r : Reason) (at : ℕ) → frame_fault bytes ≡ Some (r, at) → Faulty bytes r at
  unfolding frame_fault
  frame_some r at e =
      let len = length bytes in
      let cut = cond (ltb len (4 + token_length bytes)) (found TokenCut len) None in
      let empty = cond (eqb (token_length bytes) 0 && eqb len 4) None (found EmptyNotBare 4) in
      let third = cond (eqb (code bytes) 0) empty cut in
      let second = cond (ltb 8 (token_length bytes)) (found TokenLength 0) third in
      let first = cond (not (eqb (version bytes) 1)) (found Version 0) second in
      elim (chosen (ltb len 4) (found Short len) first (found r at) e) [
        | inl p ↦ leads Short len r at p.1 (ltb-true len 4 p.0, refl)
        | inr p ↦
            let long : 4 ≤ len = ltb-false len 4 p.0 in
            elim (chosen (not (eqb (version bytes) 1)) (found Version 0) second (found r at) p.1) [
              | inl q ↦ leads Version 0 r at q.1 (
                long,
                eqb-false (version bytes) 1 (not-true (eqb (version bytes) 1) q.0),
                refl,
              )
              | inr q ↦
                  let one : version bytes ≡ 1 = eqb-true (version bytes) 1 (not-false (eqb (version bytes) 1) q.0) in
                  elim (chosen (ltb 8 (token_length bytes)) (found TokenLength 0) third (found r at) q.1) [
                    | inl s ↦ leads TokenLength 0 r at s.1 (long, one, ltb-true 8 (token_length bytes) s.0, refl)
                    | inr s ↦
                        let header : IsHeader bytes = record {
                          long = long;
                          version = one;
                          token = ltb-false 8 (token_length bytes) s.0;
                        } in
                        elim (chosen (eqb (code bytes) 0) empty cut (found r at) s.1) [
                          | inl t ↦ elim (chosen (eqb (token_length bytes) 0 && eqb len 4) None (found EmptyNotBare 4)
                              (found r at) t.1) [
                                | inl u ↦ absurd cc
                                | inr u ↦ leads EmptyNotBare 4 r at u.1
                                    (header, eqb-true (code bytes) 0 t.0, bare u.0 long, refl)
                              ]
                          | inr t ↦ elim (chosen (ltb len (4 + token_length bytes)) (found TokenCut len) None
                              (found r at) t.1) [
                                | inl u ↦ leads TokenCut len r at u.1 (
                                  header,
                                  eqb-false (code bytes) 0 t.0,
                                  ltb-true len (4 + token_length bytes) u.0,
                                  refl,
                                )
                                | inr u ↦ absurd cc
                              ]
                        ]
                  ]
            ]
      ]

  pub framed_none : IsFramed bytes → frame_fault bytes ≡ None
  unfolding frame_fault
  framed_none h = grind (arith, nat_tests, h.bare, h.token, h.header)

  pub short_again : (at : ℕ) → Faulty bytes Short at → frame_fault bytes ≡ Some (Short, at)
  unfolding frame_fault
  short_again at h = rw (lt-ltb (length bytes) 4 h.0) (sym (ap (found Short) h.1))

  pub version_again : (at : ℕ) → Faulty bytes Version at → frame_fault bytes ≡ Some (Version, at)
  unfolding frame_fault
  version_again at h = rw (le-ltb (length bytes) 4 h.0, ne_eqb (version bytes) 1 h.1) (sym (ap (found Version) h.2))

  pub token_length_again : (at : ℕ) → Faulty bytes TokenLength at → frame_fault bytes ≡ Some (TokenLength, at)
  unfolding frame_fault
  token_length_again at h = rw (
    le-ltb (length bytes) 4 h.0,
    eq-eqb (version bytes) 1 h.1,
    lt-ltb 8 (token_length bytes) h.2,
  ) (sym (ap (found TokenLength) h.3))

  pub empty_again : (at : ℕ) → Faulty bytes EmptyNotBare at → frame_fault bytes ≡ Some (EmptyNotBare, at)
  unfolding frame_fault
  empty_again at h =
      rw (
        le-ltb (length bytes) 4 h.0.long,
        eq-eqb (version bytes) 1 h.0.version,
        le-ltb 8 (token_length bytes) h.0.token,
        eq-eqb (code bytes) 0 h.1,
        not_bare h.2,
      )
      (sym (ap (found EmptyNotBare) h.3))

  pub token_cut_again : (at : ℕ) → Faulty bytes TokenCut at → frame_fault bytes ≡ Some (TokenCut, at)
  unfolding frame_fault
  token_cut_again at h =
      rw (
        le-ltb (length bytes) 4 h.0.long,
        eq-eqb (version bytes) 1 h.0.version,
        le-ltb 8 (token_length bytes) h.0.token,
        ne_eqb (code bytes) 0 h.1,
        lt-ltb (length bytes) (4 + token_length bytes) h.2,
      )
      (sym (ap (found TokenCut) h.3))

  pub frame_long : (r : Reason) (at : ℕ) → frame_fault bytes ≡ Some (r, at) → (r ≡ Short) ⊎ (4 ≤ length bytes)
  unfolding frame_fault
  frame_long r at e =
      elim (cases_lt (length bytes) 4) [
        | inl lt ↦ let found : frame_fault bytes ≡ Some (Short, length bytes) =
            rw (lt-ltb (length bytes) 4 lt) refl in inl (found_is r Short at (length bytes) (sym e ∙ found)).0
        | inr le ↦ inr le
      ]
