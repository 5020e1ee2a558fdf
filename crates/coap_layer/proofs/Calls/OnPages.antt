-- Lists on pages, by their places.
use Rattle.std.proofs.Common.{◌≡◌, ◌≤◌, ◌<◌, ◌+◌, ◌-◌, ◌*◌, ◌/◌, ◌%◌, ℕ, zero, suc, Bool, true, false, nat_lt, arith}
use Rattle.std.proofs.Common.{Option, Some, None, List, [], ◌∷◌, ◌++◌, length, refl, ap, sym, ◌∙◌, append_assoc}
use Rattle.std.proofs.lemmas.Bool.Decides.{nat_tests}
use Rattle.std.proofs.lemmas.List.{append-nil, length-append}
use Rattle.std.proofs.Math.Nat.{div-eq-sub-div, mod-eq-sub-mod}
use Rattle.std.proofs.Common.{Bor, option_copied}
use Rattle.std.proofs.lemmas.Option.{slice_get_past, slice_get_read}
use Rattle.std.specs.Slice.{IsItemAt}
use Rattle.std.specs.List.{slice_get}
use Rattle.std.specs.declared.vec.Vec.{Vec}
use Rattle.coap_layer.specs.Machine.Paged.{AreFull, items_on}
use Rattle.coap_layer.specs.declared.dedup.pages.TheConstants.{PAGE as page}

module _ {X : Type 0} where
  pub slice_front : (xs ys : List X) (i : ℕ) → i < length xs → slice_get (xs ++ ys) i ≡ slice_get xs i
  slice_front [] ys i lt = absurd (omega (arith, lt))
  slice_front (x ∷ xs) ys zero lt = refl
  slice_front (x ∷ xs) ys (suc i) lt = slice_front xs ys i (omega (arith, lt))

  pub slice_back : (xs ys : List X) (i j : ℕ) → length xs + j ≡ i → slice_get (xs ++ ys) i ≡ slice_get ys j
  slice_back [] ys i j e = let same : i ≡ j = omega (arith, e) in ap (slice_get ys) same
  slice_back (x ∷ xs) ys zero j e = absurd (omega (arith, e))
  slice_back (x ∷ xs) ys (suc i) j e = slice_back xs ys i j (omega (arith, e))

small_div : (i : ℕ) → i < 128 → i / 128 ≡ 0
small_div i lt = omega (arith, lt)

small_mod : (i : ℕ) → i < 128 → i % 128 ≡ i
small_mod i lt = omega (arith, lt)

more_div : (i j : ℕ) → i ≡ 128 + j → i / 128 ≡ suc (j / 128)
more_div i j e = omega (arith, e)

more_mod : (i j : ℕ) → i ≡ 128 + j → i % 128 ≡ j % 128
more_mod i j e = omega (arith, e)

module _ {X Z : Type 0} where
  pub on_more : (ps : List (Vec X Z)) (p : Vec X Z) → items_on (ps ++ p ∷ []) ≡ items_on ps ++ p.items
  on_more [] p = append-nil p.items
  on_more (q ∷ ps) p = ap (λ xs. q.items ++ xs) (on_more ps p) ∙ sym (append_assoc q.items (items_on ps) p.items)

  pub full_more : (ps : List (Vec X Z)) (p : Vec X Z) → AreFull ps → length p.items ≡ page → AreFull (ps ++ p ∷ [])
  full_more [] p h e = (e, tt)
  full_more (q ∷ ps) p h e = (h.0, full_more ps p h.1 e)

  -- what stands on a full page, and on the last
  pub on_full : (ps : List (Vec X Z)) (last : List X) (i : ℕ) (p : Vec X Z) → AreFull ps
      → slice_get ps (i / page) ≡ Some p → slice_get (items_on ps ++ last) i ≡ slice_get p.items (i % page)
  on_full [] last i p h is = absurd (cc is)
  on_full (q ∷ ps) last i p h is =
      ap (λ xs. slice_get xs i) (append_assoc q.items (items_on ps) last) ∙ go (nat_lt i 128) refl
      (λ j there. on_full ps last j p h.1 there)
    where
      go : (b : Bool) → nat_lt i 128 ≡ b
          → ((j : ℕ) → slice_get ps (j / 128) ≡ Some p
          → slice_get (items_on ps ++ last) j ≡ slice_get p.items (j % 128))
          → slice_get (q.items ++ (items_on ps ++ last)) i ≡ slice_get p.items (i % 128)
      go true t rest =
          let lt : i < 128 = grind (arith, nat_tests, t) in
          let zeroth : i / 128 ≡ 0 = small_div i lt in
          let here : Some q ≡ Some p = ap (slice_get (q ∷ ps)) (sym zeroth) ∙ is in
          let same : q ≡ p = cc here in
          let len = h.0 in
          slice_front q.items (items_on ps ++ last) i (omega (arith, lt, len))
          ∙ (ap (λ v. slice_get v.items i) same ∙ ap (slice_get p.items) (sym (small_mod i lt)))
      go false t rest =
          let le : 128 ≤ i = grind (arith, nat_tests, t) in
          let j : ℕ = i - 128 in
          let e : i ≡ 128 + j = omega (arith, le) in
          let there : slice_get ps (j / 128) ≡ Some p = ap (slice_get (q ∷ ps)) (sym (more_div i j e)) ∙ is in
          let len = h.0 in
          slice_back q.items (items_on ps ++ last) i j (omega (arith, e, len))
          ∙ (rest j there ∙ ap (slice_get p.items) (sym (more_mod i j e)))

  pub on_last : (ps : List (Vec X Z)) (last : List X) (i j : ℕ) → AreFull ps → length ps * page + j ≡ i
      → slice_get (items_on ps ++ last) i ≡ slice_get last j
  on_last [] last i j h e = let same : i ≡ j = omega (arith, e) in ap (slice_get last) same
  on_last (q ∷ ps) last i j h e =
      let len = h.0 in
      ap (λ xs. slice_get xs i) (append_assoc q.items (items_on ps) last)
      ∙ (slice_back q.items (items_on ps ++ last) i (length ps * 128 + j) (omega (arith, e, len))
      ∙ on_last ps last (length ps * 128 + j) j h.1 refl)

-- a page is full, and the next one begins
pub turned : {X Z : Type 0} (ps qs : List (Vec X Z)) (p : Vec X Z) (last : List X) (x : X) → qs ≡ ps ++ p ∷ []
    → last ≡ x ∷ [] → items_on qs ++ last ≡ (items_on ps ++ p.items) ++ x ∷ []
turned ps qs p last x more begun =
    ap (λ rs. items_on rs ++ last) more
    ∙ (ap (λ xs. xs ++ last) (on_more ps p) ∙ ap (λ ys. (items_on ps ++ p.items) ++ ys) begun)

-- what is lent of the element at a place
pub lent_at : {X : Type 0} (xs : List X) (i : ℕ) (r : Option (Bor X)) → IsItemAt xs i r
    → option_copied r ≡ slice_get xs i
lent_at xs i None h = sym (slice_get_past xs i h.3)
lent_at xs i (Some x) h = sym (slice_get_read xs (length xs) i x.now refl h.3.0 h.1)
