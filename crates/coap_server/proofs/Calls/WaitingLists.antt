-- The first deferred request that is ready, and those that stay (RFC 7252, section 5.2.2).
use Rattle.std.proofs.Common.{◌≡◌, ◌<◌, ℕ, zero, suc, ◌+◌, Bool, true, false, Option, Some, None, List, [], ◌∷◌}
use Rattle.std.proofs.Common.{◌++◌, length, map, take, drop, remove, get_or, cond, refl, ap, sym, ◌∙◌, add-one, arith}
use Rattle.coap_exchange.specs.declared.answerer.Asked.{Asked}
use Rattle.coap_resource.specs.Serves.{Question}
use Rattle.coap_server.specs.Trace as T
use Rattle.coap_server.specs.Deferring.{is_of, question_of, without_waiting}

module _ {W : Type 0} (f : W → T.Waiting) (at : ℕ) (a : Asked) where
  -- what is left to look at, and what stays of the rest
  abbrev pub question_behind : ℕ → List W → Option Question
  question_behind i ws = question_of at a (map f (drop i ws))

  abbrev pub left_behind : ℕ → List W → List T.Waiting
  left_behind i ws = map f (take i ws) ++ without_waiting at a (map f (drop i ws))

  passed_question : (ws : List W) (i : ℕ) (d : W) → i < length ws → is_of at a (f (get_or ws i d)) ≡ false
      → question_behind (suc i) ws ≡ question_behind i ws
  passed_question [] i d within e = absurd (omega (arith, within))
  passed_question (w ∷ ws) zero d within e = sym
      (ap (λ b. cond b (Some (f w).question) (question_of at a (map f ws))) e)
  passed_question (w ∷ ws) (suc i) d within e = passed_question ws i d (omega (arith, within)) e

  passed_left : (ws : List W) (i : ℕ) (d : W) → i < length ws → is_of at a (f (get_or ws i d)) ≡ false
      → left_behind (suc i) ws ≡ left_behind i ws
  passed_left [] i d within e = absurd (omega (arith, within))
  passed_left (w ∷ ws) zero d within e = sym (ap (λ b. cond b (map f ws) (f w ∷ without_waiting at a (map f ws))) e)
  passed_left (w ∷ ws) (suc i) d within e = ap (λ (xs : List T.Waiting). f w ∷ xs)
      (passed_left ws i d (omega (arith, within)) e)

  pub question_passes : (ws : List W) (i : ℕ) (d : W) → i < length ws → is_of at a (f (get_or ws i d)) ≡ false
      → question_behind (i + 1) ws ≡ question_behind i ws
  question_passes ws i d within e = rw (add-one i) (passed_question ws i d within e)

  pub left_passes : (ws : List W) (i : ℕ) (d : W) → i < length ws → is_of at a (f (get_or ws i d)) ≡ false
      → left_behind (i + 1) ws ≡ left_behind i ws
  left_passes ws i d within e = rw (add-one i) (passed_left ws i d within e)

  pub question_found : (ws : List W) (i : ℕ) (d : W) → i < length ws → is_of at a (f (get_or ws i d)) ≡ true
      → question_behind i ws ≡ Some (f (get_or ws i d)).question
  question_found [] i d within e = absurd (omega (arith, within))
  question_found (w ∷ ws) zero d within e = ap (λ b. cond b (Some (f w).question) (question_of at a (map f ws))) e
  question_found (w ∷ ws) (suc i) d within e = question_found ws i d (omega (arith, within)) e

  pub left_found : (ws : List W) (i : ℕ) (d : W) → i < length ws → is_of at a (f (get_or ws i d)) ≡ true
      → map f (remove ws i) ≡ left_behind i ws
  left_found [] i d within e = absurd (omega (arith, within))
  left_found (w ∷ ws) zero d within e = sym (ap (λ b. cond b (map f ws) (f w ∷ without_waiting at a (map f ws))) e)
  left_found (w ∷ ws) (suc i) d within e = ap (λ (xs : List T.Waiting). f w ∷ xs)
      (left_found ws i d (omega (arith, within)) e)

  same_place : (ws : List W) (i : ℕ) (d e : W) → i < length ws → get_or ws i d ≡ get_or ws i e
  same_place [] i d e within = absurd (omega (arith, within))
  same_place (w ∷ ws) zero d e within = refl
  same_place (w ∷ ws) (suc i) d e within = same_place ws i d e (omega (arith, within))

  -- what was read at a place
  pub same_is : (ws : List W) (i : ℕ) (x d : W) (found b : Bool) → i < length ws → x ≡ get_or ws i x
      → found ≡ is_of at a (f x) → found ≡ b → is_of at a (f (get_or ws i d)) ≡ b
  same_is ws i x d found b within is test e = ap (λ (w : W). is_of at a (f w)) (sym (is ∙ same_place ws i x d within))
      ∙ (sym test ∙ e)

  -- where none is ready, all stay
  pub all_stay : (ws : List T.Waiting) → question_of at a ws ≡ None → without_waiting at a ws ≡ ws
  all_stay [] none = refl
  all_stay (w ∷ ws) none = by (is_of at a w) none (all_stay ws)
    where
      by : (b : Bool) → cond b (Some w.question) (question_of at a ws) ≡ None
          → (question_of at a ws ≡ None → without_waiting at a ws ≡ ws)
          → cond b ws (w ∷ without_waiting at a ws) ≡ w ∷ ws
      by true none k = absurd (cc none)
      by false none k = ap (λ (xs : List T.Waiting). w ∷ xs) (k none)
