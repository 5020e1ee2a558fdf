-- What takes something away with each call comes to an end.
use Rattle.std.proofs.Common.{◌≡◌, ◌≤◌, ◌<◌, ℕ, zero, suc, Bool, true, false, Option, Some, None, List, [], ◌∷◌, ◌++◌}
use Rattle.std.proofs.Common.{map, refl, ap, sym, subst, ◌∙◌, append_assoc, arith}
use Rattle.std.proofs.lemmas.List.{map-append}
use Rattle.coap_types.specs.Past.{Always}
use Rattle.coap_exchange.specs.Endings.{UpToIdle, all_taken}

module _ {X : Type 0} (Law : List X → Type 0) (size : List X → ℕ) where
  -- ticks
  module _ (IsTick : Bool → X → Type 0) where
    pub record Next (t : List X) : Type 0 where
      pub answer : Bool
      pub call : X
      pub is : IsTick answer call
      pub law : Law (call ∷ t)
      pub fewer : answer ≡ true → size (call ∷ t) < size t

    pub record Rests (t : List X) : Type 0 where
      pub calls : List X
      pub are : UpToIdle IsTick calls
      pub law : Law (calls ++ t)

    always_last : (xs : List X) (x : X) → Always (λ past b. IsTick true b) xs → IsTick true x
        → Always (λ past b. IsTick true b) (xs ++ x ∷ [])
    always_last [] x h k = (k, tt)
    always_last (y ∷ xs) x h k = (h.0, always_last xs x h.1 k)

    up_to_last : (xs : List X) (x : X) → UpToIdle IsTick xs → IsTick true x → UpToIdle IsTick (xs ++ x ∷ [])
    up_to_last [] x h k = absurd h
    up_to_last (y ∷ xs) x h k = (h.0, always_last xs x h.1 k)

    pub rests : ((t : List X) → Law t → Next t) → (n : ℕ) (t : List X) → Law t → size t ≤ n → Rests t
    rests next zero t law few = by k.answer k.is k.fewer
      where
        k : Next t
        k = next t law

        by : (b : Bool) → IsTick b k.call → (b ≡ true → size (k.call ∷ t) < size t) → Rests t
        by false is fewer = record { calls = k.call ∷ []; are = (is, tt); law = k.law }
        by true is fewer = let less = fewer refl in absurd (omega (arith, less, few))
    rests next (suc n) t law few = by k.answer k.is k.fewer
        (λ less. rests next n (k.call ∷ t) k.law (omega (arith, less, few)))
      where
        k : Next t
        k = next t law

        by : (b : Bool) → IsTick b k.call → (b ≡ true → size (k.call ∷ t) < size t)
            → (size (k.call ∷ t) < size t → Rests (k.call ∷ t)) → Rests t
        by false is fewer more = record { calls = k.call ∷ []; are = (is, tt); law = k.law }
        by true is fewer more =
            let r = more (fewer refl) in
            record {
              calls = r.calls ++ k.call ∷ [];
              are = up_to_last r.calls k.call r.are is;
              law = subst Law (sym (append_assoc r.calls (k.call ∷ []) t)) r.law;
            }

  -- what is taken
  module _ {A : Type 0} (call : Option A → X) where
    abbrev Less : List X → Option A → Type 0
    Less t None = Unit {0}
    Less t (Some a) = size (call (Some a) ∷ t) < size t

    pub record Takes (t : List X) : Type 0 where
      pub answer : Option A
      pub law : Law (call answer ∷ t)
      pub less : Less t answer

    pub record Drains (t : List X) : Type 0 where
      pub taken : List A
      pub law : Law (all_taken call taken ++ t)

    pub drains : ((t : List X) → Law t → Takes t) → (n : ℕ) (t : List X) → Law t → size t ≤ n → Drains t
    drains next zero t law few = by k.answer k.law k.less
      where
        k : Takes t
        k = next t law

        by : (o : Option A) → Law (call o ∷ t) → Less t o → Drains t
        by None more less = record { taken = []; law = more }
        by (Some a) more less = absurd (omega (arith, less, few))
    drains next (suc n) t law few = by k.answer k.law k.less
        (λ a more less. drains next n (call (Some a) ∷ t) more (omega (arith, less, few)))
      where
        k : Takes t
        k = next t law

        by : (o : Option A) → Law (call o ∷ t) → Less t o
            → ((a : A) → Law (call (Some a) ∷ t) → Less t (Some a) → Drains (call (Some a) ∷ t)) → Drains t
        by None more less f = record { taken = []; law = more }
        by (Some a) more less f =
            let r = f a more less in
            let one : map (λ x. call (Some x)) (r.taken ++ a ∷ []) ++ t ≡ map (λ x. call (Some x)) r.taken
            ++ call (Some a) ∷ t =
            ap (λ xs. xs ++ t) (map-append (λ x. call (Some x)) r.taken (a ∷ []))
            ∙ append_assoc (map (λ x. call (Some x)) r.taken) (call (Some a) ∷ []) t in
            record { taken = r.taken ++ a ∷ []; law = subst (λ xs. Law (call None ∷ xs)) (sym one) r.law }
