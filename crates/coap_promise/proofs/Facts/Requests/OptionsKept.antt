-- Who ignores or refuses a message with an option that is critical and not recognised reads all of its options, where
-- each elective one is recognised.
use Rattle.std.proofs.Common.{◌≡◌, Bool, true, false, ◌&&◌, ◌||◌, not, List, [], ◌∷◌, ◌++◌, map, refl, ap, cond}
use Rattle.std.specs.List.{filter, list_any}
use Rattle.coap_types.specs.CoapOption.{CoapOption}
use Rattle.coap_types.specs.Recognised.{placed, is_recognised, is_critical, lacks_critical, recognised}
use Rattle.coap_types.specs.declared.direction.Direction.{Direction}

pub rest_of : (c r k : Bool) → ((c && not r) || k) ≡ false → k ≡ false
rest_of true true k h = h
rest_of true false k h = absurd (cc h)
rest_of false r k h = h

known_here : (c r k : Bool) → ((c && not r) || k) ≡ false → (c ≡ false → r ≡ true) → r ≡ true
known_here true true k h f = refl
known_here true false k h f = absurd (cc h)
known_here false r k h f = f refl

module _ (way : Direction) where
  abbrev kept : List CoapOption → List CoapOption → List CoapOption
  kept before os = map (λ p. p.1) (filter (λ p. is_recognised way p.0 p.1) (placed before os))

  abbrev pub lacking : List CoapOption → List CoapOption → Bool
  lacking before os = list_any (λ p. is_critical p.1 && not (is_recognised way p.0 p.1)) (placed before os)

  -- each elective option is recognised
  abbrev pub KnownElective : List CoapOption → List CoapOption → Type 0
  KnownElective before [] = Unit {0}
  KnownElective before (o ∷ os) = (is_critical o ≡ false → is_recognised way before o ≡ true)
      × KnownElective (before ++ o ∷ []) os

  all_kept : (before os : List CoapOption) → lacking before os ≡ false → KnownElective before os → kept before os ≡ os
  all_kept before [] none known = refl
  all_kept before (o ∷ os) none known =
      by (is_recognised way before o) (known_here (is_critical o) (is_recognised way before o)
      (lacking (before ++ o ∷ []) os) none known.0)
      (all_kept (before ++ o ∷ []) os (rest_of (is_critical o) (is_recognised way before o)
      (lacking (before ++ o ∷ []) os) none) known.1)
    where
      by : (r : Bool) → r ≡ true → kept (before ++ o ∷ []) os ≡ os
          → map (λ p. p.1) (cond r ((before, o) ∷ filter (λ p. is_recognised way p.0 p.1)
          (placed (before ++ o ∷ []) os)) (filter (λ p. is_recognised way p.0 p.1)
          (placed (before ++ o ∷ []) os))) ≡ o ∷ os
      by true is ih = ap (λ l. o ∷ l) ih
      by false is ih = absurd (cc is)

  pub all_recognised : (os : List CoapOption) → lacks_critical way os ≡ false → KnownElective [] os
      → recognised way os ≡ os
  all_recognised os none known = all_kept [] os none known
