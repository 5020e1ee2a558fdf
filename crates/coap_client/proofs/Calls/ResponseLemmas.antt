-- How long the options of a response are that are recognised (RFC 7252, section 5.4.3).
use Rattle.std.proofs.Common.{◌≡◌, ◌≤◌, ℕ, Bool, true, false, cond, ◌&&◌, Option, Some, None, List, [], ◌∷◌, length}
use Rattle.std.proofs.Common.{map, ap, subst, refl, arith}
use Rattle.std.specs.Prelude.{nat_le, ◌==◌}
use Rattle.std.specs.List.{filter}
use Rattle.std.specs.Cmp.{unsigned_Decides}
use Rattle.std.proofs.lemmas.Bool.{leb-true}
use Rattle.coap_types.specs.CoapOption.{CoapOption}
use Rattle.coap_types.specs.OptionTable.{option_rule}
use Rattle.coap_types.specs.OptionValues.{value_of}
use Rattle.coap_types.specs.Recognised.{is_recognised, passes, placed, recognised}
use Rattle.coap_types.specs.declared.direction.Direction.{Direction}
use Rattle.coap_types.specs.declared.direction.Direction.TheVariants as direction

abbrev Found : Direction → ℕ → List ℕ → Type 0
Found d number v = (before : List CoapOption) × (o : CoapOption) × (o.number ≡ number) × (o.value ≡ v)
    × (is_recognised d before o ≡ true)

found : (d : Direction) (number : ℕ) (ps : List (List CoapOption × CoapOption)) (v : List ℕ)
    → value_of number (map (λ p. p.1) (filter (λ p. is_recognised d p.0 p.1) ps)) ≡ Some v → Found d number v
found d number [] v h = absurd (cc h)
found d number (p ∷ ps) v h = by (found d number ps v) (is_recognised d p.0 p.1) refl h
  where
    rest : Option (List ℕ)
    rest = value_of number (map (λ q. q.1) (filter (λ q. is_recognised d q.0 q.1) ps))

    here : (rest ≡ Some v → Found d number v) → (c : Bool) → (p.1.number == number) ≡ c → is_recognised d p.0 p.1 ≡ true
        → cond c (Some p.1.value) rest ≡ Some v → Found d number v
    here ih true q e k = (
      p.0,
      p.1,
      (unsigned_Decides p.1.number number).0 q,
      ap (λ (o : Option (List ℕ)). elim o [ None ↦ [] | Some x ↦ x ]) k,
      e,
    )
    here ih false q e k = ih k

    by : (rest ≡ Some v → Found d number v) → (b : Bool) → is_recognised d p.0 p.1 ≡ b
        → value_of number (map (λ q. q.1) (cond b (p ∷ filter (λ q. is_recognised d q.0 q.1) ps)
        (filter (λ q. is_recognised d q.0 q.1) ps))) ≡ Some v → Found d number v
    by ih true e k = here ih (p.1.number == number) refl e k
    by ih false e k = ih k

last_two : (a b c : Bool) → (a && b && c) ≡ true → (b ≡ true) × (c ≡ true)
last_two true true true h = (refl, refl)
last_two _ _ _ h = absurd (cc h)

pub etag_few : (options : List CoapOption) (v : List ℕ) → value_of 4 (recognised direction.Response options) ≡ Some v
    → (1 ≤ length v) × (length v ≤ 8)
etag_few options v h =
    let f = found direction.Response 4 (placed [] options) v h in
    let z = last_two _ (nat_le 1 (length f.1.value)) (nat_le (length f.1.value) 8)
    (subst (λ n. passes (option_rule n) direction.Response f.0 f.1 ≡ true) f.2 f.4) in
    (subst (λ w. 1 ≤ length w) f.3 (leb-true 1 _ z.0), subst (λ w. length w ≤ 8) f.3 (leb-true _ 8 z.1))

pub observe_few : (options : List CoapOption) (v : List ℕ) → value_of 6 (recognised direction.Response options) ≡ Some v
    → length v ≤ 4
observe_few options v h =
    let f = found direction.Response 6 (placed [] options) v h in
    let z = last_two _ (nat_le 0 (length f.1.value)) (nat_le (length f.1.value) 3)
    (subst (λ n. passes (option_rule n) direction.Response f.0 f.1 ≡ true) f.2 f.4) in
    subst (λ w. length w ≤ 4) f.3 (let l = leb-true _ 3 z.1 in omega (arith, l))
