-- What a further option adds to those that are recognised.
use Rattle.std.proofs.Common.{◌≡◌, ◌≢◌, ℕ, ◌%◌, ◌==◌, arith, Bool, true, false, not, ◌&&◌, ◌||◌, ◌++◌, ◌∙◌, List, []}
use Rattle.std.proofs.Common.{◌∷◌, map, refl, ap, sym, append_assoc, slice_index_or, zero, suc, if◌then◌else◌}
use Rattle.std.specs.List.{filter, list_any}
use Rattle.std.proofs.lemmas.List.{append-nil, map-append}
use Rattle.std.proofs.lemmas.List.Elements.{filter-append}
use Rattle.std.proofs.lemmas.List.Folds.{list_any-append}
use Rattle.coap_types.specs.declared.direction.Direction.{Direction}
use Rattle.coap_types.specs.declared.options.Opt.{Opt}
use Rattle.coap_types.specs.CoapOption.{CoapOption, option_of, options_of}
use Rattle.coap_types.specs.Recognised.{Recognised, is_recognised, is_critical, placed}
use Rattle.coap_types.specs.SeenNumbers.{Remembers}

-- what holds of the options so far
pub record SoFar (direction : Direction) (options kept : List CoapOption) (bad : Bool) (seen : List Bool) : Type 0 where
  pub found : Recognised direction options kept bad
  pub numbers : Remembers seen options

pub placed_more : (before os : List CoapOption) (o : CoapOption)
    → placed before (os ++ o ∷ []) ≡ placed before os ++ (before ++ os, o) ∷ []
placed_more before [] o = ap (λ (b : List CoapOption). (b, o) ∷ []) (sym (append-nil before))
placed_more before (x ∷ os) o =
    ap (λ (r : List (List CoapOption × CoapOption)). (before, x) ∷ r)
    (placed_more (before ++ x ∷ []) os o ∙ ap (λ (b : List CoapOption). placed (before ++ x ∷ []) os ++ (b, o) ∷ [])
    (append_assoc before (x ∷ []) os))

abbrev pub passing : Direction → List CoapOption × CoapOption → Bool
passing direction p = is_recognised direction p.0 p.1

abbrev pub failing : Direction → List CoapOption × CoapOption → Bool
failing direction p = is_critical p.1 && not (is_recognised direction p.0 p.1)

abbrev pub option_in : List CoapOption × CoapOption → CoapOption
option_in p = p.1

one_kept : (b : Bool) (x : List CoapOption × CoapOption)
    → map option_in (if b then x ∷ [] else []) ≡ (if b then x.1 ∷ [] else [])
one_kept true x = refl
one_kept false x = refl

pub kept_more : (direction : Direction) (os : List CoapOption) (o : CoapOption)
    → map option_in (filter (passing direction) (placed [] (os ++ o ∷ [])))
    ≡ map option_in (filter (passing direction) (placed [] os)) ++ (if is_recognised direction os o then o ∷ [] else [])
kept_more direction os o =
    ap (λ (ps : List (List CoapOption × CoapOption)). map option_in (filter (passing direction) ps))
    (placed_more [] os o)
    ∙ ap (λ (ps : List (List CoapOption × CoapOption)). map option_in ps)
    (filter-append (passing direction) (placed [] os) ((os, o) ∷ []))
    ∙ map-append option_in (filter (passing direction) (placed [] os)) (filter (passing direction) ((os, o) ∷ []))
    ∙ ap (λ (r : List CoapOption). map option_in (filter (passing direction) (placed [] os)) ++ r)
    (one_kept (is_recognised direction os o) (os, o))

pub or_false : (b : Bool) → (b || false) ≡ b
or_false true = refl
or_false false = refl

pub bad_more : (direction : Direction) (os : List CoapOption) (o : CoapOption)
    → list_any (failing direction) (placed [] (os ++ o ∷ []))
    ≡ (list_any (failing direction) (placed [] os) || (is_critical o && not (is_recognised direction os o)))
bad_more direction os o =
    ap (λ (ps : List (List CoapOption × CoapOption)). list_any (failing direction) ps) (placed_more [] os o)
    ∙ list_any-append (failing direction) (placed [] os) ((os, o) ∷ [])
    ∙ ap (λ (b : Bool). list_any (failing direction) (placed [] os) || b)
    (or_false (is_critical o && not (is_recognised direction os o)))

-- what is made of the options so far by one more
pub one_more : (direction : Direction) (os kept more_kept : List CoapOption) (bad more_bad : Bool)
    (seen more_seen : List Bool) (o : CoapOption)
    → SoFar direction os kept bad seen → Remembers more_seen (os ++ o ∷ [])
    → more_kept ≡ kept ++ (if is_recognised direction os o then o ∷ [] else [])
    → more_bad ≡ (bad || (is_critical o && not (is_recognised direction os o)))
    → SoFar direction (os ++ o ∷ []) more_kept more_bad more_seen
one_more direction os kept more_kept bad more_bad seen more_seen o so numbers kept_is bad_is = record {
  found = record {
    list = kept_is ∙ ap (λ (k : List CoapOption). k ++ (if is_recognised direction os o then o ∷ [] else []))
        so.found.list ∙ sym (kept_more direction os o);
    rest = bad_is ∙ ap (λ (b : Bool). b || (is_critical o && not (is_recognised direction os o))) so.found.rest
        ∙ sym (bad_more direction os o);
  };
  numbers = numbers;
}

pub options_append : (xs ys : List Opt) → options_of (xs ++ ys) ≡ options_of xs ++ options_of ys
options_append xs ys = map-append option_of xs ys

pub unseen : (xs : List Bool) (n : ℕ) → list_any (λ b. b) xs ≡ false → slice_index_or xs n false ≡ false
unseen [] n none = refl
unseen (true ∷ xs) n none = absurd cc
unseen (false ∷ xs) zero none = refl
unseen (false ∷ xs) (suc n) none = unseen xs n none

-- before the first option
pub none_yet : (direction : Direction) (seen : List Bool) → list_any (λ b. b) seen ≡ false
    → SoFar direction [] [] false seen
none_yet direction seen none = record {
  found = record { list = refl; rest = refl };
  numbers = λ n low. unseen seen n none;
}

pub kept_then : (xs ys : List Opt) (x : Opt) (b : Bool) → b ≡ true → ys ≡ xs ++ x ∷ []
    → options_of ys ≡ options_of xs ++ (if b then option_of x ∷ [] else [])
kept_then xs ys x b passed is = rw passed (ap (λ (zs : List Opt). options_of zs) is ∙ options_append xs (x ∷ []))

pub kept_else : (xs ys : List Opt) (x : Opt) (b : Bool) → b ≡ false → ys ≡ xs
    → options_of ys ≡ options_of xs ++ (if b then option_of x ∷ [] else [])
kept_else xs ys x b failed is = rw failed (ap (λ (zs : List Opt). options_of zs) is ∙ sym (append-nil (options_of xs)))

stays : (bad critical : Bool) → (bad || (critical && false)) ≡ bad
stays true critical = refl
stays false true = refl
stays false false = refl

turns : (bad : Bool) → true ≡ (bad || true)
turns true = refl
turns false = refl

pub bad_then : (bad after critical b : Bool) → b ≡ true → after ≡ bad → after ≡ (bad || (critical && not b))
bad_then bad after critical b passed is = rw passed (is ∙ sym (stays bad critical))

pub bad_critical : (bad after : Bool) (number : ℕ) (b : Bool) → b ≡ false → number % 2 ≡ 1 → after ≡ true
    → after ≡ (bad || ((number % 2 == 1) && not b))
bad_critical bad after number b failed odd is = let test : (number % 2 == 1)
    ≡ true = search arith in rw (failed, test) (is ∙ turns bad)

pub bad_elective : (bad after : Bool) (number : ℕ) (b : Bool) → b ≡ false → number % 2 ≢ 1 → after ≡ bad
    → after ≡ (bad || ((number % 2 == 1) && not b))
bad_elective bad after number b failed even is = let test : (number % 2 == 1)
    ≡ false = search arith in rw (failed, test) (is ∙ sym (or_false bad))
