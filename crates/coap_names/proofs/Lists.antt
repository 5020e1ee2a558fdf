-- The tables as lists.
use Rattle.std.proofs.Common.{◌≡◌, ◌+◌, ◌-◌, ◌≤◌, suc, Bool, true, false, List, [], ◌∷◌, length, take, Option, Some}
use Rattle.std.proofs.Common.{None, refl, sym, ap, ◌∙◌, arith, slice_get, is_some}
use Rattle.std.specs.Option.{option_map_or}
use Rattle.std.specs.Map.{lookup, lookup_entry, remove_entry}
use Rattle.std.proofs.lemmas.List.{take_all}
use Rattle.lru.specs.LruCache.{LruCache, put_entries}

module _ {K V : Type 0} where
  pub no_entry : (test : K → Bool) (es : List (K × V)) → lookup test es ≡ None → lookup_entry test es ≡ None
  no_entry test [] h = refl
  no_entry test (e ∷ es) h = (elim (test e.0) as (λ b. test e.0 ≡ b → lookup_entry test (e ∷ es) ≡ None) [
    | true ↦ λ t. absurd (let h' = rw t at h in cc)
    | false ↦ λ t. rw t (no_entry test es (rw t at h))
  ]) refl

  -- a key that is new goes first
  pub put_new : (eq : K → K → Bool) (c : LruCache K V) (k : K) (v : V) → lookup (eq k) c.entries ≡ None
      → length c.entries ≤ c.cap - 1 → put_entries eq c k v ≡ (k, v) ∷ c.entries
  put_new eq c k v h fits =
      ap (λ (o : Option (K × V)). option_map_or (λ e. (e.0, v) ∷ remove_entry (eq k) c.entries) o
      ((k, v) ∷ take (c.cap - 1) c.entries)) (no_entry (eq k) c.entries h)
      ∙ ap (λ l. (k, v) ∷ l) (take_all (c.cap - 1) c.entries fits)

module _ {X : Type 0} where
  -- the last of a list with one more in front
  pub last_behind : (x gone : X) (es : List X) → slice_get es (length es - 1) ≡ Some gone
      → (slice_get (x ∷ es) (length (x ∷ es) - 1) ≡ Some gone)
      × (take (length (x ∷ es) - 1) (x ∷ es) ≡ x ∷ take (length es - 1) es)
  last_behind x gone [] h = absurd cc
  last_behind x gone (y ∷ ys) h =
      let n : length (x ∷ y ∷ ys) - 1 ≡ suc (length ys) = omega arith in
      let m : length (y ∷ ys) - 1 ≡ length ys = omega arith in (
        ap (slice_get (x ∷ y ∷ ys)) n ∙ (ap (slice_get (y ∷ ys)) (sym m) ∙ h),
        ap (λ k. take k (x ∷ y ∷ ys)) n ∙ ap (λ k. x ∷ take k (y ∷ ys)) (sym m),
      )

-- a list without an entry that was there is one shorter
pub length-removed : {K V : Type 0} (test : K → Bool) (es : List (K × V)) (v : V) → lookup test es ≡ Some v
    → length (remove_entry test es) + 1 ≡ length es
length-removed test [] v h = absurd cc
length-removed test (e ∷ es) v h = (elim (test e.0) as (λ b. test e.0 ≡ b
    → length (remove_entry test (e ∷ es)) + 1 ≡ length (e ∷ es)) [
      | true ↦ λ t. rw t (omega arith)
      | false ↦ λ t. let on = length-removed test es v (rw t at h) in rw t (omega arith)
    ]) refl

pub some_of : {X : Type 0} (o : Option X) → is_some o ≡ true → (x : X) × (o ≡ Some x)
some_of None h = absurd cc
some_of (Some x) h = (x, refl)
