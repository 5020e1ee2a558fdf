-- What the proofs of several parts of the program use.
use Rattle.std.proofs.Common.{◌≡◌, ◌∙◌, ◌++◌, ◌∷◌, [], ◌+◌, ◌<◌, ℕ, List, Option, Some, None, IfNone, ap, sym}
use Rattle.std.proofs.Common.{subst}
use Rattle.std.proofs.Common.{get_or, length, map, take}
use Rattle.std.specs.Io.KnownBytes.{Appends}
use Rattle.std.proofs.lemmas.List.{append-nil, append_assoc, map-append, take_more}
use Rattle.std.proofs.Common.{IfSome}

pub nothing_written : (known : Option (List ℕ)) → Appends known known []
nothing_written None = tt
nothing_written (Some xs) = sym (append-nil xs)

pub written_on : (old mid new : Option (List ℕ)) (xs ys : List ℕ) → Appends old mid xs → Appends mid new ys
    → Appends old new (xs ++ ys)
written_on None mid new xs ys h k = tt
written_on (Some a) None new xs ys h k = absurd h
written_on (Some a) (Some b) None xs ys h k = absurd k
written_on (Some a) (Some b) (Some c) xs ys h k = k ∙ ap (λ l. l ++ ys) h ∙ append_assoc a xs ys

-- one thing more is seen
pub seen_more : {X Y : Type 0} (view : X → Y) (xs : List X) (i : ℕ) (x : X) → x ≡ get_or xs i x → i < length xs
    → map view (take (i + 1) xs) ≡ map view (take i xs) ++ view x ∷ []
seen_more view xs i x is lt =
    ap (map view) (take_more xs i x lt ∙ ap (λ y. take i xs ++ y ∷ []) (sym is)) ∙ map-append view (take i xs) (x ∷ [])

pub some_is : {X : Type 0} (P : X → Type 0) (o : Option X) (x : X) → IfSome o P → o ≡ Some x → P x
some_is P o x h is = subst (λ a. IfSome a P) is h

pub none_is : {X : Type 0} (P : Type 0) (o : Option X) → IfNone o P → o ≡ None → P
none_is P None h is = h
none_is P (Some x) h is = cc
