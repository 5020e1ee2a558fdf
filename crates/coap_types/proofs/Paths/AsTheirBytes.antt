-- Vectors of bytes are compared, ordered, cloned and hashed as their bytes are.
use Rattle.std.proofs.Common.{◌≡◌, ℕ, ◌<◌, ◌≤◌, arith, subst, length, true, false, if◌then◌else◌, Bool, ◌&&◌, ◌++◌}
use Rattle.std.proofs.Common.{List, [], ◌∷◌, refl, ap, sym, nat_eq, nat_cmp}
use Rattle.std.specs.Cmp.Lexicographic.{pointwise, slice_cmp}
use Rattle.std.specs.declared.cmp.Ordering.{Ordering}
use Rattle.std.specs.Hash as fed
use Rattle.std.specs.List.{AllZip, each_same, flat_map}
use Rattle.std.proofs.lemmas.List.{length-append, length-map}
use Rattle.std.proofs.lemmas.List.Elements.{All-append, All-cons, All-nil}
use Rattle.std.specs.Vec.{vec_len}
use Rattle.std.specs.Ordering.{ordering_then}
use Rattle.std.specs.declared.vec.Vec.{Vec}
use Rattle.coap_types.specs.Bytes.{AreBytes}
use Rattle.coap_types.specs.Path.{IsPath, segments_of, same_path, path_order}

-- two lists of vectors are equal where their bytes are
pub same_segments : {Z : Type 0} (xs ys : List (Vec ℕ Z))
    → pointwise (λ (x y : Vec ℕ Z). pointwise nat_eq x.items y.items) xs ys
    ≡ same_path (segments_of xs) (segments_of ys)
same_segments [] [] = refl
same_segments [] (y ∷ ys) = refl
same_segments (x ∷ xs) [] = refl
same_segments (x ∷ xs) (y ∷ ys) = ap (λ (b : Bool). pointwise nat_eq x.items y.items && b) (same_segments xs ys)

-- a vector at the end is its bytes at the end
pub segments_append : {Z : Type 0} (xs ys : List (Vec ℕ Z)) → segments_of (xs ++ ys) ≡ segments_of xs ++ segments_of ys
segments_append [] ys = refl
segments_append (x ∷ xs) ys = ap (λ (r : List (List ℕ)). x.items ∷ r) (segments_append xs ys)

-- two lists of vectors are ordered as their bytes are
pub same_order : {Z : Type 0} (xs ys : List (Vec ℕ Z))
    → slice_cmp (λ (x y : Vec ℕ Z). slice_cmp nat_cmp x.items y.items) xs ys
    ≡ path_order (segments_of xs) (segments_of ys)
same_order [] [] = refl
same_order [] (y ∷ ys) = refl
same_order (x ∷ xs) [] = refl
same_order (x ∷ xs) (y ∷ ys) = ap (λ (o : Ordering). ordering_then (slice_cmp nat_cmp x.items y.items) o)
    (same_order xs ys)

-- clones of vectors hold the same bytes
pub same_clones : {Z : Type 0} (xs ys : List (Vec ℕ Z))
    → AllZip (λ (v w : Vec ℕ Z). AllZip (λ (a b : ℕ). b ≡ a) v.items w.items × (vec_len w ≡ vec_len v)) xs ys
    → segments_of ys ≡ segments_of xs
same_clones [] [] same = refl
same_clones [] (y ∷ ys) same = absurd same
same_clones (x ∷ xs) [] same = absurd same
same_clones (x ∷ xs) (y ∷ ys) same = λ i. each_same x.items y.items same.0.0 i ∷ same_clones xs ys same.1 i

fed_bytes : {Z : Type 0} (xs : List (Vec ℕ Z))
    → flat_map (λ (v : Vec ℕ Z). fed.slice fed.u8 v.items) xs ≡ flat_map (fed.slice fed.u8) (segments_of xs)
fed_bytes [] = refl
fed_bytes (x ∷ xs) = ap (λ (r : fed.HashWrites). fed.slice fed.u8 x.items ++ r) (fed_bytes xs)

-- a list of vectors is hashed as its bytes are
pub same_input : {Z : Type 0} (xs : List (Vec ℕ Z))
    → fed.slice (λ (v : Vec ℕ Z). fed.slice fed.u8 v.items) xs ≡ fed.slice (fed.slice fed.u8) (segments_of xs)
same_input {Z} xs = λ i. fed.usize (sym (length-map xs (λ (v : Vec ℕ Z). v.items)) i) ++ fed_bytes xs i

abbrev is_short : List ℕ → Type 0
is_short segment = length segment ≤ 255

-- a path with a segment more, or as it was
more_path : {Z : Type 0} (vs : List (Vec ℕ Z)) (v : Vec ℕ Z) → IsPath (segments_of vs) → length vs < 16
    → length v.items ≤ 255 → AreBytes v.items
    → IsPath (segments_of (vs ++ v ∷ []))
more_path {Z} vs v p room short bytes =
    let one : List (List ℕ) = v.items ∷ [] in
    let few : length (segments_of vs ++ one) ≤ 16 = simp (length-append, length-map) (omega arith) in
    let path : IsPath (segments_of vs ++ one) =
    record {
      bounds = record {
        few = few;
        short = All-append is_short (segments_of vs) one p.bounds.short
            (All-cons is_short v.items [] short (All-nil is_short));
      };
      bytes = All-append AreBytes (segments_of vs) one p.bytes (All-cons AreBytes v.items [] bytes (All-nil AreBytes));
    } in
    subst IsPath (sym (segments_append vs (v ∷ []))) path

pub pushed_path : {Z : Type 0} (b : Bool) (vs after : List (Vec ℕ Z)) (v : Vec ℕ Z)
    → after ≡ (if b then vs ++ v ∷ [] else vs)
    → IsPath (segments_of vs) → length vs < 16 → length v.items ≤ 255 → AreBytes v.items → IsPath (segments_of after)
pushed_path true vs after v is p room short bytes = rw is (more_path vs v p room short bytes)
pushed_path false vs after v is p room short bytes = rw is p
