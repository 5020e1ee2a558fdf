-- Texts that name no more paths than a server takes: each is one of a path, and the first of them name no more.
use Rattle.std.proofs.Common.{◌≡◌, ◌<◌, ◌≤◌, ◌++◌, ◌∷◌, [], ℕ, Bool, true, false, cond, List, length, arith, ap}
use Rattle.std.proofs.Common.{subst, zero, suc, slice_index_or, length-append}
use Rattle.clap.specs.Words.{Row, Text}
use Rattle.coap_types.specs.Path.{HoldsAtMost}
use Rattle.coap_types.specs.declared.path.PathRefusal.{PathRefusal}
use Rattle.coap_types.specs.declared.path.TheConstants.{MAX_SEGMENT_LEN as max_segment_len}
use Rattle.coap_types.specs.declared.path.TheConstants.{MAX_SEGMENTS as max_segments}
use Rattle.coap_arguments.specs.PathText.{IsPathText, without_leading_slash}
use Rattle.coap_arguments.specs.Plains.{HasNoPlain, HasPlains, HasTooManyPlains, Names, is_among, plain_texts}
use Rattle.coap_arguments.specs.Plains.{with_path}
use Rattle.coap_arguments.proofs.Facts.PathTexts.{one_path}

no_fewer : (path : List (List ℕ)) (paths : List (List (List ℕ))) → length paths ≤ length (with_path path paths)
no_fewer path paths = go (is_among path paths)
  where
    go : (b : Bool) → length paths ≤ length (cond b paths (paths ++ path ∷ []))
    go true = omega arith
    go false = grind (arith, length-append)

grows : (known : List (List (List ℕ))) (texts : List Text) (paths : List (List (List ℕ))) → Names known texts paths
    → length known ≤ length paths
grows known [] paths named =
    let same : length paths ≡ length known = ap length named in omega (arith, same)
grows known (text ∷ texts) paths named =
    let more = grows (with_path named.0 known) texts paths named.3 in
    let one = no_fewer named.0 known in
    omega (arith, more, one)

first_name_fewer : (known : List (List (List ℕ))) (first rest : List Text) (paths some : List (List (List ℕ)))
    → Names known (first ++ rest) paths → Names known first some → length some ≤ length paths
first_name_fewer known [] rest paths some all part =
    let same : length some ≡ length known = ap length part in
    let more = grows known rest paths all in
    omega (arith, same, more)
first_name_fewer known (text ∷ texts) rest paths some all part =
    let same : all.0 ≡ part.0 = one_path (without_leading_slash text) all.0 part.0 all.1 part.1 in
    first_name_fewer (with_path part.0 known) texts rest paths some
    (subst (λ (p : List (List ℕ)). Names (with_path p known) (texts ++ rest) paths) same all.3) part.3

path_at : (known : List (List (List ℕ))) (texts : List Text) (paths : List (List (List ℕ))) (k : ℕ) (x : Text)
    → Names known texts paths → k < length texts → slice_index_or texts k x ≡ x
    → (path : List (List ℕ)) × IsPathText x path × HoldsAtMost max_segments max_segment_len path
path_at known [] paths k x named lt is = absurd (omega (arith, lt))
path_at known (text ∷ texts) paths zero x named lt is =
    (named.0, subst (λ (t : Text). IsPathText t named.0) is named.1, named.2)
path_at known (text ∷ texts) paths (suc k) x named lt is =
    path_at (with_path named.0 known) texts paths k x named.3 (omega (arith, lt)) is

pub not_too_many : (values : List Row) (paths : List (List (List ℕ))) → HasPlains values paths
    → HasTooManyPlains values → ⊥
not_too_many values paths has many =
    let all = subst (λ (texts : List Text). Names [] texts paths) many.3 has.0 in
    let fewer = first_name_fewer [] many.0 many.1 paths many.2 all many.4 in
    omega (arith, fewer, has.1, many.5)

pub each_is_one : (values : List Row) (paths : List (List (List ℕ))) (why : PathRefusal) → HasPlains values paths
    → HasNoPlain values why → ⊥
each_is_one values paths why has none =
    let path = path_at [] (plain_texts values) paths none.0 none.1 has.0 none.2 none.3 in
    none.4.0 path.0 path.1 path.2
