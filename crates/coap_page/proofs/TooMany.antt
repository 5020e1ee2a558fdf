-- Paths of which one can't be made plain are too many.
use Rattle.std.proofs.Common.{◌≡◌, ◌+◌, ◌≤◌, ◌<◌, ◌∙◌, ◌++◌, ◌∷◌, ap, sym, ℕ, Bool, true, false, cond, List, [], fold}
use Rattle.std.proofs.Common.{get_or, length, take, drop, arith, refl, Result, Ok, Err}
use Rattle.std.proofs.lemmas.Bool.{or_parts}
use Rattle.std.proofs.lemmas.Bool.Decides.{nat_tests}
use Rattle.std.proofs.lemmas.List.{length-append, take-append-drop}
use Rattle.std.proofs.lemmas.List.Sums.{fold-append}
use Rattle.std.specs.Prelude.{nat_lt}
use Rattle.std.specs.Result.{IsErrAnd}
use Rattle.coap_server.specs.Plain.{is_plain, may_be_plain, plains_with}
use Rattle.coap_scripts.specs.Sims.{each_once}
use Rattle.coap_scripts.proofs.Facts.FoldedItems.{fold_item}
use Rattle.coap_server.specs.declared.server.plain.PlainRefusal.{PlainRefusal}
use Rattle.coap_server.specs.declared.server.plain.PlainRefusal.TheVariants as plain
use Rattle.coap_page.specs.Plains.{AreTooMany, of_plain}
use Rattle.coap_page.specs.declared.configured.NoConfig.{NoConfig}
use Rattle.coap_page.specs.declared.configured.NoConfig.TheVariants as config

-- a further path takes none away
no_fewer : (b : Bool) (ps : List (List (List ℕ))) (path : List (List ℕ))
    → length ps ≤ length (cond b ps (ps ++ path ∷ []))
no_fewer true ps path = omega arith
no_fewer false ps path = omega (arith, length-append ps (path ∷ []))

grows : (ps xs : List (List (List ℕ))) → length ps ≤ length (fold (λ qs path. plains_with path true qs) ps xs)
grows ps [] = omega arith
grows ps (x ∷ xs) =
    let first = no_fewer (is_plain x ps) ps x in
    let rest = grows (plains_with x true ps) xs in
    omega (arith, first, rest)

below : (n k : ℕ) → nat_lt n k ≡ false → k ≤ n
below n k is = grind (arith, nat_tests)

-- one that is not there is added
added : (b : Bool) (ps : List (List (List ℕ))) (path : List (List ℕ)) → b ≡ false
    → length (cond b ps (ps ++ path ∷ [])) ≡ length ps + 1
added b ps path is =
    ap (λ t. length (cond t ps (ps ++ path ∷ []))) is ∙ length-append ps (path ∷ [])

pub too_many : (paths : List (List (List ℕ))) (i : ℕ) (path : List (List ℕ)) → path ≡ get_or paths i path
    → i < length paths → may_be_plain path (each_once (take i paths)) ≡ false → AreTooMany paths
too_many paths i path is lt full =
    let f = λ (qs : List (List (List ℕ))) (p : List (List ℕ)). plains_with p true qs in
    let before = each_once (take i paths) in
    let parts = or_parts (is_plain path before) (nat_lt (length before) 16) full in
    let many = below (length before) 16 parts.1 in
    let one = added (is_plain path before) before path parts.0 in
    let next = ap length (fold_item f [] paths i path is lt) in
    let on = grows (each_once (take (i + 1) paths)) (drop (i + 1) paths) in
    let whole = ap length (sym (fold-append f [] (take (i + 1) paths) (drop (i + 1) paths))
    ∙ ap (fold f []) (take-append-drop (i + 1) paths)) in
    omega (arith, many, one, next, on, whole)

-- what is refused for the plain paths is a path too many
pub is_full : {T : Type 0} (r : Result T NoConfig) (e : PlainRefusal) → IsErrAnd r (λ y. y ≡ of_plain e)
    → r ≡ Err config.Plains → e ≡ plain.Full
is_full (Ok x) e of is = absurd of
is_full (Err y) plain.Full of is = refl
is_full (Err y) plain.Memory of is =
    let named : y ≡ config.Plains = cc in
    let apart : config.Memory ≡ config.Plains = sym of ∙ named in
    absurd cc
