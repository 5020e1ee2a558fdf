-- No more paths are plain than were made so.
use Rattle.std.proofs.Common.{◌≡◌, ◌≤◌, ◌<◌, ℕ, ◌+◌, Bool, true, false, ◌||◌, nat_lt, List, [], ◌∷◌, ◌++◌, length}
use Rattle.std.proofs.Common.{refl, ap, arith, cond}
use Rattle.std.proofs.lemmas.Bool.{lt-ltb}
use Rattle.std.proofs.lemmas.List.{length-append}
use Rattle.coap_resource.specs.Limits.{Limits}
use Rattle.coap_server.specs.Law.{own_of}
use Rattle.coap_server.specs.Plain.{is_plain, may_be_plain, plains_with}
use Rattle.coap_server.specs.Trace as S
use Rattle.coap_server.specs.declared.limits.TheConstants.{MAX_PLAINS as max_plains}
use Rattle.coap_record.specs.Begins.{gives, begins_with}

-- one more path is plain, and may be

one_plain : (p : List (List ℕ)) (ps : List (List (List ℕ))) {n : ℕ} → length ps ≤ n
    → length (plains_with p true ps) ≤ n + 1
one_plain p ps {n} h = by (is_plain p ps)
  where
    by : (b : Bool) → length (cond b ps (ps ++ p ∷ [])) ≤ n + 1
    by true = omega (arith, h)
    by false = let e = length-append ps (p ∷ []) in omega (arith, h, e)

pub may_be : (p : List (List ℕ)) (ps : List (List (List ℕ))) → length ps < max_plains → may_be_plain p ps ≡ true
may_be p ps few = by (is_plain p ps)
  where
    by : (b : Bool) → (b || nat_lt (length ps) max_plains) ≡ true
    by true = refl
    by false = lt-ltb (length ps) max_plains few

module _ (limits : Limits) (szx : ℕ) where
  -- a delay makes no path plain
  none_plain : (ds : List S.Delay) → (own_of limits szx (gives ds)).plains ≡ []
  none_plain [] = refl
  none_plain (d ∷ ds) = none_plain ds

  -- no more paths are plain than were made so
  pub few_plain : (ps : List (List (List ℕ))) (ds : List S.Delay)
      → length (own_of limits szx (begins_with ps ds)).plains ≤ length ps
  few_plain [] ds = let k = ap length (none_plain ds) in omega (arith, k)
  few_plain (p ∷ ps) ds =
      let k = one_plain p (own_of limits szx (begins_with ps ds)).plains (few_plain ps ds) in omega (arith, k)
