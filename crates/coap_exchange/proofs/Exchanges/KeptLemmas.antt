-- Which tokens are kept after one is kept, and after one is released.
use Rattle.std.proofs.Common.{◌≡◌, ℕ, nat_lt, Bool, true, false, List, [], ◌∷◌, ◌++◌, length, refl, ap, sym, subst, ◌∙◌}
use Rattle.std.proofs.Common.{◌&&◌, ◌||◌, not, cond}
use Rattle.std.proofs.lemmas.Map.Views.{any-filter_same}
use Rattle.std.proofs.lemmas.List.Folds.{list_any-append}
use Rattle.coap_exchange.specs.Tokens.{same_token, is_kept, max_kept, may_keep, kept_with, kept_without}
use Rattle.coap_exchange.proofs.Facts.SameToken.{same_token_is}
use Rattle.std.proofs.Math.Bool.{or-false as or_false}

pub without_is : (t token : List ℕ) (kept : List (List ℕ))
    → is_kept token (kept_without t kept) ≡ (not (same_token t token) && is_kept token kept)
without_is t token kept = any-filter_same (same_token token) (λ other. not (same_token t other))
    (not (same_token t token)) (λ k h. ap (λ x. not (same_token t x)) (sym (same_token_is token k h))) kept

or_implied : (a b : Bool) → (b ≡ true → a ≡ true) → a ≡ (a || b)
or_implied false true f = absurd (cc (f refl))
or_implied _ _ f = refl

kept_or : (t token : List ℕ) (kept : List (List ℕ)) → is_kept t kept ≡ true
    → is_kept token kept ≡ (is_kept token kept || same_token token t)
kept_or t token kept h = or_implied _ _ (λ same. subst (λ x. is_kept x kept ≡ true)
    (sym (same_token_is token t same)) h)

with_by : (t token : List ℕ) (kept : List (List ℕ)) (b r : Bool) → is_kept t kept ≡ b
    → nat_lt (length kept) max_kept ≡ r
    → is_kept token (cond b kept (cond r (kept ++ t ∷ []) kept))
    ≡ (is_kept token kept || ((b || r) && same_token token t))
with_by t token kept true r h k = kept_or t token kept h
with_by t token kept false true h k = list_any-append (same_token token) kept (t ∷ [])
    ∙ ap (λ b. is_kept token kept || b) (or_false (same_token token t))
with_by t token kept false false h k = sym (or_false _)

pub with_is : (t token : List ℕ) (kept : List (List ℕ))
    → is_kept token (kept_with t kept) ≡ (is_kept token kept || (may_keep t kept && same_token token t))
with_is t token kept = with_by t token kept (is_kept t kept) (nat_lt (length kept) max_kept) refl refl
