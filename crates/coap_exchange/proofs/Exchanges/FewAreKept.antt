-- At most 16 tokens are kept: those that were kept and not released since.
use Rattle.std.proofs.Common.{◌≡◌, ◌≤◌, ◌+◌, ℕ, nat_lt, Bool, true, false, List, [], ◌∷◌, ◌++◌, length, refl, sym}
use Rattle.std.proofs.Common.{subst, arith, not, cond}
use Rattle.std.proofs.lemmas.List.Filters.{length-filter_both}
use Rattle.coap_types.specs.declared.endpoint.Endpoint.{Endpoint}
use Rattle.std.proofs.lemmas.Bool.{ltb-true}
use Rattle.coap_exchange.specs.AskerTrace.{Own, Call, Ask, Keep, Release}
use Rattle.coap_exchange.specs.AskerSteps.{after}
use Rattle.coap_exchange.specs.AskerRequests.{opening_of, sent_as}
use Rattle.coap_exchange.specs.AskerLaw.{own_of, AskerLaw}
use Rattle.coap_exchange.specs.AskerFollows.{FewKept}
use Rattle.coap_exchange.specs.Tokens.{same_token, is_kept, max_kept, kept_without}
use Rattle.coap_exchange.proofs.Exchanges.OneAtATime.{known, opened_kept}
use Rattle.coap_layer.specs.declared.setup.Setup.{Setup}

length_with : (kept : List (List ℕ)) (token : List ℕ) → length (kept ++ token ∷ []) ≡ length kept + 1
length_with [] token = refl
length_with (k ∷ kept) token = let h = length_with kept token in omega (arith, h)

few_with : (token : List ℕ) (kept : List (List ℕ)) (b r : Bool) → nat_lt (length kept) max_kept ≡ r
    → length kept ≤ max_kept → length (cond b kept (cond r (kept ++ token ∷ []) kept)) ≤ max_kept
few_with token kept false true h few = let l = length_with kept token in let lt =
    ltb-true (length kept) max_kept h in omega (arith, l, lt)
few_with token kept _ _ h few = few

few_without : (token : List ℕ) (kept : List (List ℕ)) → length kept ≤ max_kept
    → length (kept_without token kept) ≤ max_kept
few_without token kept few = let both = length-filter_both (λ other. not (same_token token other))
    (λ other. not (not (same_token token other))) (λ other. refl) kept in omega (arith, both, few)

few_next : (s : Own) (c : Call) → length s.kept ≤ max_kept → length (after s c).kept ≤ max_kept
few_next s (Ask now r word below answer) few =
    subst (λ kept. length kept ≤ max_kept) (sym (opened_kept s r (sent_as (opening_of s r) below))) few
few_next s (Keep token answer) few = few_with token s.kept (is_kept token s.kept)
    (nat_lt (length s.kept) max_kept) refl few
few_next s (Release token answer) few = few_without token s.kept few
few_next s _ few = few

few_in : (server : Endpoint) (setup : Setup) (t : List Call) → length (own_of server setup t).kept ≤ max_kept
few_in server setup [] = omega arith
few_in server setup (c ∷ t) = few_next (own_of server setup t) c (few_in server setup t)

pub few_kept : (server : Endpoint) (setup : Setup) (t : List Call) → AskerLaw server setup t → FewKept server setup t
few_kept server setup t law =
    let keeps = (known server setup t law).1.keeps_them in
    record { few = few_in server setup t; are = λ token. (keeps.held token, keeps.holds token) }
