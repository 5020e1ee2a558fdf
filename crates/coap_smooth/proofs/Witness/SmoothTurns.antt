-- How the record of a run is shown to be smooth, and to have no observation.
use Rattle.std.proofs.Common.{◌≡◌, ◌<◌, ◌≤◌, ◌⊎◌, ◌+◌, inl, inr, ⊎_elim, ℕ, Bool, true, false, Option, List, []}
use Rattle.std.proofs.Common.{◌∷◌, length, ap, arith, subst, cond, Ok, Err}
use Rattle.coap_types.specs.Past.{Sometime, Always, all_of}
use Rattle.coap_layer.specs.Machine.State.{usual}
use Rattle.coap_client.specs.Trace as C
use Rattle.coap_record.specs.Record.{Given, Turn, given_in}
use Rattle.coap_smooth.specs.Smooth.{max_age, is_then, count_came, FewCome, WasDelivered, NoneIsLate}
use Rattle.coap_smooth.specs.Smooth.{TakesNoObservation}
use Rattle.coap_record.specs.Events.{usual_addresses}

-- each datagram is young, or was delivered
late_of : (past : List Turn) (at : ℕ) (gs : List Given)
    → Always (λ before (g : Given). (at ≤ g.at + max_age) ⊎ WasDelivered (length before) past) gs
    → (number : ℕ) (g : Given) → Sometime (λ before h. (h ≡ g) × (length before ≡ number)) gs → g.at + max_age < at
    → WasDelivered number past
late_of past at [] all number g h late = absurd h
late_of past at (h ∷ gs) all number g (inl is) late = ⊎_elim
    (λ young. let same : h.at ≡ g.at = ap (λ (x : Given). x.at) is.0 in absurd (omega (arith, young, late, same)))
    (λ d. subst (λ (k : ℕ). WasDelivered k past) is.1 d) all.0
late_of past at (h ∷ gs) all number g (inr before) late = late_of past at gs all.1 number g before late

pub none_late : (past : List Turn) (at : ℕ)
    → Always (λ before (g : Given). (at ≤ g.at + max_age) ⊎ WasDelivered (length before) past)
    (all_of (given_in usual_addresses) past)
    → NoneIsLate usual_addresses past at
none_late past at all number g is to late = late_of past at (all_of (given_in usual_addresses) past) all number g is
    late

-- fewer come than there are calls
one_more : (b : Bool) (n k : ℕ) → n ≤ k → cond b (1 + n) n ≤ k + 1
one_more true n k le = omega (arith, le)
one_more false n k le = omega (arith, le)

at_most : {X : Type 0} (came : X → Option ℕ) (since : ℕ) (calls : List X) → count_came came since calls ≤ length calls
at_most came since [] = omega arith
at_most came since (c ∷ past) =
    let k = one_more (is_then since (came c)) _ _ (at_most came since past) in
    let n : length (c ∷ past) ≡ length past + 1 = omega arith in
    omega (arith, k, n)

-- with as many that are remembered as where nothing else is chosen
pub few_of : {X : Type 0} (word : ℕ) (came : X → Option ℕ) (calls : List X) → length calls < 4096
    → FewCome (usual word) came calls
few_of word came calls few since =
    let k = at_most came since calls in
    let less : count_came came since calls < 4096 = omega (arith, k, few) in (less, less)

-- no observation is taken
abbrev pub observes : List C.Call → Bool
observes [] = false
observes (C.Observes now path (Ok number) ∷ past) = true
observes (c ∷ past) = observes past

pub none_taken : (calls : List C.Call) → observes calls ≡ false → Always (λ past c. TakesNoObservation c) calls
none_taken [] h = tt
none_taken (C.Observes now path (Ok number) ∷ past) h = absurd (cc h)
none_taken (C.Observes now path (Err why) ∷ past) h = (tt, none_taken past h)
none_taken (c ∷ past) h = (tt, none_taken past h)
