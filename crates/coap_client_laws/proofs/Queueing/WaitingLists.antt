-- Lists of what waits, of the operations of a queue.
use Rattle.std.proofs.Common.{◌≡◌, ℕ, Bool, true, false, cond, not, ◌==◌, Some, List, [], ◌∷◌, ◌++◌, refl, ap, sym, ◌∙◌}
use Rattle.std.proofs.Common.{arith, append_assoc}
use Rattle.std.specs.Prelude.{length, option_to_list}
use Rattle.coap_client.specs.Own.{Operation, Calling, Registering, Fetching, Cancelling, Dropped, Observation}
use Rattle.coap_client.specs.Places.{in_observations}
use Rattle.coap_client.proofs.Facts.Places.PlaceEffects.{Waits, AllWait}
use Rattle.coap_client.proofs.Facts.Places.PlaceLemmas.{same_number}
use Rattle.coap_client_laws.specs.Follows.Taken.{Waiting, ACall, ARegistration, ACancel, waiting_of, without}
use Rattle.coap_client_laws.proofs.Queueing.Queued.{uncancelled}

abbrev pub waits : List Operation → List Waiting
waits [] = []
waits (op ∷ ops) = option_to_list (waiting_of op) ++ waits ops

pub waits_append : (a b : List Operation) → waits (a ++ b) ≡ waits a ++ waits b
waits_append [] b = refl
waits_append (op ∷ a) b = ap (λ z. option_to_list (waiting_of op) ++ z) (waits_append a b)
    ∙ sym (append_assoc (option_to_list (waiting_of op)) (waits a) (waits b))

pub waits_without : (k : ℕ) (ops : List Operation) → waits (uncancelled k ops) ≡ without (Some k) (waits ops)
waits_without k [] = refl
waits_without k (Calling n r t ∷ ops) = ap (λ z. ACall n ∷ z) (waits_without k ops)
waits_without k (Registering n path ∷ ops) = ap (λ z. ARegistration n ∷ z) (waits_without k ops)
waits_without k (Fetching n ∷ ops) = waits_without k ops
waits_without k (Dropped ∷ ops) = waits_without k ops
waits_without k (Cancelling n ∷ ops) = by (n == k) (waits_without k ops)
  where
    by : (b : Bool) → waits (uncancelled k ops) ≡ without (Some k) (waits ops)
        → waits (cond (not b) (Cancelling n ∷ uncancelled k ops) (uncancelled k ops))
        ≡ cond (not b) (ACancel n ∷ without (Some k) (waits ops)) (without (Some k) (waits ops))
    by true h = h
    by false h = ap (λ z. ACancel n ∷ z) h

-- no cancel waits of what is no live observation
pub none_cancelled : (k : ℕ) (os : List Observation) (ops : List Operation) → in_observations k os ≡ 0 → AllWait os ops
    → without (Some k) (waits ops) ≡ waits ops
none_cancelled k os [] none h = refl
none_cancelled k os (Calling n r t ∷ ops) none h = ap (λ z. ACall n ∷ z) (none_cancelled k os ops none h.1)
none_cancelled k os (Registering n path ∷ ops) none h = ap (λ z. ARegistration n ∷ z) (none_cancelled k os ops none h.1)
none_cancelled k os (Fetching n ∷ ops) none h = absurd h.0
none_cancelled k os (Dropped ∷ ops) none h = absurd h.0
none_cancelled k os (Cancelling n ∷ ops) none h = by (n == k) refl (none_cancelled k os ops none h.1)
  where
    by : (b : Bool) → (n == k) ≡ b → without (Some k) (waits ops) ≡ waits ops
        → cond (not b) (ACancel n ∷ without (Some k) (waits ops)) (without (Some k) (waits ops)) ≡ ACancel n ∷ waits ops
    by true e ih = let there = h.0 in let same =
        ap (λ i. in_observations i os) (same_number n k e) in absurd (omega (arith, there, same, none))
    by false e ih = ap (λ z. ACancel n ∷ z) ih

pub waits_length : (os : List Observation) (ops : List Operation) → AllWait os ops → length (waits ops) ≡ length ops
waits_length os [] h = refl
waits_length os (Calling n r t ∷ ops) h = let e = waits_length os ops h.1 in omega (arith, e)
waits_length os (Registering n path ∷ ops) h = let e = waits_length os ops h.1 in omega (arith, e)
waits_length os (Cancelling n ∷ ops) h = let e = waits_length os ops h.1 in omega (arith, e)
waits_length os (Fetching n ∷ ops) h = absurd h.0
waits_length os (Dropped ∷ ops) h = absurd h.0

pub waits_some : (os : List Observation) (op : Operation) → Waits os op → (w : Waiting) × (waiting_of op ≡ Some w)
waits_some os (Calling n r t) h = (ACall n, refl)
waits_some os (Registering n path) h = (ARegistration n, refl)
waits_some os (Cancelling n) h = (ACancel n, refl)
waits_some os _ h = absurd h
