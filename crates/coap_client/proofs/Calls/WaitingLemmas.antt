-- What waits at a client, as its operations.
use Rattle.std.proofs.Common.{◌≡◌, ℕ, List, [], ◌∷◌, ◌++◌, filter, length, map, refl, ap, ◌∙◌, arith, suc}
use Rattle.std.specs.Prelude.{◌==◌, ◌||◌, ◌+◌, IfOk, Result, Ok, Err}
use Rattle.std.specs.List.{list_any}
use Rattle.std.proofs.lemmas.List.Folds.{list_any-append}
use Rattle.std.proofs.lemmas.List.{length-append}
use Rattle.std.proofs.lemmas.List.Elements.{filter-append}
use Rattle.coap_operations.specs.declared.queued.Queued.{Queued}
use Rattle.coap_operations.specs.declared.queued.Queued.TheVariants.{Starts, Cancels}
use Rattle.coap_operations.specs.Listed.{is_cancel}
use Rattle.coap_client.specs.Own.{Operation}
use Rattle.coap_client.specs.Observations.{is_cancel_of}
use Rattle.coap_client.specs.Queue.{is_registration}
use Rattle.coap_client.specs.declared.client.operation.Observation as B
use Rattle.coap_client.specs.declared.client.operation.Waiting.{Waiting}
use Rattle.coap_client.specs.declared.client.operation.Waiting.TheVariants as waiting
use Rattle.coap_client.specs.Object.Shown.{shown_observation, shown_queued}

-- of what an Ok has

pub if_map : {X Y : Type 0} {P Q : X → Type 0} (r : Result X Y) → ((x : X) → P x → Q x) → IfOk r P → IfOk r Q
if_map (Ok x) f h = f x h
if_map (Err y) f h = tt

pub if_all : {X Y Z : Type 0} (P : Z → X → Type 0) (r : Result X Y) → ((z : Z) → IfOk r (P z))
    → IfOk r (λ x. (z : Z) → P z x)
if_all P (Ok x) h = h
if_all P (Err y) h = tt

length_map : {X Y : Type 0} (f : X → Y) (xs : List X) → length (map f xs) ≡ length xs
length_map f [] = refl
length_map f (x ∷ xs) = ap suc (length_map f xs)

module _ {A : Type 0} where
  -- the registrations that run, wait and are live
  pub observed_is : (running : List Operation) (q : List (Queued (Waiting A))) (os : List (B.Observation A))
      → length (filter is_registration running) + length (filter is_registration (map shown_queued q)) + length os
      ≡ length (filter is_registration (running ++ map shown_queued q)) + length (map shown_observation os)
  observed_is running q os =
      let e = ap length (filter-append is_registration running (map shown_queued q))
      ∙ length-append (filter is_registration running) (filter is_registration (map shown_queued q)) in
      let l = length_map (shown_observation {A = A}) os in
      grind (arith, e, l)

  -- a cancel waits by its key
  pub cancels_wait : (number : ℕ) (q : List (Queued (Waiting A)))
      → list_any (is_cancel_of number) (map shown_queued q) ≡ list_any (is_cancel number) q
  cancels_wait number [] = refl
  cancels_wait number (Starts (waiting.Calling n c) ∷ q) = cancels_wait number q
  cancels_wait number (Starts (waiting.Registering n p) ∷ q) = cancels_wait number q
  cancels_wait number (Cancels n ∷ q) = ap (λ b. (n == number) || b) (cancels_wait number q)

  -- .. or runs
  pub cancels_are : (number : ℕ) (running : List Operation) (q : List (Queued (Waiting A)))
      → list_any (is_cancel_of number) (running ++ map shown_queued q)
      ≡ (list_any (is_cancel_of number) running || list_any (is_cancel number) q)
  cancels_are number running q =
      list_any-append (is_cancel_of number) running (map shown_queued q)
      ∙ ap (λ b. list_any (is_cancel_of number) running || b) (cancels_wait number q)
