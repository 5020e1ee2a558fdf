-- At which event of a run of many an event of the view stands.
use Rattle.std.proofs.Common.{◌≡◌, ◌⊎◌, inl, inr, ⊎_elim, ◌≤◌, ◌<◌, ℕ, nat_le, Bool, true, false, List, [], ◌∷◌, ◌++◌}
use Rattle.std.proofs.Common.{length}
use Rattle.std.proofs.Common.{length-append, refl, ap, ◌∙◌, arith, if◌then◌else◌}
use Rattle.std.proofs.lemmas.Bool.{le-leb, leb-true, cases_lt}
use Rattle.coap_types.specs.declared.endpoint.Endpoint.{Endpoint}
use Rattle.coap_record.specs.Record as W
use Rattle.coap_many.specs.Clients.{Config}
use Rattle.coap_many.specs.Entries.{Turn}
use Rattle.coap_many.specs.Place.{place}
use Rattle.coap_many.specs.View.{view, view_what, view_turn}

not_le : (a b : ℕ) → b < a → nat_le a b ≡ false
not_le a b less = by (nat_le a b) refl
  where
    by : (w : Bool) → nat_le a b ≡ w → w ≡ false
    by true e = let k = leb-true a b e in absurd (omega (arith, k, less))
    by false e = refl

module _ (config : Config) (me : Endpoint) where
  pub here : (t : Turn) (past : List Turn) (n : ℕ) → length (view config me past) ≤ n → place config me (t ∷ past) n
      ≡ length past
  here t past n le = ap (λ b. if b then length past else place config me past n)
      (le-leb (length (view config me past)) n le)

  pub before : (t : Turn) (past : List Turn) (n : ℕ) → n < length (view config me past) → place config me (t ∷ past) n
      ≡ place config me past n
  before t past n less = ap (λ b. if b then length past else place config me past n)
      (not_le (length (view config me past)) n less)

  pub till : (turns : List Turn) (n : ℕ) → place config me turns n ≤ length turns
  till [] n = omega arith
  till (t ∷ past) n = ⊎_elim
      (λ less. let k = before t past n less in let r = till past n in omega (arith, k, r))
      (λ le. let k = here t past n le in omega (arith, k)) (cases_lt n (length (view config me past)))

  pub rises : (turns : List Turn) (i j : ℕ) → i ≤ j → place config me turns i ≤ place config me turns j
  rises [] i j le = omega arith
  rises (t ∷ past) i j le = by (rises past i j le) (cases_lt i (length (view config me past)))
      (cases_lt j (length (view config me past)))
    where
      by : place config me past i ≤ place config me past j → (i < length (view config me past))
          ⊎ (length (view config me past) ≤ i)
          → (j < length (view config me past)) ⊎ (length (view config me past) ≤ j)
          → place config me (t ∷ past) i ≤ place config me (t ∷ past) j
      by r (inl early) (inl soon) =
          let a = before t past i early in let b = before t past j soon in omega (arith, a, b, r)
      by r (inl early) (inr late) =
          let a = before t past i early in let b = here t past j late in
          let k = till past i in omega (arith, a, b, k)
      by r (inr behind) q =
          let a = here t past i behind in let b = here t past j (omega (arith, behind, le)) in omega (arith, a, b)

  pub grows : (t : Turn) (past : List Turn) → length (view config me past) ≤ length (view config me (t ∷ past))
  grows t past =
      let e = length-append (view_turn me t (view_what config me past t.event.what)) (view config me past) in
      omega (arith, e)

  -- the same events of the view stand at the same events of the whole run
  module _ (whole : List Turn) where
    abbrev pub Same : List Turn → Type 0
    Same turns = (n : ℕ) → n < length (view config me turns) → place config me whole n ≡ place config me turns n

    pub same_before : (t : Turn) (past : List Turn) → Same (t ∷ past) → Same past
    same_before t past same n less =
        let g = grows t past in same n (omega (arith, less, g)) ∙ before t past n less

    -- one that is seen stands at its own event
    pub stands : (t : Turn) (past : List Turn) (turn : W.Turn) → view config me (t ∷ past) ≡ turn ∷ view config me past
        → Same (t ∷ past) → place config me whole (length (view config me past)) ≡ length past
    stands t past turn is same =
        let e = ap length is in
        same (length (view config me past)) (omega (arith, e))
        ∙ here t past (length (view config me past)) (omega arith)
