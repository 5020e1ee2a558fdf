-- An object above another: where each of its calls does the same renamed, all do.
use Rattle.std.proofs.Common.{◌≡◌, List, [], ◌∷◌, ◌++◌, map, refl, ap, ap₂, sym, subst, ◌∙◌}
use Rattle.std.proofs.lemmas.List.{map-append}
use Rattle.coap_exchange.specs.Above.{sum_of, asked_by, Rows, State, Step, Chain}

module _ {Own Call : Type 0} (own : Own → Own) (call : Call → Call) (after : Own → Call → Own)
    (after_same : (s : Own) (c : Call) → after (own s) (call c) ≡ own (after s c)) (start other : Own)
    (begins : other ≡ own start) where
  pub sum_same : (t : List Call) → sum_of other after (map call t) ≡ own (sum_of start after t)
  sum_same [] = begins
  sum_same (c ∷ t) = ap (λ s. after s (call c)) (sum_same t) ∙ after_same (sum_of start after t) c

  pub asked_same : {Below : Type 0} (below : Below → Below) (lower : Own → Call → List Below)
      → ((s : Own) (c : Call) → lower (own s) (call c) ≡ map below (lower s c)) → (t : List Call)
      → asked_by other after lower (map call t) ≡ map below (asked_by start after lower t)
  asked_same below lower h [] = refl
  asked_same below lower h (c ∷ t) =
      ap₂ (λ xs ys. xs ++ ys)
      (ap (λ s. lower s (call c)) (sum_same t) ∙ h (sum_of start after t) c)
      (asked_same below lower h t)
      ∙ sym (map-append below (lower (sum_of start after t) c) (asked_by start after lower t))

  pub rows_same : (IsRight : Own → Call → Type 0)
      → ((s : Own) (c : Call) → IsRight s c → IsRight (own s) (call c)) → (t : List Call)
      → Rows start after IsRight t → Rows other after IsRight (map call t)
  rows_same IsRight h [] rows = tt
  rows_same IsRight h (c ∷ t) rows = (
    subst (λ s. IsRight s (call c)) (sym (sum_same t)) (h (sum_of start after t) c rows.0),
    rows_same IsRight h t rows.1,
  )

-- .. and one call makes of a state what it makes of the renamed one
module _ {Own Call Below Layer : Type 0} (own : Own → Own) (call : Call → Call) (below : Below → Below)
    (layer : Layer → Layer) (IsRight : Own → Call → Type 0) (after : Own → Call → Own)
    (lower : Own → Call → List Below) (Steps : Layer → List Below → Layer → Type 0)
    (after_same : (s : Own) (c : Call) → after (own s) (call c) ≡ own (after s c))
    (lower_same : (s : Own) (c : Call) → lower (own s) (call c) ≡ map below (lower s c))
    (right_same : (s : Own) (c : Call) → IsRight s c → IsRight (own s) (call c))
    (steps_same : (old new : Layer) (bs : List Below) → Steps old bs new → Steps (layer old) (map below bs) (layer new))
  where
    abbrev pub both : State Own Layer → State Own Layer
    both s = record { own = own s.own; layer = layer s.layer }

    pub step_same : (old new : State Own Layer) (c : Call) → Step IsRight after lower Steps old c new
        → Step IsRight after lower Steps (both old) (call c) (both new)
    step_same old new c h = record {
      right = right_same old.own c h.right;
      own_is = ap own h.own_is ∙ sym (after_same old.own c);
      under = subst (λ (bs : List Below). Steps (layer old.layer) bs (layer new.layer)) (sym (lower_same old.own c))
          (steps_same old.layer new.layer (lower old.own c) h.under);
    }

    pub chain_same : (old new : State Own Layer) (calls : List Call) → Chain IsRight after lower Steps old calls new
        → Chain IsRight after lower Steps (both old) (map call calls) (both new)
    chain_same old new [] h = ap both h
    chain_same old new (c ∷ earlier) h =
        (both h.0, chain_same old h.0 earlier h.1, step_same h.0 new c h.2)
