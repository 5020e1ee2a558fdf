-- Of an object above another: calls behind others; one call more, for all its calls; and what it asks of the one
-- beneath, call by call.
use Rattle.std.proofs.Common.{◌≡◌, inl, inr, ⊎_elim, List, [], ◌∷◌, ◌++◌, refl, ap, sym, subst, ◌∙◌, append_assoc}
use Rattle.coap_types.specs.Past.{Ever, Sometime}
use Rattle.coap_types.proofs.Facts.Traces.{Ever_append, Ever_front, Ever_back}
use Rattle.coap_exchange.specs.Above.{sum_of, asked_by, Rows, State, Step, Chain, Law, Led}

-- calls behind others: what they add up to, their rows, and what they ask of the object beneath
module _ {Own Call : Type 0} (start : Own) (after : Own → Call → Own) where
  pub sum_append : (later first : List Call)
      → sum_of start after (later ++ first) ≡ sum_of (sum_of start after first) after later
  sum_append [] first = refl
  sum_append (c ∷ later) first = ap (λ s. after s c) (sum_append later first)

  pub rows_back : (IsRight : Own → Call → Type 0) (later first : List Call)
      → Rows start after IsRight (later ++ first) → Rows start after IsRight first
  rows_back IsRight [] first h = h
  rows_back IsRight (c ∷ later) first h = rows_back IsRight later first h.1

  pub rows_front : (IsRight : Own → Call → Type 0) (later first : List Call)
      → Rows start after IsRight (later ++ first) → Rows (sum_of start after first) after IsRight later
  rows_front IsRight [] first h = tt
  rows_front IsRight (c ∷ later) first h =
      (subst (λ s. IsRight s c) (sum_append later first) h.0, rows_front IsRight later first h.1)

  pub asked_append : {Below : Type 0} (lower : Own → Call → List Below) (later first : List Call)
      → asked_by start after lower (later ++ first)
      ≡ asked_by (sum_of start after first) after lower later ++ asked_by start after lower first
  asked_append lower [] first = refl
  asked_append lower (c ∷ later) first =
      ap (λ s. lower s c ++ asked_by start after lower (later ++ first)) (sum_append later first)
      ∙ (ap (λ xs. lower (sum_of (sum_of start after first) after later) c ++ xs) (asked_append lower later first)
      ∙ sym (append_assoc (lower (sum_of (sum_of start after first) after later) c)
      (asked_by (sum_of start after first) after lower later) (asked_by start after lower first)))

module _ {Own Call Below Layer : Type 0} (IsRight : Own → Call → Type 0) (after : Own → Call → Own)
    (lower : Own → Call → List Below) (Steps : Layer → List Below → Layer → Type 0) where
  -- several calls are joined and parted, and what they leave is what they add up to
  pub chain_join : (old mid new : State Own Layer) (later earlier : List Call)
      → Chain IsRight after lower Steps old earlier mid → Chain IsRight after lower Steps mid later new
      → Chain IsRight after lower Steps old (later ++ earlier) new
  chain_join old mid new [] earlier h k = subst (Chain IsRight after lower Steps old earlier) (sym k) h
  chain_join old mid new (c ∷ later) earlier h k = (k.0, chain_join old mid k.0 later earlier h k.1, k.2)

  pub chain_split : (old new : State Own Layer) (later earlier : List Call)
      → Chain IsRight after lower Steps old (later ++ earlier) new
      → (mid : State Own Layer) × Chain IsRight after lower Steps old earlier mid
      × Chain IsRight after lower Steps mid later new
  chain_split old new [] earlier h = (new, h, refl)
  chain_split old new (c ∷ later) earlier h = let k =
      chain_split old h.0 later earlier h.1 in (k.0, k.1, (h.0, k.2, h.2))

  pub chain_own : (old new : State Own Layer) (calls : List Call) → Chain IsRight after lower Steps old calls new
      → new.own ≡ sum_of old.own after calls
  chain_own old new [] h = ap (λ (s : State Own Layer). s.own) h
  chain_own old new (c ∷ earlier) h = h.2.own_is ∙ ap (λ s. after s c) (chain_own old h.0 earlier h.1)

  module _ (start : Own) (fresh : Layer) where
    -- one call more, where steps of the object beneath can be joined
    pub led_call :
        ((old mid new : Layer) (later earlier : List Below) → Steps old earlier mid → Steps mid later new
        → Steps old (later ++ earlier) new)
        → (t : List Call) (c : Call) (old new : State Own Layer) → Led IsRight after lower Steps start fresh t old
        → Step IsRight after lower Steps old c new → Led IsRight after lower Steps start fresh (c ∷ t) new
    led_call join t c old new led step =
        record {
          rows = (subst (λ s. IsRight s c) led.own_is step.right, led.rows);
          own_is = step.own_is ∙ ap (λ s. after s c) led.own_is;
          layer = join fresh old.layer new.layer (lower (sum_of start after t) c)
              (asked_by start after lower t) led.layer
              (subst (λ s. Steps old.layer (lower s c) new.layer) led.own_is step.under);
        }

    -- several calls more
    pub led_chain :
        ((old mid new : Layer) (later earlier : List Below) → Steps old earlier mid → Steps mid later new
        → Steps old (later ++ earlier) new)
        → (t calls : List Call) (old new : State Own Layer) → Led IsRight after lower Steps start fresh t old
        → Chain IsRight after lower Steps old calls new → Led IsRight after lower Steps start fresh (calls ++ t) new
    led_chain join t [] old new led h = subst (Led IsRight after lower Steps start fresh t) (sym h) led
    led_chain join t (c ∷ calls) old new led h =
        led_call join (calls ++ t) c h.0 new (led_chain join t calls old h.0 led h.1) h.2

    pub led_law : (t : List Call) (s : State Own Layer) → Led IsRight after lower Steps start fresh t s
        → Law IsRight after lower Steps start fresh t
    led_law t s led = record { rows = led.rows; left = s.layer; layer = led.layer }

    -- the law of the calls before, where they can be split
    pub law_back :
        ((old new : Layer) (later earlier : List Below) → Steps old (later ++ earlier) new
        → (mid : Layer) × Steps old earlier mid × Steps mid later new)
        → (calls t : List Call) → Law IsRight after lower Steps start fresh (calls ++ t)
        → Law IsRight after lower Steps start fresh t
    law_back split [] t law = law
    law_back split (c ∷ calls) t law =
        let k = split fresh law.left (lower (sum_of start after (calls ++ t)) c)
        (asked_by start after lower (calls ++ t)) law.layer in
        law_back split calls t (record { rows = law.rows.1; left = k.0; layer = k.1 })

module _ {Own Call Below : Type 0} (start : Own) (after : Own → Call → Own) (lower : Own → Call → List Below)
    (P : Below → Type 0) where
  -- what was asked beneath was asked at some call
  pub asked_at : (t : List Call) → Ever P (asked_by start after lower t)
      → Sometime (λ past c. Ever P (lower (sum_of start after past) c)) t
  asked_at [] h = h
  asked_at (c ∷ t) h = ⊎_elim (λ l. inl l) (λ r. inr (asked_at t r))
      (Ever_append P (lower (sum_of start after t) c) (asked_by start after lower t) h)

  -- .. and the other way round
  pub asked_then : (t : List Call) → Sometime (λ past c. Ever P (lower (sum_of start after past) c)) t
      → Ever P (asked_by start after lower t)
  asked_then [] h = h
  asked_then (c ∷ t) (inl h) = Ever_front P (lower (sum_of start after t) c) (asked_by start after lower t) h
  asked_then (c ∷ t) (inr h) = Ever_back P (lower (sum_of start after t) c) (asked_by start after lower t)
      (asked_then t h)
