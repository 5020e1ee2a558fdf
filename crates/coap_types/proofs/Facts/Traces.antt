-- Laws of the words for traces.
use Rattle.std.proofs.Common.{◌≡◌, ◌⊎◌, inl, inr, ⊎_elim, List, [], ◌∷◌, ◌++◌, ◌∙◌, refl, ap, sym, append_assoc}
use Rattle.coap_types.specs.Past.{Ever, Sometime, Always, Since, all_of}

module _ {E : Type 0} where
  pub Ever_map : (P Q : E → Type 0) → ((e : E) → P e → Q e) → (t : List E) → Ever P t → Ever Q t
  Ever_map P Q f [] h = h
  Ever_map P Q f (e ∷ past) (inl h) = inl (f e h)
  Ever_map P Q f (e ∷ past) (inr h) = inr (Ever_map P Q f past h)

  pub Sometime_map : (P Q : List E → E → Type 0) → ((past : List E) (e : E) → P past e → Q past e) → (t : List E)
      → Sometime P t → Sometime Q t
  Sometime_map P Q f [] h = h
  Sometime_map P Q f (e ∷ past) (inl h) = inl (f past e h)
  Sometime_map P Q f (e ∷ past) (inr h) = inr (Sometime_map P Q f past h)

  -- a law of the trace, applied where something happened
  pub by_law : (A P Q : List E → E → Type 0) → ((past : List E) (e : E) → Always A (e ∷ past) → P past e → Q past e)
      → (t : List E) → Always A t → Sometime P t → Sometime Q t
  by_law A P Q f [] law h = h
  by_law A P Q f (e ∷ past) law (inl h) = inl (f past e law h)
  by_law A P Q f (e ∷ past) law (inr h) = inr (by_law A P Q f past law.1 h)

  pub Ever_by_law : (A : List E → E → Type 0) (P Q : E → Type 0)
      → ((past : List E) (e : E) → Always A (e ∷ past) → P e → Q e) → (t : List E) → Always A t → Ever P t → Ever Q t
  Ever_by_law A P Q f [] law h = h
  Ever_by_law A P Q f (e ∷ past) law (inl h) = inl (f past e law h)
  Ever_by_law A P Q f (e ∷ past) law (inr h) = inr (Ever_by_law A P Q f past law.1 h)

  -- what happened in the past of something that happened, happened
  pub Ever_of_Sometime : (P : List E → E → Type 0) (Q : E → Type 0)
      → ((past : List E) (e : E) → P past e → Ever Q (e ∷ past)) → (t : List E) → Sometime P t → Ever Q t
  Ever_of_Sometime P Q f (e ∷ past) (inl h) = f past e h
  Ever_of_Sometime P Q f (e ∷ past) (inr h) = inr (Ever_of_Sometime P Q f past h)
  Ever_of_Sometime P Q f [] h = h

  pub Sometime_of_Sometime : (P Q : List E → E → Type 0) → ((past : List E) (e : E) → P past e → Sometime Q (e ∷ past))
      → (t : List E) → Sometime P t → Sometime Q t
  Sometime_of_Sometime P Q f (e ∷ past) (inl h) = f past e h
  Sometime_of_Sometime P Q f (e ∷ past) (inr h) = inr (Sometime_of_Sometime P Q f past h)
  Sometime_of_Sometime P Q f [] h = h

  pub Sometime_of_Ever : (P : E → Type 0) → (t : List E) → Ever P t → Sometime (λ past e. P e) t
  Sometime_of_Ever P [] h = h
  Sometime_of_Ever P (e ∷ past) (inl h) = inl h
  Sometime_of_Ever P (e ∷ past) (inr h) = inr (Sometime_of_Ever P past h)

  pub Ever_of_Since : (B K : E → Type 0) → (t : List E) → Since B K t → Ever B t
  Ever_of_Since B K [] h = h
  Ever_of_Since B K (e ∷ past) (inl h) = inl h
  Ever_of_Since B K (e ∷ past) (inr h) = inr (Ever_of_Since B K past h.1)

  -- the same for a law that is not said entry by entry
  pub by_suffix : (L : List E → Type 0) (P Q : List E → E → Type 0) → ((past : List E) (e : E) → L (e ∷ past) → L past)
      → ((past : List E) (e : E) → L (e ∷ past) → P past e → Q past e) → (t : List E) → L t → Sometime P t
      → Sometime Q t
  by_suffix L P Q down f [] law h = h
  by_suffix L P Q down f (e ∷ past) law (inl h) = inl (f past e law h)
  by_suffix L P Q down f (e ∷ past) law (inr h) = inr (by_suffix L P Q down f past (down past e law) h)

  -- a finding that stays true as the trace grows
  pub found : (P : List E → E → Type 0) (Z : List E → Type 0) → ((e : E) (t : List E) → Z t → Z (e ∷ t))
      → ((past : List E) (e : E) → P past e → Z (e ∷ past)) → (t : List E) → Sometime P t → Z t
  found P Z grows f (e ∷ past) (inl h) = f past e h
  found P Z grows f (e ∷ past) (inr h) = grows e past (found P Z grows f past h)
  found P Z grows f [] h = absurd h

  pub Ever_append : (P : E → Type 0) (s t : List E) → Ever P (s ++ t) → Ever P s ⊎ Ever P t
  Ever_append P [] t h = inr h
  Ever_append P (e ∷ s) t (inl h) = inl (inl h)
  Ever_append P (e ∷ s) t (inr h) = ⊎_elim (λ l. inl (inr l)) (λ r. inr r) (Ever_append P s t h)

  pub Ever_front : (P : E → Type 0) (s t : List E) → Ever P s → Ever P (s ++ t)
  Ever_front P (e ∷ s) t (inl h) = inl h
  Ever_front P (e ∷ s) t (inr h) = inr (Ever_front P s t h)
  Ever_front P [] t h = absurd h

  pub Ever_back : (P : E → Type 0) (s t : List E) → Ever P t → Ever P (s ++ t)
  Ever_back P [] t h = h
  Ever_back P (e ∷ s) t h = inr (Ever_back P s t h)

  pub Sometime_back : (P : List E → E → Type 0) (s t : List E) → Sometime P t → Sometime P (s ++ t)
  Sometime_back P [] t h = h
  Sometime_back P (e ∷ s) t h = inr (Sometime_back P s t h)

  pub Always_back : (A : List E → E → Type 0) (s t : List E) → Always A (s ++ t) → Always A t
  Always_back A [] t h = h
  Always_back A (e ∷ s) t h = Always_back A s t h.1

  -- from a law of each front of time, what holds at each entry
  pub each : (L : List E → Type 0) (C : List E → E → Type 0) → ((past : List E) (e : E) → L (e ∷ past) → L past)
      → ((past : List E) (e : E) → L (e ∷ past) → C past e) → (t : List E) → L t → Always C t
  each L C down f [] h = tt
  each L C down f (e ∷ past) h = (f past e h, each L C down f past (down past e h))

  -- what can happen once only: two accounts of it are of one entry
  pub same_place : (P Q R : E → Type 0) → (t : List E) → Always (λ past e. P e → Ever P past → ⊥) t
      → Ever (λ e. P e × Q e) t → Ever (λ e. P e × R e) t → Ever (λ e. P e × Q e × R e) t
  same_place P Q R [] law a b = a
  same_place P Q R (e ∷ past) law (inl a) (inl b) = inl (a.0, a.1, b.1)
  same_place P Q R (e ∷ past) law (inl a) (inr b) = absurd (law.0 a.0 (Ever_map _ P (λ x h. h.0) past b))
  same_place P Q R (e ∷ past) law (inr a) (inl b) = absurd (law.0 b.0 (Ever_map _ P (λ x h. h.0) past a))
  same_place P Q R (e ∷ past) law (inr a) (inr b) = inr (same_place P Q R past law.1 a b)

  -- of two things that happened, which came first
  pub which_first : (A B : E → Type 0) (t : List E) → Ever A t → Ever B t
      → Ever (λ e. A e × B e) t ⊎ Sometime (λ past e. B e × Ever A past) t ⊎ Sometime (λ past e. A e × Ever B past) t
  which_first A B [] a b = absurd a
  which_first A B (e ∷ t) (inl a) (inl b) = inl (inl (a, b))
  which_first A B (e ∷ t) (inl a) (inr b) = inr (inr (inl (a, b)))
  which_first A B (e ∷ t) (inr a) (inl b) = inr (inl (inl (b, a)))
  which_first A B (e ∷ t) (inr a) (inr b) = ⊎_elim (λ x. inl (inr x))
      (λ y. ⊎_elim (λ x. inr (inl (inr x))) (λ x. inr (inr (inr x))) y) (which_first A B t a b)

-- a fact of some entry that names it no more
pub forget : {E : Type 0} (X : Type 0) → (t : List E) → Ever (λ e. X) t → X
forget X (e ∷ past) (inl x) = x
forget X (e ∷ past) (inr h) = forget X past h
forget X [] h = absurd h

module _ {E F : Type 0} (f : E → List F) where
  pub all_of_append : (s t : List E) → all_of f (s ++ t) ≡ all_of f s ++ all_of f t
  all_of_append [] t = refl
  all_of_append (e ∷ s) t = ap (λ r. f e ++ r) (all_of_append s t) ∙ sym (append_assoc (f e) (all_of f s) (all_of f t))

  pub Ever_in : (P : F → Type 0) (t : List E) → Ever P (all_of f t) → Ever (λ e. Ever P (f e)) t
  Ever_in P [] h = h
  Ever_in P (e ∷ past) h = ⊎_elim (λ l. inl l) (λ r. inr (Ever_in P past r)) (Ever_append P (f e) (all_of f past) h)

  pub Ever_out : (P : F → Type 0) (t : List E) → Ever (λ e. Ever P (f e)) t → Ever P (all_of f t)
  Ever_out P [] h = h
  Ever_out P (e ∷ past) (inl h) = Ever_front P (f e) (all_of f past) h
  Ever_out P (e ∷ past) (inr h) = Ever_back P (f e) (all_of f past) (Ever_out P past h)
