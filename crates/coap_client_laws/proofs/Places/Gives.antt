-- The reports that a client gives are those that it made, in order: what waits are the others.
use Rattle.std.proofs.Common.{◌≡◌, inl, inr, ℕ, max, Bool, true, false, cond, not, Option, Some, None, List, [], ◌∷◌}
use Rattle.std.proofs.Common.{◌++◌, refl, ap, sym, ◌∙◌, append_assoc, drop, Ok, Err}
use Rattle.std.specs.Prelude.{◌==◌, slice_get, option_to_list, filter}
use Rattle.std.proofs.lemmas.List.{append-nil}
use Rattle.std.proofs.lemmas.List.Elements.{filter-append}
use Rattle.coap_block.specs.Sizes.{Sizes}
use Rattle.coap_client.specs.Trace.{Reported, Call, Calls, Observes, Cancels, Forgets, Feeds, Ticks}
use Rattle.coap_client.specs.Trace.{NextOut, NextReport, Asked}
use Rattle.coap_client.specs.Own.{Own}
use Rattle.coap_client.specs.Effects.{Effect}
use Rattle.coap_client.specs.Events.{happened, passes}
use Rattle.coap_client.specs.Deeds.{at, close}
use Rattle.coap_client.specs.Law.{ClientRows, own_of}
use Rattle.coap_client_laws.specs.Follows.Gives.{made, given, reports_given, GivesInOrder}
use Rattle.coap_client.proofs.Facts.Places.PlaceLemmas.{same_number}
use Rattle.coap_client.proofs.Facts.Uploading.Holding.{steadied, happened_steady, passes_steady}

false_if : (b : Bool) → (b ≡ true → ⊥) → b ≡ false
false_if true h = absurd (h refl)
false_if false h = refl

module _ (p : Reported → Bool) where
  -- a call that gives none
  more : (xs ys zs new : List Reported) → filter p xs ≡ filter p ys ++ filter p zs
      → filter p (xs ++ new) ≡ filter p (ys ++ []) ++ filter p (zs ++ new)
  more xs ys zs new h =
      filter-append p xs new ∙ (ap (λ l. l ++ filter p new) h ∙ (append_assoc (filter p ys) (filter p zs) (filter p new)
      ∙ (ap (λ l. filter p ys ++ l) (sym (filter-append p zs new))
      ∙ ap (λ l. filter p l ++ filter p (zs ++ new)) (sym (append-nil ys)))))

  same : (xs ys zs : List Reported) → filter p xs ≡ filter p ys ++ filter p zs
      → filter p (xs ++ []) ≡ filter p (ys ++ []) ++ filter p zs
  same xs ys zs h = ap (filter p) (append-nil xs) ∙ (h ∙ ap (λ l. filter p l ++ filter p zs) (sym (append-nil ys)))

  -- the first that waits is taken
  taken : (xs ys zs : List Reported) (answer : Option Reported) → answer ≡ slice_get zs 0
      → filter p xs ≡ filter p ys ++ filter p zs
      → filter p (xs ++ []) ≡ filter p (ys ++ reports_given (NextReport answer)) ++ filter p (drop 1 zs)
  taken xs ys [] None is h = same xs ys [] h
  taken xs ys [] (Some r) is h = absurd (cc is)
  taken xs ys (z ∷ zs) None is h = absurd (cc is)
  taken xs ys (z ∷ zs) (Some r) is h =
      let e : z ≡ r = cc is in
      ap (filter p) (append-nil xs) ∙ (h ∙ (ap (λ l. filter p ys ++ l) (filter-append p (z ∷ []) zs)
      ∙ (sym (append_assoc (filter p ys) (filter p (z ∷ [])) (filter p zs))
      ∙ (ap (λ l. l ++ filter p zs) (sym (filter-append p ys (z ∷ [])))
      ∙ ap (λ w. filter p (ys ++ (w ∷ [])) ++ filter p zs) e))))

  -- those of another number stay
  stay : (number : ℕ) (rs : List Reported) → ((r : Reported) → p r ≡ true → (r.number == number) ≡ false)
      → filter p (filter (λ r. not (r.number == number)) rs) ≡ filter p rs
  stay number [] apart = refl
  stay number (r ∷ rs) apart = by (filter (λ (x : Reported). not (x.number == number)) rs) (r.number == number)
      (p r) refl refl (stay number rs apart)
    where
      by : (left : List Reported) (b c : Bool) → (r.number == number) ≡ b → p r ≡ c → filter p left ≡ filter p rs
          → filter p (cond (not b) (r ∷ left) left) ≡ cond c (r ∷ filter p rs) (filter p rs)
      by left true true is holds ih = let k : true ≡ false = sym is ∙ apart r holds in absurd (cc k)
      by left true false is holds ih = ih
      by left false true is holds ih = ap (λ z. cond z (r ∷ filter p left) (filter p left)) holds ∙ ap (λ l. r ∷ l) ih
      by left false false is holds ih = ap (λ z. cond z (r ∷ filter p left) (filter p left)) holds ∙ ih

module _ (sizes : Sizes) where
  pub waits : (t : List Call) → ClientRows sizes t → GivesInOrder sizes t
  waits [] rows p none = refl
  waits (Calls now r (Ok n) ∷ t) rows p none =
      same p (made sizes t) (given t) (own_of sizes t).reports (waits t rows.1 p (λ x h e. none x h (inr e)))
  waits (Observes now path (Ok n) ∷ t) rows p none =
      same p (made sizes t) (given t) (own_of sizes t).reports (waits t rows.1 p (λ x h e. none x h (inr e)))
  waits (Cancels now number None ∷ t) rows p none =
      same p (made sizes t) (given t) (own_of sizes t).reports (waits t rows.1 p (λ x h e. none x h (inr e)))
  waits (Forgets number kept true ∷ t) rows p none =
      let apart : (r : Reported) → p r ≡ true → (r.number == number)
      ≡ false = λ r h. false_if (r.number == number)
      (λ e. none r h (inl (ap (λ n. Some n) (sym (same_number r.number number e))))) in
      same p (made sizes t) (given t) (own_of sizes t).reports (waits t rows.1 p (λ x h e. none x h (inr e)))
      ∙ ap (λ l. filter p (given t ++ []) ++ l) (sym (stay p number (own_of sizes t).reports apart))
  waits (NextReport answer ∷ t) rows p none = taken p (made sizes t) (given t) (own_of sizes t).reports answer rows.0
      (waits t rows.1 p (λ x h e. none x h (inr e)))
  waits (Feeds now from bytes w up settled event sent token kept ∷ t) rows p none =
      let s : Own = own_of sizes t in
      let m : ℕ = max s.clock now in
      let e : Effect = happened (at now s) m event in
      let new : List Reported = option_to_list (close m e token).report in
      let z = steadied (at now s) m e token e.deed refl (happened_steady (at now s) m event) in
      more p (made sizes t) (given t) s.reports new (waits t rows.1 p (λ x h k. none x h (inr k)))
      ∙ ap (λ l. filter p (given t ++ []) ++ filter p (l ++ new)) (sym z.reports)
  waits (Ticks now w below turn sent token kept answer ∷ t) rows p none =
      let s : Own = own_of sizes t in
      let m : ℕ = max s.clock now in
      let e : Effect = passes (at now s) m turn in
      let new : List Reported = option_to_list (close m e token).report in
      let z = steadied (at now s) m e token e.deed refl (passes_steady (at now s) m turn) in
      more p (made sizes t) (given t) s.reports new (waits t rows.1 p (λ x h k. none x h (inr k)))
      ∙ ap (λ l. filter p (given t ++ []) ++ filter p (l ++ new)) (sym z.reports)
  waits (_ ∷ t) rows p none = same p (made sizes t) (given t) (own_of sizes t).reports (waits t rows.1 p (λ x h e.
      none x h (inr e)))
