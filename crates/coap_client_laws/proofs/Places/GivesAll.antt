-- All that a client reports is given or waits, where nothing waits as an observation is forgotten.
use Rattle.std.proofs.Common.{◌≡◌, ℕ, max, Bool, true, false, Option, Some, None, List, [], ◌∷◌, ◌++◌, refl, ap, sym}
use Rattle.std.proofs.Common.{◌∙◌, append_assoc, drop, Ok, Err}
use Rattle.std.specs.Prelude.{◌==◌, not, slice_get, option_to_list, filter}
use Rattle.std.proofs.lemmas.List.{append-nil}
use Rattle.coap_block.specs.Sizes.{Sizes}
use Rattle.coap_client.specs.Trace.{Reported, Call, Calls, Observes, Cancels, Forgets, Feeds, Ticks}
use Rattle.coap_client.specs.Trace.{NextOut, NextReport, Asked}
use Rattle.coap_client.specs.Own.{Own}
use Rattle.coap_client.specs.Effects.{Effect}
use Rattle.coap_client.specs.Events.{happened, passes}
use Rattle.coap_client.specs.Deeds.{at, close}
use Rattle.coap_client.specs.Law.{ClientRows, own_of}
use Rattle.coap_client_laws.specs.Follows.Gives.{made, given, reports_given, NoneDropped}
use Rattle.coap_client.proofs.Facts.Uploading.Holding.{steadied, happened_steady, passes_steady}

-- a call that gives none, and reports these
more : (xs ys zs new : List Reported) → xs ≡ ys ++ zs → xs ++ new ≡ (ys ++ []) ++ (zs ++ new)
more xs ys zs new h = ap (λ l. l ++ new) h ∙ (append_assoc ys zs new ∙ ap (λ l. l ++ (zs ++ new)) (sym (append-nil ys)))

same : (xs ys zs : List Reported) → xs ≡ ys ++ zs → xs ++ [] ≡ (ys ++ []) ++ zs
same xs ys zs h = append-nil xs ∙ (h ∙ ap (λ l. l ++ zs) (sym (append-nil ys)))

-- none waits, so none is dropped
none_drops : (f : Reported → Bool) (xs ys zs : List Reported) → zs ≡ [] → xs ≡ ys ++ zs
    → xs ++ [] ≡ (ys ++ []) ++ filter f zs
none_drops f xs ys zs none h = same xs ys [] (h ∙ ap (λ l. ys ++ l) none)
    ∙ ap (λ l. (ys ++ []) ++ filter f l) (sym none)

-- the first that waits is taken
taken : (xs ys zs : List Reported) (answer : Option Reported) → answer ≡ slice_get zs 0 → xs ≡ ys ++ zs
    → xs ++ [] ≡ (ys ++ reports_given (NextReport answer)) ++ drop 1 zs
taken xs ys [] None is h = same xs ys [] h
taken xs ys [] (Some r) is h = absurd (cc is)
taken xs ys (z ∷ zs) None is h = absurd (cc is)
taken xs ys (z ∷ zs) (Some r) is h =
    let e : z ≡ r = cc is in
    append-nil xs ∙ (h ∙ (sym (append_assoc ys (z ∷ []) zs) ∙ ap (λ w. (ys ++ w ∷ []) ++ zs) e))

module _ (sizes : Sizes) where
  pub all_wait : (t : List Call) → ClientRows sizes t → NoneDropped sizes t
      → made sizes t ≡ given t ++ (own_of sizes t).reports
  all_wait [] rows none = refl
  all_wait (Calls now r (Ok n) ∷ t) rows none =
      same (made sizes t) (given t) (own_of sizes t).reports (all_wait t rows.1 none.1)
  all_wait (Observes now path (Ok n) ∷ t) rows none =
      same (made sizes t) (given t) (own_of sizes t).reports (all_wait t rows.1 none.1)
  all_wait (Cancels now number None ∷ t) rows none =
      same (made sizes t) (given t) (own_of sizes t).reports (all_wait t rows.1 none.1)
  all_wait (Forgets number kept true ∷ t) rows none =
      none_drops (λ r. not (r.number == number)) (made sizes t) (given t) (own_of sizes t).reports (none.0 number refl)
      (all_wait t rows.1 none.1)
  all_wait (NextReport answer ∷ t) rows none =
      taken (made sizes t) (given t) (own_of sizes t).reports answer rows.0 (all_wait t rows.1 none.1)
  all_wait (Feeds now from bytes w up settled event sent token kept ∷ t) rows none =
      let s : Own = own_of sizes t in
      let m : ℕ = max s.clock now in
      let e : Effect = happened (at now s) m event in
      let new : List Reported = option_to_list (close m e token).report in
      let z = steadied (at now s) m e token e.deed refl (happened_steady (at now s) m event) in
      more (made sizes t) (given t) s.reports new (all_wait t rows.1 none.1)
      ∙ ap (λ l. (given t ++ []) ++ (l ++ new)) (sym z.reports)
  all_wait (Ticks now w below turn sent token kept answer ∷ t) rows none =
      let s : Own = own_of sizes t in
      let m : ℕ = max s.clock now in
      let e : Effect = passes (at now s) m turn in
      let new : List Reported = option_to_list (close m e token).report in
      let z = steadied (at now s) m e token e.deed refl (passes_steady (at now s) m turn) in
      more (made sizes t) (given t) s.reports new (all_wait t rows.1 none.1)
      ∙ ap (λ l. (given t ++ []) ++ (l ++ new)) (sym z.reports)
  all_wait (_ ∷ t) rows none = same (made sizes t) (given t) (own_of sizes t).reports (all_wait t rows.1 none.1)
