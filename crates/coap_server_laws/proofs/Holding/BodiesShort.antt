-- No path of a server holds a body that is longer than the limit of its store.
use Rattle.std.proofs.Common.{◌≡◌, ◌≤◌, inl, inr, ℕ, Option, List, [], ◌∷◌, length, ap, sym, subst}
use Rattle.std.specs.Prelude.{IfSome}
use Rattle.coap_resource.specs.Content.{Held}
use Rattle.coap_resource.specs.Limits.{Limits}
use Rattle.coap_server.specs.Trace.{Own, Call}
use Rattle.coap_server.specs.Steps.{IsRight, after}
use Rattle.coap_server.specs.Law.{own_of, ServerRows}
use Rattle.coap_server_laws.specs.Follows.Recognised.{BodiesShort}
use Rattle.coap_server.proofs.Facts.Holding.Holds.{limits_are}
use Rattle.coap_server.proofs.Facts.Observing.StoreChanges.{Effect}
use Rattle.coap_server.proofs.Facts.Observing.StoreSteps.{is_stored, path_or}

abbrev IsShort : ℕ → Option Held → Type 0
IsShort limit o = IfSome o (λ (h : Held). length h.body ≤ limit)

-- one call
step : (s : Own) (c : Call) (limits : Limits) → s.store.tally.limits ≡ limits → IsRight s c → (path : List (List ℕ))
    → IsShort limits.body (s.store.holds path) → IsShort limits.body ((after s c).store.holds path)
step s c limits is right path short = let k = is_stored s c right in by k.path k.effect
  where
    by : (at : List (List ℕ)) → Effect at (after s c).clock s.store (after s c).store
        → IsShort limits.body ((after s c).store.holds path)
    by at (inl kept) = subst (IsShort limits.body) (sym (ap (λ f. f path) kept.holds)) short
    by at (inr change) =
        elim (path_or at path) [
          | inl e ↦ subst (λ p. IsShort limits.body ((after s c).store.holds p)) (sym e)
              (subst (λ (l : Limits). IsShort l.body ((after s c).store.holds at)) is change.short)
          | inr n ↦ subst (IsShort limits.body) (sym (change.others path n)) short
        ]

module _ (limits : Limits) (szx : ℕ) where
  all_short : (t : List Call) → ServerRows limits szx t → (path : List (List ℕ))
      → IsShort limits.body ((own_of limits szx t).store.holds path)
  all_short [] rows path = tt
  all_short (c ∷ t) rows path =
      step (own_of limits szx t) c limits (limits_are limits szx t rows.1) rows.0 path (all_short t rows.1 path)

  pub bodies_short : (t : List Call) → ServerRows limits szx t → BodiesShort limits szx t
  bodies_short t rows path held is = subst (IsShort limits.body) is (all_short t rows path)
