-- A Reset of the last NON of an observer ends its observation, and leaves the others.
use Rattle.std.proofs.Common.{◌≡◌, inl, inr, ℕ, Option, Some, None, List, ◌∷◌, refl, ap, sym, ◌∙◌}
use Rattle.coap_types.specs.declared.endpoint.Endpoint.{Endpoint}
use Rattle.coap_codec.specs.Message.{Message}
use Rattle.coap_layer.specs.Trace as L
use Rattle.coap_observe.specs.Observers.{Observer, registration, rejected, removed}
use Rattle.coap_observe.proofs.Facts.Registrations.{others_stay, registration-removed}
use Rattle.coap_resource.specs.Limits.{Limits}
use Rattle.coap_exchange.specs.declared.answerer.Asked.{Asked}
use Rattle.coap_exchange.specs.declared.separate.Separate.{Separate}
use Rattle.coap_exchange.specs.AnswererSteps.{reset_by, unmatched_by}
use Rattle.coap_exchange.specs.AnswererTrace.{Sending}
use Rattle.coap_server.specs.Trace.{Handling, Call, Feeds}
use Rattle.coap_server.specs.Observers.{unless_ended, unless_rejected}
use Rattle.coap_server.specs.Law.{own_of}
use Rattle.coap_server.specs.Follows.Observes.{Ends, is_rejected}
use Rattle.coap_server.proofs.Facts.Observing.ObserverLists.{rejected_left}
use Rattle.coap_server_laws.proofs.Observing.OneRegistration.{pair_of}

-- what rejects it ends nothing else, and is no request

pub none_reset : (from : Endpoint) (up : L.Answer) (xs : List Separate) (x : Sending) → unmatched_by from up ≡ Some x
    → reset_by from up xs ≡ None
none_reset from (L.Becomes (L.Unmatched id)) xs x h = refl
none_reset from _ xs x h = absurd (cc h)

-- where a registration is gone, it stays so

none_stays : (to : Endpoint) (token : List ℕ) (by : Endpoint) (bytes : List ℕ) (os : List Observer)
    → registration to token os ≡ None → registration to token (removed by bytes os) ≡ None
none_stays to token by bytes os h = elim (pair_of to token by bytes) [
  | inl e ↦ ap (λ p. registration p token (removed by bytes os)) e.0
      ∙ (ap (λ n. registration by n (removed by bytes os)) e.1 ∙ registration-removed by bytes os)
  | inr n ↦ (others_stay to token by bytes os n).removed_stay ∙ h
]

pub gone_stays : (to : Endpoint) (token : List ℕ) (at : ℕ) (r : Option Sending) (os : List Observer)
    → registration to token os ≡ None → registration to token (unless_rejected at r os) ≡ None
gone_stays to token at r os h = rejected_left (λ os. registration to token os ≡ None) at r os h
    (λ by bytes. none_stays to token by bytes os h)

-- the registration that a Reset ends, by the list that is left of what else has ended
pub record Rejects (to : Endpoint) (token : List ℕ) (at : ℕ) (r : Option Sending) (os : List Observer) : Type 0 where
  pub reset : Sending
  pub observer : Observer
  pub is : r ≡ Some reset
  pub whose : rejected at reset.to reset.id os ≡ Some observer
  pub same : (observer.to ≡ to) × (observer.token ≡ token)

module _ (limits : Limits) (szx : ℕ) (t : List Call) (now : ℕ) (from : Endpoint) (bytes : List ℕ) (w : ℕ)
    (up : L.Answer) (came : Option (Asked × Message)) (h : Handling) (below : L.Answer) where
  abbrev call : Call
  call = Feeds now from bytes w up came h below

  abbrev os : List Observer
  os = (own_of limits szx t).observers

  abbrev left : List Observer
  left = unless_ended (reset_by from up (own_of limits szx t).exchanges.separate) os

  pub rejects_over : (to : Endpoint) (token : List ℕ)
      → Rejects to token (own_of limits szx (call ∷ t)).clock (unmatched_by from up) left
      → Ends limits szx to token t call
  rejects_over to token k =
      let none = none_reset from up (own_of limits szx t).exchanges.separate k.reset k.is in
      let all : left ≡ os = ap (λ e. unless_ended e os) none in
      is_rejected k.reset k.observer k.is
      (ap (rejected (own_of limits szx (call ∷ t)).clock k.reset.to k.reset.id) (sym all) ∙ k.whose) k.same.0 k.same.1
