-- Why an answer or a deferral is refused.
use Rattle.std.proofs.Common.{◌≡◌, ◌≢◌, ◌⊎◌, ◌↔◌, inl, inr, Bool, true, false, Option, Some, sym, subst, ◌∙◌}
use Rattle.coap_types.specs.declared.endpoint.Moment.{Moment}
use Rattle.coap_exchange.specs.declared.answerer.Asked.{Asked}
use Rattle.coap_exchange.specs.AnswererTrace.{Response}
use Rattle.coap_exchange.specs.Machine.AnswererShown.{IsAnswer}
use Rattle.coap_handlers.specs.Refusals.{IsAnswerRefused, IsDeferRefused, IsRespondRefused}
use Rattle.coap_handlers.specs.Shown.{Shown, ready_at}
use Rattle.coap_handlers.specs.declared.refusal.AnswerRefusal.{AnswerRefusal}
use Rattle.coap_handlers.specs.declared.refusal.AnswerRefusal.TheVariants.{NotAsked, Given, NotReady}
use Rattle.coap_handlers.specs.declared.responder.Ready.{Ready}

-- the request had its answer already, or there is another reason
abbrev pub IsWhy : Option Asked → Asked → AnswerRefusal → AnswerRefusal → Type 0
IsWhy given a other why = ((given ≡ Some a) × (why ≡ Given)) ⊎ ((given ≢ Some a) × (why ≡ other))

-- it is not the one that waits
pub not_pending : (s : Shown) (a : Asked) (kept : Option Asked) (is : Bool) → kept ≡ s.state.own.pending
    → ((is ≡ true) ↔ (kept ≡ Some a)) → is ≡ false → s.state.own.pending ≢ Some a
not_pending s a kept is same decides off p = let yes = decides.1 (same ∙ p) in absurd cc

pub no_answer : (s : Shown) (a : Asked) (r : Response) (given : Option Asked) (why : AnswerRefusal) → given ≡ s.given
    → IsAnswer a r → s.state.own.pending ≢ Some a → IsWhy given a NotAsked why → IsAnswerRefused why s a r
no_answer s a r given why same is not (inl so) =
    subst (λ w. IsAnswerRefused w s a r) (sym so.1) (is, (not, sym same ∙ so.0))
no_answer s a r given why same is not (inr so) =
    subst (λ w. IsAnswerRefused w s a r) (sym so.1) (is, (not, λ e. so.0 (same ∙ e)))

pub no_deferral : (s : Shown) (a : Asked) (given : Option Asked) (why : AnswerRefusal) → given ≡ s.given
    → s.state.own.pending ≢ Some a → IsWhy given a NotAsked why → IsDeferRefused why s a
no_deferral s a given why same not (inl so) =
    subst (λ w. IsDeferRefused w s a) (sym so.1) (not, sym same ∙ so.0)
no_deferral s a given why same not (inr so) =
    subst (λ w. IsDeferRefused w s a) (sym so.1) (not, λ e. so.0 (same ∙ e))

pub no_response : (s : Shown) (a : Asked) (r : Response) (given : Option Asked) (told : Option Ready)
    (why : AnswerRefusal)
    → given ≡ s.given → told ≡ s.ready → IsAnswer a r → ((at : Moment) → told ≢ Some (ready_at at a))
    → IsWhy given a NotReady why → IsRespondRefused why s a r
no_response s a r given told why same also is not (inl so) =
    subst (λ w. IsRespondRefused w s a r) (sym so.1) (is, (λ at e. not at (also ∙ e)), sym same ∙ so.0)
no_response s a r given told why same also is not (inr so) =
    subst (λ w. IsRespondRefused w s a r) (sym so.1) (is, (λ at e. not at (also ∙ e)), λ e. so.0 (same ∙ e))
