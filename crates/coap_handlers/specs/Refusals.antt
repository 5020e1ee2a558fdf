-- Why an answer, a deferral or a notification is refused.
use Rattle.std.specs.Prelude.{◌≡◌, ◌≢◌, ℕ, true, false, List, Some}
use Rattle.coap_types.specs.declared.endpoint.Endpoint.{Endpoint}
use Rattle.coap_types.specs.declared.message.Kind.TheVariants.{Con}
use Rattle.coap_exchange.specs.declared.answerer.Asked.{Asked}
use Rattle.coap_exchange.specs.AnswererTrace.{Response}
use Rattle.coap_exchange.specs.Machine.AnswererShown.{IsAnswer, IsAnswerWith}
use Rattle.coap_handlers.specs.declared.refusal.AnswerRefusal.{AnswerRefusal}
use Rattle.coap_handlers.specs.declared.refusal.AnswerRefusal.TheVariants.{NotAsked, Given, DeferralsFull, NotReady}
use Rattle.coap_handlers.specs.declared.refusal.AnswerRefusal.TheVariants.{NotConfirmable, BadResponse}
use Rattle.coap_types.specs.declared.endpoint.Moment.{Moment}
use Rattle.coap_exchange.specs.AnswererSteps.{may_defer}
use Rattle.coap_exchange.specs.Machine.WhatIsDue.{takes_con}
use Rattle.coap_handlers.specs.Shown.{Shown, ready_at}
use Rattle.coap_handlers.specs.declared.refusal.NotifyRefusal.{NotifyRefusal}
use Rattle.coap_handlers.specs.declared.refusal.NotifyRefusal.TheVariants as notify

-- the request was answered or deferred since the last feed, and waits no more; it waits neither, nor was it
abbrev pub IsGiven : Shown → Asked → Type 0
IsGiven s a = (s.state.own.pending ≢ Some a) × (s.given ≡ Some a)

abbrev pub IsNotAsked : Shown → Asked → Type 0
IsNotAsked s a = (s.state.own.pending ≢ Some a) × (s.given ≢ Some a)

-- an answer at once (RFC 7252, section 5.2.1)
abbrev pub IsAnswerRefused : AnswerRefusal → Shown → Asked → Response → Type 0
IsAnswerRefused BadResponse s a r = IsAnswer a r → ⊥
IsAnswerRefused Given s a r = IsAnswer a r × IsGiven s a
IsAnswerRefused NotAsked s a r = IsAnswer a r × IsNotAsked s a
IsAnswerRefused _ s a r = ⊥

-- a deferral (section 5.2.2)
abbrev pub IsDeferRefused : AnswerRefusal → Shown → Asked → Type 0
IsDeferRefused Given s a = IsGiven s a
IsDeferRefused NotAsked s a = IsNotAsked s a
IsDeferRefused NotConfirmable s a = (s.state.own.pending ≡ Some a) × (a.kind ≢ Con)
IsDeferRefused DeferralsFull s a =
    (s.state.own.pending ≡ Some a) × (a.kind ≡ Con) × (may_defer s.state.own.deferred ≡ false)
IsDeferRefused _ s a = ⊥

-- the answer to a deferred request: the last tick didn't call it ready
abbrev pub IsNotReady : Shown → Asked → Type 0
IsNotReady s a = (at : Moment) → s.ready ≢ Some (ready_at at a)

abbrev pub IsRespondRefused : AnswerRefusal → Shown → Asked → Response → Type 0
IsRespondRefused BadResponse s a r = IsAnswer a r → ⊥
IsRespondRefused Given s a r = IsAnswer a r × IsNotReady s a × (s.given ≡ Some a)
IsRespondRefused NotReady s a r = IsAnswer a r × IsNotReady s a × (s.given ≢ Some a)
IsRespondRefused _ s a r = ⊥

-- a notification (RFC 7641, section 4.5): to its endpoint a CON is outstanding, or no Message ID is free
abbrev pub IsNotifyRefused : NotifyRefusal → Shown → ℕ → Endpoint → List ℕ → Response → Type 0
IsNotifyRefused notify.BadResponse s now to token r = IsAnswerWith token r → ⊥
IsNotifyRefused notify.NotReady s now to token r = IsAnswerWith token r × (takes_con s.state now to ≡ false)
IsNotifyRefused notify.Memory s now to token r = IsAnswerWith token r × (takes_con s.state now to ≡ true)
