-- What a tick of a server begins, and what it leaves where it does nothing (RFC 7252, sections 4.7 and 5.2.2; RFC 7641,
-- section 4.5; that responses come before notifications is a profile).
use Rattle.std.specs.Prelude.{◌≡◌, ◌⊎◌, ℕ, max, Bool, true, false, Some, List}
use Rattle.coap_types.specs.Past.{Always, Since}
use Rattle.coap_layer.specs.Trace as L
use Rattle.coap_layer.specs.Rows.{Busy, MayGive}
use Rattle.coap_layer.specs.Words.{clock}
use Rattle.coap_layer.specs.declared.setup.Setup.{Setup}
use Rattle.coap_block.specs.Whole.{Each}
use Rattle.coap_observe.specs.Observers.{Observer}
use Rattle.coap_resource.specs.Limits.{Limits}
use Rattle.coap_exchange.specs.declared.answerer.Asked.{Asked}
use Rattle.coap_exchange.specs.declared.answerer.Due.{Due}
use Rattle.coap_server.specs.Trace.{Waiting, Handling, Call, Ticks}
use Rattle.coap_server.specs.Law.{own_of, layer_of}
use Rattle.coap_server.specs.Follows.Attended.{AnswersIt, CanAnswer, NoId}
use Rattle.coap_server.specs.Follows.Observes.{Notice, notice}
use Rattle.coap_server.specs.Follows.Rests.{IsTick}
use Rattle.coap_server.specs.Follows.Serves.{Serving, serving}

-- the first of a list of which P holds
abbrev pub IsFirst : {X : Type 0} → (X → Type 0) → X → List X → Type 0
IsFirst P x xs = Since (λ y. (y ≡ x) × P y) (λ y. P y → ⊥) xs

module _ (limits : Limits) (szx : ℕ) (setup : Setup) where
  -- a Message ID is free for what is sent now
  abbrev pub HasId : List Call → ℕ → Type 0
  HasId past now = MayGive setup (layer_of limits szx setup past)
      (max (clock (layer_of limits szx setup past)) (max (own_of limits szx past).clock now))

  -- an observer can be notified: a notification is due to it, and no CON to its endpoint is unacknowledged
  pub record CanNotify (past : List Call) (o : Observer) : Type 0 where
    pub due : o.marked ≡ true
    pub alone : Busy (layer_of limits szx setup past) o.to → ⊥

  -- nothing that waits can be answered, and nobody can be notified

  abbrev pub NoneToAnswer : List Call → ℕ → Type 0
  NoneToAnswer past now = Each (λ x. CanAnswer limits szx setup past now x → ⊥) (own_of limits szx past).waiting

  abbrev pub NoneToNotify : List Call → Type 0
  NoneToNotify past = Each (λ o. CanNotify past o → ⊥) (own_of limits szx past).observers

  -- A tick that does nothing leaves nothing that can be answered and nobody who can be notified, unless no Message ID
  -- is free.
  abbrev pub NoneLeft : List Call → Type 0
  NoneLeft t = Always (λ past c. (now : ℕ) → IsTick now false c
      → NoId limits szx setup past now ⊎ (NoneToAnswer past now × NoneToNotify past)) t

  -- The response to what waits: it is the first, by arrival, that can be answered, a Message ID is free, and what it
  -- asks is served now.
  pub record IsNextResponse (past : List Call) (c : Call) (now : ℕ) (a : Asked) : Type 0 where
    pub request : Waiting
    pub first : IsFirst (CanAnswer limits szx setup past now) request (own_of limits szx past).waiting
    pub asked : request.asked ≡ a
    pub id : HasId past now
    pub serves : Serving
    pub here : serving (own_of limits szx past) c ≡ Some serves
    pub asks : (serves.asked ≡ a) × (serves.question ≡ request.question)

  -- A notification: nothing that waits can be answered, the observer is the first, by registration, that can be
  -- notified, and a Message ID is free.
  pub record IsNextNotice (past : List Call) (now : ℕ) (o : Observer) : Type 0 where
    pub none : NoneToAnswer past now
    pub first : IsFirst (CanNotify past) o (own_of limits szx past).observers
    pub id : HasId past now

  -- What a tick begins is the next.
  pub record BeginsNext (past : List Call) (c : Call) (now : ℕ) : Type 0 where
    pub responds : (a : Asked) → AnswersIt limits szx past c a → IsNextResponse past c now a
    pub notifies : (x : Notice) → notice c ≡ Some x → IsNextNotice past now x.observer

  abbrev pub AllBeginNext : List Call → Type 0
  AllBeginNext t = Always (λ past c. (now : ℕ) (answer : Bool) → IsTick now answer c → BeginsNext past c now) t

  -- Where the message layer has nothing due and nothing that waits can be answered, a tick notifies the first observer
  -- that can be, if a Message ID is free.
  abbrev pub FirstIsNotified : List Call → Type 0
  FirstIsNotified t =
      Always (λ past c.
      (now w : ℕ) (room : Bool) (d : Due) (passed : ℕ) (h : Handling) (id : ℕ) (answer : Bool) (o : Observer)
      → c ≡ Ticks now w L.Idle room d passed h id answer → NoneToAnswer past now
      → IsFirst (CanNotify past) o (own_of limits szx past).observers
      → ((x : Notice) × (notice c ≡ Some x) × (x.observer ≡ o)) ⊎ NoId limits szx setup past now) t
