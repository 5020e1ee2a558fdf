-- When a deferred request may have its response (RFC 7252, section 5.2.2).
use Rattle.std.specs.Prelude.{◌≡◌, ◌≢◌, ◌≤◌, ◌⊎◌, ℕ, ◌+◌, max, true, false, Option, Some, None, List, [], ◌∷◌, length}
use Rattle.coap_types.specs.Past.{Sometime, Always}
use Rattle.coap_types.specs.declared.endpoint.Endpoint.{Endpoint}
use Rattle.coap_layer.specs.Trace as L
use Rattle.coap_exchange.specs.declared.answerer.Asked.{Asked}
use Rattle.coap_exchange.specs.declared.answerer.Due.{Due}
use Rattle.coap_exchange.specs.declared.answerer.Due.TheVariants as due
use Rattle.coap_exchange.specs.AnswererTrace.{Response, Call, Defers, Ticks, Responds, Forgets}
use Rattle.coap_exchange.specs.AnswererSteps.{is_waited_for}
use Rattle.coap_exchange.specs.AnswererLaw.{own_of}

-- the moment that counts: the latest that was handed
abbrev pub moment : List Call → ℕ → ℕ
moment past now = max (own_of past).clock now

-- the call defers the request, by a delay that has passed at this moment
pub record DefersUntil (a : Asked) (at : ℕ) (past : List Call) (c : Call) : Type 0 where
  pub now : ℕ
  pub delay : ℕ
  pub defers : c ≡ Defers now a delay true
  pub passed : moment past now + delay ≤ at

-- A separate response, and that a request is ready for one, comes no earlier than the delay after its deferral.
pub record LongEnough (past : List Call) (c : Call) : Type 0 where
  pub ready : (now : ℕ) (below : L.Answer) (room : _) (a : Asked) → c ≡ Ticks now below room (due.Ready a)
      → Sometime (DefersUntil a (moment past now)) past
  pub responds : (now : ℕ) (a : Asked) (r : Response) (word id : ℕ) → c ≡ Responds now a r word id
      → Sometime (DefersUntil a (moment past now)) past

abbrev pub DeferredLongEnough : List Call → Type 0
DeferredLongEnough trace = Always LongEnough trace

-- the request that has a separate response
abbrev pub responds_later : Call → Option Asked
responds_later (Responds now a r word id) = Some a
responds_later _ = None

-- the peer that is forgotten
abbrev pub forgets : Call → Option Endpoint
forgets (Forgets peer) = Some peer
forgets _ = None

-- it had no separate response in this call, and its endpoint was not forgotten
abbrev pub StillWaits : Asked → Call → Type 0
StillWaits a c = (responds_later c ≢ Some a) × (forgets c ≢ Some a.from)

-- the request was deferred, had no separate response and was not forgotten since, and its delay has passed at this
-- moment
abbrev pub IsDue : Asked → ℕ → List Call → Type 0
IsDue a at [] = ⊥
IsDue a at (c ∷ past) = DefersUntil a at past c ⊎ (StillWaits a c × IsDue a at past)

-- Where a request is due and no CON to its endpoint is outstanding, an idle tick that finds room says that one is
-- ready.
pub record IsReadied (past : List Call) (c : Call) : Type 0 where
  pub readied :
      (now : ℕ) (answer : Due) (a : Asked) → c ≡ Ticks now L.Idle true answer → IsDue a (moment past now) past
      → is_waited_for a.from (own_of past).separate ≡ false
      → (b : Asked) × (answer ≡ due.Ready b)

abbrev pub ReadyWhenDue : List Call → Type 0
ReadyWhenDue trace = Always IsReadied trace

-- .. it was deferred when there were n calls
abbrev pub IsDueFrom : ℕ → Asked → ℕ → List Call → Type 0
IsDueFrom n a at [] = ⊥
IsDueFrom n a at (c ∷ past) =
    (DefersUntil a at past c × (n ≡ length past)) ⊎ (StillWaits a c × IsDueFrom n a at past)

-- The one that is ready was deferred no later than any that is due and to whose endpoint no CON is outstanding.
pub record IsEarliest (past : List Call) (c : Call) : Type 0 where
  pub earliest :
      (now : ℕ) (below : L.Answer) (room : _) (b : Asked) → c ≡ Ticks now below room (due.Ready b)
      → (n : ℕ) (a : Asked) → IsDueFrom n a (moment past now) past → is_waited_for a.from (own_of past).separate ≡ false
      → Sometime (λ old d. DefersUntil b (moment past now) old d × (length old ≤ n)) past

abbrev pub EarliestReady : List Call → Type 0
EarliestReady trace = Always IsEarliest trace
