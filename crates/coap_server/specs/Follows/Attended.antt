-- Each request that a server hands up is answered at once or waits, and what waits is answered when it can be (RFC
-- 7252, sections 4.7, 5.2.2 and 5.4.1).
use Rattle.std.specs.Prelude.{◌≡◌, ◌≢◌, ◌⊎◌, ◌≤◌, ℕ, ◌-◌, max, Bool, true, false, Option, Some, None, List, ◌∷◌, ◌++◌}
use Rattle.std.specs.Prelude.{[]}
use Rattle.coap_types.specs.Past.{Ever, Always}
use Rattle.coap_types.specs.Recognised.{lacks_critical}
use Rattle.coap_types.specs.declared.direction.Direction.TheVariants as direction
use Rattle.coap_types.specs.declared.endpoint.Endpoint.{Endpoint}
use Rattle.coap_types.specs.declared.message.Kind.TheVariants.{Con, Non}
use Rattle.coap_codec.specs.Message.{Message}
use Rattle.coap_layer.specs.Trace as L
use Rattle.coap_layer.specs.Rows.{Busy, Withholds}
use Rattle.coap_layer.specs.Words.{clock}
use Rattle.coap_layer.specs.declared.setup.Setup.{Setup}
use Rattle.coap_block.specs.Whole.{Each}
use Rattle.coap_resource.specs.Serves.{Question}
use Rattle.coap_resource.specs.Limits.{Limits}
use Rattle.coap_exchange.specs.declared.answerer.Asked.{Asked}
use Rattle.coap_exchange.specs.declared.answerer.Due.{Due}
use Rattle.coap_exchange.specs.AnswererFollows.{responds}
use Rattle.coap_exchange.specs.AnswererSteps.{asked_of, may_defer}
use Rattle.coap_server.specs.Trace.{Waiting, Handling, Call, Feeds, Ticks}
use Rattle.coap_server.specs.Asks.{lower}
use Rattle.coap_server.specs.Checks.{verdict_on}
use Rattle.coap_server.specs.Deferring.{delay_of}
use Rattle.coap_server.specs.Law.{own_of, layer_of}
use Rattle.coap_server.specs.Follows.Brings.{AsksBy}

-- the request that a call hands up, and its message
abbrev pub came_in : Call → Option (Asked × Message)
came_in (Feeds now from bytes word up came h below) = came
came_in _ = None

-- a request without a response to a CON is ignored where it has an option that is critical and not recognised (section
-- 5.4.1)
pub record IsIgnored (m : Message) : Type 0 where
  pub kind : m.kind ≢ Con
  pub option : lacks_critical direction.Request m.options ≡ true

module _ (limits : Limits) (szx : ℕ) where
  -- a response to the request is sent in this call
  abbrev pub AnswersIt : List Call → Call → Asked → Type 0
  AnswersIt past c a = Ever (λ b. responds b ≡ Some a) (lower (own_of limits szx past) c)

  -- What asks this has to wait: it is a CON, its path has a delay, and there is a place (section 5.2.2; profile).
  pub record HasToWait (past : List Call) (a : Asked) (q : Question) (delay : ℕ) : Type 0 where
    pub kind : a.kind ≡ Con
    pub has_delay : delay_of q.path (own_of limits szx past).delays ≡ Some delay
    pub place : may_defer (own_of limits szx past).exchanges.deferred ≡ true

  -- it waits from then on, by that delay and behind all that waits, to ask this
  pub record MakesWait (past : List Call) (c : Call) (a : Asked) (q : Question) : Type 0 where
    pub delay : ℕ
    pub has_to : HasToWait past a q delay
    pub behind :
        (own_of limits szx (c ∷ past)).waiting
        ≡ (own_of limits szx past).waiting ++ record
        { asked = a; at = (own_of limits szx (c ∷ past)).clock; delay = delay; question = q } ∷ []

  -- .. what came, with the whole body of its blocks
  pub record WaitsToAsk (past : List Call) (c : Call) (p : Asked × Message) : Type 0 where
    pub question : Question
    pub asks : AsksBy limits szx past c p.0 question (verdict_on szx p.1)
    pub waits : MakesWait past c p.0 question

  -- Each request that is handed up is answered in that call, or waits, or is ignored.
  abbrev pub AllAttended : List Call → Type 0
  AllAttended t =
      Always (λ past c. (p : Asked × Message) → came_in c ≡ Some p
      → AnswersIt past c p.0 ⊎ (WaitsToAsk past c p ⊎ IsIgnored p.1)) t

  module _ (setup : Setup) where
    -- no Message ID is free for what is sent now
    abbrev pub NoId : List Call → ℕ → Type 0
    NoId past now = Withholds setup (layer_of limits szx setup past)
        (max (clock (layer_of limits szx setup past)) (max (own_of limits szx past).clock now))

    -- what came of a request that the message layer hands up: it is handed up, save a NON for which no Message ID is
    -- free
    abbrev pub HandedOn : List Call → ℕ → Endpoint → Message → Bool → Option (Asked × Message) → Type 0
    HandedOn past now from m true came = came ≡ Some (asked_of from m, m)
    HandedOn past now from m false came = (m.kind ≡ Non) × NoId past now

    abbrev pub AllHandedOn : List Call → Type 0
    AllHandedOn t =
        Always (λ past c.
        (now : ℕ) (from : Endpoint) (bytes : List ℕ) (w : ℕ) (m : Message) (kept : Bool)
        (came : Option (Asked × Message)) (h : Handling) (below : L.Answer)
        → c ≡ Feeds now from bytes w (L.Becomes (L.Request m kept)) came h below → HandedOn past now from m kept came) t

    -- what waits can be answered: its delay has passed, and no CON to its endpoint is unacknowledged (section 4.7)
    pub record CanAnswer (past : List Call) (now : ℕ) (x : Waiting) : Type 0 where
      pub passed : x.delay ≤ max (own_of limits szx past).clock now - x.at
      pub alone : Busy (layer_of limits szx setup past) x.asked.from → ⊥

    -- Where the message layer has nothing due, a tick answers the first that can be, if a Message ID is free.
    abbrev pub FirstIsAnswered : List Call → Type 0
    FirstIsAnswered t =
        Always (λ past c.
        (now w : ℕ) (room : Bool) (d : Due) (passed : ℕ) (h : Handling) (id : ℕ) (answer : Bool)
        (before behind : List Waiting) (x : Waiting)
        → c ≡ Ticks now w L.Idle room d passed h id answer → (own_of limits szx past).waiting ≡ before ++ x ∷ behind
        → Each (λ y. CanAnswer past now y → ⊥) before → CanAnswer past now x
        → AnswersIt past c x.asked ⊎ NoId past now) t
