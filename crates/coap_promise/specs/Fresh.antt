-- What a client reports of a representation is not old: the server held it not long before (RFC 7252, sections 4.8.2
-- and 5.10.6; RFC 7641, section 3.3.1).
use Rattle.std.specs.Prelude.{◌≡◌, ◌⊎◌, ◌≤◌, ℕ, ◌+◌, ◌++◌, Option, Some, List}
use Rattle.coap_types.specs.Past.{Ever, Sometime, Always}
use Rattle.coap_types.specs.declared.message.Kind.{Kind}
use Rattle.coap_types.specs.declared.message.Kind.TheVariants.{Con, Non}
use Rattle.coap_types.specs.declared.transmission.TheConstants.{EXCHANGE_LIFETIME_MS as exchange_lifetime}
use Rattle.coap_types.specs.declared.transmission.TheConstants.{LAST_ARRIVAL_MS as last_arrival}
use Rattle.coap_types.specs.declared.transmission.TheConstants.{MAX_LATENCY_MS as max_latency}
use Rattle.coap_codec.specs.Message.{Message}
use Rattle.coap_layer.specs.Trace as L
use Rattle.coap_client.specs.Law.{own_of}
use Rattle.coap_client.specs.Own.{Fetching}
use Rattle.coap_client.specs.Trace as C
use Rattle.coap_client.specs.Trace.{Report, Body, Valid, Value}
use Rattle.coap_client_laws.specs.Follows.Begins.{WasSent}
use Rattle.coap_client_laws.specs.Follows.Holds.{moment}
use Rattle.coap_client_laws.specs.Follows.Notified.{notes}
use Rattle.coap_client_laws.specs.Follows.Order.{call_of}
use Rattle.coap_client.specs.Sendings.{Sending, hears}
use Rattle.coap_promise.specs.Clocks.{Clocks}
use Rattle.coap_record.specs.Events.{Config}
use Rattle.coap_promise.specs.Held.{HeldSince, ValidSince, ValueSince}
use Rattle.coap_record.specs.Record.{Entry, OfClient, OfServer, Turn, client_of, entries_of}
use Rattle.coap_promise.specs.Words.{ReportsAt}

-- one of the turn's entries is so, behind all entries before it
abbrev pub Has : (List Entry → Entry → Type 0) → List Turn → Turn → Type 0
Has P before turn = Sometime (λ earlier e. P (earlier ++ entries_of before) e) turn.entries

module _ (config : Config) (shown : List Turn → Turn → ℕ) (max_age : ℕ) where
  -- Where the one is so, the other was so at an event before, at which the clock showed at most max_age less.
  abbrev pub IsFresh : (List Entry → Entry → Type 0) → (List Entry → Entry → Type 0) → List Turn → Type 0
  IsFresh Here Was turns =
      Always (λ past turn. Has Here past turn
      → Sometime (λ before other. Has Was before other × (shown past turn ≤ shown before other + max_age)) past) turns

  -- Of each body, of each representation that is reported as valid, and of each value of an observation: it was held
  -- so.
  pub record AreFresh (turns : List Turn) : Type 0 where
    pub bodies : (number : ℕ) (tag : Option (List ℕ)) (format : Option ℕ) (body : List ℕ)
        → IsFresh (ReportsAt config (record { number = number; report = Body tag format body }))
        (HeldSince config number tag format body) turns
    pub valid : (number : ℕ) (tag : Option (List ℕ))
        → IsFresh (ReportsAt config (record { number = number; report = Valid tag })) (ValidSince config number tag)
        turns
    pub values : (number sequence : ℕ) (tag : Option (List ℕ)) (format : Option ℕ) (body : List ℕ)
        → IsFresh (ReportsAt config (record { number = number; report = Value sequence tag format body }))
        (ValueSince config number sequence tag format body) turns

-- by type

-- what the call takes, as an answer or as a notification, comes in a message of this type
abbrev pub ComesIn : Kind → Entry → Type 0
ComesIn kind (OfClient c) = (m : Message) → (hears c ≡ Some m) ⊎ (notes c ≡ Some m) → m.kind ≡ kind
ComesIn kind (OfServer c) = ⊥

-- how old that is at most, but for what a clock gains: what comes in a CON, in a NON, in the acknowledgement of the
-- request
abbrev pub age_in : Kind → ℕ
age_in Con = last_arrival
age_in Non = max_latency
age_in kind = exchange_lifetime

-- a tick of the client at which nothing of its message layer was due, at this moment or later
abbrev pub RestsFrom : ℕ → Entry → Type 0
RestsFrom when (OfClient (C.Ticks now word L.Idle turn sent token kept answer)) = when ≤ now
RestsFrom when e = ⊥

module _ (config : Config) where
  -- .. at most so long before this call
  abbrev pub TickedWithin : ℕ → List Entry → Entry → Type 0
  TickedWithin time past (OfClient c) = (when : ℕ) × Ever (RestsFrom when) past
      × (moment (own_of config.client_sizes (client_of past)) c ≤ when + time)
  TickedWithin time past (OfServer c) = ⊥

module _ (config : Config) (shown : List Turn → Turn → ℕ) (max_age : ℕ) (If : List Entry → Entry → Type 0) where
  -- .. and where this holds as well at the report
  abbrev pub Reported : ℕ → Report → List Entry → Entry → Type 0
  Reported number report past e = ReportsAt config (record { number = number; report = report }) past e × If past e

  pub record AreFreshIf (turns : List Turn) : Type 0 where
    pub bodies : (number : ℕ) (tag : Option (List ℕ)) (format : Option ℕ) (body : List ℕ)
        → IsFresh config shown max_age (Reported number (Body tag format body))
        (HeldSince config number tag format body) turns
    pub valid : (number : ℕ) (tag : Option (List ℕ))
        → IsFresh config shown max_age (Reported number (Valid tag)) (ValidSince config number tag) turns
    pub values : (number sequence : ℕ) (tag : Option (List ℕ)) (format : Option ℕ) (body : List ℕ)
        → IsFresh config shown max_age (Reported number (Value sequence tag format body))
        (ValueSince config number sequence tag format body) turns

-- no older than its request

module _ (config : Config) where
  -- what is heard here is the answer to this request of the call
  abbrev pub AnswersTo : ℕ → Sending → List Entry → Entry → Type 0
  AnswersTo number x past (OfClient c) = (m : Message) × (hears c ≡ Some m) × (x.token ≡ m.token)
      × (call_of x.operation ≡ Some number) × WasSent config.client_sizes x (client_of past)
  AnswersTo number x past (OfServer c) = ⊥

  -- .. to this request for a further part of a value of the observation
  abbrev pub AnswersFetch : ℕ → Sending → List Entry → Entry → Type 0
  AnswersFetch number x past (OfClient c) = (m : Message) × (hears c ≡ Some m) × (x.token ≡ m.token)
      × (x.operation ≡ Fetching number) × WasSent config.client_sizes x (client_of past)
  AnswersFetch number x past (OfServer c) = ⊥

  -- it was so behind the sending of this request
  abbrev pub Behind : Sending → (List Entry → Entry → Type 0) → List Entry → Entry → Type 0
  Behind x Was past e = Was past e × WasSent config.client_sizes x (client_of past)

  -- What a call reports was held behind the sending of the request that this answers, whatever the clocks show; and
  -- so was a value that comes in parts, behind the sending of the request for its last part.
  pub record AreBehind (all : List Entry) : Type 0 where
    pub bodies : (number : ℕ) (tag : Option (List ℕ)) (format : Option ℕ) (body : List ℕ)
        → Always (λ past e. ReportsAt config (record { number = number; report = Body tag format body }) past e
        → (x : Sending) × AnswersTo number x past e × Sometime (Behind x (HeldSince config number tag format body))
        past) all
    pub valid : (number : ℕ) (tag : Option (List ℕ))
        → Always (λ past e. ReportsAt config (record { number = number; report = Valid tag }) past e
        → (x : Sending) × AnswersTo number x past e × Sometime (Behind x (ValidSince config number tag)) past) all
    pub values : (number sequence : ℕ) (tag : Option (List ℕ)) (format : Option ℕ) (body : List ℕ)
        → Always (λ past e. ReportsAt config
        (record { number = number; report = Value sequence tag format body }) past e
        → (x : Sending) → AnswersFetch number x past e
        → Sometime (Behind x (ValueSince config number sequence tag format body)) past) all

-- While the server's clock shows at most so much more, LAST_ARRIVAL at most, the client's gains at most this on it.
abbrev pub GainsAtMost : Clocks → ℕ → Type 0
GainsAtMost c gain = (i j passed : ℕ) → passed ≤ last_arrival → c.server j ≤ c.server i + passed
    → c.client j ≤ c.client i + passed + gain
