-- What notifications ask of the exchanges (RFC 7641, section 4).
use Rattle.std.specs.Prelude.{◌≡◌, ℕ, ℤ, true, List}
use Rattle.coap_types.specs.declared.endpoint.Endpoint.{Endpoint}
use Rattle.coap_codec.specs.Message.{Message, Spells}
use Rattle.coap_exchange.specs.AnswererLaw.{State, Step}
use Rattle.coap_exchange.specs.AnswererTrace.{Response, Ready, Notifies, NotifiesPlain}
use Rattle.coap_exchange.specs.Machine.WhatIsDue.{takes_con}
use Rattle.coap_handlers.specs.Shown.{Shown}
use Rattle.coap_handlers.specs.Refusals.{IsNotifyRefused}
use Rattle.coap_handlers.specs.declared.refusal.NotifyRefusal.{NotifyRefusal}
use Rattle.knifesilver_exchange.specs.Answers.{told}
use Rattle.knifesilver_exchange.specs.Calls.{response_in}
use Rattle.knifesilver_exchange.specs.Numbers.{notify_number}

-- whether one could be sent there
abbrev pub MayBeNotified : ℤ → ℕ → Endpoint → Shown → Type 0
MayBeNotified answer now to s = answer ≡ told (takes_con s.state now to)

-- two calls were made: whether it may be sent, and the notification in a CON
abbrev pub IsSent : ℕ → Endpoint → List ℕ → Response → (word id : ℕ) → Shown → Shown → Type 0
IsSent now to token r word id s t = (between : State) × Step s.state (Ready now to true) between
    × Step between (Notifies now to token r word id) t.state

-- .. as a message says
abbrev pub IsNotified : ℕ → Endpoint → List ℕ → List ℕ → (word id : ℕ) → Shown → Shown → Type 0
IsNotified now to token message word id s t =
    (m : Message) × Spells message m × IsSent now to token (response_in m) word id s t

-- .. and the notification in a NON (section 4.5)
abbrev pub IsSentPlain : ℕ → Endpoint → List ℕ → Response → (id : ℕ) → Shown → Shown → Type 0
IsSentPlain now to token r id s t = (between : State) × Step s.state (Ready now to true) between
    × Step between (NotifiesPlain now to token r id) t.state

abbrev pub IsNotifiedPlain : ℕ → Endpoint → List ℕ → List ℕ → (id : ℕ) → Shown → Shown → Type 0
IsNotifiedPlain now to token message id s t =
    (m : Message) × Spells message m × IsSentPlain now to token (response_in m) id s t

-- why none was sent
abbrev pub IsUnsent : ℤ → ℕ → Endpoint → List ℕ → Response → Shown → Type 0
IsUnsent answer now to token r s =
    (why : NotifyRefusal) × (answer ≡ notify_number why) × IsNotifyRefused why s now to token r

abbrev pub RefusesNotification : ℤ → ℕ → Endpoint → List ℕ → List ℕ → Shown → Type 0
RefusesNotification answer now to token message s =
    (m : Message) × Spells message m × IsUnsent answer now to token (response_in m) s
