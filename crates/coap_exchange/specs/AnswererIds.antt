-- How many Message IDs the server's side gives, and where one is free (RFC 7252, section 4.4; profile).
use Rattle.std.specs.Prelude.{◌≤◌, ℕ, ◌+◌, ◌*◌, Bool, true, false, List}
use Rattle.coap_types.specs.declared.message.TheConstants.{MESSAGE_IDS as message_ids}
use Rattle.coap_layer.specs.Ids.{Withholds}
use Rattle.coap_layer.specs.Taking.{issued_since, came_since, FewCome}
use Rattle.coap_layer.specs.Words.{clock, numbers}
use Rattle.coap_layer.specs.declared.setup.Setup.{Setup}
use Rattle.coap_exchange.specs.AnswererTrace.{Call, Notifies, NotifiesPlain}
use Rattle.coap_exchange.specs.AnswererSteps.{max_deferred}
use Rattle.coap_exchange.specs.AnswererLaw.{own_of, below_of}
use Rattle.coap_exchange.specs.Counts.{count_since, AreFew}

abbrev pub notifies : Call → Bool
notifies (Notifies now to token r word id) = true
notifies (NotifiesPlain now to token r id) = true
notifies _ = false

-- how many notifications were sent from this moment on
abbrev pub notified_since : ℕ → List Call → ℕ
notified_since u t = count_since (λ past. (own_of past).clock) notifies u t

-- how many requests can wait for their responses at a moment: those that are deferred, and the one that was handed up
-- last
abbrev pub most_waiting : ℕ
most_waiting = max_deferred + 1

-- From any moment on, each Message ID is given to the response to a request that came since, to that of one that waited
-- then, or to a notification.
abbrev pub IdsCounted : Setup → List Call → Type 0
IdsCounted setup t =
    (u : ℕ) → issued_since u (numbers (below_of setup t))
    ≤ most_waiting + came_since u (below_of setup t) + notified_since u t

-- fewer notifications than so many are sent in each EXCHANGE_LIFETIME
abbrev pub FewNotified : ℕ → List Call → Type 0
FewNotified most t = AreFew (λ past. (own_of past).clock) notifies most t

-- Where these are fewer than an eighth of the Message IDs, and so are the messages that come in each EXCHANGE_LIFETIME,
-- one is free from the latest moment on.
abbrev pub IdIsFree : Setup → List Call → Type 0
IdIsFree setup t =
    (most now : ℕ) → 8 * most ≤ message_ids → FewNotified most t → FewCome most (below_of setup t)
    → clock (below_of setup t) ≤ now
    → Withholds setup.word (numbers (below_of setup t)) now → ⊥
