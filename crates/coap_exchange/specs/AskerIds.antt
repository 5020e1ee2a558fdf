-- How many Message IDs and tokens the client's side gives, and where neither is wanting (RFC 7252, sections 4.4 and
-- 5.3.1; profile).
use Rattle.std.specs.Prelude.{◌≡◌, ◌≤◌, ◌<◌, ℕ, ◌+◌, ◌*◌, ◌^◌, Option, Some, None, List, Err}
use Rattle.coap_types.specs.Past.{Always}
use Rattle.coap_types.specs.declared.endpoint.Endpoint.{Endpoint}
use Rattle.coap_types.specs.declared.message.TheConstants.{MESSAGE_IDS as message_ids}
use Rattle.coap_layer.specs.Ids.{Withholds}
use Rattle.coap_layer.specs.Taking.{issued_since}
use Rattle.coap_layer.specs.Words.{clock, numbers}
use Rattle.coap_exchange.specs.declared.asker.AskRefusal.{AskRefusal}
use Rattle.coap_exchange.specs.declared.asker.AskRefusal.TheVariants as refusal
use Rattle.coap_exchange.specs.AskerTrace.{Call, Ask}
use Rattle.coap_exchange.specs.AskerLaw.{own_of, below_of}
use Rattle.coap_exchange.specs.AskerFollows.{ends, fresh_in}
use Rattle.coap_exchange.specs.Counts.{count_since, AreFew}
use Rattle.coap_layer.specs.declared.setup.Setup.{Setup}

-- why a request is refused
abbrev pub refused : Call → Option AskRefusal
refused (Ask now r word below (Err why)) = Some why
refused _ = None

-- None is refused for want of a Message ID or a token, but only where an exchange runs.
abbrev pub NoneWanting : List Call → Type 0
NoneWanting t = Always (λ past c. (why : AskRefusal) → refused c ≡ Some why → why ≡ refusal.Running) t

module _ (server : Endpoint) (setup : Setup) where
  abbrev pub clock_of : List Call → ℕ
  clock_of past = (own_of server setup past).clock

  -- how many exchanges ended from this moment on: by an answer, or without one
  abbrev pub ended_since : ℕ → List Call → ℕ
  ended_since u t = count_since clock_of ends u t

  -- From any moment on, each Message ID is given to the request of an exchange that ended since, or of the one that
  -- runs; and each token.
  pub record IdsCounted (t : List Call) : Type 0 where
    pub ids : (u : ℕ) → issued_since u (numbers (below_of server setup t)) ≤ 1 + ended_since u t
    pub tokens : fresh_in t ≤ 1 + ended_since 0 t

  -- fewer exchanges than so many end in EXCHANGE_LIFETIME
  abbrev pub FewEnd : ℕ → List Call → Type 0
  FewEnd most t = AreFew clock_of ends most t

  -- Where fewer end in each EXCHANGE_LIFETIME than a quarter of the Message IDs, one is free from the latest moment on.
  abbrev pub IdIsFree : List Call → Type 0
  IdIsFree t =
      (most now : ℕ) → 4 * most ≤ message_ids → FewEnd most t → clock (below_of server setup t) ≤ now
      → Withholds setup.word (numbers (below_of server setup t)) now → ⊥

  -- .. and no request is refused for want of one, nor of a token, while the clock has 64 bits.
  abbrev pub RequestsAreSent : List Call → Type 0
  RequestsAreSent t =
      (most : ℕ) → 4 * most ≤ message_ids → FewEnd most t → clock_of t < 2 ^ 64 → NoneWanting t
