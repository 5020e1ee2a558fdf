-- What follows from the law of the client's side, in words on the trace (RFC 7252, sections 4.2, 5.2.2, 5.3).
use Rattle.std.specs.Prelude.{◌≡◌, ◌↔◌, ◌≤◌, ◌<◌, ℕ, ◌+◌, ◌-◌, ◌*◌, ◌%◌, ◌^◌, max, Bool, true, false, IsTrue, Option}
use Rattle.std.specs.Prelude.{Some, None, List, [], ◌∷◌, length, Ok, Err}
use Rattle.coap_types.specs.Past.{Ever, Always, Since}
use Rattle.coap_types.specs.declared.endpoint.Endpoint.{Endpoint}
use Rattle.coap_types.specs.declared.endpoint.Moment.{Moment}
use Rattle.coap_types.specs.declared.transmission.TheConstants.{ACK_TIMEOUT_MS as ack_timeout}
use Rattle.coap_types.specs.declared.transmission.TheConstants.{EXCHANGE_LIFETIME_MS as exchange_lifetime}
use Rattle.coap_types.specs.declared.transmission.TheConstants.{FAILURE_TIMEOUTS as failure_timeouts}
use Rattle.coap_types.specs.declared.transmission.TheConstants.{TIMEOUT_VALUES as timeout_values}
use Rattle.coap_types.specs.SameEndpoint.{same_endpoint}
use Rattle.coap_layer.specs.declared.setup.Setup.{Setup}
use Rattle.coap_codec.specs.Message.{Message, Spells}
use Rattle.coap_exchange.specs.declared.asker.Event.{Event}
use Rattle.coap_exchange.specs.declared.asker.Event.TheVariants as event
use Rattle.coap_exchange.specs.declared.asker.Turn.TheVariants as turn
use Rattle.coap_exchange.specs.declared.asker.AskRefusal.TheVariants as refusal
use Rattle.coap_exchange.specs.declared.asker.Exchange.{Exchange}
use Rattle.coap_exchange.specs.AskerTrace.{Request, Call, Ask, Receive, Ticks, Keep, Release}
use Rattle.coap_exchange.specs.AskerLaw.{own_of}
use Rattle.coap_exchange.specs.Tokens.{token_of, max_kept, is_kept}

-- the token of the exchange that a call begins, and where it is a fresh one
abbrev pub begun : Call → Option (List ℕ)
begun (Ask now r word below (Ok token)) = Some token
begun _ = None

abbrev pub unless_cancel : Option (List ℕ) → List ℕ → Option (List ℕ)
unless_cancel None token = Some token
unless_cancel (Some t) token = None

abbrev pub fresh : Call → Option (List ℕ)
fresh (Ask now r word below (Ok token)) = unless_cancel r.token token
fresh _ = None

-- the response that answers the request of the exchange, and a notification
abbrev pub answered : Call → Option Message
answered (Receive now from bytes up settled (Some (event.Answer m))) = Some m
answered _ = None

abbrev pub noticed : Call → Option Message
noticed (Receive now from bytes up settled (Some (event.Notice m))) = Some m
noticed _ = None

-- whether a call ends the exchange: by its answer, a Reset, a Timeout or NoResponse
abbrev pub ends : Call → Bool
ends (Receive now from bytes up settled (Some (event.Answer m))) = true
ends (Receive now from bytes up settled (Some event.Reset)) = true
ends (Ticks now below (turn.End e)) = true
ends _ = false

abbrev pub Begins : List ℕ → Call → Type 0
Begins token c = begun c ≡ Some token

-- an exchange with this token began and has not ended
abbrev pub Open : List ℕ → List Call → Type 0
Open token past = Since (Begins token) (λ c. ends c ≡ false) past

-- a token was kept, and not released since
abbrev pub keeps : Call → Option (List ℕ)
keeps (Keep token true) = Some token
keeps _ = None

abbrev pub releases : Call → Option (List ℕ)
releases (Release token true) = Some token
releases _ = None

abbrev pub Kept : List ℕ → List Call → Type 0
Kept token past = Since (λ c. keeps c ≡ Some token) (λ c. releases c ≡ Some token → ⊥) past

-- Exchanges don't overlap, each ends at most once, and what answers one has its token.
pub record Exchanges (past : List Call) (c : Call) : Type 0 where
  pub alone : (token other : List ℕ) → Begins token c → Open other past → ⊥
  pub of_open : ends c ≡ true → (token : List ℕ) × Open token past
  pub answer : (m : Message) → answered c ≡ Some m → Open m.token past
  pub notice : (m : Message) → noticed c ≡ Some m → Kept m.token past

abbrev pub AreExchanges : List Call → Type 0
AreExchanges trace = Always Exchanges trace

-- how many fresh tokens were given
abbrev pub tokens_spent : Option (List ℕ) → ℕ
tokens_spent None = 0
tokens_spent (Some token) = 1

abbrev pub fresh_in : List Call → ℕ
fresh_in [] = 0
fresh_in (c ∷ past) = fresh_in past + tokens_spent (fresh c)

-- each cancel has a token that was given before
abbrev pub cancels : Call → Option (List ℕ)
cancels (Ask now r word below (Ok token)) = r.token
cancels _ = None

abbrev pub CancelsAreGiven : List Call → Type 0
CancelsAreGiven trace =
    Always (λ past c. (token : List ℕ) → cancels c ≡ Some token → Ever (λ b. fresh b ≡ Some token) past) trace

-- Fresh tokens are those of the counter, each is given once, and all are given before TokensSpent is told. A cancel has
-- the token that it is given.
pub record Tokens (word : ℕ) (past : List Call) (c : Call) : Type 0 where
  pub counted : (token : List ℕ) → fresh c ≡ Some token → (token ≡ token_of word (fresh_in past))
      × (fresh_in past < 2 ^ 64 - 1)
  pub once : (token : List ℕ) → fresh c ≡ Some token → Ever (λ b. fresh b ≡ Some token) past → ⊥
  -- no token serves two requests but an observation and its cancel
  pub unused : CancelsAreGiven past → (token : List ℕ) → fresh c ≡ Some token → Ever (Begins token) past → ⊥
  pub cancel : (token : List ℕ) → cancels c ≡ Some token → Begins token c

-- TokensSpent is told where each token but one was given
pub record TellsSpent (word : ℕ) (past : List Call) (c : Call) : Type 0 where
  pub spent : (now w : ℕ) (r : Request) (below : _) → c ≡ Ask now r w below (Err refusal.TokensSpent)
      → fresh_in past ≡ 2 ^ 64 - 1

abbrev pub AreTokens : ℕ → List Call → Type 0
AreTokens word trace = Always (λ past c. Tokens word past c × TellsSpent word past c) trace

-- when the exchange that began last began, and the initial timeout of its request (section 4.2)
pub record Begun : Type 0 where
  pub at : ℕ
  pub timeout : ℕ

-- the response that is told, and that a call tells
abbrev pub message_told : Option Event → Option Message
message_told (Some (event.Answer m)) = Some m
message_told (Some (event.Notice m)) = Some m
message_told _ = None

abbrev pub carried : Call → Option Message
carried (Receive now from bytes up settled answer) = message_told answer
carried _ = None

module _ (server : Endpoint) (setup : Setup) where
  -- the moment of a call that is handed one: a moment before the last counts as the last
  abbrev pub moment : List Call → ℕ → ℕ
  moment past now = max (own_of server setup past).clock now

  abbrev pub last_begun : List Call → Option Begun
  last_begun [] = None
  last_begun (Ask now r w below (Ok token) ∷ past) =
      Some (record { at = moment past now; timeout = ack_timeout + w % timeout_values })
  last_begun (c ∷ past) = last_begun past

  -- a Timeout comes FAILURE_TIMEOUTS initial timeouts after the request was sent, and no earlier
  pub record TimesOut (past : List Call) (now : ℕ) : Type 0 where
    pub begun : Begun
    pub last : last_begun past ≡ Some begun
    pub late : begun.timeout * failure_timeouts ≤ moment past now - begun.at

  -- NoResponse comes EXCHANGE_LIFETIME after the Empty acknowledgement, and no earlier
  pub record GivesUp (past : List Call) (now : ℕ) : Type 0 where
    pub exchange : Exchange
    pub runs : (own_of server setup past).running ≡ Some exchange
    pub acked : Moment
    pub since : exchange.acked ≡ Some acked
    pub late : exchange_lifetime ≤ moment past now - acked.0

  pub record InTime (past : List Call) (c : Call) : Type 0 where
    pub timeout : (now : ℕ) (below : _) → c ≡ Ticks now below (turn.End event.Timeout) → TimesOut past now
    pub no_response : (now : ℕ) (below : _) → c ≡ Ticks now below (turn.End event.NoResponse) → GivesUp past now

  abbrev pub EndInTime : List Call → Type 0
  EndInTime trace = Always InTime trace

  -- The tokens that are kept are those that were kept and not released since, at most 16 (profile).
  pub record FewKept (trace : List Call) : Type 0 where
    pub few : length (own_of server setup trace).kept ≤ max_kept
    pub are : (token : List ℕ) → IsTrue (is_kept token (own_of server setup trace).kept) ↔ Kept token trace

-- an answer and a notification came from the server, and are what the datagram spells
pub record CameFrom (server : Endpoint) (c : Call) : Type 0 where
  pub came :
      (now : ℕ) (from : Endpoint) (bytes : List ℕ) (up : _) (settled : Bool) (answer : Option Event) (m : Message)
      → c ≡ Receive now from bytes up settled answer → carried c ≡ Some m
      → (same_endpoint from server ≡ true) × Spells bytes m

abbrev pub AreFromServer : Endpoint → List Call → Type 0
AreFromServer server trace = Always (λ past c. CameFrom server c) trace
