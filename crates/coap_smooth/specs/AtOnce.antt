-- What a smooth run says of an exchange that is open for more than 2,000 ms: its request had to wait at the server (RFC
-- 7252, sections 4.2, 5.2.1 and 5.2.2).
use Rattle.std.specs.Prelude.{◌≡◌, ◌⊎◌, ◌≤◌, ◌<◌, ℕ, ◌+◌, Bool, Some, List, ◌∷◌}
use Rattle.coap_types.specs.Past.{Ever, Sometime, Always}
use Rattle.coap_codec.specs.Message.{Message}
use Rattle.coap_exchange.specs.declared.answerer.Asked.{Asked}
use Rattle.coap_client_laws.specs.Follows.Open.{IsOpenSince}
use Rattle.coap_client.specs.Sendings.{Sending, last_sent}
use Rattle.coap_server.specs.Follows.Attended.{AnswersIt, WaitsToAsk}
use Rattle.coap_server.specs.Follows.Rests.{IsTick}
use Rattle.coap_server.specs.Follows.Waits.{WaitsStill}
use Rattle.coap_server.specs.Law.{own_of}
use Rattle.coap_server.specs.Trace as S
use Rattle.coap_server.specs.Trace.{Delay, Waiting}
use Rattle.coap_record.specs.Events.{Config}
use Rattle.coap_record.specs.Record.{Entry, OfClient, OfServer, Turn, entries_of, client_of, server_trace}
use Rattle.coap_smooth.specs.Smooth.{max_age}

module _ (config : Config) where
  -- the server hands up the client's request with this token, by then, and that has to wait
  pub record WaitsAt (by : ℕ) (x : Sending) (past : List Entry) (c : S.Call) : Type 0 where
    pub request : Asked × Message
    pub from : request.0.from ≡ config.addresses.client
    pub token : request.0.token ≡ x.token
    pub waits : WaitsToAsk config.limits config.server_szx (server_trace config past) c request
    pub soon : (own_of config.limits config.server_szx (c ∷ server_trace config past)).clock ≤ by

  abbrev pub WaitsIn : ℕ → Sending → List Entry → Entry → Type 0
  WaitsIn by x past (OfClient c) = ⊥
  WaitsIn by x past (OfServer c) = WaitsAt by x past c

  -- it waits, and a tick answers it
  pub record TickAnswers (w : Waiting) (past : List Entry) (c : S.Call) : Type 0 where
    pub waited : WaitsStill config.limits config.server_szx w (server_trace config past)
    pub now : ℕ
    pub answer : Bool
    pub tick : IsTick now answer c
    pub answers : AnswersIt config.limits config.server_szx (server_trace config past) c w.asked

  abbrev pub WaitedIn : Waiting → List Entry → Entry → Type 0
  WaitedIn w past (OfClient c) = ⊥
  WaitedIn w past (OfServer c) = TickAnswers w past c

  -- The request of an exchange that is open for more than 2,000 ms had to wait, from at most 1,000 ms behind its
  -- sending on, by a path's delay, and waits still, or a tick answered it.
  pub record LastWaits (at : ℕ) (past : List Turn) : Type 0 where
    pub sending : Sending
    pub last : last_sent config.client_sizes (client_of (entries_of past)) ≡ Some sending
    pub waiting : Waiting
    pub from : waiting.asked.from ≡ config.addresses.client
    pub token : waiting.asked.token ≡ sending.token
    pub since : waiting.at ≤ at + max_age
    pub delay : Ever (λ (d : Delay). d.ms ≡ waiting.delay) config.delays
    pub waits : WaitsStill config.limits config.server_szx waiting (server_trace config (entries_of past))
        ⊎ Sometime (WaitedIn waiting) (entries_of past)

  abbrev pub OldWait : List Turn → Type 0
  OldWait turns =
      Always (λ past turn. (at : ℕ) → IsOpenSince config.client_sizes at (client_of (entries_of past))
      → at + max_age + max_age < turn.event.at → LastWaits at past) turns
