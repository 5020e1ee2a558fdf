-- Runs with fair loss: of five copies of each request at least one comes, and so does the reply to it; all else may be
-- lost, repeated, late and in any order (RFC 7252, sections 4.2 and 4.8; the numbers are a profile). By one clock, of a
-- client that observes nothing and a server without delays. And what follows.
use Rattle.std.specs.Prelude.{◌≡◌, ◌≤◌, ◌<◌, ℕ, ◌+◌, ◌*◌, Some, List, [], ◌∷◌, ◌++◌}
use Rattle.coap_types.specs.Past.{Ever, Always}
use Rattle.coap_types.specs.declared.endpoint.Endpoint.{Endpoint}
use Rattle.coap_types.specs.declared.transmission.TheConstants.{MAX_RETRANSMIT as max_retransmit}
use Rattle.coap_layer.specs.Channel.{Hop, Far, near_of, far_of, OnNear, OnFar, RepliesTo}
use Rattle.coap_layer.specs.Sends.{AtLeast, SendsIt}
use Rattle.coap_layer.specs.Taking.{ArrivesWithin}
use Rattle.coap_layer.specs.Trace.{Entry}
use Rattle.coap_layer.specs.Words.{Open, begun}
use Rattle.coap_promise.specs.Hops.{hops_of}
use Rattle.coap_record.specs.Events.{Config}
use Rattle.coap_record.specs.Record.{Turn, entries_of, server_of}
use Rattle.coap_smooth.specs.Smooth.{FewCome, NoneObserved, to_server}
use Rattle.coap_smooth.specs.SmoothAnswers.{AllAreSent, ChangesAnswered, EndByAnswers, GetsHeld}
use Rattle.coap_smooth.specs.Young.{AreYoungBy}
use Rattle.coap_fair.specs.FiveCopies.{NoneOverdue}

-- the last copy of a CON goes out so long after the first, at most: 45,000 ms, and 1,000 ms that it is late
abbrev pub last_copy : ℕ
last_copy = 46000

-- how long a datagram of those that come is under way, at most
abbrev pub longest_way : ℕ
longest_way = 7000

-- A copy of this CON comes to the other layer, at most so long behind the sending of the last one. And of the reply
-- that this layer gives to it, where it gives one, the first sending or a later one comes back as soon. (What an end is
-- fed, its message layer receives: `received_law`. So what is refused memory does not come.)
pub record GetsThrough (ms : ℕ) (near far : Endpoint) (con : Open) (hops : List Hop) : Type 0 where
  pub there : Ever (OnFar (ArrivesWithin (last_copy + ms) near con.bytes con.first)) hops
  pub back : (later past : List Hop) (reply : Entry) (bytes : List ℕ) → hops ≡ later ++ Far reply ∷ past
      → RepliesTo near con bytes (far_of past) reply
      → Ever (OnNear (ArrivesWithin (last_copy + 2 * ms) far bytes reply.at)) later

module _ (ms : ℕ) (config : Config) where
  -- Each request of which five copies went out has got through 2 * ms after the last one can go out. (Of one that was
  -- over before that, nothing is asked.)
  abbrev pub FairLoss : List Turn → Type 0
  FairLoss turns =
      Always (λ past (turn : Turn). (con : Open) → Ever (λ b. begun b ≡ Some con) (near_of (hops_of config past))
      → AtLeast (1 + max_retransmit) (SendsIt con) (near_of (hops_of config past))
      → con.first + last_copy + 2 * ms < turn.event.at
      → GetsThrough ms config.addresses.client config.addresses.server con (hops_of config past)) turns

  -- The client keeps up: at no event a copy of a request has been due for over 1,000 ms.
  abbrev pub CopiesInTime : List Turn → Type 0
  CopiesInTime turns = Always (λ past (turn : Turn). NoneOverdue (near_of (hops_of config past)) turn.event.at) turns

  pub record FairRun (turns : List Turn) : Type 0 where
    pub fair : FairLoss turns
    pub in_time : CopiesInTime turns
    pub few : FewCome config.server_setup to_server (server_of (entries_of turns))
    pub no_delays : config.delays ≡ []
    pub none_observed : NoneObserved turns
    pub soon : ms ≤ longest_way

  pub record AnsweredFairly (turns : List Turn) : Type 0 where
    -- No exchange is open for more than 46,000 + 2 * ms: its request comes with the fifth copy, and then its answer in
    -- the acknowledgement.
    pub young : AreYoungBy config (last_copy + 2 * ms) turns
    -- None ends by a Timeout, a Reset or NoResponse, and each request is sent.
    pub none_fails : EndByAnswers config (entries_of turns)
    pub all_sent : AllAreSent config (entries_of turns)
    -- A GET reports what its path holds, where that stays; and each other call the code of the response to it.
    pub gets : GetsHeld config (entries_of turns)
    pub changes : ChangesAnswered config (entries_of turns)
