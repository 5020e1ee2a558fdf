-- When a server ticks in a smooth run, or has nothing to do, and what the ticks leave: nothing that can be answered,
-- unless no Message ID is free (RFC 7252, sections 4.7 and 5.2.2).
use Rattle.std.specs.Prelude.{◌≡◌, ◌⊎◌, ◌≤◌, ◌<◌, ℕ, ◌+◌, true, false, List, ◌∷◌, ◌++◌}
use Rattle.coap_types.specs.Past.{Ever, Sometime, Always}
use Rattle.coap_block.specs.Whole.{Each}
use Rattle.coap_server.specs.Follows.Attended.{NoId}
use Rattle.coap_server_laws.specs.Follows.Begins.{NoneToAnswer}
use Rattle.coap_server.specs.Follows.Rests.{IsTick}
use Rattle.coap_server.specs.Trace as S
use Rattle.coap_record.specs.Events.{Config, TickServer}
use Rattle.coap_record.specs.Legal.{NotBefore}
use Rattle.coap_record.specs.Record.{Turn, entries_of, server_trace}
use Rattle.coap_smooth.specs.Smooth.{max_age, ServerRests}

-- hands nothing in
abbrev pub IsNoFeed : S.Call → Type 0
IsNoFeed (S.Feeds now from bytes word up came h below) = ⊥
IsNoFeed (S.Refuses now from bytes word code up p response below) = ⊥
IsNoFeed c = Unit {0}

module _ (config : Config) where
  -- these calls begin with ticks that do something, behind which nothing is left, and nothing is handed in
  pub record LeavesNone (now : ℕ) (t after : List S.Call) : Type 0 where
    pub later : List S.Call
    pub ticks : List S.Call
    pub is : after ≡ later ++ (ticks ++ t)
    pub each : Each (IsTick now true) ticks
    pub none_in : Each IsNoFeed later
    pub none : NoId config.limits config.server_szx config.server_setup (ticks ++ t) now
        ⊎ NoneToAnswer config.limits config.server_szx config.server_setup (ticks ++ t) now

  -- Each tick of the server for which there was memory leaves none.
  abbrev pub TicksLeaveNone : List Turn → Type 0
  TicksLeaveNone turns =
      Always (λ past (turn : Turn). turn.event.what ≡ TickServer → turn.refused ≡ false
      → LeavesNone turn.event.at (server_trace config (entries_of past))
      (server_trace config (turn.entries ++ entries_of past))) turns

-- a tick of the server, from this moment on, and less than 1,000 ms later
pub record TicksThen (when : ℕ) (turn : Turn) : Type 0 where
  pub what : turn.event.what ≡ TickServer
  pub from : when ≤ turn.event.at
  pub till : turn.event.at < when + max_age

-- There is one for each moment behind the beginning of the run, 1,000 ms or more before an event, where it ticks each
-- 1,000 ms.
abbrev pub TicksInTime : List Turn → Type 0
TicksInTime turns =
    Always (λ past (turn : Turn). (when : ℕ) → Ever (λ (t : Turn). t.event.at < when) past
    → when + max_age ≤ turn.event.at → Ever (TicksThen when) past) turns

-- The server has nothing to do at a moment from this one on: after turns that all begin less than 1,000 ms later, and
-- before the next.
pub record RestsThen (config : Config) (when : ℕ) (past : List Turn) (next : Turn) : Type 0 where
  pub now : ℕ
  pub from : when ≤ now
  pub since : NotBefore past now
  pub before : now ≤ next.event.at
  pub till : Always (λ p (u : Turn). u.event.at < when + max_age) past
  pub rests : ServerRests config past now

-- For each such moment it ticks so, or has nothing to do.
abbrev pub KeepsUpInTime : Config → List Turn → Type 0
KeepsUpInTime config turns =
    Always (λ past (turn : Turn). (when : ℕ) → Ever (λ (t : Turn). t.event.at < when) past
    → when + max_age ≤ turn.event.at
    → Ever (TicksThen when) past ⊎ Sometime (RestsThen config when) (turn ∷ past)) turns
