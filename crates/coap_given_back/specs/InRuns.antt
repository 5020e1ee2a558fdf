-- A run in which the client keeps up, by its own clock: each call that it took is reported. Nothing is asked of the
-- network, of the server and its clock, or of memory but for the client's ticks.
use Rattle.std.specs.Prelude.{◌≡◌, ◌⊎◌, ◌≤◌, ℕ, ◌+◌, max, false, List, [], ◌∷◌, length}
use Rattle.coap_types.specs.Past.{Sometime, Always}
use Rattle.coap_client.specs.Law.{ClientLaw}
use Rattle.coap_client.specs.Sendings.{Taken}
use Rattle.coap_client.specs.Trace as C
use Rattle.coap_client_laws.specs.Follows.Answered.{HasReport}
use Rattle.coap_client_laws.specs.Follows.Open.{IsOpenSince}
use Rattle.coap_client_laws.specs.Follows.Rests.{IsTick}
use Rattle.coap_promise.specs.Clocks.{Clocks}
use Rattle.coap_record.specs.Events.{Config, TickClient}
use Rattle.coap_record.specs.Record.{Turn, entries_of, client_of}
use Rattle.coap_given_back.specs.AskerYoung.{longest_exchange}
use Rattle.coap_given_back.specs.GivenBack.{TakenBehind, most_behind}

module _ (c : Clocks) (config : Config) where
  abbrev pub calls : List Turn → List C.Call
  calls turns = client_of (entries_of turns)

  -- what the client's clock shows at the next event
  abbrev pub now_at : List Turn → ℕ
  now_at past = c.client (length past)

  module _ (late : ℕ) where
    -- After these turns and before the next event, at a moment at most so long ago, the client had nothing to do: a
    -- tick would have done nothing. (`due` says where.)
    pub record RestsSo (at : ℕ) (past : List Turn) : Type 0 where
      pub now : ℕ
      pub before : now ≤ now_at past
      pub soon : at ≤ now + late
      pub tick : C.Call
      pub idle : IsTick now false tick
      pub law : ClientLaw config.addresses.server config.client_sizes config.client_setup (tick ∷ calls past)

    -- .. after these turns, or fewer
    abbrev pub HasRested : ℕ → List Turn → Type 0
    HasRested at [] = RestsSo at []
    HasRested at (t ∷ past) = RestsSo at (t ∷ past) ⊎ HasRested at past

    -- it ticked at most so long ago, and memory was not refused
    abbrev pub HasTicked : ℕ → List Turn → Type 0
    HasTicked at past = Sometime (λ before (t : Turn). (t.event.what ≡ TickClient) × (t.refused ≡ false)
        × (at ≤ now_at before + late)) past

    -- .. or that from which it is asked is not longer ago
    abbrev pub KeepsUp : (from at : ℕ) → List Turn → Type 0
    KeepsUp from at past = HasTicked at past ⊎ (HasRested at past ⊎ (at ≤ from + late))

    -- It does so at each event from that moment on.
    abbrev pub KeepsUpSince : ℕ → List Turn → Type 0
    KeepsUpSince from turns =
        Always (λ past (turn : Turn). from ≤ now_at past → KeepsUp from (now_at past) past) turns

    -- Where it does so from a call on, the call was reported at each event at which its clock shows so much more.
    abbrev pub AreReportedBy : ((waiting further : ℕ) → ℕ) → List Turn → Type 0
    AreReportedBy most turns =
        Always (λ past (turn : Turn). (x : Taken) (at waiting further : ℕ)
        → TakenBehind config.addresses.server config.client_sizes config.client_setup x at waiting further (calls past)
        → KeepsUpSince at (turn ∷ past) → at + most waiting further ≤ now_at past
        → HasReport config.addresses.server config.client_sizes config.client_setup x.number (calls past)) turns

    abbrev pub AreGivenBack : List Turn → Type 0
    AreGivenBack turns =
        AreReportedBy (most_behind config.addresses.server config.client_sizes config.client_setup late) turns

    -- Where it does so from a moment on, each exchange that is open at an event is so young, by that clock, or the
    -- moment so near.
    abbrev pub AreYoung : List Turn → Type 0
    AreYoung turns =
        Always (λ past (turn : Turn). (from since : ℕ) → IsOpenSince config.client_sizes since (calls past)
        → KeepsUpSince from (turn ∷ past) → from ≤ now_at past
        → now_at past ≤ max from since + longest_exchange late) turns
