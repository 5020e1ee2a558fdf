-- Who watches a path in a smooth run sees what it holds: 5,000 ms after the path's last change, the last value of the
-- observation is the current representation (RFC 7641, sections 1.3, 3.4 and 4.4; the bound is a profile).
use Rattle.std.specs.Prelude.{◌≡◌, ◌⊎◌, ◌≤◌, ℕ, ◌+◌, ◌^◌, Bool, true, false, Option, Some, None, List, [], ◌∷◌}
use Rattle.std.specs.Prelude.{length, Ok}
use Rattle.coap_types.specs.Past.{Always}
use Rattle.coap_observe.specs.Versions.{sequence_number}
use Rattle.coap_resource.specs.Content.{Held}
use Rattle.coap_resource.specs.RequestOptions.{tag_of}
use Rattle.coap_client_laws.specs.Follows.OfObservations.{Observed, observes, WasObserved}
use Rattle.coap_client_laws.specs.Follows.Gives.{forgotten}
use Rattle.coap_client_laws.specs.Follows.LastValue.{last_value}
use Rattle.coap_client.specs.Trace as C
use Rattle.coap_client.specs.Trace.{Report, Value, is_value}
use Rattle.coap_record.specs.Events.{Config}
use Rattle.coap_record.specs.Record.{Entry, Turn, entries_of, client_of}
use Rattle.coap_promise.specs.Words.{ReportsAt, holds_at}

-- after how long the last value is the current one, at most
abbrev pub settles : ℕ
settles = 5000

-- the client takes it on: a call, an observation, or a cancel
abbrev pub is_taken : C.Call → Bool
is_taken (C.Calls now r (Ok number)) = true
is_taken (C.Observes now path (Ok number)) = true
is_taken (C.Cancels now number None) = true
is_taken c = false

-- It takes on nothing but this observation, and that once (what is refused may stand in the run) ..
abbrev pub Alone : Observed → List C.Call → Type 0
Alone x calls =
    Always (λ past c. is_taken c ≡ true → (observes c ≡ Some x) × Always (λ before b. is_taken b ≡ false) past) calls

-- .. and does so.
pub record ObservesAlone (x : Observed) (calls : List C.Call) : Type 0 where
  pub taken : WasObserved x calls
  pub alone : Alone x calls

-- the value that shows this: its sequence number, entity-tag, format and body
abbrev pub shown_as : Held → Report
shown_as held = Value (sequence_number held.version) (Some (tag_of held.version)) held.format held.body

module _ (config : Config) where
  -- Each representation of the path fits one block of the server (RFC 7959, section 2.2).
  abbrev pub FitsABlock : List (List ℕ) → List Entry → Type 0
  FitsABlock path all = Always (λ past e. (held : Held) → holds_at config path (e ∷ past) ≡ Some held
      → length held.body ≤ 2 ^ (config.server_szx + 4)) all

  -- at each event back to one of 5,000 ms before, the path held this
  abbrev pub HoldsFor : List (List ℕ) → Held → ℕ → List Turn → Type 0
  HoldsFor path held at [] = ⊥
  HoldsFor path held at (t ∷ past) = (holds_at config path (entries_of (t ∷ past)) ≡ Some held)
      × ((t.event.at + settles ≤ at) ⊎ HoldsFor path held at past)

  -- the last value that was reported of an observation
  abbrev pub last_shown : ℕ → List Turn → Option Report
  last_shown number turns = last_value config.client_sizes number (client_of (entries_of turns))

  -- a value was reported 5,000 ms before, or earlier
  abbrev pub WasShown : ℕ → ℕ → List Turn → Type 0
  WasShown number at [] = ⊥
  WasShown number at (t ∷ past) =
      ((t.event.at + settles ≤ at) × ((value : Report) × (last_shown number (t ∷ past) ≡ Some value)))
      ⊎ WasShown number at past

  -- the observation goes on: it was not forgotten, and has no final report
  pub record Watches (number : ℕ) (all : List Entry) : Type 0 where
    pub kept : Always (λ past c. forgotten c ≡ Some number → ⊥) (client_of all)
    pub still : Always (λ past e. (report : Report) → ReportsAt config (record { number = number; report = report })
        past e
        → is_value report ≡ true) all

  -- Where the path held this for 5,000 ms, a first value was reported 5,000 ms before, and the observation goes on, its
  -- last value is that.
  abbrev pub LastIsCurrent : Observed → List Turn → Type 0
  LastIsCurrent x turns =
      Always (λ past (turn : Turn). (held : Held)
      → HoldsFor x.path held turn.event.at (turn ∷ past)
      → WasShown x.number turn.event.at (turn ∷ past)
      → Watches x.number (entries_of (turn ∷ past))
      → last_shown x.number (turn ∷ past) ≡ Some (shown_as held)) turns

  -- What is promised of one observation that runs alone, of a path whose representations fit one block, where the
  -- client joins bodies that are as long as the server's.
  abbrev pub CurrentAlone : List Turn → Type 0
  CurrentAlone turns =
      (x : Observed) → ObservesAlone x (client_of (entries_of turns)) → FitsABlock x.path (entries_of turns)
      → config.limits.body ≤ config.client_sizes.limit → LastIsCurrent x turns
