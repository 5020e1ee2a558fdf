-- That each call of a smooth run is reported, and by when (RFC 7252, sections 4.7 and 5.2; the bound is a profile).
use Rattle.std.specs.Prelude.{◌≡◌, ◌⊎◌, ◌<◌, ℕ, ◌+◌, ◌*◌, Bool, ◌&&◌, is_some, Some, List, [], ◌∷◌, ◌++◌, length}
use Rattle.std.specs.Prelude.{if◌then◌else◌, option_to_list}
use Rattle.coap_types.specs.Past.{Ever, Always}
use Rattle.coap_client_laws.specs.Follows.Answered.{HasReport}
use Rattle.coap_client.specs.Sendings.{Taken, takes, sends, hears}
use Rattle.coap_client.specs.Law.{own_of}
use Rattle.coap_client.specs.Trace as C
use Rattle.coap_record.specs.Events.{Config}
use Rattle.coap_record.specs.Record.{Turn, entries_of, client_of}
use Rattle.coap_smooth.specs.Smooth.{max_age}
use Rattle.coap_smooth.specs.Young.{max_open}

-- so many calls, and how long all of them take where no path has a delay

abbrev pub some_calls : ℕ
some_calls = 8

abbrev pub some_ms : ℕ
some_ms = 24000

module _ (config : Config) where
  -- how many calls wait, or run, behind these calls of the client
  abbrev pub unfinished : List C.Call → ℕ
  unfinished t = let s = own_of config.client_sizes t in length (option_to_list s.running ++ s.queue)

  -- A further request of a call, sent where the answer to the one before is heard: the next block of a body that is
  -- sent or fetched. A call whose request and answer are one message each has none.
  abbrev pub is_further : List C.Call → C.Call → Bool
  is_further past c = is_some (hears c) && is_some (sends (own_of config.client_sizes past) c)

  -- how many of these calls, behind those before, send one
  abbrev pub further_in : List C.Call → List C.Call → ℕ
  further_in [] before = 0
  further_in (c ∷ later) before =
      if is_further (later ++ before) c then 1 + further_in later before else further_in later before

  -- the call is taken in this turn, at this moment, where so many others are unfinished
  pub record TakenHere (x : Taken) (at others : ℕ) (past : List Turn) (turn : Turn) : Type 0 where
    pub moment : turn.event.at ≡ at
    pub taken : Ever (λ c. takes c ≡ Some x) (client_of turn.entries)
    pub behind : unfinished (client_of (entries_of past)) ≡ others

  -- It was taken so, and since then so many further requests were sent, its own or those of others.
  abbrev pub TakenSince : Taken → (at others further : ℕ) → List Turn → Type 0
  TakenSince x at others further [] = ⊥
  TakenSince x at others further (turn ∷ past) =
      (TakenHere x at others past turn × (further ≡ 0))
      ⊎ ((before : ℕ) × TakenSince x at others before past
      × (further ≡ further_in (client_of turn.entries) (client_of (entries_of past)) + before))

  -- how long a call takes, at most, behind so many others, where so many further requests are sent: each request waits
  -- for a tick, which comes within 1,000 ms, and its exchange is open for max_open at most
  abbrev pub most_ms : (others further : ℕ) → ℕ
  most_ms others further = (1 + (others + further)) * (max_open config + max_age)

  -- At each event later than that it was reported.
  abbrev pub AreReported : List Turn → Type 0
  AreReported turns =
      Always (λ past (turn : Turn). (x : Taken) (at others further : ℕ) → TakenSince x at others further past
      → at + most_ms others further < turn.event.at
      → HasReport config.addresses.server config.client_sizes config.client_setup x.number
      (client_of (entries_of past))) turns

  -- A call that is taken where fewer than 8 are unfinished, and since which no further request was sent, was reported
  -- at each event that is more than 24,000 ms later. So are all of 8 calls of one block.
  abbrev pub EightAreReported : List Turn → Type 0
  EightAreReported turns =
      Always (λ past (turn : Turn). (x : Taken) (at others : ℕ) → others < some_calls → TakenSince x at others 0 past
      → at + some_ms < turn.event.at
      → HasReport config.addresses.server config.client_sizes config.client_setup x.number
      (client_of (entries_of past))) turns
