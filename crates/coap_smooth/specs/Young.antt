-- How long an exchange of a smooth run is open at most (RFC 7252, sections 4.2 and 5.2; the bound is a profile).
use Rattle.std.specs.Prelude.{◌≤◌, ℕ, ◌+◌, max, List, [], ◌∷◌}
use Rattle.coap_types.specs.Past.{Always}
use Rattle.coap_client_laws.specs.Follows.Open.{IsOpenSince}
use Rattle.coap_server.specs.Trace.{Delay}
use Rattle.coap_record.specs.Events.{Config}
use Rattle.coap_record.specs.Record.{Turn, entries_of, client_of}
use Rattle.coap_smooth.specs.Smooth.{max_age}

-- the longest of these delays; 1,001 ms where each is shorter, since a response in a CON is not sent before an older
-- one is acknowledged
abbrev pub longest : List Delay → ℕ
longest [] = 1001
longest (d ∷ ds) = max d.ms (longest ds)

-- How long an exchange is open, at most. Where no path has a delay, its request comes within 1,000 ms, and the answer
-- in its acknowledgement 1,000 ms later. Else a request may have to wait by the longest delay, then for a tick, which
-- comes in less than 1,000 ms, and its answer comes 1,000 ms behind that.
abbrev pub open_by : List Delay → ℕ
open_by [] = max_age + max_age
open_by (d ∷ ds) = longest (d ∷ ds) + 2999

abbrev pub max_open : Config → ℕ
max_open config = open_by config.delays

module _ (config : Config) where
  -- At no event an exchange is open that began more than so many ms before.
  abbrev pub AreYoungBy : ℕ → List Turn → Type 0
  AreYoungBy most turns =
      Always (λ past (turn : Turn). (at : ℕ) → IsOpenSince config.client_sizes at (client_of (entries_of past))
      → turn.event.at ≤ at + most) turns

  abbrev pub AreYoung : List Turn → Type 0
  AreYoung turns = AreYoungBy (max_open config) turns
