-- Runs in which a body is reported that is as old as one may be (RFC 7252, sections 4.2, 4.5 and 4.8.2). Each has the
-- newest event, datagram or moment first.
use Rattle.std.specs.Prelude.{◌≡◌, ◌<◌, ℕ, ◌+◌, Some, List, [], ◌∷◌, ◌++◌, codes, length}
use Rattle.coap_types.specs.declared.transmission.TheConstants.{EXCHANGE_LIFETIME_MS as exchange_lifetime}
use Rattle.coap_layer.specs.Clocks.{max_gain}
use Rattle.coap_client.specs.Trace.{Body, Reported}
use Rattle.coap_client_laws.specs.Follows.Gives as C
use Rattle.coap_promise.specs.ClockRuns.{shows, leaps, RunsBy}
use Rattle.coap_promise.specs.Clocks.{Clocks}
use Rattle.coap_record.specs.Events.{client_end, Calls, TickClient, Deliver, Event}
use Rattle.coap_promise.specs.Fresh.{AreFresh}
use Rattle.coap_record.specs.LegalEvents.{event}
use Rattle.coap_promise.specs.LegalRuns.{config, from_client, from_server, Runs, reported, Reports, token, tag, plain}
use Rattle.coap_promise.specs.LegalRuns.{puts}
use Rattle.coap_promise.specs.LegalRuns.{get, get_bytes}
use Rattle.coap_record.specs.Record.{Given, entries_of, client_of}

-- The path changes as soon as the request is answered. The last copy of the request comes at the last moment, and is
-- answered with the reply that was given at the first; that comes at the last moment, too.
abbrev pub grows_old : ℕ → List Event
grows_old at =
    event at (Deliver 3) ∷
    event 147000 (Deliver 2) ∷
    event 47000 TickClient ∷
    event 1 (puts (codes "new")) ∷
    event 0 (Deliver 0) ∷
    event 0 TickClient ∷
    event 0 (Calls get) ∷
    event 0 (puts (codes "old")) ∷
    []

-- the response: ETag 1, Content-Format 0 as an empty value, and the old body
abbrev pub old_bytes : List ℕ
old_bytes = 0x68 ∷ 0x45 ∷ 0 ∷ 0 ∷ token ++ 0x48 ∷ tag 1 ++ 0x80 ∷ 0xff ∷ codes "old"

abbrev pub old_given : List Given
old_given = from_server 147000 client_end old_bytes ∷ from_client 47000 get_bytes ∷ from_server 0 client_end old_bytes ∷
    from_client 0 get_bytes ∷ []

abbrev pub old_report : Reported
old_report = reported (Body (Some (tag 1)) (Some plain) (codes "old"))

-- By one clock the body is 247,000 ms old: what is promised of each report isn't true of it with any lower age.
pub record Oldest : Type 0 where
  pub run : Runs config (grows_old 247000) old_given
  pub reports : Reports run (old_report ∷ [])
  pub no_lower : (age : ℕ) → age < exchange_lifetime → AreFresh config (λ past turn. turn.event.at) age run.turns → ⊥

-- Where the client's clock gains 5,000 ms on the server's while the answer is on its way, it is 252,000 ms old.

abbrev pub gaining : Clocks
gaining =
    let moments = 247000 ∷ 147000 ∷ 47000 ∷ 1 ∷ 0 ∷ 0 ∷ 0 ∷ 0 ∷ [] in
    record { client = leaps moments 0 max_gain 7; server = shows moments }

pub record OldestByTwo : Type 0 where
  pub run : RunsBy gaining config (grows_old 252000) old_given
  pub reports : C.given (client_of (entries_of run.turns)) ≡ old_report ∷ []
  pub no_lower : (age : ℕ) → age < exchange_lifetime + max_gain
      → AreFresh config (λ past turn. gaining.client (length past)) age run.turns → ⊥
