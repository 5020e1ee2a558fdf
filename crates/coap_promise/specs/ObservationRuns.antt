-- A legal run with an observation, with the datagrams that the ends give out in it (RFC 7641). Each has the newest
-- event, or datagram, first.
use Rattle.std.specs.Prelude.{ℕ, Some, List, [], ◌∷◌, ◌++◌, codes}
use Rattle.coap_client.specs.Trace.{Value}
use Rattle.coap_record.specs.Events.{client_end, Observes, TickClient, TickServer, Deliver, Event}
use Rattle.coap_record.specs.LegalEvents.{event}
use Rattle.coap_promise.specs.LegalRuns.{config, from_client, from_server, Runs, reported, Reports, token, tag, plain}
use Rattle.coap_promise.specs.LegalRuns.{t}
use Rattle.coap_promise.specs.LegalRuns.{puts, empty_ack}

-- A client observes `t`, and two values are reported: that of the answer, and that of a notification (RFC 7641, section
-- 1.3).

abbrev pub observes : List Event
observes =
    event 5 (Deliver 3) ∷
    event 4 (Deliver 2) ∷
    event 3 TickServer ∷
    event 3 (puts (codes "b")) ∷
    event 2 (Deliver 1) ∷
    event 1 (Deliver 0) ∷
    event 0 TickClient ∷
    event 0 (Observes t) ∷
    event 0 (puts (codes "a")) ∷
    []

-- a GET with Observe 0; ETag, Observe with the version, Content-Format and the body, in an acknowledgement and in a CON
abbrev pub observe_bytes : List ℕ
observe_bytes = 0x48 ∷ 1 ∷ 0 ∷ 0 ∷ token ++ 0x60 ∷ 0x51 ∷ codes "t"

abbrev pub first_bytes : List ℕ
first_bytes = 0x68 ∷ 0x45 ∷ 0 ∷ 0 ∷ token ++ 0x48 ∷ tag 1 ++ 0x21 ∷ 1 ∷ 0x60 ∷ 0xff ∷ codes "a"

abbrev pub second_bytes : List ℕ
second_bytes = 0x48 ∷ 0x45 ∷ 0 ∷ 0 ∷ token ++ 0x48 ∷ tag 2 ++ 0x21 ∷ 2 ∷ 0x60 ∷ 0xff ∷ codes "b"

pub record Observed : Type 0 where
  pub run : Runs config observes (from_client 4 empty_ack ∷ from_server 3 client_end second_bytes ∷ from_server 1
      client_end first_bytes ∷ from_client 0 observe_bytes ∷ [])
  pub reports : Reports run (reported (Value 1 (Some (tag 1)) (Some plain) (codes "a")) ∷ reported
      (Value 2 (Some (tag 2)) (Some plain) (codes "b")) ∷ [])
