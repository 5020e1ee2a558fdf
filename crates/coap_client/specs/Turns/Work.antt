-- How much is due at a client at one moment (RFC 7252, sections 4.2, 4.7 and 5.2.2; RFC 7959, section 2.6).
use Rattle.std.specs.Prelude.{ℕ, ◌+◌, ◌==◌, ◌&&◌, max, not, Bool, false, Option, Some, is_some, length, filter}
use Rattle.coap_exchange.specs.AskerTrace as E
use Rattle.coap_exchange.specs.AskerArrivals.{has_waited, acked_in}
use Rattle.coap_exchange.specs.StepsDue.{one_if, due_count}
use Rattle.coap_client.specs.Own.{Operation, Fetching, Observation, Own}
use Rattle.coap_client.specs.Led.{State}

-- the wait for a separate response is due to end: EXCHANGE_LIFETIME passed since the Empty acknowledgement
abbrev pub is_wait_due : E.Own → ℕ → Bool
is_wait_due x at = has_waited (max x.clock at) (acked_in x.running)

-- the rest of the observation's representation is being fetched, or it waits to be fetched

abbrev pub is_fetched : Option Operation → Observation → Bool
is_fetched (Some (Fetching number)) o = o.number == number
is_fetched running o = false

abbrev pub awaits_fetch : Option Operation → Observation → Bool
awaits_fetch running o = is_some o.rest && not (is_fetched running o)

-- how many operations have not begun: those in the queue, and the fetches that are to start
abbrev pub to_begin : Own → ℕ
to_begin s = length s.queue + length (filter (awaits_fetch s.running) s.observations)

-- the CONs and the waits with a step that is due then, the operations that wait and the fetches that are to start
abbrev pub work : State → ℕ → ℕ
work s now =
    due_count (max s.layer.layer.clock (max s.own.clock now)) s.layer.layer.open_cons +
    (one_if (is_wait_due s.layer.own (max s.own.clock now)) + to_begin s.own)
