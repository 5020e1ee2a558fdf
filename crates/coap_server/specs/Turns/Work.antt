-- How much is left to be done at one moment (RFC 7252, sections 4.2 and 5.2.2; RFC 7641, section 4.5).
use Rattle.std.specs.Prelude.{ℕ, ◌+◌, ◌*◌, max, List, length}
use Rattle.coap_layer.specs.declared.setup.Setup.{Setup}
use Rattle.coap_observe.specs.declared.observers.TheConstants.{MAX_OBSERVERS as max_observers}
use Rattle.coap_resource.specs.Limits.{Limits}
use Rattle.coap_exchange.specs.StepsDue.{due_count}
use Rattle.coap_server.specs.Notifying.{marked}
use Rattle.coap_server.specs.Trace.{Call}
use Rattle.coap_server.specs.Led.{State, Led}

-- The CONs with a step that is due then; the observers that are marked; and the requests that wait, each for a change
-- that can mark every observer.
abbrev pub work : State → ℕ → ℕ
work s now = due_count (max s.layer.clock (max s.own.clock now)) s.layer.open_cons +
    (length (marked s.own.observers) + (1 + max_observers) * length s.own.waiting)

-- calls led to it, from a server to which nothing had happened
abbrev pub WasLed : State → Type 0
WasLed s = (limits : Limits) × (szx : ℕ) × (setup : Setup) × (t : List Call) × Led limits szx setup t s
