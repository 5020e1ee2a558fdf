-- What takes no memory of a server: nothing is to be sent or kept (RFC 7252, sections 4.2 and 5.2.2).
use Rattle.std.specs.Prelude.{◌≡◌, ◌≢◌, ◌⊎◌, ℕ, max, List, []}
use Rattle.coap_types.specs.declared.endpoint.Endpoint.{Endpoint}
use Rattle.coap_layer.specs.Machine.State.{answer_of, copies, made}
use Rattle.coap_layer.specs.Machine.Ups.{IsQuiet}
use Rattle.coap_layer.specs.Trace.{Idle, Receive, Ticks}
use Rattle.coap_server.specs.Led.{State}
use Rattle.coap_server.specs.Turns.Idle.{IsIdle, moment}

-- a datagram: the message layer sends nothing for it, and hands nothing up
abbrev pub PassesOver : ℕ → Endpoint → List ℕ → State → Type 0
PassesOver now from bytes s = IsQuiet (made s.layer (max s.own.clock now) (Receive from bytes))

-- a tick: nothing is to be sent; or no copy is due, but a failure
abbrev pub SendsNothing : ℕ → State → Type 0
SendsNothing now s = IsIdle s now
    ⊎ ((copies (moment s now) s.layer.open_cons ≡ []) × (answer_of s.layer (moment s now) Ticks ≢ Idle))
