-- Which datagrams and ticks take no memory: nothing is to be sent, kept or reported (RFC 7252, sections 4.2, 5.2 and
-- 5.3.2).
use Rattle.std.specs.Prelude.{◌≡◌, ℕ, max, false, None, List, []}
use Rattle.coap_types.specs.declared.endpoint.Endpoint.{Endpoint}
use Rattle.coap_layer.specs.Machine.State.{copies, made, tick_of}
use Rattle.coap_layer.specs.Machine.Ups.{IsQuiet}
use Rattle.coap_layer.specs.Trace.{Entry, Receive}
use Rattle.coap_exchange.specs.declared.asker.Turn.TheVariants as turn
use Rattle.coap_exchange.specs.AskerArrivals.{told, turn_of, verdict_on}
use Rattle.coap_client.specs.Deeds.{at}
use Rattle.coap_client.specs.Events.{passes}
use Rattle.coap_client.specs.Steps.{asks}
use Rattle.coap_client.specs.Led.{State}

-- what the message layer makes of the datagram
abbrev pub received : State → ℕ → Endpoint → List ℕ → Entry
received s now from bytes = made s.layer.layer (max s.own.clock now) (Receive from bytes)

-- The message layer sends nothing and hands up no message to be remembered, and the client is told nothing: what came
-- is no response to its request, and no Reset of that.
pub record TellsNothing (s : State) (now : ℕ) (from : Endpoint) (bytes : List ℕ) : Type 0 where
  pub quiet : IsQuiet (received s now from bytes)
  pub silent : let up = (received s now from bytes).answer in told (verdict_on s.layer.own from up) up ≡ None

-- no retransmission is due, and no end of the exchange; and nothing is there to begin
pub record IsIdle (s : State) (now : ℕ) : Type 0 where
  pub copies : copies (max s.layer.own.clock (max s.own.clock now)) s.layer.layer.open_cons ≡ []
  pub due : turn_of s.layer.own (max s.layer.own.clock (max s.own.clock now))
      (tick_of (max s.layer.layer.clock (max s.own.clock now)) s.layer.layer.open_cons) ≡ turn.Idle
  pub begins : asks (passes (at now s.own) (max s.own.clock now) turn.Idle).deed ≡ false
