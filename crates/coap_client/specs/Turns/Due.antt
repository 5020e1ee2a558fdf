-- When a tick of a client does nothing, and when it does something (RFC 7252, sections 4.2, 4.7 and 5.2.2).
use Rattle.std.specs.Prelude.{◌≡◌, ℕ, max, Bool, ◌||◌, Result, List}
use Rattle.coap_layer.specs.Trace as L
use Rattle.coap_exchange.specs.declared.asker.AskRefusal.{AskRefusal}
use Rattle.coap_exchange.specs.declared.asker.Turn.{Turn}
use Rattle.coap_exchange.specs.Machine.Rests.{has_turn}
use Rattle.coap_client.specs.Own.{Own}
use Rattle.coap_client.specs.Led.{State, Step}
use Rattle.coap_client.specs.Steps.{asks}
use Rattle.coap_client.specs.Trace.{Ticks}
use Rattle.coap_client.specs.Object.Starts.{idle_now}

-- each tick at this moment, with any word, does nothing; something
abbrev pub TicksDo : Bool → State → ℕ → Type 0
TicksDo does s now = (word : ℕ) (below : L.Answer) (turn : Turn) (sent : L.Answer)
    (token : Result (List ℕ) AskRefusal) (kept did : Bool) (new : State)
    → Step s (Ticks now word below turn sent token kept did) new → did ≡ does

-- the latest moment that counted, for the client and for its exchanges
abbrev pub latest : State → ℕ
latest s = max s.layer.own.clock s.own.clock

-- something begins, where nothing is due
abbrev pub begins : Own → ℕ → Bool
begins s now = asks (idle_now now s).deed

-- a step of the exchanges, or something begins
abbrev pub has_work : State → ℕ → Bool
has_work s now = has_turn s.layer now || begins s.own now
