-- When a tick of a server does nothing, and when it does something (RFC 7252, sections 4.2 and 5.2.2; RFC 7641,
-- section 4.5).
use Rattle.std.specs.Prelude.{◌≡◌, ℕ, max, Bool, ◌||◌}
use Rattle.coap_layer.specs.Trace as L
use Rattle.coap_exchange.specs.declared.answerer.Due.{Due}
use Rattle.coap_exchange.specs.Machine.Rests.{has_due}
use Rattle.coap_server.specs.Led.{State, Step, exchanges_of}
use Rattle.coap_server.specs.Trace.{Handling, Ticks}
use Rattle.coap_server.specs.Turns.Idle.{takes_notice}

-- each tick at this moment, with any word, does nothing; something
abbrev pub TicksDo : Bool → State → ℕ → Type 0
TicksDo does s now = (word : ℕ) (below : L.Answer) (room : Bool) (due : Due) (passed : ℕ) (h : Handling) (id : ℕ)
    (did : Bool) (new : State)
    → Step s (Ticks now word below room due passed h id did) new → did ≡ does

-- the latest moment that counted, for the server and for its exchanges
abbrev pub latest : State → ℕ
latest s = max s.own.exchanges.clock s.own.clock

-- a step of the exchanges, or an observer that can be notified
abbrev pub has_work : State → ℕ → Bool
has_work s now = has_due (exchanges_of s) now || takes_notice (exchanges_of s) now s.own.observers
