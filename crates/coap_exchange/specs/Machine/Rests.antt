-- When a tick of a side of exchanges does nothing (RFC 7252, sections 4.2, 4.7 and 5.2.2).
use Rattle.std.specs.Prelude.{◌≡◌, ◌≢◌, ℕ, Bool, ◌||◌, ◌&&◌, is_some}
use Rattle.coap_layer.specs.Trace as L
use Rattle.coap_layer.specs.Machine.State.{is_free}
use Rattle.coap_layer.specs.Machine.Waits.{any_has_step}
use Rattle.coap_exchange.specs.declared.answerer.Due.{Due}
use Rattle.coap_exchange.specs.declared.answerer.Due.TheVariants as due
use Rattle.coap_exchange.specs.declared.asker.Turn.{Turn}
use Rattle.coap_exchange.specs.declared.asker.Turn.TheVariants as turn
use Rattle.coap_exchange.specs.AskerArrivals.{acked_in, has_waited}
use Rattle.coap_exchange.specs.AskerLaw as asker
use Rattle.coap_exchange.specs.AskerTrace as asking
use Rattle.coap_exchange.specs.AnswererLaw as answerer
use Rattle.coap_exchange.specs.AnswererSteps.{first_ready}
use Rattle.coap_exchange.specs.AnswererTrace as answering

-- the client's side: each tick at this moment says that nothing was due; something
abbrev pub AskerRests : asker.State → ℕ → Type 0
AskerRests s now = (below : L.Answer) (answer : Turn) (new : asker.State)
    → asker.Step s (asking.Ticks now below answer) new → answer ≡ turn.Idle

abbrev pub AskerTurns : asker.State → ℕ → Type 0
AskerTurns s now = (below : L.Answer) (answer : Turn) (new : asker.State)
    → asker.Step s (asking.Ticks now below answer) new → answer ≢ turn.Idle

-- a step of the layer, or the end of the wait
abbrev pub has_turn : asker.State → ℕ → Bool
has_turn s now = any_has_step now s.layer.open_cons || has_waited now (acked_in s.own.running)

-- the server's side
abbrev pub AnswererRests : answerer.State → ℕ → Type 0
AnswererRests s now = (below : L.Answer) (room : Bool) (answer : Due) (new : answerer.State)
    → answerer.Step s (answering.Ticks now below room answer) new → answer ≡ due.Idle

abbrev pub AnswererTurns : answerer.State → ℕ → Type 0
AnswererTurns s now = (below : L.Answer) (room : Bool) (answer : Due) (new : answerer.State)
    → answerer.Step s (answering.Ticks now below room answer) new → answer ≢ due.Idle

-- a deferred request is ready; a step of the layer, or its response
abbrev pub has_ready : answerer.State → ℕ → Bool
has_ready s now = is_some (first_ready now s.own.separate s.own.deferred)

abbrev pub has_due : answerer.State → ℕ → Bool
has_due s now = any_has_step now s.layer.open_cons
    || (has_ready s now && is_free now s.layer.upcoming s.layer.last_used)
