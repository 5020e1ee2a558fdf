-- What a call does to a layer, as its contract says it.
use Rattle.std.specs.Prelude.{ℕ, max}
use Rattle.coap_layer.specs.Trace.{Call, Answer}
use Rattle.coap_layer.specs.Machine.Shown.{Shown}
use Rattle.coap_layer.specs.Machine.State.{Step, answer_of}

-- at this moment the call is one step, with this answer
abbrev pub Moves : Shown → ℕ → Call → Answer → Shown → Type 0
Moves old now call answer new = Step old.state now call answer new.state

-- what the layer would answer to the call at this moment
abbrev pub would_answer : Shown → ℕ → Call → Answer
would_answer s now call = answer_of s.state (max s.state.clock now) call
