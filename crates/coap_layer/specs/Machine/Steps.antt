-- Several calls of a layer, the newest first, as the layer above asks for them.
use Rattle.std.specs.Prelude.{◌≡◌, ℕ, List, [], ◌∷◌}
use Rattle.coap_layer.specs.Trace.{Call, Answer, Entry}
use Rattle.coap_layer.specs.Machine.State.{State, Step, after, forgotten, made}

-- a call, the moment that it is handed, and its answer
pub record Asked : Type 0 where
  pub now : ℕ
  pub call : Call
  pub answer : Answer

-- what the calls leave, and the entries that they add
abbrev pub left_after : State → List Asked → State
left_after old [] = old
left_after old (a ∷ earlier) = let s = left_after old earlier in forgotten (after s (made s a.now a.call))

abbrev pub entries : State → List Asked → List Entry
entries old [] = []
entries old (a ∷ earlier) = made (left_after old earlier) a.now a.call ∷ entries old earlier

-- each is a step
abbrev pub Steps : State → List Asked → State → Type 0
Steps old [] new = new ≡ old
Steps old (a ∷ earlier) new = (s : State) × Steps old earlier s × Step s a.now a.call a.answer new
