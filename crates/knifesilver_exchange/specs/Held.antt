-- What a handle holds, and what a call of it did.
use Rattle.std.specs.Prelude.{◌≡◌, ⊤, ℤ, pos, Option, Some, None}
use Rattle.coap_exchange.specs.AnswererTrace.{Call}
use Rattle.coap_exchange.specs.AnswererLaw.{Step}
use Rattle.coap_handlers.specs.Shown.{Shown}
use Rattle.coap_handlers.specs.declared.refusal.AnswerRefusal.{AnswerRefusal}
use Rattle.knifesilver_exchange.specs.declared.held.Held.{Held}
use Rattle.knifesilver_exchange.specs.declared.held.Held.TheVariants.{Answerer, Asker, Fetch, Upload, Assembly}
use Rattle.knifesilver_exchange.specs.Numbers.{answer_number}

-- a server of which this holds
abbrev pub IsIn : (Shown → Type 0) → Held → Type 0
IsIn P (Answerer s) = P s
IsIn P (Asker a) = ⊥
IsIn P (Fetch f) = ⊥
IsIn P (Upload u) = ⊥
IsIn P (Assembly a) = ⊥

abbrev pub HoldsIn : (Shown → Type 0) → Option Held → Type 0
HoldsIn P None = ⊥
HoldsIn P (Some held) = IsIn P held

abbrev pub Holds : Option Held → Type 0
Holds held = HoldsIn (λ s. ⊤) held

-- this holds of what a server was and is
abbrev pub Goes : (Shown → Shown → Type 0) → Option Held → Option Held → Type 0
Goes P old new = HoldsIn (λ s. HoldsIn (λ t. P s t) new) old

-- One call like this was made of the exchanges of the server that was held, and its state is what that leaves.
abbrev pub Made : (Call → Type 0) → Option Held → Option Held → Type 0
Made like old new = Goes (λ s t. (call : Call) × like call × Step s.state call t.state) old new

-- it was refused by that number, for this reason
abbrev pub IsNamedFor : ℤ → (AnswerRefusal → Shown → Type 0) → Option Held → Type 0
IsNamedFor answer reason held = (why : AnswerRefusal) × (answer ≡ pos (answer_number why)) × HoldsIn (reason why) held
