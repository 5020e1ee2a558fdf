-- The words of a line of a script: parted by one space.
use Rattle.std.specs.Prelude.{◌≡◌, ◌≢◌, ◌∷◌, ◌++◌, ◌<◌, ◌^◌, ℕ, List, All, codes}
use Rattle.std.specs.Str.Parse.{IsNumeral, digits_value}
use Rattle.coap_run.specs.declared.running.event.Side.{Side}
use Rattle.coap_run.specs.declared.running.event.Side.TheVariants as side
use Rattle.coap_types.specs.declared.request.Method.{Method}
use Rattle.coap_types.specs.declared.request.Method.TheVariants.{Get, Post, Put, Delete}
use Rattle.coap_scripts.specs.declared.script.words.Kind.{Kind}
use Rattle.coap_scripts.specs.declared.script.words.Kind.TheVariants as kind

-- the byte is not in the text
abbrev pub Lacks : ℕ → List ℕ → Type 0
Lacks byte text = All (λ x. x ≢ byte) text

-- the text is a part without this byte, the byte, and another part
abbrev pub IsCut : ℕ → List ℕ → List ℕ → List ℕ → Type 0
IsCut byte text first rest = (text ≡ first ++ byte ∷ rest) × Lacks byte first

-- the text ends with this word, and has no other
abbrev pub IsWord : List ℕ → Type 0
IsWord text = Lacks 32 text

-- decimal digits, and nothing else, say a number of 64 bits
abbrev pub SaysNumber : List ℕ → ℕ → Type 0
SaysNumber word n = IsNumeral 10 word × (digits_value 10 word ≡ n) × (n < 2 ^ 64)

-- by which word an end is named
abbrev pub side_word : Side → List ℕ
side_word side.Client = codes "client"
side_word side.Server = codes "server"

-- by which word a method is named
abbrev pub method_word : Method → List ℕ
method_word Get = codes "get"
method_word Post = codes "post"
method_word Put = codes "put"
method_word Delete = codes "delete"

-- by which word a kind of event is named
abbrev pub kind_word : Kind → List ℕ
kind_word kind.Call = codes "call"
kind_word kind.Observe = codes "observe"
kind_word kind.Cancel = codes "cancel"
kind_word kind.Forget = codes "forget"
kind_word kind.Set = codes "set"
kind_word kind.Remove = codes "remove"
kind_word kind.Tick = codes "tick"
kind_word kind.Deliver = codes "deliver"
kind_word kind.Stranger = codes "stranger"
