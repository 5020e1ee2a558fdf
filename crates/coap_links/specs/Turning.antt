-- A turn of an end over a link: it is pumped once, and then ticked until nothing is due.
use Rattle.std.specs.Prelude.{ℕ, Bool, true, false, List, ◌≡◌, ◌⊎◌, ◌+◌, ◌%◌, ◌^◌, if◌then◌else◌, Option}
use Rattle.std.specs.Prelude.{Result}
use Rattle.std.specs.Prelude.{Ok, Err}
use Rattle.std.specs.declared.alloc.AllocError.{AllocError}
use Rattle.coap_types.specs.declared.endpoint.Endpoint.{Endpoint}
use Rattle.coap_layer.specs.Trace as layer
use Rattle.coap_links.specs.Carried.{Packet}
use Rattle.coap_links.specs.Faults.{raised}
use Rattle.coap_links.specs.Pumping.{Pumps}
use Rattle.coap_links.specs.declared.driver.Pumped.{Pumped}
use Rattle.coap_links.specs.declared.tally.Tally.{Tally}

-- the word of the next call: after each feed and each tick it is one more, wrapping
abbrev pub next_word : Tally → ℕ
next_word t = (t.word + 1) % 2 ^ 64

-- a call was handed its word
abbrev pub worded : Tally → Tally
worded t = record t { word = next_word t }

-- .. and was refused memory
abbrev pub refused : Tally → Tally
refused t = record (worded t) { refused = raised t.refused }

-- .. and fed a datagram
abbrev pub fed : Tally → Tally
fed t = record (worded t) { fed = raised t.fed }

-- a pump hands a word to its feed, where there was one; what the link failed to send or to receive counts for nothing
abbrev pub counted : Pumped → Tally → Tally
counted p t = if p.fed then fed t else t

-- .. and one that is refused memory
abbrev pub pumped : {X : Type 0} → Result Pumped X → Tally → Tally
pumped (Ok p) t = counted p t
pumped (Err x) t = refused t

-- so many ticks, each of which did something
pub data Steps {E : Type 0} (ticks : E → ℕ → ℕ → Bool → E → Type 0) (e : E) (now : ℕ) (t : Tally) : E → Tally
    → Type 0 where
  none : Steps ticks e now t e t
  further : (g : E) (v : Tally) (f : E) → Steps ticks e now t g v → ticks g now (next_word v) true f
      → Steps ticks e now t f (worded v)

-- the last tick: nothing was due, or it was refused memory, as it takes some
abbrev pub Rests : {E : Type 0} → (E → ℕ → Type 0) → (E → ℕ → ℕ → Bool → E → Type 0) → E → ℕ → Tally → E → Tally
    → Type 0
Rests quiet ticks e now t f u =
    (ticks e now (next_word t) false f × (u ≡ worded t)) ⊎ ((quiet e now → ⊥) × (f ≡ e) × (u ≡ refused t))

-- ticks, each of which did something but the last
abbrev pub TicksOut : {E : Type 0} → (E → ℕ → Type 0) → (E → ℕ → ℕ → Bool → E → Type 0) → E → ℕ → Tally → E → Tally
    → Type 0
TicksOut quiet ticks e now t f u = (g : _) × (v : Tally) × Steps ticks e now t g v × Rests quiet ticks g now v f u

-- the turn (`quiet_feed` and `quiet_tick` are that a feed and a tick take no memory, `faults` is how many calls of the
-- link failed)
unfoldable pub Turns : {E L : Type 0} → (E → List layer.Packet) → (E → layer.Packet → E → Type 0)
    → (L → Endpoint → List ℕ → L → Type 0) → (L → Option Packet → L → Type 0) → (L → ℕ)
    → (E → ℕ → Endpoint → List ℕ → Type 0) → (E → ℕ → Endpoint → List ℕ → ℕ → E → Type 0)
    → (E → ℕ → Type 0) → (E → ℕ → ℕ → Bool → E → Type 0)
    → E → L → ℕ → Tally → E → L → Tally → Type 0
Turns waiting gives sends receives faults quiet_feed feeds quiet_tick ticks e l now t f m u =
    (g : _) × (result : Result Pumped AllocError)
    × Pumps waiting gives sends receives faults quiet_feed feeds e l now (next_word t) result g m
    × TicksOut quiet_tick ticks g now (pumped result t) f u
