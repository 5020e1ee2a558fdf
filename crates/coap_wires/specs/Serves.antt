-- How a server serves: turn after turn, until so many datagrams were fed; then what is out is sent.
use Rattle.std.specs.Prelude.{◌≤◌, ◌<◌, ℕ}
use Rattle.coap_links.specs.declared.tally.Tally.{Tally}

-- before the first turn, with this word
abbrev pub nothing_fed : ℕ → Tally
nothing_fed word = record { word = word; fed = 0; refused = 0 }

-- (`tells` is which moments a clock tells, `turn` what a turn does, and `bears` where the program goes on after one)
module _ {C E L : Type 0} (tells : C → ℕ → C → Type 0) (turn : E → L → ℕ → Tally → E → L → Tally → Type 0)
    (bears : L → Tally → Type 0) where
  -- One turn after another of an end over a link: each where fewer datagrams were fed, and at the moment that the clock
  -- tells then; and the program bears what failed by the end of it.
  pub data Turning (count : ℕ) (b : C) (e : E) (l : L) (t : Tally) : C → E → L → Tally → Type 0 where
    none : Turning count b e l t b e l t
    further : (c : C) (g : E) (k : L) (v : Tally) (now : ℕ) (d : C) (f : E) (m : L) (u : Tally)
        → Turning count b e l t c g k v → v.fed < count → tells c now d → turn g k now v f m u → bears m u
        → Turning count b e l t d f m u

  -- such turns lead to where so many were fed
  abbrev pub Feeds : (count word : ℕ) → C → E → L → C → E → L → Type 0
  Feeds count word b e l d f m = (t : Tally) × Turning count b e l (nothing_fed word) d f m t × (count ≤ t.fed)

  -- .. and then what is out is sent
  abbrev pub Serves : (sends : E → L → E → L → Type 0) → (count word : ℕ) → C → E → L → C → E → L → Type 0
  Serves sends count word b e l d f m = (g : E) × (k : L) × Feeds count word b e l d g k × sends g k f m
