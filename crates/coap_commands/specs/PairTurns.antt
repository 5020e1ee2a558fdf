-- How a client and its server in one process take turns, each over its own link.
use Rattle.std.specs.Prelude.{ℕ}
use Rattle.coap_client.specs.Led.{State, Step}
use Rattle.coap_client.specs.Trace.{Call}
use Rattle.coap_links.specs.declared.tally.Tally.{Tally}
use Rattle.coap_waits.specs.Asks.{Turned}
use Rattle.coap_waits.specs.Linked.{PassesNothing}
use Rattle.coap_commands.specs.declared.side.Side.{Side}

-- An end has a turn over its link at the moment that a clock tells, and then what is out is sent. (`tells` is which
-- moments a clock tells, `turn` what a turn does, and `sends` what sending does.)
abbrev pub TakesTurn : {C E L : Type 0} → (tells : C → ℕ → C → Type 0)
    → (turn : E → L → ℕ → Tally → E → L → Tally → Type 0) → (sends : E → L → E → L → Type 0)
    → C → E → L → Tally → C → E → L → Tally → Type 0
TakesTurn {C} {E} {L} tells turn sends b e l t c f m u =
    (now : ℕ) × tells b now c × (g : E) × (k : L) × turn e l now t g k u × sends g k f m

-- so has the end of a side (`state` is its state)
abbrev pub SideTurns : {C E S L : Type 0} → (tells : C → ℕ → C → Type 0)
    → (turn : S → L → ℕ → Tally → S → L → Tally → Type 0) → (sends : S → L → S → L → Type 0) → (state : E → S)
    → C → Side E L → C → Side E L → Type 0
SideTurns tells turn sends state b x c y =
    TakesTurn tells turn sends b (state x.end.now) x.link.now x.tally c (state y.end.now) y.link.now y.tally

module _ {T C X : Type 0} (client_turn : T → State → C → Tally → T → State → C → Tally → Type 0)
    (server_turn : T → X → T → X → Type 0) where
  -- the client has a turn, and then its server, again and again; nothing passes at the client in between
  pub data Alternate (b : T) (e : State) (l : C) (t : Tally) (x : X) : T → State → C → Tally → X → Type 0 where
    none : Alternate b e l t x b e l t x
    further : (c : T) (f : State) (m : C) (u : Tally) (y : X) (d : T) (g : State) (n : C) (v : Tally) (h : State)
        (r : T) (z : X) → Alternate b e l t x c f m u y → client_turn c f m u d g n v → Turned PassesNothing g h
        → server_turn d y r z → Alternate b e l t x r h n v z

  -- .. and then the client has one, behind which it is called so
  abbrev pub EndsWith : Call → T → State → C → Tally → X → T → State → C → Tally → X → Type 0
  EndsWith call b e l t x d h n v y =
      (c : T) × (f : State) × (m : C) × (u : Tally) × Alternate b e l t x c f m u y
      × (g : State) × client_turn c f m u d g n v × Step g call h
