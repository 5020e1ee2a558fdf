-- Turns of a client that may be given up: each but the last is in time.
use Rattle.std.proofs.Common.{◌≡◌, ◌-◌, ℕ, List, [], ◌∷◌, Option, Some, None, refl, sym, subst}
use Rattle.coap_client.specs.Led.{State}
use Rattle.coap_client.specs.Trace.{Asked, Call, Calls, Cancels, Feeds, Forgets, NextOut, NextReport, Ticks}
use Rattle.coap_client.specs.Trace.{Observes as observes}
use Rattle.coap_waits.specs.Asks.{AsksNothing, Each, Turned, TurnsAt, TurnsInTime}
use Rattle.coap_wires.specs.Waiting.{HasLasted, HasPassed}

pub not_lasted : (give_up : Option ℕ) (begin now : ℕ)
    → ((n : ℕ) → give_up ≡ Some n → HasPassed n begin now → ⊥) → HasLasted give_up (now - begin) → ⊥
not_lasted None begin now none h = h
not_lasted (Some n) begin now none h = none n refl h

in_time : (give_up : Option ℕ) (begin now : ℕ) → (HasLasted give_up (now - begin) → ⊥) → (c : Call) → TurnsAt now c
    → TurnsInTime give_up begin c
in_time give_up begin now early (Calls n request answer) h = absurd h
in_time give_up begin now early (observes n path answer) h = absurd h
in_time give_up begin now early (Cancels n of answer) h = absurd h
in_time give_up begin now early (Forgets of kept answer) h = absurd h
in_time give_up begin now early (Feeds n from bytes word up settled event sent token kept) h =
    subst (λ (m : ℕ). HasLasted give_up (m - begin) → ⊥) (sym h) early
in_time give_up begin now early (Ticks n word below turn sent token kept answer) h =
    subst (λ (m : ℕ). HasLasted give_up (m - begin) → ⊥) (sym h) early
in_time give_up begin now early (NextOut answer) h = tt
in_time give_up begin now early (NextReport answer) h = tt
in_time give_up begin now early (Asked answer) h = absurd h

each_in_time : (give_up : Option ℕ) (begin now : ℕ) → (HasLasted give_up (now - begin) → ⊥) → (calls : List Call)
    → Each (TurnsAt now) calls → Each (TurnsInTime give_up begin) calls
each_in_time give_up begin now early [] h = tt
each_in_time give_up begin now early (c ∷ calls) h =
    (in_time give_up begin now early c h.0, each_in_time give_up begin now early calls h.1)

-- a turn at a moment that is in time
pub turned_in_time : (give_up : Option ℕ) (begin now : ℕ) (old new : State)
    → ((n : ℕ) → give_up ≡ Some n → HasPassed n begin now → ⊥) → Turned (TurnsAt now) old new
    → Turned (TurnsInTime give_up begin) old new
turned_in_time give_up begin now old new none h =
    (h.0, each_in_time give_up begin now (not_lasted give_up begin now none) h.0 h.1, h.2)

-- ---- such turns ask the client for nothing

pub nothing_at : (now : ℕ) (c : Call) → TurnsAt now c → AsksNothing c
nothing_at now (Calls n request answer) h = absurd h
nothing_at now (observes n path answer) h = absurd h
nothing_at now (Cancels n of answer) h = absurd h
nothing_at now (Forgets of kept answer) h = absurd h
nothing_at now (Feeds n from bytes word up settled event sent token kept) h = tt
nothing_at now (Ticks n word below turn sent token kept answer) h = tt
nothing_at now (NextOut answer) h = tt
nothing_at now (NextReport answer) h = tt
nothing_at now (Asked answer) h = absurd h

pub nothing_in_time : (give_up : Option ℕ) (begin : ℕ) (c : Call) → TurnsInTime give_up begin c → AsksNothing c
nothing_in_time give_up begin (Calls n request answer) h = absurd h
nothing_in_time give_up begin (observes n path answer) h = absurd h
nothing_in_time give_up begin (Cancels n of answer) h = absurd h
nothing_in_time give_up begin (Forgets of kept answer) h = absurd h
nothing_in_time give_up begin (Feeds n from bytes word up settled event sent token kept) h = tt
nothing_in_time give_up begin (Ticks n word below turn sent token kept answer) h = tt
nothing_in_time give_up begin (NextOut answer) h = tt
nothing_in_time give_up begin (NextReport answer) h = tt
nothing_in_time give_up begin (Asked answer) h = absurd h

pub each_as : (like other : Call → Type 0) → ((c : Call) → like c → other c) → (calls : List Call) → Each like calls
    → Each other calls
each_as like other on [] h = tt
each_as like other on (c ∷ calls) h = (on c h.0, each_as like other on calls h.1)
