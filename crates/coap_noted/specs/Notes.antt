-- What a server took since that was asked last.
use Rattle.std.specs.Prelude.{◌≡◌, ◌≢◌, ◌⊎◌, ◌≤◌, ◌<◌, ◌+◌, ◌-◌, ◌^◌, ℕ, max, Bool, true, false, Option, Some, None}
use Rattle.std.specs.Prelude.{List, [], ◌∷◌, ◌++◌}
use Rattle.coap_journal.specs.Input.{Input, spelled}
use Rattle.coap_journal.specs.Numbers.{number}
use Rattle.coap_server.specs.Led.{State}
use Rattle.coap_server.specs.Turns.WhenDue.{TicksDo, latest}

-- the latest moment that was handed in, how many datagrams were given out since, and the inputs since, spelled
pub record Note : Type 0 where
  pub moment : ℕ
  pub taken : ℕ
  pub inputs : List ℕ

-- an input more, which was handed in at this moment
abbrev pub with_input : Input → ℕ → Note → Note
with_input input now n = record { moment = max n.moment now; taken = n.taken; inputs = n.inputs ++ spelled input }

-- .. where notes are kept
abbrev pub noted_with : Input → ℕ → Option Note → Option Note
noted_with input now None = None
noted_with input now (Some n) = Some (with_input input now n)

-- a datagram more was given out, where there was one
abbrev pub given_with : Bool → Option Note → Option Note
given_with some None = None
given_with false (Some n) = Some n
given_with true (Some n) = Some (record { moment = n.moment; taken = n.taken + 1; inputs = n.inputs })

-- how many datagrams can be counted
abbrev pub most : ℕ
most = 2 ^ 64 - 1

-- there are inputs that weren't handed out; or no further datagram can be counted
abbrev pub Waits : Note → Type 0
Waits n = (n.inputs ≢ []) ⊎ (n.taken ≡ most)

abbrev pub IsUntold : Option Note → Type 0
IsUntold None = ⊥
IsUntold (Some n) = Waits n

-- the turn that the next frame of a journal is to hold
abbrev pub turn_in : Note → List ℕ
turn_in n = 9 ∷ (number n.moment ++ (number n.taken ++ n.inputs))

-- what is handed out: nothing where no notes are kept or there is no input, and else that turn
abbrev pub told_of : Note → List ℕ → Option (List ℕ)
told_of n [] = None
told_of n (byte ∷ bytes) = Some (turn_in n)

abbrev pub told_in : Option Note → Option (List ℕ)
told_in None = None
told_in (Some n) = told_of n n.inputs

-- .. after which the notes begin anew
abbrev pub begun_anew : Option Note → Option Note
begun_anew None = None
begun_anew (Some n) = Some (record { moment = n.moment; taken = 0; inputs = [] })

-- a tick does something by this moment
abbrev pub IsDue : ℕ → State → Type 0
IsDue now s = (at : ℕ) × (latest s ≤ at) × (at ≤ now) × TicksDo true s at

-- no tick does anything up to this moment
abbrev pub IsNotDue : ℕ → State → Type 0
IsNotDue now s = (at : ℕ) → at < 2 ^ 64 → max (latest s) at ≤ now → TicksDo false s at
