-- The calls of a table of names, each with its moment and its answer.
use Rattle.std.specs.Prelude.{ℕ, Bool}
use Rattle.coap_types.specs.declared.endpoint.Endpoint.{Endpoint}

-- a datagram came from this key; one goes to the key of this name; a name is held, so that it is not lost, and is
-- released; and the key of a name never comes again
pub data Call (K : Type 0) : Type 0 where
  NameOf : (key : K) → Call K
  Sent : (name : Endpoint) → Call K
  Hold : (name : Endpoint) → Call K
  Release : (name : Endpoint) → Call K
  Retire : (name : Endpoint) → Call K

-- the name; no place is free; all names are used up; whether it was done
pub data Answer : Type 0 where
  Named : (name : Endpoint) → Answer
  Full : Answer
  Spent : Answer
  Did : (done : Bool) → Answer

-- one call, at the moment that counts: one before the last counts as the last
pub record Entry (K : Type 0) : Type 0 where
  pub at : ℕ
  pub call : Call K
  pub answer : Answer
