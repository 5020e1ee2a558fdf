-- What a server's loop calls in a turn over a link: what is out is taken and handed to the link, what the link gives is
-- fed, and then it is ticked; all at the moment of the turn.
use Rattle.std.specs.Prelude.{◌≡◌, ◌≢◌, ◌⊎◌, ◌<◌, ℕ, ◌^◌, max, Bool, Option, Some, None, List, []}
use Rattle.coap_layer.specs.Machine.State.{answer_of, copies, made}
use Rattle.coap_layer.specs.Machine.Ups.{IsQuiet}
use Rattle.coap_server.specs.Turns.Idle.{IsIdle, moment}
use Rattle.coap_types.specs.Past.{Always, Ever}
use Rattle.coap_types.specs.declared.endpoint.Endpoint.{Endpoint}
use Rattle.coap_codec.specs.Message.{Message}
use Rattle.coap_layer.specs.Trace as L
use Rattle.coap_exchange.specs.declared.answerer.Asked.{Asked}
use Rattle.coap_exchange.specs.declared.answerer.Due.{Due}
use Rattle.coap_links.specs.Carried.{Packet}
use Rattle.coap_server.specs.Led.{State, Step}
use Rattle.coap_server.specs.Trace as S
use Rattle.coap_programs.specs.Programs.{Leads}

-- a server as an end of a link (coap_ends, `impl End for Server`)

abbrev pub waiting : State → List L.Packet
waiting s = s.layer.queue

abbrev pub gives : State → L.Packet → State → Type 0
gives s p n = Step s (S.NextOut (Some p)) n

abbrev pub feeds : State → ℕ → Endpoint → List ℕ → ℕ → State → Type 0
feeds s now from bytes word n = (up : L.Answer) × (came : Option (Asked × Message)) × (h : S.Handling)
    × (sent : L.Answer) × Step s (S.Feeds now from bytes word up came h sent) n

abbrev pub ticks : State → ℕ → ℕ → Bool → State → Type 0
ticks s now word did n = (done : L.Answer) × (room : Bool) × (due : Due) × (passed : ℕ) × (h : S.Handling)
    × (id : ℕ) × Step s (S.Ticks now word done room due passed h id did) n

abbrev pub quiet_feed : State → ℕ → Endpoint → List ℕ → Type 0
quiet_feed s now from bytes = IsQuiet (made s.layer (max s.own.clock now) (L.Receive from bytes))

-- nothing is to be sent; or no copy is due, but a failure
abbrev pub quiet_tick : State → ℕ → Type 0
quiet_tick s now = IsIdle s now ⊎ ((copies (moment s now) s.layer.open_cons ≡ [])
    × (answer_of s.layer (moment s now) L.Ticks ≢ L.Idle))

-- a call of a turn: at its moment, with a word of 64 bits; what is fed came of the link, what is taken waited before
abbrev pub IsOfTurn : ℕ → Option Packet → List L.Packet → S.Call → Type 0
IsOfTurn now came sent (S.Feeds n from bytes word up asked h below) = (n ≡ now) × (word < 2 ^ 64)
    × (came ≡ Some (from, bytes))
IsOfTurn now came sent (S.Ticks n word below room due passed h id answer) = (n ≡ now) × (word < 2 ^ 64)
IsOfTurn now came sent (S.NextOut None) = ⊥
IsOfTurn now came sent (S.NextOut (Some p)) = Ever (λ q. q ≡ p) sent
IsOfTurn now came sent (S.Sets n path format body answer left) = ⊥
IsOfTurn now came sent (S.Removes n path answer left) = ⊥
IsOfTurn now came sent (S.Delays path ms answer) = ⊥
IsOfTurn now came sent (S.Plains path answer) = ⊥
IsOfTurn now came sent (S.Refuses n from bytes word code up asked response below) = ⊥
IsOfTurn now came sent (S.Gets path answer) = ⊥
IsOfTurn now came sent (S.TellsApplied answer) = ⊥
IsOfTurn now came sent (S.Forgets peer) = ⊥

module _ {Li : Type 0} (receives : Li → Option Packet → Li → Type 0) where
  -- the calls of a turn that led from one state to the other, over a link
  pub record TurnCalls (old : State) (now : ℕ) (new : State) (after : Li) : Type 0 where
    pub calls : List S.Call
    pub leads : Leads old calls new
    pub came : Option Packet
    pub between : Li
    pub received : receives between came after
    pub each : Always (λ past c. IsOfTurn now came (waiting old) c) calls
