-- Which call of a server an export makes, by what the export was handed and answered.
use Rattle.std.specs.Prelude.{◌≡◌, ◌≢◌, ◌<◌, ◌⊎◌, ◌^◌, ◌+◌, max, nat_lt, ℕ, ℤ, pos, negsuc, Bool, true, false, List}
use Rattle.std.specs.Prelude.{length, take}
use Rattle.std.specs.Prelude.{Option, Some, None, Result, Ok, Err, is_some}
use Rattle.coap_types.specs.declared.endpoint.Endpoint.{Endpoint}
use Rattle.coap_codec.specs.Message.{Message}
use Rattle.coap_layer.specs.Trace as below
use Rattle.coap_resource.specs.Content.{Content, refusal_number}
use Rattle.coap_resource.specs.Content as resource
use Rattle.coap_resource.specs.declared.refusal.StoreRefusal.{StoreRefusal}
use Rattle.coap_exchange.specs.declared.answerer.Asked.{Asked}
use Rattle.coap_exchange.specs.declared.answerer.Due.{Due}
use Rattle.coap_server.specs.Led.{State}
use Rattle.coap_server.specs.Refusing.{refused_or_fed}
use Rattle.coap_server.specs.Trace.{Applied, Call, Delays, Feeds, Handling, NextOut, Plains, Removes, Sets}
use Rattle.coap_server.specs.Trace.{TellsApplied, Ticks}
use Rattle.coap_server.specs.Turns.WhenDue.{TicksDo, latest}
use Rattle.knifesilver.specs.declared.crossing.KsAddress.{KsAddress}
use Rattle.knifesilver.specs.declared.held.Held.{Held}
use Rattle.knifesilver.specs.declared.server.getting.KsRepresentation.{KsRepresentation}
use Rattle.knifesilver.specs.declared.server.out.KsApplied.{KsApplied}
use Rattle.knifesilver.specs.Answers.{told}
use Rattle.knifesilver.specs.Applied.{AppliedAnswers, IsLongPath}
use Rattle.knifesilver.specs.Formats.{number_of}
use Rattle.knifesilver.specs.Outgoing.{OutAnswers}
use Rattle.knifesilver.specs.ServerHeld.{HoldsServerIn, IsNoted, Made, notes_in}
use Rattle.coap_journal.specs.Input.{Set, Tick}
use Rattle.coap_noted.specs.Notes.{IsNotDue}

-- a datagram is fed
abbrev pub IsFeed : ℕ → Endpoint → List ℕ → ℕ → Call → Type 0
IsFeed now from bytes word call = (up : below.Answer) × (came : Option (Asked × Message)) × (h : Handling)
    × (sent : below.Answer) × (call ≡ Feeds now from bytes word up came h sent)

-- a datagram is taken whose request is to be refused with this code, and the answer says whether it brought one
abbrev pub IsRefuse : ℕ → Endpoint → List ℕ → (word code : ℕ) → ℤ → Call → Type 0
IsRefuse now from bytes word code answer call = (up : below.Answer) × (came : Option (Asked × Message))
    × (response : Option ℕ) × (sent : below.Answer) × (answer ≡ told (is_some came))
    × (call ≡ refused_or_fed now from bytes word code up came response sent)

-- a tick, and the answer says whether it did something
abbrev pub IsTick : ℕ → ℕ → ℤ → Call → Type 0
IsTick now word answer call = (done : below.Answer) × (room : Bool) × (due : Due) × (passed : ℕ) × (h : Handling)
    × (id : ℕ) × (did : Bool) × (answer ≡ told did) × (call ≡ Ticks now word done room due passed h id did)

-- .. and is made, and noted; or notes are kept and no tick is due, and nothing is done
abbrev pub Ticked : ℕ → ℕ → ℤ → Option Held → Option Held → Type 0
Ticked now word answer old new =
    ((answer ≡ pos 0) × (new ≡ old) × (notes_in old ≢ None) × HoldsServerIn (IsNotDue now) old)
    ⊎ (Made (IsTick now word answer) old new × IsNoted (Tick now word) now old new)

-- when a tick is due: never, where the answer is 0; and else at that moment, before which nothing is due
abbrev pub IsDue : ℤ → ℕ → State → Type 0
IsDue answer at s = ((answer ≡ pos 0) × ((now : ℕ) → now < 2 ^ 64 → TicksDo false s now))
    ⊎ ((answer ≡ pos 1) × ((now : ℕ) → max (latest s) now < at → TicksDo false s now) × TicksDo true s at)

-- a body was set: the answer is the one for that, and the version is told; or the answer is the number of the refusal
abbrev pub SetAnswers : (done answer : ℤ) (version : ℕ) → Result ℕ StoreRefusal → Type 0
SetAnswers done answer version (Ok number) = (answer ≡ done) × (version ≡ number)
SetAnswers done answer version (Err why) = answer ≡ pos (16 + refusal_number why)

-- the path is to hold the body (RFC 7252, section 5.8.3)
abbrev pub IsSet : ℕ → List (List ℕ) → Option ℕ → List ℕ → (done answer : ℤ) (version : ℕ) → Call → Type 0
IsSet now path format body done answer version call = (set : Result ℕ StoreRefusal) × (left : Content)
    × SetAnswers done answer version set × (call ≡ Sets now path format body set left)

-- the path holds this very body in this format
abbrev pub HoldsThat : List (List ℕ) → Option ℕ → List ℕ → ℕ → State → Type 0
HoldsThat path format body version s =
    s.own.store.holds path ≡ Some (record { version = version; format = format; body = body })

-- .. and where it does, an update changes nothing and answers 0 and the version; else the body is set, which answers 1
abbrev pub Updates : ℕ → List (List ℕ) → Option ℕ → List ℕ → (answer : ℤ) (version : ℕ) (old new : Option Held) → Type 0
Updates now path format body answer version old new =
    (HoldsServerIn (HoldsThat path format body version) old × (answer ≡ pos 0) × (new ≡ old))
    ⊎ (HoldsServerIn (λ s. (n : ℕ) → HoldsThat path format body n s → ⊥) old
    × Made (IsSet now path format body (pos 1) answer version) old new
    × IsNoted (Set now path format body) now old new)

-- whether there was something that was removed; or the answer is the number of the refusal
abbrev pub RemoveAnswers : ℤ → Result Bool StoreRefusal → Type 0
RemoveAnswers answer (Ok held) = answer ≡ told held
RemoveAnswers answer (Err why) = answer ≡ pos (16 + refusal_number why)

-- what the path holds is to be removed (RFC 7252, section 5.8.4)
abbrev pub IsRemove : ℕ → List (List ℕ) → ℤ → Call → Type 0
IsRemove now path answer call = (removed : Result Bool StoreRefusal) × (left : Content)
    × RemoveAnswers answer removed × (call ≡ Removes now path removed left)

-- 0 where it was done, and else this number
abbrev pub or_full : Bool → ℕ → ℤ
or_full true number = pos 0
or_full false number = pos number

-- the requests of the path are to wait (RFC 7252, section 5.2.2); the answer is 48 where too many other paths have a delay
abbrev pub IsDelay : List (List ℕ) → ℕ → ℤ → Call → Type 0
IsDelay path ms answer call = (given : Bool) × (answer ≡ or_full given 48) × (call ≡ Delays path ms given)

-- the notifications of the path are to go in NONs (RFC 7641, section 4.5); the answer is 49 where too many other paths are
-- plain
abbrev pub IsPlain : List (List ℕ) → ℤ → Call → Type 0
IsPlain path answer call = (given : Bool) × (answer ≡ or_full given 49) × (call ≡ Plains path given)

-- what is told of what a path holds
abbrev pub representation_of : resource.Held → KsRepresentation
representation_of held =
    record { version = held.version; body_len = length held.body; format = number_of held.format }

-- what the path holds is told, and its body stands at the front of the room; or it holds nothing, and the answer is 0
abbrev pub GetAnswers : ℤ → KsRepresentation → List ℕ → Option resource.Held → Type 0
GetAnswers answer shown room None = answer ≡ pos 0
GetAnswers answer shown room (Some held) =
    (answer ≡ pos 1) × (shown ≡ representation_of held) × (take (length held.body) room ≡ held.body)

abbrev pub IsGot : List (List ℕ) → ℤ → KsRepresentation → List ℕ → State → Type 0
IsGot path answer shown room s = GetAnswers answer shown room (s.own.store.holds path)

-- .. or it is told, and its body is longer than the room
abbrev pub IsLong : KsRepresentation → ℕ → Option resource.Held → Type 0
IsLong shown room None = ⊥
IsLong shown room (Some held) = (shown ≡ representation_of held) × (room < length held.body)

abbrev pub IsTooLong : List (List ℕ) → KsRepresentation → ℕ → State → Type 0
IsTooLong path shown room s = IsLong shown room (s.own.store.holds path)

-- whether a datagram was taken, by the answer
abbrev pub is_given : ℤ → Bool
is_given (pos n) = nat_lt 0 n
is_given (negsuc n) = false

-- a datagram is taken to be sent, and is told
abbrev pub IsNextOut : ℤ → KsAddress → (room : List ℕ) (len : ℕ) → Call → Type 0
IsNextOut answer to room len call =
    (next : Option below.Packet) × OutAnswers answer to room len next × (call ≡ NextOut next)

-- what was applied last is asked for, and is told
abbrev pub IsApplied : ℤ → KsApplied → (room : List ℕ) → Call → Type 0
IsApplied answer told room call =
    (done : List Applied) × AppliedAnswers answer told room done × (call ≡ TellsApplied done)

-- .. or its path is longer than the room
abbrev pub IsAppliedLong : (room : ℕ) → Call → Type 0
IsAppliedLong room call = (done : List Applied) × IsLongPath room done × (call ≡ TellsApplied done)
