-- Which call of the exchanges an export of a client makes, by what it was handed and answered.
use Rattle.std.specs.Prelude.{◌≡◌, ◌<◌, ◌≤◌, ◌⊎◌, ◌^◌, max, ℕ, ℤ, pos, Bool, List, [], ◌∷◌, length, Option, Some, None}
use Rattle.std.specs.Prelude.{Result, Ok, Err}
use Rattle.coap_types.specs.MethodCode.{method_of}
use Rattle.coap_types.specs.declared.endpoint.Endpoint.{Endpoint}
use Rattle.coap_codec.specs.Message.{Message, Spells}
use Rattle.coap_layer.specs.Trace as below
use Rattle.coap_layer.specs.declared.setup.Setup.{Setup}
use Rattle.coap_exchange.specs.declared.asker.AskRefusal.{AskRefusal}
use Rattle.coap_exchange.specs.declared.asker.Event.{Event}
use Rattle.coap_exchange.specs.declared.asker.Event.TheVariants as event
use Rattle.coap_exchange.specs.declared.asker.Turn.{Turn}
use Rattle.coap_exchange.specs.declared.asker.Turn.TheVariants as turn
use Rattle.coap_exchange.specs.AskerLaw.{Led, Step}
use Rattle.coap_exchange.specs.AskerTrace.{Call, Request, Ask, Receive, Ticks, Keep, Release, Take}
use Rattle.coap_exchange.specs.Machine.AskerShown.{IsAskable}
use Rattle.coap_exchange.specs.Machine.Rests.{AskerRests, AskerTurns}
use Rattle.knifesilver_exchange.specs.Answers.{told}
use Rattle.knifesilver_exchange.specs.Numbers.{ask_number}
use Rattle.knifesilver_exchange.specs.Outgoing.{OutAnswers}
use Rattle.knifesilver_exchange.specs.ShortBytes.{AreIn}
use Rattle.knifesilver_exchange.specs.declared.crossing.KsAddress.{KsAddress}
use Rattle.knifesilver_exchange.specs.declared.crossing.KsAnswer.{KsAnswer}
use Rattle.knifesilver_exchange.specs.declared.crossing.KsToken.{KsToken}
use Rattle.knifesilver_exchange.specs.declared.held.OurAsker.{OurAsker}
use Rattle.knifesilver_exchange.specs.declared.numbers.TheConstants.{RESPONSE as response, NOTIFICATION as notification}
use Rattle.knifesilver_exchange.specs.declared.numbers.TheConstants.{TIMEOUT as timeout, RESET as reset}
use Rattle.knifesilver_exchange.specs.declared.numbers.TheConstants.{NO_RESPONSE as no_response}

-- what is asked: the code, the options and the payload of a message; one with a token cancels the observation that has
-- that token (RFC 7641, section 3.6)
abbrev pub cancelled : List ℕ → Option (List ℕ)
cancelled [] = None
cancelled (b ∷ bytes) = Some (b ∷ bytes)

abbrev pub request_in : Message → Request
request_in m = record { code = m.code; token = cancelled m.token; options = m.options; payload = m.payload }

-- it was sent: the answer is 0, and its token is told; or the answer is the number of the refusal
abbrev pub AskAnswers : ℤ → KsToken → Result (List ℕ) AskRefusal → Type 0
AskAnswers answer told (Ok token) = (answer ≡ pos 0) × AreIn token told.bytes told.len
AskAnswers answer told (Err why) = answer ≡ ask_number why

abbrev pub IsAsk : ℕ → Request → ℕ → ℤ → KsToken → Call → Type 0
IsAsk now request word answer told call = (under : below.Answer) × (token : Result (List ℕ) AskRefusal)
    × AskAnswers answer told token × (call ≡ Ask now request word under token)

-- .. as the message says
abbrev pub Asks : ℕ → List ℕ → ℕ → ℤ → KsToken → Call → Type 0
Asks now message word answer told call =
    (m : Message) × Spells message m × IsAsk now (request_in m) word answer told call

-- its code is that of no method, or it is longer than a message is (RFC 7252, sections 4.6 and 12.1.1)
abbrev pub IsNotAskable : Message → Type 0
IsNotAskable m = (method_of m.code ≡ None) ⊎ (IsAskable (request_in m) → ⊥)

abbrev pub SaysNoRequest : List ℕ → Type 0
SaysNoRequest message = (m : Message) × Spells message m × IsNotAskable m

-- what is told of a response, and of what is none
abbrev pub Carries : KsAnswer → Message → Type 0
Carries told m =
    (told.code ≡ m.code) × (told.payload_len ≡ length m.payload) × AreIn m.token told.token told.token_len

abbrev pub CarriesNone : KsAnswer → Type 0
CarriesNone told = (told.code ≡ 0) × (told.payload_len ≡ 0) × AreIn [] told.token told.token_len

abbrev pub IsTold : KsAnswer → Event → Type 0
IsTold told (event.Answer m) = (told.kind ≡ response) × Carries told m
IsTold told (event.Notice m) = (told.kind ≡ notification) × Carries told m
IsTold told event.Timeout = (told.kind ≡ timeout) × CarriesNone told
IsTold told event.Reset = (told.kind ≡ reset) × CarriesNone told
IsTold told event.NoResponse = (told.kind ≡ no_response) × CarriesNone told

-- what is to be told of an event
abbrev pub IsBrought : Option KsAnswer → Event → Type 0
IsBrought None e = ⊥
IsBrought (Some told) e = IsTold told e

-- a datagram that is fed brings something, and the answer is 1; or it does not, and the answer is 0
abbrev pub FeedBrings : ℤ → Option Event → Option KsAnswer → Type 0
FeedBrings answer None brought = (answer ≡ pos 0) × (brought ≡ None)
FeedBrings answer (Some e) brought = (answer ≡ pos 1) × IsBrought brought e

abbrev pub IsFed : ℕ → Endpoint → List ℕ → ℤ → OurAsker → OurAsker → Type 0
IsFed now from bytes answer a b = (up : below.Answer) × (settled : Bool) × (came : Option Event)
    × FeedBrings answer came b.brought × Step a.asker.state (Receive now from bytes up settled came) b.asker.state

-- a tick: nothing was due, and the answer is 0; or a copy went out, or the exchange ended, and the answer is 1
abbrev pub TickBrings : ℤ → Turn → Option KsAnswer → Type 0
TickBrings answer turn.Idle brought = (answer ≡ pos 0) × (brought ≡ None)
TickBrings answer turn.Copied brought = (answer ≡ pos 1) × (brought ≡ None)
TickBrings answer (turn.End e) brought = (answer ≡ pos 1) × IsBrought brought e

abbrev pub IsTicked : ℕ → ℤ → OurAsker → OurAsker → Type 0
IsTicked now answer a b = (under : below.Answer) × (did : Turn) × TickBrings answer did b.brought
    × Step a.asker.state (Ticks now under did) b.asker.state

-- what was brought is told, and does not wait any more
abbrev pub IsTaken : OurAsker → OurAsker → Type 0
IsTaken a b = (b.asker ≡ a.asker) × (b.brought ≡ None)

-- a token is kept, or kept no more, and the answer says whether (RFC 7641, section 3.2)
abbrev pub IsKeep : List ℕ → ℤ → Call → Type 0
IsKeep token answer call = (did : Bool) × (answer ≡ told did) × (call ≡ Keep token did)

abbrev pub IsRelease : List ℕ → ℤ → Call → Type 0
IsRelease token answer call = (did : Bool) × (answer ≡ told did) × (call ≡ Release token did)

-- a datagram is taken to be sent, and is told
abbrev pub IsAskerOut : ℤ → KsAddress → (room : List ℕ) (len : ℕ) → Call → Type 0
IsAskerOut answer to room len call =
    (next : Option below.Packet) × OutAnswers answer to room len next × (call ≡ Take next)

-- when a tick is due: never, where the answer is 0; and else at that moment, before which nothing is due
abbrev pub IsAskerDue : ℕ → ℤ → ℕ → OurAsker → Type 0
IsAskerDue now answer at a =
    ((answer ≡ pos 0) × ((later : ℕ) → now ≤ later → later < 2 ^ 64 → AskerRests a.asker.state later))
    ⊎ ((answer ≡ pos 1)
    × ((later : ℕ) → now ≤ later → max a.asker.state.own.clock later < at → AskerRests a.asker.state later)
    × ((server : Endpoint) (setup : Setup) (t : List Call) → Led server setup t a.asker.state
    → AskerTurns a.asker.state at))
