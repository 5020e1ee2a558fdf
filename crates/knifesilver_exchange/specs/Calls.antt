-- Which call of the exchanges an export makes, by what it was handed and answered.
use Rattle.std.specs.Prelude.{◌≡◌, ◌<◌, ◌≤◌, ◌⊎◌, ◌^◌, max, ℕ, ℤ, pos, Bool, List, Option}
use Rattle.std.specs.Prelude.{Some, None}
use Rattle.coap_types.specs.declared.endpoint.Endpoint.{Endpoint}
use Rattle.coap_codec.specs.Message.{Message, Spells}
use Rattle.coap_layer.specs.Trace as below
use Rattle.coap_exchange.specs.declared.answerer.Asked.{Asked}
use Rattle.coap_exchange.specs.declared.answerer.Due.{Due}
use Rattle.coap_exchange.specs.declared.answerer.Due.TheVariants as due
use Rattle.coap_exchange.specs.AnswererTrace.{Response, Call, Incoming, Answers, Defers, Ticks, Responds, Take}
use Rattle.coap_exchange.specs.AnswererLaw.{Led}
use Rattle.coap_exchange.specs.Machine.Rests.{AnswererRests, AnswererTurns}
use Rattle.coap_layer.specs.declared.setup.Setup.{Setup}
use Rattle.coap_handlers.specs.Shown.{Shown}
use Rattle.coap_handlers.specs.Refusals.{IsAnswerRefused, IsDeferRefused, IsRespondRefused}
use Rattle.coap_handlers.specs.declared.refusal.AnswerRefusal.{AnswerRefusal}
use Rattle.knifesilver_exchange.specs.declared.crossing.KsAddress.{KsAddress}
use Rattle.knifesilver_exchange.specs.declared.crossing.KsAsked.{KsAsked}
use Rattle.knifesilver_exchange.specs.declared.crossing.KsRequest.{KsRequest}
use Rattle.knifesilver_exchange.specs.Crossing.{AreAsked, IsRequest}
use Rattle.knifesilver_exchange.specs.Outgoing.{OutAnswers}

-- what is sent: the code, the options and the payload of a message; its type, Message ID and token count for nothing
abbrev pub response_in : Message → Response
response_in m = record { code = m.code; options = m.options; payload = m.payload }

-- a request was handed up, and is told; or none was, and the answer is 0
abbrev pub FeedAnswers : ℤ → KsRequest → Option (Asked × Message) → Type 0
FeedAnswers answer told None = answer ≡ pos 0
FeedAnswers answer told (Some came) = (answer ≡ pos 1) × IsRequest told came.0 came.1

abbrev pub IsFeed : ℕ → Endpoint → List ℕ → ℤ → KsRequest → Call → Type 0
IsFeed now from bytes answer told call = (up : below.Answer) × (came : Option (Asked × Message))
    × FeedAnswers answer told came × (call ≡ Incoming now from bytes up came)

-- the answer to the request that is told, as the message says
abbrev pub IsAnswer : KsAsked → List ℕ → Call → Type 0
IsAnswer told message call = (a : Asked) × (m : Message) × (sent : below.Answer)
    × AreAsked told a × Spells message m × (call ≡ Answers a (response_in m) sent)

abbrev pub RefusesAnswer : KsAsked → List ℕ → AnswerRefusal → Shown → Type 0
RefusesAnswer told message why s = (a : Asked) × (m : Message)
    × AreAsked told a × Spells message m × IsAnswerRefused why s a (response_in m)

-- its deferral, and that of one request too many
abbrev pub IsDefer : ℕ → KsAsked → ℕ → Bool → Call → Type 0
IsDefer now told delay answer call = (a : Asked) × AreAsked told a × (call ≡ Defers now a delay answer)

abbrev pub RefusesDefer : KsAsked → AnswerRefusal → Shown → Type 0
RefusesDefer told why s = (a : Asked) × AreAsked told a × IsDeferRefused why s a

-- the answer to a deferred request, as the message says
abbrev pub IsRespond : KsAsked → List ℕ → ℕ → Call → Type 0
IsRespond told message word call = (a : Asked) × (m : Message) × (now : ℕ) × (id : ℕ)
    × AreAsked told a × Spells message m × (call ≡ Responds now a (response_in m) word id)

abbrev pub RefusesRespond : KsAsked → List ℕ → AnswerRefusal → Shown → Type 0
RefusesRespond told message why s = (a : Asked) × (m : Message)
    × AreAsked told a × Spells message m × IsRespondRefused why s a (response_in m)

-- what a tick did: 0 where nothing was due, 1 where something was, 2 where the request that is told is ready
abbrev pub TickAnswers : ℤ → KsAsked → Due → Type 0
TickAnswers answer told due.Idle = answer ≡ pos 0
TickAnswers answer told due.Copied = answer ≡ pos 1
TickAnswers answer told due.Expired = answer ≡ pos 1
TickAnswers answer told (due.Ready a) = (answer ≡ pos 2) × AreAsked told a

abbrev pub IsTick : ℕ → ℤ → KsAsked → Call → Type 0
IsTick now answer told call = (done : below.Answer) × (room : Bool) × (due : Due)
    × TickAnswers answer told due × (call ≡ Ticks now done room due)

-- a datagram is taken to be sent, and is told
abbrev pub IsNextOut : ℤ → KsAddress → (room : List ℕ) (len : ℕ) → Call → Type 0
IsNextOut answer to room len call =
    (next : Option below.Packet) × OutAnswers answer to room len next × (call ≡ Take next)

-- when a tick is due: never, where the answer is 0; and else at that moment, before which nothing is due
abbrev pub IsDue : ℕ → ℤ → ℕ → Shown → Type 0
IsDue now answer at s =
    ((answer ≡ pos 0) × ((later : ℕ) → now ≤ later → later < 2 ^ 64 → AnswererRests s.state later))
    ⊎ ((answer ≡ pos 1)
    × ((later : ℕ) → now ≤ later → max s.state.own.clock later < at → AnswererRests s.state later)
    × ((setup : Setup) (t : List Call) → Led setup t s.state → AnswererTurns s.state at))
