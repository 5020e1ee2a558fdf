-- Which call of a client an export makes, by what the export was handed and answered.
use Rattle.std.specs.Prelude.{◌≡◌, ◌<◌, ◌⊎◌, ◌^◌, ◌+◌, max, ℕ, ℤ, pos, Bool, true, false, List, map, take}
use Rattle.std.specs.Prelude.{Option, Some, None, Result, Ok, Err}
use Rattle.std.specs.Option.{option_map}
use Rattle.coap_types.specs.MethodCode.{method_of}
use Rattle.coap_types.specs.declared.endpoint.Endpoint.{Endpoint}
use Rattle.coap_types.specs.declared.request.Method.{Method}
use Rattle.coap_layer.specs.Trace as below
use Rattle.coap_exchange.specs.declared.asker.AskRefusal.{AskRefusal}
use Rattle.coap_exchange.specs.declared.asker.Event.{Event}
use Rattle.coap_exchange.specs.declared.asker.Turn.{Turn}
use Rattle.coap_client.specs.declared.refusals.CallRefusal.{CallRefusal}
use Rattle.coap_client.specs.declared.refusals.CancelRefusal.{CancelRefusal}
use Rattle.coap_client.specs.Led.{State}
use Rattle.coap_client.specs.RefusalNumbers.{call_refusal_number, cancel_refusal_number}
use Rattle.coap_client.specs.Trace.{Call, Calls, Cancels, Feeds, Forgets, NextOut, Observes, Request, Ticks}
use Rattle.coap_client.specs.Turns.Due.{TicksDo, latest}
use Rattle.knifesilver.specs.declared.client.calls.KsRequest.{KsRequest}
use Rattle.knifesilver.specs.declared.client.calls.KsTag.{KsTag}
use Rattle.knifesilver.specs.declared.crossing.KsAddress.{KsAddress}
use Rattle.knifesilver.specs.declared.held.Held.{Held}
use Rattle.knifesilver.specs.Answers.{told}
use Rattle.knifesilver.specs.ClientHeld.{Made}
use Rattle.knifesilver.specs.Formats.{format_in}
use Rattle.knifesilver.specs.Outgoing.{OutAnswers}

-- a datagram is fed
abbrev pub IsFeed : ℕ → Endpoint → List ℕ → ℕ → Call → Type 0
IsFeed now from bytes word c = (up : below.Answer) × (settled : Bool) × (event : Option Event) × (sent : below.Answer)
    × (token : Result (List ℕ) AskRefusal) × (kept : Bool)
    × (c ≡ Feeds now from bytes word up settled event sent token kept)

-- a tick, and the answer says whether it did something
abbrev pub IsTick : ℕ → ℕ → ℤ → Call → Type 0
IsTick now word answer c = (under : below.Answer) × (due : Turn) × (sent : below.Answer)
    × (token : Result (List ℕ) AskRefusal) × (kept : Bool) × (did : Bool) × (answer ≡ told did)
    × (c ≡ Ticks now word under due sent token kept did)

-- when a tick is due: never, where the answer is 0; and else at that moment, before which nothing is due
abbrev pub IsDue : ℤ → ℕ → State → Type 0
IsDue answer at s = ((answer ≡ pos 0) × ((now : ℕ) → now < 2 ^ 64 → TicksDo false s now))
    ⊎ ((answer ≡ pos 1) × ((now : ℕ) → max (latest s) now < at → TicksDo false s now) × TicksDo true s at)

-- an entity-tag (RFC 7252, section 5.10.6)
abbrev pub tag_bytes : KsTag → List ℕ
tag_bytes tag = take tag.len tag.bytes

-- the request that is asked for, where its method is one (RFC 7252, section 5.8)
abbrev pub asked : KsRequest → (path : List (List ℕ)) (body : List ℕ) (etags if_match : List KsTag) → Option Request
asked what path body etags if_match = option_map (λ (method : Method). record {
  method = method;
  path = path;
  format = format_in what.format;
  body = body;
  etags = map tag_bytes etags;
  if_match = map tag_bytes if_match;
  if_none_match = what.if_none_match;
  accept = format_in what.accept;
}) (method_of what.method)

-- it was taken: the answer is 0, and its number is told; or the answer is the number of the refusal
abbrev pub TakenAnswers : ℤ → ℕ → Result ℕ CallRefusal → Type 0
TakenAnswers answer id (Ok number) = (answer ≡ pos 0) × (id ≡ number)
TakenAnswers answer id (Err why) = answer ≡ pos (32 + call_refusal_number why)

-- a request is to be sent
abbrev pub IsCall : ℕ → Request → (answer : ℤ) (id : ℕ) → Call → Type 0
IsCall now request answer id c =
    (taken : Result ℕ CallRefusal) × TakenAnswers answer id taken × (c ≡ Calls now request taken)

-- .. the one that these parts say
abbrev pub CallsThat : ℕ → Option Request → (answer : ℤ) (id : ℕ) (old new : Option Held) → Type 0
CallsThat now asked answer id old new =
    (request : Request) × (asked ≡ Some request) × Made (IsCall now request answer id) old new

-- a path is to be observed (RFC 7641, section 3.1)
abbrev pub IsObserve : ℕ → List (List ℕ) → (answer : ℤ) (id : ℕ) → Call → Type 0
IsObserve now path answer id c =
    (taken : Result ℕ CallRefusal) × TakenAnswers answer id taken × (c ≡ Observes now path taken)

-- the answer is 0, or the number of the refusal
abbrev pub CancelAnswers : ℤ → Option CancelRefusal → Type 0
CancelAnswers answer None = answer ≡ pos 0
CancelAnswers answer (Some why) = answer ≡ pos (56 + cancel_refusal_number why)

-- an observation is to be cancelled (RFC 7641, section 3.6)
abbrev pub IsCancel : ℕ → ℕ → ℤ → Call → Type 0
IsCancel now id answer c =
    (refusal : Option CancelRefusal) × CancelAnswers answer refusal × (c ≡ Cancels now id refusal)

-- an observation is forgotten, and the answer says whether it was
abbrev pub IsForget : ℕ → ℤ → Call → Type 0
IsForget id answer c = (kept : Bool) × (did : Bool) × (answer ≡ told did) × (c ≡ Forgets id kept did)

-- a datagram is taken to be sent, and is told
abbrev pub IsNextOut : ℤ → KsAddress → (room : List ℕ) (len : ℕ) → Call → Type 0
IsNextOut answer to room len c =
    (next : Option below.Packet) × OutAnswers answer to room len next × (c ≡ NextOut next)
