-- What is promised of a handler, the code that is handed the requests of a server (RFC 7252, sections 4.5 and 5.2): a
-- request calls it where the exchanges hand it up, and what it answers is the response that they are handed.
use Rattle.std.specs.Prelude.{◌≡◌, ℕ, Some, List, ◌∷◌}
use Rattle.coap_types.specs.Past.{Always, Ever}
use Rattle.coap_types.specs.Roles.{role_of}
use Rattle.coap_types.specs.declared.role.Role.TheVariants as role
use Rattle.coap_types.specs.declared.endpoint.Endpoint.{Endpoint}
use Rattle.coap_types.specs.declared.message.Kind.TheVariants.{Con, Ack}
use Rattle.coap_codec.specs.Message.{Message, Spells}
use Rattle.coap_codec.specs.Spelling.{message_bytes}
use Rattle.coap_layer.specs.Channel.{Hop, Near, near_of, far_of, OnFar, HearsAck}
use Rattle.coap_layer.specs.Clocks.{Clocks}
use Rattle.coap_layer.specs.Paced.{ChannelLaw, HandedOnce, Takes}
use Rattle.coap_layer.specs.Rows.{stored}
use Rattle.coap_layer.specs.Follows.{HandedUpOnce}
use Rattle.coap_layer.specs.Trace.{Entry, Receive, Becomes, Replayed}
use Rattle.coap_layer.specs.Trace as L
use Rattle.coap_layer.specs.Words.{Open, replied}
use Rattle.coap_layer.specs.declared.setup.Setup.{Setup}
use Rattle.coap_exchange.specs.declared.answerer.Asked.{Asked}
use Rattle.coap_exchange.specs.AnswererTrace.{Call, Response, Answers, Defers, Incoming}
use Rattle.coap_exchange.specs.AnswererSteps.{reject_by}
use Rattle.coap_exchange.specs.EmptyMessages.{ack_bytes}
use Rattle.coap_exchange.specs.AnswererLaw.{below_of, ResponseLaw}
use Rattle.coap_exchange.specs.AnswererSends.{carrying}

-- No message is handed up that was handed up, and remembered, at most EXCHANGE_LIFETIME before: of one endpoint, with
-- one Message ID. What the layer hands up is what the handler is called with.
abbrev pub AreCalledOnce : Setup → List Call → Type 0
AreCalledOnce setup t = HandedUpOnce (below_of setup t)

-- behind an answer to a CON, the reply that is kept for that is the acknowledgement that carries the answer
abbrev pub AnswersAreKept : Setup → List Call → Type 0
AnswersAreKept setup past =
    (a : Asked) (r : Response) (sent : L.Answer) → a.kind ≡ Con
    → replied a.from a.id.0 (below_of setup (Answers a r sent ∷ past))
    ≡ Some (message_bytes (carrying Ack a.id.0 a.token r))

-- a copy of what is remembered: sent is the reply that is kept, where both are CONs, and else nothing
abbrev pub CopyGets : List Entry → Entry → Type 0
CopyGets past e =
    (from : Endpoint) (bytes : List ℕ) (m : Message) → e.call ≡ Receive from bytes → e.answer ≡ Becomes Replayed
    → Spells bytes m → e.out ≡ stored past (record { from = from; message = m })

abbrev pub CopiesGet : Setup → List Call → Type 0
CopiesGet setup t = Always CopyGets (below_of setup t)

-- what a call of the server gives as the reply to a message of this endpoint with this Message ID: the handler's answer
-- to that Confirmable request; the acknowledgement of its deferral; the rejection of what is no request (sections 4.2,
-- 5.2.1, 5.2.2)
abbrev pub IsReply : (near : Endpoint) (id : ℕ) (bytes : List ℕ) → Call → Type 0
IsReply near id bytes (Answers a r sent) = (a.kind ≡ Con) × (a.from ≡ near) × (a.id.0 ≡ id)
    × (bytes ≡ message_bytes (carrying Ack a.id.0 a.token r))
IsReply near id bytes (Defers now a delay answer) = (a.from ≡ near) × (a.id.0 ≡ id) × (bytes ≡ ack_bytes a.id.0)
IsReply near id bytes (Incoming now from came up answer) = (from ≡ near) × (reject_by up ≡ Some bytes)
IsReply near id bytes _ = ⊥

-- Two ends with a clock each: where the near layer takes an acknowledgement of a CON of its own, the far one took that
-- very CON, and a call of the server gave those bytes as the reply to it.
abbrev pub AcksAreReplies : Clocks → Setup → Setup → Endpoint → Endpoint → List Call → Type 0
AcksAreReplies c one other near far t =
    (past : List Hop) (x : Entry) → ChannelLaw c one other near far (Near x ∷ past) → far_of past ≡ below_of other t
    → (con : Open) → con.to ≡ far → (h : HearsAck con (near_of past) x)
    → Ever (OnFar (Takes c near con)) past × Ever (IsReply near con.id h.bytes) t

-- .. and the far layer hands up a CON of the near one at most once
abbrev pub AreHandedOnce : Clocks → Setup → Setup → Endpoint → Endpoint → Type 0
AreHandedOnce c one other near far = (all : List Hop) → ChannelLaw c one other near far all → HandedOnce c near all

-- the handler answered the Confirmable request of this endpoint with this Message ID, and the message is that answer
abbrev pub IsAnswerTo : (near : Endpoint) (id : ℕ) → Message → Call → Type 0
IsAnswerTo near id m (Answers a r sent) =
    (a.kind ≡ Con) × (a.from ≡ near) × (a.id.0 ≡ id) × (m ≡ carrying Ack a.id.0 a.token r)
IsAnswerTo near id m _ = ⊥

-- Where the acknowledgement of a CON brings a response, the far layer took that very CON, and the response is what the
-- handler answered to the request with its endpoint and its Message ID.
abbrev pub IsToldTheAnswer : Clocks → Setup → Setup → Endpoint → Endpoint → List Call → Type 0
IsToldTheAnswer c one other near far t =
    (past : List Hop) (x : Entry) → ChannelLaw c one other near far (Near x ∷ past) → ResponseLaw other t
    → far_of past ≡ below_of other t
    → (con : Open) → con.to ≡ far → (h : HearsAck con (near_of past) x)
    → (m : Message) → Spells h.bytes m → role_of m.code ≡ role.Response
    → Ever (OnFar (Takes c near con)) past × Ever (IsAnswerTo near con.id m) t
