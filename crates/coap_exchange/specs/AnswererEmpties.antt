-- Which replies a server gives: a Reset to a response that arrives, the acknowledgement of a request whose response
-- is deferred, and a response in the acknowledgement of its request (RFC 7252, sections 4.2, 4.3, 5.2.1 and 5.2.2). A
-- Reset to a NON is a profile.
use Rattle.std.specs.Prelude.{◌≡◌, ◌≢◌, ◌⊎◌, true, List, [], ◌∷◌}
use Rattle.coap_types.specs.Past.{Always}
use Rattle.coap_types.specs.declared.endpoint.Endpoint.{Endpoint}
use Rattle.coap_types.specs.declared.message.Kind.TheVariants.{Con, Non, Ack}
use Rattle.coap_codec.specs.Spelling.{message_bytes}
use Rattle.coap_layer.specs.Trace as L
use Rattle.coap_exchange.specs.declared.answerer.Asked.{Asked}
use Rattle.coap_exchange.specs.AnswererTrace.{Response, Call, Incoming, Answers, Defers}
use Rattle.coap_exchange.specs.AnswererSteps.{lower}
use Rattle.coap_exchange.specs.AnswererLaw.{own_of}
use Rattle.coap_exchange.specs.AnswererSends.{carrying}
use Rattle.coap_exchange.specs.EmptyMessages.{acknowledging, rejecting, replies_in}

-- a response at a server is rejected; nothing else that arrives is replied to at once
abbrev pub RejectsIn : Endpoint → L.Answer → List L.Packet → Type 0
RejectsIn from (L.Becomes (L.Response m)) out =
    ((m.kind ≡ Con) ⊎ (m.kind ≡ Non) → out ≡ rejecting from m.id) × (m.kind ≡ Ack → out ≡ [])
RejectsIn from _ out = out ≡ []

-- a response to a CON is the reply that acknowledges it (section 5.2.1); to a NON none is given (section 5.2.3)
abbrev pub AnswersIn : Asked → Response → List L.Packet → Type 0
AnswersIn a r out =
    (a.kind ≡ Con → out ≡ record { to = a.from; bytes = message_bytes (carrying Ack a.id.0 a.token r) } ∷ [])
    × (a.kind ≢ Con → out ≡ [])

-- a request that is deferred is acknowledged
abbrev pub RepliesRightly : List Call → Call → Type 0
RepliesRightly past (Incoming now from bytes up answer) =
    RejectsIn from up (replies_in (lower (own_of past) (Incoming now from bytes up answer)))
RepliesRightly past (Defers now a delay true) =
    replies_in (lower (own_of past) (Defers now a delay true)) ≡ acknowledging a.from a.id.0
RepliesRightly past (Answers a r below) = AnswersIn a r (replies_in (lower (own_of past) (Answers a r below)))
RepliesRightly past c = replies_in (lower (own_of past) c) ≡ []

abbrev pub AreReplied : List Call → Type 0
AreReplied trace = Always RepliesRightly trace
