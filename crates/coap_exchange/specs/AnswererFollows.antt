-- What follows from the law of the server's side, in words on the trace (RFC 7252, section 5.2).
use Rattle.std.specs.Prelude.{◌≡◌, ◌≤◌, ◌<◌, ℕ, ◌+◌, Bool, Option, Some, None, List, [], ◌∷◌, length, ◌&&◌, ◌==◌}
use Rattle.std.specs.Prelude.{if◌then◌else◌}
use Rattle.std.specs.Bool.{beq}
use Rattle.coap_types.specs.Past.{Ever, Always}
use Rattle.coap_types.specs.Recognised.{has_number}
use Rattle.coap_types.specs.declared.endpoint.Endpoint.{Endpoint}
use Rattle.coap_types.specs.SameEndpoint.{same_endpoint}
use Rattle.coap_codec.specs.Message.{Message, Spells, kind_number}
use Rattle.coap_layer.specs.Machine.State as L
use Rattle.coap_exchange.specs.declared.answerer.Asked.{Asked}
use Rattle.coap_exchange.specs.declared.answerer.Ended.{Ended}
use Rattle.coap_exchange.specs.AnswererTrace.{Call, Incoming, Answers, Ticks, Responds, Notifies}
use Rattle.coap_exchange.specs.AnswererSteps.{asked_of, asked_in, reset_by, failed_by, is_waited_for, max_deferred}
use Rattle.coap_exchange.specs.AnswererLaw.{own_of, ResponseLaw}
use Rattle.coap_exchange.specs.AskerArrivals.{observe}
use Rattle.coap_exchange.specs.Tokens.{same_token}
use Rattle.coap_layer.specs.declared.setup.Setup.{Setup}

-- the request that a call hands up, and that which it responds to
abbrev pub hands : Call → Option Asked
hands (Incoming now from bytes up answer) = asked_in answer
hands _ = None

abbrev pub responds : Call → Option Asked
responds (Answers a r below) = Some a
responds (Responds now a r word id) = Some a
responds _ = None

-- how often
abbrev pub hits : {X : Type 0} → (X → Bool) → Option X → ℕ
hits p None = 0
hits p (Some x) = if p x then 1 else 0

abbrev pub times : {X : Type 0} → (X → Bool) → (List Call → Call → Option X) → List Call → ℕ
times p f [] = 0
times p f (c ∷ past) = hits p (f past c) + times p f past

-- of one endpoint, type, Message ID and token
abbrev pub same_asked : Asked → Asked → Bool
same_asked a b =
    same_endpoint a.from b.from && ((kind_number a.kind == kind_number b.kind)
    && ((a.id.0 == b.id.0) && same_token a.token b.token))

abbrev pub times_handed : Asked → List Call → ℕ
times_handed a t = times (same_asked a) (λ past c. hands c) t

abbrev pub times_answered : Asked → List Call → ℕ
times_answered a t = times (same_asked a) (λ past c. responds c) t

-- A response is to a request that was handed up and has had none: each has at most one.
pub record Responses (past : List Call) (c : Call) : Type 0 where
  pub handed : (a : Asked) → responds c ≡ Some a → Ever (λ b. hands b ≡ Some a) past
  pub first : (a : Asked) → responds c ≡ Some a → times_answered a past < times_handed a past

abbrev pub AreResponses : List Call → Type 0
AreResponses trace = Always Responses trace

-- What is handed up came in a datagram; its endpoint, type, Message ID and token are those of the request.
pub record CameIn (c : Call) : Type 0 where
  pub came : (now : ℕ) (from : Endpoint) (bytes : List ℕ) (up : _) (a : Asked) (m : Message)
      → c ≡ Incoming now from bytes up (Some (a, m)) → (a ≡ asked_of from m) × Spells bytes m

abbrev pub AreRequests : List Call → Type 0
AreRequests trace = Always (λ past c. CameIn c) trace

-- the separate response or notification that a call sends, and that which it says has ended by a Reset or a failure
-- (section 5.2.2; RFC 7641, sections 3.6 and 4.5)
abbrev pub sends : Call → Option Ended
sends (Responds now a r word id) =
    Some (record { to = a.from; token = a.token; observe = has_number observe r.options })
sends (Notifies now to token r word id) =
    Some (record { to = to; token = token; observe = has_number observe r.options })
sends _ = None

abbrev pub end_told : List Call → Call → Option Ended
end_told past (Incoming now from bytes up answer) = reset_by from up (own_of past).separate
end_told past (Ticks now below room answer) = failed_by below (own_of past).separate
end_told past _ = None

abbrev pub same_ended : Ended → Ended → Bool
same_ended x y = same_endpoint x.to y.to && (same_token x.token y.token && beq x.observe y.observe)

-- Each that is said to have ended was sent, and is said once.
pub record ToldOnce (past : List Call) (c : Call) : Type 0 where
  pub once : (x : Ended) → end_told past c ≡ Some x
      → times (same_ended x) end_told past < times (same_ended x) (λ old b. sends b) past

abbrev pub EndsOnce : List Call → Type 0
EndsOnce trace = Always ToldOnce trace

-- Where a separate response or a notification to an endpoint is not acknowledged, the layer has a CON to it
-- outstanding, and only there.
abbrev pub WaitsForOutstanding : (setup : Setup) (trace : List Call) → ResponseLaw setup trace → Type 0
WaitsForOutstanding setup trace law =
    (to : Endpoint) → is_waited_for to (own_of trace).separate ≡ L.is_busy to law.left.open_cons

-- At most 16 requests are deferred.
abbrev pub FewDeferred : List Call → Type 0
FewDeferred trace = length (own_of trace).deferred ≤ max_deferred
