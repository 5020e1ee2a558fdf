-- Whether a server's exchanges have something of a peer that they may send, or may still need (RFC 7252, section 5.2).
use Rattle.std.specs.Prelude.{◌≡◌, ℕ, Bool, false, ◌||◌, Option, Some, None, List, [], ◌∷◌, if◌then◌else◌}
use Rattle.std.specs.List.{list_any}
use Rattle.coap_types.specs.SameEndpoint.{same_endpoint}
use Rattle.coap_types.specs.declared.endpoint.Endpoint.{Endpoint}
use Rattle.coap_types.specs.declared.message.Id.{Id}
use Rattle.coap_layer.specs.Machine.Peers as L
use Rattle.coap_exchange.specs.declared.answerer.Asked.{Asked}
use Rattle.coap_exchange.specs.declared.separate.Deferred.{Deferred}
use Rattle.coap_exchange.specs.declared.separate.Separate.{Separate}
use Rattle.coap_exchange.specs.AnswererLaw.{ResponseLaw, State, own_of}
use Rattle.coap_exchange.specs.AnswererSteps.{is_waited_for, without_separate}
use Rattle.coap_exchange.specs.AnswererTrace.{Call}
use Rattle.coap_layer.specs.declared.setup.Setup.{Setup}

-- there is a request, and it came from there
abbrev pub is_asked_by : Endpoint → Option Asked → Bool
is_asked_by peer None = false
is_asked_by peer (Some asked) = same_endpoint asked.from peer

-- the layer has something of it, a separate response or a notification to it is not acknowledged, a request of it is
-- deferred, or is to be answered now
abbrev pub knows : Endpoint → State → Bool
knows peer s =
    L.knows peer s.layer
    || (list_any (λ (d : Separate). same_endpoint d.to peer) s.own.separate
    || (list_any (λ (d : Deferred). same_endpoint d.asked.from peer) s.own.deferred || is_asked_by peer s.own.pending))

-- the Message ID of the first separate response or notification that went there and is not acknowledged
abbrev pub outstanding_to : Endpoint → List Separate → Option Id
outstanding_to peer [] = None
outstanding_to peer (x ∷ xs) = if same_endpoint x.to peer then Some x.id else outstanding_to peer xs

-- what a peer that is forgotten is taken to reject: that one; where there is none, the Message ID 0
abbrev pub id_or_zero : Option Id → ℕ
id_or_zero None = 0
id_or_zero (Some id) = id.0

abbrev pub reset_to : Endpoint → List Separate → ℕ
reset_to peer xs = id_or_zero (outstanding_to peer xs)

-- Without the one that is outstanding to an endpoint, none is (NSTART is 1, section 4.7).
abbrev pub OneForAPeer : Setup → List Call → Type 0
OneForAPeer setup t =
    (peer : Endpoint) (id : Id) → outstanding_to peer (own_of t).separate ≡ Some id
    → is_waited_for peer (without_separate peer id.0 (own_of t).separate) ≡ false
