-- A request that is refused before the store is asked (RFC 7252, sections 5.4.1, 5.7.2 and 5.9).
use Rattle.std.specs.Prelude.{◌≡◌, ℕ, ◌/◌, ◌==◌, Bool, true, ◌||◌, Option, Some, None, List, [], ◌∷◌, if◌then◌else◌}
use Rattle.coap_types.specs.OptionValues.{has}
use Rattle.coap_types.specs.Recognised.{lacks_critical}
use Rattle.coap_types.specs.declared.direction.Direction.TheVariants as direction
use Rattle.coap_types.specs.declared.endpoint.Endpoint.{Endpoint}
use Rattle.coap_types.specs.declared.message.Kind.{Kind}
use Rattle.coap_types.specs.declared.message.Kind.TheVariants.{Con}
use Rattle.coap_types.specs.declared.option_number.TheConstants.{PROXY_URI as proxy_uri, PROXY_SCHEME as proxy_scheme}
use Rattle.coap_codec.specs.Message.{Message}
use Rattle.coap_layer.specs.Trace as L
use Rattle.coap_exchange.specs.declared.answerer.Asked.{Asked}
use Rattle.coap_exchange.specs.AnswererTrace as E
use Rattle.coap_server.specs.Trace.{Silent, Call, Feeds, Refuses}
use Rattle.coap_server.specs.Responses.{bare}
use Rattle.coap_server.specs.Checks.{asks, bad_option, proxying_not_supported}

-- a code of class 4 or 5: an error. The class is the upper three bits (section 5.9).
abbrev pub is_error : ℕ → Bool
is_error code = (code / 32 == 4) || (code / 32 == 5)

-- a NON with an option that is critical and not recognised has no response (section 5.4.1)
abbrev pub bad_response : Kind → Option ℕ
bad_response Con = Some bad_option
bad_response _ = None

-- The code of the response to a request that is refused with a code, if it has a response. What a server has to answer
-- whatever is asked comes first: an option that is critical and not recognised, and a proxy's request.
abbrev pub refusal : ℕ → Message → Option ℕ
refusal code m =
    if lacks_critical direction.Request m.options then bad_response m.kind
    else if has proxy_uri (asks m) || has proxy_scheme (asks m) then Some proxying_not_supported
    else Some code

-- it is refused with an error, and the code of its response is that
pub record IsRefused (code : ℕ) (m : Message) (response : Option ℕ) : Type 0 where
  pub error : is_error code ≡ true
  pub is : response ≡ refusal code m

-- what is asked of the exchanges: the response, where there is one
abbrev pub refusing : Asked → Option ℕ → L.Answer → List E.Call
refusing a None below = []
refusing a (Some code) below = E.Answers a (bare code) below ∷ []

-- What hands up a request is refused with the code; what hands up none is taken as it is.
abbrev pub refused_or_fed : ℕ → Endpoint → List ℕ → (word code : ℕ) → L.Answer → Option (Asked × Message) → Option ℕ
    → L.Answer → Call
refused_or_fed now from bytes word code up None response below = Feeds now from bytes word up None Silent below
refused_or_fed now from bytes word code up (Some p) response below =
    Refuses now from bytes word code up p response below
