-- A history of a server: a GET arrives at 0 and is deferred by 1,000 ms, nothing is due at 999, it is ready at 1,000,
-- its separate response is sent (RFC 7252, section 5.2.2), and another endpoint is notified (RFC 7641, section 4.2).
use Rattle.std.specs.Prelude.{ℕ, true, Some, List, [], ◌∷◌, ◌++◌}
use Rattle.coap_types.specs.declared.endpoint.Endpoint.{Endpoint}
use Rattle.coap_types.specs.declared.message.Kind.TheVariants.{Con}
use Rattle.coap_types.specs.declared.message.TheConstants.Code as codes
use Rattle.coap_codec.specs.Message.{Message}
use Rattle.coap_layer.specs.Trace as T
use Rattle.coap_exchange.specs.declared.answerer.Asked.{Asked}
use Rattle.coap_exchange.specs.declared.answerer.Due.TheVariants as due
use Rattle.coap_exchange.specs.AnswererTrace.{Response, Call, Incoming, Defers, Ticks, Responds, Ready, Notifies}
use Rattle.coap_exchange.specs.AnswererSteps.{asked_of}

abbrev pub client : Endpoint
client = record { ip = 127 ∷ 0 ∷ 0 ∷ 1 ∷ []; port = 40001 }

abbrev pub observer : Endpoint
observer = record { ip = 127 ∷ 0 ∷ 0 ∷ 1 ∷ []; port = 40002 }

-- a GET of `t` with a token of 8 bytes
abbrev pub token : List ℕ
token = 0 ∷ 0 ∷ 0 ∷ 0 ∷ 0 ∷ 0 ∷ 0 ∷ 0 ∷ []

abbrev pub get : List ℕ
get = 0x48 ∷ 1 ∷ 0 ∷ 0 ∷ (token ++ 0xb1 ∷ 0x74 ∷ [])

abbrev pub request : Message
request =
    record {
      kind = Con;
      code = codes.GET.0;
      id = 0;
      token = token;
      options = record { number = 11; value = 0x74 ∷ [] } ∷ [];
      payload = [];
    }

abbrev pub asked : Asked
asked = asked_of client request

-- 2.05 with `hi`
abbrev pub content : Response
content = record { code = codes.CONTENT.0; options = []; payload = 0x68 ∷ 0x69 ∷ [] }

-- .. and with Observe
abbrev pub notification : Response
notification =
    record {
      code = codes.CONTENT.0;
      options = record { number = 6; value = [] } ∷ [];
      payload = 0x68 ∷ 0x69 ∷ [];
    }

-- the calls, the newest first
abbrev pub run : List Call
run =
    Notifies 1000 observer token notification 0 1 ∷
    Ready 1000 observer true ∷
    Responds 1000 asked content 0 0 ∷
    Ticks 1000 T.Idle true (due.Ready asked) ∷
    Ticks 999 T.Idle true due.Idle ∷
    Defers 0 asked 1000 true ∷
    Incoming 0 client get (T.Becomes (T.Request request true)) (Some (asked, request)) ∷
    []
