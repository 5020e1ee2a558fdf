-- A history of a client: a GET asked at 0 with an initial timeout of 3,000 ms, sent again at 3,000, another refused
-- meanwhile, and its Timeout at 93,000 (RFC 7252, sections 4.2 and 4.7).
use Rattle.std.specs.Prelude.{None, List, [], ◌∷◌, Ok, Err}
use Rattle.coap_types.specs.declared.endpoint.Endpoint.{Endpoint}
use Rattle.coap_types.specs.declared.message.TheConstants.Code as codes
use Rattle.coap_layer.specs.Trace as T
use Rattle.coap_exchange.specs.declared.asker.AskRefusal.TheVariants as refusal
use Rattle.coap_exchange.specs.declared.asker.Event.TheVariants as event
use Rattle.coap_exchange.specs.declared.asker.Turn.TheVariants as turn
use Rattle.coap_exchange.specs.AskerTrace.{Request, Call, Ask, Ticks}
use Rattle.coap_exchange.specs.Tokens.{token_of}

abbrev pub server : Endpoint
server = record { ip = 127 ∷ 0 ∷ 0 ∷ 1 ∷ []; port = 5683 }

-- a GET with nothing more
abbrev pub get : Request
get = record { code = codes.GET.0; token = None; options = []; payload = [] }

-- the calls, the newest first
abbrev pub run : List Call
run =
    Ticks 93000 (T.Expired server 0) (turn.End event.Timeout) ∷
    Ask 5000 get 0 T.Nothing (Err refusal.Running) ∷
    Ticks 3000 (T.Copied server 0) turn.Copied ∷
    Ask 0 get 1000 (T.Sent 0) (Ok (token_of 0 0)) ∷
    []
