-- A history of a server: a body of 17 bytes comes in two blocks of 16 bytes, and makes a resource (RFC 7959, section
-- 3.2).
use Rattle.std.specs.Prelude.{ℕ, true, cond, Some, None, List, [], ◌∷◌, ◌++◌, codes}
use Rattle.coap_types.specs.CoapOption.{CoapOption}
use Rattle.coap_types.specs.declared.message.TheConstants.Code as code
use Rattle.coap_types.specs.declared.message.Kind.TheVariants.{Con}
use Rattle.coap_types.specs.declared.request.Method.TheVariants.{Put}
use Rattle.coap_types.specs.Path.{same_path}
use Rattle.coap_codec.specs.Message.{Message}
use Rattle.coap_layer.specs.Trace as L
use Rattle.coap_resource.specs.Content.{Content, Held}
use Rattle.coap_resource.specs.Rate.{counted, unused}
use Rattle.coap_resource.specs.Serves.{Question, bare}
use Rattle.coap_exchange.specs.declared.answerer.Asked.{Asked}
use Rattle.coap_exchange.specs.AnswererSteps.{asked_of}
use Rattle.coap_exchange.specs.AnswererTrace as E
use Rattle.coap_server.specs.Trace.{Replies, Serves, Call, Feeds, NextOut}
use Rattle.coap_server_laws.specs.Examples.Observation.{limits, client, path}

abbrev pub front : List ℕ
front = codes "0123456789abcdef"

abbrev pub last : List ℕ
last = codes "g"

abbrev pub held : Held
held = record { version = 1; format = None; body = front ++ last }

abbrev pub made : Content
made = record {
  holds = λ other. cond (same_path path other) (Some held) None;
  paths = 1;
  tally = counted (unused limits) 1;
}

-- a PUT with Uri-Path and Block1 of this value
abbrev pub options : ℕ → List CoapOption
options block = record { number = 11; value = codes "t" } ∷ record { number = 27; value = block ∷ [] } ∷ []

abbrev pub request : ℕ → ℕ → List ℕ → Message
request id block payload = record {
  kind = Con;
  code = 3;
  id = id;
  token = [];
  options = options block;
  payload = payload;
}

abbrev pub put : ℕ → ℕ → List ℕ → List ℕ
put id block payload = 0x40 ∷ 3 ∷ 0 ∷ id ∷ 0xb1 ∷ codes "t" ++ 0xd1 ∷ 3 ∷ block ∷ 0xff ∷ payload

abbrev pub asked : ℕ → ℕ → List ℕ → Asked
asked id block payload = asked_of client (request id block payload)

-- 2.31 with Block1 0/1/16, and 2.01 with Block1 1/0/16
abbrev pub continues : E.Response
continues = record { code = code.CONTINUE.0; options = record { number = 27; value = 8 ∷ [] } ∷ []; payload = [] }

abbrev pub created : E.Response
created = record { code = code.CREATED.0; options = record { number = 27; value = 16 ∷ [] } ∷ []; payload = [] }

abbrev pub reply : ℕ → ℕ → ℕ → List ℕ
reply code id block = 0x60 ∷ code ∷ 0 ∷ id ∷ 0xd1 ∷ 0x0e ∷ block ∷ []

abbrev pub question : Question
question = record { method = Put; path = path; options = options 16; body = front ++ last; szx = 6 }

abbrev pub sends : List ℕ → Call
sends bytes = NextOut (Some (record { to = client; bytes = bytes }))

-- the calls, the newest first
abbrev pub run : List Call
run =
    sends (reply 0x41 2 16) ∷
    Feeds 1 client (put 2 16 last) 0 (L.Becomes (L.Request (request 2 16 last) true))
    (Some (asked 2 16 last, request 2 16 last)) (Serves question (bare code.CREATED.0 0) made) L.Nothing ∷
    sends (reply 0x5f 1 8) ∷
    Feeds 0 client (put 1 8 front) 0 (L.Becomes (L.Request (request 1 8 front) true))
    (Some (asked 1 8 front, request 1 8 front)) (Replies continues) L.Nothing ∷
    []
