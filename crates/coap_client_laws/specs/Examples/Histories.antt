-- A history of a client: it observes `t`, and two representations are reported (RFC 7641, section 1.3).
use Rattle.std.specs.Prelude.{ℕ, true, false, Some, None, List, [], ◌∷◌, ◌++◌, Ok, codes, replicate}
use Rattle.coap_types.specs.declared.endpoint.Endpoint.{Endpoint}
use Rattle.coap_types.specs.declared.message.Kind.{Kind}
use Rattle.coap_types.specs.CoapOption.{option}
use Rattle.coap_types.specs.declared.message.TheConstants.Code as code
use Rattle.coap_types.specs.declared.option_number.TheConstants.{ETAG as etag, OBSERVE as observe}
use Rattle.coap_types.specs.declared.option_number.TheConstants.{CONTENT_FORMAT as content_format, BLOCK1 as block1}
use Rattle.coap_types.specs.declared.request.Method.TheVariants.{Put}
use Rattle.coap_types.specs.declared.message.Kind.TheVariants.{Con, Ack}
use Rattle.coap_codec.specs.Message.{Message}
use Rattle.coap_layer.specs.Trace as L
use Rattle.coap_block.specs.Sizes.{Sizes, usual_sizes}
use Rattle.coap_exchange.specs.declared.asker.Event.TheVariants as event
use Rattle.coap_exchange.specs.declared.asker.Turn.TheVariants as turn
use Rattle.coap_client.specs.Trace.{Request, Value, Reported, Call, Calls, Observes, Feeds, Ticks}
use Rattle.coap_client.specs.Trace.{NextOut, NextReport}

abbrev pub server : Endpoint
server = record { ip = 127 ∷ 0 ∷ 0 ∷ 1 ∷ []; port = 5683 }

abbrev pub token : List ℕ
token = 0 ∷ 0 ∷ 0 ∷ 0 ∷ 0 ∷ 0 ∷ 0 ∷ 0 ∷ []

abbrev pub path : List (List ℕ)
path = codes "t" ∷ []

-- a GET with Observe 0 and the path; its answer, with sequence number 1; a notification, with 2; the acknowledgement of
-- that
abbrev pub registration : List ℕ
registration = 0x48 ∷ 0x01 ∷ 0 ∷ 0 ∷ token ++ 0x60 ∷ 0x51 ∷ 0x74 ∷ []

abbrev pub first : List ℕ
first = 0x68 ∷ 0x45 ∷ 0 ∷ 0 ∷ token ++ 0x48 ∷ 0 ∷ 0 ∷ 0 ∷ 0 ∷ 0 ∷ 0 ∷ 0 ∷ 1 ∷ 0x21 ∷ 1 ∷ 0x60 ∷ 0xff ∷ 0x61 ∷ []

abbrev pub second : List ℕ
second = 0x48 ∷ 0x45 ∷ 0 ∷ 0 ∷ token ++ 0x48 ∷ 0 ∷ 0 ∷ 0 ∷ 0 ∷ 0 ∷ 0 ∷ 0 ∷ 2 ∷ 0x21 ∷ 2 ∷ 0x60 ∷ 0xff ∷ 0x62 ∷ []

abbrev pub acknowledgement : List ℕ
acknowledgement = 0x60 ∷ 0 ∷ 0 ∷ 0 ∷ []

abbrev pub tag : ℕ → List ℕ
tag version = 0 ∷ 0 ∷ 0 ∷ 0 ∷ 0 ∷ 0 ∷ 0 ∷ version ∷ []

abbrev pub content : Kind → ℕ → List ℕ → Message
content kind n payload = record {
  kind = kind;
  code = code.CONTENT.0;
  id = 0;
  token = token;
  options = option etag (tag n) ∷ option observe (n ∷ []) ∷ option content_format [] ∷ [];
  payload = payload;
}

abbrev pub value : ℕ → List ℕ → Reported
value n body = record { number = 0; report = Value n (Some (tag n)) (Some 0) body }

abbrev pub to_server : List ℕ → L.Packet
to_server bytes = record { to = server; bytes = bytes }

-- blocks of at most 1,024 bytes
abbrev pub sizes : Sizes
sizes = usual_sizes 6

-- the calls, the newest first
abbrev pub run : List Call
run =
    NextReport (Some (value 2 (codes "b"))) ∷
    NextOut (Some (to_server acknowledgement)) ∷
    Feeds 4 server second 0 (L.Becomes (L.Response (content Con 2 (codes "b")))) false
    (Some (event.Notice (content Con 2 (codes "b")))) L.Nothing (Ok []) false ∷
    NextReport (Some (value 1 (codes "a"))) ∷
    Feeds 2 server first 0 (L.Becomes (L.Response (content Ack 1 (codes "a")))) true
    (Some (event.Answer (content Ack 1 (codes "a")))) L.Nothing (Ok []) true ∷
    NextOut (Some (to_server registration)) ∷
    Ticks 0 0 L.Idle turn.Idle L.Nothing (Ok []) false false ∷
    Ticks 0 0 L.Idle turn.Idle (L.Sent 0) (Ok token) false true ∷
    Observes 0 path (Ok 0) ∷
    []

-- .. and it puts a body of 200 bytes at `t` in blocks of 128, which the server makes 32 (RFC 7959, section 2.5, figure
-- 8)

abbrev pub upload_sizes : Sizes
upload_sizes = usual_sizes 3

abbrev pub body : List ℕ
body = replicate 200 0x61

abbrev pub put : Request
put = record {
  method = Put;
  path = path;
  format = None;
  body = body;
  etags = [];
  if_match = [];
  if_none_match = false;
  accept = None;
}

abbrev pub second_token : List ℕ
second_token = 0 ∷ 0 ∷ 0 ∷ 0 ∷ 0 ∷ 0 ∷ 0 ∷ 1 ∷ []

-- Block1 0:0/1/128; 2.31 with 1:0/1/32; 1:4/1/32

abbrev pub first_block : List ℕ
first_block = 0x48 ∷ 0x03 ∷ 0 ∷ 0 ∷ token ++ 0xb1 ∷ 0x74 ∷ 0xd1 ∷ 0x03 ∷ 0x0b ∷ 0xff ∷ replicate 128 0x61

abbrev pub continue : List ℕ
continue = 0x68 ∷ 0x5f ∷ 0 ∷ 0 ∷ token ++ 0xd1 ∷ 0x0e ∷ 0x09 ∷ []

abbrev pub continued : Message
continued = record {
  kind = Ack;
  code = code.CONTINUE.0;
  id = 0;
  token = token;
  options = option block1 (9 ∷ []) ∷ [];
  payload = [];
}

abbrev pub second_block : List ℕ
second_block = 0x48 ∷ 0x03 ∷ 0 ∷ 1 ∷ second_token ++ 0xb1 ∷ 0x74 ∷ 0xd1 ∷ 0x03 ∷ 0x49 ∷ 0xff ∷ replicate 32 0x61

abbrev pub upload : List Call
upload =
    NextOut (Some (to_server second_block)) ∷
    Feeds 0 server continue 0 (L.Becomes (L.Response continued)) true (Some (event.Answer continued)) (L.Sent 1)
    (Ok second_token) false ∷
    NextOut (Some (to_server first_block)) ∷
    Ticks 0 0 L.Idle turn.Idle (L.Sent 0) (Ok token) false true ∷
    Calls 0 put (Ok 0) ∷
    []
