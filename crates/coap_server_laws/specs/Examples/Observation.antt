-- A history of a server: an observer registers, the resource changes, the observer is notified and acknowledges (RFC
-- 7641, section 1.3).
use Rattle.std.specs.Prelude.{ℕ, true, false, cond, Some, None, List, [], ◌∷◌, ◌++◌, codes, Ok}
use Rattle.coap_types.specs.declared.endpoint.Endpoint.{Endpoint}
use Rattle.coap_types.specs.declared.message.TheConstants.Code as code
use Rattle.coap_types.specs.declared.message.Kind.TheVariants.{Con}
use Rattle.coap_types.specs.declared.request.Method.TheVariants.{Get}
use Rattle.coap_types.specs.Path.{same_path}
use Rattle.coap_codec.specs.Message.{Message}
use Rattle.coap_layer.specs.Trace as L
use Rattle.coap_observe.specs.Observers.{Observer}
use Rattle.coap_resource.specs.declared.tally.TheConstants.{MAX_CHANGES_PER_WINDOW as max_changes}
use Rattle.coap_resource.specs.Content.{Content, Held}
use Rattle.coap_resource.specs.Limits.{Limits, usual_limits}
use Rattle.coap_resource.specs.Rate.{counted, unused}
use Rattle.coap_resource.specs.RequestOptions.{tag_of}
use Rattle.coap_resource.specs.Serves.{Question, Reply}
use Rattle.coap_exchange.specs.declared.answerer.Asked.{Asked}
use Rattle.coap_exchange.specs.declared.answerer.Due.TheVariants as due
use Rattle.coap_exchange.specs.AnswererSteps.{asked_of}
use Rattle.coap_server.specs.Trace.{Silent, Serves, Notifies, Call, Sets, Feeds, Ticks, NextOut}

abbrev pub limits : Limits
limits = usual_limits max_changes

abbrev pub client : Endpoint
client = record { ip = 127 ∷ 0 ∷ 0 ∷ 1 ∷ []; port = 40001 }

abbrev pub token : List ℕ
token = 0 ∷ 0 ∷ 0 ∷ 0 ∷ 0 ∷ 0 ∷ 0 ∷ 0 ∷ []

-- the path `t` holds `a` in version 1, and then `b` in version 2, in the format 0
abbrev pub path : List (List ℕ)
path = codes "t" ∷ []

abbrev pub held : ℕ → List ℕ → Held
held version body = record { version = version; format = Some 0; body = body }

abbrev pub a : Content
a = record {
  holds = λ other. cond (same_path path other) (Some (held 1 (codes "a"))) None;
  paths = 1;
  tally = counted (unused limits) 0;
}

abbrev pub b : Content
b = record {
  holds = λ other. cond (same_path path other) (Some (held 2 (codes "b"))) None;
  paths = 1;
  tally = counted a.tally 3;
}

-- a GET with Observe 0
abbrev pub get : List ℕ
get = 0x48 ∷ 1 ∷ 0 ∷ 0 ∷ token ++ 0x60 ∷ 0x51 ∷ codes "t"

abbrev pub request : Message
request = record {
  kind = Con;
  code = 1;
  id = 0;
  token = token;
  options = record { number = 6; value = [] } ∷ record { number = 11; value = codes "t" } ∷ [];
  payload = [];
}

abbrev pub asked : Asked
asked = asked_of client request

abbrev pub question : Question
question = record { method = Get; path = path; options = request.options; body = []; szx = 6 }

-- 2.05 with the tag of the version, and the body
abbrev pub content_of : ℕ → List ℕ → Reply
content_of version body = record {
  code = code.CONTENT.0;
  tag = Some (tag_of version);
  format = Some 0;
  block2 = None;
  part = body;
  offset = 0;
}

-- the observer, who registered at 1, to whom a notification is due since 3
abbrev pub observer : Observer
observer =
    record {
      to = client;
      token = token;
      path = path;
      szx = 6;
      marked = true;
      con = 1;
      changed = 3;
      noted = None;
    }

-- what is sent: ETag, Observe, Content-Format and the body, in an acknowledgement and in a CON
abbrev pub response : List ℕ
response = 0x68 ∷ 0x45 ∷ 0 ∷ 0 ∷ token ++ 0x48 ∷ tag_of 1 ++ 0x21 ∷ 1 ∷ 0x60 ∷ 0xff ∷ codes "a"

abbrev pub notification : List ℕ
notification = 0x48 ∷ 0x45 ∷ 0 ∷ 0 ∷ token ++ 0x48 ∷ tag_of 2 ++ 0x21 ∷ 2 ∷ 0x60 ∷ 0xff ∷ codes "b"

abbrev pub empty_ack : List ℕ
empty_ack = 0x60 ∷ 0 ∷ 0 ∷ 0 ∷ []

abbrev pub sends : List ℕ → Call
sends bytes = NextOut (Some (record { to = client; bytes = bytes }))

-- the calls, the newest first
abbrev pub run : List Call
run =
    Feeds 5 client empty_ack 0 (L.Becomes (L.Acked 0)) None Silent L.Nothing ∷
    NextOut None ∷
    sends notification ∷
    Ticks 3 0 L.Idle false due.Idle 0 Silent 0 false ∷
    Ticks 3 0 L.Idle false due.Idle 0 (Notifies observer (content_of 2 (codes "b"))) 0 true ∷
    Sets 3 path (Some 0) (codes "b") (Ok 2) b ∷
    NextOut None ∷
    sends response ∷
    Feeds 1 client get 0 (L.Becomes (L.Request request true)) (Some (asked, request))
    (Serves question (content_of 1 (codes "a")) a) L.Nothing ∷
    Sets 0 path (Some 0) (codes "a") (Ok 1) a ∷
    []
