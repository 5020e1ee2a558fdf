-- The server of a run by clocks that don't keep pace: a copy of a PUT comes when the first one is forgotten (RFC 7252,
-- section 4.5).
use Rattle.std.proofs.Common.{ℕ, true, Some, None, List, [], ◌∷◌, ◌++◌, refl}
use Rattle.std.specs.Prelude.{codes}
use Rattle.coap_types.specs.declared.message.Kind.TheVariants.{Con}
use Rattle.coap_types.specs.declared.request.Method.TheVariants.{Put}
use Rattle.coap_codec.specs.Message.{Message}
use Rattle.coap_layer.specs.Machine.State.{usual}
use Rattle.coap_layer.specs.Trace as L
use Rattle.coap_resource.specs.Content.{Content, Held, Changes, nothing}
use Rattle.coap_resource.specs.Rate.{counted, unused}
use Rattle.coap_resource.specs.Serves.{Question, bare}
use Rattle.coap_exchange.specs.AnswererSteps.{asked_of}
use Rattle.coap_server.specs.Law.{ServerLaw}
use Rattle.coap_server.specs.Serving.{IsServed}
use Rattle.coap_server.specs.Trace as S
use Rattle.coap_promise.specs.ClockRuns.{put_bytes, created_bytes, changed_bytes}
use Rattle.coap_record.specs.Events.{client_end}
use Rattle.coap_promise.specs.LegalRuns.{limits, token, t}
use Rattle.coap_promise.proofs.Facts.Witness.OneHeld.{one, first, further}
use Rattle.coap_promise.proofs.Facts.Witness.TurnsMade.{server_turn, to_client}
use Rattle.coap_promise.proofs.Facts.Witness.Tests.{messages, server_lawful}

-- what the path holds, in version 1 and in version 2

abbrev held : ℕ → Held
held version = record { version = version; format = None; body = codes "a" }

abbrev once : Content
once = one t (held 1) (counted (unused limits) 0)

abbrev twice : Content
twice = one t (held 2) (counted once.tally 247001)

first_change : Changes (nothing limits) 0 t (Some (held 1)) once
first_change = first limits 0 t (held 1)

second : Changes once 247001 t (Some (held 2)) twice
second = further 247001 t (held 1) (held 2) once.tally

-- the request

abbrev request : Message
request = record {
  kind = Con;
  code = 3;
  id = 0;
  token = token;
  options = record { number = 11; value = codes "t" } ∷ [];
  payload = codes "a";
}

abbrev question : Question
question = record { method = Put; path = t; options = request.options; body = codes "a"; szx = 6 }

-- the calls of each turn, the newest first

abbrev pub serves : ℕ → ℕ → Content → S.Call
serves at code left = S.Feeds at client_end put_bytes 0 (L.Becomes (L.Request request true))
    (Some (asked_of client_end request, request)) (S.Serves question (bare code 0) left) L.Nothing

abbrev pub creates : S.Call
creates = serves 0 65 once

abbrev pub changes : S.Call
changes = serves 247001 68 twice

abbrev calls : List S.Call
calls = server_turn (to_client changed_bytes ∷ []) (changes ∷ []) ++ server_turn (to_client created_bytes ∷
    []) (creates ∷ [])

served_first : IsServed (nothing limits) 0 question (S.Serves question (bare 65 0) once)
served_first = record { reply = bare 65 0; left = once; serves = (refl, first_change); is = refl }

served : IsServed once 247001 question (S.Serves question (bare 68 0) twice)
served = record { reply = bare 68 0; left = twice; serves = (refl, second); is = refl }

pub lawful : ServerLaw limits 6 (usual 0) calls
unfolding messages
lawful = server_lawful limits 6 calls (assumption (served, served_first)) refl refl
