-- The server of a smooth run: it serves a PUT later, each datagram comes at its last moment (RFC 7252, section 5.2.2).
use Rattle.std.proofs.Common.{true, Some, None, List, [], ◌∷◌, ◌++◌, refl}
use Rattle.std.specs.Prelude.{codes}
use Rattle.coap_types.specs.declared.message.Kind.TheVariants.{Con}
use Rattle.coap_types.specs.declared.request.Method.TheVariants.{Put}
use Rattle.coap_codec.specs.Message.{Message}
use Rattle.coap_layer.specs.Machine.State.{usual}
use Rattle.coap_layer.specs.Trace as L
use Rattle.coap_resource.specs.Content.{Content, Held, Changes}
use Rattle.coap_resource.specs.Rate.{counted}
use Rattle.coap_resource.specs.Serves.{Question, bare}
use Rattle.coap_exchange.specs.AnswererSteps.{asked_of}
use Rattle.coap_exchange.specs.declared.answerer.Asked.{Asked as Request}
use Rattle.coap_exchange.specs.declared.answerer.Due.TheVariants as due
use Rattle.coap_server.specs.Law.{ServerLaw}
use Rattle.coap_server.specs.Serving.{IsServed}
use Rattle.coap_server.specs.Trace as S
use Rattle.coap_record.specs.Events.{client_end}
use Rattle.coap_promise.specs.LegalRuns.{limits, plain, t, token, empty_ack}
use Rattle.coap_smooth.specs.SmoothRuns.{put_bytes, separate_changed}
use Rattle.coap_smooth.proofs.Witness.DefersLate.Server.{hears}
use Rattle.coap_promise.proofs.Facts.Witness.Gets.Server.{stored, sets, stores}
use Rattle.coap_promise.proofs.Facts.Witness.OneHeld.{one, further}
use Rattle.coap_promise.proofs.Facts.Witness.TurnsMade.{server_turn, to_client, idle}
use Rattle.coap_promise.proofs.Facts.Witness.Tests.{messages, server_lawful}

-- the request
abbrev pub request : Message
request = record {
  kind = Con;
  code = 3;
  id = 0;
  token = token;
  options = record { number = 11; value = codes "t" } ∷ [];
  payload = codes "ho";
}

abbrev pub asked : Request
asked = asked_of client_end request

abbrev pub question : Question
question = record { method = Put; path = t; options = request.options; body = codes "ho"; szx = 6 }

-- what it makes of the path

abbrev pub put_there : Held
put_there = record { version = 2; format = None; body = codes "ho" }

abbrev pub changed : Content
changed = one t put_there (counted stored.tally 2000)

changes : Changes stored 2000 t (Some put_there) changed
changes = further 2000 t (record { version = 1; format = Some plain; body = codes "hi" }) put_there stored.tally

served : IsServed stored 2000 question (S.Serves question (bare 68 0) changed)
served = record { reply = bare 68 0; left = changed; serves = (refl, changes); is = refl }

-- the calls of each turn, the newest first

abbrev pub waits : List S.Call
waits = S.Feeds 1000 client_end put_bytes 0 (L.Becomes (L.Request request true)) (Some (asked, request))
    (S.Waits question 1000) L.Nothing ∷ []

abbrev pub ticked : List S.Call
ticked = idle 2000 ∷ S.Ticks 2000 0 L.Idle true (due.Ready asked) 0 (S.Serves question (bare 68 0) changed) 0 true ∷ []

abbrev pub calls : List S.Call
calls =
    server_turn [] hears ++
    (server_turn [] (idle 3000 ∷ []) ++ (server_turn (to_client separate_changed ∷ []) ticked
    ++ (server_turn [] (idle 1000 ∷ []) ++ (server_turn (to_client empty_ack ∷ []) waits
    ++ (server_turn [] (sets ∷ []) ++ S.Delays t 1000 true ∷ [])))))

pub lawful : ServerLaw limits 6 (usual 0) calls
unfolding messages
lawful = server_lawful limits 6 calls (assumption (served, stores)) refl refl
