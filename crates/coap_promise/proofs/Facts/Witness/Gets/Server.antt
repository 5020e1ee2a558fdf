-- The server of a legal run: it is given a representation, and serves it (RFC 7252, sections 5.2.1 and 5.8.1).
use Rattle.std.proofs.Common.{ℕ, true, Some, None, List, [], ◌∷◌, ◌++◌, Ok, refl}
use Rattle.std.specs.Prelude.{codes}
use Rattle.coap_types.specs.declared.message.Kind.TheVariants.{Con}
use Rattle.coap_types.specs.declared.request.Method.TheVariants.{Get}
use Rattle.coap_codec.specs.Message.{Message}
use Rattle.coap_layer.specs.Trace as L
use Rattle.coap_resource.specs.Content.{Content, Changes, nothing}
use Rattle.coap_resource.specs.Rate.{counted, unused}
use Rattle.coap_resource.specs.Serves.{Question, Reply}
use Rattle.coap_exchange.specs.AnswererSteps.{asked_of}
use Rattle.coap_server.specs.Trace as S
use Rattle.coap_server.specs.Law.{ServerLaw}
use Rattle.coap_promise.specs.LegalRuns.{limits, token, tag, plain, t, get_bytes, content_bytes}
use Rattle.coap_record.specs.Events.{client_end}
use Rattle.coap_layer.specs.Machine.State.{usual}
use Rattle.coap_promise.proofs.Facts.Witness.OneHeld.{one, first}
use Rattle.coap_promise.proofs.Facts.Witness.TurnsMade.{server_turn, to_client}
use Rattle.coap_promise.proofs.Facts.Witness.Tests.{messages, server_lawful}
use Rattle.coap_server.specs.Serving.{IsServed}

-- the request
abbrev pub request : Message
request = record {
  kind = Con;
  code = 1;
  id = 0;
  token = token;
  options = record { number = 11; value = codes "t" } ∷ [];
  payload = [];
}

-- what the store holds, and what it answers

abbrev pub stored : Content
stored = one t (record { version = 1; format = Some plain; body = codes "hi" }) (counted (unused limits) 0)

abbrev pub question : Question
question = record { method = Get; path = t; options = request.options; body = []; szx = 6 }

abbrev pub reply : Reply
reply = record { code = 69; tag = Some (tag 1); format = Some plain; block2 = None; part = codes "hi"; offset = 0 }

-- the calls of each turn, the newest first

abbrev pub sets : S.Call
sets = S.Sets 0 t (Some plain) (codes "hi") (Ok 1) stored

abbrev pub serves : S.Call
serves = S.Feeds 5 client_end get_bytes 0 (L.Becomes (L.Request request true))
    (Some (asked_of client_end request, request)) (S.Serves question reply stored) L.Nothing

abbrev pub calls : List S.Call
calls = server_turn (to_client content_bytes ∷ []) (serves ∷ []) ++ server_turn [] (sets ∷ [])

pub stores : Changes (nothing limits) 0 t (Some (record { version = 1; format = Some plain; body = codes "hi" }))
    stored
stores = first limits 0 t (record { version = 1; format = Some plain; body = codes "hi" })

pub served : (at : ℕ) → IsServed stored at question (S.Serves question reply stored)
served at = record { reply = reply; left = stored; serves = (refl, refl); is = refl }

pub lawful : ServerLaw limits 6 (usual 0) calls
unfolding messages
lawful = server_lawful limits 6 calls (assumption (served 5, stores)) refl refl
