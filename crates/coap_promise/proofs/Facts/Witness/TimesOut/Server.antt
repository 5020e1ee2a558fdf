-- The server of a legal run: a POST comes 100,000 ms after it was sent (RFC 7252, section 4.8.2).
use Rattle.std.proofs.Common.{ℕ, true, Some, List, [], ◌∷◌, ◌++◌, Ok, refl}
use Rattle.std.specs.Prelude.{codes}
use Rattle.coap_types.specs.declared.message.Kind.TheVariants.{Con}
use Rattle.coap_types.specs.declared.request.Method.TheVariants.{Post}
use Rattle.coap_codec.specs.Message.{Message}
use Rattle.coap_layer.specs.Trace as L
use Rattle.coap_resource.specs.Content.{Content, Held, Changes, nothing}
use Rattle.coap_resource.specs.Rate.{counted, unused}
use Rattle.coap_resource.specs.Serves.{Question, bare}
use Rattle.coap_exchange.specs.AnswererSteps.{asked_of}
use Rattle.coap_server.specs.Trace as S
use Rattle.coap_server.specs.Law.{ServerLaw}
use Rattle.coap_promise.specs.LegalRuns.{limits, token, plain, log, call_bytes, changed_bytes}
use Rattle.coap_record.specs.Events.{client_end}
use Rattle.coap_layer.specs.Machine.State.{usual}
use Rattle.coap_promise.proofs.Facts.Witness.OneHeld as store
use Rattle.coap_promise.proofs.Facts.Witness.TurnsMade.{server_turn, to_client}
use Rattle.coap_promise.proofs.Facts.Witness.Tests.{messages, server_lawful}
use Rattle.coap_server.specs.Serving.{IsServed}

-- what the path holds, in version 1 and 2

abbrev held : ℕ → List ℕ → Held
held version body = record { version = version; format = Some plain; body = body }

abbrev pub a : Content
a = store.one log (held 1 (codes "x")) (counted (unused limits) 0)

abbrev pub late : Content
late = store.one log (held 2 (codes "xa")) (counted a.tally 130000)

first_change : Changes (nothing limits) 0 log (Some (held 1 (codes "x"))) a
first_change = store.first limits 0 log (held 1 (codes "x"))

changes : Changes a 130000 log (Some (held 2 (codes "xa"))) late
changes = store.further 130000 log (held 1 (codes "x")) (held 2 (codes "xa")) a.tally

-- the request

abbrev pub request : Message
request = record {
  kind = Con;
  code = 2;
  id = 0;
  token = token;
  options = record { number = 11; value = codes "log" } ∷ [];
  payload = codes "a";
}

abbrev pub question : Question
question = record { method = Post; path = log; options = request.options; body = codes "a"; szx = 6 }

-- the calls of each turn, the newest first

abbrev pub set : List S.Call
set = S.Sets 0 log (Some plain) (codes "x") (Ok 1) a ∷ []

abbrev pub serves : List S.Call
serves = S.Feeds 130000 client_end call_bytes 0 (L.Becomes (L.Request request true))
    (Some (asked_of client_end request, request)) (S.Serves question (bare 68 0) late) L.Nothing ∷ []

abbrev pub calls : List S.Call
calls = server_turn (to_client changed_bytes ∷ []) serves ++ server_turn [] set

served : IsServed a 130000 question (S.Serves question (bare 68 0) late)
served = record { reply = bare 68 0; left = late; serves = (refl, changes); is = refl }

pub lawful : ServerLaw limits 6 (usual 0) calls
unfolding messages
lawful = server_lawful limits 6 calls (assumption (served, first_change)) refl refl
