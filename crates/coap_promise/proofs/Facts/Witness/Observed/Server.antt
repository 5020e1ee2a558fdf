-- The server of a legal run: it registers the client, and tells it of a change (RFC 7641, sections 4.1 and 4.2).
use Rattle.std.proofs.Common.{ℕ, true, false, Some, None, List, [], ◌∷◌, ◌++◌, Ok, refl}
use Rattle.std.specs.Prelude.{codes}
use Rattle.coap_types.specs.declared.message.Kind.TheVariants.{Con}
use Rattle.coap_types.specs.declared.request.Method.TheVariants.{Get}
use Rattle.coap_codec.specs.Message.{Message}
use Rattle.coap_layer.specs.Trace as L
use Rattle.coap_resource.specs.Content.{Content, Held, Changes, nothing}
use Rattle.coap_resource.specs.Rate.{counted, unused}
use Rattle.coap_resource.specs.Serves.{Question, Reply}
use Rattle.coap_exchange.specs.AnswererSteps.{asked_of}
use Rattle.coap_server.specs.Trace as S
use Rattle.coap_server.specs.Law.{ServerLaw}
use Rattle.coap_promise.specs.LegalRuns.{limits, token, tag, plain, t, empty_ack}
use Rattle.coap_record.specs.Events.{client_end}
use Rattle.coap_layer.specs.Machine.State.{usual}
use Rattle.coap_observe.specs.Observers.{Observer}
use Rattle.coap_exchange.specs.declared.answerer.Asked.{Asked as Request}
use Rattle.coap_exchange.specs.declared.answerer.Due.TheVariants as due
use Rattle.coap_promise.specs.ObservationRuns.{observe_bytes, first_bytes, second_bytes}
use Rattle.coap_promise.proofs.Facts.Witness.OneHeld.{one, first, further}
use Rattle.coap_promise.proofs.Facts.Witness.TurnsMade.{server_turn, to_client}
use Rattle.coap_promise.proofs.Facts.Witness.Tests.{messages, server_lawful}
use Rattle.coap_server.specs.Serving.{IsServed}

-- what the path holds, in version 1 and in version 2

abbrev pub held : ℕ → List ℕ → Held
held version body = record { version = version; format = Some plain; body = body }

abbrev pub a : Content
a = one t (held 1 (codes "a")) (counted (unused limits) 0)

abbrev pub b : Content
b = one t (held 2 (codes "b")) (counted a.tally 3)

pub first_change : Changes (nothing limits) 0 t (Some (held 1 (codes "a"))) a
first_change = first limits 0 t (held 1 (codes "a"))

pub second : Changes a 3 t (Some (held 2 (codes "b"))) b
second = further 3 t (held 1 (codes "a")) (held 2 (codes "b")) a.tally

-- the request, what it is answered, and whom it registers

abbrev pub request : Message
request = record {
  kind = Con;
  code = 1;
  id = 0;
  token = token;
  options = record { number = 6; value = [] } ∷ record { number = 11; value = codes "t" } ∷ [];
  payload = [];
}

abbrev pub asked : Request
asked = asked_of client_end request

abbrev pub question : Question
question = record { method = Get; path = t; options = request.options; body = []; szx = 6 }

abbrev pub content : ℕ → List ℕ → Reply
content version body = record {
  code = 69;
  tag = Some (tag version);
  format = Some plain;
  block2 = None;
  part = body;
  offset = 0;
}

abbrev pub observer : Observer
observer =
    record {
      to = client_end;
      token = token;
      path = t;
      szx = 6;
      marked = true;
      con = 1;
      changed = 3;
      noted = None;
    }

-- the calls of each turn, the newest first

abbrev pub first_set : List S.Call
first_set = S.Sets 0 t (Some plain) (codes "a") (Ok 1) a ∷ []

abbrev pub fed : List S.Call
fed = S.Feeds 1 client_end observe_bytes 0 (L.Becomes (L.Request request true)) (Some (asked, request))
    (S.Serves question (content 1 (codes "a")) a) L.Nothing ∷ []

abbrev pub second_set : List S.Call
second_set = S.Sets 3 t (Some plain) (codes "b") (Ok 2) b ∷ []

abbrev pub ticked : List S.Call
ticked =
    S.Ticks 3 0 L.Idle false due.Idle 0 S.Silent 0 false ∷
    S.Ticks 3 0 L.Idle false due.Idle 0 (S.Notifies observer (content 2 (codes "b"))) 0 true ∷
    []

abbrev pub acknowledged : List S.Call
acknowledged = S.Feeds 5 client_end empty_ack 0 (L.Becomes (L.Acked 0)) None S.Silent L.Nothing ∷ []

abbrev calls_before : List S.Call
calls_before =
    server_turn (to_client second_bytes ∷ []) ticked
    ++ (server_turn [] second_set ++ (server_turn (to_client first_bytes ∷ []) fed ++ server_turn [] first_set))

abbrev pub calls : List S.Call
calls = server_turn [] acknowledged ++ calls_before

pub served : IsServed a 1 question (S.Serves question (content 1 (codes "a")) a)
served = record { reply = content 1 (codes "a"); left = a; serves = (refl, refl); is = refl }

pub lawful : ServerLaw limits 6 (usual 0) calls
unfolding messages
lawful = server_lawful limits 6 calls (assumption (served, first_change, second)) refl refl
