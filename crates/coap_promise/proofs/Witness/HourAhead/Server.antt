-- The server of a run by two clocks: it registers the client, tells it of a change, and serves it (RFC 7252, section
-- 5.2.1; RFC 7641, sections 4.1 and 4.2).
use Rattle.std.proofs.Common.{◌+◌, true, false, Some, None, List, [], ◌∷◌, ◌++◌, Ok, refl}
use Rattle.std.specs.Prelude.{codes}
use Rattle.coap_types.specs.declared.message.Kind.TheVariants.{Con}
use Rattle.coap_types.specs.declared.request.Method.TheVariants.{Get}
use Rattle.coap_codec.specs.Message.{Message}
use Rattle.coap_layer.specs.Machine.State.{usual}
use Rattle.coap_layer.specs.Trace as L
use Rattle.coap_observe.specs.Observers.{Observer}
use Rattle.coap_resource.specs.Content.{Content, Changes, nothing}
use Rattle.coap_resource.specs.Rate.{counted, unused}
use Rattle.coap_resource.specs.Serves.{Question}
use Rattle.coap_exchange.specs.AnswererSteps.{asked_of}
use Rattle.coap_exchange.specs.declared.answerer.Due.TheVariants as due
use Rattle.coap_server.specs.Law.{ServerLaw}
use Rattle.coap_server.specs.Serving.{IsServed}
use Rattle.coap_server.specs.Trace as S
use Rattle.coap_promise.specs.ClockRuns.{hour, content_bytes, get_bytes}
use Rattle.coap_record.specs.Events.{client_end}
use Rattle.coap_promise.specs.LateRuns.{key}
use Rattle.coap_promise.specs.LegalRuns.{limits, plain, t, empty_ack}
use Rattle.coap_promise.specs.ObservationRuns.{observe_bytes, first_bytes, second_bytes}
use Rattle.coap_promise.proofs.Facts.Witness.Observed.Server as observed
use Rattle.coap_promise.proofs.Facts.Witness.Observed.Server.{held, request, asked, question, content}
use Rattle.coap_promise.proofs.Facts.Witness.OneHeld.{one, first, further}
use Rattle.coap_promise.proofs.Facts.Witness.TurnsMade.{server_turn, to_client, idles}
use Rattle.coap_promise.proofs.Facts.Witness.Tests.{messages, server_lawful}

-- what the path holds, in version 1 and in version 2, by a clock that is an hour ahead

abbrev pub a : Content
a = one t (held 1 (codes "a")) (counted (unused limits) hour)

abbrev pub b : Content
b = one t (held 2 (codes "b")) (counted a.tally (hour + 5003))

first_change : Changes (nothing limits) hour t (Some (held 1 (codes "a"))) a
first_change = first limits hour t (held 1 (codes "a"))

second : Changes a (hour + 5003) t (Some (held 2 (codes "b"))) b
second = further (hour + 5003) t (held 1 (codes "a")) (held 2 (codes "b")) a.tally

abbrev observer : Observer
observer = record observed.observer { con = hour + 1; changed = hour + 5003 }

-- the second request

abbrev pub get : Message
get = record {
  kind = Con;
  code = 1;
  id = 1;
  token = key 1;
  options = record { number = 11; value = codes "t" } ∷ [];
  payload = [];
}

abbrev pub gets : Question
gets = record { method = Get; path = t; options = get.options; body = []; szx = 6 }

-- the calls of each turn, the newest first

abbrev pub first_set : S.Call
first_set = S.Sets hour t (Some plain) (codes "a") (Ok 1) a

abbrev pub registers : S.Call
registers = S.Feeds (hour + 1) client_end observe_bytes 0 (L.Becomes (L.Request request true)) (Some (asked, request))
    (S.Serves question (content 1 (codes "a")) a) L.Nothing

abbrev pub second_set : S.Call
second_set = S.Sets (hour + 5003) t (Some plain) (codes "b") (Ok 2) b

abbrev pub notifies : S.Call
notifies = S.Ticks (hour + 5003) 0 L.Idle false due.Idle 0 (S.Notifies observer (content 2 (codes "b"))) 0 true

abbrev pub acknowledged : S.Call
acknowledged = S.Feeds (hour + 5005) client_end empty_ack 0 (L.Becomes (L.Acked 0)) None S.Silent L.Nothing

abbrev pub serves : S.Call
serves = S.Feeds (hour + 5007) client_end get_bytes 0 (L.Becomes (L.Request get true)) (Some
    (asked_of client_end get, get))
    (S.Serves gets (content 2 (codes "b")) b) L.Nothing

abbrev calls_before : List S.Call
calls_before = server_turn (to_client second_bytes ∷ []) (idles (hour + 5003) 0 0 ∷ notifies ∷ [])
    ++ (server_turn [] (second_set ∷ [])
    ++ (server_turn (to_client first_bytes ∷ []) (registers ∷ []) ++ server_turn [] (first_set ∷ [])))

abbrev pub calls : List S.Call
calls = server_turn (to_client content_bytes ∷ []) (serves ∷ []) ++ (server_turn [] (acknowledged ∷ []) ++ calls_before)

served_first : IsServed a (hour + 1) question (S.Serves question (content 1 (codes "a")) a)
served_first = record { reply = content 1 (codes "a"); left = a; serves = (refl, refl); is = refl }

served : IsServed b (hour + 5007) gets (S.Serves gets (content 2 (codes "b")) b)
served = record { reply = content 2 (codes "b"); left = b; serves = (refl, refl); is = refl }

pub lawful : ServerLaw limits 6 (usual 0) calls
unfolding messages
lawful = server_lawful limits 6 calls (assumption (served, served_first, first_change, second)) refl refl
