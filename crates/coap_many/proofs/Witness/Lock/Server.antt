-- The server of the run of three clients at a lock: it lets one client take it, refuses it to another, takes it back,
-- and lets a third one take it; what is repeated is answered again, and not applied (RFC 7252, sections 4.5 and 5.8).
use Rattle.std.proofs.Common.{ℕ, true, Some, None, List, [], ◌∷◌, ◌++◌, refl, sym}
use Rattle.std.specs.Prelude.{codes}
use Rattle.coap_types.specs.declared.endpoint.Endpoint.{Endpoint}
use Rattle.coap_types.specs.declared.message.Kind.TheVariants.{Con}
use Rattle.coap_types.specs.declared.request.Method.{Method}
use Rattle.coap_types.specs.declared.request.Method.TheVariants.{Get, Put, Delete}
use Rattle.coap_codec.specs.Message.{Message}
use Rattle.coap_layer.specs.Machine.State.{usual}
use Rattle.coap_layer.specs.Trace as L
use Rattle.coap_resource.specs.Content.{Content, Held, Changes, nothing}
use Rattle.coap_resource.specs.Rate.{Tally, counted, unused}
use Rattle.coap_resource.specs.Serves.{Question, Reply, bare}
use Rattle.coap_exchange.specs.AnswererSteps.{asked_of}
use Rattle.coap_server.specs.Law.{ServerLaw}
use Rattle.coap_server.specs.Serving.{IsServed}
use Rattle.coap_server.specs.Trace as S
use Rattle.coap_record.specs.Events.{client_end}
use Rattle.coap_promise.specs.ClockRuns.{created_bytes}
use Rattle.coap_promise.specs.LateRuns.{key}
use Rattle.coap_promise.specs.LegalRuns.{limits, token, tag}
use Rattle.coap_promise.proofs.Facts.Witness.OneHeld as store
use Rattle.coap_promise.proofs.Facts.Witness.TurnsMade.{server_turn, to_client}
use Rattle.coap_promise.proofs.Facts.Witness.Tests.{messages, server_lawful}
use Rattle.coap_many.specs.LockRun.{lock, take_bytes, refused_bytes, look_bytes, shown_bytes, give_back_bytes}
use Rattle.coap_many.specs.LockRun.{given_back_bytes}
use Rattle.coap_many.specs.ManyRuns.{second_end, third_end}
use Rattle.coap_many.proofs.Witness.Turns.{to}

-- what the lock holds: the first one's name, nothing, and the third one's

abbrev held : ℕ → List ℕ → Held
held version name = record { version = version; format = None; body = name }

abbrev empty : Tally → Content
empty tally = record { holds = λ _. None; paths = 0; tally = tally }

abbrev firsts : Content
firsts = store.one lock (held 1 (codes "a")) (counted (unused limits) 5)

abbrev nobodys : Content
nobodys = empty (counted firsts.tally 2025)

abbrev thirds : Content
thirds = store.one lock (held 3 (codes "c")) (counted nobodys.tally 2035)

taken : Changes (nothing limits) 5 lock (Some (held 1 (codes "a"))) firsts
taken = store.first limits 5 lock (held 1 (codes "a"))

given_back : Changes firsts 2025 lock None nobodys
given_back = record {
  there = refl;
  others = λ other apart. sym (taken.others other apart);
  paths = refl;
  tally = refl;
}

taken_again : Changes nobodys 2035 lock (Some (held 3 (codes "c"))) thirds
taken_again = record {
  there = refl;
  others = (store.first limits 5 lock (held 3 (codes "c"))).others;
  paths = refl;
  tally = refl;
}

-- the requests

abbrev takes : List ℕ → Message
takes name = record {
  kind = Con;
  code = 3;
  id = 0;
  token = token;
  options = record { number = 5; value = [] } ∷ record { number = 11; value = codes "lock" } ∷ [];
  payload = name;
}

abbrev looks : Message
looks = record {
  kind = Con;
  code = 1;
  id = 1;
  token = key 1;
  options = record { number = 11; value = codes "lock" } ∷ [];
  payload = [];
}

abbrev gives : Message
gives = record {
  kind = Con;
  code = 4;
  id = 2;
  token = key 2;
  options = record { number = 1; value = tag 1 } ∷ record { number = 11; value = codes "lock" } ∷ [];
  payload = [];
}

-- what they ask

abbrev asks : Method → Message → Question
asks method m = record { method = method; path = lock; options = m.options; body = m.payload; szx = 6 }

abbrev content : Reply
content = record { code = 69; tag = Some (tag 1); format = None; block2 = None; part = codes "a"; offset = 0 }

served_first : IsServed (nothing limits) 5 (asks Put (takes (codes "a")))
    (S.Serves (asks Put (takes (codes "a"))) (bare 65 0) firsts)
served_first = record { reply = bare 65 0; left = firsts; serves = (refl, taken); is = refl }

served_second : IsServed firsts 15 (asks Put (takes (codes "b")))
    (S.Serves (asks Put (takes (codes "b"))) (bare 140 0) firsts)
served_second = record { reply = bare 140 0; left = firsts; serves = (refl, refl); is = refl }

served_look : IsServed firsts 2015 (asks Get looks) (S.Serves (asks Get looks) content firsts)
served_look = record { reply = content; left = firsts; serves = (refl, refl); is = refl }

served_give : IsServed firsts 2025 (asks Delete gives) (S.Serves (asks Delete gives) (bare 66 0) nobodys)
served_give = record { reply = bare 66 0; left = nobodys; serves = (refl, given_back); is = refl }

served_third : IsServed nobodys 2035 (asks Put (takes (codes "c")))
    (S.Serves (asks Put (takes (codes "c"))) (bare 65 0) thirds)
served_third = record { reply = bare 65 0; left = thirds; serves = (refl, taken_again); is = refl }

-- the calls of each turn, the newest first

abbrev serves : ℕ → Endpoint → List ℕ → Message → S.Handling → S.Call
serves at from bytes m h = S.Feeds at from bytes 0 (L.Becomes (L.Request m true)) (Some (asked_of from m, m)) h
    L.Nothing

abbrev repeats : ℕ → List ℕ → S.Call
repeats at bytes = S.Feeds at client_end bytes 0 (L.Becomes L.Replayed) None S.Silent L.Nothing

abbrev pub to_first : S.Call
to_first = serves 5 client_end (take_bytes (codes "a")) (takes (codes "a"))
    (S.Serves (asks Put (takes (codes "a"))) (bare 65 0) firsts)

abbrev pub to_second : S.Call
to_second = serves 15 second_end (take_bytes (codes "b")) (takes (codes "b"))
    (S.Serves (asks Put (takes (codes "b"))) (bare 140 0) firsts)

abbrev pub copied : S.Call
copied = repeats 2005 (take_bytes (codes "a"))

abbrev pub shows : S.Call
shows = serves 2015 client_end look_bytes looks (S.Serves (asks Get looks) content firsts)

abbrev pub takes_back : S.Call
takes_back = serves 2025 client_end give_back_bytes gives (S.Serves (asks Delete gives) (bare 66 0) nobodys)

abbrev pub to_third : S.Call
to_third = serves 2035 third_end (take_bytes (codes "c")) (takes (codes "c"))
    (S.Serves (asks Put (takes (codes "c"))) (bare 65 0) thirds)

abbrev pub repeated : S.Call
repeated = repeats 2040 give_back_bytes

abbrev calls_before : List S.Call
calls_before = server_turn (to_client created_bytes ∷ []) (copied ∷ [])
    ++ (server_turn (to second_end refused_bytes ∷ []) (to_second ∷ [])
    ++ server_turn (to_client created_bytes ∷ []) (to_first ∷ []))

abbrev calls : List S.Call
calls = server_turn (to_client given_back_bytes ∷ []) (repeated ∷ [])
    ++ (server_turn (to third_end created_bytes ∷ []) (to_third ∷ [])
    ++ (server_turn (to_client given_back_bytes ∷ []) (takes_back ∷ [])
    ++ (server_turn (to_client shown_bytes ∷ []) (shows ∷ []) ++ calls_before)))

pub lawful : ServerLaw limits 6 (usual 0) calls
unfolding messages
lawful = server_lawful limits 6 calls
    (assumption (served_third, served_give, served_look, served_second, served_first)) refl refl
