-- The first client at the lock: it takes it, looks at it, and gives it back (RFC 7252, sections 4.2 and 5.2.1).
use Rattle.std.proofs.Common.{true, false, Some, None, List, [], ◌∷◌, ◌++◌, Ok, refl}
use Rattle.std.specs.Prelude.{codes}
use Rattle.coap_types.specs.declared.message.Kind.TheVariants.{Ack}
use Rattle.coap_codec.specs.Message.{Message}
use Rattle.coap_exchange.specs.SuccessCodes.{created, deleted}
use Rattle.coap_exchange.specs.declared.asker.Turn.TheVariants as turn
use Rattle.coap_layer.specs.Machine.State.{usual}
use Rattle.coap_layer.specs.Trace as L
use Rattle.coap_client.specs.Trace as C
use Rattle.coap_client.specs.Law.{ClientLaw}
use Rattle.coap_record.specs.Events.{server_end}
use Rattle.coap_promise.specs.ClockRuns.{created_bytes}
use Rattle.coap_promise.specs.LateRuns.{key}
use Rattle.coap_promise.specs.LegalRuns.{sizes, token, tag}
use Rattle.coap_promise.proofs.Facts.Witness.LateTurns.{ends}
use Rattle.coap_promise.proofs.Facts.Witness.TurnsMade.{client_turn, to_server, asks, rests}
use Rattle.coap_promise.proofs.Facts.Witness.Tests.{messages, client_lawful}
use Rattle.coap_many.specs.LockRun.{take, look, give_back, take_bytes, look_bytes, shown_bytes, give_back_bytes}
use Rattle.coap_many.specs.LockRun.{given_back_bytes}
use Rattle.coap_many.specs.ManyRuns.{told}

-- the responses

abbrev pub made : Message
made = record { kind = Ack; code = 65; id = 0; token = token; options = []; payload = [] }

abbrev shown : Message
shown = record {
  kind = Ack;
  code = 69;
  id = 1;
  token = key 1;
  options = record { number = 4; value = tag 1 } ∷ [];
  payload = codes "a";
}

abbrev gone : Message
gone = record { kind = Ack; code = 66; id = 2; token = key 2; options = []; payload = [] }

-- what it is told

abbrev pub has_it : C.Reported
has_it = told 0 (C.Done created)

abbrev pub sees : C.Reported
sees = told 1 (C.Body (Some (tag 1)) None (codes "a"))

abbrev pub is_rid : C.Reported
is_rid = told 2 (C.Done deleted)

-- the calls of each turn, the newest first

abbrev pub takes : List C.Call
takes = C.Calls 0 (take (codes "a")) (Ok 0) ∷ []

abbrev pub sends_take : List C.Call
sends_take = rests 0 ∷ asks 0 0 token ∷ []

abbrev pub copies : List C.Call
copies = rests 2000 ∷ C.Ticks 2000 0 (L.Copied server_end 0) turn.Copied L.Nothing (Ok []) false true ∷ []

abbrev pub hears_made : C.Call
hears_made = ends 2009 created_bytes made

abbrev pub looks : List C.Call
looks = C.Calls 2010 look (Ok 1) ∷ []

abbrev pub sends_look : List C.Call
sends_look = rests 2010 ∷ asks 2010 1 (key 1) ∷ []

abbrev pub hears_shown : C.Call
hears_shown = ends 2019 shown_bytes shown

abbrev pub gives : List C.Call
gives = C.Calls 2020 give_back (Ok 2) ∷ []

abbrev pub sends_give : List C.Call
sends_give = rests 2020 ∷ asks 2020 2 (key 2) ∷ []

abbrev pub hears_gone : C.Call
hears_gone = ends 2029 given_back_bytes gone

abbrev calls_taking : List C.Call
calls_taking = client_turn (has_it ∷ []) [] (hears_made ∷ [])
    ++ (client_turn [] (to_server (take_bytes (codes "a")) ∷ []) copies
    ++ (client_turn [] (to_server (take_bytes (codes "a")) ∷ []) sends_take ++ client_turn [] [] takes))

abbrev calls_looking : List C.Call
calls_looking = client_turn (sees ∷ []) [] (hears_shown ∷ [])
    ++ (client_turn [] (to_server look_bytes ∷ []) sends_look ++ (client_turn [] [] looks ++ calls_taking))

abbrev calls : List C.Call
calls = client_turn (is_rid ∷ []) [] (hears_gone ∷ [])
    ++ (client_turn [] (to_server give_back_bytes ∷ []) sends_give ++ (client_turn [] [] gives ++ calls_looking))

pub lawful : ClientLaw server_end sizes (usual 0) calls
unfolding messages
lawful = client_lawful sizes calls (assumption) (assumption) refl
