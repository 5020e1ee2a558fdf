-- The second client of a run of two: it gets what the first one put (RFC 7252, sections 4.2 and 5.2.1).
use Rattle.std.proofs.Common.{◌+◌, Some, None, List, [], ◌∷◌, ◌++◌, Ok, refl}
use Rattle.std.specs.Prelude.{codes}
use Rattle.coap_types.specs.declared.message.Kind.TheVariants.{Ack}
use Rattle.coap_codec.specs.Message.{Message}
use Rattle.coap_layer.specs.Machine.State.{usual}
use Rattle.coap_client.specs.Trace as C
use Rattle.coap_client.specs.Law.{ClientLaw}
use Rattle.coap_record.specs.Events.{server_end}
use Rattle.coap_promise.specs.LegalRuns.{sizes, token, tag, get, get_bytes}
use Rattle.coap_promise.proofs.Facts.Witness.LateTurns.{ends}
use Rattle.coap_promise.proofs.Facts.Witness.TurnsMade.{client_turn, to_server, asks, rests}
use Rattle.coap_promise.proofs.Facts.Witness.Tests.{messages, client_lawful}
use Rattle.coap_many.specs.ReadsBehind.{read_bytes}
use Rattle.coap_many.specs.ManyRuns.{ahead, told}

-- the response
abbrev content : Message
content = record {
  kind = Ack;
  code = 69;
  id = 0;
  token = token;
  options = record { number = 4; value = tag 2 } ∷ [];
  payload = codes "ho";
}

abbrev pub got : C.Reported
got = told 0 (C.Body (Some (tag 2)) None (codes "ho"))

-- the calls of each turn, the newest first

abbrev pub called : List C.Call
called = C.Calls (ahead + 10) get (Ok 0) ∷ []

abbrev pub ticked : List C.Call
ticked = rests (ahead + 10) ∷ asks (ahead + 10) 0 token ∷ []

abbrev pub hears : C.Call
hears = ends (ahead + 19) read_bytes content

abbrev calls : List C.Call
calls = client_turn (got ∷ []) [] (hears ∷ [])
    ++ (client_turn [] (to_server get_bytes ∷ []) ticked ++ client_turn [] [] called)

pub lawful : ClientLaw server_end sizes (usual 0) calls
unfolding messages
lawful = client_lawful sizes calls (assumption) (assumption) refl
