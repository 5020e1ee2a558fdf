-- The server of a run of two clients: it serves the PUT of the one, and then the GET of the other (RFC 7252, sections
-- 5.2.1 and 5.8).
use Rattle.std.proofs.Common.{true, Some, None, List, [], ◌∷◌, ◌++◌, refl}
use Rattle.std.specs.Prelude.{codes}
use Rattle.coap_layer.specs.Machine.State.{usual}
use Rattle.coap_layer.specs.Trace as L
use Rattle.coap_resource.specs.Serves.{Reply, bare}
use Rattle.coap_exchange.specs.AnswererSteps.{asked_of}
use Rattle.coap_server.specs.Law.{ServerLaw}
use Rattle.coap_server.specs.Serving.{IsServed}
use Rattle.coap_server.specs.Trace as S
use Rattle.coap_record.specs.Events.{client_end}
use Rattle.coap_promise.specs.LegalRuns.{limits, tag, get_bytes, changed_bytes}
use Rattle.coap_smooth.specs.SmoothRuns.{put_bytes}
use Rattle.coap_promise.proofs.Facts.Witness.Gets.Server as gets
use Rattle.coap_promise.proofs.Facts.Witness.Gets.Server.{sets, stores}
use Rattle.coap_smooth.proofs.Facts.Witness.PutsLate.Server.{request}
use Rattle.coap_promise.proofs.Facts.Witness.TurnsMade.{server_turn, to_client}
use Rattle.coap_promise.proofs.Facts.Witness.Tests.{messages, server_lawful}
use Rattle.coap_many.specs.ReadsBehind.{read_bytes}
use Rattle.coap_many.specs.ManyRuns.{second_end}
use Rattle.coap_many.proofs.Witness.Cross.Server.{question, changed, put_served}
use Rattle.coap_many.proofs.Witness.Turns.{to}

-- what the GET is answered
abbrev reply : Reply
reply = record { code = 69; tag = Some (tag 2); format = None; block2 = None; part = codes "ho"; offset = 0 }

get_served : IsServed changed 15 gets.question (S.Serves gets.question reply changed)
get_served = record { reply = reply; left = changed; serves = (refl, refl); is = refl }

-- the calls of each turn, the newest first

abbrev pub puts : S.Call
puts = S.Feeds 5 client_end put_bytes 0 (L.Becomes (L.Request request true))
    (Some (asked_of client_end request, request))
    (S.Serves question (bare 68 0) changed) L.Nothing

abbrev pub serves : S.Call
serves = S.Feeds 15 second_end get_bytes 0 (L.Becomes (L.Request gets.request true))
    (Some (asked_of second_end gets.request, gets.request)) (S.Serves gets.question reply changed) L.Nothing

abbrev calls : List S.Call
calls = server_turn (to second_end read_bytes ∷ []) (serves ∷ [])
    ++ (server_turn (to_client changed_bytes ∷ []) (puts ∷ []) ++ server_turn [] (sets ∷ []))

pub lawful : ServerLaw limits 6 (usual 0) calls
unfolding messages
lawful = server_lawful limits 6 calls (assumption (get_served, put_served, stores)) refl refl
