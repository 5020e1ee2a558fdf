-- The server of a run of two clients: it serves the GET of the one and the PUT of the other, of one Message ID and one
-- token (RFC 7252, sections 4.5, 5.2.1 and 5.8).
use Rattle.std.proofs.Common.{true, Some, None, List, [], ◌∷◌, ◌++◌, refl}
use Rattle.std.specs.Prelude.{codes}
use Rattle.coap_types.specs.declared.request.Method.TheVariants.{Put}
use Rattle.coap_layer.specs.Machine.State.{usual}
use Rattle.coap_layer.specs.Trace as L
use Rattle.coap_resource.specs.Content.{Content, Held, Changes}
use Rattle.coap_resource.specs.Rate.{counted}
use Rattle.coap_resource.specs.Serves.{Question, bare}
use Rattle.coap_exchange.specs.AnswererSteps.{asked_of}
use Rattle.coap_server.specs.Law.{ServerLaw}
use Rattle.coap_server.specs.Serving.{IsServed}
use Rattle.coap_server.specs.Trace as S
use Rattle.coap_promise.specs.LegalRuns.{limits, plain, t, content_bytes, changed_bytes}
use Rattle.coap_smooth.specs.SmoothRuns.{put_bytes}
use Rattle.coap_promise.proofs.Facts.Witness.Gets.Server.{stored, sets, stores, serves, served}
use Rattle.coap_promise.proofs.Facts.Witness.OneHeld.{one, further}
use Rattle.coap_smooth.proofs.Facts.Witness.PutsLate.Server.{request}
use Rattle.coap_promise.proofs.Facts.Witness.TurnsMade.{server_turn, to_client}
use Rattle.coap_promise.proofs.Facts.Witness.Tests.{messages, server_lawful}
use Rattle.coap_many.specs.ManyRuns.{second_end}

-- the PUT, and what it makes of the path

abbrev pub question : Question
question = record { method = Put; path = t; options = request.options; body = codes "ho"; szx = 6 }

abbrev pub put_there : Held
put_there = record { version = 2; format = None; body = codes "ho" }

abbrev pub changed : Content
changed = one t put_there (counted stored.tally 5)

changes : Changes stored 5 t (Some put_there) changed
changes = further 5 t (record { version = 1; format = Some plain; body = codes "hi" }) put_there stored.tally

pub put_served : IsServed stored 5 question (S.Serves question (bare 68 0) changed)
put_served = record { reply = bare 68 0; left = changed; serves = (refl, changes); is = refl }

-- the calls of each turn, the newest first

abbrev pub puts : S.Call
puts = S.Feeds 5 second_end put_bytes 0 (L.Becomes (L.Request request true))
    (Some (asked_of second_end request, request))
    (S.Serves question (bare 68 0) changed) L.Nothing

abbrev pub to_second : L.Packet
to_second = record { to = second_end; bytes = changed_bytes }

abbrev pub calls : List S.Call
calls = server_turn (to_second ∷ []) (puts ∷ [])
    ++ (server_turn (to_client content_bytes ∷ []) (serves ∷ []) ++ server_turn [] (sets ∷ []))

pub lawful : ServerLaw limits 6 (usual 0) calls
unfolding messages
lawful = server_lawful limits 6 calls (assumption (put_served, served 5, stores)) refl refl
