-- The server of a run in which a body grows old: it serves a request, its path changes, and it gives the same reply
-- to a copy (RFC 7252, section 4.5).
use Rattle.std.proofs.Common.{ℕ, true, Some, None, List, [], ◌∷◌, ◌++◌, Ok, refl}
use Rattle.std.specs.Prelude.{codes}
use Rattle.coap_layer.specs.Machine.State.{usual}
use Rattle.coap_layer.specs.Trace as L
use Rattle.coap_resource.specs.Content.{Content, Held, Changes, nothing}
use Rattle.coap_resource.specs.Rate.{counted, unused}
use Rattle.coap_resource.specs.Serves.{Reply}
use Rattle.coap_exchange.specs.AnswererSteps.{asked_of}
use Rattle.coap_server.specs.Law.{ServerLaw}
use Rattle.coap_server.specs.Serving.{IsServed}
use Rattle.coap_server.specs.Trace as S
use Rattle.coap_promise.specs.AgeRuns.{old_bytes}
use Rattle.coap_record.specs.Events.{client_end}
use Rattle.coap_promise.specs.LegalRuns.{limits, plain, t, get_bytes}
use Rattle.coap_promise.proofs.Facts.Witness.Gets.Server as gets
use Rattle.coap_promise.proofs.Facts.Witness.Gets.Server.{request, question}
use Rattle.coap_promise.proofs.Facts.Witness.OneHeld.{one, first, further}
use Rattle.coap_promise.proofs.Facts.Witness.TurnsMade.{server_turn, to_client}
use Rattle.coap_promise.proofs.Facts.Witness.Tests.{messages, server_lawful}

-- what the path holds, in version 1 and in version 2

abbrev held : ℕ → List ℕ → Held
held version body = record { version = version; format = Some plain; body = body }

abbrev pub old : Content
old = one t (held 1 (codes "old")) (counted (unused limits) 0)

abbrev pub new : Content
new = one t (held 2 (codes "new")) (counted old.tally 1)

first_change : Changes (nothing limits) 0 t (Some (held 1 (codes "old"))) old
first_change = first limits 0 t (held 1 (codes "old"))

second : Changes old 1 t (Some (held 2 (codes "new"))) new
second = further 1 t (held 1 (codes "old")) (held 2 (codes "new")) old.tally

abbrev reply : Reply
reply = record gets.reply { part = codes "old" }

-- the calls of each turn, the newest first

abbrev pub first_set : S.Call
first_set = S.Sets 0 t (Some plain) (codes "old") (Ok 1) old

abbrev pub serves : S.Call
serves = S.Feeds 0 client_end get_bytes 0 (L.Becomes (L.Request request true))
    (Some (asked_of client_end request, request)) (S.Serves question reply old) L.Nothing

abbrev pub second_set : S.Call
second_set = S.Sets 1 t (Some plain) (codes "new") (Ok 2) new

abbrev pub replays : S.Call
replays = S.Feeds 147000 client_end get_bytes 0 (L.Becomes L.Replayed) None S.Silent L.Nothing

abbrev pub calls : List S.Call
calls = server_turn (to_client old_bytes ∷ []) (replays ∷ []) ++ (server_turn [] (second_set ∷ [])
    ++ (server_turn (to_client old_bytes ∷ []) (serves ∷ []) ++ server_turn [] (first_set ∷ [])))

served : IsServed old 0 question (S.Serves question reply old)
served = record { reply = reply; left = old; serves = (refl, refl); is = refl }

pub lawful : ServerLaw limits 6 (usual 0) calls
unfolding messages
lawful = server_lawful limits 6 calls (assumption (served, first_change, second)) refl refl
