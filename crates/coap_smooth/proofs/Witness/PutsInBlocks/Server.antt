-- The server of a smooth run: it joins two blocks, and puts their body (RFC 7959, section 2.5).
use Rattle.std.proofs.Common.{true, Some, None, List, [], ◌∷◌, ◌++◌, refl}
use Rattle.std.specs.Prelude.{codes}
use Rattle.coap_types.specs.declared.request.Method.TheVariants.{Put}
use Rattle.coap_codec.specs.Message.{Message}
use Rattle.coap_layer.specs.Machine.State.{usual}
use Rattle.coap_layer.specs.Trace as L
use Rattle.coap_resource.specs.Content.{Content, Held, Changes, nothing}
use Rattle.coap_resource.specs.Rate.{counted, unused}
use Rattle.coap_resource.specs.Serves.{Question, bare}
use Rattle.coap_exchange.specs.AnswererSteps.{asked_of}
use Rattle.coap_exchange.specs.SuccessCodes.{created}
use Rattle.coap_server.specs.Law.{ServerLaw}
use Rattle.coap_server.specs.Serving.{IsServed}
use Rattle.coap_server.specs.Trace as S
use Rattle.coap_smooth.specs.BlockRuns.{last_block}
use Rattle.coap_record.specs.Events.{client_end}
use Rattle.coap_promise.specs.LateRuns.{answer_bytes, continue}
use Rattle.coap_promise.specs.LegalRuns.{limits, t}
use Rattle.coap_promise.proofs.Facts.Witness.LateTurns.{block, takes, answers}
use Rattle.coap_promise.proofs.Facts.Witness.OneHeld as store
use Rattle.coap_promise.proofs.Facts.Witness.TurnsMade.{server_turn, idle}
use Rattle.coap_promise.proofs.Facts.Witness.Tests.{messages, server_lawful}

abbrev pub takes_first : S.Call
takes_first = takes 1000 0 8 (codes "abcdefghijklmnop")

abbrev last : Message
last = block 1 16 (codes "q")

abbrev held : Held
held = record { version = 1; format = None; body = codes "abcdefghijklmnopq" }

abbrev made : Content
made = store.one t held (counted (unused limits) 3000)

makes : Changes (nothing limits) 3000 t (Some held) made
makes = store.first limits 3000 t held

abbrev question : Question
question = record { method = Put; path = t; options = last.options; body = held.body; szx = 6 }

abbrev pub puts : S.Call
puts = S.Feeds 3000 client_end last_block 0 (L.Becomes (L.Request last true)) (Some (asked_of client_end last, last))
    (S.Serves question (bare created 0) made) L.Nothing

-- its calls, a few turns after the others

abbrev calls_put : List S.Call
calls_put = server_turn [] (idle 3000 ∷ []) ++ (answers (answer_bytes created 1 16) puts
    ++ (server_turn [] (idle 2000 ∷ []) ++ (server_turn [] (idle 1000 ∷ [])
    ++ answers (answer_bytes continue 0 8) takes_first)))

abbrev pub calls : List S.Call
calls = server_turn [] (idle 6000 ∷ []) ++ (server_turn [] (idle 5000 ∷ [])
    ++ (server_turn [] (idle 4000 ∷ []) ++ calls_put))

served : IsServed (nothing limits) 3000 question (S.Serves question (bare created 0) made)
served = record { reply = bare created 0; left = made; serves = (refl, makes); is = refl }

pub lawful : ServerLaw limits 6 (usual 0) calls
unfolding messages
lawful = server_lawful limits 6 calls (assumption served) refl refl
