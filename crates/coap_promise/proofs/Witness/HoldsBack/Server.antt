-- The server of a legal run: a late block of an upload is taken before the first of another one (RFC 7959, section
-- 2.5).
use Rattle.std.proofs.Common.{true, Some, None, List, ◌++◌, refl}
use Rattle.std.specs.Prelude.{codes}
use Rattle.coap_types.specs.declared.request.Method.TheVariants.{Put}
use Rattle.coap_codec.specs.Message.{Message}
use Rattle.coap_layer.specs.Trace as L
use Rattle.coap_resource.specs.Content.{Content, Changes, Held, nothing}
use Rattle.coap_resource.specs.Rate.{counted, unused}
use Rattle.coap_resource.specs.Serves.{Question, bare}
use Rattle.coap_exchange.specs.AnswererSteps.{asked_of}
use Rattle.coap_server.specs.Trace as S
use Rattle.coap_server.specs.Law.{ServerLaw}
use Rattle.coap_exchange.specs.SuccessCodes.{created}
use Rattle.coap_promise.specs.LegalRuns.{limits, t}
use Rattle.coap_record.specs.Events.{client_end}
use Rattle.coap_layer.specs.Machine.State.{usual}
use Rattle.coap_promise.proofs.Facts.Witness.OneHeld as store
use Rattle.coap_promise.specs.LateRuns.{answer_bytes, continue, held_body, held_third}
use Rattle.coap_promise.proofs.Facts.Witness.LateTurns.{block, takes, answers}
use Rattle.coap_promise.proofs.Facts.Witness.Tests.{messages, server_lawful}
use Rattle.coap_server.specs.Serving.{IsServed}

-- each block is taken, and the last one puts the whole body

abbrev pub takes_lost_first : S.Call
takes_lost_first = takes 0 0 8 (codes "abcdefghijklmnop")

abbrev pub takes_lost_second : S.Call
takes_lost_second = takes 130000 1 24 (codes "qrstuvwxyzabcdef")

abbrev pub takes_first : S.Call
takes_first = takes 130001 2 8 (codes "ABCDEFGHIJKLMNOP")

abbrev pub takes_second : S.Call
takes_second = takes 130001 3 24 (codes "QRSTUVWXYZABCDEF")

abbrev last_block : Message
last_block = block 4 32 (codes "G")

abbrev held : Held
held = record { version = 1; format = None; body = held_body }

abbrev pub made : Content
made = store.one t held (counted (unused limits) 130001)

makes : Changes (nothing limits) 130001 t (Some held) made
makes = store.first limits 130001 t held

abbrev question : Question
question = record { method = Put; path = t; options = last_block.options; body = held_body; szx = 6 }

abbrev pub puts : S.Call
puts =
    S.Feeds 130001 client_end held_third 0 (L.Becomes (L.Request last_block true))
    (Some (asked_of client_end last_block, last_block))
    (S.Serves question (bare created 0) made) L.Nothing

-- its calls, a few turns after the others

abbrev pub calls_lost : List S.Call
calls_lost = answers (answer_bytes continue 1 24) takes_lost_second
    ++ answers (answer_bytes continue 0 8) takes_lost_first

abbrev pub calls_held : List S.Call
calls_held =
    answers (answer_bytes continue 3 24) takes_second ++ (
    answers (answer_bytes continue 2 8) takes_first ++
    calls_lost)

abbrev pub calls_put : List S.Call
calls_put = answers (answer_bytes created 4 32) puts ++ calls_held

served : IsServed (nothing limits) 130001 question (S.Serves question (bare created 0) made)
served = record { reply = bare created 0; left = made; serves = (refl, makes); is = refl }

pub lawful : ServerLaw limits 6 (usual 0) calls_put
unfolding messages
lawful = server_lawful limits 6 calls_put (assumption served) refl refl
