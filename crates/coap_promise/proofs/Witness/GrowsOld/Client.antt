-- The client of a run in which a body grows old: it copies its request late, and takes the answer later still (RFC
-- 7252, sections 4.2 and 4.8.2).
use Rattle.std.proofs.Common.{ℕ, true, false, Some, List, [], ◌∷◌, ◌++◌, Ok, refl}
use Rattle.std.specs.Prelude.{codes}
use Rattle.coap_codec.specs.Message.{Message}
use Rattle.coap_layer.specs.Machine.State.{usual}
use Rattle.coap_layer.specs.Trace as L
use Rattle.coap_exchange.specs.declared.asker.Event.TheVariants as event
use Rattle.coap_client.specs.Trace as C
use Rattle.coap_client.specs.Law.{ClientLaw}
use Rattle.coap_promise.specs.AgeRuns.{old_bytes, old_report}
use Rattle.coap_record.specs.Events.{server_end}
use Rattle.coap_promise.specs.LegalRuns.{sizes, get_bytes}
use Rattle.coap_promise.proofs.Facts.Witness.Gets.Client.{content, called, ticked}
use Rattle.coap_promise.proofs.Facts.Witness.TimesOut.Client.{copies}
use Rattle.coap_promise.proofs.Facts.Witness.TurnsMade.{client_turn, to_server}
use Rattle.coap_promise.proofs.Facts.Witness.Tests.{messages, client_lawful}

-- the response
abbrev pub old : Message
old = record content { payload = codes "old" }

-- it comes at this moment, behind a copy
abbrev pub hears : ℕ → C.Call
hears at = C.Feeds at server_end old_bytes 0 (L.Becomes (L.Response old)) true (Some (event.Answer old)) L.Nothing
    (Ok [])
    false

abbrev calls : ℕ → List C.Call
calls at = client_turn (old_report ∷ []) [] (hears at ∷ [])
    ++ (client_turn [] (to_server get_bytes ∷ []) (copies 47000)
    ++ (client_turn [] (to_server get_bytes ∷ []) ticked ++ client_turn [] [] called))

pub lawful : ClientLaw server_end sizes (usual 0) (calls 247000)
unfolding messages
lawful = client_lawful sizes (calls 247000) (assumption) (assumption) refl

pub lawful_gaining : ClientLaw server_end sizes (usual 0) (calls 252000)
unfolding messages
lawful_gaining = client_lawful sizes (calls 252000) (assumption) (assumption) refl
