-- The server of a smooth run in which it ticks only when something is due: it has nothing to do while a request waits
-- (RFC 7252, section 5.2.2).
use Rattle.std.proofs.Common.{true, List, [], ◌∷◌, ◌++◌, refl}
use Rattle.coap_layer.specs.Machine.State.{usual}
use Rattle.coap_server.specs.Trace as S
use Rattle.coap_server.specs.Law.{ServerLaw}
use Rattle.coap_promise.specs.LegalRuns.{limits, t, empty_ack, separate_bytes}
use Rattle.coap_promise.proofs.Facts.Witness.Gets.Server.{sets, served, stores}
use Rattle.coap_promise.proofs.Facts.Witness.TurnsMade.{server_turn, to_client, idle}
use Rattle.coap_promise.proofs.Facts.Witness.Tests.{messages, server_lawful}
use Rattle.coap_smooth.proofs.Witness.DefersLongest.Server.{waits, ticked}

-- the calls so far, when a request waits
abbrev pub waiting : List S.Call
waiting = server_turn (to_client empty_ack ∷ []) waits ++ (server_turn [] (sets ∷ []) ++ S.Delays t 10000 true ∷ [])

abbrev pub calls : List S.Call
calls = server_turn (to_client separate_bytes ∷ []) ticked ++ waiting

pub lawful : ServerLaw limits 6 (usual 0) calls
unfolding messages
lawful = server_lawful limits 6 calls (assumption (served 11999, stores)) refl refl

-- a tick would do nothing, up to 1 ms before the request is ready

pub idles_first : ServerLaw limits 6 (usual 0) (idle 2000 ∷ waiting)
unfolding messages
idles_first = server_lawful limits 6 (idle 2000 ∷ waiting) (assumption stores) refl refl

pub idles_last : ServerLaw limits 6 (usual 0) (idle 10999 ∷ waiting)
unfolding messages
idles_last = server_lawful limits 6 (idle 10999 ∷ waiting) (assumption stores) refl refl
