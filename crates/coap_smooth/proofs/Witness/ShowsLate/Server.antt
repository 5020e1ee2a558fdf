-- The server of a smooth run: it tells a change, and the next one as late as it can (RFC 7641, section 4.5).
use Rattle.std.proofs.Common.{true, false, Some, None, List, [], ◌∷◌, ◌++◌, Ok, refl}
use Rattle.std.specs.Prelude.{codes}
use Rattle.coap_layer.specs.Machine.State.{usual}
use Rattle.coap_layer.specs.Trace as L
use Rattle.coap_resource.specs.Content.{Content, Changes}
use Rattle.coap_resource.specs.Rate.{counted}
use Rattle.coap_server.specs.Trace as S
use Rattle.coap_server.specs.Law.{ServerLaw}
use Rattle.coap_promise.specs.LegalRuns.{limits, plain, t, empty_ack}
use Rattle.coap_record.specs.Events.{client_end}
use Rattle.coap_observe.specs.Observers.{Observer}
use Rattle.coap_exchange.specs.declared.answerer.Due.TheVariants as due
use Rattle.coap_promise.specs.ObservationRuns.{first_bytes, second_bytes}
use Rattle.coap_smooth.specs.CurrentRuns.{third_bytes, second_ack}
use Rattle.coap_promise.proofs.Facts.Witness.OneHeld.{one, further}
use Rattle.coap_promise.proofs.Facts.Witness.Observed.Server.{held, b, content, observer, first_set, fed, second_set}
use Rattle.coap_promise.proofs.Facts.Witness.Observed.Server.{served}
use Rattle.coap_promise.proofs.Facts.Witness.Observed.Server.{first_change, second}
use Rattle.coap_promise.proofs.Facts.Witness.TurnsMade.{server_turn, to_client, idles}
use Rattle.coap_promise.proofs.Facts.Witness.Tests.{messages, server_lawful}

-- what the path holds in version 3, and whom that is told

abbrev pub c : Content
c = one t (held 3 (codes "c")) (counted b.tally 3)

third : Changes b 3 t (Some (held 3 (codes "c"))) c
third = further 3 t (held 2 (codes "b")) (held 3 (codes "c")) b.tally

abbrev pub again : Observer
again = record observer { con = 3 }

-- the calls of each turn, the newest first

abbrev pub tells_second : List S.Call
tells_second = idles 3 1 0 ∷
    S.Ticks 3 1 L.Idle false due.Idle 0 (S.Notifies observer (content 2 (codes "b"))) 0 true ∷ []

abbrev pub third_set : List S.Call
third_set = S.Sets 3 t (Some plain) (codes "c") (Ok 3) c ∷ []

abbrev pub acked : List S.Call
acked = S.Feeds 2003 client_end empty_ack 0 (L.Becomes (L.Acked 0)) None S.Silent L.Nothing ∷ []

abbrev pub tells_third : List S.Call
tells_third =
    idles 3003 0 0 ∷ S.Ticks 3003 0 L.Idle false due.Idle 0 (S.Notifies again (content 3 (codes "c"))) 1 true ∷ []

abbrev pub last_acked : List S.Call
last_acked = S.Feeds 5003 client_end second_ack 0 (L.Becomes (L.Acked 1)) None S.Silent L.Nothing ∷ []

abbrev calls_till : List S.Call
calls_till = server_turn [] (idles 4003 0 0 ∷ []) ++ (server_turn (to_client third_bytes ∷ []) tells_third ++
    (server_turn [] acked ++ (server_turn [] (idles 2003 0 1 ∷ []) ++ (server_turn [] (idles 1003 0 1 ∷ []) ++
    (server_turn [] third_set ++ (server_turn (to_client second_bytes ∷ []) tells_second ++
    (server_turn [] second_set ++ (server_turn (to_client first_bytes ∷ []) fed ++ (server_turn [] first_set)))))))))

abbrev pub calls : List S.Call
calls = server_turn [] (idles 5003 0 0 ∷ []) ++ (server_turn [] last_acked ++ calls_till)

pub lawful : ServerLaw limits 6 (usual 0) calls
unfolding messages
lawful = server_lawful limits 6 calls (assumption (served, first_change, second, third)) refl refl
