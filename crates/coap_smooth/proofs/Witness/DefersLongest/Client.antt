-- The client of the smooth run in which an exchange is open longest: it ticks each second, and hears the response
-- 12,999 ms after it sent the request (RFC 7252, section 5.2.2).
use Rattle.std.proofs.Common.{ℕ, false, Some, List, [], ◌∷◌, ◌++◌, Ok, refl, inl, inr}
use Rattle.coap_layer.specs.Machine.State.{usual}
use Rattle.coap_layer.specs.Trace as L
use Rattle.coap_exchange.specs.declared.asker.Event.TheVariants as event
use Rattle.coap_client_laws.specs.Follows.Open.{IsOpenSince}
use Rattle.coap_client.specs.Trace as C
use Rattle.coap_client.specs.Law.{ClientLaw}
use Rattle.coap_record.specs.Events.{server_end}
use Rattle.coap_promise.specs.LegalRuns.{sizes, get_bytes, empty_ack, separate_bytes, token}
use Rattle.coap_promise.proofs.Facts.Witness.Gets.Client.{got, called, ticked}
use Rattle.coap_promise.proofs.Facts.Witness.Defers.Client.{separate}
use Rattle.coap_smooth.proofs.Witness.DefersLate.Client.{awaits}
use Rattle.coap_promise.proofs.Facts.Witness.TurnsMade.{client_turn, to_server, asks, rests}
use Rattle.coap_promise.proofs.Facts.Witness.Tests.{messages, client_lawful}

-- the calls till each second, the newest first

abbrev pub hears : List C.Call
hears = C.Feeds 12999 server_end separate_bytes 0 (L.Becomes (L.Response separate)) false
    (Some (event.Answer separate)) L.Nothing (Ok []) false ∷ []

abbrev pub all_rest : List ℕ → List C.Call → List C.Call
all_rest [] past = past
all_rest (at ∷ ats) past = client_turn [] [] (rests at ∷ []) ++ all_rest ats past

abbrev calls_0 : List C.Call
calls_0 = client_turn [] (to_server get_bytes ∷ []) ticked ++ client_turn [] [] called

abbrev calls_1 : List C.Call
calls_1 = client_turn [] [] (rests 1000 ∷ []) ++ calls_0

abbrev calls_2 : List C.Call
calls_2 = client_turn [] [] (rests 2000 ∷ []) ++ (client_turn [] [] awaits ++ calls_1)

-- .. till which it ticks, and does nothing
abbrev pub quiet : List ℕ
quiet = 12000 ∷ 11000 ∷ 10000 ∷ 9000 ∷ 8000 ∷ 7000 ∷ 6000 ∷ 5000 ∷ 4000 ∷ 3000 ∷ []

abbrev pub calls_12 : List C.Call
calls_12 = all_rest quiet calls_2

abbrev pub calls : List C.Call
calls = client_turn (got ∷ []) (to_server empty_ack ∷ []) hears ++ calls_12

pub lawful : ClientLaw server_end sizes (usual 0) calls
unfolding messages
lawful = client_lawful sizes calls (assumption) (assumption) refl

-- the exchange is open since 0

abbrev IsOpen : List C.Call → Type 0
IsOpen calls = IsOpenSince sizes 0 calls

asked_0 : IsOpen (asks 0 0 token ∷ client_turn [] [] called)
asked_0 = inl (record { sending = _; sends_it = refl; moment = refl })

open_0 : IsOpen calls_0
open_0 = inr (refl, refl, inr (refl, refl, inr (refl, refl, inr (refl, refl, asked_0))))

-- .. and is so after a tick that does nothing
rested : (at : ℕ) (past : List C.Call) → IsOpen past → IsOpen (client_turn [] [] (rests at ∷ []) ++ past)
rested at past h = inr (refl, refl, inr (refl, refl, inr (refl, refl, h)))

open_2 : IsOpen calls_2
open_2 = rested 2000 (client_turn [] [] awaits ++ calls_1)
    (inr (refl, refl, inr (refl, refl, inr (refl, refl, rested 1000 calls_0 open_0))))

all_rested : (ats : List ℕ) (past : List C.Call) → IsOpen past → IsOpen (all_rest ats past)
all_rested [] past h = h
all_rested (at ∷ ats) past h = rested at (all_rest ats past) (all_rested ats past h)

pub open_12 : IsOpenSince sizes 0 calls_12
open_12 = all_rested quiet calls_2 open_2
