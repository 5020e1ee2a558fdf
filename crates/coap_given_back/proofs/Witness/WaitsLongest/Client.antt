-- The client of a run in which a response never comes: it waits for as long as it can (RFC 7252, section 5.2.2).
use Rattle.std.proofs.Common.{inl, inr, ℕ, true, false, None, List, [], ◌∷◌, ◌++◌, Ok, refl}
use Rattle.coap_layer.specs.Machine.State.{usual}
use Rattle.coap_layer.specs.Trace as L
use Rattle.coap_exchange.specs.declared.asker.Event.TheVariants as event
use Rattle.coap_exchange.specs.declared.asker.Turn.TheVariants as turn
use Rattle.coap_client.specs.Trace as C
use Rattle.coap_client.specs.Law.{ClientLaw}
use Rattle.coap_client_laws.specs.Follows.Open.{IsOpenSince}
use Rattle.coap_record.specs.Events.{server_end}
use Rattle.coap_promise.specs.LegalRuns.{sizes, token, reported, get_bytes, empty_ack}
use Rattle.coap_promise.proofs.Facts.Witness.Gets.Client.{called, ticked}
use Rattle.coap_promise.proofs.Facts.Witness.TurnsMade.{client_turn, to_server, asks, rests}
use Rattle.coap_promise.proofs.Facts.Witness.Tests.{messages, client_lawful}

abbrev pub failed : C.Reported
failed = reported C.NoResponse

-- the calls of each turn, the newest first

abbrev pub copies : ℕ → List C.Call
copies at = rests at ∷ C.Ticks at 0 (L.Copied server_end 0) turn.Copied L.Nothing (Ok []) false true ∷ []

abbrev pub copied : ℕ → List C.Call
copied at = client_turn [] (to_server get_bytes ∷ []) (copies at)

abbrev pub awaits : List C.Call
awaits = C.Feeds 62999 server_end empty_ack 0 (L.Becomes (L.Acked 0)) false None L.Nothing (Ok []) false ∷ []

abbrev pub ends : List C.Call
ends = rests 310998 ∷ C.Ticks 310998 0 L.Idle (turn.End event.NoResponse) L.Nothing (Ok []) false true ∷ []

abbrev quiet : ℕ → List C.Call
quiet at = client_turn [] [] (rests at ∷ [])

abbrev calls_asked : List C.Call
calls_asked = client_turn [] (to_server get_bytes ∷ []) ticked ++ client_turn [] [] called

abbrev calls_twice : List C.Call
calls_twice = copied 6000 ++ (copied 2000 ++ calls_asked)

abbrev calls_copied : List C.Call
calls_copied = copied 30000 ++ (copied 14000 ++ calls_twice)

abbrev pub calls_waiting : List C.Call
calls_waiting = quiet 309998 ++ (client_turn [] [] awaits ++ (quiet 61999 ++ calls_copied))

abbrev pub calls : List C.Call
calls = client_turn (failed ∷ []) [] ends ++ calls_waiting

pub lawful : ClientLaw server_end sizes (usual 0) calls
unfolding messages
lawful = client_lawful sizes calls (assumption) (assumption) refl

-- the exchange is open since 0

asked_at_0 : IsOpenSince sizes 0 (asks 0 0 token ∷ client_turn [] [] called)
asked_at_0 = inl (record { sending = _; sends_it = refl; moment = refl })

out_at_0 : IsOpenSince sizes 0 calls_asked
out_at_0 = inr (refl, refl, inr (refl, refl, inr (refl, refl, inr (refl, refl, asked_at_0))))

still : (at : ℕ) (past : List C.Call) → IsOpenSince sizes 0 past → IsOpenSince sizes 0 (copied at ++ past)
still at past h = inr (refl, refl, inr (refl, refl, inr (refl, refl, inr (refl, refl, inr (refl, refl, h)))))

silent : (at : ℕ) (past : List C.Call) → IsOpenSince sizes 0 past → IsOpenSince sizes 0 (quiet at ++ past)
silent at past h = inr (refl, refl, inr (refl, refl, inr (refl, refl, h)))

open_copied : IsOpenSince sizes 0 calls_copied
open_copied = still 30000 _ (still 14000 _ (still 6000 _ (still 2000 calls_asked out_at_0)))

pub open_since : IsOpenSince sizes 0 calls_waiting
open_since = silent 309998 (client_turn [] [] awaits ++ (quiet 61999 ++ calls_copied))
    (inr (refl, refl, inr (refl, refl, inr (refl, refl, silent 61999 calls_copied open_copied))))
