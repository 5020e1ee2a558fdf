-- The client of a legal run: its POST is never acknowledged (RFC 7252, section 4.2).
use Rattle.std.proofs.Common.{inl, inr, ℕ, true, false, List, [], ◌∷◌, ◌++◌, Ok, refl}
use Rattle.coap_layer.specs.Trace as L
use Rattle.coap_layer.specs.Machine.State.{usual}
use Rattle.coap_exchange.specs.declared.asker.Event.TheVariants as event
use Rattle.coap_client_laws.specs.Follows.Open.{IsOpenSince}
use Rattle.coap_client.specs.Trace as C
use Rattle.coap_client.specs.Law.{ClientLaw}
use Rattle.coap_promise.specs.LegalRuns.{sizes, token, reported, post, call_bytes}
use Rattle.coap_record.specs.Events.{server_end}
use Rattle.coap_exchange.specs.declared.asker.Turn.TheVariants as turn
use Rattle.coap_promise.proofs.Facts.Witness.TurnsMade.{client_turn, to_server, asks, rests}
use Rattle.coap_promise.proofs.Facts.Witness.Tests.{messages, client_lawful}

abbrev pub failed : C.Reported
failed = reported C.Timeout

-- the calls of each turn, the newest first

abbrev pub called : List C.Call
called = C.Calls 0 post (Ok 0) ∷ []

abbrev pub ticked : List C.Call
ticked = rests 0 ∷ asks 0 0 token ∷ []

abbrev pub copies : ℕ → List C.Call
copies at = rests at ∷ C.Ticks at 0 (L.Copied server_end 0) turn.Copied L.Nothing (Ok []) false true ∷ []

abbrev pub expires : List C.Call
expires = rests 62000 ∷ C.Ticks 62000 0 (L.Expired server_end 0) (turn.End event.Timeout) L.Nothing (Ok []) false true ∷
    []

abbrev pub copied : ℕ → List C.Call
copied at = client_turn [] (to_server call_bytes ∷ []) (copies at)

abbrev pub calls_asked : List C.Call
calls_asked = client_turn [] (to_server call_bytes ∷ []) ticked ++ client_turn [] [] called

abbrev calls_twice : List C.Call
calls_twice = copied 6000 ++ (copied 2000 ++ calls_asked)

abbrev pub calls_copied : List C.Call
calls_copied = copied 30000 ++ (copied 14000 ++ calls_twice)

abbrev pub calls : List C.Call
calls = client_turn (failed ∷ []) [] expires ++ calls_copied

pub lawful : ClientLaw server_end sizes (usual 0) calls
unfolding messages
lawful = client_lawful sizes calls (assumption) (assumption) refl

-- the exchange is open since 0, and is so after a copy

asked_at_0 : IsOpenSince sizes 0 (asks 0 0 token ∷ client_turn [] [] called)
asked_at_0 = inl (record { sending = _; sends_it = refl; moment = refl })

out_at_0 : IsOpenSince sizes 0 calls_asked
out_at_0 = inr (refl, refl, inr (refl, refl, inr (refl, refl, inr (refl, refl, asked_at_0))))

still : (at : ℕ) (past : List C.Call) → IsOpenSince sizes 0 past → IsOpenSince sizes 0 (copied at ++ past)
still at past h = inr (refl, refl, inr (refl, refl, inr (refl, refl, inr (refl, refl, inr (refl, refl, h)))))

pub open_since : IsOpenSince sizes 0 calls_copied
open_since = still 30000 _ (still 14000 _ (still 6000 _ (still 2000 calls_asked out_at_0)))
