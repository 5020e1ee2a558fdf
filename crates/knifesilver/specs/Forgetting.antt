-- A server that forgets a peer which never comes again (RFC 7252, section 4.2; RFC 7641, section 3.6).
use Rattle.std.specs.Prelude.{◌≡◌, ℕ, false, List, ◌∷◌, Option}
use Rattle.coap_types.specs.declared.endpoint.Endpoint.{Endpoint}
use Rattle.coap_layer.specs.EmptyMessages.{reset_bytes}
use Rattle.coap_layer.specs.Machine.Peers.{goes_to}
use Rattle.coap_layer.specs.declared.setup.Setup.{Setup}
use Rattle.coap_resource.specs.Limits.{Limits}
use Rattle.coap_exchange.specs.Peers.{reset_to}
use Rattle.coap_server.specs.Forgetting.{IsForgotten}
use Rattle.coap_server.specs.Led.{State}
use Rattle.coap_server.specs.Peers.{knows}
use Rattle.coap_server.specs.Trace.{Call, Forgets}
use Rattle.coap_journal.specs.Input.{Feed, Forget}
use Rattle.coap_noted.specs.Notes.{noted_with}
use Rattle.knifesilver.specs.declared.held.Held.{Held}
use Rattle.knifesilver.specs.ServerCalls.{IsFeed}
use Rattle.knifesilver.specs.ServerHeld.{HoldsLed, HoldsServerIn, notes_in}

-- the Reset with which the peer rejects what is outstanding to it; that of the Message ID 0 where nothing is
abbrev pub reset_from : Endpoint → State → List ℕ
reset_from peer s = reset_bytes (reset_to peer s.own.exchanges.separate)

-- the server is as it is after the peer rejected what is outstanding to it, and what else is of the peer was let go
abbrev pub IsLetGo : Endpoint → Option Held → Option Held → Type 0
IsLetGo peer old new = HoldsServerIn (λ s. HoldsServerIn (IsForgotten peer s) new) old

-- .. which are two calls: whatever led to it before leads, with both, to what is held then
abbrev pub BothMade : Endpoint → Option Held → Option Held → Type 0
BothMade peer old new = (limits : Limits) (szx : ℕ) (setup : Setup) (t : List Call) → HoldsLed limits szx setup t old
    → (first : Call) × HoldsServerIn (λ s. IsFeed 0 peer (reset_from peer s) 0 first) old
    × HoldsLed limits szx setup (Forgets peer ∷ first ∷ t) new

-- .. and two inputs, which are noted, where notes are kept
abbrev pub BothNoted : Endpoint → Option Held → Option Held → Type 0
BothNoted peer old new = HoldsServerIn (λ s. notes_in new
    ≡ noted_with (Forget peer) 0 (noted_with (Feed 0 peer (reset_from peer s) 0) 0 (notes_in old))) old

-- nothing that goes to the peer waits to be taken
abbrev pub SendsNothingTo : Endpoint → State → Type 0
SendsNothingTo peer s = goes_to peer s.layer.queue ≡ false

-- nothing of the peer is there, at whatever moment that is asked
abbrev pub KnowsNothingOf : Endpoint → State → Type 0
KnowsNothingOf peer s = (now : ℕ) → knows s now peer ≡ false
