-- At one moment the ticks of a client end, and so do what it has out and its reports (RFC 7252, sections 4.2, 4.7 and
-- 5.2.2; RFC 7641, section 3.2).
use Rattle.std.specs.Prelude.{◌≡◌, ◌≤◌, ℕ, Bool, true, List, ◌++◌, length, Result}
use Rattle.coap_types.specs.declared.endpoint.Endpoint.{Endpoint}
use Rattle.coap_layer.specs.Trace as L
use Rattle.coap_layer.specs.declared.setup.Setup.{Setup}
use Rattle.coap_block.specs.Sizes.{Sizes}
use Rattle.coap_block.specs.Whole.{Each}
use Rattle.coap_exchange.specs.declared.asker.AskRefusal.{AskRefusal}
use Rattle.coap_exchange.specs.declared.asker.Turn.{Turn}
use Rattle.coap_exchange.specs.Endings.{UpToIdle, all_taken}
use Rattle.coap_client.specs.Trace.{Reported, Call, Ticks, NextOut, NextReport}
use Rattle.coap_client.specs.Law.{ClientLaw}
use Rattle.coap_client.specs.Led.{state_left}
use Rattle.coap_client.specs.Turns.Work.{work}

abbrev pub IsTickWith : ℕ → ℕ → Bool → Call → Type 0
IsTickWith now w answer c =
    (below : L.Answer) × (turn : Turn) × (sent : L.Answer) × (token : Result (List ℕ) AskRefusal) × (kept : Bool)
    × (c ≡ Ticks now w below turn sent token kept answer)

abbrev pub IsTick : ℕ → Bool → Call → Type 0
IsTick now answer c = (w : ℕ) × IsTickWith now w answer c

-- Of the ticks of one moment, whatever their words, so many do something at most as were due before them: the CONs and
-- the waits with a step due then, the operations that wait and the fetches that are to start.
abbrev pub TicksEnd : Endpoint → (sizes : Sizes) (setup : Setup) → List Call → Type 0
TicksEnd server sizes setup t =
    (now : ℕ) (calls : List Call) → Each (IsTick now true) calls → ClientLaw server sizes setup (calls ++ t)
    → length calls ≤ work (state_left server sizes setup t) now

-- .. and up to the first that does nothing there is a row of ticks with one word; what is taken ends too
pub record ComesToRest (server : Endpoint) (sizes : Sizes) (setup : Setup) (t : List Call) : Type 0 where
  pub ticks : (now w : ℕ) → (calls : List Call) × UpToIdle (IsTickWith now w) calls
      × ClientLaw server sizes setup (calls ++ t)
  pub outs : (packets : List L.Packet) × ClientLaw server sizes setup (all_taken NextOut packets ++ t)
  pub reports : (given : List Reported) × ClientLaw server sizes setup (all_taken NextReport given ++ t)
