-- At one moment the ticks of a server end (RFC 7252, sections 4.2 and 5.2.2; RFC 7641, section 4.5).
use Rattle.std.specs.Prelude.{◌≡◌, ◌≤◌, ℕ, Bool, true, List, ◌++◌, length}
use Rattle.coap_layer.specs.Trace as L
use Rattle.coap_layer.specs.declared.setup.Setup.{Setup}
use Rattle.coap_block.specs.Whole.{Each}
use Rattle.coap_resource.specs.Limits.{Limits}
use Rattle.coap_exchange.specs.declared.answerer.Due.{Due}
use Rattle.coap_exchange.specs.Endings.{UpToIdle, all_taken}
use Rattle.coap_server.specs.Trace.{Handling, Call, Ticks, NextOut}
use Rattle.coap_server.specs.Law.{ServerLaw}
use Rattle.coap_server.specs.Led.{state_left}
use Rattle.coap_server.specs.Turns.Work.{work}

abbrev pub IsTick : ℕ → Bool → Call → Type 0
IsTick now answer c =
    (w : ℕ) × (below : L.Answer) × (room : Bool) × (due : Due) × (passed : ℕ) × (handling : Handling) × (id : ℕ)
    × (c ≡ Ticks now w below room due passed handling id answer)

-- Of the ticks of one moment, whatever their words, at most as many do something as that state has due. That is the sum
-- of three numbers: of the CONs with a step due then; of the observers that are marked; and, for each request that
-- waits, 1 for its response and 64 for the observers that its change can mark.
abbrev pub TicksEnd : (limits : Limits) (szx : ℕ) (setup : Setup) → List Call → Type 0
TicksEnd limits szx setup t =
    (now : ℕ) (calls : List Call) → Each (IsTick now true) calls → ServerLaw limits szx setup (calls ++ t)
    → length calls ≤ work (state_left limits szx setup t) now

-- .. and up to the first that does nothing there is a row of ticks with one word; what is taken ends too
abbrev pub IsTickWith : ℕ → ℕ → Bool → Call → Type 0
IsTickWith now w answer c =
    (below : L.Answer) × (room : Bool) × (due : Due) × (passed : ℕ) × (handling : Handling) × (id : ℕ)
    × (c ≡ Ticks now w below room due passed handling id answer)

pub record ComesToRest (limits : Limits) (szx : ℕ) (setup : Setup) (t : List Call) : Type 0 where
  pub ticks : (now w : ℕ) → (calls : List Call) × UpToIdle (IsTickWith now w) calls
      × ServerLaw limits szx setup (calls ++ t)
  pub outs : (packets : List L.Packet) × ServerLaw limits szx setup (all_taken NextOut packets ++ t)
