-- How a client goes on over its link: what comes there is fed to it, time passes in turns over it, and what the client
-- gives out is sent over it (RFC 7252, section 4).
use Rattle.std.specs.Prelude.{⊤, ℕ, Bool, List, [], Option, Some, Result}
use Rattle.coap_types.specs.declared.endpoint.Endpoint.{Endpoint}
use Rattle.coap_layer.specs.Trace as layer
use Rattle.coap_layer.specs.declared.setup.Setup.{Setup}
use Rattle.coap_block.specs.Sizes.{Sizes}
use Rattle.coap_exchange.specs.declared.asker.AskRefusal.{AskRefusal}
use Rattle.coap_exchange.specs.declared.asker.Event.{Event}
use Rattle.coap_exchange.specs.declared.asker.Turn.{Turn}
use Rattle.coap_client.specs.Led.{Led, State, Step}
use Rattle.coap_client.specs.Trace.{Call, Cancels, Feeds, NextOut, Ticks}
use Rattle.coap_client.specs.Turns.Quiet.{IsIdle, TellsNothing}
use Rattle.coap_client.specs.declared.refusals.CancelRefusal.{CancelRefusal}
use Rattle.coap_links.specs.Carried.{Packet}
use Rattle.coap_links.specs.Pumping.{SendsAll}
use Rattle.coap_links.specs.Turning.{Turns}
use Rattle.coap_links.specs.declared.tally.Tally.{Tally}
use Rattle.coap_waits.specs.Asks.{Turned}
use Rattle.coap_wires.specs.Serves.{nothing_fed}

-- a call in which no datagram passes, and no time
abbrev pub PassesNothing : Call → Type 0
PassesNothing (Feeds now from bytes word up settled event sent token kept) = ⊥
PassesNothing (Ticks now word below turn sent token kept answer) = ⊥
PassesNothing (NextOut answer) = ⊥
PassesNothing call = ⊤

-- what a client is to send
abbrev pub client_waiting : State → List layer.Packet
client_waiting s = s.layer.layer.queue

-- it gives a datagram out
abbrev pub client_gives : State → layer.Packet → State → Type 0
client_gives s packet n = Step s (NextOut (Some packet)) n

-- .. is fed one
abbrev pub client_feeds : State → ℕ → Endpoint → List ℕ → ℕ → State → Type 0
client_feeds s now from bytes word n =
    (up : layer.Answer) × (settled : Bool) × (event : Option Event) × (sent : layer.Answer)
    × (token : Result (List ℕ) AskRefusal) × (kept : Bool)
    × Step s (Feeds now from bytes word up settled event sent token kept) n

-- .. and is ticked
abbrev pub client_ticks : State → ℕ → ℕ → Bool → State → Type 0
client_ticks s now word did n =
    (below : layer.Answer) × (due : Turn) × (sent : layer.Answer) × (token : Result (List ℕ) AskRefusal)
    × (kept : Bool) × Step s (Ticks now word below due sent token kept did) n

-- (`sends`, `receives` and `faults` are what a link does, and how many of its calls failed)
module _ {L : Type 0} (sends : L → Endpoint → List ℕ → L → Type 0) (receives : L → Option Packet → L → Type 0)
    (faults : L → ℕ) where
  -- a turn of a client over its link at this moment
  abbrev pub HasTurn : State → L → ℕ → Tally → State → L → Tally → Type 0
  HasTurn e l now t f m u =
      Turns client_waiting client_gives sends receives faults TellsNothing client_feeds IsIdle client_ticks
      e l now t f m u

  -- all that the client is to send is sent over its link
  abbrev pub HasSent : State → L → State → L → Type 0
  HasSent e l f m = SendsAll client_gives sends e l (client_waiting e) f m

  -- such turns and sends, and between them calls in which nothing passes, lead a client and its link on
  pub data GoesOver (e : State) (l : L) (t : Tally) : State → L → Tally → Type 0 where
    here : GoesOver e l t e l t
    called : (f : State) (m : L) (u : Tally) (g : State) → GoesOver e l t f m u → Turned PassesNothing f g
        → GoesOver e l t g m u
    turned : (f : State) (m : L) (u : Tally) (now : ℕ) (g : State) (n : L) (v : Tally) → GoesOver e l t f m u
        → HasTurn f m now u g n v → GoesOver e l t g n v
    sent : (f : State) (m : L) (u : Tally) (g : State) (n : L) → GoesOver e l t f m u → HasSent f m g n
        → GoesOver e l t g n u

  -- .. from before its first turn, where it began with this word
  abbrev pub RunsOver : (word : ℕ) → State → L → State → L → Type 0
  RunsOver word e l f m = (t : Tally) × GoesOver e l (nothing_fed word) f m t

  -- a client of this server, which began with this setup and these sizes, does so
  abbrev pub IsRunOver : Endpoint → (sizes : Sizes) → Setup → L → L → Type 0
  IsRunOver server sizes setup l m =
      (fresh last : State) × Led server sizes setup [] fresh × RunsOver setup.word fresh l last m

  -- a client leaves an observation at this moment: it is cancelled (RFC 7641, section 3.6), and there is a turn, behind
  -- which what is out is sent
  abbrev pub LeavesOver : (number now : ℕ) → State → L → Tally → State → L → Tally → Type 0
  LeavesOver number now e l t f m u =
      (answer : Option CancelRefusal) × (c : State) × Step e (Cancels now number answer) c
      × (g : State) × (k : L) × HasTurn c l now t g k u × HasSent g k f m
