-- A client goes on over its link: by a turn, by what it sends, and by calls in which nothing passes.
use Rattle.std.proofs.Common.{◌≡◌, ℕ, List, [], Option, Result, Ok, Err, IfOk, refl, subst, sym}
use Rattle.coap_types.specs.declared.endpoint.Endpoint.{Endpoint}
use Rattle.coap_layer.specs.declared.setup.Setup.{Setup}
use Rattle.coap_block.specs.Sizes.{Sizes}
use Rattle.coap_client.specs.Led.{Led, State, Step}
use Rattle.coap_client.specs.Trace.{Call, Cancels}
use Rattle.coap_links.specs.Carried.{Packet}
use Rattle.coap_links.specs.declared.tally.Tally.{Tally}
use Rattle.coap_waits.specs.Linked.{GoesOver, HasSent, HasTurn, IsRunOver, LeavesOver, PassesNothing, RunsOver}
use Rattle.coap_waits.specs.Linked.{called, here, sent, turned}
use Rattle.coap_waits.specs.Asks.{Turned}
use Rattle.coap_wires.specs.Serves.{nothing_fed}
use Rattle.coap_waits.proofs.TurnCalls.{turned_by, turned_here}

-- one call, or none
pub own_call : (old new : State) (c : Call) → PassesNothing c → Step old c new → Turned PassesNothing old new
own_call old new c is step = turned_by PassesNothing old new c is step

pub no_call : (old new : State) → new ≡ old → Turned PassesNothing old new
no_call old new is = turned_here PassesNothing old new is

-- what holds, whatever an answer is, holds where it is one
pub where_ok : {X E P : Type 0} (r : Result X E) → P → IfOk r (λ _. P)
where_ok (Ok x) h = h
where_ok (Err x) h = tt

module _ {L : Type 0} (sends : L → Endpoint → List ℕ → L → Type 0) (receives : L → Option Packet → L → Type 0)
    (faults : L → ℕ) where
  pub goes_join : (e : State) (l : L) (t : Tally) (f : State) (m : L) (u : Tally) {g : State} {n : L} {v : Tally}
      → GoesOver sends receives faults e l t f m u → GoesOver sends receives faults f m u g n v
      → GoesOver sends receives faults e l t g n v
  goes_join e l t f m u h here = h
  goes_join e l t f m u h (called g n v k before calls) =
      called g n v k (goes_join e l t f m u h before) calls
  goes_join e l t f m u h (turned g n v now k o w before turn) =
      turned g n v now k o w (goes_join e l t f m u h before) turn
  goes_join e l t f m u h (sent g n v k o before all) = sent g n v k o (goes_join e l t f m u h before) all

  -- before its first turn
  pub begins_over : (word : ℕ) (e : State) (l : L) (t : Tally) → t ≡ nothing_fed word
      → GoesOver sends receives faults e l (nothing_fed word) e l t
  begins_over word e l t is =
      subst (λ (u : Tally). GoesOver sends receives faults e l (nothing_fed word) e l u) (sym is) here

  -- a turn, and then what the program calls for
  pub turned_over : (e : State) (l : L) (t : Tally) (f : State) (m : L) (u : Tally) (now : ℕ) (g : State) (n : L)
      (v : Tally) (h : State) → GoesOver sends receives faults e l t f m u
      → HasTurn sends receives faults f m now u g n v → Turned PassesNothing g h
      → GoesOver sends receives faults e l t h n v
  turned_over e l t f m u now g n v h before turn calls =
      called g n v h (turned f m u now g n v before turn) calls

  -- .. and then all is sent
  pub sent_over : (e : State) (l : L) (t : Tally) (f : State) (m : L) (u : Tally) (now : ℕ) (g : State) (n : L)
      (v : Tally) (h k : State) (o : L) → GoesOver sends receives faults e l t f m u
      → HasTurn sends receives faults f m now u g n v → Turned PassesNothing g h
      → HasSent sends receives faults h n k o → GoesOver sends receives faults e l t k o v
  sent_over e l t f m u now g n v h k o before turn calls all =
      sent h n v k o (turned_over e l t f m u now g n v h before turn calls) all

  -- an observation is left
  pub left_over : (number now : ℕ) (e : State) (l : L) (t : Tally) (f : State) (m : L) (u : Tally)
      → LeavesOver sends receives faults number now e l t f m u → GoesOver sends receives faults e l t f m u
  left_over number now e l t f m u h =
      sent_over e l t h.1 l t now h.3 h.4 u h.3 f m
      (called e l t h.1 here (own_call e h.1 (Cancels now number h.0) tt h.2)) h.5 (no_call h.3 h.3 refl) h.6

  -- what is called for, and what goes on then
  pub goes_on : {X E : Type 0} (e c : State) (l : L) (t : Tally) (f : State) (m : L) (u : Tally) (r : Result X E)
      → Turned PassesNothing e c → IfOk r (λ _. GoesOver sends receives faults c l t f m u)
      → IfOk r (λ _. GoesOver sends receives faults e l t f m u)
  goes_on e c l t f m u (Ok x) calls h = goes_join e l t c l t (called e l t c here calls) h
  goes_on e c l t f m u (Err x) calls h = tt

  pub runs_on : {X E : Type 0} (word : ℕ) (e c : State) (l : L) (f : State) (m : L) (r : Result X E)
      → Turned PassesNothing e c → IfOk r (λ _. RunsOver sends receives faults word c l f m)
      → IfOk r (λ _. RunsOver sends receives faults word e l f m)
  runs_on word e c l f m (Ok x) calls h =
      let t = nothing_fed word in (h.0, goes_join e l t c l t (called e l t c here calls) h.1)
  runs_on word e c l f m (Err x) calls h = tt

  -- of a client that began so
  pub run_by : {X E : Type 0} (server : Endpoint) (sizes : Sizes) (setup : Setup) (fresh last : State) (l m : L)
      (r : Result X E) → Led server sizes setup [] fresh
      → IfOk r (λ _. RunsOver sends receives faults setup.word fresh l last m)
      → IfOk r (λ _. IsRunOver sends receives faults server sizes setup l m)
  run_by server sizes setup fresh last l m (Ok x) led h = (fresh, last, led, h)
  run_by server sizes setup fresh last l m (Err x) led h = tt

  -- where nothing more is called for
  pub runs_by : (word : ℕ) (e c : State) (l : L) → Turned PassesNothing e c
      → RunsOver sends receives faults word e l c l
  runs_by word e c l calls = (nothing_fed word, called e l (nothing_fed word) c here calls)
