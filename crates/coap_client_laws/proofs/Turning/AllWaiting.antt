-- What holds of each operation that a call puts behind those that wait, and goes on to hold, holds of all that wait.
use Rattle.std.proofs.Common.{ℕ, max, true, None, List, [], ◌∷◌, ◌++◌, Ok}
use Rattle.coap_block.specs.Sizes.{Sizes}
use Rattle.coap_client.specs.Trace.{Request, Call, Calls, Observes, Cancels, Forgets, Feeds, Ticks}
use Rattle.coap_client.specs.Own.{Operation, Registering, Cancelling, Own}
use Rattle.coap_client.specs.Effects.{Effect}
use Rattle.coap_client.specs.Events.{happened, passes}
use Rattle.coap_client.specs.Deeds.{at}
use Rattle.coap_client.specs.Queue.{calling}
use Rattle.coap_client.specs.Law.{own_of}
use Rattle.coap_client_laws.proofs.Turning.BlockByBlock.{AllOf, all_uncancelled, happened_runs, passes_runs}
use Rattle.coap_client_laws.proofs.Turning.Turns.{closing}
use Rattle.coap_client_laws.proofs.Reporting.Bodies.{waits_closed}
pub use Rattle.coap_client_laws.proofs.Uploading.SentSoFar.{all_behind as all_more, map_all as all_to}

module _ (sizes : Sizes) (P : List Call → Operation → Type 0)
    (later : (t : List Call) (c : Call) (op : Operation) → P t op → P (c ∷ t) op)
    (called : (t : List Call) (now : ℕ) (r : Request) (n : ℕ)
    → P (Calls now r (Ok n) ∷ t) (calling (own_of sizes t).sizes n r))
    (observed : (t : List Call) (now : ℕ) (path : List (List ℕ)) (n : ℕ)
    → P (Observes now path (Ok n) ∷ t) (Registering n path))
    (cancelled : (t : List Call) (now n : ℕ) → P (Cancels now n None ∷ t) (Cancelling n)) where
  by_call : (t : List Call) (c : Call) → AllOf (P (c ∷ t)) (own_of sizes t).queue
      → AllOf (P (c ∷ t)) (own_of sizes (c ∷ t)).queue
  by_call t (Calls now r (Ok n)) h = all_more (P (Calls now r (Ok n) ∷ t)) (own_of sizes t).queue
      (calling (own_of sizes t).sizes n r) h (called t now r n)
  by_call t (Observes now path (Ok n)) h = all_more (P (Observes now path (Ok n) ∷ t)) (own_of sizes t).queue
      (Registering n path) h (observed t now path n)
  by_call t (Cancels now k None) h = all_more (P (Cancels now k None ∷ t)) (own_of sizes t).queue
      (Cancelling k) h (cancelled t now k)
  by_call t (Forgets k was true) h = all_uncancelled k (P (Forgets k was true ∷ t)) (own_of sizes t).queue h
  by_call t (Feeds now from bytes w up settled event sent token was) h =
      let s : Own = own_of sizes t in
      let m : ℕ = max s.clock now in
      let e : Effect = happened (at now s) m event in
      let Q : Operation → Type 0 = P (Feeds now from bytes w up settled event sent token was ∷ t) in
      waits_closed Q m e token ((happened_runs (at now s) m event).waits Q h) (closing m e token)
  by_call t (Ticks now w below turn sent token was answer) h =
      let s : Own = own_of sizes t in
      let m : ℕ = max s.clock now in
      let e : Effect = passes (at now s) m turn in
      let Q : Operation → Type 0 = P (Ticks now w below turn sent token was answer ∷ t) in
      waits_closed Q m e token ((passes_runs (at now s) m turn).waits Q h) (closing m e token)
  by_call t _ h = h

  pub all_wait : (t : List Call) → AllOf (P t) (own_of sizes t).queue
  all_wait [] = tt
  all_wait (c ∷ t) = by_call t c (all_to (P t) (P (c ∷ t)) (later t c) (own_of sizes t).queue (all_wait t))
