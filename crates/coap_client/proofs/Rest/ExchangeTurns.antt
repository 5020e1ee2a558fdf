-- What a tick of a client's exchanges takes, and that a request leaves as many steps due (RFC 7252, sections 4.2 and
-- 5.2.2).
use Rattle.std.proofs.Common.{◌≡◌, ◌⊎◌, inl, inr, ℕ, max, Bool, true, false, refl, ap, cond}
use Rattle.coap_types.specs.declared.endpoint.Endpoint.{Endpoint}
use Rattle.coap_layer.specs.Machine.State as S
use Rattle.coap_layer.specs.Trace as L
use Rattle.coap_exchange.specs.declared.asker.Event.{Event}
use Rattle.coap_exchange.specs.declared.asker.Turn.{Turn}
use Rattle.coap_exchange.specs.declared.asker.Turn.TheVariants as turn
use Rattle.coap_exchange.specs.declared.matching.Opening.{Opening}
use Rattle.coap_exchange.specs.declared.matching.Opening.TheVariants.{Running, Spent, Sends}
use Rattle.coap_exchange.specs.AskerTrace as A
use Rattle.coap_exchange.specs.AskerRequests as Q
use Rattle.coap_exchange.specs.AskerArrivals as R
use Rattle.coap_exchange.specs.StepsDue.{due_count}
use Rattle.coap_exchange.proofs.Facts.StepsDue.{is_step, confirm_least, same_opens}

-- what is due: a step of a CON, or the end of a wait

abbrev pub IsTaken : Turn → L.Answer → Bool → Type 0
IsTaken turn.Copied below waited = is_step below ≡ true
IsTaken (turn.End e) below waited = (is_step below ≡ true) ⊎ (waited ≡ true)
IsTaken turn.Idle below waited = Unit {0}

expired_taken : (to : Endpoint) (id : ℕ) (waited : Bool) (b : Bool) (e : Event)
    → IsTaken (cond b (turn.End e) turn.Idle) (L.Expired to id) waited
expired_taken to id waited true e = inl refl
expired_taken to id waited false e = tt

waited_taken : (b : Bool) (e : Event) → IsTaken (cond b (turn.End e) turn.Idle) L.Idle b
waited_taken true e = inr refl
waited_taken false e = tt

pub turn_taken : (s : A.Own) (at : ℕ) (below : L.Answer)
    → IsTaken (R.turn_of s at below) below (R.has_waited at (R.acked_in s.running))
turn_taken s at (L.Copied to id) = refl
turn_taken s at (L.Expired to id) = expired_taken to id (R.has_waited at (R.acked_in s.running))
    (R.is_of_request s to id) _
turn_taken s at L.Idle = waited_taken (R.has_waited at (R.acked_in s.running)) _
turn_taken s at up = tt

-- the layer, where a request is asked for
pub opened_least : (s new : S.State) (at : ℕ) (o : Opening) (server : Endpoint) (content : L.Content) (w : ℕ)
    (a : L.Answer) → S.Step s at (Q.beneath o server content w) a new
    → (new.clock ≡ max s.clock at) × (due_count (max s.clock at) new.open_cons ≡ due_count (max s.clock at) s.open_cons)
opened_least s new at Running server content w a step = (
  ap (λ (x : S.State). x.clock) step.new_is,
  ap (due_count (max s.clock at))
      (same_opens s new at L.Pass a step (λ e c. refl) (λ n. refl)),
)
opened_least s new at Spent server content w a step = (
  ap (λ (x : S.State). x.clock) step.new_is,
  ap (due_count (max s.clock at))
      (same_opens s new at L.AsksFree a step (λ e c. refl) (λ n. refl)),
)
opened_least s new at Sends server content w a step =
    (ap (λ (x : S.State). x.clock) step.new_is, confirm_least s new at server content w a step)
