-- What waits at a server waited before each call that hands nothing in.
use Rattle.std.proofs.Common.{◌≡◌, ◌⊎◌, inl, inr, ℕ, max, Bool, true, false, not, cond, List, [], ◌∷◌, ◌++◌}
use Rattle.coap_types.specs.Past.{Ever}
use Rattle.coap_types.specs.SameEndpoint.{same_endpoint}
use Rattle.coap_types.specs.declared.endpoint.Endpoint.{Endpoint}
use Rattle.coap_block.specs.Whole.{Each}
use Rattle.coap_resource.specs.Limits.{Limits}
use Rattle.coap_exchange.specs.declared.answerer.Asked.{Asked}
use Rattle.coap_exchange.specs.declared.answerer.Due.TheVariants as due
use Rattle.coap_server.specs.Deferring.{is_of, waiting_elsewhere, without_waiting}
use Rattle.coap_server.specs.Follows.Waits.{WaitsStill}
use Rattle.coap_server.specs.Law.{own_of}
use Rattle.coap_server.specs.Trace as S
use Rattle.coap_server.specs.Trace.{Waiting}
use Rattle.coap_smooth.specs.TicksLeave.{IsNoFeed}

left_in : (at : ℕ) (a : Asked) (w : Waiting) (ws : List Waiting) → Ever (λ y. y ≡ w) (without_waiting at a ws)
    → Ever (λ y. y ≡ w) ws
left_in at a w [] h = h
left_in at a w (y ∷ ws) h = by (is_of at a y) (left_in at a w ws) h
  where
    by : (b : Bool) → (Ever (λ z. z ≡ w) (without_waiting at a ws) → Ever (λ z. z ≡ w) ws)
        → Ever (λ z. z ≡ w) (cond b ws (y ∷ without_waiting at a ws)) → (y ≡ w) ⊎ Ever (λ z. z ≡ w) ws
    by true f k = inr k
    by false f (inl k) = inl k
    by false f (inr k) = inr (f k)

was_waiting : (peer : Endpoint) (w : Waiting) (ws : List Waiting) → Ever (λ y. y ≡ w) (waiting_elsewhere peer ws)
    → Ever (λ y. y ≡ w) ws
was_waiting peer w [] h = h
was_waiting peer w (y ∷ ws) h = by (not (same_endpoint y.asked.from peer)) h (was_waiting peer w ws)
  where
    by : (b : Bool) → Ever (λ z. z ≡ w) (cond b (y ∷ waiting_elsewhere peer ws) (waiting_elsewhere peer ws))
        → (Ever (λ z. z ≡ w) (waiting_elsewhere peer ws) → Ever (λ z. z ≡ w) ws) → (y ≡ w) ⊎ Ever (λ z. z ≡ w) ws
    by true (inl k) f = inl k
    by true (inr k) f = inr (f k)
    by false k f = inr (f k)

module _ (limits : Limits) (szx : ℕ) (w : Waiting) where
  before : (c : S.Call) (t : List S.Call) → IsNoFeed c → WaitsStill limits szx w (c ∷ t) → WaitsStill limits szx w t
  before (S.Feeds now from bytes word up came h below) t none still = absurd none
  before (S.Ticks now word below room (due.Ready a) passed h id answer) t none still =
      left_in (max (own_of limits szx t).clock now) a w (own_of limits szx t).waiting still
  before (S.Forgets peer) t none still = was_waiting peer w (own_of limits szx t).waiting still
  before _ t none still = still

  pub waited_before : (later t : List S.Call) → Each IsNoFeed later → WaitsStill limits szx w (later ++ t)
      → WaitsStill limits szx w t
  waited_before [] t none still = still
  waited_before (c ∷ later) t none still = waited_before later t none.1 (before c (later ++ t) none.0 still)
