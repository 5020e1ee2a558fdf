-- What waits goes on waiting until a tick sends its response, or its endpoint is forgotten.
use Rattle.std.proofs.Common.{◌≡◌, ◌⊎◌, inl, inr, ⊎_elim, ℕ, max, Bool, true, false, ◌&&◌, Option, Some}
use Rattle.std.proofs.Common.{List, [], ◌∷◌, refl, ap, sym, not, ◌∙◌, cond}
use Rattle.coap_types.specs.Past.{Ever}
use Rattle.coap_types.proofs.Facts.Traces.{Ever_front}
use Rattle.coap_codec.specs.Message.{Message}
use Rattle.coap_layer.specs.Trace as L
use Rattle.coap_layer.specs.declared.setup.Setup.{Setup}
use Rattle.coap_resource.specs.Limits.{Limits}
use Rattle.coap_exchange.specs.declared.answerer.Asked.{Asked}
use Rattle.coap_exchange.specs.declared.answerer.Due.TheVariants as due
use Rattle.coap_server.specs.Deferring.{is_of, without_waiting}
use Rattle.coap_server.specs.Law.{ServerLaw, own_of}
use Rattle.coap_server.specs.Steps.{waiting_came}
use Rattle.coap_server.specs.Trace.{Waiting, Handling, Serves, Waits, Call}
use Rattle.coap_server.specs.Trace.{Feeds, Ticks}
use Rattle.coap_server.specs.Follows.Attended.{AnswersIt}
use Rattle.coap_server.specs.Follows.Waits.{WaitsStill, WaitOn}
use Rattle.coap_server.proofs.Facts.Serving.SameAsked.{same_asked_is}
use Rattle.coap_server.proofs.Facts.Serving.Brought.{server_back}
use Rattle.coap_server.proofs.Facts.Serving.Waiting.{ready_are_served}
use Rattle.coap_types.specs.declared.endpoint.Endpoint.{Endpoint}
use Rattle.coap_types.specs.SameEndpoint.{same_endpoint}
use Rattle.coap_types.proofs.Facts.Endpoints.{same_endpoint_is}
use Rattle.coap_server.specs.Deferring.{waiting_elsewhere}
use Rattle.coap_server.specs.Follows.Serves.{forgets}
use Rattle.coap_server.specs.Trace.{Forgets}

first_true : (b c : Bool) → (b && c) ≡ true → b ≡ true
first_true true c h = refl
first_true false c h = h

-- one is taken out: this, or it is left
taken_out : (at : ℕ) (a : Asked) (x : Waiting) (ws : List Waiting) → Ever (λ y. y ≡ x) ws
    → Ever (λ y. y ≡ x) (without_waiting at a ws) ⊎ (a ≡ x.asked)
taken_out at a x [] h = absurd h
taken_out at a x (w ∷ ws) h = by (is_of at a w) refl (taken_out at a x ws) h
  where
    by : (b : Bool) → is_of at a w ≡ b
        → (Ever (λ y. y ≡ x) ws → Ever (λ y. y ≡ x) (without_waiting at a ws) ⊎ (a ≡ x.asked))
        → (w ≡ x) ⊎ Ever (λ y. y ≡ x) ws
        → Ever (λ y. y ≡ x) (cond b ws (w ∷ without_waiting at a ws)) ⊎ (a ≡ x.asked)
    by true is f (inl e) = inr (same_asked_is a w.asked (first_true _ _ is) ∙ ap (λ (y : Waiting). y.asked) e)
    by true is f (inr k) = inl k
    by false is f (inl e) = inl (inl e)
    by false is f (inr k) = ⊎_elim (λ e. inl (inr e)) (λ e. inr e) (f k)

-- where a peer is forgotten, the requests of others go on waiting
let_go : (peer : Endpoint) (x : Waiting) (ws : List Waiting) → Ever (λ y. y ≡ x) ws
    → Ever (λ y. y ≡ x) (waiting_elsewhere peer ws) ⊎ (peer ≡ x.asked.from)
let_go peer x [] h = absurd h
let_go peer x (w ∷ ws) h = by (same_endpoint w.asked.from peer) refl (let_go peer x ws) h
  where
    by : (b : Bool) → same_endpoint w.asked.from peer ≡ b
        → (Ever (λ y. y ≡ x) ws → Ever (λ y. y ≡ x) (waiting_elsewhere peer ws) ⊎ (peer ≡ x.asked.from))
        → (w ≡ x) ⊎ Ever (λ y. y ≡ x) ws
        → Ever (λ y. y ≡ x) (cond (not b) (w ∷ waiting_elsewhere peer ws) (waiting_elsewhere peer ws))
        ⊎ (peer ≡ x.asked.from)
    by true is f (inl e) =
        inr (sym (same_endpoint_is w.asked.from peer is) ∙ ap (λ (y : Waiting). y.asked.from) e)
    by true is f (inr k) = f k
    by false is f (inl e) = inl (inl e)
    by false is f (inr k) = ⊎_elim (λ e. inl (inr e)) (λ e. inr e) (f k)

-- what comes goes behind
pub behind : (at : ℕ) (came : Option (Asked × Message)) (h : Handling) (x : Waiting) (ws : List Waiting)
    → Ever (λ y. y ≡ x) ws → Ever (λ y. y ≡ x) (waiting_came at came h ws)
behind at (Some p) (Waits q delay) x ws k = Ever_front (λ y. y ≡ x) ws _ k
behind at _ _ x ws k = k

module _ (limits : Limits) (szx : ℕ) (setup : Setup) where
  -- the one that is ready is answered
  ready_sends : (t : List Call) (now w : ℕ) (below : L.Answer) (room : Bool) (a : Asked) (passed : ℕ) (h : Handling)
      (id : ℕ) (answer : Bool)
      → ServerLaw limits szx setup (Ticks now w below room (due.Ready a) passed h id answer ∷ t) → (b : Asked) → a ≡ b
      → AnswersIt limits szx t (Ticks now w below room (due.Ready a) passed h id answer) b
  ready_sends t now w below room a passed (Serves q reply left) id answer law b same = inl (ap (λ x. Some x) same)
  ready_sends t now w below room a passed h id answer law b same =
      let k = (ready_are_served limits szx setup (Ticks now w below room (due.Ready a) passed h id answer ∷ t) law).0 a
      refl in
      let no = k.1 in
      absurd (cc no)

  here : (t : List Call) (c : Call) → ServerLaw limits szx setup (c ∷ t) → (x : Waiting) → WaitsStill limits szx x t
      → WaitsStill limits szx x (c ∷ t) ⊎ (AnswersIt limits szx t c x.asked ⊎ (forgets c ≡ Some x.asked.from))
  here t (Feeds now from bytes w up came h below) law x k =
      inl (behind (max (own_of limits szx t).clock now) came h x (own_of limits szx t).waiting k)
  here t (Ticks now w below room (due.Ready a) passed h id answer) law x k =
      ⊎_elim (λ e. inl e) (λ e. inr (inl (ready_sends t now w below room a passed h id answer law x.asked e)))
      (taken_out (max (own_of limits szx t).clock now) a x (own_of limits szx t).waiting k)
  here t (Forgets peer) law x k =
      ⊎_elim (λ e. inl e) (λ e. inr (inr (ap (λ p. Some p) e))) (let_go peer x (own_of limits szx t).waiting k)
  here t _ law x k = inl k

  pub wait_on : (t : List Call) → ServerLaw limits szx setup t → WaitOn limits szx t
  wait_on [] law = tt
  wait_on (c ∷ t) law = (here t c law, wait_on t (server_back limits szx setup c t law))
