-- A datagram that is taken, and what is done with the request in it, is one call of the server.
use Rattle.std.proofs.Common.{◌≡◌, ℕ, max, Option, Some, None, Result, Ok, Err, OnOk, List, [], ◌∷◌, refl, ap}
use Rattle.std.proofs.Common.{sym, subst, ◌∙◌}
use Rattle.coap_types.specs.declared.endpoint.Endpoint.{Endpoint}
use Rattle.coap_codec.specs.Message.{Message}
use Rattle.coap_layer.specs.Trace as L
use Rattle.coap_observe.specs.Observers.{Observer}
use Rattle.coap_resource.specs.Content.{Content}
use Rattle.coap_exchange.specs.declared.answerer.Asked.{Asked}
use Rattle.coap_exchange.specs.AnswererLaw as X
use Rattle.coap_exchange.specs.AnswererSteps as P
use Rattle.coap_exchange.specs.AnswererTrace as E
use Rattle.coap_exchange.proofs.Facts.ServerSide.{exchanged_join, none_ended}
use Rattle.coap_server.specs.Trace.{Handling, Call, Feeds}
use Rattle.coap_server.specs.Observers.{unless_ended, unless_rejected}
use Rattle.coap_exchange.specs.AnswererSteps.{unmatched_by}
use Rattle.coap_server.proofs.Facts.Calls.NoneRejected.{none_rejected}
use Rattle.coap_server.specs.Handling.{incoming, heard, HandlesCame}
use Rattle.coap_server.specs.Asks.{answering}
use Rattle.coap_server.specs.Steps.{came_after}
use Rattle.coap_server.specs.Led.{State, exchanges_of, Step}
use Rattle.coap_server.specs.Object.Shown.{Kept, state_of}
use Rattle.coap_server.specs.Object.Handled.{IsHandled}

module _ (old mid new : State) (now : ℕ) (from : Endpoint) (bytes : List ℕ) (word : ℕ) (up : L.Answer) where
  abbrev Fed : Option (Asked × Message) → Type 0
  Fed came = (h : Handling) × (below : L.Answer) × Step old (Feeds now from bytes word up came h below) new

  fed_some : (a : Asked) (m : Message) → X.Step (exchanges_of old) (incoming old.own now from bytes up (Some (a, m)))
      (exchanges_of mid)
      → mid.own ≡ record old.own { clock = max old.own.clock now; exchanges = mid.own.exchanges }
      → IsHandled mid a m new → Fed (Some (a, m))
  fed_some a m step kept h =
      let c : E.Call = incoming old.own now from bytes up (Some (a, m)) in
      let ended : (P.after old.own.exchanges c).ended
      ≡ None = none_ended from up (a, m) old.own.exchanges.separate step.right in
      let at : ℕ = max old.own.clock now in
      let observers : unless_rejected at (unmatched_by from up)
      (unless_ended (P.after old.own.exchanges c).ended old.own.observers)
      ≡ old.own.observers = ap (λ e. unless_rejected at (unmatched_by from up) (unless_ended e old.own.observers)) ended
      ∙ ap (λ r. unless_rejected at r old.own.observers) (none_rejected from up (a, m) step.right) in
      let taken : P.after old.own.exchanges c ≡ mid.own.exchanges = sym step.own_is in
      let is : mid.own ≡ heard old.own now c =
      kept ∙ ap (λ (e : E.Own). record old.own { clock = max old.own.clock now; exchanges = e }) (sym taken)
      ∙ ap (λ (os : List Observer). record old.own
      { clock = max old.own.clock now; exchanges = P.after old.own.exchanges c; observers = os })
      (sym observers) in (
        h.handling,
        h.below,
        record {
          right = subst (λ s. HandlesCame s (Some (a, m)) h.handling) is h.right;
          own_is = h.left ∙ ap (λ s. came_after s (Some (a, m)) h.handling
              (answering s (Some (a, m)) h.handling h.below)) is;
          under = exchanged_join (exchanges_of old) (exchanges_of mid) (exchanges_of new)
              (answering (heard old.own now c) (Some (a, m)) h.handling h.below) (c ∷ [])
              (exchanges_of old, refl, step) (subst (λ s. X.Exchanged (exchanges_of mid)
              (answering s (Some (a, m)) h.handling h.below) (exchanges_of new)) is h.asks);
        },
      )

  -- the same, as the code has it: of the moment that counts, and where a request was handed up
  pub fed_by : (at : ℕ) (came : Option (Asked × Message)) (a : Asked) (m : Message) → at ≡ max old.own.clock now
      → came ≡ Some (a, m) → X.Step (exchanges_of old) (E.Incoming at from bytes up came) (exchanges_of mid)
      → mid.own ≡ record old.own { clock = at; exchanges = mid.own.exchanges } → IsHandled mid a m new
      → Fed (Some (a, m))
  fed_by at came a m moment some step kept h =
      fed_some a m (subst (λ t. X.Step (exchanges_of old) (E.Incoming t from bytes up (Some (a, m))) (exchanges_of mid))
      moment (subst (λ z. X.Step (exchanges_of old) (E.Incoming at from bytes up z) (exchanges_of mid)) some step))
      (subst (λ t. mid.own ≡ record old.own { clock = t; exchanges = mid.own.exchanges }) moment kept) h

pub on_ok : {X Y P Q : Type 0} (r : Result X Y) → (P → Q) → OnOk r P → OnOk r Q
on_ok (Ok x) f p = f p
on_ok (Err e) f p = tt

-- a step of what callers see
pub seen_step : {S : Type 0} (content : S → Content) (inside outside : Kept S) (c : Call) (new : State)
    → inside ≡ outside → Step (state_of content inside) c new → Step (state_of content outside) c new
seen_step content inside outside c new e step = subst (λ k. Step (state_of content k) c new) e step
