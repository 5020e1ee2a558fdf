-- A peer that is forgotten is not known any more: a Reset ends what is outstanding to it, and what else is of it is let
-- go.
use Rattle.std.proofs.Common.{◌≡◌, ℕ, ◌<◌, max, Bool, true, false, Option, List, [], ◌∷◌, filter, not, refl}
use Rattle.std.proofs.Common.{ap, sym, subst, ◌∙◌, cond, ◌||◌, Result, Ok, Err}
use Rattle.std.specs.Prelude.{IsOk, OnOk}
use Rattle.std.specs.List.{list_any}
use Rattle.coap_types.specs.declared.endpoint.Endpoint.{Endpoint}
use Rattle.coap_types.specs.SameEndpoint.{same_endpoint}
use Rattle.coap_codec.specs.Message.{Message}
use Rattle.coap_layer.specs.EmptyMessages.{reset_bytes}
use Rattle.coap_layer.specs.Machine.Peers.{goes_to, is_awaited}
use Rattle.coap_layer.specs.Machine.State as S
use Rattle.coap_layer.specs.Machine.State.{is_busy, made}
use Rattle.coap_layer.specs.Machine.Ups.{IsQuiet}
use Rattle.coap_layer.specs.Trace as L
use Rattle.coap_layer.proofs.Facts.Calls.{steps_left}
use Rattle.coap_layer.specs.declared.setup.Setup.{Setup}
use Rattle.coap_block.specs.AssemblyState.{AssemblyState, PartialBody, forgotten, is_live, without_peer}
use Rattle.coap_observe.specs.Observers.{Observer, elsewhere}
use Rattle.coap_resource.specs.Content.{Content}
use Rattle.coap_resource.specs.Limits.{Limits}
use Rattle.coap_exchange.specs.declared.answerer.Asked.{Asked}
use Rattle.coap_exchange.specs.declared.separate.Deferred.{Deferred}
use Rattle.coap_exchange.specs.AnswererLaw as X
use Rattle.coap_exchange.specs.AnswererSteps as P
use Rattle.coap_exchange.specs.AnswererSteps.{is_waited_for}
use Rattle.coap_exchange.specs.AnswererTrace as E
use Rattle.coap_exchange.specs.Peers as peers
use Rattle.coap_exchange.specs.Peers.{is_asked_by, reset_to}
use Rattle.coap_exchange.proofs.Facts.Peers.{Freed, reset_frees, reset_quiet}
use Rattle.coap_exchange.proofs.Facts.ServerSide.{exchanged_split, led_law, waits}
use Rattle.coap_server.specs.Trace.{Call, Feeds, Forgets, Handling, Own, Waiting}
use Rattle.coap_server.specs.Asks.{answering}
use Rattle.coap_server.specs.Deferring.{waiting_elsewhere}
use Rattle.coap_server.specs.Forgetting.{IsForgotten}
use Rattle.coap_server.specs.Handling.{heard, incoming}
use Rattle.coap_server.specs.Law.{lower_of}
use Rattle.coap_server.specs.Led.{Led, State, Step, exchanges_of}
use Rattle.coap_server.specs.Makes.{Fed, Makes}
use Rattle.coap_server.specs.Load.{moment}
use Rattle.coap_server.specs.Object.Shown.{Kept, state_of}
use Rattle.coap_server.specs.Peers.{awaits, knows, observes, uploads}
use Rattle.coap_server.specs.Turns.Work.{WasLed}
use Rattle.coap_server.proofs.Facts.Exact.Leads.{led_further}

-- of what is left of a list, none passes a test that none passed before; and none that all were tested by
module _ {X : Type 0} (p : X → Bool) where
  neither : (a b : Bool) → (a || b) ≡ false → (a ≡ false) × (b ≡ false)
  neither true b e = absurd (cc e)
  neither false b e = (refl, e)

  none_by : (b : Bool) (x : X) (left : List X) → p x ≡ false → list_any p left ≡ false
      → list_any p (cond b (x ∷ left) left) ≡ false
  none_by true x left h k = ap (λ b. b || list_any p left) h ∙ k
  none_by false x left h k = k

  none_kept : (q : X → Bool) (xs : List X) → list_any p xs ≡ false → list_any p (filter q xs) ≡ false
  none_kept q [] h = refl
  none_kept q (x ∷ xs) h =
      let k = neither (p x) (list_any p xs) h in
      none_by (q x) x (filter q xs) k.0 (none_kept q xs k.1)

  out_by : (b : Bool) (x : X) (left : List X) → p x ≡ b → list_any p left ≡ false
      → list_any p (cond (not b) (x ∷ left) left) ≡ false
  out_by true x left h k = k
  out_by false x left h k = ap (λ b. b || list_any p left) h ∙ k

  none_out : (xs : List X) → list_any p (filter (λ x. not (p x)) xs) ≡ false
  none_out [] = refl
  none_out (x ∷ xs) = out_by (p x) x (filter (λ x. not (p x)) xs) refl (none_out xs)

none_of : (a b : Bool) → a ≡ false → b ≡ false → (a || b) ≡ false
none_of a b h k = cc (h, k)

-- what else is of a peer is let go in one call
pub lets_go : (old new : State) (peer : Endpoint)
    → X.Step (exchanges_of old) (E.Forgets peer) (exchanges_of new)
    → new.own ≡ record old.own {
      exchanges = new.own.exchanges;
      uploads = without_peer peer old.own.uploads;
      observers = elsewhere peer old.own.observers;
      waiting = waiting_elsewhere peer old.own.waiting;
    }
    → Step old (Forgets peer) new
lets_go old new peer step is = record {
  right = tt;
  own_is = is ∙ ap (λ (e : E.Own). record old.own {
    exchanges = e;
    uploads = without_peer peer old.own.uploads;
    observers = elsewhere peer old.own.observers;
    waiting = waiting_elsewhere peer old.own.waiting;
  }) step.own_is;
  under = (exchanges_of old, refl, step);
}

pub own_left : (o : Own) (e : E.Own) (us vs : AssemblyState) (os ps : List Observer) (ws xs : List Waiting) → us ≡ vs
    → os ≡ ps → ws ≡ xs
    → record o { exchanges = e; uploads = us; observers = os; waiting = ws }
    ≡ record o { exchanges = e; uploads = vs; observers = ps; waiting = xs }
own_left o e us vs os ps ws xs p q r = cc (p, q, r)

-- .. as callers see it
pub seen_forgets : {S : Type 0} (content : S → Content) (inside outside : Kept S) (peer : Endpoint) (new : State)
    → inside ≡ outside → IsForgotten peer (state_of content inside) new
    → IsForgotten peer (state_of content outside) new
seen_forgets content inside outside peer new e step =
    subst (λ k. IsForgotten peer (state_of content k) new) e step

-- a Reset takes no memory, so the peer is taken to reject what is outstanding to it; then the rest of it is let go
pub forgets_in : {X E : Type 0} (r : Result X E) (old between new : State) (peer : Endpoint) (bytes : List ℕ) (id : ℕ)
    → id ≡ reset_to peer old.own.exchanges.separate → bytes ≡ reset_bytes id → id < 65536
    → (IsQuiet (made old.layer (max old.own.clock 0) (L.Receive peer bytes)) → IsOk r)
    → OnOk r ((word : ℕ) → Makes old (Fed 0 peer bytes word) between) → Step between (Forgets peer) new
    → IsForgotten peer old new
forgets_in r old between new peer bytes id id_is bytes_is small quiet fed forgets =
    let reset : bytes ≡ reset_bytes (reset_to peer old.own.exchanges.separate) = bytes_is ∙ ap reset_bytes id_is in
    let heard = subst (λ (bs : List ℕ). IsQuiet (made old.layer (max old.own.clock 0) (L.Receive peer bs)))
    (sym bytes_is) (reset_quiet old.layer (max old.own.clock 0) peer id small) in
    (between, subst (λ (bs : List ℕ). Makes old (Fed 0 peer bs 0) between) reset (by r (quiet heard) fed 0), forgets)
  where
    by : {X E P : Type 0} (r : Result X E) → IsOk r → OnOk r P → P
    by (Ok x) ok p = p
    by (Err e) ok p = absurd (cc ok)

module _ (limits : Limits) (szx : ℕ) (setup : Setup) (t : List Call) (peer : Endpoint) (old between : State)
    (led : Led limits szx setup t old) (small : reset_to peer old.own.exchanges.separate < 65536) where
  abbrev bytes : List ℕ
  bytes = reset_bytes (reset_to peer old.own.exchanges.separate)

  module _ (up : L.Answer) (came : Option (Asked × Message)) (h : Handling) (sent : L.Answer)
      (step : Step old (Feeds 0 peer bytes 0 up came h sent) between) where
    abbrev first : E.Call
    first = incoming old.own 0 peer bytes up came

    abbrev then_asked : Option (Asked × Message) → List E.Call
    then_asked came = answering (heard old.own 0 first) came h sent

    freed : Freed peer (exchanges_of old) (exchanges_of between) came
    freed =
        let parts = exchanged_split (exchanges_of old) (exchanges_of between) (then_asked came) (first ∷ []) step.under
        in
        let one : X.Step (exchanges_of old) first parts.0 =
        subst (λ z. X.Step z first parts.0) parts.1.1 parts.1.2 in
        let f = reset_frees setup (lower_of limits szx t) peer (exchanges_of old) parts.0 led.exchanges
        (max old.own.clock 0) up came small one in
        let none : then_asked came ≡ [] = ap then_asked f.none in
        let same : exchanges_of between ≡ parts.0 =
        subst (λ calls. X.Exchanged parts.0 calls (exchanges_of between)) none parts.2 in
        subst (λ z. Freed peer (exchanges_of old) z came) (sym same) f

    idle : is_busy peer between.layer.open_cons ≡ false
    idle =
        let c : Call = Feeds 0 peer bytes 0 up came h sent in
        let next = led_further limits szx setup t c old between led step in
        let calls : List E.Call = lower_of limits szx (c ∷ t) in
        let law = led_law setup calls (exchanges_of between) next.exchanges in
        let left : law.left ≡ between.layer =
        steps_left (S.start setup) (X.lower_of calls) law.left law.layer
        ∙ sym (steps_left (S.start setup) (X.lower_of calls) between.layer next.exchanges.layer) in
        ap (λ (l : S.State). is_busy peer l.open_cons) (sym left) ∙ (sym (waits setup calls law peer)
        ∙ (ap (λ (o : E.Own). is_waited_for peer o.separate) (sym next.exchanges.own_is) ∙ freed.waited))

    module _ (new : State) (forgets : Step between (Forgets peer) new) (quiet : goes_to peer old.layer.queue ≡ false)
        (now : ℕ) where
      last : X.Step (exchanges_of between) (E.Forgets peer) (exchanges_of new)
      last = subst (λ z. X.Step z (E.Forgets peer) (exchanges_of new)) forgets.under.1 forgets.under.2

      layer_is : new.layer ≡ between.layer
      layer_is = last.under

      exchanges_is : new.own.exchanges ≡ P.after between.own.exchanges (E.Forgets peer)
      exchanges_is = last.own_is

      layer_knows : is_busy peer new.layer.open_cons
          || (goes_to peer new.layer.queue || is_awaited peer new.layer.awaits) ≡ false
      layer_knows = none_of _ _ (ap (λ (l : S.State). is_busy peer l.open_cons) layer_is ∙ idle)
          (none_of _ _ (ap (λ (l : S.State). goes_to peer l.queue) layer_is ∙ (ap (goes_to peer) freed.queue ∙ quiet))
          (ap (λ (l : S.State). is_awaited peer l.awaits) layer_is ∙ ap (is_awaited peer) freed.awaits))

      exchanges_know : peers.knows peer (exchanges_of new) ≡ false
      exchanges_know = none_of _ _ layer_knows
          (none_of _ _ (ap (λ (o : E.Own). is_waited_for peer o.separate) exchanges_is ∙ freed.waited)
          (none_of _ _
          (ap (λ (o : E.Own). list_any (λ (d : Deferred). same_endpoint d.asked.from peer) o.deferred) exchanges_is
          ∙ none_out (λ (d : Deferred). same_endpoint d.asked.from peer) between.own.exchanges.deferred)
          (ap (λ (o : E.Own). is_asked_by peer o.pending) exchanges_is ∙ ap (is_asked_by peer) freed.pending)))

      uploads_know : uploads peer (forgotten (max new.own.uploads.clock (moment new now)) new.own.uploads.partials)
          ≡ false
      uploads_know =
          let at : ℕ = max new.own.uploads.clock (moment new now) in
          let from : PartialBody → Bool = λ p. same_endpoint p.key.from peer in
          ap (λ (o : Own). uploads peer (forgotten at o.uploads.partials)) forgets.own_is
          ∙ none_kept from (is_live at) (filter (λ p. not (from p)) between.own.uploads.partials)
          (none_out from between.own.uploads.partials)

      unknown_then : knows new now peer ≡ false
      unknown_then = none_of _ _ exchanges_know
          (none_of _ _ (ap (λ (o : Own). observes peer o.observers) forgets.own_is
          ∙ none_out (λ (o : Observer). same_endpoint o.to peer) between.own.observers)
          (none_of _ _ uploads_know (ap (λ (o : Own). awaits peer o.waiting) forgets.own_is
          ∙ none_out (λ (w : Waiting). same_endpoint w.asked.from peer) between.own.waiting)))

pub unknown : (peer : Endpoint) (old new : State) → WasLed old → reset_to peer old.own.exchanges.separate < 65536
    → IsForgotten peer old new → goes_to peer old.layer.queue ≡ false → (now : ℕ) → knows new now peer ≡ false
unknown peer old new (limits, szx, setup, t, led) small (between, (up, came, h, sent, step), forgets) quiet now =
    unknown_then limits szx setup t peer old between led small up came h sent step new forgets quiet now
