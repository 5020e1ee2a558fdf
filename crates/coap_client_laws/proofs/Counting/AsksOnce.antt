-- An observation is registered once, and cancelled once.
use Rattle.std.proofs.Common.{◌≡◌, ◌⊎◌, inl, inr, ℕ, max, true, Option, Some, None, List, [], ◌∷◌, ap, sym, subst, ◌∙◌}
use Rattle.std.proofs.Common.{arith}
use Rattle.coap_types.specs.declared.endpoint.Endpoint.{Endpoint}
use Rattle.coap_layer.specs.declared.setup.Setup.{Setup}
use Rattle.coap_block.specs.Sizes.{Sizes}
use Rattle.coap_exchange.specs.declared.asker.Event.{Event}
use Rattle.coap_client.specs.Trace.{Call, Feeds, Ticks}
use Rattle.coap_client.specs.Own.{Operation, Calling, Registering, Fetching, Cancelling, Dropped, Own}
use Rattle.coap_client.specs.Reports.{lapse}
use Rattle.coap_client.specs.Effects.{Asks, Effect}
use Rattle.coap_client.specs.Events.{failed}
use Rattle.coap_client.specs.Deeds.{at}
use Rattle.coap_client.specs.Law.{ClientLaw, ClientRows, own_of}
use Rattle.coap_client_laws.specs.Follows.Order.{turn_of}
use Rattle.coap_client_laws.specs.Follows.Begins.{WasSent}
use Rattle.coap_client.specs.Sendings.{Sending, sends}
use Rattle.coap_client.specs.Turns.Moves as mv
use Rattle.coap_client.specs.Turns.Moves.{Move, left_by}
use Rattle.coap_client_laws.proofs.Queueing.Closing.{Closing, quiet, goes_out, is_refused, sending_of}
use Rattle.coap_client.proofs.Facts.Turning.Leading.{client_back}
use Rattle.coap_client.proofs.Facts.Turning.Moves.{releases_none}
use Rattle.coap_client_laws.proofs.Turning.Turns.{Turned, fed_turned, ticked_turned}
use Rattle.coap_client_laws.proofs.Queueing.InTurn.{Turns, turns}
use Rattle.coap_client_laws.proofs.Queueing.RisingNumbers.{Rises}
use Rattle.coap_client_laws.specs.Follows.Bounds.{registers, cancels, BothDo, AskOnce}
use Rattle.coap_client_laws.proofs.Sending.Tokens.{one_cancel}

-- a registration is asked for where it is the first that waits
first_waits : (s : Own) (now : ℕ) (told : Option Event) (mo : Move s now told) (n : ℕ) (path : List (List ℕ))
    → (left_by s now told mo).deed ≡ Asks (Registering n path)
    → (queue : List Operation) × (s.queue ≡ Registering n path ∷ queue)
first_waits s now told (mv.starts_next op queue none rest first quiet_so) n path h = let e : op
    ≡ Registering n path = cc h in (queue, first ∙ ap (λ o. o ∷ queue) e)
first_waits s now told (mv.cancels k a hears runs) n path h = absurd (releases_none _ _ h)
first_waits s now told (mv.is_ended o a notes found note) n path h = absurd (releases_none _ _ h)
first_waits s now told (mv.fails e un) n path h = absurd (by s.running h)
  where
    by : (running : Option Operation) → (failed (λ t. true) (lapse e) s running).deed ≡ Asks (Registering n path) → ⊥
    by None h = cc h
    by (Some (Calling k r t)) h = cc h
    by (Some (Registering k p)) h = cc h
    by (Some (Fetching k)) h = cc h
    by (Some Dropped) h = cc h
    by (Some (Cancelling k)) h = releases_none _ _ h
first_waits s now told _ n path h = absurd (cc h)

the_registration : (op : Operation) (n : ℕ) → registers op ≡ Some n → (path : List (List ℕ)) × (op ≡ Registering n path)
the_registration (Registering k path) n is = let e : k ≡ n = cc is in (path, ap (λ i. Registering i path) e)
the_registration _ n is = absurd (cc is)

the_cancel : (op : Operation) (n : ℕ) → cancels op ≡ Some n → op ≡ Cancelling n
the_cancel (Cancelling k) n is = let e : k ≡ n = cc is in ap Cancelling e
the_cancel _ n is = absurd (cc is)

module _ (sizes : Sizes) where
  abbrev Waits : List Call → Sending → Type 0
  Waits t y = (n : ℕ) (path : List (List ℕ)) → y.operation ≡ Registering n path
      → (queue : List Operation) × ((own_of sizes t).queue ≡ Registering n path ∷ queue)

  waits_by : (t : List Call) (c : Call) (y : Sending) (k : Turned sizes t c) → sends (own_of sizes t) c ≡ Some y
      → Waits t y
  waits_by t c y k h n path op_is = by k.closes
    where
      e : Effect
      e = left_by (at k.now (own_of sizes t)) (max (own_of sizes t).clock k.now) k.told k.move

      by : Closing (max (own_of sizes t).clock k.now) e k.token
          → (queue : List Operation) × ((own_of sizes t).queue ≡ Registering n path ∷ queue)
      by (quiet q none own_same report_same) = let z : Some y ≡ None = sym h ∙ (k.sends_is ∙ none) in absurd (cc z)
      by (is_refused op why asks given none all) = let z : Some y ≡ None = sym h ∙ (k.sends_is ∙ none) in absurd (cc z)
      by (goes_out op key asks given sends_it own_same report_same) =
          let same : sending_of e op key ≡ y = (let z : Some (sending_of e op key) ≡ Some y = sym sends_it
          ∙ (sym k.sends_is ∙ h) in cc z) in
          let is : op ≡ Registering n path = ap (λ (z : Sending). z.operation) same ∙ op_is in
          first_waits (at k.now (own_of sizes t)) (max (own_of sizes t).clock k.now) k.told k.move n path
          (asks ∙ ap Asks is)

  waits : (t : List Call) (c : Call) (y : Sending) → sends (own_of sizes t) c ≡ Some y → Waits t y
  waits t (Feeds now from bytes w up settled event sent token was) y h =
      waits_by t _ y (fed_turned sizes t now from bytes w up settled event sent token was) h
  waits t (Ticks now w below turn sent token was answer) y h =
      waits_by t _ y (ticked_turned sizes t now w below turn sent token was answer) h
  waits t _ y h = absurd (cc h)

  -- what waits was not sent
  registered_once : (t : List Call) (c : Call) → ClientRows sizes t → (x y : Sending)
      → sends (own_of sizes t) c ≡ Some y
      → WasSent sizes x t → BothDo registers x y → ⊥
  registered_once t c rows x y is was h =
      let a = the_registration x.operation h.0 h.1 in
      let b = the_registration y.operation h.0 h.2 in
      let q = waits t c y is h.0 b.0 b.1 in
      let z : Turns sizes t = turns sizes t rows in
      let w : Rises z.low (Registering h.0 b.0 ∷ q.0) (own_of sizes t).taken =
      subst (λ ops. Rises z.low ops (own_of sizes t).taken) q.1 z.waits in
      let low = w.0 in
      let less = z.sent x h.0 was (ap turn_of a.1) in
      omega (arith, low, less)

pub ask_once : (server : Endpoint) (sizes : Sizes) (setup : Setup) (t : List Call) → ClientLaw server sizes setup t
    → AskOnce sizes t
ask_once server sizes setup [] law = tt
ask_once server sizes setup (c ∷ t) law = (
  here,
  ask_once server sizes setup t
      (client_back server sizes setup (c ∷ []) t law),
)
  where
    here : (x y : Sending) → sends (own_of sizes t) c ≡ Some y → WasSent sizes x t
        → (BothDo registers x y ⊎ BothDo cancels x y) → ⊥
    here x y is was (inl h) = registered_once sizes t c law.rows.1 x y is was h
    here x y is was (inr h) = one_cancel sizes server setup t c law y x h.0 is (the_cancel y.operation h.0 h.2) was
        (the_cancel x.operation h.0 h.1)
