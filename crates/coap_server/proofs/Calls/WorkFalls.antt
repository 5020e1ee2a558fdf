-- A tick that does something leaves less to be done at its moment.
use Rattle.std.proofs.Common.{◌≡◌, ◌<◌, ℕ, ◌≢◌, Bool, true, false, List, ◌∷◌, refl, ap, sym, subst, ◌∙◌}
use Rattle.std.proofs.Common.{Result, Ok, Err, IfOk, OnOk, OnErr}
use Rattle.coap_layer.specs.Trace as L
use Rattle.coap_layer.specs.declared.setup.Setup.{Setup}
use Rattle.coap_resource.specs.Content.{Content}
use Rattle.coap_resource.specs.declared.refusal.StoreRefusal.{StoreRefusal}
use Rattle.coap_resource.specs.declared.refusal.StoreRefusal.TheVariants as store_refusals
use Rattle.coap_resource.specs.Limits.{Limits}
use Rattle.coap_exchange.specs.declared.answerer.Due.{Due}
use Rattle.coap_server.specs.Trace.{Handling, Call, Ticks}
use Rattle.coap_server.specs.Led.{State, Led, Step}
use Rattle.coap_server.proofs.Facts.Exact.Leads.{led_further, led_lawful, led_state}
use Rattle.coap_server.proofs.Facts.Rest.Ending.{size, less, size_is}
use Rattle.coap_server.specs.declared.server.delays.DelayRefusal.{DelayRefusal}
use Rattle.coap_server.specs.declared.server.delays.DelayRefusal.TheVariants as delay_refusals
use Rattle.coap_server.specs.declared.server.plain.PlainRefusal.{PlainRefusal}
use Rattle.coap_server.specs.declared.server.plain.PlainRefusal.TheVariants as plain_refusals
use Rattle.coap_server.specs.Object.Shown.{IsTimed, Kept, state_of}
use Rattle.coap_server.specs.Turns.Work.{work, WasLed}
pub use Rattle.coap_server.proofs.Calls.TurnSteps.{if_ok}

module _ (limits : Limits) (szx : ℕ) (setup : Setup) where
  work_is : (now : ℕ) (t : List Call) (s : State) → Led limits szx setup t s → work s now ≡ size limits szx setup now t
  work_is now t s led = ap (λ z. work z now) (led_state limits szx setup t s led) ∙ sym (size_is limits szx setup now t)

module _ (old new : State) (now w : ℕ) (below : L.Answer) (room : Bool) (d : Due) (passed : ℕ) (h : Handling)
    (id : ℕ) where
  pub work_falls : WasLed old → Step old (Ticks now w below room d passed h id true) new → work new now < work old now
  work_falls (limits, szx, setup, t, led) step =
      let c : Call = Ticks now w below room d passed h id true in
      let on = led_further limits szx setup t c old new led step in
      let falls = less limits szx setup now w t below room d passed h id (led_lawful limits szx setup (c ∷ t) new on) in
      subst (λ n. n < work old now) (sym (work_is limits szx setup now (c ∷ t) new on))
      (subst (λ n. size limits szx setup now (c ∷ t) < n) (sym (work_is limits szx setup now t old led)) falls)

-- .. and what was led is led on by each call
pub led_on : (c : Call) (old new : State) → WasLed old → Step old c new → WasLed new
led_on c old new (limits, szx, setup, t, led) step =
    (limits, szx, setup, c ∷ t, led_further limits szx setup t c old new led step)

-- by the answer of a call
pub closes : {X Y W : Type 0} (r : Result X Y) → OnOk r W → OnErr r W → W
closes (Ok x) ok err = ok
closes (Err e) ok err = err

pub closes_if : {X Y W : Type 0} (r : Result X Y) → IfOk r (λ x. W) → OnErr r W → W
closes_if (Ok x) ok err = ok
closes_if (Err e) ok err = err

pub on_err : {X Y P Q : Type 0} (r : Result X Y) → (P → Q) → OnErr r P → OnErr r Q
on_err (Ok x) f p = tt
on_err (Err e) f p = f p

pub closes_set : {X W : Type 0} (r : Result X StoreRefusal) → (r ≢ Err store_refusals.Memory → W)
    → (r ≡ Err store_refusals.Memory → W) → W
closes_set (Err store_refusals.Memory) other memory = memory refl
closes_set _ other memory = other (λ e. cc e)

pub closes_delay : {X W : Type 0} (r : Result X DelayRefusal) → (r ≢ Err delay_refusals.Memory → W)
    → (r ≡ Err delay_refusals.Memory → W) → W
closes_delay (Ok x) other memory = other (λ e. cc e)
closes_delay (Err delay_refusals.Memory) other memory = memory refl
closes_delay (Err delay_refusals.Full) other memory = other (λ e. cc e)

pub closes_plain : {X W : Type 0} (r : Result X PlainRefusal) → (r ≢ Err plain_refusals.Memory → W)
    → (r ≡ Err plain_refusals.Memory → W) → W
closes_plain (Ok x) other memory = other (λ e. cc e)
closes_plain (Err plain_refusals.Memory) other memory = memory refl
closes_plain (Err plain_refusals.Full) other memory = other (λ e. cc e)

-- what callers see is led as what is inside
pub seen_led : {S : Type 0} (content : S → Content) (inside outside : Kept S) → inside ≡ outside
    → WasLed (state_of content inside) → WasLed (state_of content outside)
seen_led content inside outside e led = subst (λ k. WasLed (state_of content k)) e led

-- .. where nothing changed
pub same_led : {S : Type 0} (content : S → Content) (old new : Kept S) → WasLed (state_of content old) → new ≡ old
    → WasLed (state_of content new)
same_led content old new led e = subst (λ k. WasLed (state_of content k)) (sym e) led

-- .. and the moments of its observers stay no later than its own
pub same_timed : {S : Type 0} (old new : Kept S) → IsTimed old → new ≡ old → IsTimed new
same_timed old new timed e = subst (λ k. IsTimed k) (sym e) timed

abbrev Ticked : State → ℕ → ℕ → State → Bool → Type 0
Ticked old now w new did =
    (below : L.Answer) × (room : Bool) × (d : Due) × (passed : ℕ) × (h : Handling) × (id : ℕ)
    × Step old (Ticks now w below room d passed h id did) new

pub ticks_fall : {Y : Type 0} (r : Result Bool Y) (old new : State) (now w : ℕ) → WasLed old
    → IfOk r (λ did. Ticked old now w new did) → r ≡ Ok true → work new now < work old now
ticks_fall (Ok true) old new now w led s e = work_falls old new now w s.0 s.1 s.2 s.3 s.4 s.5 led s.6
ticks_fall (Ok false) old new now w led s e = absurd (cc e)
ticks_fall (Err x) old new now w led s e = absurd (cc e)
