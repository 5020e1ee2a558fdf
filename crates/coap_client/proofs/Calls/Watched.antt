-- No moment of an observation is behind the client's own (RFC 7641, section 3.4), and no number is in two places.
use Rattle.std.proofs.Common.{◌≡◌, ◌≤◌, ℕ, ◌+◌, max, Bool, true, false, cond, not, ◌&&◌, Option, Some, None, List, []}
use Rattle.std.proofs.Common.{◌∷◌, ◌++◌, Result, Ok, Err, map, sym, ap, ◌∙◌, subst, refl, arith}
use Rattle.std.specs.Prelude.{filter, ◌==◌}
use Rattle.coap_codec.specs.Message.{Message}
use Rattle.coap_types.specs.declared.endpoint.Endpoint.{Endpoint}
use Rattle.coap_block.specs.Sizes.{Sizes}
use Rattle.coap_block.specs.declared.fetch_verdict.Verdict.{Verdict}
use Rattle.coap_block.specs.declared.fetch_verdict.Verdict.TheVariants as verdict
use Rattle.coap_observe.specs.Newer.{Watched as Mark, arrived, is_newer}
use Rattle.coap_layer.specs.Trace as L
use Rattle.coap_layer.specs.declared.setup.Setup.{Setup}
use Rattle.coap_exchange.specs.AskerTrace as E
use Rattle.coap_exchange.specs.AskerLaw as X
use Rattle.coap_exchange.specs.declared.asker.AskRefusal.{AskRefusal}
use Rattle.coap_exchange.specs.declared.asker.Event.{Event}
use Rattle.coap_exchange.specs.declared.asker.Event.TheVariants as event
use Rattle.coap_exchange.specs.declared.asker.Turn.{Turn}
use Rattle.coap_exchange.specs.declared.asker.Turn.TheVariants as turn
use Rattle.coap_client.specs.Trace.{Request, Report, Ended, Call, Calls, Observes, Cancels, Forgets}
use Rattle.coap_client.specs.Trace.{Feeds, Ticks, NextOut, NextReport, Asked, NoIds}
use Rattle.coap_client.specs.Own.{Transfer, Operation, Calling, Registering, Fetching, Cancelling}
use Rattle.coap_client.specs.Own.{Dropped, Notified, Observation, Own, start}
use Rattle.coap_client.specs.Observations.{observation_with, over, to_fetch, with_rest}
use Rattle.coap_client.specs.Calls as calls
use Rattle.coap_client.specs.Effects.{Deed, Rests, Asks, Effect, has_sent, is_upload}
use Rattle.coap_client.specs.Events.{answered, called, closed, failed, happened, idle, is_held}
use Rattle.coap_client.specs.Events.{is_upload_op, passes, starts}
use Rattle.coap_client.specs.Fetching.{fetch_answered, fetch_by}
use Rattle.coap_client.specs.Observing.{begun, is_over, noticed_by, passed, registered, renewed}
use Rattle.coap_client.specs.Reports.{lapse}
use Rattle.coap_client.specs.Responses.{is_notification, sequence_in}
use Rattle.coap_client.specs.Deeds.{at}
use Rattle.coap_client.specs.Law.{own_of}
use Rattle.coap_client.specs.Places.{places}
use Rattle.coap_client.specs.Led.{State, Step, Led}
use Rattle.coap_client.proofs.Facts.Turning.Leading.{led_client, client_stands}
use Rattle.coap_client.proofs.Facts.Places.Once.{known}
use Rattle.coap_client.specs.Object.Happens.{Apart, AreFresh, WasLed, Watched, left}
use Rattle.coap_client.proofs.Facts.Places.NumberSteps.{at_most_one}

abbrev Fresh : ℕ → List Observation → Type 0
Fresh t os = AreFresh t os

-- .. and its moment is the client's
abbrev Seen : ℕ → Own → Type 0
Seen t s = (s.clock ≡ t) × Fresh t s.observations

later : (t u : ℕ) (os : List Observation) → t ≤ u → Fresh t os → Fresh u os
later t u [] h f = tt
later t u (o ∷ os) h f = (let a = f.0 in omega (arith, h, a), later t u os h f.1)

filtered : (t : ℕ) (p : Observation → Bool) (os : List Observation) → Fresh t os → Fresh t (filter p os)
filtered t p [] f = tt
filtered t p (o ∷ os) f = by (p o) (filtered t p os f.1)
  where
    by : (b : Bool) → Fresh t (filter p os) → Fresh t (cond b (o ∷ filter p os) (filter p os))
    by true rest = (f.0, rest)
    by false rest = rest

mapped : (t : ℕ) (g : Observation → Observation) → ((o : Observation) → o.watch.clock ≤ t → (g o).watch.clock ≤ t)
    → (os : List Observation) → Fresh t os → Fresh t (map g os)
mapped t g h [] f = tt
mapped t g h (o ∷ os) f = (h o f.0, mapped t g h os f.1)

added : (t : ℕ) (os : List Observation) (o : Observation) → Fresh t os → o.watch.clock ≤ t → Fresh t (os ++ o ∷ [])
added t [] o f h = (h, tt)
added t (p ∷ os) o f h = (f.0, added t os o f.1 h)

arrived_at : (w : Mark) (n t : ℕ) (b : Bool) → (arrived w n t b).clock ≤ t
arrived_at w n t true = omega arith
arrived_at w n t false = omega arith

if_own : (b : Bool) (e f : Effect) (P : Own → Type 0) → P e.own → P f.own → P (cond b e f).own
if_own true e f P x y = x
if_own false e f P x y = y

rested : (t number : ℕ) (rest : Option Notified) (os : List Observation) → Fresh t os
    → Fresh t (with_rest number rest os)
rested t number rest os f = mapped t (λ (o : Observation). cond (o.number == number) (record o { rest = rest }) o)
    (λ o h. by o h (o.number == number)) os f
  where
    by : (o : Observation) → o.watch.clock ≤ t → (b : Bool) → (cond b (record o { rest = rest }) o).watch.clock ≤ t
    by o h true = h
    by o h false = h

held_fresh : (t : ℕ) (b : Bool) (s : Own) (v : Option ℕ) → Seen t s → Seen t (cond b (record s { hold = v }) s)
held_fresh t true s v f = f
held_fresh t false s v f = f

over_fresh : (t number : ℕ) (s : Own) → Seen t s → Seen t (over number s)
over_fresh t number s f = (f.0, filtered t (λ o. not (o.number == number)) s.observations f.1)

failed_fresh : (t : ℕ) (u : Transfer → Bool) (report : Report) (s : Own) (running : Option Operation) → Seen t s
    → Seen t (failed u report s running).own
failed_fresh t u report s (Some (Calling number r w)) f = held_fresh t (u w && is_upload w) s (Some s.sent) f
failed_fresh t u report s (Some (Fetching number)) f = (f.0, rested t number None s.observations f.1)
failed_fresh t u report s (Some (Cancelling number)) f = over_fresh t number (record s { running = None }) f
failed_fresh t u report s _ f = f

called_fresh : (t number : ℕ) (r : Request) (w : Transfer) (s : Own) (next : calls.Next) → Seen t s
    → Seen t (called number r w s next).own
called_fresh t number r w s (calls.Asks next) f = f
called_fresh t number r w s (calls.Ends final report) f = held_fresh t (not final && is_upload w) s (Some s.sent) f

registered_fresh : (t number : ℕ) (path : List (List ℕ)) (s : Own) (m : Message) → Seen t s
    → Seen t (registered number path s t m).own
registered_fresh t number path s m f = if_own (is_notification m) _ _ (λ o. Seen t o) (
  f.0,
  added t s.observations (begun number path s.sizes t m) f.1
      (arrived_at (record { clock = 0; mark = None }) (sequence_in m) t true),
) f

fetch_by_fresh : (t number : ℕ) (n : Notified) (s : Own) (m : Message) (v : Verdict) → Seen t s
    → Seen t (fetch_by number n s m v).own
fetch_by_fresh t number n s m (verdict.Ask num szx) f = (f.0, rested t number _ s.observations f.1)
fetch_by_fresh t number n s m _ f = (f.0, rested t number None s.observations f.1)

fetched_fresh : (t number : ℕ) (n : Option Notified) (s : Own) (m : Message) → Seen t s
    → Seen t (fetch_answered number n s m).own
fetched_fresh t number None s m f = f
fetched_fresh t number (Some n) s m f = fetch_by_fresh t number n s m _ f

answered_fresh : (t : ℕ) (s : Own) (m : Message) (running : Option Operation) → Seen t s
    → Seen t (answered s t m running).own
answered_fresh t s m (Some (Calling number r w)) f = called_fresh t number r w s _ f
answered_fresh t s m (Some (Registering number path)) f = registered_fresh t number path s m f
answered_fresh t s m (Some (Fetching number)) f = fetched_fresh t number _ s m f
answered_fresh t s m (Some (Cancelling number)) f = over_fresh t number (record s { running = None }) f
answered_fresh t s m _ f = f

noticed_fresh : (t : ℕ) (o : Option Observation) (s : Own) (m : Message) → Seen t s → Seen t (noticed_by o s t m).own
noticed_fresh t None s m f = f
noticed_fresh t (Some o) s m f = by (not (is_notification m)) (is_newer o.watch.mark (sequence_in m) t)
  where
    moved : (new : Bool) (n : Option Notified) (p : Observation) → p.watch.clock ≤ t → (b : Bool)
        → (cond b (record p { watch = arrived p.watch (sequence_in m) t new; rest = n }) p).watch.clock ≤ t
    moved new n p h true = arrived_at p.watch (sequence_in m) t new
    moved new n p h false = h

    seen : (p : Observation) → p.watch.clock ≤ t → (b : Bool)
        → (cond b (record p { watch = arrived p.watch (sequence_in m) t false }) p).watch.clock ≤ t
    seen p h true = arrived_at p.watch (sequence_in m) t false
    seen p h false = h

    by : (b c : Bool) → Seen t (cond b (is_over o.number (Ended m.code) s)
        (cond c (renewed o s t m) (record { own = passed o s t m; report = None; deed = Rests }))).own
    by true c = over_fresh t o.number s f
    by false true = (f.0, mapped t _ (λ p h. moved true _ p h (p.number == o.number)) s.observations f.1)
    by false false = (f.0, mapped t _ (λ p h. seen p h (p.number == o.number)) s.observations f.1)

happened_fresh : (t : ℕ) (s : Own) (e : Option Event) → Seen t s → Seen t (happened s t e).own
happened_fresh t s None f = f
happened_fresh t s (Some (event.Answer m)) f = answered_fresh t s m s.running f
happened_fresh t s (Some (event.Notice m)) f = noticed_fresh t (observation_with m.token s.observations) s m f
happened_fresh t s (Some event.Timeout) f = failed_fresh t (λ w. true) (lapse event.Timeout) s s.running f
happened_fresh t s (Some event.Reset) f = failed_fresh t (λ w. true) (lapse event.Reset) s s.running f
happened_fresh t s (Some event.NoResponse) f = failed_fresh t (λ w. true) (lapse event.NoResponse) s s.running f

starts_fresh : (t u : ℕ) (s : Own) (q : List Operation) → Seen t s → Seen t (starts s u q).own
starts_fresh t u s [] f = f
starts_fresh t u s (op ∷ q) f = if_own (is_upload_op op && is_held s u) _ _ (λ o. Seen t o) f f

idle_fresh : (t u : ℕ) (s : Own) (running : Option Operation) (n : Option ℕ) → Seen t s
    → Seen t (idle s u running n).own
idle_fresh t u s (Some op) n f = f
idle_fresh t u s None (Some n) f = f
idle_fresh t u s None None f = starts_fresh t u s s.queue f

passes_fresh : (t : ℕ) (s : Own) (w : Turn) → Seen t s → Seen t (passes s t w).own
passes_fresh t s turn.Idle f = idle_fresh t t s s.running (to_fetch s.observations) f
passes_fresh t s turn.Copied f = f
passes_fresh t s (turn.End e) f = failed_fresh t (λ w. true) (lapse e) s s.running f

closed_fresh : (t u : ℕ) (e : Effect) (d : Deed) (token : Result (List ℕ) AskRefusal) → Seen t e.own
    → Seen t (closed u e d token).own
closed_fresh t u e (Asks op) (Err why) f = failed_fresh t has_sent NoIds e.own (Some op) f
closed_fresh t u e _ _ f = f

own_fresh : (sizes : Sizes) (t : List Call) → Fresh (own_of sizes t).clock (own_of sizes t).observations
own_fresh sizes [] = tt
own_fresh sizes (Calls now r (Ok number) ∷ t) = later _ _ (own_of sizes t).observations (omega arith)
    (own_fresh sizes t)
own_fresh sizes (Observes now path (Ok number) ∷ t) =
    later _ _ (own_of sizes t).observations (omega arith) (own_fresh sizes t)
own_fresh sizes (Cancels now number None ∷ t) = later _ _ (own_of sizes t).observations (omega arith)
    (own_fresh sizes t)
own_fresh sizes (Forgets number kept true ∷ t) =
    filtered _ (λ o. not (o.number == number)) (own_of sizes t).observations (own_fresh sizes t)
own_fresh sizes (Forgets number kept false ∷ t) = own_fresh sizes t
own_fresh sizes (Feeds now from bytes word up settled event sent token kept ∷ t) =
    let s : Own = own_of sizes t in
    let m : ℕ = max s.clock now in
    let e = happened (at now s) m event in
    let z = closed_fresh m m e e.deed token (happened_fresh m (at now s) event
    (refl, later s.clock m s.observations (omega arith) (own_fresh sizes t))) in
    subst (λ k. Fresh k (closed m e e.deed token).own.observations) (sym z.0) z.1
own_fresh sizes (Ticks now word below w sent token kept answer ∷ t) =
    let s : Own = own_of sizes t in
    let m : ℕ = max s.clock now in
    let e = passes (at now s) m w in
    let z = closed_fresh m m e e.deed token (passes_fresh m (at now s) w
    (refl, later s.clock m s.observations (omega arith) (own_fresh sizes t))) in
    subst (λ k. Fresh k (closed m e e.deed token).own.observations) (sym z.0) z.1
own_fresh sizes (NextOut answer ∷ t) = own_fresh sizes t
own_fresh sizes (NextReport answer ∷ t) = own_fresh sizes t
own_fresh sizes (Asked answer ∷ t) = own_fresh sizes t
own_fresh sizes (_ ∷ t) = later _ _ (own_of sizes t).observations (omega arith) (own_fresh sizes t)

-- what was led to

pub watched : (s : State) (now : ℕ) → WasLed s → Watched (max s.own.clock now) s.own
watched s now led =
    let l = led.4 in
    subst (λ (o : Own). Watched (max o.clock now) o) (sym l.own_is)
    (later _ _ (own_of led.1 led.3).observations (omega arith) (own_fresh led.1 led.3))

pub apart : (s : State) → WasLed s → Apart s.own
apart s led n =
    let l = led.4 in
    let law = client_stands led.0 led.1 led.2 led.3 s l in
    let one = (known led.0 led.1 led.2 led.3 law.rows law.exchanges.rows).one n in
    subst (λ (o : Own). places n o ≤ 1) (sym l.own_is) (at_most_one (places n (own_of led.1 led.3)) _ _ one)

pub led_step : (old new : State) (c : Call) → WasLed old → Step old c new → WasLed new
led_step old new c led step = (led.0, led.1, led.2, c ∷ led.3, led_client led.0 led.1 led.2 led.3 c old new led.4 step)

pub led_new : (server : Endpoint) (sizes : Sizes) (setup : Setup) (s : Own) (x : X.State) → s ≡ start sizes
    → x ≡ X.fresh_state server setup
    → Led server sizes setup [] (left s x)
led_new server sizes setup s x own_is layer_is = record { rows = tt; own_is = own_is; layer = layer_is }

pub taken_out : (s : Own) (x y : X.State) (answer : Option L.Packet) → X.Step x (E.Take answer) y
    → Step (left s x) (NextOut answer) (left s y)
taken_out s x y answer step = record { right = tt; own_is = refl; under = (x, refl, step) }

some_is : (x y : X.State) → Some y ≡ Some x → y ≡ x
some_is x y h = ap (λ (o : Option X.State). elim o [ None ↦ y | Some z ↦ z ]) h

-- what was taken back
pub undone : (s t : Own) (x y : X.State) (b : Option X.State) → t ≡ s → b ≡ Some y → b ≡ Some x → WasLed (left s x)
    → WasLed (left t y)
undone s t x y b own back was led = subst (λ z. WasLed (left t z)) (sym (some_is x y (sym back ∙ was)))
    (subst (λ o. WasLed (left o x)) (sym own) led)
