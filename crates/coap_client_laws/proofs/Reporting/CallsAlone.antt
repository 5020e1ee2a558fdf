-- A client that takes no observation has calls alone, and reports of them alone.
use Rattle.std.proofs.Common.{◌≡◌, ℕ, max, ◌==◌, Bool, true, false, not, ◌||◌, ◌&&◌, cond, Option, Some, None, is_some}
use Rattle.std.proofs.Common.{List, [], ◌∷◌, ◌++◌, refl, sym, subst, Result, Ok, Err}
use Rattle.coap_types.specs.Past.{Always}
use Rattle.coap_types.specs.declared.block.Block.{Block}
use Rattle.coap_types.specs.declared.endpoint.Endpoint.{Endpoint}
use Rattle.coap_types.specs.declared.option_number.TheConstants.{BLOCK1 as block1}
use Rattle.coap_layer.specs.declared.setup.Setup.{Setup}
use Rattle.coap_codec.specs.Message.{Message}
use Rattle.coap_block.specs.Sizes.{Sizes}
use Rattle.coap_block.specs.declared.fetch_step.FetchRefusal.{FetchRefusal}
use Rattle.coap_block.specs.declared.fetch_step.FetchRefusal.TheVariants as refusal
use Rattle.coap_block.specs.declared.fetch_verdict.Verdict.{Verdict}
use Rattle.coap_block.specs.declared.fetch_verdict.Verdict.TheVariants as verdict
use Rattle.coap_block.specs.FetchStep.{FetchState}
use Rattle.coap_block.specs.UploadStep.{UploadState, more_follows, continues, moved}
use Rattle.coap_exchange.specs.declared.asker.AskRefusal.{AskRefusal}
use Rattle.coap_exchange.specs.declared.asker.Event.{Event}
use Rattle.coap_exchange.specs.declared.asker.Event.TheVariants as event
use Rattle.coap_exchange.specs.declared.asker.Turn.{Turn}
use Rattle.coap_exchange.specs.declared.asker.Turn.TheVariants as turn
use Rattle.coap_client.specs.declared.refusals.CancelRefusal.TheVariants as cancel
use Rattle.coap_client.specs.Calls.{Next, answer, fetched, continued, sent, has_tags, is_below_errors}
use Rattle.coap_client.specs.Calls as calls
use Rattle.coap_client.specs.Deeds.{at, effect, close}
use Rattle.coap_client.specs.Effects.{Deed, Rests, Asks, Effect, stays, of, is_upload, held_by, has_sent}
use Rattle.coap_client.specs.Events.{called, answered, failed, happened, idle, starts, passes, closed, is_held}
use Rattle.coap_client.specs.Events.{is_upload_op}
use Rattle.coap_client_laws.specs.Follows.CallsAlone.{TakesNoObservation, NoneIsTaken, is_of_observation, is_call}
use Rattle.coap_client_laws.specs.Follows.CallsAlone.{IsAlone}
use Rattle.coap_client_laws.specs.Follows.CallsAlone.{CallsAlone}
use Rattle.coap_client.specs.Law.{ClientLaw, ClientRows, own_of}
use Rattle.coap_client.specs.Observations.{observation_of, observation_with, is_cancelled, to_fetch}
use Rattle.coap_client.specs.Observing.{noticed_by}
use Rattle.coap_client.specs.Own.{Transfer, Fetches, Uploads, Single, Operation, Calling}
use Rattle.coap_client.specs.Own.{Observation, Own}
use Rattle.coap_client.specs.Queue.{calling, is_full}
use Rattle.coap_client.specs.Reports.{done, refused, lapse, is_success}
use Rattle.coap_client.specs.Requests.{is_longer}
use Rattle.coap_client.specs.Responses.{content, valid, continue, tag_in, block_at, part}
use Rattle.coap_client.specs.Steps.{after, reports, IsRight}
use Rattle.coap_client.specs.Trace.{Request, Report, Valid, Done, Failed, BadBlock, NoIds, Reported, Call, Calls}
use Rattle.coap_client.specs.Trace.{Observes}
use Rattle.coap_client.specs.Trace.{Cancels, Forgets, Feeds, Ticks, NextReport}

abbrev IsCall : Operation → Type 0
IsCall op = is_call op ≡ true

abbrev AreCalls : List Operation → Type 0
AreCalls [] = Unit {0}
AreCalls (op ∷ ops) = IsCall op × AreCalls ops

abbrev RunsCall : Option Operation → Type 0
RunsCall None = Unit {0}
RunsCall (Some op) = IsCall op

-- it has calls alone
record Alone (s : Own) : Type 0 where
  running : RunsCall s.running
  queue : AreCalls s.queue
  none : s.observations ≡ []

abbrev TellsCall : Option Reported → Type 0
TellsCall None = Unit {0}
TellsCall (Some x) = is_of_observation x.report ≡ false

abbrev AsksCall : Deed → Type 0
AsksCall (Asks op) = IsCall op
AsksCall deed = Unit {0}

record StaysAlone (e : Effect) : Type 0 where
  own : Alone e.own
  report : TellsCall e.report
  deed : AsksCall e.deed

quiet : (s : Own) → Alone s → StaysAlone (stays s)
quiet s k = record { own = k; report = tt; deed = tt }

-- an answer to a call

abbrev NextTells : Next → Type 0
NextTells (calls.Asks t) = Unit {0}
NextTells (calls.Ends final report) = is_of_observation report ≡ false

next_if : (b : Bool) (x y : Next) → NextTells x → NextTells y → NextTells (cond b x y)
next_if true x y h k = h
next_if false x y h k = k

refused_tells : (why : FetchRefusal) → is_of_observation (refused why) ≡ false
refused_tells refusal.Changed = refl
refused_tells _ = refl

fetched_tells : (f : FetchState) (m : Message) (v : Verdict) → NextTells (fetched f m v)
fetched_tells f m (verdict.Refuse why) = refused_tells why
fetched_tells f m verdict.Done = refl
fetched_tells f m _ = tt

done_tells : (b : Bool) (code : ℕ) → is_of_observation (cond b (Done code) (Failed code)) ≡ false
done_tells true code = refl
done_tells false code = refl

continued_tells : (u : UploadState) (o : Option Block) → NextTells (continued u o)
continued_tells u None = refl
continued_tells u (Some b) = next_if (continues u b) (calls.Asks (Uploads (moved u b))) (calls.Ends false BadBlock) tt
    refl

answer_tells : (r : Request) (t : Transfer) (m : Message) → NextTells (answer r t m)
answer_tells r (Fetches f) m =
    next_if (m.code == content) (fetched f m (part f m)) (cond ((m.code == valid) && has_tags r.etags)
    (calls.Ends true (Valid (tag_in m))) (calls.Ends true (Failed m.code))) (fetched_tells f m (part f m))
    (next_if ((m.code == valid) && has_tags r.etags) (calls.Ends true (Valid (tag_in m)))
    (calls.Ends true (Failed m.code)) refl refl)
answer_tells r (Uploads u) m =
    next_if ((m.code == continue) && is_longer u) (continued u (block_at block1 m))
    (cond (more_follows u && is_below_errors m.code) (calls.Ends true BadBlock)
    (calls.Ends true (done r.method m.code))) (continued_tells u (block_at block1 m))
    (next_if (more_follows u && is_below_errors m.code) (calls.Ends true BadBlock)
    (calls.Ends true (done r.method m.code)) refl (done_tells (is_success r.method m.code) m.code))
answer_tells r Single m = done_tells (is_success r.method m.code) m.code

held_alone : (b : Bool) (s : Own) → Alone s → Alone (cond b (record s { hold = Some s.sent }) s)
held_alone true s k = record { running = k.running; queue = k.queue; none = k.none }
held_alone false s k = k

ended : (number : ℕ) (report : Report) (s : Own) → is_of_observation report ≡ false → Alone s
    → StaysAlone (Rattle.coap_client.specs.Effects.ends (of number report) s)
ended number report s h k = record {
  own = record { running = tt; queue = k.queue; none = k.none };
  report = h;
  deed = tt;
}

called_alone : (number : ℕ) (r : Request) (t : Transfer) (s : Own) → Alone s → (next : Next) → NextTells next
    → StaysAlone (called number r t s next)
called_alone number r t s k (calls.Asks next) h =
    record { own = record { running = refl; queue = k.queue; none = k.none }; report = tt; deed = refl }
called_alone number r t s k (calls.Ends final report) h =
    ended number report (held_by (not final) t s) h (held_alone (not final && is_upload t) s k)

answered_alone : (s : Own) (now : ℕ) (m : Message) → Alone s → (o : Option Operation) → RunsCall o
    → StaysAlone (answered s now m o)
answered_alone s now m k None h = quiet s k
answered_alone s now m k (Some (Calling number r t)) h = called_alone number r t s k (answer r t m) (answer_tells r t m)
answered_alone s now m k _ h = absurd (cc h)

failed_alone : (u : Transfer → Bool) (report : Report) (s : Own) → is_of_observation report ≡ false → Alone s
    → (o : Option Operation) → RunsCall o → StaysAlone (failed u report s o)
failed_alone u report s told k None h = quiet s k
failed_alone u report s told k (Some (Calling number r t)) h =
    ended number report (held_by (u t) t s) told (held_alone (u t && is_upload t) s k)
failed_alone u report s told k _ h = absurd (cc h)

-- a datagram, and time

happened_alone : (s : Own) (now : ℕ) → Alone s → (e : Option Event) → StaysAlone (happened s now e)
happened_alone s now k None = quiet s k
happened_alone s now k (Some (event.Answer m)) = answered_alone s now m k s.running k.running
happened_alone s now k (Some (event.Notice m)) =
    subst (λ (os : List Observation). StaysAlone (noticed_by (observation_with m.token os) s now m)) (sym k.none)
    (quiet s k)
happened_alone s now k (Some event.Timeout) = failed_alone (λ t. true) (lapse event.Timeout) s refl k s.running
    k.running
happened_alone s now k (Some event.Reset) = failed_alone (λ t. true) (lapse event.Reset) s refl k s.running k.running
happened_alone s now k (Some event.NoResponse) =
    failed_alone (λ t. true) (lapse event.NoResponse) s refl k s.running k.running

starts_alone : (s : Own) (now : ℕ) → Alone s → (q : List Operation) → AreCalls q → StaysAlone (starts s now q)
starts_alone s now k [] h = quiet s k
starts_alone s now k (op ∷ queue) h = by (is_upload_op op && is_held s now)
  where
    by : (b : Bool) → StaysAlone (cond b (stays s)
        (Rattle.coap_client.specs.Effects.runs op (record s { queue = queue })))
    by true = quiet s k
    by false = record { own = record { running = h.0; queue = h.1; none = k.none }; report = tt; deed = h.0 }

idle_alone : (s : Own) (now : ℕ) → Alone s → (o : Option Operation) → StaysAlone (idle s now o None)
idle_alone s now k (Some op) = quiet s k
idle_alone s now k None = starts_alone s now k s.queue k.queue

lapse_tells : (e : Event) → is_of_observation (lapse e) ≡ false
lapse_tells (event.Answer m) = refl
lapse_tells _ = refl

passes_alone : (s : Own) (now : ℕ) → Alone s → (t : Turn) → StaysAlone (passes s now t)
passes_alone s now k turn.Idle =
    subst (λ (os : List Observation). StaysAlone (idle s now s.running (to_fetch os))) (sym k.none)
    (idle_alone s now k s.running)
passes_alone s now k turn.Copied = quiet (record s { sent = now })
    (record { running = k.running; queue = k.queue; none = k.none })
passes_alone s now k (turn.End e) = failed_alone (λ t. true) (lapse e) s (lapse_tells e) k s.running k.running

closed_alone : (now : ℕ) (e : Effect) → StaysAlone e → (d : Deed) → AsksCall d → (token : Result (List ℕ) AskRefusal)
    → StaysAlone (closed now e d token)
closed_alone now e k (Asks op) h (Ok token) = quiet (record e.own { sent = now })
    (record { running = k.own.running; queue = k.own.queue; none = k.own.none })
closed_alone now e k (Asks op) h (Err why) = failed_alone has_sent NoIds e.own refl k.own (Some op) h
closed_alone now e k Rests h token = k
closed_alone now e k _ h token = record { own = k.own; report = k.report; deed = tt }

-- each call

moved_on : (s : Own) (now : ℕ) → Alone s → Alone (at now s)
moved_on s now k = record { running = k.running; queue = k.queue; none = k.none }

calls_behind : (ops : List Operation) (op : Operation) → AreCalls ops → IsCall op → AreCalls (ops ++ op ∷ [])
calls_behind [] op h k = (k, tt)
calls_behind (o ∷ ops) op h k = (h.0, calls_behind ops op h.1 k)

closes : (s : Own) (c : Call) (now : ℕ) (token : Result (List ℕ) AskRefusal) → StaysAlone (effect s c)
    → StaysAlone (close now (effect s c) token)
closes s c now token k = closed_alone now (effect s c) k (effect s c).deed k.deed token

after_alone : (s : Own) (c : Call) → TakesNoObservation c → IsRight s c → Alone s → Alone (after s c)
after_alone s (Calls now r (Ok number)) none right k = record {
  running = k.running;
  queue = calls_behind s.queue (calling s.sizes number r) k.queue refl;
  none = k.none;
}
after_alone s (Calls now r (Err why)) none right k = moved_on s now k
after_alone s (Observes now path (Ok number)) none right k = absurd none
after_alone s (Observes now path (Err why)) none right k = moved_on s now k
after_alone s (Cancels now number None) none right k =
    let e = subst (λ (os : List Observation). None ≡ cond (not (is_some (observation_of number os)) || is_cancelled
    number s)
    (Some cancel.Unknown) (cond (is_full s) (Some cancel.QueueFull) None)) k.none right in
    absurd (cc e)
after_alone s (Cancels now number (Some why)) none right k = moved_on s now k
after_alone s (Forgets number kept true) none right k =
    let e = subst (λ (os : List Observation). true ≡ (is_some (observation_of number os) && not
    (is_cancelled number s)))
    k.none right in
    absurd (cc e)
after_alone s (Feeds now from bytes word up settled e sent token kept) none right k =
    let c : Call = Feeds now from bytes word up settled e sent token kept in
    let z = closes s c (max s.clock now) token
    (happened_alone (at now s) (max s.clock now) (moved_on s now k) e) in
    record { running = z.own.running; queue = z.own.queue; none = z.own.none }
after_alone s (Ticks now word below t sent token kept answer) none right k =
    let c : Call = Ticks now word below t sent token kept answer in
    let z = closes s c (max s.clock now) token (passes_alone (at now s) (max s.clock now) (moved_on s now k) t) in
    record { running = z.own.running; queue = z.own.queue; none = z.own.none }
after_alone s (NextReport answer) none right k = record { running = k.running; queue = k.queue; none = k.none }
after_alone s _ none right k = k

told : (o : Option Reported) → TellsCall o → (x : Reported) → o ≡ Some x → is_of_observation x.report ≡ false
told None h x is = absurd (cc is)
told (Some y) h x is =
    let same : y ≡ x = cc is in subst (λ (z : Reported). is_of_observation z.report ≡ false) same h

reports_alone : (s : Own) (c : Call) → Alone s → (x : Reported) → reports s c ≡ Some x
    → is_of_observation x.report ≡ false
reports_alone s (Feeds now from bytes word up settled e sent token kept) k x is =
    let c : Call = Feeds now from bytes word up settled e sent token kept in
    told (close (max s.clock now) (effect s c) token).report
    (closes s c (max s.clock now) token (happened_alone (at now s) (max s.clock now) (moved_on s now k) e)).report x is
reports_alone s (Ticks now word below t sent token kept answer) k x is =
    let c : Call = Ticks now word below t sent token kept answer in
    told (close (max s.clock now) (effect s c) token).report
    (closes s c (max s.clock now) token (passes_alone (at now s) (max s.clock now) (moved_on s now k) t)).report x is
reports_alone s _ k x is = absurd (cc is)

runs_call : (o : Option Operation) → RunsCall o → (op : Operation) → o ≡ Some op → is_call op ≡ true
runs_call None h op is = absurd (cc is)
runs_call (Some other) h op is = let same : other ≡ op = cc is in subst IsCall same h

module _ (sizes : Sizes) where
  alone_of : (t : List Call) → ClientRows sizes t → NoneIsTaken t → Alone (own_of sizes t)
  alone_of [] rows none = record { running = tt; queue = tt; none = refl }
  alone_of (c ∷ t) rows none = after_alone (own_of sizes t) c none.0 rows.0 (alone_of t rows.1 none.1)

  by_rows : (t : List Call) → ClientRows sizes t → NoneIsTaken t → Always (IsAlone sizes) t
  by_rows [] rows none = tt
  by_rows (c ∷ t) rows none =
      let k = alone_of t rows.1 none.1 in (
        record {
          runs = λ op is. runs_call (own_of sizes t).running k.running op is;
          tells = λ x is. reports_alone (own_of sizes t) c k x is;
        },
        by_rows t rows.1 none.1,
      )

pub calls_alone : (server : Endpoint) (sizes : Sizes) (setup : Setup) (t : List Call) → ClientLaw server sizes setup t
    → CallsAlone sizes t
calls_alone server sizes setup t law = λ none. by_rows sizes t law.rows none
