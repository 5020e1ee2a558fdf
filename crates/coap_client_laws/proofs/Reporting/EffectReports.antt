-- What the effects of a call report: how an exchange ends where it does, and else nothing of the kind.
use Rattle.std.proofs.Common.{◌≡◌, ℕ, Bool, true, false, cond, not, ◌&&◌, ◌==◌, Option, Some, None, List, [], ◌∷◌, ◌++◌}
use Rattle.std.proofs.Common.{refl, ap, sym, ◌∙◌, Result, Err}
use Rattle.coap_types.specs.declared.block.Block.{Block}
use Rattle.coap_types.specs.declared.option_number.TheConstants.{BLOCK1 as block1}
use Rattle.coap_types.specs.declared.request.Method.{Method}
use Rattle.coap_codec.specs.Message.{Message}
use Rattle.coap_block.specs.declared.fetch_step.FetchRefusal.{FetchRefusal}
use Rattle.coap_block.specs.declared.fetch_step.FetchRefusal.TheVariants as refusal
use Rattle.coap_block.specs.declared.fetch_verdict.Verdict.{Verdict}
use Rattle.coap_block.specs.declared.fetch_verdict.Verdict.TheVariants as verdict
use Rattle.coap_block.specs.FetchStep.{FetchState}
use Rattle.coap_block.specs.FetchStep as F
use Rattle.coap_block.specs.UploadStep.{UploadState, more_follows, moved, continues}
use Rattle.coap_observe.specs.Newer.{is_newer}
use Rattle.coap_exchange.specs.declared.asker.AskRefusal.{AskRefusal}
use Rattle.coap_client.specs.Trace.{Request, Report, Valid, Failed, Done, BadBlock, NoIds, Ended, Reported}
use Rattle.coap_client.specs.Own.{Transfer, Fetches, Uploads, Single, Operation, Calling, Registering, Fetching}
use Rattle.coap_client.specs.Own.{Cancelling, Dropped, Notified, Observation, Own}
use Rattle.coap_client.specs.Requests.{is_longer}
use Rattle.coap_client.specs.Responses.{content, valid, continue, tag_in, block_at, part, is_notification, sequence_in}
use Rattle.coap_client.specs.Reports.{refused, done, is_success}
use Rattle.coap_client.specs.Calls.{answer, has_tags}
use Rattle.coap_client.specs.Calls as calls
use Rattle.coap_client.specs.Effects.{Deed, Asks, Effect, runs, stays, ends, of, has_sent, Keeps}
use Rattle.coap_client.specs.Fetching.{value, fetch_by, fetch_answered}
use Rattle.coap_client.specs.Observations.{observation_with, rest_of}
use Rattle.coap_client.specs.Observing.{registered, renewed, passed, is_over, noticed, noticed_by, begun, first_value}
use Rattle.coap_client.specs.Events.{called, answered, failed, closed, starts, idle, is_held, is_upload_op}
use Rattle.coap_client_laws.proofs.Queueing.Closing.{Closing, quiet, goes_out, is_refused}
use Rattle.coap_client_laws.specs.Follows.Ends.{is_end, reported_of, report_to, Unsent, unsent_by}

-- the end of an exchange, or that none began
abbrev pub is_lapse : Report → Bool
is_lapse NoIds = true
is_lapse report = is_end report

abbrev pub lapse_in : Option Reported → Bool
lapse_in None = false
lapse_in (Some x) = is_lapse x.report

abbrev pub reported_in : Option Operation → Option ℕ
reported_in None = None
reported_in (Some op) = reported_of op

-- what fails is reported so, of what is reported so
pub failed_report : (u : Transfer → Bool) (report : Report) (s : Own) (running : Option Operation)
    → (failed u report s running).report ≡ report_to report (reported_in running)
failed_report u report s (Some (Calling k r t)) = refl
failed_report u report s _ = refl

pub reported_is : (report : Report) (o : Option ℕ) (x : Reported) → report_to report o ≡ Some x
    → (x.report ≡ report) × (o ≡ Some x.number)
reported_is report None x h = absurd (cc h)
reported_is report (Some n) x h =
    let same : ◌≡◌ {A = Reported} (record { number = n; report = report }) x = cc h in
    (sym (ap (λ (y : Reported). y.report) same), ap (λ (y : Reported). Some y.number) same)

-- an answer

refused_none : (why : FetchRefusal) → is_lapse (refused why) ≡ false
refused_none refusal.Changed = refl
refused_none _ = refl

abbrev next_lapse : calls.Next → Bool
next_lapse (calls.Asks t) = false
next_lapse (calls.Ends final report) = is_lapse report

next_if : (b : Bool) (x y : calls.Next) → next_lapse x ≡ false → next_lapse y ≡ false → next_lapse (cond b x y) ≡ false
next_if true x y h k = h
next_if false x y h k = k

done_none : (method : Method) (code : ℕ) → is_lapse (done method code) ≡ false
done_none method code = by (is_success method code)
  where
    by : (b : Bool) → is_lapse (cond b (Done code) (Failed code)) ≡ false
    by true = refl
    by false = refl

fetched_none : (f : FetchState) (m : Message) (v : Verdict) → next_lapse (calls.fetched f m v) ≡ false
fetched_none f m (verdict.Refuse why) = refused_none why
fetched_none f m _ = refl

continued_none : (u : UploadState) (o : Option Block) → next_lapse (calls.continued u o) ≡ false
continued_none u None = refl
continued_none u (Some b) = next_if (continues u b) (calls.Asks (Uploads (moved u b)))
    (calls.Ends false BadBlock) refl refl

answer_none : (r : Request) (t : Transfer) (m : Message) → next_lapse (answer r t m) ≡ false
answer_none r (Fetches f) m =
    next_if (m.code == content) (calls.fetched f m (part f m))
    (cond ((m.code == valid) && has_tags r.etags) (calls.Ends true (Valid (tag_in m)))
    (calls.Ends true (Failed m.code))) (fetched_none f m (part f m))
    (next_if ((m.code == valid) && has_tags r.etags) (calls.Ends true (Valid (tag_in m)))
    (calls.Ends true (Failed m.code)) refl refl)
answer_none r (Uploads u) m =
    next_if ((m.code == continue) && is_longer u) (calls.continued u (block_at block1 m))
    (cond (more_follows u && calls.is_below_errors m.code) (calls.Ends true BadBlock)
    (calls.Ends true (done r.method m.code))) (continued_none u (block_at block1 m))
    (next_if (more_follows u && calls.is_below_errors m.code) (calls.Ends true BadBlock)
    (calls.Ends true (done r.method m.code)) refl (done_none r.method m.code))
answer_none r Single m = done_none r.method m.code

called_none : (k : ℕ) (r : Request) (t : Transfer) (s : Own) (n : calls.Next) → next_lapse n ≡ false
    → lapse_in (called k r t s n).report ≡ false
called_none k r t s (calls.Asks next) h = refl
called_none k r t s (calls.Ends final report) h = h

value_none : (k sequence : ℕ) (f : FetchState) (m : Message) (v : Verdict) → lapse_in (value k sequence f m v) ≡ false
value_none k sequence f m (verdict.Refuse why) = refl
value_none k sequence f m _ = refl

fetch_none : (k : ℕ) (n : Notified) (s : Own) (m : Message) (v : Verdict) → lapse_in (fetch_by k n s m v).report ≡ false
fetch_none k n s m (verdict.Refuse why) = refl
fetch_none k n s m _ = refl

fetched_by_none : (k : ℕ) (o : Option Notified) (s : Own) (m : Message)
    → lapse_in (fetch_answered k o s m).report ≡ false
fetched_by_none k None s m = refl
fetched_by_none k (Some n) s m = fetch_none k n s m
    (cond (m.code == content) (part n.fetch m) (verdict.Refuse refusal.BadBlock))

effect_if : (b : Bool) (x y : Effect) → lapse_in x.report ≡ false → lapse_in y.report ≡ false
    → lapse_in (cond b x y).report ≡ false
effect_if true x y h k = h
effect_if false x y h k = k

registered_none : (k : ℕ) (path : List (List ℕ)) (s : Own) (now : ℕ) (m : Message)
    → lapse_in (registered k path s now m).report ≡ false
registered_none k path s now m =
    effect_if (is_notification m)
    (record {
      own = record s { running = None; observations = s.observations ++ begun k path s.sizes now m ∷ [] };
      report = first_value k s.sizes m;
      deed = Keeps m.token;
    })
    (ends (of k (Ended m.code)) s) (value_none k (sequence_in m) (F.start s.sizes 0) m
    (part (F.start s.sizes 0) m)) refl

pub answered_none : (s : Own) (now : ℕ) (m : Message) (running : Option Operation)
    → lapse_in (answered s now m running).report ≡ false
answered_none s now m (Some (Calling k r t)) = called_none k r t s (answer r t m) (answer_none r t m)
answered_none s now m (Some (Registering k path)) = registered_none k path s now m
answered_none s now m (Some (Fetching k)) = fetched_by_none k (rest_of k s.observations) s m
answered_none s now m _ = refl

-- a notification

noticed_by_none : (o : Option Observation) (s : Own) (now : ℕ) (m : Message)
    → lapse_in (noticed_by o s now m).report ≡ false
noticed_by_none None s now m = refl
noticed_by_none (Some o) s now m =
    effect_if (not (is_notification m)) (is_over o.number (Ended m.code) s)
    (cond (is_newer o.watch.mark (sequence_in m) now) (renewed o s now m) (stays (passed o s now m))) refl
    (effect_if (is_newer o.watch.mark (sequence_in m) now) (renewed o s now m) (stays (passed o s now m))
    (value_none o.number (sequence_in m) (F.start s.sizes 0) m (part (F.start s.sizes 0) m)) refl)

pub noticed_none : (s : Own) (now : ℕ) (m : Message) → lapse_in (noticed s now m).report ≡ false
noticed_none s now m = noticed_by_none (observation_with m.token s.observations) s now m

-- time that passes, and nothing ends

starts_none : (s : Own) (now : ℕ) (queue : List Operation) → lapse_in (starts s now queue).report ≡ false
starts_none s now [] = refl
starts_none s now (op ∷ queue) = effect_if (is_upload_op op && is_held s now) (stays s)
    (runs op (record s { queue = queue })) refl refl

pub idle_none : (s : Own) (now : ℕ) (running : Option Operation) (fetch : Option ℕ)
    → lapse_in (idle s now running fetch).report ≡ false
idle_none s now (Some op) fetch = refl
idle_none s now None (Some k) = refl
idle_none s now None None = starts_none s now s.queue

-- then the sending of the next request

-- the request that is asked for is not sent, and that is reported
pub record Refuses (e : Effect) (token : Result (List ℕ) AskRefusal) (x : Reported) : Type 0 where
  pub unsent : Unsent
  pub is : unsent_by e.deed token ≡ Some unsent
  pub report : x.report ≡ NoIds
  pub number : reported_of unsent.operation ≡ Some x.number

pub refuses_so : (now : ℕ) (e : Effect) (token : Result (List ℕ) AskRefusal) → Closing now e token
    → lapse_in e.report ≡ false → (x : Reported) → (closed now e e.deed token).report ≡ Some x
    → is_lapse x.report ≡ true → Refuses e token x
refuses_so now e token (quiet q none own_same report_same) h x is lapse =
    let same : lapse_in e.report ≡ true = ap lapse_in (sym report_same ∙ is) ∙ lapse in
    let both : false ≡ true = sym h ∙ same in
    absurd (cc both)
refuses_so now e token (goes_out op key asks given sends_it own_same report_same) h x is lapse = let none : None
    ≡ Some x = sym report_same ∙ is in absurd (cc none)
refuses_so now e token (is_refused op why asks given none all) h x is lapse =
    let k = reported_is NoIds (reported_of op) x
    (sym (failed_report has_sent NoIds e.own (Some op)) ∙ (sym (ap (λ (z : Effect). z.report) all) ∙ is)) in
    record {
      unsent = record { operation = op; why = why };
      is = ap (λ d. unsent_by d token) asks ∙ ap (unsent_by (Asks op)) given;
      report = k.0;
      number = k.1;
    }

unsent_is : (d : Deed) (token : Result (List ℕ) AskRefusal) (u : Unsent) → unsent_by d token ≡ Some u
    → (d ≡ Asks u.operation) × (token ≡ Err u.why)
unsent_is (Asks op) (Err why) u h = let same : ◌≡◌ {A = Unsent} (record { operation = op; why = why }) u =
    cc h in (ap (λ (z : Unsent). Asks z.operation) same, ap (λ (z : Unsent). Err z.why) same)
unsent_is _ _ u h = absurd (cc h)

pub unsent_asks : (e : Effect) (token : Result (List ℕ) AskRefusal) (u : Unsent) → unsent_by e.deed token ≡ Some u
    → (e.deed ≡ Asks u.operation) × (token ≡ Err u.why)
unsent_asks e token u h = unsent_is e.deed token u h

pub unsent_report : (now : ℕ) (e : Effect) (token : Result (List ℕ) AskRefusal) (u : Unsent)
    → unsent_by e.deed token ≡ Some u → (closed now e e.deed token).report ≡ report_to NoIds (reported_of u.operation)
unsent_report now e token u h =
    let k = unsent_is e.deed token u h in
    ap (λ d. (closed now e d token).report) k.0 ∙ (ap (λ z. (closed now e (Asks u.operation) z).report) k.1
    ∙ failed_report has_sent NoIds e.own (Some u.operation))
