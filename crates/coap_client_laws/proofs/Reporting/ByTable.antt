-- What is reported of a response is what the table of reports says.
use Rattle.std.proofs.Common.{◌≡◌, inl, inr, ℕ, max, Bool, true, false, cond, not, ◌&&◌, Option, Some, None, List, []}
use Rattle.std.proofs.Common.{◌∷◌, ◌++◌, refl, ap, sym, subst, ◌∙◌, Result, Ok, Err}
use Rattle.std.specs.Prelude.{◌==◌}
use Rattle.coap_types.specs.declared.endpoint.Endpoint.{Endpoint}
use Rattle.coap_codec.specs.Message.{Message}
use Rattle.coap_block.specs.Sizes.{Sizes}
use Rattle.coap_block.specs.declared.fetch_step.FetchRefusal.TheVariants as refusal
use Rattle.coap_block.specs.declared.fetch_verdict.Verdict.{Verdict}
use Rattle.coap_block.specs.declared.fetch_verdict.Verdict.TheVariants as verdict
use Rattle.coap_block.specs.FetchStep as F
use Rattle.coap_exchange.specs.declared.asker.AskRefusal.{AskRefusal}
use Rattle.coap_layer.specs.Trace as L
use Rattle.coap_layer.specs.declared.setup.Setup.{Setup}
use Rattle.coap_exchange.specs.declared.asker.Event.TheVariants as event_of
use Rattle.coap_exchange.specs.declared.asker.Turn.TheVariants as turn_is
use Rattle.coap_observe.specs.Newer.{is_newer}
use Rattle.coap_client.specs.Trace.{Request, Done, Value, Ended, Cancelled, BadBlock, Reported, Call, Calls, Observes}
use Rattle.coap_client.specs.Trace.{Cancels, Forgets, Feeds, Ticks, NextOut, NextReport, Asked}
use Rattle.coap_client.specs.Trace as R
use Rattle.coap_client.specs.Own.{Transfer, Fetches, Uploads, Single, Operation, Calling, Registering, Fetching}
use Rattle.coap_client.specs.Own.{Cancelling, Dropped, Notified, Observation, Own}
use Rattle.coap_client.specs.Observations.{rest_of, observation_of, observation_with, to_fetch}
use Rattle.coap_client.specs.Responses.{content, tag_in, format_in, sequence_in, part, is_notification}
use Rattle.coap_client.specs.Reports.{is_success}
use Rattle.coap_client.specs.Calls.{answer}
use Rattle.coap_client.specs.Calls as calls
use Rattle.coap_client.specs.Effects.{Effect, Asks, Keeps, stays, runs, ends, of}
use Rattle.coap_client.specs.Fetching.{value, fetch_by, fetch_answered}
use Rattle.coap_client.specs.Observing.{begun, first_value, is_over, registered, renewed, passed, noticed_by}
use Rattle.coap_client.specs.Events.{called, cancel_over, answered, idle, is_held, is_upload_op, starts}
use Rattle.coap_client.specs.Deeds.{at, close}
use Rattle.coap_client.specs.Steps.{reports}
use Rattle.coap_client.specs.Law.{ClientLaw, own_of}
use Rattle.coap_client_laws.specs.Follows.Clock.{moment_of}
use Rattle.coap_client_laws.specs.Follows.Ends.{ends_as, unsent_by, unsent}
use Rattle.coap_client_laws.specs.Follows.Notified.{notes}
use Rattle.coap_client_laws.specs.Follows.Table.{line, first_of, is_whole, notified_lines, fetched_lines, answer_lines}
use Rattle.coap_client_laws.specs.Follows.Table.{number_in, reported_as, ReportsByTable}
use Rattle.coap_client.specs.Sendings.{hears}
use Rattle.coap_client_laws.proofs.Queueing.Closing.{Closing, quiet, goes_out, is_refused}
use Rattle.coap_client_laws.proofs.Hearing.HeardRuns.{fed_came, ticked_turn}
use Rattle.coap_client.proofs.Facts.Places.Once.{beneath}
use Rattle.coap_client_laws.proofs.Reporting.ExchangeEnds.{released, ByTime, ended_by}
use Rattle.coap_client.proofs.Facts.Turning.Leading.{client_back}
use Rattle.coap_client_laws.proofs.Turning.Turns.{closing}
use Rattle.coap_client_laws.proofs.Sending.OfCalls.{size_is}
use Rattle.coap_client_laws.proofs.Reporting.TableLines.{report_in, got_lines, sent_lines, single_so}

-- a representation that a notification brings

notified_by : (k sequence : ℕ) (sizes : Sizes) (m : Message) (v : Verdict)
    → value k sequence (F.start sizes 0) m v
    ≡ reported_as k (first_of (line (true && (true && is_whole v)) (Value sequence (tag_in m) (format_in m) m.payload)
    ∷ line false (Ended m.code) ∷ []))
notified_by k sequence sizes m verdict.Done = refl
notified_by k sequence sizes m _ = refl

module _ (i : ℕ) (token : Result (List ℕ) AskRefusal) where
  abbrev reported : Effect → Option Reported
  reported e = (close i e token).report

  abbrev sent : Effect → Type 0
  sent e = unsent_by e.deed token ≡ None

  call_reports : (k : ℕ) (r : Request) (t : Transfer) (s : Own) (next : calls.Next) → sent (called k r t s next)
      → reported (called k r t s next) ≡ reported_as k (report_in next)
  call_reports k r t s (calls.Ends final report) none = refl
  call_reports k r t s (calls.Asks next) none = by token none
    where
      by : (z : Result (List ℕ) AskRefusal) → unsent_by (called k r t s (calls.Asks next)).deed z ≡ None
          → (close i (called k r t s (calls.Asks next)) z).report ≡ None
      by (Ok key) none = refl
      by (Err why) none = absurd (cc none)

  registered_reports : (k : ℕ) (path : List (List ℕ)) (s : Own) (now : ℕ) (sizes : Sizes) (m : Message)
      → s.sizes ≡ sizes
      → reported (registered k path s now m) ≡ reported_as k (first_of (notified_lines sizes true m))
  registered_reports k path s now sizes m same = by (is_notification m)
    where
      by : (b : Bool) → reported (cond b (record {
        own =
            record s { running = None; observations = s.observations ++ begun k path s.sizes now m ∷ [] };
        report = first_value k s.sizes m;
        deed = Keeps m.token;
      }) (ends (of k (Ended m.code)) s))
          ≡ reported_as k (first_of (line (b && (true && is_whole (part (F.start sizes 0) m)))
          (Value (sequence_in m) (tag_in m) (format_in m) m.payload) ∷ line (not b) (Ended m.code) ∷ []))
      by true = ap (λ z. first_value k z m) same ∙ notified_by k (sequence_in m) sizes m (part (F.start sizes 0) m)
      by false = refl

  fetch_by_reports : (k : ℕ) (n : Notified) (s : Own) (m : Message) (b : Bool) (v : Verdict)
      → sent (fetch_by k n s m (cond b v (verdict.Refuse refusal.BadBlock)))
      → reported (fetch_by k n s m (cond b v (verdict.Refuse refusal.BadBlock)))
      ≡ reported_as k (first_of (line (b && is_whole v)
      (Value n.sequence (tag_in m) (format_in m) (n.fetch.gathered ++ m.payload)) ∷ []))
  fetch_by_reports k n s m true (verdict.Ask num size) none = by token none
    where
      by : (z : Result (List ℕ) AskRefusal) → unsent_by (fetch_by k n s m (verdict.Ask num size)).deed z ≡ None
          → (close i (fetch_by k n s m (verdict.Ask num size)) z).report ≡ None
      by (Ok key) none = refl
      by (Err why) none = absurd (cc none)
  fetch_by_reports k n s m _ _ none = refl

  fetch_reports : (k : ℕ) (o : Option Notified) (s : Own) (m : Message) → sent (fetch_answered k o s m)
      → reported (fetch_answered k o s m) ≡ reported_as k (first_of (fetched_lines o m))
  fetch_reports k None s m none = refl
  fetch_reports k (Some n) s m none = fetch_by_reports k n s m (m.code == content) (part n.fetch m) none

  -- the answer to the request of an operation
  answer_reports : (sizes : Sizes) (s : Own) (m : Message) (op : Operation) → s.sizes ≡ sizes
      → sent (answered s i m (Some op))
      → reported (answered s i m (Some op))
      ≡ reported_as (number_in op) (first_of (answer_lines sizes s.observations op m))
  answer_reports sizes s m (Calling k r (Fetches f)) same none =
      call_reports k r (Fetches f) s (answer r (Fetches f) m) none ∙ ap (reported_as k) (got_lines r f m)
  answer_reports sizes s m (Calling k r (Uploads u)) same none =
      call_reports k r (Uploads u) s (answer r (Uploads u) m) none ∙ ap (reported_as k) (sent_lines r.method u m)
  answer_reports sizes s m (Calling k r Single) same none =
      call_reports k r Single s (answer r Single m) none
      ∙ ap (reported_as k) (single_so m.code (is_success r.method m.code))
  answer_reports sizes s m (Registering k path) same none = registered_reports k path s i sizes m same
  answer_reports sizes s m (Fetching k) same none = fetch_reports k (rest_of k s.observations) s m none
  answer_reports sizes s m (Cancelling k) same none =
      released i (cancel_over k Cancelled s) (observation_of k s.observations) token
  answer_reports sizes s m Dropped same none = refl

  -- a notification
  notice_by : (sizes : Sizes) (s : Own) (m : Message) (o : Observation) (b c : Bool) → s.sizes ≡ sizes
      → reported (cond (not b) (is_over o.number (Ended m.code) s)
      (cond c (renewed o s i m) (stays (passed o s i m))))
      ≡ reported_as o.number (first_of (line (b && (c && is_whole (part (F.start sizes 0) m)))
      (Value (sequence_in m) (tag_in m) (format_in m) m.payload) ∷ line (not b) (Ended m.code) ∷ []))
  notice_by sizes s m o false c same = released i (is_over o.number (Ended m.code) s)
      (observation_of o.number s.observations) token
  notice_by sizes s m o true true same = ap (λ z. first_value o.number z m) same
      ∙ notified_by o.number (sequence_in m) sizes m (part (F.start sizes 0) m)
  notice_by sizes s m o true false same = refl

  notice_reports : (sizes : Sizes) (s : Own) (m : Message) (o : Observation) → s.sizes ≡ sizes
      → reported (noticed_by (Some o) s i m)
      ≡ reported_as o.number (first_of (notified_lines sizes (is_newer o.watch.mark (sequence_in m) i) m))
  notice_reports sizes s m o same =
      notice_by sizes s m o (is_notification m) (is_newer o.watch.mark (sequence_in m) i) same

module _ (sizes : Sizes) (t : List Call) where
  abbrev Answers : Call → Type 0
  Answers c = (m : Message) (op : Operation) → hears c ≡ Some m → (own_of sizes t).running ≡ Some op
      → unsent (own_of sizes t) c ≡ None
      → reports (own_of sizes t) c
      ≡ reported_as (number_in op) (first_of (answer_lines sizes (own_of sizes t).observations op m))

  abbrev Notes : Call → Type 0
  Notes c = (m : Message) (o : Observation) → notes c ≡ Some m
      → observation_with m.token (own_of sizes t).observations ≡ Some o
      → reports (own_of sizes t) c ≡ reported_as o.number (first_of (notified_lines sizes
      (is_newer o.watch.mark (sequence_in m) (moment_of (own_of sizes t) c)) m))

  answer_here : (c : Call) → Answers c
  answer_here (Feeds now from bytes w up settled (Some (event_of.Answer a)) sent token was) m op heard runs none =
      let s : Own = own_of sizes t in
      let i : ℕ = max s.clock now in
      let same : a ≡ m = cc heard in
      subst (λ (y : Message). reports s (Feeds now from bytes w up settled (Some (event_of.Answer a)) sent token was)
      ≡ reported_as (number_in op) (first_of (answer_lines sizes s.observations op y))) same
      (subst (λ o. unsent_by (answered (at now s) i a o).deed token ≡ None
      → (close i (answered (at now s) i a o) token).report
      ≡ reported_as (number_in op) (first_of (answer_lines sizes s.observations op a))) (sym runs)
      (answer_reports i token sizes (at now s) a op (size_is sizes t)) none)
  answer_here _ m op heard runs none = absurd (cc heard)

  notice_here : (c : Call) → Notes c
  notice_here (Feeds now from bytes w up settled (Some (event_of.Notice a)) sent token was) m o noted found =
      let s : Own = own_of sizes t in
      let i : ℕ = max s.clock now in
      let same : m ≡ a = cc noted in
      ap (λ (y : Message). reports s (Feeds now from bytes w up settled (Some (event_of.Notice y)) sent token was))
      (sym same)
      ∙ (ap (λ x. (close i (noticed_by x (at now s) i m) token).report) found
      ∙ notice_reports i token sizes (at now s) m o (size_is sizes t))
  notice_here _ m o noted found = absurd (cc noted)

-- nothing else is reported

report_none : (i : ℕ) (e : Effect) (token : Result (List ℕ) AskRefusal) → e.report ≡ None
    → unsent_by e.deed token ≡ None → (close i e token).report ≡ None
report_none i e token none sent = by (closing i e token)
  where
    by : Closing i e token → (close i e token).report ≡ None
    by (quiet q nothing own_same report_same) = report_same ∙ none
    by (goes_out op key asks given sends_it own_same report_same) = report_same
    by (is_refused op why asks given nothing all) =
        let wants : unsent_by e.deed token ≡ Some (record { operation = op; why = why }) =
        ap (λ d. unsent_by d token) asks ∙ ap (unsent_by (Asks op)) given in
        let z : None ≡ Some (record { operation = op; why = why }) = sym sent ∙ wants in
        absurd (cc z)

starts_none : (s : Own) (i : ℕ) (queue : List Operation) → (starts s i queue).report ≡ None
starts_none s i [] = refl
starts_none s i (op ∷ queue) = by (is_upload_op op && is_held s i)
  where
    by : (b : Bool) → (cond b (stays s) (runs op (record s { queue = queue }))).report ≡ None
    by true = refl
    by false = refl

idle_none : (s : Own) (i : ℕ) (running : Option Operation) (fetch : Option ℕ) → (idle s i running fetch).report ≡ None
idle_none s i (Some op) fetch = refl
idle_none s i None (Some k) = refl
idle_none s i None None = starts_none s i s.queue

module _ (sizes : Sizes) (server : Endpoint) (setup : Setup) (t : List Call) where
  abbrev ReportsNone : Call → Type 0
  ReportsNone c = ((m : Message) → hears c ≡ Some m → (own_of sizes t).running ≡ None)
      → ((m : Message) → notes c ≡ Some m → observation_with m.token (own_of sizes t).observations ≡ None)
      → ends_as c ≡ None → unsent (own_of sizes t) c ≡ None → reports (own_of sizes t) c ≡ None

  time_ends : (now w : ℕ) (below : L.Answer) (e : _) (sent : L.Answer) (token : Result (List ℕ) AskRefusal)
      (was did : Bool) → ByTime e → ends_as (Ticks now w below (turn_is.End e) sent token was did) ≡ None → ⊥
  time_ends now w below e sent token was did (inl is) none =
      let z : Some R.Timeout ≡ None =
      ap (λ x. ends_as (Ticks now w below (turn_is.End x) sent token was did)) (sym is) ∙ none in cc z
  time_ends now w below e sent token was did (inr is) none =
      let z : Some R.NoResponse ≡ None =
      ap (λ x. ends_as (Ticks now w below (turn_is.End x) sent token was did)) (sym is) ∙ none in cc z

  none_here : (c : Call) → ClientLaw server sizes setup (c ∷ t) → ReportsNone c
  none_here (Feeds now from bytes w up settled (Some (event_of.Answer a)) sent token was) law heard noted ends_so none =
      let i : ℕ = max (own_of sizes t).clock now in
      ap (λ op. (close i (answered (at now (own_of sizes t)) i a op) token).report) (heard a refl)
  none_here (Feeds now from bytes w up settled (Some (event_of.Notice a)) sent token was) law heard noted ends_so none =
      let i : ℕ = max (own_of sizes t).clock now in
      ap (λ o. (close i (noticed_by o (at now (own_of sizes t)) i a) token).report) (noted a refl)
  none_here (Feeds now from bytes w up settled (Some event_of.Reset) sent token was) law heard noted ends_so none =
      absurd (cc ends_so)
  none_here (Feeds now from bytes w up settled (Some event_of.Timeout) sent token was) law heard noted ends_so none =
      absurd (fed_came sizes server setup t now from bytes w up settled (Some event_of.Timeout) sent token was
      law.exchanges.rows)
  none_here (Feeds now from bytes w up settled (Some event_of.NoResponse) sent token was) law heard noted ends_so none =
      absurd (fed_came sizes server setup t now from bytes w up settled (Some event_of.NoResponse) sent token was
      law.exchanges.rows)
  none_here (Ticks now w below turn_is.Idle sent token was did) law heard noted ends_so none =
      let s : Own = at now (own_of sizes t) in
      let i : ℕ = max (own_of sizes t).clock now in
      report_none i (idle s i s.running (to_fetch s.observations)) token
      (idle_none s i s.running (to_fetch s.observations)) none
  none_here (Ticks now w below (turn_is.End e) sent token was did) law heard noted ends_so none =
      let b = beneath server sizes setup t in
      let ended = ended_by b (max b.clock (max (own_of sizes t).clock now)) below e
      (ticked_turn sizes server setup t now w below (turn_is.End e) sent token was did law.exchanges.rows) in
      absurd (time_ends now w below e sent token was did ended.by_time ends_so)
  none_here _ law heard noted ends_so none = refl

pub reports_by_table : (server : Endpoint) (sizes : Sizes) (setup : Setup) (t : List Call)
    → ClientLaw server sizes setup t
    → ReportsByTable sizes t
reports_by_table server sizes setup [] law = tt
reports_by_table server sizes setup (c ∷ t) law = (
  record {
    answer = answer_here sizes t c;
    notice = notice_here sizes t c;
    none = none_here sizes server setup t c law;
  },
  reports_by_table server sizes setup t (client_back server sizes setup (c ∷ []) t law),
)
