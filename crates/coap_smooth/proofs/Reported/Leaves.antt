-- What a call of a client leaves of what waits and of what runs, where nothing is observed, each exchange ends by its
-- answer, each request is sent and no block of an upload is bad.
use Rattle.std.proofs.Common.{◌≡◌, ◌⊎◌, inl, inr, ℕ, max, Bool, true, false, cond, not, ◌&&◌, Option, Some, None}
use Rattle.std.proofs.Common.{is_some, List, [], ◌∷◌}
use Rattle.std.proofs.Common.{◌++◌, refl, ap, sym, ◌∙◌, Result, Ok, Err}
use Rattle.std.proofs.lemmas.List.{append-nil}
use Rattle.std.specs.Prelude.{◌==◌}
use Rattle.coap_types.specs.declared.block.Block.{Block}
use Rattle.coap_types.specs.declared.option_number.TheConstants.{BLOCK1 as block1}
use Rattle.coap_codec.specs.Message.{Message}
use Rattle.coap_block.specs.Sizes.{Sizes}
use Rattle.coap_block.specs.FetchStep.{FetchState}
use Rattle.coap_block.specs.UploadStep.{UploadState, more_follows, continues, moved}
use Rattle.coap_block.specs.declared.fetch_verdict.Verdict.{Verdict}
use Rattle.coap_block.specs.declared.fetch_verdict.Verdict.TheVariants as verdict
use Rattle.coap_exchange.specs.declared.asker.AskRefusal.{AskRefusal}
use Rattle.coap_exchange.specs.declared.asker.Event.{Event}
use Rattle.coap_exchange.specs.declared.asker.Event.TheVariants as event
use Rattle.coap_exchange.specs.declared.asker.Turn.TheVariants as turn
use Rattle.coap_client.specs.Calls as calls
use Rattle.coap_client.specs.Calls.{Next, answer, got, fetched, continued, has_tags, is_below_errors}
use Rattle.coap_client.specs.Deeds.{at}
use Rattle.coap_client.specs.Effects.{Asks, Effect, stays, runs, ends, of}
use Rattle.coap_client.specs.Events.{called, answered, failed, happened, passes, is_held, is_upload_op, starts, idle}
use Rattle.coap_client.specs.Events.{closed}
use Rattle.coap_client_laws.specs.Follows.CallsAlone.{TakesNoObservation, is_of_observation, is_call, IsAlone}
use Rattle.coap_client_laws.specs.Follows.Ends.{ends_as, is_end, Unsent, unsent, unsent_by}
use Rattle.coap_client.specs.Sendings.{Sending, sends, sent_by, hears}
use Rattle.coap_client.specs.Law.{own_of}
use Rattle.coap_client.specs.Observations.{observation_of, observation_with, is_cancelled, to_fetch}
use Rattle.coap_client.specs.Observing.{noticed_by}
use Rattle.coap_client.specs.Own.{Transfer, Fetches, Uploads, Single, Operation, Calling, Cancelling, Observation, Own}
use Rattle.coap_client.specs.Queue.{calling}
use Rattle.coap_client.specs.Reports.{lapse, done}
use Rattle.coap_client.specs.Requests.{is_longer, message_of}
use Rattle.coap_client.specs.Responses.{content, valid, continue, tag_in, block_at, part}
use Rattle.coap_client.specs.Steps.{IsRight, reports, reporting, requested, asking}
use Rattle.coap_client.specs.Trace as R
use Rattle.coap_client.specs.Trace.{Request, Requested, Report, Reported, BadBlock, is_value, Call, Calls, Observes}
use Rattle.coap_client.specs.Trace.{Cancels}
use Rattle.coap_client.specs.Trace.{Forgets, Feeds, Ticks, NextOut, NextReport, Asked}

-- nothing is observed, and no upload is held back
pub record Plain (s : Own) : Type 0 where
  pub none : s.observations ≡ []
  pub hold : s.hold ≡ None

pub data Leaves (sizes : Sizes) (past : List Call) (c : Call) : Type 0 where
  -- nothing is sent or over
  same : (more : List Operation) → (own_of sizes (c ∷ past)).queue ≡ (own_of sizes past).queue ++ more
      → (own_of sizes (c ∷ past)).running ≡ (own_of sizes past).running → sends (own_of sizes past) c ≡ None
      → ((own_of sizes past).running ≡ None) ⊎ (hears c ≡ None) → Leaves sizes past c
  -- the first that waits begins
  begins : (op : Operation) (x : Sending) → (own_of sizes past).running ≡ None
      → (own_of sizes past).queue ≡ op ∷ (own_of sizes (c ∷ past)).queue
      → (own_of sizes (c ∷ past)).running ≡ Some op → sends (own_of sizes past) c ≡ Some x → Leaves sizes past c
  -- a call is answered, and goes on; it is over
  goes_on : (number : ℕ) (r : Request) (t next : Transfer) (x : Sending) (m : Message)
      → (own_of sizes past).running ≡ Some (Calling number r t)
      → (own_of sizes (c ∷ past)).queue ≡ (own_of sizes past).queue
      → (own_of sizes (c ∷ past)).running ≡ Some (Calling number r next) → sends (own_of sizes past) c ≡ Some x
      → hears c ≡ Some m → Leaves sizes past c
  is_over : (number : ℕ) (r : Request) (t : Transfer) (report : Report)
      → (own_of sizes past).running ≡ Some (Calling number r t)
      → (own_of sizes (c ∷ past)).queue ≡ (own_of sizes past).queue → sends (own_of sizes past) c ≡ None
      → reports (own_of sizes past) c ≡ of number report → is_value report ≡ false
      → (own_of sizes (c ∷ past)).running ≡ None → Leaves sizes past c

pub record Left (sizes : Sizes) (past : List Call) (c : Call) : Type 0 where
  pub leaves : Leaves sizes past c
  pub plain : Plain (own_of sizes (c ∷ past))

-- how the call is made
pub record Quietly (sizes : Sizes) (past : List Call) (c : Call) : Type 0 where
  pub right : IsRight (own_of sizes past) c
  pub none : TakesNoObservation c
  pub alone : IsAlone sizes past c
  pub by_answer : ends_as c ≡ None
  pub only : (x : Reported) → reports (own_of sizes past) c ≡ Some x → is_end x.report ≡ true
      → ends_as c ≡ Some x.report
  pub sent : (u : Unsent) → unsent (own_of sizes past) c ≡ Some u → ⊥
  pub no_bad : (number : ℕ) (r : Request) (u : UploadState) → (own_of sizes past).running
      ≡ Some (Calling number r (Uploads u))
      → reports (own_of sizes past) c ≡ of number BadBlock → ⊥

-- a report of no observation is the last one
last_of : (report : Report) → is_of_observation report ≡ false → is_value report ≡ false
last_of (R.Value sequence tag format body) h = absurd (cc h)
last_of _ h = refl

-- An answer that is no final response is that a block is bad.

pub record IsBad (t : Transfer) (report : Report) : Type 0 where
  pub upload : UploadState
  pub is : t ≡ Uploads upload
  pub bad : report ≡ BadBlock

abbrev BadIfNot : Transfer → Next → Type 0
BadIfNot t (calls.Asks next) = Unit {0}
BadIfNot t (calls.Ends true report) = Unit {0}
BadIfNot t (calls.Ends false report) = IsBad t report

bad_if : (t : Transfer) (b : Bool) (x y : Next) → BadIfNot t x → BadIfNot t y → BadIfNot t (cond b x y)
bad_if t true x y h k = h
bad_if t false x y h k = k

fetched_bad : (t : Transfer) (f : FetchState) (m : Message) (v : Verdict) → BadIfNot t (fetched f m v)
fetched_bad t f m (verdict.Refuse why) = tt
fetched_bad t f m verdict.Done = tt
fetched_bad t f m verdict.Again = tt
fetched_bad t f m (verdict.Ask num szx) = tt

continued_bad : (u : UploadState) (o : Option Block) → BadIfNot (Uploads u) (continued u o)
continued_bad u None = record { upload = u; is = refl; bad = refl }
continued_bad u (Some b) = bad_if (Uploads u) (continues u b) (calls.Asks (Uploads (moved u b)))
    (calls.Ends false BadBlock) tt (record { upload = u; is = refl; bad = refl })

answer_bad : (r : Request) (t : Transfer) (m : Message) → BadIfNot t (answer r t m)
answer_bad r (Fetches f) m =
    bad_if (Fetches f) (m.code == content) (fetched f m (part f m)) (cond ((m.code == valid) && has_tags r.etags)
    (calls.Ends true (R.Valid (tag_in m))) (calls.Ends true (R.Failed m.code))) (fetched_bad (Fetches f) f m (part f m))
    (bad_if (Fetches f) ((m.code == valid) && has_tags r.etags) (calls.Ends true (R.Valid (tag_in m)))
    (calls.Ends true (R.Failed m.code)) tt tt)
answer_bad r (Uploads u) m =
    bad_if (Uploads u) ((m.code == continue) && is_longer u) (continued u (block_at block1 m))
    (cond (more_follows u && is_below_errors m.code) (calls.Ends true BadBlock)
    (calls.Ends true (done r.method m.code))) (continued_bad u (block_at block1 m))
    (bad_if (Uploads u) (more_follows u && is_below_errors m.code) (calls.Ends true BadBlock)
    (calls.Ends true (done r.method m.code)) tt tt)
answer_bad r Single m = tt

-- what runs is a call
record Calls_it (op : Operation) : Type 0 where
  number : ℕ
  request : Request
  transfer : Transfer
  is : op ≡ Calling number request transfer

calls_it : (op : Operation) → is_call op ≡ true → Calls_it op
calls_it (Calling number r t) h = record { number = number; request = r; transfer = t; is = refl }
calls_it _ h = absurd (cc h)

-- a failure of the exchanges is an end
lapse_ends : (e : Event) → is_end (lapse e) ≡ true
lapse_ends event.Timeout = refl
lapse_ends event.Reset = refl
lapse_ends _ = refl

module _ (sizes : Sizes) (past : List Call) (c : Call) (q : Quietly sizes past c) (plain : Plain (own_of sizes past))
  where
    abbrev s : Own
    s = own_of sizes past

    -- what a datagram or a tick makes of it, and then the sending of the request that is asked for
    module _ (m : ℕ) (token : Result (List ℕ) AskRefusal) (request : Option Requested) (e : Effect)
        (own_is : own_of sizes (c ∷ past) ≡ asking request (reporting (closed m e e.deed token)))
        (sends_is : sends (own_of sizes past) c ≡ sent_by e e.deed token)
        (unsent_is : unsent (own_of sizes past) c ≡ unsent_by e.deed token)
        (reports_is : reports (own_of sizes past) c ≡ (closed m e e.deed token).report) where
      abbrev leaves_own : Effect → Own
      leaves_own z = asking request (reporting (closed m z z.deed token))

      stays_so : (o : Own) → e ≡ stays o → o.queue ≡ s.queue → o.running ≡ s.running → Plain o
          → (s.running ≡ None) ⊎ (hears c ≡ None) → Left sizes past c
      stays_so o is queue running k quiet =
          let own = own_is ∙ ap leaves_own is in
          record {
            leaves = same [] (ap (λ (z : Own). z.queue) own ∙ (queue ∙ sym (append-nil s.queue)))
                (ap (λ (z : Own). z.running) own ∙ running)
                (sends_is ∙ ap (λ (z : Effect). sent_by z z.deed token) is) quiet;
            plain = record {
              none = ap (λ (z : Own). z.observations) own ∙ k.none;
              hold = ap (λ (z : Own). z.hold) own ∙ k.hold;
            };
          }

      -- a request goes out
      record Went (op : Operation) (o : Own) : Type 0 where
        sending : Sending
        sends_it : sends s c ≡ Some sending
        queue : (own_of sizes (c ∷ past)).queue ≡ o.queue
        running : (own_of sizes (c ∷ past)).running ≡ Some op
        keeps : Plain o → Plain (own_of sizes (c ∷ past))

      went : (op : Operation) (o : Own) → e ≡ runs op o → (t : Result (List ℕ) AskRefusal) → token ≡ t → Went op o
      went op o is (Ok key) given =
          let own : own_of sizes (c ∷ past) ≡ asking request (reporting (closed m (runs op o) (Asks op) (Ok key))) =
          own_is ∙ (ap leaves_own is
          ∙ ap (λ (t : Result (List ℕ) AskRefusal). asking request (reporting (closed m (runs op o) (Asks op) t)))
          given) in
          record {
            sending = record { operation = op; token = key; request = message_of (runs op o).own.observations op };
            sends_it = sends_is ∙ (ap (λ (z : Effect). sent_by z z.deed token) is
                ∙ ap (λ (t : Result (List ℕ) AskRefusal). sent_by (runs op o) (Asks op) t) given);
            queue = ap (λ (z : Own). z.queue) own;
            running = ap (λ (z : Own). z.running) own;
            keeps = λ k. record {
              none = ap (λ (z : Own). z.observations) own ∙ k.none;
              hold = ap (λ (z : Own). z.hold) own ∙ k.hold;
            };
          }
      went op o is (Err why) given =
          absurd (q.sent (record { operation = op; why = why })
          (unsent_is ∙ (ap (λ (z : Effect). unsent_by z.deed token) is
          ∙ ap (λ (t : Result (List ℕ) AskRefusal). unsent_by (Asks op) t) given)))

      -- what runs is over
      ends_so : (number : ℕ) (r : Request) (t : Transfer) (report : Report) (o : Own) → e ≡ ends (of number report) o
          → s.running ≡ Some (Calling number r t) → o.queue ≡ s.queue → Plain o → Left sizes past c
      ends_so number r t report o is running queue k =
          let own = own_is ∙ ap leaves_own is in
          let made : reports s c ≡ of number report =
          reports_is ∙ ap (λ (z : Effect). (closed m z z.deed token).report) is in
          record {
            leaves = is_over number r t report running (ap (λ (z : Own). z.queue) own ∙ queue)
                (sends_is ∙ ap (λ (z : Effect). sent_by z z.deed token) is) made
                (last_of report (q.alone.tells (record { number = number; report = report }) made))
                (ap (λ (z : Own). z.running) own);
            plain = record {
              none = ap (λ (z : Own). z.observations) own ∙ k.none;
              hold = ap (λ (z : Own). z.hold) own ∙ k.hold;
            };
          }

      -- a failure is told by none
      fails_so : (report : Report) → is_end report ≡ true → (o : Own) → o.queue ≡ s.queue → o.running ≡ s.running
          → Plain o
          → (x : Option Operation) → s.running ≡ x → e ≡ failed (λ t. true) report o x → Left sizes past c
      fails_so report end o queue running k None none is = stays_so o is queue running k (inl none)
      fails_so report end o queue running k (Some op) run is =
          let w = calls_it op (q.alone.runs op run) in
          let made : reports s c ≡ of w.number report =
          reports_is ∙ ap (λ (z : Effect). (closed m z z.deed token).report)
          (is ∙ ap (λ (z : Operation). failed (λ t. true) report o (Some z)) w.is) in
          let told = sym q.by_answer ∙ q.only (record { number = w.number; report = report }) made end in
          absurd (cc told)

      -- the answer to a call
      called_so : (number : ℕ) (r : Request) (t : Transfer) (o : Own) (a : Message) → o.queue ≡ s.queue → Plain o
          → s.running ≡ Some (Calling number r t) → hears c ≡ Some a → (next : Next) → BadIfNot t next
          → e ≡ called number r t o next → Left sizes past c
      called_so number r t o a queue k run heard (calls.Asks next) bad is =
          let w = went (Calling number r next) o is token refl in
          record {
            leaves = goes_on number r t next w.sending a run (w.queue ∙ queue) w.running w.sends_it heard;
            plain = w.keeps k;
          }
      called_so number r t o a queue k run heard (calls.Ends true report) bad is =
          ends_so number r t report o is run queue k
      called_so number r t o a queue k run heard (calls.Ends false report) bad is =
          absurd (q.no_bad number r bad.upload (run ∙ ap (λ z. Some (Calling number r z)) bad.is)
          (reports_is ∙ (ap (λ (z : Effect). (closed m z z.deed token).report) is ∙ ap (of number) bad.bad)))

      answered_so : (now : ℕ) (o : Own) (a : Message) → o.queue ≡ s.queue → o.running ≡ s.running → Plain o
          → hears c ≡ Some a → (x : Option Operation) → s.running ≡ x → e ≡ answered o now a x → Left sizes past c
      answered_so now o a queue running k heard None run is = stays_so o is queue running k (inl run)
      answered_so now o a queue running k heard (Some op) run is =
          let w = calls_it op (q.alone.runs op run) in
          called_so w.number w.request w.transfer o a queue k (run ∙ ap (λ (z : Operation). Some z) w.is) heard
          (answer w.request w.transfer a) (answer_bad w.request w.transfer a)
          (is ∙ ap (λ (z : Operation). answered o now a (Some z)) w.is)

      -- the first that waits begins at a tick, or nothing does
      starts_so : (now : ℕ) (o : Own) → o.queue ≡ s.queue → o.running ≡ s.running → Plain o → s.running ≡ None
          → (ops : List Operation) → s.queue ≡ ops → e ≡ starts o now ops → Left sizes past c
      starts_so now o queue running k none [] first is = stays_so o is queue running k (inl none)
      starts_so now o queue running k none (op ∷ ops) first is = by (is_upload_op op && is_held o now) is
        where
          by : (b : Bool) → e ≡ cond b (stays o) (runs op (record o { queue = ops })) → Left sizes past c
          by true h = stays_so o h queue running k (inl none)
          by false h =
              let w = went op (record o { queue = ops }) h token refl in
              record {
                leaves = begins op w.sending none (first ∙ ap (λ l. op ∷ l) (sym w.queue)) w.running w.sends_it;
                plain = w.keeps (record { none = k.none; hold = k.hold });
              }

      idles_so : (now : ℕ) (o : Own) → o.queue ≡ s.queue → o.running ≡ s.running → Plain o → hears c ≡ None
          → (x : Option Operation) → s.running ≡ x → e ≡ idle o now x (to_fetch o.observations) → Left sizes past c
      idles_so now o queue running k quiet (Some op) run is = stays_so o is queue running k (inr quiet)
      idles_so now o queue running k quiet None run is =
          starts_so now o queue running k run o.queue (sym queue)
          (is ∙ ap (λ (os : List Observation). idle o now None (to_fetch os)) k.none)

      -- a notification is of none
      notes_so : (now : ℕ) (o : Own) (a : Message) → o.queue ≡ s.queue → o.running ≡ s.running → Plain o → hears c ≡ None
          → e ≡ noticed_by (observation_with a.token o.observations) o now a → Left sizes past c
      notes_so now o a queue running k quiet is =
          stays_so o (is ∙ ap (λ (os : List Observation). noticed_by (observation_with a.token os) o now a) k.none) queue
          running k (inr quiet)

-- what each call leaves

at_plain : (now : ℕ) (s : Own) → Plain s → Plain (at now s)
at_plain now s k = record { none = k.none; hold = k.hold }

none_live : (s : Own) (number : ℕ) → s.observations ≡ []
    → true ≡ (is_some (observation_of number s.observations) && not (is_cancelled number s)) → ⊥
none_live s number none h =
    let k = h ∙ ap (λ (os : List Observation). is_some (observation_of number os) && not (is_cancelled number s))
    none in
    cc k

pub leaves : (sizes : Sizes) (past : List Call) (c : Call) → Quietly sizes past c → Plain (own_of sizes past)
    → Left sizes past c
leaves sizes past (Calls now r (Ok number)) q k = record {
  leaves = same (calling (own_of sizes past).sizes number r ∷ []) refl refl refl (inr refl);
  plain = record { none = k.none; hold = k.hold };
}
leaves sizes past (Calls now r (Err why)) q k = record {
  leaves = same [] (sym (append-nil (own_of sizes past).queue)) refl refl (inr refl);
  plain = at_plain now (own_of sizes past) k;
}
leaves sizes past (Observes now path (Ok number)) q k = absurd q.none
leaves sizes past (Observes now path (Err why)) q k = record {
  leaves = same [] (sym (append-nil (own_of sizes past).queue)) refl refl (inr refl);
  plain = at_plain now (own_of sizes past) k;
}
leaves sizes past (Cancels now number None) q k = record {
  leaves = same (Cancelling number ∷ []) refl refl refl (inr refl);
  plain = record { none = k.none; hold = k.hold };
}
leaves sizes past (Cancels now number (Some why)) q k = record {
  leaves = same [] (sym (append-nil (own_of sizes past).queue)) refl refl (inr refl);
  plain = at_plain now (own_of sizes past) k;
}
leaves sizes past (Forgets number kept true) q k = absurd (none_live (own_of sizes past) number k.none q.right)
leaves sizes past (Forgets number kept false) q k = record {
  leaves = same [] (sym (append-nil (own_of sizes past).queue)) refl refl (inr refl);
  plain = record { none = k.none; hold = k.hold };
}
leaves sizes past (Feeds now from bytes word up settled None sent token kept) q k =
    let s : Own = own_of sizes past in
    let e : Effect = happened (at now s) (max s.clock now) None in
    stays_so sizes past (Feeds now from bytes word up settled None sent token kept) q k (max s.clock now) token
    (requested e.deed token) e refl refl refl refl (at now s) refl refl refl
    (at_plain now s k) (inr refl)
leaves sizes past (Feeds now from bytes word up settled (Some (event.Answer a)) sent token kept) q k =
    let s : Own = own_of sizes past in
    let e : Effect = happened (at now s) (max s.clock now) (Some (event.Answer a)) in
    answered_so sizes past (Feeds now from bytes word up settled (Some (event.Answer a)) sent token kept) q k
    (max s.clock now) token
    (requested e.deed token) e refl refl refl refl (max s.clock now) (at now s)
    a refl refl (at_plain now s k) refl s.running refl refl
leaves sizes past (Feeds now from bytes word up settled (Some (event.Notice a)) sent token kept) q k =
    let s : Own = own_of sizes past in
    let e : Effect = happened (at now s) (max s.clock now) (Some (event.Notice a)) in
    notes_so sizes past (Feeds now from bytes word up settled (Some (event.Notice a)) sent token kept) q k
    (max s.clock now) token
    (requested e.deed token) e refl refl refl refl (max s.clock now) (at now s) a
    refl refl (at_plain now s k) refl refl
leaves sizes past (Feeds now from bytes word up settled (Some event.Reset) sent token kept) q k =
    let s : Own = own_of sizes past in
    let e : Effect = happened (at now s) (max s.clock now) (Some event.Reset) in
    fails_so sizes past (Feeds now from bytes word up settled (Some event.Reset) sent token kept) q k (max s.clock now)
    token
    (requested e.deed token) e refl refl refl refl (lapse event.Reset) refl (at now s) refl refl
    (at_plain now s k) s.running refl refl
leaves sizes past (Feeds now from bytes word up settled (Some event.Timeout) sent token kept) q k =
    let s : Own = own_of sizes past in
    let e : Effect = happened (at now s) (max s.clock now) (Some event.Timeout) in
    fails_so sizes past (Feeds now from bytes word up settled (Some event.Timeout) sent token kept) q k
    (max s.clock now) token
    (requested e.deed token) e refl refl refl refl (lapse event.Timeout) refl (at now s) refl refl
    (at_plain now s k) s.running refl refl
leaves sizes past (Feeds now from bytes word up settled (Some event.NoResponse) sent token kept) q k =
    let s : Own = own_of sizes past in
    let e : Effect = happened (at now s) (max s.clock now) (Some event.NoResponse) in
    fails_so sizes past (Feeds now from bytes word up settled (Some event.NoResponse) sent token kept) q k
    (max s.clock now) token
    (requested e.deed token) e refl refl refl refl (lapse event.NoResponse) refl (at now s) refl refl
    (at_plain now s k) s.running refl refl
leaves sizes past (Ticks now word below turn.Idle sent token kept answer) q k =
    let s : Own = own_of sizes past in
    let e : Effect = passes (at now s) (max s.clock now) turn.Idle in
    idles_so sizes past (Ticks now word below turn.Idle sent token kept answer) q k (max s.clock now) token
    (requested e.deed token) e refl refl refl refl (max s.clock now) (at now s)
    refl refl (at_plain now s k) refl s.running refl refl
leaves sizes past (Ticks now word below turn.Copied sent token kept answer) q k =
    let s : Own = own_of sizes past in
    let e : Effect = passes (at now s) (max s.clock now) turn.Copied in
    stays_so sizes past (Ticks now word below turn.Copied sent token kept answer) q k (max s.clock now) token
    (requested e.deed token) e refl refl refl refl
    (record s { clock = max s.clock now; sent = max s.clock now }) refl refl refl
    (record { none = k.none; hold = k.hold }) (inr refl)
leaves sizes past (Ticks now word below (turn.End e) sent token kept answer) q k =
    let s : Own = own_of sizes past in
    let f : Effect = passes (at now s) (max s.clock now) (turn.End e) in
    fails_so sizes past (Ticks now word below (turn.End e) sent token kept answer) q k (max s.clock now) token
    (requested f.deed token) f refl refl refl refl (lapse e) (lapse_ends e) (at now s)
    refl refl (at_plain now s k) s.running refl refl
leaves sizes past (NextOut a) q k = record {
  leaves = same [] (sym (append-nil (own_of sizes past).queue)) refl refl (inr refl);
  plain = k;
}
leaves sizes past (NextReport a) q k = record {
  leaves = same [] (sym (append-nil (own_of sizes past).queue)) refl refl (inr refl);
  plain = record { none = k.none; hold = k.hold };
}
leaves sizes past (Asked a) q k = record {
  leaves = same [] (sym (append-nil (own_of sizes past).queue)) refl refl (inr refl);
  plain = k;
}
