-- A call that was taken has its last report, waits or runs.
use Rattle.std.proofs.Common.{◌≡◌, ◌≤◌, ◌⊎◌, inl, inr, ℕ, ◌+◌, max, Bool, true, false, cond, not, ◌&&◌, Option, Some}
use Rattle.std.proofs.Common.{None, List, [], ◌∷◌, ◌++◌, refl, ap, sym, subst, ◌∙◌, arith, Result, Ok, Err}
use Rattle.std.specs.Prelude.{◌==◌, filter}
use Rattle.coap_types.specs.declared.endpoint.Endpoint.{Endpoint}
use Rattle.coap_codec.specs.Message.{Message}
use Rattle.coap_block.specs.Sizes.{Sizes}
use Rattle.coap_block.specs.declared.fetch_verdict.Verdict.{Verdict}
use Rattle.coap_block.specs.declared.fetch_verdict.Verdict.TheVariants as verdict
use Rattle.coap_block.specs.declared.fetch_step.FetchRefusal.TheVariants as refusal
use Rattle.coap_exchange.specs.declared.asker.AskRefusal.{AskRefusal}
use Rattle.coap_exchange.specs.declared.asker.Event.{Event}
use Rattle.coap_exchange.specs.declared.asker.Event.TheVariants as event_of
use Rattle.coap_exchange.specs.declared.asker.Turn.{Turn}
use Rattle.coap_exchange.specs.declared.asker.Turn.TheVariants as turn_of
use Rattle.coap_exchange.specs.AskerLaw as X
use Rattle.coap_observe.specs.Newer.{is_newer}
use Rattle.coap_client.specs.Trace.{is_value, Request, Report, Reported, Call, Calls, Observes, Cancels, Forgets, Feeds}
use Rattle.coap_client.specs.Trace.{Ticks, NextOut, NextReport, Asked}
use Rattle.coap_client.specs.Trace as R
use Rattle.coap_client.specs.Own.{Transfer, Operation, Calling, Registering, Fetching, Cancelling, Dropped, Notified}
use Rattle.coap_client.specs.Own.{Observation, Own}
use Rattle.coap_client.specs.Observations.{observation_with, rest_of, to_fetch, is_cancel_of, dropped}
use Rattle.coap_client.specs.Responses.{content, is_notification, sequence_in, part}
use Rattle.coap_client.specs.Reports.{lapse}
use Rattle.coap_client.specs.Calls.{Next, answer}
use Rattle.coap_client.specs.Calls as calls
use Rattle.coap_client.specs.Queue.{calling}
use Rattle.coap_client.specs.Effects.{Deed, Rests, Asks, Keeps, Releases, Effect, stays, runs, ends, of, is_upload}
use Rattle.coap_client.specs.Effects.{has_sent}
use Rattle.coap_client.specs.Fetching.{fetch_by, fetch_answered}
use Rattle.coap_client.specs.Observing.{begun, first_value, is_over, registered, renewed, passed, noticed_by}
use Rattle.coap_client.specs.Events.{called, cancel_over, answered, failed, happened, is_held, is_upload_op, starts}
use Rattle.coap_client.specs.Events.{idle, passes, closed}
use Rattle.coap_client.specs.Deeds.{at, close}
use Rattle.coap_client.specs.Steps.{lower, reports, IsRight}
use Rattle.coap_client.specs.Law.{ClientLaw, ClientRows, own_of, lower_of}
use Rattle.coap_client.specs.Sendings.{Taken, WasTaken}
use Rattle.coap_client.specs.Places.{hit, final_of}
use Rattle.coap_client_laws.specs.Follows.Answered.{HasReport, IsIdleTick, WaitsFor, IsEmpty, AreResting, AreAnswered}
use Rattle.coap_client.proofs.Facts.Places.PlaceLemmas.{same_number, hit_self, hits}
use Rattle.coap_client.proofs.Facts.Places.PlaceEffects.{final_hit}
use Rattle.coap_client.proofs.Facts.Places.PlaceEvents.{answer_last, LastOnly, lapse_last}
use Rattle.coap_client.proofs.Facts.Places.Once.{law_back, known}
use Rattle.coap_client_laws.proofs.Uploading.Holds.{goes_fed, goes_ticked}
use Rattle.coap_layer.specs.Trace as L
use Rattle.coap_layer.specs.declared.setup.Setup.{Setup}
use Rattle.coap_client_laws.proofs.Rest.Resting.{rested, are_resting}

-- how often a number is that of a call

abbrev pub call_of : ℕ → Operation → ℕ
call_of n (Calling k r t) = hit k n
call_of n op = 0

abbrev pub call_in : ℕ → Option Operation → ℕ
call_in n None = 0
call_in n (Some op) = call_of n op

abbrev pub calls_in : ℕ → List Operation → ℕ
calls_in n [] = 0
calls_in n (op ∷ ops) = call_of n op + calls_in n ops

pub record Retains (s : Own) (e : Effect) : Type 0 where
  pub per : (n : ℕ) → call_in n s.running + calls_in n s.queue ≤ call_in n e.own.running +
      (calls_in n e.own.queue + final_of n e.report)

calls_uncancelled : (n k : ℕ) (ops : List Operation)
    → calls_in n (filter (λ op. not (is_cancel_of k op)) ops) ≡ calls_in n ops
calls_uncancelled n k [] = refl
calls_uncancelled n k (Calling j r t ∷ ops) = let ih = calls_uncancelled n k ops in omega (arith, ih)
calls_uncancelled n k (Registering j path ∷ ops) = let ih = calls_uncancelled n k ops in omega (arith, ih)
calls_uncancelled n k (Fetching j ∷ ops) = let ih = calls_uncancelled n k ops in omega (arith, ih)
calls_uncancelled n k (Dropped ∷ ops) = let ih = calls_uncancelled n k ops in omega (arith, ih)
calls_uncancelled n k (Cancelling j ∷ ops) = by (calls_uncancelled n k ops) (j == k)
  where
    by : calls_in n (filter (λ op. not (is_cancel_of k op)) ops) ≡ calls_in n ops → (b : Bool)
        → calls_in n (cond (not b) (Cancelling j ∷ filter (λ op. not (is_cancel_of k op)) ops)
        (filter (λ op. not (is_cancel_of k op)) ops)) ≡ 0 + calls_in n ops
    by ih true = omega (arith, ih)
    by ih false = omega (arith, ih)

call_dropped : (n k : ℕ) (running : Option Operation) → call_in n (dropped k running) ≡ call_in n running
call_dropped n k (Some (Fetching j)) = by (j == k)
  where
    by : (b : Bool) → call_in n (cond b (Some Dropped) (Some (Fetching j))) ≡ 0
    by true = refl
    by false = refl
call_dropped n k _ = refl

same_retains : (s : Own) (e : Effect) → e.own.running ≡ s.running → e.own.queue ≡ s.queue → Retains s e
same_retains s e r q = record {
  per = λ n. let a = ap (call_in n) r in let b =
      ap (calls_in n) q in omega (arith, a, b);
}

-- what runs is no call
aside_retains : (s : Own) (e : Effect) → ((n : ℕ) → call_in n s.running ≡ 0) → e.own.queue ≡ s.queue → Retains s e
aside_retains s e z q = record { per = λ n. let a = z n in let b = ap (calls_in n) q in omega (arith, a, b) }

over_retains : (s : Own) (k : ℕ) (report : Report) → Retains s (is_over k report s)
over_retains s k report = record {
  per = λ n. let a = calls_uncancelled n k s.queue in let b =
      call_dropped n k s.running in omega (arith, a, b);
}

cancel_retains : (s : Own) (k : ℕ) (report : Report) → ((n : ℕ) → call_in n s.running ≡ 0)
    → Retains s (cancel_over k report s)
cancel_retains s k report z = record {
  per = λ n. let a = calls_uncancelled n k s.queue in let b =
      z n in omega (arith, a, b);
}

none_of : (s : Own) (op : Operation) → s.running ≡ Some op → ((n : ℕ) → call_of n op ≡ 0) → (n : ℕ)
    → call_in n s.running ≡ 0
none_of s op is z n = ap (call_in n) is ∙ z n

ends_retains : (s : Own) (k : ℕ) (r : Request) (t : Transfer) → s.running ≡ Some (Calling k r t)
    → (c : Bool) (report : Report) → is_value report ≡ false
    → Retains s (ends (of k report) (cond c (record s { hold = Some s.sent }) s))
ends_retains s k r t is true report last = record
    { per = λ n. let a = ap (call_in n) is in let b = final_hit n k report last in omega (arith, a, b) }
ends_retains s k r t is false report last = record
    { per = λ n. let a = ap (call_in n) is in let b = final_hit n k report last in omega (arith, a, b) }

called_retains : (s : Own) (k : ℕ) (r : Request) (t : Transfer) → s.running ≡ Some (Calling k r t) → (next : Next)
    → LastOnly next → Retains s (called k r t s next)
called_retains s k r t is (calls.Asks next) last = record { per = λ n. let a = ap (call_in n) is in omega (arith, a) }
called_retains s k r t is (calls.Ends final report) last =
    record { per = λ n. (ends_retains s k r t is (not final && is_upload t) report last).per n }

by_retains : (s : Own) (k : ℕ) → ((n : ℕ) → call_in n s.running ≡ 0) → (x : Notified) (m : Message) (v : Verdict)
    → Retains s (fetch_by k x s m v)
by_retains s k z x m (verdict.Ask num szx) = aside_retains s _ z refl
by_retains s k z x m _ = aside_retains s _ z refl

fetch_retains : (s : Own) (k : ℕ) → ((n : ℕ) → call_in n s.running ≡ 0) → (o : Option Notified) (m : Message)
    → Retains s (fetch_answered k o s m)
fetch_retains s k z None m = aside_retains s _ z refl
fetch_retains s k z (Some x) m = by_retains s k z x m
    (cond (m.code == content) (part x.fetch m) (verdict.Refuse refusal.BadBlock))

registered_retains : (s : Own) (k : ℕ) (path : List (List ℕ)) (now : ℕ) (m : Message)
    → ((n : ℕ) → call_in n s.running ≡ 0) → Retains s (registered k path s now m)
registered_retains s k path now m z = by (is_notification m)
  where
    by : (b : Bool) → Retains s (cond b (record {
      own =
          record s { running = None; observations = s.observations ++ begun k path s.sizes now m ∷ [] };
      report = first_value k s.sizes m;
      deed = Keeps m.token;
    }) (ends (of k (R.Ended m.code)) s))
    by true = aside_retains s _ z refl
    by false = aside_retains s _ z refl

answered_retains : (s : Own) (now : ℕ) (m : Message) (running : Option Operation) → s.running ≡ running
    → Retains s (answered s now m running)
answered_retains s now m None is = same_retains s _ refl refl
answered_retains s now m (Some (Calling k r t)) is = called_retains s k r t is (answer r t m) (answer_last r t m)
answered_retains s now m (Some (Registering k path)) is = registered_retains s k path now m (none_of s _ is (λ n. refl))
answered_retains s now m (Some (Fetching k)) is =
    fetch_retains s k (none_of s _ is (λ n. refl)) (rest_of k s.observations) m
answered_retains s now m (Some (Cancelling k)) is = cancel_retains s k R.Cancelled (none_of s _ is (λ n. refl))
answered_retains s now m (Some Dropped) is = aside_retains s _ (none_of s _ is (λ n. refl)) refl

failed_retains : (s : Own) (u : Transfer → Bool) (report : Report) → is_value report ≡ false
    → (running : Option Operation) → s.running ≡ running → Retains s (failed u report s running)
failed_retains s u report last None is = same_retains s _ refl refl
failed_retains s u report last (Some (Calling k r t)) is = ends_retains s k r t is (u t && is_upload t) report last
failed_retains s u report last (Some (Cancelling k)) is = cancel_retains s k report (none_of s _ is (λ n. refl))
failed_retains s u report last _ is = aside_retains s _ (none_of s _ is (λ n. refl)) refl

noticed_retains : (s : Own) (now : ℕ) (m : Message) (o : Option Observation) → Retains s (noticed_by o s now m)
noticed_retains s now m None = same_retains s _ refl refl
noticed_retains s now m (Some o) = by (not (is_notification m)) (is_newer o.watch.mark (sequence_in m) now)
  where
    by : (b c : Bool) → Retains s (cond b (is_over o.number (R.Ended m.code) s)
        (cond c (renewed o s now m) (stays (passed o s now m))))
    by true c = over_retains s o.number (R.Ended m.code)
    by false true = record { per = λ n. let b = call_dropped n o.number s.running in omega (arith, b) }
    by false false = same_retains s _ refl refl

happened_retains : (s : Own) (now : ℕ) (e : Option Event) → Retains s (happened s now e)
happened_retains s now None = same_retains s _ refl refl
happened_retains s now (Some (event_of.Answer m)) = answered_retains s now m s.running refl
happened_retains s now (Some (event_of.Notice m)) = noticed_retains s now m (observation_with m.token s.observations)
happened_retains s now (Some event_of.Reset) = failed_retains s (λ t. true) R.Reset refl s.running refl
happened_retains s now (Some event_of.Timeout) = failed_retains s (λ t. true) R.Timeout refl s.running refl
happened_retains s now (Some event_of.NoResponse) = failed_retains s (λ t. true) R.NoResponse refl s.running refl

starts_retains : (s : Own) (now : ℕ) → s.running ≡ None → (queue : List Operation) → s.queue ≡ queue
    → Retains s (starts s now queue)
starts_retains s now none [] is = same_retains s _ refl refl
starts_retains s now none (op ∷ queue) is = by (is_upload_op op && is_held s now)
  where
    by : (b : Bool) → Retains s (cond b (stays s) (runs op (record s { queue = queue })))
    by true = same_retains s _ refl refl
    by false = record { per = λ n. let a = ap (calls_in n) is in let b = ap (call_in n) none in omega (arith, a, b) }

idle_retains : (s : Own) (now : ℕ) (running : Option Operation) → s.running ≡ running → (number : Option ℕ)
    → Retains s (idle s now running number)
idle_retains s now (Some op) is number = same_retains s (stays s) refl refl
idle_retains s now None is (Some k) = record { per = λ n. let b = ap (call_in n) is in omega (arith, b) }
idle_retains s now None is None = starts_retains s now is s.queue refl

passes_retains : (s : Own) (now : ℕ) (t : Turn) → Retains s (passes s now t)
passes_retains s now turn_of.Idle = idle_retains s now s.running refl (to_fetch s.observations)
passes_retains s now turn_of.Copied = same_retains s _ refl refl
passes_retains s now (turn_of.End e) = failed_retains s (λ t. true) (lapse e) (lapse_last e) s.running refl

closed_retains : (s : Own) (m : ℕ) (e : Effect) (token : Result (List ℕ) AskRefusal)
    → ((op : Operation) → e.deed ≡ Asks op → (e.report ≡ None) × (e.own.running ≡ Some op)) → Retains s e → (d : Deed)
    → e.deed ≡ d → Retains s (closed m e d token)
closed_retains s m e token asks h Rests is = h
closed_retains s m e (Ok key) asks h (Asks op) is =
    record { per = λ n. let a = h.per n in let b = ap (final_of n) (asks op is).0 in omega (arith, a, b) }
closed_retains s m e (Err why) asks h (Asks op) is = record {
  per = λ n.
      let a = h.per n in
      let b = ap (final_of n) (asks op is).0 in
      let f = failed_retains e.own has_sent R.NoIds refl (Some op) (asks op is).1 in
      let f2 = f.per n in
      omega (arith, a, b, f2);
}
closed_retains s m e token asks h _ is = record { per = h.per }

calls_append : (n : ℕ) (xs ys : List Operation) → calls_in n (xs ++ ys) ≡ calls_in n xs + calls_in n ys
calls_append n [] ys = omega arith
calls_append n (x ∷ xs) ys = let ih = calls_append n xs ys in omega (arith, ih)

module _ (server : Endpoint) (sizes : Sizes) (setup : Setup) where
  abbrev finals : ℕ → List Call → ℕ
  finals n [] = 0
  finals n (c ∷ past) = final_of n (reports (own_of sizes past) c) + finals n past

  abbrev Kept : ℕ → List Call → Type 0
  Kept n t = 1 ≤ (call_in n (own_of sizes t).running + calls_in n (own_of sizes t).queue) + finals n t

  has_report : (n : ℕ) (t : List Call) → 1 ≤ finals n t → HasReport server sizes setup n t
  has_report n [] h = absurd (omega (arith, h))
  has_report n (c ∷ t) h = by (reports (own_of sizes t) c) refl (has_report n t)
    where
      hits_it : (x : Reported) → reports (own_of sizes t) c ≡ Some x → (v : Bool) → is_value x.report ≡ v → (b : Bool)
          → (x.number == n) ≡ b → (1 ≤ finals n t → HasReport server sizes setup n t)
          → HasReport server sizes setup n (c ∷ t)
      hits_it x is false last true e f = inl (x, same_number x.number n e, record { made = is; final = last })
      hits_it x is true last b e f =
          let a = ap (final_of n) is in
          let d : final_of n (Some x) ≡ 0 = ap (λ v. cond v 0 (hit x.number n)) last in
          inr (f (omega (arith, h, a, d)))
      hits_it x is false last false e f =
          let a = ap (final_of n) is in
          let d : final_of n (Some x) ≡ hit x.number n = ap (λ v. cond v 0 (hit x.number n)) last in
          let g = hits x.number n false e in
          inr (f (omega (arith, h, a, d, g)))

      by : (o : Option Reported) → reports (own_of sizes t) c ≡ o → (1 ≤ finals n t → HasReport server sizes setup n t)
          → HasReport server sizes setup n (c ∷ t)
      by None is f = let a = ap (final_of n) is in inr (f (omega (arith, h, a)))
      by (Some x) is f = hits_it x is (is_value x.report) refl (x.number == n) refl f

  -- a call that was taken waits, runs or has its last report
  plain_kept : (n : ℕ) (t : List Call) (c : Call) → (own_of sizes (c ∷ t)).running ≡ (own_of sizes t).running
      → calls_in n (own_of sizes t).queue ≤ calls_in n (own_of sizes (c ∷ t)).queue → reports (own_of sizes t) c ≡ None
      → Kept n t → Kept n (c ∷ t)
  plain_kept n t c running queue none h = let a = ap (call_in n) running in let b =
      ap (final_of n) none in omega (arith, a, b, h, queue)

  kept_on : (n : ℕ) (t : List Call) (c : Call) → ClientRows sizes (c ∷ t)
      → X.AskerLaw server setup (lower_of sizes (c ∷ t))
      → Kept n t → Kept n (c ∷ t)
  kept_on n t (Calls now r (Ok k)) rows law h =
      plain_kept n t (Calls now r (Ok k)) refl (let a =
      calls_append n (own_of sizes t).queue (calling (own_of sizes t).sizes k r ∷ []) in omega (arith, a)) refl h
  kept_on n t (Calls now r (Err why)) rows law h = plain_kept n t (Calls now r (Err why)) refl (omega arith) refl h
  kept_on n t (Observes now path (Ok k)) rows law h =
      plain_kept n t (Observes now path (Ok k)) refl
      (let a = calls_append n (own_of sizes t).queue (Registering k path ∷ []) in omega (arith, a)) refl h
  kept_on n t (Observes now path (Err why)) rows law h =
      plain_kept n t (Observes now path (Err why)) refl (omega arith) refl h
  kept_on n t (Cancels now k None) rows law h =
      plain_kept n t (Cancels now k None) refl (let a =
      calls_append n (own_of sizes t).queue (Cancelling k ∷ []) in omega (arith, a)) refl h
  kept_on n t (Cancels now k (Some why)) rows law h =
      plain_kept n t (Cancels now k (Some why)) refl (omega arith) refl h
  kept_on n t (Forgets k kept false) rows law h = plain_kept n t (Forgets k kept false) refl (omega arith) refl h
  kept_on n t (Forgets k kept true) rows law h = let a = calls_uncancelled n k (own_of sizes t).queue in let b =
      call_dropped n k (own_of sizes t).running in omega (arith, a, b, h)
  kept_on n t (NextOut answer) rows law h = plain_kept n t (NextOut answer) refl (omega arith) refl h
  kept_on n t (NextReport answer) rows law h = plain_kept n t (NextReport answer) refl (omega arith) refl h
  kept_on n t (Asked answer) rows law h = plain_kept n t (Asked answer) refl (omega arith) refl h
  kept_on n t (Feeds now from bytes w up settled event sent token kept) rows law h =
      let c : Call = Feeds now from bytes w up settled event sent token kept in
      let k = known server sizes setup t rows.1 (law_back server setup (lower (own_of sizes t) c)
      (lower_of sizes t) law) in
      let m : ℕ = max (own_of sizes t).clock now in
      let e : Effect = happened (at now (own_of sizes t)) m event in
      let g = goes_fed server sizes setup t now from bytes w up settled event sent token kept k law in
      let a = (closed_retains (at now (own_of sizes t)) m e token g.asks
      (happened_retains (at now (own_of sizes t)) m event) e.deed refl).per n in
      omega (arith, a, h)
  kept_on n t (Ticks now w below turn sent token kept answer) rows law h =
      let c : Call = Ticks now w below turn sent token kept answer in
      let k = known server sizes setup t rows.1 (law_back server setup (lower (own_of sizes t) c)
      (lower_of sizes t) law) in
      let m : ℕ = max (own_of sizes t).clock now in
      let e : Effect = passes (at now (own_of sizes t)) m turn in
      let g = goes_ticked server sizes setup t now turn k in
      let a = (closed_retains (at now (own_of sizes t)) m e token g.asks
      (passes_retains (at now (own_of sizes t)) m turn) e.deed refl).per n in
      omega (arith, a, h)

  taken_kept : (x : Taken) (t : List Call) → ClientRows sizes t → X.AskerLaw server setup (lower_of sizes t)
      → WasTaken x t
      → Kept x.number t
  taken_kept x [] rows law h = absurd h
  taken_kept x (c ∷ t) rows law (inr h) = kept_on x.number t c rows law
      (taken_kept x t rows.1 (law_back server setup (lower (own_of sizes t) c) (lower_of sizes t) law) h)
  taken_kept x (Calls now r (Ok k) ∷ t) rows law (inl h) =
      let same : ◌≡◌ {A = Taken} (record { number = k; request = r }) x = cc h in
      let a = calls_append x.number (own_of sizes t).queue (calling (own_of sizes t).sizes k r ∷ []) in
      let b : hit k x.number ≡ 1 = ap (λ (y : Taken). hit y.number x.number) same ∙ hit_self x.number in
      omega (arith, a, b)
  taken_kept x (Calls now r (Err why) ∷ t) rows law (inl h) = absurd (cc h)
  taken_kept x (Observes now path answer ∷ t) rows law (inl h) = absurd (cc h)
  taken_kept x (Cancels now k answer ∷ t) rows law (inl h) = absurd (cc h)
  taken_kept x (Forgets k kept answer ∷ t) rows law (inl h) = absurd (cc h)
  taken_kept x (NextOut answer ∷ t) rows law (inl h) = absurd (cc h)
  taken_kept x (NextReport answer ∷ t) rows law (inl h) = absurd (cc h)
  taken_kept x (Asked answer ∷ t) rows law (inl h) = absurd (cc h)
  taken_kept x (Feeds now from bytes w up settled event sent token kept ∷ t) rows law (inl h) = absurd (cc h)
  taken_kept x (Ticks now w below turn sent token kept answer ∷ t) rows law (inl h) = absurd (cc h)

  -- a tick that does nothing reports nothing
  quiet_tick : (t : List Call) (now w : ℕ) (below : L.Answer) (turn : Turn) (sent : L.Answer)
      (token : Result (List ℕ) AskRefusal) (kept : Bool)
      → IsRight (own_of sizes t) (Ticks now w below turn sent token kept false)
      → reports (own_of sizes t) (Ticks now w below turn sent token kept false) ≡ None
  quiet_tick t now w below turn sent token kept right =
      ap (λ e. (close (max (own_of sizes t).clock now) e token).report)
      (rested server sizes setup t now w below turn sent token kept right).effect_is

  answered_here : (t : List Call) (c : Call) → ClientRows sizes (c ∷ t)
      → X.AskerLaw server setup (lower_of sizes (c ∷ t))
      → reports (own_of sizes t) c ≡ None → WaitsFor server sizes setup t c
      ⊎ IsEmpty server sizes setup (own_of sizes (c ∷ t))
      → (x : Taken) → WasTaken x t → (HasReport server sizes setup x.number t → ⊥) → WaitsFor server sizes setup t c
  answered_here t c rows law none (inl waits) x taken unreported = waits
  answered_here t c rows law none (inr empty) x taken unreported =
      let k : Kept x.number (c ∷ t) = taken_kept x (c ∷ t) rows law (inr taken) in
      let a = ap (call_in x.number) empty.none in
      let b = ap (calls_in x.number) empty.queue in
      let d = ap (final_of x.number) none in
      let there : 1 ≤ finals x.number t = omega (arith, k, a, b, d) in
      absurd (unreported (has_report x.number t there))

  pub are_answered : (t : List Call) → ClientLaw server sizes setup t → AreAnswered server sizes setup t
  are_answered t law = all t law.rows law.exchanges.rows (are_resting server sizes setup t law)
    where
      none_of_tick : (t : List Call) (c : Call) → IsRight (own_of sizes t) c → IsIdleTick server sizes setup c
          → reports (own_of sizes t) c ≡ None
      none_of_tick t c right i =
          subst (λ d. IsRight (own_of sizes t) d → reports (own_of sizes t) d ≡ None) (sym i.7)
          (λ r. quiet_tick t i.0 i.1 i.2 i.3 i.4 i.5 i.6 r) right

      all : (t : List Call) → ClientRows sizes t → X.AskerLaw server setup (lower_of sizes t)
          → AreResting server sizes setup t
          → AreAnswered server sizes setup t
      all [] rows law resting = tt
      all (c ∷ t) rows law resting = (
        λ i x taken unreported. answered_here t c rows law (none_of_tick t c rows.0 i)
            (resting.0 i) x taken unreported,
        all t rows.1
            (law_back server setup (lower (own_of sizes t) c) (lower_of sizes t) law) resting.1,
      )
