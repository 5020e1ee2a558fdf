-- What becomes of an upload that runs.
use Rattle.std.proofs.Common.{◌≡◌, ◌⊎◌, inl, inr, ℕ, Bool, true, false, cond, not, ◌&&◌, Option, Some, None, List}
use Rattle.std.proofs.Common.{refl, ap, sym, subst, ◌∙◌, Result, Ok, Err}
use Rattle.std.specs.Prelude.{◌==◌, nat_lt}
use Rattle.coap_codec.specs.Message.{Message}
use Rattle.coap_types.specs.declared.block.Block.{Block}
use Rattle.coap_block.specs.UploadStep.{UploadState, moved, more_follows, continues}
use Rattle.coap_exchange.specs.declared.asker.AskRefusal.{AskRefusal}
use Rattle.coap_exchange.specs.declared.asker.Event.{Event}
use Rattle.coap_exchange.specs.declared.asker.Event.TheVariants as event
use Rattle.coap_exchange.specs.declared.asker.Turn.{Turn}
use Rattle.coap_exchange.specs.declared.asker.Turn.TheVariants as turn
use Rattle.coap_types.specs.declared.option_number.TheConstants.{BLOCK1 as block1}
use Rattle.coap_observe.specs.Newer.{is_newer}
use Rattle.coap_client.specs.Trace.{is_value, Request, Report, Reported}
use Rattle.coap_client.specs.Trace as R
use Rattle.coap_client.specs.Own.{Uploads, Operation, Calling, Observation}
use Rattle.coap_client.specs.Own.{Own}
use Rattle.coap_client.specs.Observations.{observation_of, observation_with, to_fetch, dropped}
use Rattle.coap_client.specs.Requests.{is_longer}
use Rattle.coap_client.specs.Responses.{continue, block_at, is_notification, sequence_in}
use Rattle.coap_client.specs.Reports.{lapse}
use Rattle.coap_client.specs.Reports as reports_of
use Rattle.coap_client.specs.Calls.{answer}
use Rattle.coap_client.specs.Calls as calls
use Rattle.coap_client.specs.Effects.{Deed, Rests, Asks, Keeps, Releases, Effect, stays, runs, ends, of}
use Rattle.coap_client.specs.Effects.{held_by, has_sent}
use Rattle.coap_client.specs.Observing.{is_over, renewed, passed, noticed_by}
use Rattle.coap_client.specs.Events.{called, answered, failed, happened, idle, passes}
use Rattle.coap_client.specs.Events.{closed}
use Rattle.coap_client_laws.specs.Follows.Holds.{is_upload_of}
use Rattle.coap_client_laws.proofs.Uploading.UploadSteps.{and_parts, longer_moved, later_moved}
use Rattle.coap_client.proofs.Facts.Places.PlaceLemmas.{same_number}
use Rattle.coap_client.proofs.Facts.Places.PlaceEvents.{lapse_last}
use Rattle.coap_client.proofs.Facts.Turning.Moves.{releases_none}

-- it is over, with a last report, and holds back others unless that is of a final response
pub record IsOver (final : Bool) (other : ℕ) (s : Own) (c : Effect) : Type 0 where
  pub report : Report
  pub made : c.report ≡ of other report
  pub last : is_value report ≡ false
  pub holds : final ≡ false → c.own.hold ≡ Some s.sent

-- its next block is to be sent, which is not the first
pub record GoesOn (other : ℕ) (s : Own) (e : Effect) : Type 0 where
  pub number : ℕ
  pub request : Request
  pub upload : UploadState
  pub asks : e.deed ≡ Asks (Calling number request (Uploads upload))
  pub is : is_upload_of other (Some (Calling number request (Uploads upload))) ≡ true
  pub later : nat_lt 0 upload.num ≡ true
  pub sent : e.own.sent ≡ s.sent
  pub runs_it : e.own.running ≡ Some (Calling number request (Uploads upload))

pub record StaysOn (other : ℕ) (s : Own) (e : Effect) : Type 0 where
  pub quiet : (op : Operation) → e.deed ≡ Asks op → ⊥
  pub is : is_upload_of other e.own.running ≡ true

abbrev pub Fate : Bool → ℕ → Own → Effect → Type 0
Fate final other s e = IsOver final other s e ⊎ (GoesOn other s e ⊎ StaysOn other s e)

done_last : (method : _) (code : ℕ) → is_value (reports_of.done method code) ≡ false
done_last method code = by (reports_of.is_success method code)
  where
    by : (b : Bool) → is_value (cond b (R.Done code) (R.Failed code)) ≡ false
    by true = refl
    by false = refl

module _ (other : ℕ) (s : Own) (k : ℕ) (r : Request) (u : UploadState) (same : (k == other) ≡ true)
    (longer : is_longer u ≡ true) where
  number_is : k ≡ other
  number_is = same_number k other same

  held_is : (report : Option Reported) → (ends report (cond (is_longer u) (record s { hold = Some s.sent }) s)).own.hold
      ≡ Some s.sent
  held_is report = ap (λ l. (ends report (cond l (record s { hold = Some s.sent }) s)).own.hold) longer

  unheard_fate : (final : Bool) (report : Report) → is_value report ≡ false
      → IsOver final other s (ends (of k report) (held_by true (Uploads u) s))
  unheard_fate final report last = record {
    report = report;
    made = ap (λ i. of i report) number_is;
    last = last;
    holds = λ h. held_is (of k report);
  }

  continued_fate : (o : Option Block) → Fate false other s (called k r (Uploads u) s (calls.continued u o))
  continued_fate None = inl (unheard_fate false R.BadBlock refl)
  continued_fate (Some b) = by (continues u b) refl
    where
      by : (c : Bool) → continues u b ≡ c → Fate false other s
          (called k r (Uploads u) s (cond c (calls.Asks (Uploads (moved u b))) (calls.Ends false R.BadBlock)))
      by true h = inr (inl (record {
        number = k;
        request = r;
        upload = moved u b;
        asks = refl;
        is = ap (λ x. x && is_longer (moved u b)) same ∙ longer_moved u b h longer;
        later = later_moved u b h;
        sent = refl;
        runs_it = refl;
      }))
      by false h = inl (unheard_fate false R.BadBlock refl)

  final_fate : (p : Bool) (code : ℕ) → IsOver true other s
      (called k r (Uploads u) s (cond p (calls.Ends true R.BadBlock) (calls.Ends true (reports_of.done r.method code))))
  final_fate true code = record {
    report = R.BadBlock;
    made = ap (λ i. of i R.BadBlock) number_is;
    last = refl;
    holds = λ h. absurd (cc h);
  }
  final_fate false code = record {
    report = reports_of.done r.method code;
    made = ap (λ i. of i (reports_of.done r.method code)) number_is;
    last = done_last r.method code;
    holds = λ h. absurd (cc h);
  }

  pub heard_fate : (m : Message) → Fate (not (m.code == continue)) other s
      (called k r (Uploads u) s (answer r (Uploads u) m))
  heard_fate m = by (m.code == continue)
    where
      by : (b : Bool) → Fate (not b) other s (called k r (Uploads u) s
          (cond (b && is_longer u) (calls.continued u (block_at block1 m))
          (cond (more_follows u && calls.is_below_errors m.code) (calls.Ends true R.BadBlock)
          (calls.Ends true (reports_of.done r.method m.code)))))
      by true =
          subst (λ l. Fate false other s (called k r (Uploads u) s
          (cond l (calls.continued u (block_at block1 m))
          (cond (more_follows u && calls.is_below_errors m.code) (calls.Ends true R.BadBlock)
          (calls.Ends true (reports_of.done r.method m.code))))))
          (sym longer) (continued_fate (block_at block1 m))
      by false = inl (final_fate (more_follows u && calls.is_below_errors m.code) m.code)

-- of what kind it is
pub record IsUp (other : ℕ) (running : Option Operation) : Type 0 where
  pub number : ℕ
  pub request : Request
  pub upload : UploadState
  pub runs_it : running ≡ Some (Calling number request (Uploads upload))
  pub same : (number == other) ≡ true
  pub longer : is_longer upload ≡ true

pub up_of : (other : ℕ) (running : Option Operation) → is_upload_of other running ≡ true → IsUp other running
up_of other (Some (Calling k r (Uploads u))) h = let b =
    and_parts (k == other) (is_longer u) h in record
    { number = k; request = r; upload = u; runs_it = refl; same = b.0; longer = b.1 }
up_of other _ h = absurd (cc h)

module _ (other : ℕ) (s : Own) (at : ℕ) (up : is_upload_of other s.running ≡ true) where
  it : IsUp other s.running
  it = up_of other s.running up

  stays_on : (e : Effect) → ((op : Operation) → e.deed ≡ Asks op → ⊥) → e.own.running ≡ s.running → Fate false other s e
  stays_on e quiet same = inr (inr (record { quiet = quiet; is = ap (is_upload_of other) same ∙ up }))

  failed_fate : (report : Report) → is_value report ≡ false → Fate false other s (failed (λ t. true) report s s.running)
  failed_fate report last =
      subst (λ o. Fate false other s (failed (λ t. true) report s o)) (sym it.runs_it)
      (inl (unheard_fate other s it.number it.request it.upload it.same it.longer false report last))

  answered_fate : (m : Message) → Fate (not (m.code == continue)) other s (answered s at m s.running)
  answered_fate m = subst (λ o. Fate (not (m.code == continue)) other s (answered s at m o)) (sym it.runs_it)
      (heard_fate other s it.number it.request it.upload it.same it.longer m)

  dropped_same : (k : ℕ) → dropped k s.running ≡ s.running
  dropped_same k = ap (dropped k) it.runs_it ∙ sym it.runs_it

  noticed_fate : (m : Message) (o : Option Observation) → Fate false other s (noticed_by o s at m)
  noticed_fate m None = stays_on (stays s) (λ op h. cc h) refl
  noticed_fate m (Some o) = by (not (is_notification m)) (is_newer o.watch.mark (sequence_in m) at)
    where
      by : (b c : Bool) → Fate false other s (cond b (is_over o.number (R.Ended m.code) s)
          (cond c (renewed o s at m) (stays (passed o s at m))))
      by true c = stays_on (is_over o.number (R.Ended m.code) s)
          (releases_none (observation_of o.number s.observations)) (dropped_same o.number)
      by false true = stays_on (renewed o s at m) (λ op h. cc h) (dropped_same o.number)
      by false false = stays_on (stays (passed o s at m)) (λ op h. cc h) refl

  idle_fate : (number : Option ℕ) → Fate false other s (idle s at s.running number)
  idle_fate number = subst (λ o. Fate false other s (idle s at o number)) (sym it.runs_it) (by number)
    where
      by : (number : Option ℕ) → Fate false other s
          (idle s at (Some (Calling it.number it.request (Uploads it.upload))) number)
      by number = stays_on (stays s) (λ op h. cc h) refl

  pub passes_fate : (t : Turn) → Fate false other s (passes s at t)
  passes_fate turn.Idle = idle_fate (to_fetch s.observations)
  passes_fate turn.Copied = stays_on _ (λ op h. cc h) refl
  passes_fate (turn.End e) = failed_fate (lapse e) (lapse_last e)

  abbrev pub finality : Option Event → Bool
  finality (Some (event.Answer m)) = not (m.code == continue)
  finality e = false

  pub happened_fate : (e : Option Event) → Fate (finality e) other s (happened s at e)
  happened_fate None = stays_on (stays s) (λ op h. cc h) refl
  happened_fate (Some (event.Answer m)) = answered_fate m
  happened_fate (Some (event.Notice m)) = noticed_fate m (observation_with m.token s.observations)
  happened_fate (Some event.Reset) = failed_fate R.Reset refl
  happened_fate (Some event.Timeout) = failed_fate R.Timeout refl
  happened_fate (Some event.NoResponse) = failed_fate R.NoResponse refl

  -- .. once the request is sent or refused
  abbrev Closed : Bool → Effect → Type 0
  Closed final c = IsOver final other s c ⊎ (is_upload_of other c.own.running ≡ true)

  pub closed_fate : (final : Bool) (e : Effect) (token : Result (List ℕ) AskRefusal) → Fate final other s e
      → ((op : Operation) → e.deed ≡ Asks op → e.report ≡ None) → (d : Deed) → e.deed ≡ d
      → Closed final (closed at e d token)
  closed_fate final e token (inl o) none Rests is = inl o
  closed_fate final e token (inl o) none (Asks op) is = absurd (cc (none op is, o.made))
  closed_fate final e token (inr (inl g)) none Rests is = absurd (cc (is, g.asks))
  closed_fate final e token (inr (inl g)) none (Keeps t) is = absurd (cc (is, g.asks))
  closed_fate final e token (inr (inl g)) none (Releases t) is = absurd (cc (is, g.asks))
  closed_fate final e (Ok token) (inr (inl g)) none (Asks op) is = inr (ap (is_upload_of other) g.runs_it ∙ g.is)
  closed_fate final e (Err why) (inr (inl g)) none (Asks op) is =
      let same : op ≡ Calling g.number g.request (Uploads g.upload) = cc (is, g.asks) in
      let b = and_parts (g.number == other) (is_longer g.upload) g.is in
      subst (λ o. Closed final (failed has_sent R.NoIds e.own (Some o))) (sym same) (inl (record {
        report = R.NoIds;
        made = ap (λ i. of i R.NoIds) (same_number g.number other b.0);
        last = refl;
        holds = λ h. ap (λ l. (ends (of g.number R.NoIds)
            (cond (l && is_longer g.upload) (record e.own { hold = Some e.own.sent }) e.own)).own.hold) g.later
            ∙ (ap (λ l. (ends (of g.number R.NoIds) (cond l (record e.own { hold = Some e.own.sent }) e.own)).own.hold)
            b.1 ∙ ap (λ z. Some z) g.sent);
      }))
  closed_fate final e token (inr (inr q)) none Rests is = inr q.is
  closed_fate final e token (inr (inr q)) none (Keeps t) is = inr q.is
  closed_fate final e token (inr (inr q)) none (Releases t) is = inr q.is
  closed_fate final e token (inr (inr q)) none (Asks op) is = absurd (q.quiet op is)
  closed_fate final e token (inl o) none _ is = inl (record {
    report = o.report;
    made = o.made;
    last = o.last;
    holds
        = o.holds;
  })
