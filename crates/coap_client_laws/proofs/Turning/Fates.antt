-- What becomes of a call, and of a cancel, that runs.
use Rattle.std.proofs.Common.{◌≡◌, ◌≤◌, ℕ, max, Bool, true, false, Option, Some, None, List, ◌∷◌, refl, ap, sym, subst}
use Rattle.std.proofs.Common.{◌∙◌, Result, Ok, Err, arith}
use Rattle.coap_codec.specs.Message.{Message}
use Rattle.coap_block.specs.Sizes.{Sizes}
use Rattle.coap_exchange.specs.declared.asker.AskRefusal.{AskRefusal}
use Rattle.coap_exchange.specs.declared.asker.Event.{Event}
use Rattle.coap_client.specs.Trace.{is_value, Report, Cancelled, NoIds, Reported, Requested, Call, Calls, Observes}
use Rattle.coap_client.specs.Trace.{Cancels, Forgets, Feeds, Ticks, NextOut, NextReport, Asked}
use Rattle.coap_client.specs.Own.{Transfer, Operation, Calling, Registering, Fetching, Cancelling, Dropped, Own}
use Rattle.coap_client.specs.Observations.{observation_of, dropped}
use Rattle.coap_client.specs.Observing.{is_over}
use Rattle.coap_client.specs.Reports.{lapse}
use Rattle.coap_client.specs.Calls.{answer}
use Rattle.coap_client.specs.Calls as calls
use Rattle.coap_client.specs.Effects.{Asks, Effect, of}
use Rattle.coap_client.specs.Events.{failed, closed}
use Rattle.coap_client.specs.Deeds.{at}
use Rattle.coap_client.specs.Steps.{reports}
use Rattle.coap_client.specs.Law.{own_of}
use Rattle.coap_client_laws.specs.Follows.Answered.{of_call}
use Rattle.coap_client.specs.Places.{final_of}
use Rattle.coap_client.specs.Sendings.{Sending, sends, sent_by, hears}
use Rattle.coap_client.specs.Turns.Moves as mv
use Rattle.coap_client.specs.Turns.Moves.{Move, left_by}
use Rattle.coap_client_laws.proofs.Queueing.Closing.{Closing, quiet, goes_out, is_refused, sending_of}
use Rattle.coap_client_laws.proofs.Turning.BlockByBlock.{heard_in}
use Rattle.coap_client.proofs.Facts.Places.PlaceLemmas.{hit_self}
use Rattle.coap_client.proofs.Facts.Places.PlaceEffects.{final_hit}
use Rattle.coap_client.proofs.Facts.Places.PlaceEvents.{lapse_last, answer_last, LastOnly}
use Rattle.coap_client.proofs.Facts.Turning.Moves.{releases_none}
use Rattle.coap_client_laws.proofs.Turning.Turns.{Turned, left_with, fed_turned, ticked_turned}

-- a call or a cancel
abbrev pub IsLone : Operation → Type 0
IsLone (Calling number r t) = Unit {0}
IsLone (Cancelling number) = Unit {0}
IsLone op = ⊥

pub dropped_lone : (j : ℕ) (op : Operation) → IsLone op → dropped j (Some op) ≡ Some op
dropped_lone j (Calling number r t) lone = refl
dropped_lone j (Cancelling number) lone = refl
dropped_lone j _ lone = absurd lone

-- it runs on, with nothing sent; its next request is sent; or it is over
pub data Fate (sizes : Sizes) (t : List Call) (c : Call) (op : Operation) : Type 0 where
  runs_on : (own_of sizes (c ∷ t)).running ≡ Some op → sends (own_of sizes t) c ≡ None → Fate sizes t c op
  goes_on : (k : ℕ) (r : _) (tr next : Transfer) (m : Message) (x : Sending) → op ≡ Calling k r tr → hears c ≡ Some m
      → answer r tr m ≡ calls.Asks next
      → sends (own_of sizes t) c ≡ Some x → x.operation ≡ Calling k r next
      → (own_of sizes (c ∷ t)).running ≡ Some (Calling k r next) → Fate sizes t c op
  ends_it : (n : ℕ) → of_call op ≡ Some n → 1 ≤ final_of n (reports (own_of sizes t) c)
      → sends (own_of sizes t) c ≡ None
      → Fate sizes t c op

final_one : (k : ℕ) (report : Report) (o : Option Reported) → o ≡ of k report → is_value report ≡ false
    → 1 ≤ final_of k o
final_one k report o is last =
    let a : final_of k o ≡ final_of k (of k report) = ap (final_of k) is in
    let b = final_hit k k report last in
    let d = hit_self k in
    omega (arith, a, b, d)

done_last : (r : _) (t : Transfer) (m : Message) (final : Bool) (report : Report)
    → answer r t m ≡ calls.Ends final report → is_value report ≡ false
done_last r t m final report is = subst LastOnly is (answer_last r t m)

module _ (sizes : Sizes) (t : List Call) (c : Call) (op : Operation) (lone : IsLone op) (now : ℕ) (told : Option Event)
    (token : Result (List ℕ) AskRefusal) (request : Option Requested) where
  abbrev s : Own
  s = at now (own_of sizes t)

  abbrev m : ℕ
  m = max (own_of sizes t).clock now

  other : (o : Operation) → (own_of sizes t).running ≡ Some op → (own_of sizes t).running ≡ Some o → o ≡ op
  other o is k = let e : Some o ≡ Some op = sym k ∙ is in cc e

  -- nothing is asked for, and it runs on
  rests_by : (e : Effect) → e.own.running ≡ Some op → ((o : Operation) → e.deed ≡ Asks o → ⊥) → Closing m e token
      → own_of sizes (c ∷ t) ≡ left_with request (closed m e e.deed token)
      → sends (own_of sizes t) c ≡ sent_by e e.deed token → Fate sizes t c op
  rests_by e on quiet_so (quiet q none own_same report_same) own sending =
      runs_on (ap (λ (o : Own). o.running) own ∙ (ap (λ (o : Own). o.running) own_same ∙ on)) (sending ∙ none)
  rests_by e on quiet_so (goes_out o key asks given sends_it own_same report_same) own sending =
      absurd (quiet_so o asks)
  rests_by e on quiet_so (is_refused o why asks given none all) own sending = absurd (quiet_so o asks)

  -- it fails, or its cancel is over
  over_by : (k : ℕ) (report : Report) → is_value report ≡ false → (base : Own) → let e = is_over k report base in
      sends (own_of sizes t) c ≡ sent_by e e.deed token → reports (own_of sizes t) c ≡ (closed m e e.deed token).report
      → Closing m e token → Fate sizes t c (Cancelling k)
  over_by k report last base sending report_is (quiet q none own_same report_same) =
      ends_it k refl (final_one k report _ (report_is ∙ report_same) last) (sending ∙ none)
  over_by k report last base sending report_is (goes_out o key asks given sends_it own_same report_same) =
      absurd (releases_none (observation_of k base.observations) o asks)
  over_by k report last base sending report_is (is_refused o why asks given none all) =
      absurd (releases_none (observation_of k base.observations) o asks)

  failed_by : (o : Operation) → IsLone o → (u : Transfer → Bool) (report : Report) → is_value report ≡ false
      → sends (own_of sizes t) c ≡ sent_by (failed u report s (Some o)) (failed u report s (Some o)).deed token
      → reports (own_of sizes t) c ≡ (closed m (failed u report s (Some o))
      (failed u report s (Some o)).deed token).report → Closing m (failed u report s (Some o)) token
      → Fate sizes t c o
  failed_by (Calling k r tr) l u report last sending report_is cl =
      ends_it k refl (final_one k report _ report_is last) sending
  failed_by (Cancelling k) l u report last sending report_is cl =
      over_by k report last (record s { running = None }) sending report_is cl
  failed_by _ l u report last sending report_is cl = absurd l

  apart : (o : Operation) → (IsLone o → ⊥) → (own_of sizes t).running ≡ Some op → (own_of sizes t).running ≡ Some o
      → Fate sizes t c op
  apart o quiet_so is k = absurd (quiet_so (subst IsLone (sym (other o is k)) lone))

  fate_by : (mo : Move s m told) → Closing m (left_by s m told mo) token
      → own_of sizes (c ∷ t) ≡ left_with request (closed m (left_by s m told mo) (left_by s m told mo).deed token)
      → sends (own_of sizes t) c ≡ sent_by (left_by s m told mo) (left_by s m told mo).deed token
      → reports (own_of sizes t) c ≡ (closed m (left_by s m told mo) (left_by s m told mo).deed token).report
      → hears c ≡ heard_in told → (own_of sizes t).running ≡ Some op → Fate sizes t c op
  fate_by (mv.starts_next o queue none rest first quiet_so) cl own sending report heard is = let k : None
      ≡ Some op = sym none ∙ is in absurd (cc k)
  fate_by (mv.fetches k none rest quiet_so) cl own sending report heard is = let e : None ≡ Some op = sym none
      ∙ is in absurd (cc e)
  fate_by (mv.goes_on k r tr next a hears runs asks) cl own sending report heard is = by token own sending report
    where
      by : (z : Result (List ℕ) AskRefusal) → own_of sizes (c ∷ t)
          ≡ left_with request (closed m (left_by s m told (mv.goes_on k r tr next a hears runs asks))
          (Asks (Calling k r next)) z)
          → sends (own_of sizes t) c ≡ sent_by (left_by s m told (mv.goes_on k r tr next a hears runs asks))
          (Asks (Calling k r next)) z
          → reports (own_of sizes t) c ≡ (closed m (left_by s m told (mv.goes_on k r tr next a hears runs asks))
          (Asks (Calling k r next)) z).report → Fate sizes t c op
      by (Ok key) own sending report = goes_on k r tr next a
          (sending_of (left_by s m told (mv.goes_on k r tr next a hears runs asks)) (Calling k r next) key)
          (sym (other (Calling k r tr) is runs)) (heard ∙ ap heard_in hears) asks sending refl
          (ap (λ (o : Own). o.running) own)
      by (Err why) own sending report = subst (Fate sizes t c) (other (Calling k r tr) is runs)
          (ends_it k refl (final_one k NoIds _ report refl) sending)
  fate_by (mv.is_done k r tr final rep a hears runs ends_so) cl own sending report heard is =
      subst (Fate sizes t c) (other (Calling k r tr) is runs)
      (ends_it k refl (final_one k rep _ report (done_last r tr a final rep ends_so)) sending)
  fate_by (mv.registers k path a hears runs note) cl own sending report heard is =
      apart (Registering k path) (λ z. z) is runs
  fate_by (mv.refuses k path a hears runs note) cl own sending report heard is =
      apart (Registering k path) (λ z. z) is runs
  fate_by (mv.fetches_on k n a num size hears runs rest code asks) cl own sending report heard is =
      apart (Fetching k) (λ z. z) is runs
  fate_by (mv.fetched k n a hears runs rest code asks) cl own sending report heard is =
      apart (Fetching k) (λ z. z) is runs
  fate_by (mv.gives_up k a hears runs) cl own sending report heard is = apart (Fetching k) (λ z. z) is runs
  fate_by (mv.fetched_none k a hears runs) cl own sending report heard is = apart (Fetching k) (λ z. z) is runs
  fate_by (mv.cancels k a hears runs) cl own sending report heard is =
      subst (Fate sizes t c) (other (Cancelling k) is runs)
      (over_by k Cancelled refl (record s { running = None }) sending report cl)
  fate_by (mv.is_dropped a hears runs) cl own sending report heard is = apart Dropped (λ z. z) is runs
  fate_by (mv.fails e un) cl own sending report heard is =
      failed_by op lone (λ z. true) (lapse e) (lapse_last e)
      (subst (λ r. sends (own_of sizes t) c ≡ sent_by (failed (λ z. true) (lapse e) s r)
      (failed (λ z. true) (lapse e) s r).deed token) is sending)
      (subst (λ r. reports (own_of sizes t) c ≡ (closed m (failed (λ z. true) (lapse e) s r)
      (failed (λ z. true) (lapse e) s r).deed token).report) is report)
      (subst (λ r. Closing m (failed (λ z. true) (lapse e) s r) token) is cl)
  fate_by (mv.is_ended o a notes found note) cl own sending report heard is =
      rests_by (left_by s m told (mv.is_ended o a notes found note))
      (ap (dropped o.number) is ∙ dropped_lone o.number op lone)
      (releases_none (observation_of o.number s.observations)) cl own sending
  fate_by (mv.renews o a notes found note newer) cl own sending report heard is =
      runs_on (ap (λ (z : Own). z.running) own ∙ (ap (dropped o.number) is ∙ dropped_lone o.number op lone)) sending
  fate_by (mv.passes_by o a notes found note newer) cl own sending report heard is =
      runs_on (ap (λ (z : Own). z.running) own ∙ is) sending
  fate_by _ cl own sending report heard is = runs_on (ap (λ (o : Own). o.running) own ∙ is) sending

fate_turned : (sizes : Sizes) (t : List Call) (c : Call) (op : Operation) → IsLone op
    → (own_of sizes t).running ≡ Some op
    → Turned sizes t c → Fate sizes t c op
fate_turned sizes t c op lone is k = fate_by sizes t c op lone k.now k.told k.token k.request k.move k.closes k.own_is
    k.sends_is k.reports_is k.hears_is is

pub fate : (sizes : Sizes) (t : List Call) (c : Call) (op : Operation) → IsLone op → (own_of sizes t).running ≡ Some op
    → Fate sizes t c op
fate sizes t (Calls now r (Ok n)) op lone is = runs_on is refl
fate sizes t (Observes now path (Ok n)) op lone is = runs_on is refl
fate sizes t (Cancels now k None) op lone is = runs_on is refl
fate sizes t (Forgets k kept true) op lone is = runs_on (ap (dropped k) is ∙ dropped_lone k op lone) refl
fate sizes t (Feeds now from bytes w up settled event sent token kept) op lone is =
    fate_turned sizes t (Feeds now from bytes w up settled event sent token kept) op lone is
    (fed_turned sizes t now from bytes w up settled event sent token kept)
fate sizes t (Ticks now w below turn sent token kept answer) op lone is =
    fate_turned sizes t (Ticks now w below turn sent token kept answer) op lone is
    (ticked_turned sizes t now w below turn sent token kept answer)
fate sizes t _ op lone is = runs_on is refl
