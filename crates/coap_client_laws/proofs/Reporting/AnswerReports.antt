-- Which reports an answer alone gives: a body, a 2.03, success and failure come of the answer to the call that runs.
use Rattle.std.proofs.Common.{◌≡◌, ◌⊎◌, inl, inr, ℕ, max, Bool, true, false, Option, Some, None, List, refl, ap, sym}
use Rattle.std.proofs.Common.{subst, ◌∙◌}
use Rattle.coap_codec.specs.Message.{Message}
use Rattle.coap_block.specs.Sizes.{Sizes}
use Rattle.coap_block.specs.declared.fetch_verdict.Verdict.{Verdict}
use Rattle.coap_block.specs.declared.fetch_verdict.Verdict.TheVariants as verdict
use Rattle.coap_block.specs.FetchStep.{FetchState}
use Rattle.coap_block.specs.FetchStep as F
use Rattle.coap_exchange.specs.declared.asker.Event.{Event}
use Rattle.coap_exchange.specs.declared.asker.Event.TheVariants as event_of
use Rattle.coap_client.specs.Trace.{Request, Report, NoIds, Reported, Call, Feeds, Ticks}
use Rattle.coap_client.specs.Own.{Transfer, Operation, Calling, Registering, Cancelling, Own}
use Rattle.coap_client.specs.Responses.{part}
use Rattle.coap_client.specs.Reports.{lapse}
use Rattle.coap_client.specs.Calls.{answer}
use Rattle.coap_client.specs.Calls as calls
use Rattle.coap_client.specs.Effects.{Effect, has_sent, of}
use Rattle.coap_client.specs.Fetching.{value}
use Rattle.coap_client.specs.Events.{failed}
use Rattle.coap_client.specs.Deeds.{at}
use Rattle.coap_client.specs.Steps.{reports}
use Rattle.coap_client.specs.Law.{own_of}
use Rattle.coap_client_laws.specs.Follows.OfAnswers.{is_by_answer}
use Rattle.coap_client.specs.Sendings.{hears}
use Rattle.coap_client.specs.Turns.Moves as mv
use Rattle.coap_client.specs.Turns.Moves.{Move, left_by}
use Rattle.coap_client_laws.proofs.Queueing.Closing.{Closing, quiet, goes_out, is_refused}
use Rattle.coap_client_laws.proofs.Turning.BlockByBlock.{heard_in}
use Rattle.coap_client_laws.proofs.Turning.Turns.{Turned, fed_turned, ticked_turned}

abbrev answer_reported : Option Reported → Bool
answer_reported None = false
answer_reported (Some x) = is_by_answer x.report

-- what gives none

lapse_none : (e : Event) → is_by_answer (lapse e) ≡ false
lapse_none (event_of.Answer m) = refl
lapse_none _ = refl

value_none : (k sequence : ℕ) (f : FetchState) (m : Message) (v : Verdict)
    → answer_reported (value k sequence f m v) ≡ false
value_none k sequence f m (verdict.Refuse why) = refl
value_none k sequence f m _ = refl

failed_none : (u : Transfer → Bool) (report : Report) (s : Own) (running : Option Operation)
    → is_by_answer report ≡ false → answer_reported (failed u report s running).report ≡ false
failed_none u report s (Some (Calling k r t)) h = h
failed_none u report s (Some (Registering k path)) h = h
failed_none u report s (Some (Cancelling k)) h = h
failed_none u report s _ h = refl

-- the answer that gives the report
pub record GivesReport (s : Own) (heard : Option Message) (k : ℕ) (report : Report) : Type 0 where
  pub request : Request
  pub transfer : Transfer
  pub message : Message
  pub runs : s.running ≡ Some (Calling k request transfer)
  pub heard_it : heard ≡ Some message
  pub final : Bool
  pub ends_so : answer request transfer message ≡ calls.Ends final report

move_gives : (s : Own) (now : ℕ) (told : Option Event) (mo : Move s now told)
    → (answer_reported (left_by s now told mo).report ≡ false)
    ⊎ ((k : ℕ) × (report : Report) × ((left_by s now told mo).report ≡ of k report)
    × GivesReport s (heard_in told) k report)
move_gives s now told (mv.is_done k r tr final rep a hears_it runs ends_so) =
    inr (
      k,
      rep,
      refl,
      record {
        request = r;
        transfer = tr;
        message = a;
        runs = runs;
        heard_it = ap heard_in hears_it;
        final = final;
        ends_so = ends_so;
      },
    )
move_gives s now told (mv.registers k path a hears_it runs note) =
    inl (value_none k _ (F.start s.sizes 0) a (part (F.start s.sizes 0) a))
move_gives s now told (mv.fails e un) = inl (failed_none (λ t. true) (lapse e) s s.running (lapse_none e))
move_gives s now told (mv.renews o a notes found note newer) =
    inl (value_none o.number _ (F.start s.sizes 0) a (part (F.start s.sizes 0) a))
move_gives s now told _ = inl refl

module _ (sizes : Sizes) where
  given_from : (t : List Call) (c : Call) → Turned sizes t c → (k : ℕ) (report : Report) → is_by_answer report ≡ true
      → reports (own_of sizes t) c ≡ of k report → GivesReport (own_of sizes t) (hears c) k report
  given_from t c z k report is_it made = by z.closes
      (move_gives (at z.now (own_of sizes t)) (max (own_of sizes t).clock z.now) z.told z.move)
    where
      e : Effect
      e = left_by (at z.now (own_of sizes t)) (max (own_of sizes t).clock z.now) z.told z.move

      shows : (o : Option Reported) → reports (own_of sizes t) c ≡ o → answer_reported o ≡ false → ⊥
      shows o is none = let a : answer_reported (of k report) ≡ false = ap answer_reported (sym made ∙ is)
          ∙ none in cc (a, is_it)

      by : Closing (max (own_of sizes t).clock z.now) e z.token
          → (answer_reported e.report ≡ false) ⊎ ((j : ℕ) × (rep : Report) × (e.report ≡ of j rep)
          × GivesReport (at z.now (own_of sizes t)) (heard_in z.told) j rep)
          → GivesReport (own_of sizes t) (hears c) k report
      by (goes_out op key asks given sends_it own_same report_same) m =
          absurd (shows None (z.reports_is ∙ report_same) refl)
      by (is_refused op why asks given none all) m =
          absurd (shows (failed has_sent NoIds e.own (Some op)).report
          (z.reports_is ∙ ap (λ (x : Effect). x.report) all) (failed_none has_sent NoIds e.own (Some op) refl))
      by (quiet q none own_same report_same) (inl m) = absurd (shows e.report (z.reports_is ∙ report_same) m)
      by (quiet q none own_same report_same) (inr m) =
          let same : of m.0 m.1 ≡ of k report = sym m.2 ∙ (sym report_same ∙ (sym z.reports_is ∙ made)) in
          let record_same : ◌≡◌ {A = Reported} (record { number = m.0; report = m.1 })
          (record { number = k; report = report }) = cc same in
          let n : m.0 ≡ k = ap (λ (x : Reported). x.number) record_same in
          let rep : m.1 ≡ report = ap (λ (x : Reported). x.report) record_same in
          let g0 = m.3 in
          let g : GivesReport (own_of sizes t) (hears c) m.0 m.1
          = record {
            request = g0.request;
            transfer = g0.transfer;
            message = g0.message;
            runs = g0.runs;
            heard_it = z.hears_is ∙ g0.heard_it;
            final = g0.final;
            ends_so = g0.ends_so;
          }
          in
          subst (λ j. GivesReport (own_of sizes t) (hears c) j report) n
          (subst (GivesReport (own_of sizes t) (hears c) m.0) rep g)

  pub gives_of : (t : List Call) (c : Call) (k : ℕ) (report : Report) → is_by_answer report ≡ true
      → reports (own_of sizes t) c ≡ of k report → GivesReport (own_of sizes t) (hears c) k report
  gives_of t (Feeds now from bytes w up settled event sent token was) k report is_it made =
      given_from t (Feeds now from bytes w up settled event sent token was)
      (fed_turned sizes t now from bytes w up settled event sent token was) k report is_it made
  gives_of t (Ticks now w below turn sent token was answer) k report is_it made =
      given_from t (Ticks now w below turn sent token was answer)
      (ticked_turned sizes t now w below turn sent token was answer) k report is_it made
  gives_of t _ k report is_it made = absurd (cc made)
