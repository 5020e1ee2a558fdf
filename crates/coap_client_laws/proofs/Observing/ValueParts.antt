-- Which part of a representation gives a value.
use Rattle.std.proofs.Common.{◌≡◌, inl, inr, ℕ, Bool, true, false, cond, ◌&&◌, Option, Some, None, List, ◌∷◌, ◌++◌, []}
use Rattle.std.proofs.Common.{refl, ap, sym, subst, ◌∙◌, Result}
use Rattle.std.specs.Prelude.{◌==◌, is_some}
use Rattle.coap_types.specs.declared.option_number.TheConstants.{OBSERVE as observe}
use Rattle.coap_types.specs.OptionValues.{value_of}
use Rattle.coap_codec.specs.Message.{Message}
use Rattle.coap_block.specs.declared.fetch_verdict.Verdict.{Verdict}
use Rattle.coap_block.specs.declared.fetch_verdict.Verdict.TheVariants as verdict
use Rattle.coap_block.specs.FetchStep.{FetchState}
use Rattle.coap_block.specs.FetchStep as F
use Rattle.coap_exchange.specs.declared.asker.AskRefusal.{AskRefusal}
use Rattle.coap_exchange.specs.declared.asker.Event.{Event}
use Rattle.coap_observe.specs.Newer.{is_newer}
use Rattle.coap_client.specs.Trace.{Report, Value, NoIds, Reported}
use Rattle.coap_client.specs.Trace as reported
use Rattle.coap_client.specs.Own.{Operation, Fetching, Notified, Observation, Own}
use Rattle.coap_client.specs.Observations.{observation_of, rest_of}
use Rattle.coap_client.specs.Responses.{content, said, is_notification, sequence_in, tag_in, format_in, part}
use Rattle.coap_client.specs.Reports.{lapse}
use Rattle.coap_client.specs.Effects.{Effect, of, has_sent}
use Rattle.coap_client.specs.Fetching.{value}
use Rattle.coap_client.specs.Events.{failed, closed}
use Rattle.coap_client.specs.Sendings.{runs_fetch}
use Rattle.coap_client_laws.specs.Follows.Newer.{newly, registers, renews, taken_by}
use Rattle.coap_client.specs.Turns.Moves as mv
use Rattle.coap_client.specs.Turns.Moves.{Move, left_by, Hears}
use Rattle.coap_client_laws.proofs.Queueing.Closing.{Closing, quiet, goes_out, is_refused}
use Rattle.coap_client.proofs.Facts.Places.PlaceLemmas.{same_number}
use Rattle.coap_client.proofs.Facts.Places.PlaceEvents.{lapse_last, answer_last, LastOnly}
use Rattle.coap_client_laws.specs.Follows.Rising.{value_reported}
use Rattle.coap_client_laws.proofs.Observing.ObservationSources.{In, failed_value, last_value}

-- a notification is a 2.05
pub notification_code : (m : Message) → is_notification m ≡ true → m.code ≡ content
notification_code m h = by (m.code == content) refl h
  where
    by : (b : Bool) → (m.code == content) ≡ b → (b && is_some (value_of observe (said m))) ≡ true → m.code ≡ content
    by true e h = same_number m.code content e
    by false e h = absurd (cc h)

-- what waits to be fetched, in the list
pub found_rest : (k : ℕ) (os : List Observation) (n : Notified) → rest_of k os ≡ Some n
    → (p : Observation) × In p os × (p.number ≡ k) × (p.rest ≡ Some n)
found_rest k [] n h = absurd (cc h)
found_rest k (o ∷ os) n h = by (o.number == k) refl h (found_rest k os n)
  where
    by : (b : Bool) → (o.number == k) ≡ b → elim (cond b (Some o) (observation_of k os))
        [ None ↦ None | Some p ↦ p.rest ] ≡ Some n
        → (rest_of k os ≡ Some n → (p : Observation) × In p os × (p.number ≡ k) × (p.rest ≡ Some n))
        → (p : Observation) × In p (o ∷ os) × (p.number ≡ k) × (p.rest ≡ Some n)
    by true e h ih = (o, inl refl, same_number o.number k e, h)
    by false e h ih = let r = ih h in (r.0, inr r.1, r.2, r.3)

pub fetch_in : (op : Operation) (k : ℕ) → runs_fetch k (Some op) ≡ true → op ≡ Fetching k
fetch_in (Fetching n) k h = ap (λ j. Fetching j) (same_number n k h)
fetch_in _ k h = absurd (cc h)

-- which part gives a value

pub record ValueAs (j sequence : ℕ) (f : FetchState) (m : Message) (v : Verdict) (k number : ℕ) (tag : Option (List ℕ))
    (format : Option ℕ) (body : List ℕ) : Type 0 where
  pub done_so : v ≡ verdict.Done
  pub number_is : j ≡ k
  pub sequence_is : number ≡ sequence
  pub tag_is : tag ≡ tag_in m
  pub format_is : format ≡ format_in m
  pub body_is : body ≡ f.gathered ++ m.payload

value_as : (j sequence : ℕ) (f : FetchState) (m : Message) (v : Verdict) (k number : ℕ) (tag : Option (List ℕ))
    (format : Option ℕ) (body : List ℕ) → value j sequence f m v ≡ of k (Value number tag format body)
    → ValueAs j sequence f m v k number tag format body
value_as j sequence f m verdict.Done k number tag format body h =
    let same : ◌≡◌ {A = Reported} (record {
      number = j;
      report = Value sequence (tag_in m) (format_in m) (f.gathered ++ m.payload);
    })
    (record { number = k; report = Value number tag format body }) = cc h in
    let shown : Value sequence (tag_in m) (format_in m) (f.gathered ++ m.payload)
    ≡ Value number tag format body = ap (λ (x : Reported). x.report) same in
    record {
      done_so = refl;
      number_is = ap (λ (x : Reported). x.number) same;
      sequence_is = cc shown;
      tag_is = cc shown;
      format_is = cc shown;
      body_is = cc shown;
    }
value_as j sequence f m _ k number tag format body h = absurd (cc h)

-- what a report says that shows a value
pub value_in : (o : Option Reported) (k : ℕ) → value_reported o ≡ Some k
    → (number : ℕ) × (tag : Option (List ℕ)) × (format : Option ℕ) × (body : List ℕ)
    × (o ≡ of k (Value number tag format body))
value_in None k h = absurd (cc h)
value_in (Some r) k h = by r.report refl h
  where
    by : (report : Report) → r.report ≡ report → cond (reported.is_value report) (Some r.number) None ≡ Some k
        → (number : ℕ) × (tag : Option (List ℕ)) × (format : Option ℕ) × (body : List ℕ)
        × (Some r ≡ of k (Value number tag format body))
    by (Value number tag format body) e h = let n : r.number
        ≡ k = cc h in (
          number,
          tag,
          format,
          body,
          ap (λ x. of r.number x) e
              ∙ ap (λ i. of i (Value number tag format body)) n,
        )
    by (reported.Body tag format body) e h = absurd (cc h)
    by (reported.Valid tag) e h = absurd (cc h)
    by (reported.Done code) e h = absurd (cc h)
    by (reported.Ended code) e h = absurd (cc h)
    by reported.Cancelled e h = absurd (cc h)
    by (reported.Failed code) e h = absurd (cc h)
    by reported.Timeout e h = absurd (cc h)
    by reported.Reset e h = absurd (cc h)
    by reported.NoResponse e h = absurd (cc h)
    by reported.Changed e h = absurd (cc h)
    by reported.BadBlock e h = absurd (cc h)
    by reported.NoTag e h = absurd (cc h)
    by reported.TooLarge e h = absurd (cc h)
    by NoIds e h = absurd (cc h)

-- in a move: a notification that is whole, or the last part that was fetched
pub data Gives (s : Own) (now : ℕ) (told : Option Event) (k number : ℕ) (tag : Option (List ℕ)) (format : Option ℕ)
    (body : List ℕ) : Type 0 where
  at_once :
      (m : Message) → taken_by s now told ≡ newly k now m
      → ValueAs k (sequence_in m) (F.start s.sizes 0) m (part (F.start s.sizes 0) m) k number tag format body
      → Gives s now told k number tag format body
  by_fetch :
      (n : Notified) (m : Message) → Hears told m → s.running ≡ Some (Fetching k) → rest_of k s.observations ≡ Some n
      → m.code ≡ content → part n.fetch m ≡ verdict.Done
      → ValueAs k n.sequence n.fetch m verdict.Done k number tag format body → Gives s now told k number tag format body

module _ (s : Own) (now : ℕ) (told : Option Event) (k number : ℕ) (tag : Option (List ℕ)) (format : Option ℕ)
    (body : List ℕ) where
  abbrev Given : Option Reported → Type 0
  Given report = report ≡ of k (Value number tag format body) → Gives s now told k number tag format body

  silent_gives : (report : Option Reported) → value_reported report ≡ None → Given report
  silent_gives report none h = let a : None ≡ Some k = sym none ∙ ap value_reported h in absurd (cc a)

  first_gives : (j : ℕ) (m : Message) → taken_by s now told ≡ newly j now m
      → Given (value j (sequence_in m) (F.start s.sizes 0) m (part (F.start s.sizes 0) m))
  first_gives j m is h =
      let v = value_as j (sequence_in m) (F.start s.sizes 0) m
      (part (F.start s.sizes 0) m) k number tag format body h in
      at_once m (is ∙ ap (λ i. newly i now m) v.number_is)
      (record {
        done_so = v.done_so;
        number_is = refl;
        sequence_is = v.sequence_is;
        tag_is = v.tag_is;
        format_is = v.format_is;
        body_is = v.body_is;
      })

  pub move_gives : (mo : Move s now told) → Given (left_by s now told mo).report
  move_gives (mv.is_done j r tr final rep a hears_it runs ends_so) h =
      silent_gives (of j rep) (last_value j rep (subst LastOnly ends_so (answer_last r tr a))) h
  move_gives (mv.registers j path a hears_it runs note) h =
      first_gives j a (ap (taken_by s now) hears_it
      ∙ (ap (λ r. registers r now a) runs ∙ ap (λ b. cond b (newly j now a) None) note)) h
  move_gives (mv.refuses j path a hears_it runs note) h = silent_gives (of j (reported.Ended a.code)) refl h
  move_gives (mv.fetched j n a hears_it runs rest code done) h =
      let v = value_as j n.sequence n.fetch a verdict.Done k number tag format body h in
      by_fetch n a hears_it (runs ∙ ap (λ i. Some (Fetching i)) v.number_is)
      (subst (λ i. rest_of i s.observations ≡ Some n) v.number_is rest) code done
      (record {
        done_so = refl;
        number_is = refl;
        sequence_is = v.sequence_is;
        tag_is = v.tag_is;
        format_is = v.format_is;
        body_is = v.body_is;
      })
  move_gives (mv.cancels j a hears_it runs) h = silent_gives (of j reported.Cancelled) refl h
  move_gives (mv.fails e un) h = silent_gives (failed (λ t. true) (lapse e) s s.running).report
      (failed_value (λ t. true) (lapse e) s s.running (lapse_last e)) h
  move_gives (mv.is_ended o a notes found note) h = silent_gives (of o.number (reported.Ended a.code)) refl h
  move_gives (mv.renews o a notes found note newer) h =
      first_gives o.number a
      (ap (taken_by s now) notes ∙ (ap (λ z. renews z now a) found
      ∙ (ap (λ b. cond b (cond (is_newer o.watch.mark (sequence_in a) now) (newly o.number now a) None) None) note
      ∙ ap (λ b. cond b (newly o.number now a) None) newer))) h
  move_gives _ h = silent_gives None refl h

  pub closed_gives : (e : Effect) (token : Result (List ℕ) AskRefusal) → Given e.report → Closing now e token
      → Given (closed now e e.deed token).report
  closed_gives e token g (quiet q none own_same report_same) h = g (sym report_same ∙ h)
  closed_gives e token g (goes_out op key asks given sends_it own_same report_same) h =
      silent_gives (closed now e e.deed token).report (ap value_reported report_same) h
  closed_gives e token g (is_refused op why asks given none all) h =
      silent_gives (closed now e e.deed token).report
      (ap (λ (c : Effect). value_reported c.report) all ∙ failed_value has_sent NoIds e.own (Some op) refl) h
