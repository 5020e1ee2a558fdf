-- Where each live observation comes from: it was there before, or a notification of it came.
use Rattle.std.proofs.Common.{◌≡◌, ◌≤◌, ◌⊎◌, inl, inr, ℕ, max, Bool, true, false, cond, not, ◌&&◌, Option, Some, None}
use Rattle.std.proofs.Common.{List, ◌∷◌, [], refl, ap, sym, subst, ◌∙◌, Result, Ok, Err, arith}
use Rattle.std.specs.Prelude.{◌==◌}
use Rattle.coap_types.proofs.Facts.Traces.{Ever_append}
use Rattle.coap_codec.specs.Message.{Message}
use Rattle.coap_block.specs.Sizes.{Sizes}
use Rattle.coap_block.specs.declared.fetch_verdict.Verdict.TheVariants as verdict
use Rattle.coap_block.specs.FetchStep as F
use Rattle.coap_exchange.specs.declared.asker.AskRefusal.{AskRefusal}
use Rattle.coap_exchange.specs.declared.asker.Event.{Event}
use Rattle.coap_observe.specs.Newer.{is_newer, arrived}
use Rattle.coap_client.specs.Trace.{is_value, Report, NoIds, Call, Calls, Observes, Cancels, Forgets, Feeds, Ticks}
use Rattle.coap_client.specs.Trace.{NextOut, NextReport, Asked}
use Rattle.coap_client.specs.Own.{Transfer, Operation, Calling, Fetching, Cancelling, Dropped, Observation, Own}
use Rattle.coap_client.specs.Observations.{rest_of}
use Rattle.coap_client.specs.Responses.{sequence_in, part}
use Rattle.coap_client.specs.Reports.{lapse}
use Rattle.coap_client.specs.Effects.{Effect, of, is_upload, has_sent}
use Rattle.coap_client.specs.Fetching.{value, rest as rest_left}
use Rattle.coap_client.specs.Observing.{begun, first_rest, first_value}
use Rattle.coap_client.specs.Events.{failed, closed}
use Rattle.coap_client.specs.Deeds.{at}
use Rattle.coap_client.specs.Steps.{reports}
use Rattle.coap_client.specs.Law.{own_of}
use Rattle.coap_client.specs.Places.{in_running, in_observations, places}
use Rattle.coap_client_laws.specs.Follows.Newer.{newly, registers, renews, taken_by, notifies}
use Rattle.coap_client.specs.Sendings.{hears}
use Rattle.coap_client.specs.Turns.Moves as mv
use Rattle.coap_client.specs.Turns.Moves.{Move, left_by}
use Rattle.coap_client_laws.proofs.Queueing.Closing.{Closing, quiet, goes_out, is_refused}
use Rattle.coap_client.proofs.Facts.Places.PlaceLemmas.{same_number, number_self, hit_self}
use Rattle.coap_client.proofs.Facts.Places.PlaceEvents.{lapse_last, answer_last, LastOnly}
use Rattle.coap_client.proofs.Facts.Places.PlaceEffects.{flip_other}
use Rattle.coap_client_laws.proofs.Turning.BlockByBlock.{heard_in}
use Rattle.coap_client_laws.proofs.Turning.Turns.{Turned, fed_turned, ticked_turned}
use Rattle.coap_client_laws.specs.Follows.Notified.{is_newly_of}
use Rattle.coap_client_laws.specs.Follows.Rising.{value_reported}
use Rattle.coap_client_laws.proofs.Observing.Marks.{unheard_none, answer_none}
use Rattle.coap_client_laws.proofs.Observing.ObservationSources.{In, Source, comes, failed_value, first_silent, goes_on}
use Rattle.coap_client_laws.proofs.Observing.ObservationSources.{in_changed, in_count, in_failed, in_held, in_without}
use Rattle.coap_client_laws.proofs.Observing.ObservationSources.{kept}
use Rattle.coap_client_laws.proofs.Observing.ObservationSources.{last_value, no_value, rests, same_self, silent}
use Rattle.coap_client_laws.proofs.Observing.ObservationSources.{value_number, without_rest}

-- each move
module _ (s : Own) (now : ℕ) (told : Option Event) (at_most : (n : ℕ) → places n s ≤ 1) where
  abbrev By : Option ℕ → Observation → Type 0
  By shown x = Source s.sizes s.observations s.running (taken_by s now told) (heard_in told) shown x

  quietly : taken_by s now told ≡ None → (n : ℕ) → is_newly_of n (taken_by s now told) ≡ false
  quietly none n = ap (is_newly_of n) none

  -- as it was, where nothing is taken and no value is reported
  stays_by : taken_by s now told ≡ None → (shown : Option ℕ) → shown ≡ None → (x : Observation) → In x s.observations
      → By shown x
  stays_by none shown is x h = kept x h (same_self x x refl) refl (quietly none x.number)
      (λ e. no_value x.number (sym is ∙ e))

  failed_by : taken_by s now told ≡ None → (u : Transfer → Bool) (report : Report) → is_value report ≡ false
      → (running : Option Operation) (x : Observation) → In x (failed u report s running).own.observations
      → By (value_reported (failed u report s running).report) x
  failed_by none u report last running x h =
      let a = in_failed u report s running x h in
      let o = a.0 in
      let v = value_reported (failed u report s running).report in
      let is : v ≡ None = failed_value u report s running last in
      elim a.2 [
        | inl e ↦ kept o a.1 (same_self o x e) (ap (λ (y : Observation). y.rest) e) (quietly none x.number)
            (λ z. no_value x.number (sym is ∙ z))
        | inr e ↦ rests o a.1 (record {
          number = ap (λ (y : Observation). y.number) e;
          mark = ap (λ (y : Observation). y.watch.mark) e;
        }) (ap (λ (y : Observation). y.rest) e)
            (quietly none x.number)
      ]

  -- a notification of one, the others stay
  others_by : (k : ℕ) (m : Message) → taken_by s now told ≡ newly k now m → (x : Observation) → In x s.observations
      → (k == x.number) ≡ false → By (value_reported (first_value k s.sizes m)) x
  others_by k m is x h apart =
      kept x h (same_self x x refl) refl (ap (is_newly_of x.number) is ∙ apart)
      (λ z. (let e = value_number k (sequence_in m) (F.start s.sizes 0) m
      (part (F.start s.sizes 0) m) x.number z in let f : (k == x.number) ≡ true = ap (λ i. k == i) (sym e)
      ∙ number_self k in cc (apart, f)))

  comes_by : (k : ℕ) (m : Message) → taken_by s now told ≡ newly k now m → (x : Observation) → k ≡ x.number
      → x.watch.mark ≡ Some (record { number = sequence_in m; at = now }) → x.rest ≡ first_rest s.sizes m
      → By (value_reported (first_value k s.sizes m)) x
  comes_by k m is x number mark rest =
      comes (record { number = k; mark = record { number = sequence_in m; at = now }; message = m }) is number mark
      (λ r e. (let f : first_rest s.sizes m ≡ Some r = sym rest ∙ e in (f, first_silent k s.sizes m r x.number f)))

  source_by : (mo : Move s now told) (x : Observation) → In x (left_by s now told mo).own.observations
      → By (value_reported (left_by s now told mo).report) x
  source_by (mv.rests un) x h = stays_by (unheard_none s now told un) None refl x h
  source_by (mv.copies q) x h = stays_by (ap (taken_by s now) q) None refl x h
  source_by (mv.starts_next op queue none rest first q) x h = stays_by (ap (taken_by s now) q) None refl x h
  source_by (mv.fetches k none rest q) x h = stays_by (ap (taken_by s now) q) None refl x h
  source_by (mv.goes_on k r tr next a hears_it runs asks) x h =
      stays_by (answer_none s now told a (Calling k r tr) (λ z. refl) hears_it runs) None refl x h
  source_by (mv.is_done k r tr final rep a hears_it runs ends_so) x h =
      stays_by (answer_none s now told a (Calling k r tr) (λ z. refl) hears_it runs) (value_reported (of k rep))
      (last_value k rep (subst LastOnly ends_so (answer_last r tr a))) x
      (in_held s (not final && is_upload tr) (of k rep) x h)
  source_by (mv.registers k path a hears_it runs note) x h =
      let is : taken_by s now told ≡ newly k now a = ap (taken_by s now) hears_it
      ∙ (ap (λ r. registers r now a) runs ∙ ap (λ b. cond b (newly k now a) None) note) in
      let p = at_most k in
      let q = ap (in_running k) runs in
      let one = hit_self k in
      let none : in_observations k s.observations ≡ 0 = omega (arith, p, q, one) in
      by is none (Ever_append (λ o. o ≡ x) s.observations (begun k path s.sizes now a ∷ []) h)
    where
      by : taken_by s now told ≡ newly k now a → in_observations k s.observations ≡ 0
          → In x s.observations ⊎ In x (begun k path s.sizes now a ∷ [])
          → By (value_reported (first_value k s.sizes a)) x
      by is none (inl there) = others_by k a is x there (other (k == x.number) refl)
        where
          other : (b : Bool) → (k == x.number) ≡ b → b ≡ false
          other false e = refl
          other true e = let c = in_count x s.observations there in let d : in_observations x.number s.observations
              ≡ 0 = subst (λ i. in_observations i s.observations ≡ 0) (same_number k x.number e) none in absurd
              (omega (arith, c, d))
      by is none (inr (inl e)) = comes_by k a is x (ap (λ (y : Observation). y.number) e)
          (sym (ap (λ (y : Observation). y.watch.mark) e)) (sym (ap (λ (y : Observation). y.rest) e))
      by is none (inr (inr there)) = absurd there
  source_by (mv.refuses k path a hears_it runs note) x h =
      stays_by (ap (taken_by s now) hears_it ∙ (ap (λ r. registers r now a) runs
      ∙ ap (λ b. cond b (newly k now a) None) note)) None refl x h
  source_by (mv.fetches_on k n a num size hears_it runs rest code asks) x h =
      let none = answer_none s now told a (Fetching k) (λ z. refl) hears_it runs in
      let i = in_changed k (λ o. record o { rest = rest_left n.sequence n.fetch a (verdict.Ask num size) })
      s.observations x h in
      let o = i.0 in
      elim i.2 [
        | inl e ↦ (
            let number : x.number ≡ o.number = ap (λ (y : Observation). y.number) e.1 in
            let is : k ≡ x.number = sym (same_number o.number k e.0) ∙ sym number in
            goes_on o n a num size i.1 (record { number = number; mark = ap (λ (y : Observation). y.watch.mark) e.1 })
            (runs ∙ ap (λ j. Some (Fetching j)) is) (subst (λ j. rest_of j s.observations ≡ Some n) is rest)
            (ap heard_in hears_it) code asks
            (ap (λ (y : Observation). y.rest) e.1) (quietly none x.number) (no_value x.number))
        | inr e ↦ kept o i.1 (same_self o x e.1) (ap (λ (y : Observation). y.rest) e.1) (quietly none x.number)
            (no_value x.number)
      ]
  source_by (mv.fetched k n a hears_it runs rest code done) x h =
      let none = answer_none s now told a (Fetching k) (λ z. refl) hears_it runs in
      let i = in_changed k (λ o. record o { rest = None }) s.observations x h in
      let o = i.0 in
      elim i.2 [
        | inl e ↦ rests o i.1 (record {
          number = ap (λ (y : Observation). y.number) e.1;
          mark = ap (λ (y : Observation). y.watch.mark) e.1;
        }) (ap (λ (y : Observation). y.rest) e.1)
            (quietly none x.number)
        | inr e ↦ kept o i.1 (same_self o x e.1) (ap (λ (y : Observation). y.rest) e.1) (quietly none x.number) (λ z. (
            let same = value_number k n.sequence n.fetch a verdict.Done x.number z in
            let f : (o.number == k) ≡ true = ap (λ j. j == k) (sym (ap (λ (y : Observation). y.number) e.1) ∙ sym same)
            ∙ number_self k in
            let apart = e.0 in
            cc (apart, f)))
      ]
  source_by (mv.gives_up k a hears_it runs) x h =
      let none = answer_none s now told a (Fetching k) (λ z. refl) hears_it runs in
      let i = in_changed k (λ o. record o { rest = None }) s.observations x h in
      let o = i.0 in
      elim i.2 [
        | inl e ↦ rests o i.1 (record {
          number = ap (λ (y : Observation). y.number) e.1;
          mark = ap (λ (y : Observation). y.watch.mark) e.1;
        }) (ap (λ (y : Observation). y.rest) e.1)
            (quietly none x.number)
        | inr e ↦ kept o i.1 (same_self o x e.1) (ap (λ (y : Observation). y.rest) e.1) (quietly none x.number)
            (no_value x.number)
      ]
  source_by (mv.fetched_none k a hears_it runs) x h =
      stays_by (answer_none s now told a (Fetching k) (λ z. refl) hears_it runs) None refl x h
  source_by (mv.cancels k a hears_it runs) x h =
      stays_by (answer_none s now told a (Cancelling k) (λ z. refl) hears_it runs) None refl x
      (in_without k s.observations x h)
  source_by (mv.is_dropped a hears_it runs) x h =
      stays_by (answer_none s now told a Dropped (λ z. refl) hears_it runs) None refl x h
  source_by (mv.fails e un) x h = failed_by (unheard_none s now told un) (λ t. true) (lapse e)
      (lapse_last e) s.running x h
  source_by (mv.is_ended o a notes found note) x h =
      stays_by (ap (taken_by s now) notes ∙ (ap (λ z. renews z now a) found
      ∙ ap (λ b. cond b (cond (is_newer o.watch.mark (sequence_in a) now) (newly o.number now a) None) None) note))
      None refl x (in_without o.number s.observations x h)
  source_by (mv.renews o a notes found note newer) x h =
      let is : taken_by s now told ≡ newly o.number now a = ap (taken_by s now) notes
      ∙ (ap (λ z. renews z now a) found ∙ (ap (λ b. cond b
      (cond (is_newer o.watch.mark (sequence_in a) now) (newly o.number now a) None) None) note
      ∙ ap (λ b. cond b (newly o.number now a) None) newer)) in
      let i = in_changed o.number (λ p. record p {
        watch = arrived p.watch (sequence_in a) now true;
        rest = first_rest s.sizes a;
      }) s.observations x h in
      let p = i.0 in
      elim i.2 [
        | inl e ↦ comes_by o.number a is x (sym (same_number p.number o.number e.0)
            ∙ sym (ap (λ (y : Observation). y.number) e.1)) (ap (λ (y : Observation). y.watch.mark) e.1)
            (ap (λ (y : Observation). y.rest) e.1)
        | inr e ↦ (
            let same : x ≡ p = e.1 in
            others_by o.number a is x (subst (λ y. In y s.observations) (sym same) i.1)
            (ap (λ j. o.number == j) (ap (λ (y : Observation). y.number) same) ∙ flip_other p.number o.number e.0))
      ]
  source_by (mv.passes_by o a notes found note newer) x h =
      let none : taken_by s now told ≡ None = ap (taken_by s now) notes
      ∙ (ap (λ z. renews z now a) found ∙ (ap (λ b. cond b
      (cond (is_newer o.watch.mark (sequence_in a) now) (newly o.number now a) None) None) note
      ∙ ap (λ b. cond b (newly o.number now a) None) newer)) in
      let i = in_changed o.number (λ p. record p { watch = arrived p.watch (sequence_in a) now false }) s.observations x
      h in
      let p = i.0 in
      elim i.2 [
        | inl e ↦ kept p i.1 (record {
          number = ap (λ (y : Observation). y.number) e.1;
          mark = ap (λ (y : Observation). y.watch.mark) e.1;
        }) (ap (λ (y : Observation). y.rest) e.1)
            (quietly none x.number) (no_value x.number)
        | inr e ↦ kept p i.1 (same_self p x e.1) (ap (λ (y : Observation). y.rest) e.1) (quietly none x.number)
            (no_value x.number)
      ]

  -- .. and then what the sending makes of it
  closed_by : (e : Effect) (token : Result (List ℕ) AskRefusal)
      → ((x : Observation) → In x e.own.observations → By (value_reported e.report) x) → Closing now e token
      → (x : Observation) → In x (closed now e e.deed token).own.observations
      → By (value_reported (closed now e e.deed token).report) x
  closed_by e token f (quiet q none own_same report_same) x h =
      subst (λ r. By (value_reported r) x) (sym report_same) (f x (subst (λ (o : Own). In x o.observations) own_same h))
  closed_by e token f (goes_out op key asks given sends_it own_same report_same) x h =
      subst (λ r. By (value_reported r) x) (sym report_same)
      (silent s.sizes s.observations s.running (taken_by s now told) (heard_in told) (value_reported e.report) x
      (f x (subst (λ (o : Own). In x o.observations) own_same h)))
  closed_by e token f (is_refused op why asks given none all) x h =
      let a = in_failed has_sent NoIds e.own (Some op) x (subst (λ (c : Effect). In x c.own.observations) all h) in
      let v : value_reported (closed now e e.deed token).report
      ≡ None = ap (λ (c : Effect). value_reported c.report) all
      ∙ failed_value has_sent NoIds e.own (Some op) refl in
      let o = a.0 in
      subst (λ i. By i x) (sym v) (elim a.2 [
        | inl same ↦ subst (λ y. By None y) (sym same)
            (silent s.sizes s.observations s.running (taken_by s now told) (heard_in told) (value_reported e.report) o
            (f o a.1))
        | inr same ↦ subst (λ y. By None y) (sym same)
            (without_rest s.sizes s.observations s.running (taken_by s now told) (heard_in told)
            (value_reported e.report) o
            (f o a.1))
      ])

module _ (sizes : Sizes) where
  abbrev pub SourceOf : List Call → Call → Observation → Type 0
  SourceOf t c x = Source (own_of sizes t).sizes (own_of sizes t).observations (own_of sizes t).running
      (notifies (own_of sizes t) c) (hears c) (value_reported (reports (own_of sizes t) c)) x

  source_turned : (t : List Call) (c : Call) → Turned sizes t c → ((n : ℕ) → places n (own_of sizes t) ≤ 1)
      → (x : Observation) → In x (own_of sizes (c ∷ t)).observations → SourceOf t c x
  source_turned t c k at_most x h =
      let m : ℕ = max (own_of sizes t).clock k.now in
      let s : Own = at k.now (own_of sizes t) in
      let e : Effect = left_by s m k.told k.move in
      let z = closed_by s m k.told at_most e k.token (source_by s m k.told at_most k.move) k.closes x
      (subst (λ (o : Own). In x o.observations) k.own_is h) in
      subst (λ r. Source s.sizes s.observations s.running (notifies (own_of sizes t) c) (hears c) (value_reported r) x)
      (sym k.reports_is)
      (subst (λ a. Source s.sizes s.observations s.running (notifies (own_of sizes t) c) a
      (value_reported (closed m e e.deed k.token).report) x) (sym k.hears_is)
      (subst (λ n. Source s.sizes s.observations s.running n (heard_in k.told)
      (value_reported (closed m e e.deed k.token).report) x) (sym k.notifies_is) z))

  pub source : (t : List Call) (c : Call) → ((n : ℕ) → places n (own_of sizes t) ≤ 1) → (x : Observation)
      → In x (own_of sizes (c ∷ t)).observations → SourceOf t c x
  source t (Calls now r (Ok n)) at_most x h = kept x h (same_self x x refl) refl refl (no_value x.number)
  source t (Observes now path (Ok n)) at_most x h = kept x h (same_self x x refl) refl refl (no_value x.number)
  source t (Cancels now k None) at_most x h = kept x h (same_self x x refl) refl refl (no_value x.number)
  source t (Forgets k was true) at_most x h = kept x (in_without k (own_of sizes t).observations x h)
      (same_self x x refl) refl refl (no_value x.number)
  source t (Feeds now from bytes w up settled event sent token was) at_most x h =
      source_turned t (Feeds now from bytes w up settled event sent token was)
      (fed_turned sizes t now from bytes w up settled event sent token was) at_most x h
  source t (Ticks now w below turn sent token was answer) at_most x h =
      source_turned t (Ticks now w below turn sent token was answer)
      (ticked_turned sizes t now w below turn sent token was answer) at_most x h
  source t _ at_most x h = kept x h (same_self x x refl) refl refl (no_value x.number)
