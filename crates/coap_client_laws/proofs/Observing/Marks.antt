-- The mark of each live observation is that of the newest notification that was taken of it.
use Rattle.std.proofs.Common.{◌≡◌, ◌≤◌, ℕ, max, Bool, true, false, cond, not, ◌&&◌, Option, Some, None, List, ◌∷◌, ◌++◌}
use Rattle.std.proofs.Common.{[], map, refl, ap, sym, subst, ◌∙◌, Result, Ok, Err, arith}
use Rattle.std.specs.Prelude.{◌==◌, filter}
use Rattle.coap_types.specs.declared.endpoint.Endpoint.{Endpoint}
use Rattle.coap_layer.specs.declared.setup.Setup.{Setup}
use Rattle.coap_codec.specs.Message.{Message}
use Rattle.coap_block.specs.Sizes.{Sizes}
use Rattle.coap_exchange.specs.declared.asker.AskRefusal.{AskRefusal}
use Rattle.coap_exchange.specs.declared.asker.Event.{Event}
use Rattle.coap_exchange.specs.declared.asker.Event.TheVariants as event_of
use Rattle.coap_block.specs.declared.fetch_verdict.Verdict.TheVariants as verdict
use Rattle.coap_exchange.specs.Tokens.{same_token}
use Rattle.coap_observe.specs.Newer.{Mark, IsNewer, is_newer, arrived}
use Rattle.coap_observe.proofs.Facts.Newer.{newer_is_decided}
use Rattle.coap_client.specs.Trace.{Report, NoIds, Call, Calls, Observes, Cancels, Forgets, Feeds, Ticks, NextOut}
use Rattle.coap_client.specs.Trace.{NextReport, Asked}
use Rattle.coap_client.specs.Own.{Transfer, Operation, Calling, Fetching, Cancelling, Dropped, Notified, Observation}
use Rattle.coap_client.specs.Own.{Own}
use Rattle.coap_client.specs.Observations.{observation_with}
use Rattle.coap_client.specs.Reports.{lapse}
use Rattle.coap_client.specs.Effects.{Effect, has_sent, ends, of, is_upload}
use Rattle.coap_client.specs.Events.{failed, closed}
use Rattle.coap_client.specs.Observing.{begun, first_rest}
use Rattle.coap_client.specs.Fetching.{rest as rest_left}
use Rattle.coap_client.specs.Responses.{is_notification, sequence_in}
use Rattle.coap_client.specs.Deeds.{at}
use Rattle.coap_client.specs.Law.{ClientLaw, own_of}
use Rattle.coap_client.specs.Places.{hit, in_running, in_observations, places}
use Rattle.coap_client.specs.Sendings.{hears}
use Rattle.coap_client.proofs.Facts.Places.PlaceLemmas.{same_number, number_self, hit_self}
use Rattle.coap_client.proofs.Facts.Places.PlaceEffects.{flip_other}
use Rattle.coap_client.proofs.Facts.Places.Once.{known, sound_of}
use Rattle.coap_client.proofs.Facts.Turning.Leading.{client_back}
use Rattle.coap_client_laws.specs.Follows.Newer.{Newly, newly, registers, renews, taken_by, notifies, mark_if}
use Rattle.coap_client_laws.specs.Follows.Newer.{last_mark}
use Rattle.coap_client_laws.specs.Follows.Newer.{AreNewer}
use Rattle.coap_client.specs.Turns.Moves as mv
use Rattle.coap_client.specs.Turns.Moves.{Move, left_by, Unheard, Hears}
use Rattle.coap_client_laws.proofs.Queueing.Closing.{Closing, quiet, goes_out, is_refused}
use Rattle.coap_client_laws.proofs.Turning.Turns.{Turned, fed_turned, ticked_turned}

-- of the live observations, by number and mark

abbrev AllMarked : (ℕ → Option Mark → Type 0) → List Observation → Type 0
AllMarked P [] = Unit {0}
AllMarked P (o ∷ os) = P o.number o.watch.mark × AllMarked P os

marked_to : (P Q : ℕ → Option Mark → Type 0) → ((n : ℕ) (mark : Option Mark) → P n mark → Q n mark)
    → (os : List Observation) → AllMarked P os → AllMarked Q os
marked_to P Q f [] h = tt
marked_to P Q f (o ∷ os) h = (f o.number o.watch.mark h.0, marked_to P Q f os h.1)

module _ (P : ℕ → Option Mark → Type 0) where
  marked_changed : (k : ℕ) (f : Observation → Observation)
      → ((o : Observation) → P o.number o.watch.mark → P (f o).number (f o).watch.mark) → (os : List Observation)
      → AllMarked P os
      → AllMarked P (map (λ (o : Observation). cond (o.number == k) (f o) o) os)
  marked_changed k f same [] h = tt
  marked_changed k f same (o ∷ os) h = (by (o.number == k), marked_changed k f same os h.1)
    where
      by : (b : Bool) → P (cond b (f o) o).number (cond b (f o) o).watch.mark
      by true = same o h.0
      by false = h.0

  marked_without : (k : ℕ) (os : List Observation) → AllMarked P os
      → AllMarked P (filter (λ (o : Observation). not (o.number == k)) os)
  marked_without k [] h = tt
  marked_without k (o ∷ os) h = by (o.number == k) (marked_without k os h.1)
    where
      by : (b : Bool) → AllMarked P (filter (λ (p : Observation). not (p.number == k)) os)
          → AllMarked P (cond (not b) (o ∷ filter (λ (p : Observation). not (p.number == k)) os)
          (filter (λ (p : Observation). not (p.number == k)) os))
      by true ih = ih
      by false ih = (h.0, ih)

  marked_more : (os : List Observation) (o : Observation) → AllMarked P os → P o.number o.watch.mark
      → AllMarked P (os ++ o ∷ [])
  marked_more [] o h k = (k, tt)
  marked_more (p ∷ os) o h k = (h.0, marked_more os o h.1 k)

  marked_held : (s : Own) (c : Bool) (report : Option _) → AllMarked P s.observations
      → AllMarked P (ends report (cond c (record s { hold = Some s.sent }) s)).own.observations
  marked_held s true report h = h
  marked_held s false report h = h

  marked_failed : (s : Own) (u : Transfer → Bool) (report : Report) (running : Option Operation)
      → AllMarked P s.observations → AllMarked P (failed u report s running).own.observations
  marked_failed s u report (Some (Calling k r t)) h = marked_held s (u t && is_upload t) (of k report) h
  marked_failed s u report (Some (Fetching k)) h =
      marked_changed k (λ o. record o { rest = None }) (λ o z. z) s.observations h
  marked_failed s u report (Some (Cancelling k)) h = marked_without k s.observations h
  marked_failed s u report _ h = h

  marked_closed : (now : ℕ) (e : Effect) (token : Result (List ℕ) AskRefusal) → AllMarked P e.own.observations
      → Closing now e token → AllMarked P (closed now e e.deed token).own.observations
  marked_closed now e token z (quiet q none own_same report_same) =
      subst (λ (o : Own). AllMarked P o.observations) (sym own_same) z
  marked_closed now e token z (goes_out op key asks given sends_it own_same report_same) =
      subst (λ (o : Own). AllMarked P o.observations) (sym own_same) z
  marked_closed now e token z (is_refused op why asks given none all) =
      subst (λ (c : Effect). AllMarked P c.own.observations) (sym all) (marked_failed e.own has_sent NoIds (Some op) z)

-- the newest, by what was taken and by what is taken now

abbrev IsLast : (ℕ → Option Mark) → ℕ → Option Mark → Type 0
IsLast last n mark = mark ≡ last n

-- a notification of one observation: the others keep their marks
others_keep : (last : ℕ → Option Mark) (k : ℕ) (new : Newly) → new.number ≡ k → (n : ℕ) → (n == k) ≡ false
    → mark_if n (Some new) (last n) ≡ last n
others_keep last k new is n apart = ap (λ b. cond b (Some new.mark) (last n))
    (ap (λ z. z == n) is ∙ flip_other n k apart)

this_takes : (last : ℕ → Option Mark) (k : ℕ) (new : Newly) → new.number ≡ k → (n : ℕ) → (n == k) ≡ true
    → mark_if n (Some new) (last n) ≡ Some new.mark
this_takes last k new is n same = ap (λ b. cond b (Some new.mark) (last n))
    (ap (λ z. z == n) is ∙ (ap (λ z. k == z) (same_number n k same) ∙ number_self k))

module _ (last : ℕ → Option Mark) (now : ℕ) where
  abbrev mark_of : Message → Mark
  mark_of m = record { number = sequence_in m; at = now }

  abbrev newly_of : ℕ → Message → Newly
  newly_of k m = record { number = k; mark = mark_of m; message = m }

  abbrev NowLast : ℕ → Message → ℕ → Option Mark → Type 0
  NowLast k m = IsLast (λ n. mark_if n (Some (newly_of k m)) (last n))

  renewed_marks : (k : ℕ) (m : Message) (rest : Option Notified) (os : List Observation) → AllMarked (IsLast last) os
      → AllMarked (NowLast k m) (map (λ (p : Observation). cond (p.number == k)
      (record p { watch = arrived p.watch (sequence_in m) now true; rest = rest }) p) os)
  renewed_marks k m rest [] h = tt
  renewed_marks k m rest (o ∷ os) h = (by (o.number == k) refl, renewed_marks k m rest os h.1)
    where
      by : (b : Bool) → (o.number == k) ≡ b → NowLast k m
          (cond b (record o { watch = arrived o.watch (sequence_in m) now true; rest = rest }) o).number
          (cond b (record o { watch = arrived o.watch (sequence_in m) now true; rest = rest }) o).watch.mark
      by true same = sym (this_takes last k (newly_of k m) refl o.number same)
      by false apart = h.0 ∙ sym (others_keep last k (newly_of k m) refl o.number apart)

  -- those before a new one, whose number none has
  other_marks : (k : ℕ) (m : Message) (os : List Observation) → in_observations k os ≡ 0 → AllMarked (IsLast last) os
      → AllMarked (NowLast k m) os
  other_marks k m [] none h = tt
  other_marks k m (o ∷ os) none h = (by (o.number == k) refl, other_marks k m os (omega (arith, none)) h.1)
    where
      by : (b : Bool) → (o.number == k) ≡ b → NowLast k m o.number o.watch.mark
      by false apart = h.0 ∙ sym (others_keep last k (newly_of k m) refl o.number apart)
      by true same = let one : hit o.number k ≡ 1 = ap (λ b. cond b 1 0) same in absurd (omega (arith, none, one))

  new_mark : (k : ℕ) (path : List (List ℕ)) (sizes : Sizes) (m : Message)
      → NowLast k m (begun k path sizes now m).number (begun k path sizes now m).watch.mark
  new_mark k path sizes m = sym (this_takes last k (newly_of k m) refl k (number_self k))

-- what is taken in each move
module _ (s : Own) (now : ℕ) where
  pub unheard_none : (told : Option Event) → Unheard s told → taken_by s now told ≡ None
  unheard_none (Some (event_of.Answer m)) un = ap (λ r. registers r now m) (un.answer m refl)
  unheard_none (Some (event_of.Notice m)) un = ap (λ o. renews o now m) (un.notice m refl)
  unheard_none _ un = refl

  -- an answer to what is no registration
  pub answer_none : (told : Option Event) (m : Message) (op : Operation)
      → ((a : Message) → registers (Some op) now a ≡ None) → Hears told m → s.running ≡ Some op
      → taken_by s now told ≡ None
  answer_none told m op none hears_it runs = ap (taken_by s now) hears_it ∙ (ap (λ r. registers r now m) runs ∙ none m)

module _ (s : Own) (now : ℕ) (told : Option Event) (last : ℕ → Option Mark) (h : AllMarked (IsLast last) s.observations)
    (at_most : (n : ℕ) → places n s ≤ 1) where
  abbrev Now : ℕ → Option Mark → Type 0
  Now = IsLast (λ n. mark_if n (taken_by s now told) (last n))

  nothing : taken_by s now told ≡ None → (os : List Observation) → AllMarked (IsLast last) os → AllMarked Now os
  nothing none os z = marked_to (IsLast last) Now (λ n mark is. is ∙ ap (λ t. mark_if n t (last n)) (sym none)) os z

  something : (k : ℕ) (m : Message) → taken_by s now told ≡ newly k now m → (os : List Observation)
      → AllMarked (NowLast last now k m) os → AllMarked Now os
  something k m is os z = marked_to (NowLast last now k m) Now
      (λ n mark e. e ∙ ap (λ t. mark_if n t (last n)) (sym is)) os z

  marks_by : (mo : Move s now told) → AllMarked Now (left_by s now told mo).own.observations
  marks_by (mv.rests un) = nothing (unheard_none s now told un) s.observations h
  marks_by (mv.copies q) = nothing (ap (taken_by s now) q) s.observations h
  marks_by (mv.starts_next op queue none rest first q) = nothing (ap (taken_by s now) q) s.observations h
  marks_by (mv.fetches k none rest q) = nothing (ap (taken_by s now) q) s.observations h
  marks_by (mv.goes_on k r tr next a hears_it runs asks) =
      nothing (answer_none s now told a (Calling k r tr) (λ z. refl) hears_it runs) s.observations h
  marks_by (mv.is_done k r tr final rep a hears_it runs ends_so) =
      marked_held Now s (not final && is_upload tr) (of k rep)
      (nothing (answer_none s now told a (Calling k r tr) (λ z. refl) hears_it runs) s.observations h)
  marks_by (mv.registers k path a hears_it runs note) =
      let is : taken_by s now told ≡ newly k now a = ap (taken_by s now) hears_it
      ∙ (ap (λ r. registers r now a) runs ∙ ap (λ b. cond b (newly k now a) None) note) in
      let p = at_most k in
      let q = ap (in_running k) runs in
      let one = hit_self k in
      let none : in_observations k s.observations ≡ 0 = omega (arith, p, q, one) in
      something k a is (s.observations ++ begun k path s.sizes now a ∷ [])
      (marked_more (NowLast last now k a) s.observations (begun k path s.sizes now a)
      (other_marks last now k a s.observations none h) (new_mark last now k path s.sizes a))
  marks_by (mv.refuses k path a hears_it runs note) =
      nothing (ap (taken_by s now) hears_it ∙ (ap (λ r. registers r now a) runs
      ∙ ap (λ b. cond b (newly k now a) None) note)) s.observations h
  marks_by (mv.fetches_on k n a num size hears_it runs rest code asks) =
      marked_changed Now k (λ o. record o { rest = rest_left n.sequence n.fetch a (verdict.Ask num size) })
      (λ o z. z) s.observations (nothing (answer_none s now told a (Fetching k) (λ z. refl) hears_it runs)
      s.observations h)
  marks_by (mv.fetched k n a hears_it runs rest code done) =
      marked_changed Now k (λ o. record o { rest = None }) (λ o z. z) s.observations
      (nothing (answer_none s now told a (Fetching k) (λ z. refl) hears_it runs) s.observations h)
  marks_by (mv.gives_up k a hears_it runs) = marked_changed Now k (λ o. record o { rest = None })
      (λ o z. z) s.observations (nothing (answer_none s now told a (Fetching k) (λ z. refl) hears_it runs)
      s.observations h)
  marks_by (mv.fetched_none k a hears_it runs) =
      nothing (answer_none s now told a (Fetching k) (λ z. refl) hears_it runs) s.observations h
  marks_by (mv.cancels k a hears_it runs) = marked_without Now k s.observations
      (nothing (answer_none s now told a (Cancelling k) (λ z. refl) hears_it runs) s.observations h)
  marks_by (mv.is_dropped a hears_it runs) = nothing
      (answer_none s now told a Dropped (λ z. refl) hears_it runs) s.observations h
  marks_by (mv.fails e un) = marked_failed Now s (λ t. true) (lapse e) s.running
      (nothing (unheard_none s now told un) s.observations h)
  marks_by (mv.is_ended o a notes found note) =
      marked_without Now o.number s.observations (nothing
      (ap (taken_by s now) notes ∙ (ap (λ z. renews z now a) found
      ∙ ap (λ b. cond b (cond (is_newer o.watch.mark (sequence_in a) now) (newly o.number now a) None) None) note))
      s.observations h)
  marks_by (mv.renews o a notes found note newer) =
      something o.number a (ap (taken_by s now) notes
      ∙ (ap (λ z. renews z now a) found ∙ (ap (λ b. cond b
      (cond (is_newer o.watch.mark (sequence_in a) now) (newly o.number now a) None) None) note
      ∙ ap (λ b. cond b (newly o.number now a) None) newer)))
      _ (renewed_marks last now o.number a (first_rest s.sizes a) s.observations h)
  marks_by (mv.passes_by o a notes found note newer) =
      marked_changed Now o.number (λ p. record p { watch = arrived p.watch (sequence_in a) now false })
      (λ p z. z) s.observations
      (nothing (ap (taken_by s now) notes ∙ (ap (λ z. renews z now a) found
      ∙ (ap (λ b. cond b (cond (is_newer o.watch.mark (sequence_in a) now) (newly o.number now a) None) None) note
      ∙ ap (λ b. cond b (newly o.number now a) None) newer))) s.observations h)

-- the mark of an observation that is found
found_mark : (last : ℕ → Option Mark) (os : List Observation) → AllMarked (IsLast last) os
    → (m : Message) (o : Observation) → observation_with m.token os ≡ Some o → o.watch.mark ≡ last o.number
found_mark last [] z m o found = absurd (cc found)
found_mark last (p ∷ os) z m o found = by (same_token m.token p.token) found (found_mark last os z.1 m o)
  where
    by : (b : Bool) → cond b (Some p) (observation_with m.token os) ≡ Some o
        → (observation_with m.token os ≡ Some o → o.watch.mark ≡ last o.number) → o.watch.mark ≡ last o.number
    by true is ih = let same : p ≡ o = cc is in subst (λ (x : Observation). x.watch.mark ≡ last x.number) same z.0
    by false is ih = ih is

-- the notification that renews an observation
renew_newer : (o : Option Observation) (now : ℕ) (m : Message) (n : Newly) → renews o now m ≡ Some n
    → (p : Observation) × (o ≡ Some p) × (n.number ≡ p.number) × IsNewer p.watch.mark n.mark.number n.mark.at
renew_newer None now m n is = absurd (cc is)
renew_newer (Some p) now m n is = by (is_notification m) (is_newer p.watch.mark (sequence_in m) now) refl is
  where
    by : (b c : Bool) → is_newer p.watch.mark (sequence_in m) now ≡ c
        → cond b (cond c (newly p.number now m) None) None ≡ Some n
        → (q : Observation) × (Some p ≡ Some q) × (n.number ≡ q.number) × IsNewer q.watch.mark n.mark.number n.mark.at
    by false c e is = absurd (cc is)
    by true false e is = absurd (cc is)
    by true true e is =
        let same : ◌≡◌ {A = Newly} (record {
          number = p.number;
          mark = record { number = sequence_in m; at = now };
          message = m;
        }) n = cc is in (
          p,
          refl,
          sym (ap (λ (x : Newly). x.number) same),
          subst (λ (x : Newly). IsNewer p.watch.mark x.mark.number x.mark.at) same
              ((newer_is_decided p.watch.mark (sequence_in m) now).0 e),
        )

module _ (server : Endpoint) (sizes : Sizes) (setup : Setup) where
  abbrev lasts : List Call → ℕ → Option Mark
  lasts t n = last_mark sizes n t

  abbrev Marked : List Call → Type 0
  Marked t = AllMarked (IsLast (lasts t)) (own_of sizes t).observations

  most : (t : List Call) → ClientLaw server sizes setup t → (n : ℕ) → places n (own_of sizes t) ≤ 1
  most t law = (sound_of server sizes setup t (known server sizes setup t law.rows law.exchanges.rows)).at_most

  marked_turned : (t : List Call) (c : Call) → Turned sizes t c → ((n : ℕ) → places n (own_of sizes t) ≤ 1) → Marked t
      → Marked (c ∷ t)
  marked_turned t c k at_most h =
      let m : ℕ = max (own_of sizes t).clock k.now in
      let s : Own = at k.now (own_of sizes t) in
      let e : Effect = left_by s m k.told k.move in
      let P : ℕ → Option Mark → Type 0 = IsLast (λ n. mark_if n (taken_by s m k.told) (lasts t n)) in
      let now_marked = marked_closed P m e k.token (marks_by s m k.told (lasts t) h at_most k.move) k.closes in
      marked_to P (IsLast (lasts (c ∷ t))) (λ n mark is. is ∙ ap (λ z. mark_if n z (lasts t n)) (sym k.notifies_is))
      (own_of sizes (c ∷ t)).observations (subst (λ (o : Own). AllMarked P o.observations) (sym k.own_is) now_marked)

  marked_step : (t : List Call) (c : Call) → ((n : ℕ) → places n (own_of sizes t) ≤ 1) → Marked t → Marked (c ∷ t)
  marked_step t (Calls now r (Ok n)) at_most h = h
  marked_step t (Observes now path (Ok n)) at_most h = h
  marked_step t (Cancels now k None) at_most h = h
  marked_step t (Forgets k was true) at_most h = marked_without (IsLast (lasts t)) k (own_of sizes t).observations h
  marked_step t (Feeds now from bytes w up settled event sent token was) at_most h =
      marked_turned t (Feeds now from bytes w up settled event sent token was)
      (fed_turned sizes t now from bytes w up settled event sent token was) at_most h
  marked_step t (Ticks now w below turn sent token was answer) at_most h =
      marked_turned t (Ticks now w below turn sent token was answer)
      (ticked_turned sizes t now w below turn sent token was answer) at_most h
  marked_step t _ at_most h = h

  pub marked : (t : List Call) → ClientLaw server sizes setup t → Marked t
  marked [] law = tt
  marked (c ∷ t) law = let past = client_back server sizes setup (c ∷ []) t law in marked_step t c (most t past)
      (marked t past)

  newer_here : (t : List Call) (c : Call) → Marked t → (n : Newly) → hears c ≡ None
      → notifies (own_of sizes t) c ≡ Some n
      → IsNewer (last_mark sizes n.number t) n.mark.number n.mark.at
  newer_here t (Feeds now from bytes w up settled (Some (event_of.Notice m)) sent token was) h n none is =
      let s : Own = own_of sizes t in
      let k = renew_newer (observation_with m.token s.observations) (max s.clock now) m n is in
      let mark_is : k.0.watch.mark ≡ lasts t k.0.number = found_mark (lasts t) s.observations h m k.0 k.1 in
      subst (λ z. IsNewer z n.mark.number n.mark.at) (mark_is ∙ ap (λ i. last_mark sizes i t) (sym k.2)) k.3
  newer_here t (Feeds now from bytes w up settled (Some (event_of.Answer m)) sent token was) h n none is =
      absurd (cc none)
  newer_here t _ h n none is = absurd (cc is)

  pub are_newer : (t : List Call) → ClientLaw server sizes setup t → AreNewer sizes t
  are_newer [] law = tt
  are_newer (c ∷ t) law = let past = client_back server sizes setup
      (c ∷ []) t law in (newer_here t c (marked t past), are_newer t past)
