-- The fetch that runs for an observation was sent since the newest notification of that.
use Rattle.std.proofs.Common.{◌≡◌, ◌⊎◌, inl, inr, ℕ, max, Bool, true, false, cond, Option, Some, None, List, ◌∷◌, []}
use Rattle.std.proofs.Common.{refl, ap, sym, ◌∙◌, Ok, Err}
use Rattle.std.specs.Prelude.{◌==◌}
use Rattle.coap_block.specs.Sizes.{Sizes}
use Rattle.coap_exchange.specs.declared.asker.Event.{Event}
use Rattle.coap_observe.specs.Newer.{is_newer}
use Rattle.coap_client.specs.Trace.{Report, NoIds, Call, Calls, Observes, Cancels, Forgets, Feeds, Ticks, NextOut}
use Rattle.coap_client.specs.Trace.{NextReport, Asked}
use Rattle.coap_client.specs.Own.{Transfer, Operation, Calling, Registering, Fetching, Cancelling, Dropped, Own}
use Rattle.coap_client.specs.Observations.{dropped}
use Rattle.coap_client.specs.Responses.{sequence_in}
use Rattle.coap_client.specs.Reports.{lapse}
use Rattle.coap_client.specs.Effects.{Asks, Effect, has_sent}
use Rattle.coap_client.specs.Events.{failed, closed}
use Rattle.coap_client.specs.Deeds.{at}
use Rattle.coap_client.specs.Law.{own_of}
use Rattle.coap_client_laws.specs.Follows.Newer.{newly, renews, taken_by, notifies}
use Rattle.coap_client_laws.specs.Follows.Notified.{is_newly_of}
use Rattle.coap_client_laws.specs.Follows.Values.{SentSince}
use Rattle.coap_client.specs.Sendings.{Sending, sends, last_sent}
use Rattle.coap_client.specs.Turns.Moves as mv
use Rattle.coap_client.specs.Turns.Moves.{Move, left_by}
use Rattle.coap_client_laws.proofs.Queueing.Closing.{Closing, quiet, goes_out, is_refused, sending_of}
use Rattle.coap_client.proofs.Facts.Places.PlaceEffects.{flip_other}
use Rattle.coap_client_laws.proofs.Observing.Marks.{unheard_none, answer_none}
use Rattle.coap_client_laws.proofs.Turning.Turns.{Turned, fed_turned, ticked_turned}

abbrev Runs : Option Operation → ℕ → Type 0
Runs running k = running ≡ Some (Fetching k)

-- what runs once others are dropped ran before
record KeptFetch (running : Option Operation) (j k : ℕ) : Type 0 where
  ran : Runs running k
  apart : (k == j) ≡ false

kept_fetch : (running : Option Operation) (j k : ℕ) → Runs (dropped j running) k → KeptFetch running j k
kept_fetch (Some (Fetching n)) j k h = by (n == j) refl h
  where
    by : (b : Bool) → (n == j) ≡ b → Runs (cond b (Some Dropped) (Some (Fetching n))) k
        → KeptFetch (Some (Fetching n)) j k
    by true e h = absurd (cc h)
    by false e h = let same : n ≡ k = cc h in record { ran = h; apart = ap (λ i. i == j) (sym same) ∙ e }
kept_fetch _ j k h = absurd (cc h)

-- nothing runs behind a failure
failed_idle : (u : Transfer → Bool) (report : Report) (s : Own) (running : Option Operation) → s.running ≡ running
    → (failed u report s running).own.running ≡ None
failed_idle u report s None is = is
failed_idle u report s (Some (Calling k r t)) is = refl
failed_idle u report s _ is = refl

pub failed_some : (u : Transfer → Bool) (report : Report) (s : Own) (op : Operation)
    → (failed u report s (Some op)).own.running ≡ None
failed_some u report s (Calling k r t) = refl
failed_some u report s _ = refl

no_fetch : {X : Type 0} (running : Option Operation) (k : ℕ) → running ≡ None → Runs running k → X
no_fetch running k none h = let e : None ≡ Some (Fetching k) = sym none ∙ h in absurd (cc e)

-- a fetch that runs behind a move ran before, or is asked for, and no notification of its observation came
record StillFetches (s : Own) (now : ℕ) (told : Option Event) (e : Effect) (k : ℕ) : Type 0 where
  apart : is_newly_of k (taken_by s now told) ≡ false
  ran : Runs s.running k ⊎ (e.deed ≡ Asks (Fetching k))

module _ (s : Own) (now : ℕ) (told : Option Event) (k : ℕ) where
  none_of : taken_by s now told ≡ None → is_newly_of k (taken_by s now told) ≡ false
  none_of none = ap (is_newly_of k) none

  moves_on : (mo : Move s now told) → Runs (left_by s now told mo).own.running k
      → StillFetches s now told (left_by s now told mo) k
  moves_on (mv.rests un) h = record { apart = none_of (unheard_none s now told un); ran = inl h }
  moves_on (mv.copies q) h = record { apart = none_of (ap (taken_by s now) q); ran = inl h }
  moves_on (mv.starts_next op queue none rest first q) h = let same : op
      ≡ Fetching k = cc h in record { apart = none_of (ap (taken_by s now) q); ran = inr (ap (λ o. Asks o) same) }
  moves_on (mv.fetches j none rest q) h = let same : Fetching j
      ≡ Fetching k = cc h in record { apart = none_of (ap (taken_by s now) q); ran = inr (ap (λ o. Asks o) same) }
  moves_on (mv.fetches_on j n a num size hears_it runs rest code asks) h =
      let same : Fetching j ≡ Fetching k = cc h in record {
        apart = none_of (answer_none s now told a (Fetching j) (λ z. refl) hears_it runs);
        ran = inr (ap (λ o. Asks o) same);
      }
  moves_on (mv.fails e un) h = no_fetch (failed (λ t. true) (lapse e) s s.running).own.running k
      (failed_idle (λ t. true) (lapse e) s s.running refl) h
  moves_on (mv.is_ended o a notes found note) h = record {
    apart = none_of (ap (taken_by s now) notes ∙ (ap (λ z. renews z now a) found
        ∙ ap (λ b. cond b (cond (is_newer o.watch.mark (sequence_in a) now) (newly o.number now a) None) None) note));
    ran = inl (kept_fetch s.running o.number k h).ran;
  }
  moves_on (mv.renews o a notes found note newer) h =
      let kept = kept_fetch s.running o.number k h in
      let taken : taken_by s now told ≡ newly o.number now a = ap (taken_by s now) notes
      ∙ (ap (λ z. renews z now a) found ∙ (ap (λ b. cond b
      (cond (is_newer o.watch.mark (sequence_in a) now) (newly o.number now a) None) None) note
      ∙ ap (λ b. cond b (newly o.number now a) None) newer)) in
      record { apart = ap (is_newly_of k) taken ∙ flip_other k o.number kept.apart; ran = inl kept.ran }
  moves_on (mv.passes_by o a notes found note newer) h = record {
    apart = none_of (ap (taken_by s now) notes ∙ (ap (λ z. renews z now a) found
        ∙ (ap (λ b. cond b (cond (is_newer o.watch.mark (sequence_in a) now) (newly o.number now a) None) None) note
        ∙ ap (λ b. cond b (newly o.number now a) None) newer)));
    ran = inl h;
  }
  moves_on _ h = absurd (cc h)

module _ (sizes : Sizes) where
  abbrev Since : List Call → ℕ → Type 0
  Since t k = (x : Sending) → Runs (own_of sizes t).running k → last_sent sizes t ≡ Some x → SentSince sizes k x t

  -- a datagram, and a tick
  module _ (t : List Call) (c : Call) (z : Turned sizes t c) (k : ℕ) where
    abbrev s : Own
    s = at z.now (own_of sizes t)

    abbrev m : ℕ
    m = max (own_of sizes t).clock z.now

    abbrev e : Effect
    e = left_by s m z.told z.move

    abbrev then : Effect
    then = closed m e e.deed z.token

    sent_last : (o : Option Sending) → sends (own_of sizes t) c ≡ o
        → last_sent sizes (c ∷ t) ≡ elim o [ Some y ↦ Some y | None ↦ last_sent sizes t ]
    sent_last o is = ap (λ y. elim y [ Some x ↦ Some x | None ↦ last_sent sizes t ]) is

    apart_so : Runs e.own.running k → is_newly_of k (notifies (own_of sizes t) c) ≡ false
    apart_so h = ap (is_newly_of k) z.notifies_is ∙ (moves_on s m z.told k z.move h).apart

    by_closing : Closing m e z.token → Since t k → Runs then.own.running k → (x : Sending)
        → last_sent sizes (c ∷ t) ≡ Some x → SentSince sizes k x (c ∷ t)
    by_closing (quiet q none own_same report_same) ih runs x last =
        let h : Runs e.own.running k = ap (λ (o : Own). o.running) (sym own_same) ∙ runs in
        let before : last_sent sizes t ≡ Some x = sym (sent_last None (z.sends_is ∙ none)) ∙ last in (
          apart_so h,
          inr (elim (moves_on s m z.told k z.move h).ran
              [ inl ran ↦ ih x ran before | inr asks ↦ absurd (q (Fetching k) asks) ]),
        )
    by_closing (goes_out op key asks given sends_it own_same report_same) ih runs x last =
        let h : Runs e.own.running k = ap (λ (o : Own). o.running) (sym own_same) ∙ runs in
        let sent : sends (own_of sizes t) c ≡ Some (sending_of e op key) = z.sends_is ∙ sends_it in
        (apart_so h, inl (sent ∙ (sym (sent_last (Some (sending_of e op key)) sent) ∙ last)))
    by_closing (is_refused op why asks given none all) ih runs x last =
        no_fetch then.own.running k (ap (λ (f : Effect). f.own.running) all ∙ failed_some has_sent NoIds e.own op) runs

    turned_since : Since t k → Since (c ∷ t) k
    turned_since ih x runs last = by_closing z.closes ih (ap (λ (o : Own). o.running) (sym z.own_is) ∙ runs) x last

  forgotten_since : (t : List Call) (n k : ℕ) (was : Bool) → Since t k → Since (Forgets n was true ∷ t) k
  forgotten_since t n k was ih x runs last = (refl, inr (ih x (kept_fetch (own_of sizes t).running n k runs).ran last))

  since : (t : List Call) (k : ℕ) → Since t k
  since [] k x runs last = absurd (cc runs)
  since (Feeds now from bytes w up settled event sent token kept ∷ t) k x runs last =
      turned_since t (Feeds now from bytes w up settled event sent token kept)
      (fed_turned sizes t now from bytes w up settled event sent token kept) k (since t k) x runs last
  since (Ticks now w below turn sent token kept answer ∷ t) k x runs last =
      turned_since t (Ticks now w below turn sent token kept answer)
      (ticked_turned sizes t now w below turn sent token kept answer) k (since t k) x runs last
  since (Calls now r (Ok n) ∷ t) k x runs last = (refl, inr (since t k x runs last))
  since (Observes now path (Ok n) ∷ t) k x runs last = (refl, inr (since t k x runs last))
  since (Cancels now n None ∷ t) k x runs last = (refl, inr (since t k x runs last))
  since (Forgets n was true ∷ t) k x runs last = forgotten_since t n k was (since t k) x runs last
  since (_ ∷ t) k x runs last = (refl, inr (since t k x runs last))

  pub fetch_since : (t : List Call) (k : ℕ) (x : Sending) → (own_of sizes t).running ≡ Some (Fetching k)
      → last_sent sizes t ≡ Some x → SentSince sizes k x t
  fetch_since t k x runs last = since t k x runs last
