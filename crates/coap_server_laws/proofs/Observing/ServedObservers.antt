-- What a request that is served leaves of the observers.
use Rattle.std.proofs.Common.{◌≡◌, ℕ, max, Bool, Option, Some, None, List, ◌∷◌, refl, ap, subst, ◌∙◌}
use Rattle.std.proofs.Common.{cond}
use Rattle.coap_layer.specs.declared.setup.Setup.{Setup}
use Rattle.coap_resource.specs.Content.{Content}
use Rattle.coap_resource.specs.Serves.{Question, Reply}
use Rattle.coap_resource.specs.Serves as R
use Rattle.coap_resource.specs.Limits.{Limits}
use Rattle.coap_exchange.specs.declared.answerer.Asked.{Asked}
use Rattle.coap_exchange.specs.declared.answerer.Due.TheVariants as due
use Rattle.coap_exchange.specs.AnswererTrace as E
use Rattle.coap_exchange.specs.AnswererSteps as P
use Rattle.coap_exchange.specs.AnswererLaw as W
use Rattle.coap_exchange.proofs.Facts.ServerSide.{none_ended}
use Rattle.coap_server.specs.Trace.{Own, Serves, Call}
use Rattle.coap_server.specs.Trace.{Feeds, Ticks}
use Rattle.coap_server.specs.Asks.{answering, responding}
use Rattle.coap_server.specs.Handling.{incoming, ticking, heard}
use Rattle.coap_server.specs.Observers.{registers, sequence_if, unless_ended, unless_rejected}
use Rattle.coap_server.specs.Serving.{observers_served}
use Rattle.coap_server.specs.Law.{ServerLaw, own_of, lower_of}
use Rattle.coap_server.specs.Follows.Serves.{Serving, serving, serving_of}
use Rattle.coap_server.specs.Follows.Tells.{InCon, InReply, Pair, Way, registering, registers_by, telling}
use Rattle.coap_server.specs.Follows.Tells.{tells_if}
use Rattle.coap_server.proofs.Facts.Exact.FirstRow.{first_row}
use Rattle.coap_server.proofs.Facts.Serving.ServedNow.{is_serving}
use Rattle.coap_server.proofs.Facts.Calls.NoneRejected.{none_rejected}
use Rattle.coap_exchange.specs.AnswererSteps.{unmatched_by}
use Rattle.coap_server.proofs.Facts.Serving.FoundReady.{found_ready}

abbrev pub pair_if : Bool → Asked → Option Pair
pair_if b a = cond b (Some (record { to = a.from; token = a.token })) None

module _ (limits : Limits) (szx : ℕ) (setup : Setup) where
  abbrev own : List Call → Own
  own t = own_of limits szx t

  -- by the observers that there were before the call
  pub record ServesAt (t : List Call) (c : Call) (x : Serving) : Type 0 where
    pub old : x.old ≡ (own t).store
    pub observers : (own (c ∷ t)).observers
        ≡ observers_served (own (c ∷ t)).clock (own t).store x.asked x.question x.reply x.left (own t).observers
    pub says :
        x.sequence
        ≡ sequence_if (registers x.asked x.question x.reply (own t).observers)
        ((own t).store.holds x.question.path)
    pub registers_so : registering (own t) c
        ≡ pair_if (registers x.asked x.question x.reply (own t).observers) x.asked
    pub tells_so :
        (way : Way)
        × (telling (own t) c
        ≡ tells_if (registers x.asked x.question x.reply (own t).observers) (own (c ∷ t)).clock (own t).store x.asked
        x.question way)
    pub serves : R.Serves x.old (own (c ∷ t)).clock x.question x.reply x.left

  staged : (t : List Call) (c : Call) (s : Own) (a : Asked) (q : Question) (reply : Reply) (left : Content)
      → s.observers ≡ (own t).observers → s.store ≡ (own t).store
      → (own (c ∷ t)).observers ≡ observers_served (own (c ∷ t)).clock s.store a q reply left s.observers
      → registering (own t) c ≡ registers_by s a q reply
      → (way : Way)
      × (telling (own t) c
      ≡ tells_if (registers a q reply s.observers) (own (c ∷ t)).clock (own t).store a q way)
      → R.Serves s.store (own (c ∷ t)).clock q reply left → ServesAt t c (serving_of s a q reply left)
  staged t c s a q reply left os store observers registers_is tells serves =
      record {
        old = store;
        observers = observers ∙ (ap (λ z. observers_served (own (c ∷ t)).clock z a q reply left s.observers) store
            ∙ ap (λ z. observers_served (own (c ∷ t)).clock (own t).store a q reply left z) os);
        says = ap (λ z. sequence_if (registers a q reply z) (s.store.holds q.path)) os
            ∙ ap (λ (z : Content). sequence_if (registers a q reply (own t).observers) (z.holds q.path)) store;
        registers_so = registers_is ∙ ap (λ z. pair_if (registers a q reply z) a) os;
        tells_so = (
          tells.0,
          tells.1
              ∙ ap (λ z. tells_if (registers a q reply z) (own (c ∷ t)).clock (own t).store a q tells.0) os,
        );
        serves = serves;
      }

  pub served_at : (t : List Call) (c : Call) → ServerLaw limits szx setup (c ∷ t) → (x : Serving)
      → serving (own t) c ≡ Some x → ServesAt t c x
  served_at t (Feeds now from bytes w up (Some p) (Serves q reply left) below) law x h =
      let first : E.Call = incoming (own t) now from bytes up (Some p) in
      let s : Own = heard (own t) now first in
      let row = first_row setup (answering s (Some p) (Serves q reply left) below) first (lower_of limits szx t)
      law.exchanges in
      let none = none_ended from up p (own t).exchanges.separate row in
      let same : ◌≡◌ {A = Serving} (serving_of s p.0 q reply left) x = cc h in
      let c : Call = Feeds now from bytes w up (Some p) (Serves q reply left) below in
      subst (ServesAt t c) same
      (staged t c s p.0 q reply left (ap (λ e. unless_rejected (max (own t).clock now) (unmatched_by from up)
      (unless_ended e (own t).observers)) none
      ∙ ap (λ r. unless_rejected (max (own t).clock now) r (own t).observers) (none_rejected from up p row)) refl refl
      refl
      (InReply, refl)
      (is_serving (own t) c law.rows.0 (serving_of s p.0 q reply left) refl).serves)
  served_at t (Ticks now w below room (due.Ready a) passed (Serves q reply left) id answer) law x h =
      let first : E.Call = ticking (own t) now below room (due.Ready a) in
      let s : Own = heard (own t) now first in
      let row = first_row setup (responding s (due.Ready a) passed (Serves q reply left) w id) first
      (lower_of limits szx t) law.exchanges in
      let idle = (found_ready below (P.ready_at (W.own_of (lower_of limits szx t)) (max (own t).clock now)) room a
      row).idle in
      let same : ◌≡◌ {A = Serving} (serving_of s a q reply left) x = cc h in
      let c : Call = Ticks now w below room (due.Ready a) passed (Serves q reply left) id answer in
      subst (ServesAt t c) same
      (staged t c s a q reply left
      (ap (λ u. unless_ended (P.failed_by u (own t).exchanges.separate) (own t).observers) idle) refl refl refl
      (InCon id, refl)
      (is_serving (own t) c law.rows.0 (serving_of s a q reply left) refl).serves)
  served_at t _ law x e = absurd (cc e)
