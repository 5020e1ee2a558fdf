-- What becomes of a request and of an observer does so with other endpoints in the place of theirs.
use Rattle.std.proofs.Common.{◌≡◌, ℕ, max, Bool, true, false, Option, Some, None, List, refl, ap, ap₂, sym, subst, ◌∙◌}
use Rattle.std.proofs.Common.{length, map, option_map}
use Rattle.coap_types.specs.declared.block.Block.{Block}
use Rattle.coap_types.specs.declared.endpoint.Endpoint.{Endpoint}
use Rattle.coap_codec.specs.Message.{Message}
use Rattle.coap_block.specs.declared.block_verdict.BlockVerdict.{BlockVerdict}
use Rattle.coap_block.specs.declared.block_verdict.BlockVerdict.TheVariants.{Refuse, Join, Done}
use Rattle.coap_observe.specs.Observers.{Observer}
use Rattle.coap_resource.specs.Content.{Content}
use Rattle.coap_resource.specs.Serves.{Question}
use Rattle.coap_exchange.specs.declared.answerer.Asked.{Asked}
use Rattle.coap_exchange.specs.declared.answerer.Due.{Due}
use Rattle.coap_exchange.specs.declared.answerer.Due.TheVariants as due
use Rattle.coap_exchange.specs.declared.answerer.Ended.{Ended}
use Rattle.coap_exchange.specs.AnswererSteps as P
use Rattle.coap_exchange.specs.AnswererTrace as E
use Rattle.coap_exchange.specs.AnswererTrace.{Sending}
use Rattle.coap_server.specs.Checks.{Verdict, Ignored, Refused, Asks, Uploads, verdict_on}
use Rattle.coap_server.specs.Deferring as D
use Rattle.coap_server.specs.Handling as H
use Rattle.coap_server.specs.Notifying as N
use Rattle.coap_server.specs.Observers.{unless_ended, unless_rejected}
use Rattle.coap_server.specs.Serving.{IsServed}
use Rattle.coap_server.specs.Trace.{Own, Handling, Silent}
use Rattle.coap_server.specs.Uploads as U
use Rattle.coap_opaque.specs.Renaming.Endpoints.{TellsApart}
use Rattle.coap_opaque.specs.Renaming.OfExchanges as X
use Rattle.coap_opaque.specs.Renaming.OfServer as S
use Rattle.coap_opaque.proofs.Renaming.AnswererCalls as A
use Rattle.coap_opaque.proofs.Renaming.AnswererParts.{may_defer_same, unmatched_same}
use Rattle.coap_opaque.proofs.Renaming.ServerObservers as O
use Rattle.coap_opaque.proofs.Renaming.ServerParts as W

module _ (rename : Endpoint → Endpoint) where
  -- a request that is served, or waits

  is_served : (old : Content) (at : ℕ) (q : Question) (h : Handling) → IsServed old at q h
      → IsServed old at q (S.handling rename h)
  is_served old at q h k =
      record { reply = k.reply; left = k.left; serves = k.serves; is = ap (S.handling rename) k.is }

  waits_by : (o : Option ℕ) (b : Bool) (old : Content) (at : ℕ) (q : Question) (h : Handling)
      → D.WaitsBy o b old at q h → D.WaitsBy o b old at q (S.handling rename h)
  waits_by (Some delay) true old at q h k = ap (S.handling rename) k
  waits_by (Some delay) false old at q h k = is_served old at q h k
  waits_by None true old at q h k = is_served old at q h k
  waits_by None false old at q h k = is_served old at q h k

  whole_same : (s : Own) (a : Asked) (q : Question) (h : Handling) → D.HandlesWhole s a q h
      → D.HandlesWhole (S.own rename s) (X.asked rename a) q (S.handling rename h)
  whole_same s a q h k =
      let delay : Option ℕ = D.delay_for a.kind q.path s.delays in
      subst (λ b. D.WaitsBy delay b s.store s.clock q (S.handling rename h))
      (sym (may_defer_same rename s.exchanges.deferred))
      (waits_by delay (P.may_defer s.exchanges.deferred) s.store s.clock q h k)

  answers_waiting : (o : Option Question) (old : Content) (at : ℕ) (h : Handling) → D.AnswersWaiting o old at h
      → D.AnswersWaiting o old at (S.handling rename h)
  answers_waiting None old at h k = ap (S.handling rename) k
  answers_waiting (Some q) old at h k = is_served old at q h k

  notifies_next : (o : Option Observer) (store : Content) (h : Handling) → N.NotifiesNext o store h
      → N.NotifiesNext (option_map (S.observer rename) o) store (S.handling rename h)
  notifies_next None store h k = ap (S.handling rename) k
  notifies_next (Some o) store h k = ap (S.handling rename) k

  pub done_same : (d : Due) (h : Handling)
      → H.is_done (X.what_is_due rename d) (S.handling rename h) ≡ H.is_done d h
  done_same due.Idle Silent = refl
  done_same _ _ = refl

  rejected_same : (c : E.Call) → H.rejected_in (X.call rename c) ≡ option_map (X.sending rename) (H.rejected_in c)
  rejected_same (E.Incoming now from bytes up answer) = unmatched_same rename from up
  rejected_same _ = refl

  module _ (apart : TellsApart rename) where
    -- what an input first makes of a server
    pub heard_same : (s : Own) (now : ℕ) (c : E.Call)
        → H.heard (S.own rename s) now (X.call rename c) ≡ S.own rename (H.heard s now c)
    heard_same s now c =
        let at : ℕ = max s.clock now in
        let exchanges = A.after_same rename apart s.exchanges c in
        let ended : Option Ended = (P.after s.exchanges c).ended in
        let observers =
        ap₂ (λ (r : Option Sending) (x : E.Own).
        unless_rejected at r (unless_ended x.ended (map (S.observer rename) s.observers)))
        (rejected_same c) exchanges
        ∙ (ap (unless_rejected at (option_map (X.sending rename) (H.rejected_in c)))
        (O.unless_ended_same rename apart ended s.observers)
        ∙ O.unless_rejected_same rename apart at (H.rejected_in c) (unless_ended ended s.observers)) in
        λ i. record (S.own rename s) { clock = at; exchanges = exchanges i; observers = observers i }

    -- a request

    block_same : (v : BlockVerdict) (s : Own) (a : Asked) (q : Question) (b : Block) (h : Handling)
        → H.HandlesBlock v s a q b h
        → H.HandlesBlock v (S.own rename s) (X.asked rename a) q b (S.handling rename h)
    block_same (Refuse why) s a q b h k = ap (S.handling rename) k
    block_same (Join szx) s a q b h k = ap (S.handling rename) k
    block_same Done s a q b h k =
        let body = W.with_block_same rename apart s.uploads s.clock (U.key_of a q) b q.body in
        subst (λ (xs : List ℕ).
        D.HandlesWhole (S.own rename s) (X.asked rename a) (record q { body = xs }) (S.handling rename h)) (sym body)
        (whole_same s a (U.whole s.uploads s.clock a q b) h k)

    handles_same : (s : Own) (a : Asked) (v : Verdict) (h : Handling) → H.Handles s a v h
        → H.Handles (S.own rename s) (X.asked rename a) v (S.handling rename h)
    handles_same s a Ignored h k = ap (S.handling rename) k
    handles_same s a (Refused code) h k = ap (S.handling rename) k
    handles_same s a (Asks q) h k = whole_same s a q h k
    handles_same s a (Uploads q b) h k =
        subst (λ v. H.HandlesBlock v (S.own rename s) (X.asked rename a) q b (S.handling rename h))
        (sym (W.verdict_same rename apart s.uploads s.clock (U.key_of a q) b (length q.body)))
        (block_same (U.ruling_of s.uploads s.clock a q b) s a q b h k)

    pub came_same : (s : Own) (c : Option (Asked × Message)) (h : Handling) → H.HandlesCame s c h
        → H.HandlesCame (S.own rename s) (option_map (X.came rename) c) (S.handling rename h)
    came_same s None h k = ap (S.handling rename) k
    came_same s (Some p) h k = handles_same s p.0 (verdict_on s.szx p.1) h k

    -- what is due

    pub due_same : (s : Own) (d : Due) (n : ℕ) (h : Handling) → H.HandlesDue s d n h
        → H.HandlesDue (S.own rename s) (X.what_is_due rename d) n (S.handling rename h)
    due_same s due.Idle n h k =
        subst (λ o. N.NotifiesNext o s.store (S.handling rename h))
        (sym (ap (N.behind n) (O.marked_same rename s.observers)
        ∙ O.behind_same rename n (N.marked s.observers)))
        (notifies_next (N.behind n (N.marked s.observers)) s.store h k)
    due_same s (due.Ready a) n h k =
        subst (λ o. D.AnswersWaiting o s.store s.clock (S.handling rename h))
        (sym (W.question_same rename apart s.clock a s.waiting))
        (answers_waiting (D.question_of s.clock a s.waiting) s.store s.clock h k)
    due_same s due.Copied n h k = ap (S.handling rename) k
    due_same s due.Expired n h k = ap (S.handling rename) k
