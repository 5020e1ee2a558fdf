-- A call of a server does the same with other endpoints in the place of theirs.
use Rattle.std.proofs.Common.{◌≡◌, ℕ, max, Bool, true, false, Option, Some, None, List, [], ◌∷◌, ◌++◌, refl, ap, ap₂}
use Rattle.std.proofs.Common.{sym, subst, ◌∙◌, cond, map, not, option_map}
use Rattle.std.proofs.lemmas.List.{map-append}
use Rattle.coap_types.specs.declared.endpoint.Endpoint.{Endpoint}
use Rattle.coap_codec.specs.Message.{Message}
use Rattle.coap_layer.specs.Trace as L
use Rattle.coap_block.specs.AssemblyState.{AssemblyState}
use Rattle.coap_observe.specs.Observers.{Observer}
use Rattle.coap_resource.specs.Content.{Content}
use Rattle.coap_resource.specs.Serves.{Question, Reply}
use Rattle.coap_exchange.specs.declared.answerer.Asked.{Asked}
use Rattle.coap_exchange.specs.declared.answerer.Due.{Due}
use Rattle.coap_exchange.specs.declared.answerer.Due.TheVariants as due
use Rattle.coap_exchange.specs.AnswererSteps as P
use Rattle.coap_exchange.specs.AnswererTrace as E
use Rattle.coap_server.specs.Asks as Q
use Rattle.coap_server.specs.Checks.{verdict_on}
use Rattle.coap_server.specs.Handling.{HandlesCame, HandlesDue, heard, incoming, ticking}
use Rattle.coap_server.specs.Notifying as N
use Rattle.coap_server.specs.Plain.{by_plain}
use Rattle.coap_server.specs.Refusing.{refusing}
use Rattle.coap_server.specs.Serving.{applied_by, is_applied, version_made}
use Rattle.coap_server.specs.Steps as T
use Rattle.coap_server.specs.Trace.{Own, Waiting, Applied, Handling, Silent, Replies, Serves, Waits, Notifies, Call}
use Rattle.coap_server.specs.Trace.{Sets, Removes, Delays, Plains, Feeds, Refuses, Ticks, NextOut, Gets, TellsApplied}
use Rattle.coap_opaque.specs.Renaming.Endpoints.{TellsApart}
use Rattle.coap_opaque.specs.Renaming.OfExchanges as X
use Rattle.coap_opaque.specs.Renaming.OfLayer as R
use Rattle.coap_opaque.specs.Renaming.OfServer as S
use Rattle.coap_opaque.proofs.Renaming.AnswererCalls as A
use Rattle.coap_opaque.proofs.Renaming.AnswererParts.{asked_in_same}
use Rattle.coap_opaque.proofs.Renaming.ServerObservers as O
use Rattle.coap_opaque.proofs.Renaming.ServerParts as W
use Rattle.coap_opaque.proofs.Renaming.ServerRows as V
use Rattle.coap_opaque.proofs.Renaming.Stacked.{sum_same}
use Rattle.coap_types.specs.SameEndpoint.{same_endpoint}
use Rattle.coap_opaque.proofs.Renaming.Lists.{filter_same}
use Rattle.coap_server.specs.Trace.{Forgets}

module _ (rename : Endpoint → Endpoint) (apart : TellsApart rename) where
  -- what is asked of the exchanges

  answering_same : (s : Own) (c : Option (Asked × Message)) (h : Handling) (below : L.Answer)
      → Q.answering (S.own rename s) (option_map (X.came rename) c) (S.handling rename h) (R.answer rename below)
      ≡ map (X.call rename) (Q.answering s c h below)
  answering_same s (Some p) (Replies response) below = refl
  answering_same s (Some p) (Serves q reply left) below =
      ap₂ (λ r xs. E.Answers (X.asked rename p.0) r (R.answer rename below) ∷ xs)
      (O.response_same rename apart s.store s.observers p.0 q reply) (W.deferral_same rename s p.0 q)
  answering_same s (Some p) (Waits q delay) below = W.deferral_same rename s p.0 q
  answering_same s _ _ below = refl

  refusing_same : (a : Asked) (response : Option ℕ) (below : L.Answer)
      → refusing (X.asked rename a) response (R.answer rename below) ≡ map (X.call rename) (refusing a response below)
  refusing_same a None below = refl
  refusing_same a (Some code) below = refl

  notifies_same : (b : Bool) (at : ℕ) (o : Observer) (r : E.Response) (word id : ℕ)
      → Q.notifies_by b at (S.observer rename o) r word id ≡ X.call rename (Q.notifies_by b at o r word id)
  notifies_same true at o r word id = refl
  notifies_same false at o r word id = refl

  nobody_same : (s : Own) (n : ℕ)
      → N.readies s.clock n (N.marked (map (S.observer rename) s.observers))
      ≡ map (X.call rename) (N.readies s.clock n (N.marked s.observers))
  nobody_same s n =
      ap (N.readies s.clock n) (O.marked_same rename s.observers) ∙ O.readies_same rename s.clock n
      (N.marked s.observers)

  responding_same : (s : Own) (d : Due) (n : ℕ) (h : Handling) (word id : ℕ)
      → Q.responding (S.own rename s) (X.what_is_due rename d) n (S.handling rename h) word id
      ≡ map (X.call rename) (Q.responding s d n h word id)
  responding_same s (due.Ready a) n (Serves q reply left) word id =
      ap (λ r. E.Responds s.clock (X.asked rename a) r word id ∷ [])
      (O.response_same rename apart s.store s.observers a q reply)
  responding_same s due.Idle n (Notifies o reply) word id =
      let r : E.Response = N.notification s.store o reply in
      ap₂ (λ x xs. x ∷ xs)
      (ap (λ b. Q.notifies_by b s.clock (S.observer rename o) r word id)
      (O.plain_same rename s.plains s.clock (s.store.holds o.path) o)
      ∙ notifies_same (by_plain s o) s.clock o r word id) (nobody_same s n)
  responding_same s due.Idle n _ word id = nobody_same s n
  responding_same s _ n _ word id = refl

  module _ (s : Own) (now : ℕ) where
    abbrev fed : Endpoint → List ℕ → L.Answer → Option (Asked × Message) → E.Call
    fed from bytes up c = incoming s now from bytes up c

    abbrev ticked : L.Answer → Bool → Due → E.Call
    ticked below room d = ticking s now below room d

    behind_fed : (from : Endpoint) (bytes : List ℕ) (up : L.Answer) (c : Option (Asked × Message)) (h : Handling)
        (below : L.Answer)
        → Q.answering (heard (S.own rename s) now (X.call rename (fed from bytes up c)))
        (option_map (X.came rename) c) (S.handling rename h) (R.answer rename below)
        ≡ map (X.call rename) (Q.answering (heard s now (fed from bytes up c)) c h below)
    behind_fed from bytes up c h below =
        ap (λ x. Q.answering x (option_map (X.came rename) c) (S.handling rename h) (R.answer rename below))
        (V.heard_same rename apart s now (fed from bytes up c))
        ∙ answering_same (heard s now (fed from bytes up c)) c h below

    behind_ticked : (below : L.Answer) (room : Bool) (d : Due) (n : ℕ) (h : Handling) (word id : ℕ)
        → Q.responding (heard (S.own rename s) now (X.call rename (ticked below room d))) (X.what_is_due rename d) n
        (S.handling rename h) word id
        ≡ map (X.call rename) (Q.responding (heard s now (ticked below room d)) d n h word id)
    behind_ticked below room d n h word id =
        ap (λ x. Q.responding x (X.what_is_due rename d) n (S.handling rename h) word id)
        (V.heard_same rename apart s now (ticked below room d))
        ∙ responding_same (heard s now (ticked below room d)) d n h word id

  in_front : (xs ys : List E.Call) (c : E.Call) → xs ≡ map (X.call rename) ys
      → xs ++ X.call rename c ∷ [] ≡ map (X.call rename) (ys ++ c ∷ [])
  in_front xs ys c h = ap (λ zs. zs ++ X.call rename c ∷ []) h ∙ sym (map-append (X.call rename) ys (c ∷ []))

  pub lower_same : (s : Own) (c : Call)
      → Q.lower (S.own rename s) (S.call rename c) ≡ map (X.call rename) (Q.lower s c)
  lower_same s (Feeds now from bytes word up c h below) =
      in_front _ (Q.answering (heard s now (fed s now from bytes up c)) c h below) (fed s now from bytes up c)
      (behind_fed s now from bytes up c h below)
  lower_same s (Refuses now from bytes word code up p response below) =
      in_front _ (refusing p.0 response below) (fed s now from bytes up (Some p)) (refusing_same p.0 response below)
  lower_same s (Ticks now word below room d n h id answer) =
      in_front _ (Q.responding (heard s now (ticked s now below room d)) d n h word id) (ticked s now below room d)
      (behind_ticked s now below room d n h word id)
  lower_same s (Sets now path format body answer left) = refl
  lower_same s (Removes now path answer left) = refl
  lower_same s (Delays path ms answer) = refl
  lower_same s (Plains path answer) = refl
  lower_same s (NextOut answer) = refl
  lower_same s (Gets path answer) = refl
  lower_same s (TellsApplied answer) = refl
  lower_same s (Forgets peer) = refl

  -- what is answered
  pub right_same : (s : Own) (c : Call) → T.IsRight s c → T.IsRight (S.own rename s) (S.call rename c)
  right_same s (Feeds now from bytes word up c h below) k =
      subst (λ x. HandlesCame x (option_map (X.came rename) c) (S.handling rename h))
      (sym (V.heard_same rename apart s now (fed s now from bytes up c)))
      (V.came_same rename apart (heard s now (fed s now from bytes up c)) c h k)
  right_same s (Refuses now from bytes word code up p response below) k = k
  right_same s (Ticks now word below room d n h id answer) k = (
    subst (λ x. HandlesDue x (X.what_is_due rename d) n (S.handling rename h))
        (sym (V.heard_same rename apart s now (ticked s now below room d)))
        (V.due_same rename apart (heard s now (ticked s now below room d)) d n h k.0),
    k.1 ∙ sym (V.done_same rename d h),
  )
  right_same s (TellsApplied answer) k = ap (map (S.applied rename)) k
  right_same s (Sets now path format body answer left) k = k
  right_same s (Removes now path answer left) k = k
  right_same s (Delays path ms answer) k = k
  right_same s (Plains path answer) k = k
  right_same s (NextOut answer) k = k
  right_same s (Gets path answer) k = k
  right_same s (Forgets peer) k = k

  -- what is left of each part

  exchanges_same : (s : E.Own) (calls : List E.Call)
      → T.exchanges_after (X.own rename s) (map (X.call rename) calls) ≡ X.own rename (T.exchanges_after s calls)
  exchanges_same s calls =
      sum_same (X.own rename) (X.call rename) P.after (A.after_same rename apart) s (X.own rename s) refl calls

  store_same : (h : Handling) (old : Content) → T.store_after (S.handling rename h) old ≡ T.store_after h old
  store_same (Serves q reply left) old = refl
  store_same _ old = refl

  observers_same : (at : ℕ) (old : Content) (o : Option Asked) (h : Handling) (os : List Observer)
      → T.observers_after at old (option_map (X.asked rename) o) (S.handling rename h) (map (S.observer rename) os)
      ≡ map (S.observer rename) (T.observers_after at old o h os)
  observers_same at old (Some a) (Serves q reply left) os = O.served_same rename apart at old a q reply left os
  observers_same at old _ _ os = refl

  abbrev one_applied : Content → Asked → Question → Content → Applied
  one_applied old a q left = record {
    from = a.from;
    token = a.token;
    path = q.path;
    method = q.method;
    version = version_made old left;
  }

  applied_by_same : (old : Content) (a : Asked) (q : Question) (reply : Reply) (left : Content)
      → applied_by old (X.asked rename a) q reply left ≡ map (S.applied rename) (applied_by old a q reply left)
  applied_by_same old a q reply left = by (is_applied reply.code)
    where
      by : (b : Bool) → cond b (one_applied old (X.asked rename a) q left ∷ []) []
          ≡ map (S.applied rename) (cond b (one_applied old a q left ∷ []) [])
      by true = refl
      by false = refl

  applied_same : (old : Content) (o : Option Asked) (h : Handling)
      → T.applied_after old (option_map (X.asked rename) o) (S.handling rename h)
      ≡ map (S.applied rename) (T.applied_after old o h)
  applied_same old (Some a) (Serves q reply left) = applied_by_same old a q reply left
  applied_same old _ _ = refl

  uploads_same : (szx at : ℕ) (c : Option (Asked × Message)) (u : AssemblyState)
      → T.uploads_came szx at (option_map (X.came rename) c) (S.uploads rename u)
      ≡ S.uploads rename (T.uploads_came szx at c u)
  uploads_same szx at None u = refl
  uploads_same szx at (Some p) u = W.uploads_after_same rename apart at p.0 (verdict_on szx p.1) u

  waiting_came_same : (at : ℕ) (c : Option (Asked × Message)) (h : Handling) (ws : List Waiting)
      → T.waiting_came at (option_map (X.came rename) c) (S.handling rename h) (map (S.waiting rename) ws)
      ≡ map (S.waiting rename) (T.waiting_came at c h ws)
  waiting_came_same at None h ws = refl
  waiting_came_same at (Some p) h ws = W.waiting_with_same rename at p.0 h ws

  waiting_due_same : (at : ℕ) (o : Option Asked) (ws : List Waiting)
      → T.waiting_due at (option_map (X.asked rename) o) (map (S.waiting rename) ws)
      ≡ map (S.waiting rename) (T.waiting_due at o ws)
  waiting_due_same at None ws = refl
  waiting_due_same at (Some a) ws = W.without_waiting_same rename apart at a ws

  ready_in_same : (d : Due) → T.ready_in (X.what_is_due rename d) ≡ option_map (X.asked rename) (T.ready_in d)
  ready_in_same (due.Ready a) = refl
  ready_in_same _ = refl

  observers_ready : (s : Own) (d : Due) (h : Handling)
      → T.observers_after s.clock s.store (T.ready_in (X.what_is_due rename d)) (S.handling rename h)
      (map (S.observer rename) s.observers)
      ≡ map (S.observer rename) (T.observers_after s.clock s.store (T.ready_in d) h s.observers)
  observers_ready s d h =
      ap (λ o. T.observers_after s.clock s.store o (S.handling rename h) (map (S.observer rename) s.observers))
      (ready_in_same d)
      ∙ observers_same s.clock s.store (T.ready_in d) h s.observers

  observers_due_same : (s : Own) (d : Due) (h : Handling) (id : ℕ)
      → T.observers_due (S.own rename s) (X.what_is_due rename d) (S.handling rename h) id
      ≡ map (S.observer rename) (T.observers_due s d h id)
  observers_due_same s d (Notifies o reply) id =
      ap (λ b. N.notified b s.clock id (s.store.holds o.path) (S.observer rename o)
      (map (S.observer rename) s.observers)) (O.plain_same rename s.plains s.clock (s.store.holds o.path) o)
      ∙ O.notified_same rename apart (by_plain s o) s.clock id (s.store.holds o.path) o s.observers
  observers_due_same s d Silent id = observers_ready s d Silent
  observers_due_same s d (Replies r) id = observers_ready s d (Replies r)
  observers_due_same s d (Serves q reply left) id = observers_ready s d (Serves q reply left)
  observers_due_same s d (Waits q delay) id = observers_ready s d (Waits q delay)

  -- what is left

  came_after_same : (s : Own) (c : Option (Asked × Message)) (h : Handling) (asks : List E.Call)
      → T.came_after (S.own rename s) (option_map (X.came rename) c) (S.handling rename h)
      (map (X.call rename) asks)
      ≡ S.own rename (T.came_after s c h asks)
  came_after_same s c h asks =
      let asked = asked_in_same rename c in
      let store = store_same h s.store in
      let os : List Observer = map (S.observer rename) s.observers in
      let observers = ap (λ o. T.observers_after s.clock s.store o (S.handling rename h) os) asked
      ∙ observers_same s.clock s.store (P.asked_in c) h s.observers in
      let applied = ap (λ o. T.applied_after s.store o (S.handling rename h)) asked
      ∙ applied_same s.store (P.asked_in c) h in
      let exchanges = exchanges_same s.exchanges asks in
      let uploads = uploads_same s.szx s.clock c s.uploads in
      let waiting = waiting_came_same s.clock c h s.waiting in
      λ i. record {
        szx = s.szx;
        clock = s.clock;
        exchanges = exchanges i;
        store = store i;
        uploads = uploads i;
        observers = observers i;
        plains = s.plains;
        delays = s.delays;
        waiting = waiting i;
        applied = applied i;
      }

  due_after_same : (s : Own) (d : Due) (h : Handling) (id : ℕ) (asks : List E.Call)
      → T.due_after (S.own rename s) (X.what_is_due rename d) (S.handling rename h) id (map (X.call rename) asks)
      ≡ S.own rename (T.due_after s d h id asks)
  due_after_same s d h id asks =
      let ready = ready_in_same d in
      let store = store_same h s.store in
      let observers = observers_due_same s d h id in
      let applied = ap (λ o. T.applied_after s.store o (S.handling rename h)) ready
      ∙ applied_same s.store (T.ready_in d) h in
      let exchanges = exchanges_same s.exchanges asks in
      let waiting = ap (λ o. T.waiting_due s.clock o (map (S.waiting rename) s.waiting)) ready
      ∙ waiting_due_same s.clock (T.ready_in d) s.waiting in
      λ i. record {
        szx = s.szx;
        clock = s.clock;
        exchanges = exchanges i;
        store = store i;
        uploads = S.uploads rename s.uploads;
        observers = observers i;
        plains = s.plains;
        delays = s.delays;
        waiting = waiting i;
        applied = applied i;
      }

  refused_after_same : (s : Own) (now : ℕ) (first : E.Call) (asks : List E.Call)
      → T.refused_after (S.own rename s) now (X.call rename first) (map (X.call rename) asks)
      ≡ S.own rename (T.refused_after s now first asks)
  refused_after_same s now first asks =
      let exchanges = ap (λ x. T.exchanges_after x (map (X.call rename) asks))
      (A.after_same rename apart s.exchanges first)
      ∙ exchanges_same (P.after s.exchanges first) asks in
      λ i. record (S.own rename s) { clock = max s.clock now; exchanges = exchanges i; applied = [] }

  forgotten_after_same : (s : Own) (peer : Endpoint)
      → T.forgotten_after (S.own rename s) (rename peer) (E.Forgets (rename peer) ∷ [])
      ≡ S.own rename (T.forgotten_after s peer (E.Forgets peer ∷ []))
  forgotten_after_same s peer =
      let exchanges = exchanges_same s.exchanges (E.Forgets peer ∷ []) in
      let partials = filter_same (S.partial rename) (λ p. not (same_endpoint p.key.from peer))
      (λ p. not (same_endpoint p.key.from (rename peer))) (λ p. ap not (apart p.key.from peer)) s.uploads.partials in
      let observers = filter_same (S.observer rename) (λ o. not (same_endpoint o.to peer))
      (λ o. not (same_endpoint o.to (rename peer))) (λ o. ap not (apart o.to peer)) s.observers in
      let waiting = filter_same (S.waiting rename) (λ w. not (same_endpoint w.asked.from peer))
      (λ w. not (same_endpoint w.asked.from (rename peer))) (λ w. ap not (apart w.asked.from peer)) s.waiting in
      λ i. record (S.own rename s) {
        exchanges = exchanges i;
        uploads = record (S.uploads rename s.uploads) { partials = partials i };
        observers = observers i;
        waiting = waiting i;
      }

  pub after_same : (s : Own) (c : Call) → T.after (S.own rename s) (S.call rename c) ≡ S.own rename (T.after s c)
  after_same s (Sets now path format body answer left) =
      let observers = O.marked_if_same rename (max s.clock now) path s.store left s.observers in
      λ i. record (S.own rename s) { clock = max s.clock now; store = left; observers = observers i }
  after_same s (Removes now path answer left) =
      let observers = O.marked_if_same rename (max s.clock now) path s.store left s.observers in
      λ i. record (S.own rename s) { clock = max s.clock now; store = left; observers = observers i }
  after_same s (Feeds now from bytes word up c h below) =
      let first : E.Call = fed s now from bytes up c in
      ap₂ (λ x xs. T.came_after x (option_map (X.came rename) c) (S.handling rename h) xs)
      (V.heard_same rename apart s now first) (behind_fed s now from bytes up c h below)
      ∙ came_after_same (heard s now first) c h (Q.answering (heard s now first) c h below)
  after_same s (Refuses now from bytes word code up p response below) =
      let first : E.Call = fed s now from bytes up (Some p) in
      ap (T.refused_after (S.own rename s) now (X.call rename first)) (refusing_same p.0 response below)
      ∙ refused_after_same s now first (refusing p.0 response below)
  after_same s (Ticks now word below room d n h id answer) =
      let first : E.Call = ticked s now below room d in
      ap₂ (λ x xs. T.due_after x (X.what_is_due rename d) (S.handling rename h) id xs)
      (V.heard_same rename apart s now first) (behind_ticked s now below room d n h word id)
      ∙ due_after_same (heard s now first) d h id (Q.responding (heard s now first) d n h word id)
  after_same s (NextOut answer) = refl
  after_same s (Delays path ms answer) = refl
  after_same s (Plains path answer) = refl
  after_same s (Gets path answer) = refl
  after_same s (TellsApplied answer) = refl
  after_same s (Forgets peer) = forgotten_after_same s peer
