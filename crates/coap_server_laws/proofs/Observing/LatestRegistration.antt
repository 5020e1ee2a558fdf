-- Each observer of a server is of the latest registration of its endpoint and token.
use Rattle.std.proofs.Common.{◌≡◌, ℕ, ◌==◌, ◌&&◌, nat_lt, Bool, true, false, not, Option, Some, None, List, [], ◌∷◌}
use Rattle.std.proofs.Common.{length, filter, max, refl, ap, sym, ◌∙◌, cond}
use Rattle.std.proofs.lemmas.Bool.{and_parts}
use Rattle.std.specs.Cmp.{unsigned_Decides}
use Rattle.coap_types.specs.declared.endpoint.Endpoint.{Endpoint}
use Rattle.coap_codec.specs.Message.{Message}
use Rattle.coap_layer.specs.Trace as L
use Rattle.coap_block.specs.Whole.{Each}
use Rattle.coap_observe.specs.declared.observers.TheConstants.{MAX_OBSERVERS as max_observers}
use Rattle.coap_observe.specs.Observers.{Observer, is_of, removed, registered, changed_at, marked_by, unmarked_by}
use Rattle.coap_observe.proofs.Facts.Registrations.{is_of-decides}
use Rattle.coap_resource.specs.Content.{Content, Held}
use Rattle.coap_resource.specs.RequestOptions.{block_of, szx_by}
use Rattle.coap_resource.specs.Serves.{Question, Reply}
use Rattle.coap_resource.specs.Limits.{Limits}
use Rattle.coap_exchange.specs.declared.answerer.Asked.{Asked}
use Rattle.coap_exchange.specs.declared.answerer.Due.{Due}
use Rattle.coap_exchange.specs.declared.answerer.Due.TheVariants as due
use Rattle.coap_exchange.specs.declared.answerer.Ended.{Ended}
use Rattle.coap_exchange.specs.AnswererSteps as P
use Rattle.coap_exchange.specs.SuccessCodes.{content}
use Rattle.coap_server.specs.Trace.{Own, Handling, Serves, Notifies, Call}
use Rattle.coap_server.specs.Trace.{Sets}
use Rattle.coap_server.specs.Trace.{Removes, Feeds, Ticks}
use Rattle.coap_server.specs.Observers.{observes, registers, observers_with, marked_if, unless_ended}
use Rattle.coap_server.specs.Notifying.{notified}
use Rattle.coap_server.specs.Handling.{incoming, ticking, heard}
use Rattle.coap_server.specs.Law.{own_of}
use Rattle.coap_server.specs.Observers.{unless_rejected}
use Rattle.coap_server.specs.Plain.{by_plain}
use Rattle.coap_observe.specs.Observers.{noted_by, noted_to}
use Rattle.coap_exchange.specs.AnswererSteps.{unmatched_by}
use Rattle.coap_exchange.specs.AnswererTrace.{Sending}
use Rattle.coap_server.proofs.Facts.Calls.EachOf.{each_map, each_with}
use Rattle.coap_server.proofs.Facts.Observing.ObserverLists.{notified_left, rejected_left}
use Rattle.coap_server.specs.Follows.Serves.{serving, serving_of}
use Rattle.coap_server.specs.Follows.Tells.{Pair, registers_by, registering}
use Rattle.coap_server.specs.Follows.Observes.{MadeBy}
use Rattle.coap_server_laws.specs.Follows.Latest.{LatestMade, IsLatest, AreLatest}
use Rattle.coap_types.specs.SameEndpoint.{same_endpoint}
use Rattle.coap_observe.specs.Observers.{elsewhere}
use Rattle.coap_server.specs.Trace.{Forgets}

-- lists of which each has a property, or another one

module _ (Q R : Observer → Type 0) where
  each_to : ((o : Observer) → Q o → R o) → (os : List Observer) → Each Q os → Each R os
  each_to f [] h = tt
  each_to f (o ∷ os) h = (f o h.0, each_to f os h.1)

  each_chosen : (p : Observer → Bool) → ((o : Observer) → p o ≡ true → Q o → R o) → (os : List Observer) → Each Q os
      → Each R (filter p os)
  each_chosen p f [] h = tt
  each_chosen p f (o ∷ os) h = by (p o) refl (each_chosen p f os h.1)
    where
      by : (b : Bool) → p o ≡ b → Each R (filter p os) → Each R (cond b (o ∷ filter p os) (filter p os))
      by true is k = (f o is h.0, k)
      by false is k = k

module _ (Q : Observer → Type 0) where
  each_removed : (to : Endpoint) (token : List ℕ) (os : List Observer) → Each Q os → Each Q (removed to token os)
  each_removed to token os h = each_chosen Q Q (λ o. not (is_of to token o)) (λ o is q. q) os h

  each_elsewhere : (peer : Endpoint) (os : List Observer) → Each Q os → Each Q (elsewhere peer os)
  each_elsewhere peer os h = each_chosen Q Q (λ o. not (same_endpoint o.to peer)) (λ o is q. q) os h

  pub each_ended : (e : Option Ended) (os : List Observer) → Each Q os → Each Q (unless_ended e os)
  each_ended None os h = h
  each_ended (Some x) os h = by x.observe
    where
      by : (b : Bool) → Each Q (cond b (removed x.to x.token os) os)
      by true = each_removed x.to x.token os h
      by false = h

  each_rejected : (at : ℕ) (r : Option Sending) (os : List Observer) → Each Q os → Each Q (unless_rejected at r os)
  each_rejected at r os h = rejected_left (Each Q) at r os h (λ to token. each_removed to token os h)

module _ (limits : Limits) (szx : ℕ) where
  abbrev own : List Call → Own
  own t = own_of limits szx t

  abbrev pair : Endpoint → List ℕ → Option Pair
  pair to token = Some (record { to = to; token = token })

  -- the call that a trace ends with
  made_now : (c : Call) (t : List Call) (to : Endpoint) (token : List ℕ) (path : List (List ℕ))
      → MadeBy limits szx to token path t c → LatestMade limits szx (c ∷ t) to token path
  made_now c t to token path made = record { newer = []; call = c; older = t; split = refl; made = made; latest = tt }

  made_before : (c : Call) (t : List Call) (to : Endpoint) (token : List ℕ) (path : List (List ℕ))
      → (registering (own t) c ≡ pair to token → ⊥) → LatestMade limits szx t to token path
      → LatestMade limits szx (c ∷ t) to token path
  made_before c t to token path none k = record {
    newer = c ∷ k.newer;
    call = k.call;
    older = k.older;
    split = ap (λ z. c ∷ z) k.split;
    made = k.made;
    latest = (λ h. none (ap (λ z. registering (own z) c) k.split ∙ h), k.latest);
  }

  module _ (t : List Call) where
    abbrev Now : Call → List Observer → Type 0
    Now c os = Each (IsLatest limits szx (c ∷ t)) os

    abbrev Before : List Observer → Type 0
    Before os = Each (IsLatest limits szx t) os

    -- a call that makes no registration
    later : (c : Call) → registering (own t) c ≡ None → (os : List Observer) → Before os → Now c os
    later c none os h =
        each_to (IsLatest limits szx t) (IsLatest limits szx (c ∷ t))
        (λ o k. made_before c t o.to o.token o.path
        (λ is. absurd (let e : None ≡ pair o.to o.token = sym none ∙ is in cc e)) k) os h

    marked_now : (c : Call) (at : ℕ) (path : List (List ℕ)) (old left : Content) (os : List Observer) → Now c os
        → Now c (marked_if at path old left os)
    marked_now c at path old left os h = by (left.tally.version == old.tally.version)
      where
        by : (b : Bool) → Now c (cond b os (changed_at at path os))
        by true = h
        by false = each_map (IsLatest limits szx (c ∷ t)) (marked_by at path) (λ o k. k) os h

    notified_now : (c : Call) (plain : Bool) (at id : ℕ) (held : Option Held) (o : Observer) (os : List Observer)
        → Now c os → Now c (notified plain at id held o os)
    notified_now c plain at id held o os h =
        notified_left (Now c) plain at id held o os (each_removed (IsLatest limits szx (c ∷ t)) o.to o.token os h)
        (each_map (IsLatest limits szx (c ∷ t)) (unmarked_by at o.to o.token false) (λ x k. k)
        (noted_to at o.to o.token id os)
        (each_map (IsLatest limits szx (c ∷ t)) (noted_by at o.to o.token id) (λ x k. k) os h))
        (each_map (IsLatest limits szx (c ∷ t)) (unmarked_by at o.to o.token true) (λ x k. k) os h)

    -- a request that is served may make one
    module _ (c : Call) (s : Own) (a : Asked) (q : Question) (reply : Reply) (left : Content) where
      served : registering (own t) c ≡ registers_by s a q reply → serving (own t) c ≡ Some (serving_of s a q reply left)
          → Before s.observers → Now c (observers_with s.clock a q reply s.observers)
      served is here h = by (registers a q reply s.observers) refl (observes 1 q)
        where
          made : registers a q reply s.observers ≡ true → MadeBy limits szx a.from a.token q.path t c
          made so =
              let x = and_parts (observes 0 q) ((reply.code == content)
              && ((reply.offset == 0) && nat_lt (length (removed a.from a.token s.observers)) max_observers)) so in
              let y = and_parts (reply.code == content)
              ((reply.offset == 0) && nat_lt (length (removed a.from a.token s.observers)) max_observers) x.1 in
              record {
                request = serving_of s a q reply left;
                here = here;
                from = refl;
                token_is = refl;
                path_is = refl;
                observe = x.0;
                code = (unsigned_Decides reply.code content).0 y.0;
                registers = is ∙ ap (λ b. cond b (pair a.from a.token) None) so;
              }

          -- it is not the pair of those that stay
          other : registers a q reply s.observers ≡ true → (o : Observer) → not (is_of a.from a.token o) ≡ true
              → registering (own t) c ≡ pair o.to o.token → ⊥
          other so o stays h =
              let e : pair a.from a.token ≡ pair o.to o.token =
              sym (is ∙ ap (λ b. cond b (pair a.from a.token) None) so) ∙ h in
              let p : ◌≡◌ {A = Pair} (record { to = a.from; token = a.token }) (record { to = o.to; token = o.token }) =
              cc e in
              let z = (is_of-decides a.from a.token o).1
              (ap (λ (x : Pair). x.to) (sym p), ap (λ (x : Pair). x.token) (sym p)) in
              cc (z, stays)

          none : registers a q reply s.observers ≡ false → registering (own t) c ≡ None
          none so = is ∙ ap (λ b. cond b (pair a.from a.token) None) so

          by : (b : Bool) → registers a q reply s.observers ≡ b → (m : Bool)
              → Now c (cond b (registered s.clock a.from a.token q.path (szx_by (block_of q.options) q.szx) s.observers)
              (cond m (removed a.from a.token s.observers) s.observers))
          by true so m =
              each_with (IsLatest limits szx (c ∷ t)) (removed a.from a.token s.observers) _
              (each_chosen (IsLatest limits szx t) (IsLatest limits szx (c ∷ t)) (λ o. not (is_of a.from a.token o))
              (λ o stays k. made_before c t o.to o.token o.path (other so o stays) k) s.observers h)
              (made_now c t a.from a.token q.path (made so))
          by false so true = each_removed (IsLatest limits szx (c ∷ t)) a.from a.token s.observers
              (later c (none so) s.observers h)
          by false so false = later c (none so) s.observers h

    fed : (now : ℕ) (from : Endpoint) (bytes : List ℕ) (w : ℕ) (up below : L.Answer) (came : Option (Asked × Message))
        (h : Handling) → Before (heard (own t) now (incoming (own t) now from bytes up came)).observers
        → Now (Feeds now from bytes w up came h below) (own (Feeds now from bytes w up came h below ∷ t)).observers
    fed now from bytes w up below (Some p) (Serves q reply left) g =
        let s : Own = heard (own t) now (incoming (own t) now from bytes up (Some p)) in
        let c : Call = Feeds now from bytes w up (Some p) (Serves q reply left) below in
        marked_now c s.clock q.path s.store left (observers_with s.clock p.0 q reply s.observers)
        (served c s p.0 q reply left refl refl g)
    fed now from bytes w up below _ _ g = later _ refl _ g

    module _ (now w : ℕ) (below : L.Answer) (room : Bool) (passed id : ℕ) (answer : Bool) where
      abbrev tick : Due → Handling → Call
      tick d h = Ticks now w below room d passed h id answer

      abbrev stage : Due → Own
      stage d = heard (own t) now (ticking (own t) now below room d)

      ticked : (d : Due) (h : Handling) → Before (stage d).observers → Now (tick d h) (own (tick d h ∷ t)).observers
      ticked (due.Ready a) (Serves q reply left) g =
          let s : Own = stage (due.Ready a) in
          let c : Call = tick (due.Ready a) (Serves q reply left) in
          marked_now c s.clock q.path s.store left (observers_with s.clock a q reply s.observers)
          (served c s a q reply left refl refl g)
      ticked d (Notifies o reply) g =
          let s : Own = stage d in
          notified_now _ (by_plain s o) s.clock id (s.store.holds o.path) o s.observers (later _ refl s.observers g)
      ticked _ _ g = later _ refl _ g

  pub are_latest : (t : List Call) → AreLatest limits szx t
  are_latest [] = tt
  are_latest (c ∷ t) = by c (are_latest t)
    where
      by : (c : Call) → Each (IsLatest limits szx t) (own t).observers
          → Each (IsLatest limits szx (c ∷ t)) (own (c ∷ t)).observers
      by (Sets now path format body answer left) g =
          marked_now t (Sets now path format body answer left) (max (own t).clock now) path (own t).store left
          (own t).observers
          (later t _ refl _ g)
      by (Removes now path answer left) g = marked_now t (Removes now path answer left) (max (own t).clock now) path
          (own t).store left
          (own t).observers (later t _ refl _ g)
      by (Feeds now from bytes w up came h below) g =
          let e : Option Ended = (P.after (own t).exchanges (incoming (own t) now from bytes up came)).ended in
          fed t now from bytes w up below came h
          (each_rejected (IsLatest limits szx t) (max (own t).clock now) (unmatched_by from up)
          (unless_ended e (own t).observers) (each_ended (IsLatest limits szx t) e (own t).observers g))
      by (Ticks now w below room d passed h id answer) g =
          ticked t now w below room passed id answer d h
          (each_ended (IsLatest limits szx t) (P.after (own t).exchanges (ticking (own t) now below room d)).ended
          (own t).observers g)
      by (Forgets peer) g =
          later t (Forgets peer) refl _ (each_elsewhere (IsLatest limits szx t) peer (own t).observers g)
      by _ g = later t _ refl _ g
