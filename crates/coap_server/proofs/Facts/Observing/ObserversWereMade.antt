-- The observers of a server are registrations, and each was made by a GET that was served.
use Rattle.coap_observe.specs.declared.observers.TheConstants.{MAX_OBSERVERS as max_observers}
use Rattle.std.proofs.Common.{◌≡◌, ◌<◌, inl, inr, ℕ, ◌==◌, ◌&&◌, nat_lt, Bool, true, false, not, Option, Some, None}
use Rattle.std.proofs.Common.{List, [], ◌∷◌, length, max, refl, ap, cond, arith}
use Rattle.std.proofs.lemmas.Bool.{ltb-true}
use Rattle.std.specs.Cmp.{unsigned_Decides}
use Rattle.coap_types.specs.Past.{Sometime}
use Rattle.coap_types.specs.declared.endpoint.Endpoint.{Endpoint}
use Rattle.coap_codec.specs.Message.{Message}
use Rattle.coap_layer.specs.Trace as L
use Rattle.coap_block.specs.Whole.{Each}
use Rattle.coap_observe.specs.Observers.{Observer, AreRegistrations, is_of, removed, registered, changed_at, marked_by}
use Rattle.coap_observe.specs.Observers.{elsewhere, noted_by, noted_to, sent_to, unmarked_by}
use Rattle.coap_types.specs.SameEndpoint.{same_endpoint}
use Rattle.coap_observe.proofs.Facts.Registrations.{registrations-changed, registrations-elsewhere}
use Rattle.coap_observe.proofs.Facts.Registrations.{registrations-registered}
use Rattle.coap_observe.proofs.Facts.Registrations.{registrations-noted, registrations-removed, registrations-sent}
use Rattle.coap_resource.specs.Content.{Content, Held}
use Rattle.coap_resource.specs.RequestOptions.{block_of, szx_by}
use Rattle.coap_resource.specs.Serves.{Question, Reply}
use Rattle.coap_resource.specs.Limits.{Limits}
use Rattle.coap_exchange.specs.declared.answerer.Asked.{Asked}
use Rattle.coap_exchange.specs.declared.answerer.Due.{Due}
use Rattle.coap_exchange.specs.declared.answerer.Due.TheVariants as due
use Rattle.coap_exchange.specs.declared.answerer.Ended.{Ended}
use Rattle.coap_exchange.specs.AnswererSteps as P
use Rattle.coap_exchange.specs.AnswererSteps.{unmatched_by}
use Rattle.coap_exchange.specs.AnswererTrace.{Sending}
use Rattle.std.proofs.lemmas.Bool.{and_parts}
use Rattle.coap_exchange.specs.SuccessCodes.{content}
use Rattle.coap_server.specs.Trace.{Own, Handling, Serves, Notifies, Call}
use Rattle.coap_server.specs.Trace.{Sets}
use Rattle.coap_server.specs.Trace.{Removes, Feeds, Forgets, Ticks}
use Rattle.coap_server.specs.Serving.{observers_served}
use Rattle.coap_server.specs.Observers.{observes, registers, observers_with, marked_if, unless_ended, unless_rejected}
use Rattle.coap_server.specs.Notifying.{behind, marked, notified}
use Rattle.coap_server.specs.Handling.{incoming, ticking, heard}
use Rattle.coap_server.specs.Plain.{by_plain}
use Rattle.coap_server.proofs.Facts.Calls.EachOf.{each_kept, each_map, each_with}
use Rattle.coap_server.proofs.Facts.Observing.MarkedObservers.{behind_there, each_there, marked_there}
use Rattle.coap_server.proofs.Facts.Observing.ObserverLists.{notified_left, rejected_left}
use Rattle.coap_server.specs.Law.{own_of}
use Rattle.coap_server.specs.Follows.Tells.{Pair}
use Rattle.coap_server.specs.Follows.Serves.{serving_of}
use Rattle.coap_server.specs.Follows.Observes.{MadeWith, WasMade, AreObservers}

abbrev pair_of : Asked → Pair
pair_of a = record { to = a.from; token = a.token }

-- what a registration needs
record Registers (a : Asked) (q : Question) (reply : Reply) (os : List Observer) : Type 0 where
  so : registers a q reply os ≡ true
  observe : observes 0 q ≡ true
  code : reply.code ≡ content
  room : length (removed a.from a.token os) < 64

registers_so : (a : Asked) (q : Question) (reply : Reply) (os : List Observer) → registers a q reply os ≡ true
    → Registers a q reply os
registers_so a q reply os h =
    let x = and_parts (observes 0 q) ((reply.code == content)
    && ((reply.offset == 0) && nat_lt (length (removed a.from a.token os)) max_observers)) h in
    let y = and_parts (reply.code == content) ((reply.offset == 0)
    && nat_lt (length (removed a.from a.token os)) max_observers) x.1 in
    let z = and_parts (reply.offset == 0) (nat_lt (length (removed a.from a.token os)) max_observers) y.1 in
    record {
      so = h;
      observe = x.0;
      code = (unsigned_Decides reply.code content).0 y.0;
      room = ltb-true (length (removed a.from a.token os)) 64 z.1;
    }

module _ (limits : Limits) (szx : ℕ) (t : List Call) where
  pub record Good (os : List Observer) : Type 0 where
    pub registrations : AreRegistrations os
    pub made : Each (WasMade limits szx t) os

  good_removed : (to : Endpoint) (token : List ℕ) (os : List Observer) → Good os → Good (removed to token os)
  good_removed to token os g =
      record {
        registrations = registrations-removed to token os g.registrations;
        made = each_kept (WasMade limits szx t) (λ o. not (is_of to token o)) os g.made;
      }

  good_elsewhere : (peer : Endpoint) (os : List Observer) → Good os → Good (elsewhere peer os)
  good_elsewhere peer os g =
      record {
        registrations = registrations-elsewhere peer os g.registrations;
        made = each_kept (WasMade limits szx t) (λ o. not (same_endpoint o.to peer)) os g.made;
      }

  pub good_ended : (e : Option Ended) (os : List Observer) → Good os → Good (unless_ended e os)
  good_ended None os g = g
  good_ended (Some x) os g = by x.observe
    where
      by : (b : Bool) → Good (cond b (removed x.to x.token os) os)
      by true = good_removed x.to x.token os g
      by false = g

  good_marked : (at : ℕ) (path : List (List ℕ)) (old left : Content) (os : List Observer) → Good os
      → Good (marked_if at path old left os)
  good_marked at path old left os g = by (left.tally.version == old.tally.version)
    where
      by : (b : Bool) → Good (cond b os (changed_at at path os))
      by true = g
      by false = record {
        registrations = registrations-changed at path os g.registrations;
        made = each_map (WasMade limits szx t) (marked_by at path) (λ o h. h) os g.made;
      }

  pub good_rejected : (at : ℕ) (r : Option Sending) (os : List Observer) → Good os → Good (unless_rejected at r os)
  good_rejected at r os g = rejected_left Good at r os g (λ to token. good_removed to token os g)

  good_sent : (at : ℕ) (to : Endpoint) (token : List ℕ) (con : Bool) (os : List Observer) → Good os
      → Good (sent_to at to token con os)
  good_sent at to token con os g = record {
    registrations = registrations-sent at to token con os g.registrations;
    made = each_map (WasMade limits szx t) (unmarked_by at to token con) (λ x h. h) os g.made;
  }

  good_noted : (at : ℕ) (to : Endpoint) (token : List ℕ) (id : ℕ) (os : List Observer) → Good os
      → Good (noted_to at to token id os)
  good_noted at to token id os g = record {
    registrations = registrations-noted at to token id os g.registrations;
    made = each_map (WasMade limits szx t) (noted_by at to token id) (λ x h. h) os g.made;
  }

  good_notified : (plain : Bool) (at id : ℕ) (held : Option Held) (o : Observer) (os : List Observer) → Good os
      → Good (notified plain at id held o os)
  good_notified plain at id held o os g =
      notified_left Good plain at id held o os (good_removed o.to o.token os g)
      (good_sent at o.to o.token false (noted_to at o.to o.token id os) (good_noted at o.to o.token id os g))
      (good_sent at o.to o.token true os g)

  good_with : (at : ℕ) (a : Asked) (q : Question) (reply : Reply) (os : List Observer)
      → (Registers a q reply os → Sometime (MadeWith limits szx a.from a.token q.path
      (szx_by (block_of q.options) q.szx)) t) → Good os → Good (observers_with at a q reply os)
  good_with at a q reply os new g = by (registers a q reply os) refl (observes 1 q)
    where
      by : (b : Bool) → registers a q reply os ≡ b → (m : Bool)
          → Good (cond b (registered at a.from a.token q.path (szx_by (block_of q.options) q.szx) os)
          (cond m (removed a.from a.token os) os))
      by true e m =
          let k = registers_so a q reply os e in
          record {
            registrations = registrations-registered at a.from a.token q.path
                (szx_by (block_of q.options) q.szx) os g.registrations k.room;
            made = each_with (WasMade limits szx t) (removed a.from a.token os) _
                (each_kept (WasMade limits szx t) (λ o. not (is_of a.from a.token o)) os g.made) (new k);
          }
      by false e true = good_removed a.from a.token os g
      by false e false = g

  good_served : (at : ℕ) (old : Content) (a : Asked) (q : Question) (reply : Reply) (left : Content)
      (os : List Observer)
      → (Registers a q reply os → Sometime (MadeWith limits szx a.from a.token q.path
      (szx_by (block_of q.options) q.szx)) t) → Good os → Good (observers_served at old a q reply left os)
  good_served at old a q reply left os new g = good_marked at q.path old left (observers_with at a q reply os)
      (good_with at a q reply os new g)

module _ (limits : Limits) (szx : ℕ) where
  abbrev own : List Call → Own
  own t = own_of limits szx t

  good_later : (c : Call) (t : List Call) (os : List Observer) → Good limits szx t os → Good limits szx (c ∷ t) os
  good_later c t os g = record { registrations = g.registrations; made = go os g.made }
    where
      go : (os : List Observer) → Each (WasMade limits szx t) os → Each (WasMade limits szx (c ∷ t)) os
      go [] h = tt
      go (o ∷ os) h = (inr h.0, go os h.1)

  module _ (t : List Call) (now : ℕ) (from : Endpoint) (bytes : List ℕ) (w : ℕ) (up : L.Answer) (below : L.Answer) where
    fed : (came : Option (Asked × Message)) (h : Handling)
        → Good limits szx (Feeds now from bytes w up came h below ∷ t)
        (heard (own t) now (incoming (own t) now from bytes up came)).observers
        → Good limits szx (Feeds now from bytes w up came h below ∷ t)
        (own (Feeds now from bytes w up came h below ∷ t)).observers
    fed (Some p) (Serves q reply left) g =
        let s : Own = heard (own t) now (incoming (own t) now from bytes up (Some p)) in
        good_served limits szx (Feeds now from bytes w up (Some p) (Serves q reply left) below ∷ t) s.clock s.store p.0
        q reply
        left s.observers
        (λ k. inl (record {
          made = record {
            request = serving_of s p.0 q reply left;
            here = refl;
            from = refl;
            token_is = refl;
            path_is = refl;
            observe = k.observe;
            code = k.code;
            registers = ap (λ b. cond b (Some (pair_of p.0)) None) k.so;
          };
          size_is = refl;
        })) g
    fed _ _ g = g

  module _ (t : List Call) (now w : ℕ) (below : L.Answer) (room : Bool) (passed id : ℕ) (answer : Bool) where
    abbrev call : Due → Handling → Call
    call d h = Ticks now w below room d passed h id answer

    abbrev stage : Due → Own
    stage d = heard (own t) now (ticking (own t) now below room d)

    ticked : (d : Due) (h : Handling) → Good limits szx (call d h ∷ t) (stage d).observers
        → Good limits szx (call d h ∷ t) (own (call d h ∷ t)).observers
    ticked (due.Ready a) (Serves q reply left) g =
        let s : Own = stage (due.Ready a) in
        good_served limits szx (call (due.Ready a) (Serves q reply left) ∷ t) s.clock s.store a q reply left s.observers
        (λ k. inl (record {
          made = record {
            request = serving_of s a q reply left;
            here = refl;
            from = refl;
            token_is = refl;
            path_is = refl;
            observe = k.observe;
            code = k.code;
            registers = ap (λ b. cond b (Some (pair_of a)) None) k.so;
          };
          size_is = refl;
        })) g
    ticked d (Notifies o reply) g =
        let s : Own = stage d in good_notified limits szx (call d (Notifies o reply) ∷ t)
        (by_plain s o) s.clock id (s.store.holds o.path) o s.observers g
    ticked _ _ g = g

  pub good : (t : List Call) → Good limits szx t (own t).observers
  good [] = record { registrations = record { few = omega arith; distinct = tt }; made = tt }
  good (c ∷ t) = by c (good_later c t (own t).observers (good t))
    where
      by : (c : Call) → Good limits szx (c ∷ t) (own t).observers → Good limits szx (c ∷ t) (own (c ∷ t)).observers
      by (Sets now path format body answer left) g =
          good_marked limits szx (Sets now path format body answer left ∷ t)
          (max (own t).clock now) path (own t).store left (own t).observers g
      by (Removes now path answer left) g = good_marked limits szx (Removes now path answer left ∷ t)
          (max (own t).clock now) path
          (own t).store left (own t).observers g
      by (Feeds now from bytes w up came h below) g =
          let c : Call = Feeds now from bytes w up came h below in
          let e : Option Ended = (P.after (own t).exchanges (incoming (own t) now from bytes up came)).ended in
          fed t now from bytes w up below came h (good_rejected limits szx (c ∷ t)
          (max (own t).clock now) (unmatched_by from up) (unless_ended e (own t).observers)
          (good_ended limits szx (c ∷ t) e (own t).observers g))
      by (Ticks now w below room d passed h id answer) g =
          ticked t now w below room passed id answer d h
          (good_ended limits szx (Ticks now w below room d passed h id answer ∷ t)
          (P.after (own t).exchanges (ticking (own t) now below room d)).ended (own t).observers g)
      by (Forgets peer) g = good_elsewhere limits szx (Forgets peer ∷ t) peer (own t).observers g
      by _ g = g

  pub are_observers : (t : List Call) → AreObservers limits szx t
  are_observers t = let g = good t in record { registrations = g.registrations; made = g.made }

  -- an observer that can be notified as time passes
  pub notified_made : (t : List Call) (now : ℕ) (below : L.Answer) (room : Bool) (passed : ℕ) (o : Observer)
      → behind passed (marked (heard (own t) now (ticking (own t) now below room due.Idle)).observers) ≡ Some o
      → WasMade limits szx t o
  notified_made t now below room passed o found =
      let first = ticking (own t) now below room due.Idle in
      let os = (heard (own t) now first).observers in
      let g = good_ended limits szx t (P.after (own t).exchanges first).ended (own t).observers (good t) in
      each_there (WasMade limits szx t) os o g.made (marked_there os o (behind_there passed (marked os) o found)).0
