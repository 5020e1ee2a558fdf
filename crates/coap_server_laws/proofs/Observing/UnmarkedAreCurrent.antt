-- An observer to whom nothing is due was told last what its path holds.
use Rattle.std.proofs.Common.{◌≡◌, ℕ, ◌==◌, ◌&&◌, nat_lt, max, Bool, true, false}
use Rattle.std.proofs.Common.{Option, Some, List, [], ◌∷◌, refl, ap, sym, subst, ◌∙◌, cond, length}
use Rattle.std.proofs.lemmas.Bool.{and_parts}
use Rattle.std.specs.Cmp.{unsigned_Decides}
use Rattle.coap_types.specs.declared.endpoint.Endpoint.{Endpoint}
use Rattle.coap_codec.specs.Message.{Message}
use Rattle.coap_layer.specs.Trace as L
use Rattle.coap_layer.specs.declared.setup.Setup.{Setup}
use Rattle.coap_observe.specs.Observers.{Observer, removed, registered}
use Rattle.coap_observe.specs.declared.observers.TheConstants.{MAX_OBSERVERS as max_observers}
use Rattle.coap_resource.specs.Content.{Content, put_refusal}
use Rattle.coap_resource.specs.Rate.{rate_refusal}
use Rattle.coap_resource.specs.RequestOptions.{block_of, szx_by}
use Rattle.coap_resource.proofs.Facts.Served.{content_law}
use Rattle.coap_resource.specs.Limits.{Limits}
use Rattle.coap_exchange.specs.declared.answerer.Asked.{Asked}
use Rattle.coap_exchange.specs.declared.answerer.Due.{Due}
use Rattle.coap_exchange.specs.declared.answerer.Due.TheVariants as due
use Rattle.coap_exchange.specs.AnswererSteps as P
use Rattle.coap_exchange.specs.SuccessCodes.{content}
use Rattle.coap_server.specs.Trace.{Own, Handling, Serves, Call, Sets, Removes}
use Rattle.coap_server.specs.Trace.{Feeds, Ticks}
use Rattle.coap_server.specs.Observers.{observes, registers, observers_with, marked_if}
use Rattle.coap_server.specs.Notifying.{marked}
use Rattle.coap_server.specs.Handling.{incoming, ticking, heard}
use Rattle.coap_server.specs.Law.{ServerLaw, own_of}
use Rattle.coap_server_laws.specs.Follows.Current.{told_then, told_last, AreCurrent}
use Rattle.coap_server.specs.Follows.Serves.{Serving, serving, serving_of}
use Rattle.coap_server.specs.Follows.Tells.{Telling, tells, tells_if, way_of}
use Rattle.coap_server.proofs.Facts.Holding.Holds.{held_is}
use Rattle.coap_server_laws.proofs.Observing.LastRegistered.{unmarked}
use Rattle.coap_server.proofs.Facts.Observing.ObserversWereMade.{good, good_ended}
use Rattle.coap_server.proofs.Facts.Observing.Outcomes.{Came, came, served, Turned, turned, responded, noticed}
use Rattle.coap_server_laws.proofs.Observing.ServedObservers.{ServesAt, served_at}
use Rattle.coap_server.proofs.Facts.Observing.StoreChanges.{Effect, served_effect, sets_effect, removes_effect}
use Rattle.coap_server.proofs.Facts.Observing.MarkedObservers.{behind_there, marked_there, there_is}
use Rattle.coap_server.proofs.Facts.Serving.Brought.{server_back}
use Rattle.coap_server_laws.proofs.Observing.CurrentLists.{Good, elsewhere_good, ended_good, marked_good, none_or}
use Rattle.coap_server_laws.proofs.Observing.CurrentLists.{notified_good}
use Rattle.coap_server_laws.proofs.Observing.CurrentLists.{registered_good, rejected_good, removed_good}
use Rattle.coap_server.specs.Plain.{by_plain}
use Rattle.coap_exchange.specs.AnswererSteps.{unmatched_by}
use Rattle.coap_server.specs.Trace.{Forgets}

module _ (to : Endpoint) (token : List ℕ) (limits : Limits) (szx : ℕ) (setup : Setup) where
  abbrev own : List Call → Own
  own t = own_of limits szx t

  abbrev last_of : List Call → Option Telling
  last_of t = told_last limits szx to token t

  abbrev Fine : List Call → Type 0
  Fine t = Good to token (last_of t) (own t).store.holds (own t).observers

  abbrev obs : List Call → List Observer
  obs t = (own t).observers

  abbrev size_of : Serving → ℕ
  size_of x = szx_by (block_of x.question.options) x.question.szx

  served_good : (t : List Call) (c : Call) → ServerLaw limits szx setup (c ∷ t) → (x : Serving)
      → serving (own t) c ≡ Some x → (own (c ∷ t)).store ≡ x.left → Fine t → Fine (c ∷ t)
  served_good t c law x is left_is g =
      subst (λ os. Good to token (last_of (c ∷ t)) (own (c ∷ t)).store.holds os) (sym s.observers)
      (subst (λ (z : Content). Good to token (last_of (c ∷ t)) z.holds
      (marked_if (own (c ∷ t)).clock x.question.path (own t).store x.left
      (observers_with (own (c ∷ t)).clock x.asked x.question x.reply (obs t))))
      (sym left_is)
      (subst (λ z. Good to token (told_then to token z (last_of t)) x.left.holds
      (marked_if (own (c ∷ t)).clock x.question.path (own t).store x.left
      (observers_with (own (c ∷ t)).clock x.asked x.question x.reply (obs t))))
      (sym s.tells_so.1) (by (registers x.asked x.question x.reply (obs t)) refl (observes 1 x.question))))
    where
      s : ServesAt limits szx setup t c x
      s = served_at limits szx setup t c law x is

      at : ℕ
      at = (own (c ∷ t)).clock

      effect : Effect x.question.path at (own t).store x.left
      effect = subst (λ z. Effect x.question.path at z x.left) s.old
          (served_effect x.old at x.question x.reply x.left s.serves)

      by : (r : Bool) → registers x.asked x.question x.reply (obs t) ≡ r → (m : Bool)
          → Good to token (told_then to token (tells_if r at (own t).store x.asked x.question s.tells_so.0) (last_of t))
          x.left.holds
          (marked_if (own (c ∷ t)).clock x.question.path (own t).store x.left
          (cond r (registered (own (c ∷ t)).clock x.asked.from x.asked.token x.question.path (size_of x) (obs t))
          (cond m (removed x.asked.from x.asked.token (obs t)) (obs t))))
      by true so m =
          let parts = and_parts (observes 0 x.question) ((x.reply.code == content)
          && ((x.reply.offset == 0) && nat_lt (length (removed x.asked.from x.asked.token (obs t))) max_observers))
          so in
          let code = (unsigned_Decides x.reply.code content).0 (and_parts (x.reply.code == content)
          ((x.reply.offset == 0) && nat_lt (length (removed x.asked.from x.asked.token (obs t))) max_observers)
          parts.1).0 in
          let told = content_law x.old x.left at x.question x.reply s.serves code in
          let there : (own t).store.holds x.question.path ≡ Some told.held =
          ap (λ (z : Content). z.holds x.question.path) (sym s.old) ∙ told.is_held in
          marked_good to token (own (c ∷ t)).clock _ x.question.path (own t).store x.left
          (registered (own (c ∷ t)).clock x.asked.from x.asked.token x.question.path (size_of x) (obs t)) effect
          (subst (λ z. Good to token (told_then to token
          (tells x.asked.from x.asked.token x.question.path s.tells_so.0 at true z) (last_of t)) (own t).store.holds
          (registered (own (c ∷ t)).clock x.asked.from x.asked.token x.question.path (size_of x) (obs t))) (sym there)
          (registered_good to token (own (c ∷ t)).clock (last_of t) (own t).store x.asked x.question s.tells_so.0
          (size_of x) told.held
          (obs t) there g))
      by false so true = marked_good to token (own (c ∷ t)).clock (last_of t) x.question.path (own t).store x.left
          (removed x.asked.from x.asked.token (obs t)) effect
          (removed_good to token (last_of t) (own t).store.holds x.asked.from x.asked.token (obs t) g)
      by false so false = marked_good to token (own (c ∷ t)).clock (last_of t) x.question.path (own t).store x.left
          (obs t) effect g

  fed : (t : List Call) (now : ℕ) (from : Endpoint) (bytes : List ℕ) (w : ℕ) (up : L.Answer)
      (c : Option (Asked × Message)) (h : Handling) (below : L.Answer)
      → Came (heard (own t) now (incoming (own t) now from bytes up c)) c h
      → ServerLaw limits szx setup (Feeds now from bytes w up c h below ∷ t) → Fine t
      → Fine (Feeds now from bytes w up c h below ∷ t)
  fed t now from bytes w up c h below (served p q reply left k unplaced) law g =
      served_good t (Feeds now from bytes w up (Some p) (Serves q reply left) below) law
      (serving_of (heard (own t) now (incoming (own t) now from bytes up (Some p))) p.0 q reply left) refl refl g
  fed t now from bytes w up c h below _ law g =
      rejected_good to token (last_of t) (own t).store.holds (max (own t).clock now) (unmatched_by from up) _
      (ended_good to token (last_of t) (own t).store.holds _ (own t).observers g)

  ticked : (t : List Call) (now w : ℕ) (below : L.Answer) (room : Bool) (d : Due) (passed : ℕ) (h : Handling)
      (id : ℕ) (answer : Bool) → Turned (heard (own t) now (ticking (own t) now below room d)) passed d h
      → ServerLaw limits szx setup (Ticks now w below room d passed h id answer ∷ t)
      → Fine t → Fine (Ticks now w below room d passed h id answer ∷ t)
  ticked t now w below room d passed h id answer (responded a q reply left asks k) law g =
      served_good t (Ticks now w below room (due.Ready a) passed (Serves q reply left) id answer) law
      (serving_of (heard (own t) now (ticking (own t) now below room (due.Ready a))) a q reply left) refl refl g
  ticked t now w below room d passed h id answer (noticed o reply found is) law g =
      let s : Own = heard (own t) now (ticking (own t) now below room due.Idle) in
      let there = (marked_there s.observers o (behind_there passed (marked s.observers) o found)).0 in
      let distinct = (good_ended limits szx t
      (P.after (own t).exchanges (ticking (own t) now below room due.Idle)).ended (own t).observers
      (good limits szx t)).registrations.distinct in
      notified_good to token (by_plain s o) s.clock id s.clock (last_of t) (own t).store o (way_of (by_plain s o) id)
      s.observers (there_is s.observers o distinct there)
      (ended_good to token (last_of t) (own t).store.holds _ (own t).observers g) ((own t).store.holds o.path) refl
  ticked t now w below room d passed h id answer _ law g =
      ended_good to token (last_of t) (own t).store.holds _ (own t).observers g

  fine : (t : List Call) → ServerLaw limits szx setup t → Fine t
  fine [] law = λ o h m. none_or h
  fine (c ∷ t) law = on c law (fine t (server_back limits szx setup c t law))
    where
      on : (c : Call) → ServerLaw limits szx setup (c ∷ t) → Fine t → Fine (c ∷ t)
      on (Feeds now from bytes w up c h below) law g =
          fed t now from bytes w up c h below (came (heard (own t) now (incoming (own t) now from bytes up c)) c h
          law.rows.0) law g
      on (Ticks now w below room d passed h id answer) law g =
          ticked t now w below room d passed h id answer
          (turned (heard (own t) now (ticking (own t) now below room d)) passed d h law.rows.0.0) law g
      on (Sets now path format body answer left) law g =
          marked_good to token (max (own t).clock now) (last_of t) path (own t).store left (own t).observers
          (sets_effect (put_refusal (own t).store (max (own t).clock now) path (length body)) (own t).store
          (max (own t).clock now) path format body answer left refl law.rows.0) g
      on (Removes now path answer left) law g =
          marked_good to token (max (own t).clock now) (last_of t) path (own t).store left (own t).observers
          (removes_effect ((own t).store.holds path) (rate_refusal (own t).store.tally (max (own t).clock now))
          (own t).store (max (own t).clock now) path answer left refl law.rows.0) g
      on (Forgets peer) law g = elsewhere_good to token (last_of t) (own t).store.holds peer (own t).observers g
      on _ law g = g

pub are_current : (limits : Limits) (szx : ℕ) (setup : Setup) (t : List Call) → ServerLaw limits szx setup t
    → AreCurrent limits szx t
are_current limits szx setup t law to token o is unmarked =
    let c = fine to token limits szx setup t law o is unmarked in
    record {
      told = c.told;
      last = c.last_is;
      path_is = c.path_is;
      held = c.held;
      is_held = sym (held_is limits szx t law.rows o.path) ∙ c.is_held;
      version = c.version;
    }
