-- What is told under one registration follows on: the versions rise, and each CON was acknowledged.
use Rattle.std.proofs.Common.{◌≡◌, ◌⊎◌, inl, inr, ℕ, max, Bool, true, false, Option, Some, None, List}
use Rattle.std.proofs.Common.{[], ◌∷◌, ◌++◌, refl, ap, sym, subst, ◌∙◌, cond}
use Rattle.coap_types.specs.declared.endpoint.Endpoint.{Endpoint}
use Rattle.coap_codec.specs.Message.{Message}
use Rattle.coap_layer.specs.Trace as L
use Rattle.coap_layer.specs.declared.setup.Setup.{Setup}
use Rattle.coap_observe.specs.Observers.{Observer, noted_to, removed, registered, registration, sent_to}
use Rattle.coap_observe.proofs.Facts.Registrations.{registration-removed}
use Rattle.coap_resource.specs.Content.{Content, Held, put_refusal}
use Rattle.coap_resource.specs.Rate.{rate_refusal}
use Rattle.coap_resource.specs.RequestOptions.{block_of, szx_by}
use Rattle.coap_resource.specs.Serves.{Question, Reply}
use Rattle.coap_resource.specs.Serves as R
use Rattle.coap_resource.specs.Limits.{Limits}
use Rattle.coap_exchange.specs.declared.answerer.Asked.{Asked}
use Rattle.coap_exchange.specs.declared.answerer.Due.{Due}
use Rattle.coap_exchange.specs.declared.answerer.Due.TheVariants as due
use Rattle.coap_exchange.specs.declared.answerer.Ended.{Ended}
use Rattle.coap_exchange.specs.AnswererTrace as E
use Rattle.coap_exchange.specs.AnswererSteps as P
use Rattle.coap_exchange.specs.AnswererSteps.{reset_by, failed_by, separate_after, unmatched_by}
use Rattle.coap_exchange.specs.AnswererTrace.{Sending}
use Rattle.coap_server.specs.Trace.{Own, Handling, Silent, Replies, Serves, Waits, Notifies, Call}
use Rattle.coap_server.specs.Trace.{Sets}
use Rattle.coap_server.specs.Trace.{Removes, Feeds, Refuses, Ticks}
use Rattle.coap_server.specs.Serving.{observers_served}
use Rattle.coap_server.specs.Observers.{observes, registers, observers_with, marked_if, unless_ended, unless_rejected}
use Rattle.coap_server.specs.Notifying.{marked, readies, notification, notified}
use Rattle.coap_server.specs.Handling.{incoming, ticking, heard}
use Rattle.coap_server.specs.Asks.{answering, responding}
use Rattle.coap_server.specs.Plain.{by_plain}
use Rattle.coap_server.specs.Steps.{exchanges_after}
use Rattle.coap_server.specs.Law.{ServerLaw, lower_of, own_of}
use Rattle.coap_server.specs.Refusing.{refusing}
use Rattle.coap_server.specs.Follows.Tells.{Pair, Telling, registering}
use Rattle.coap_server.specs.Follows.Tells.{NoneMade, registers_by}
use Rattle.coap_server.proofs.Facts.Observing.StoreChanges.{served_effect, sets_effect, removes_effect}
use Rattle.coap_server_laws.proofs.Observing.OneRegistration.{Turn, noted_turn, removed_turn, sent_turn}
use Rattle.coap_server_laws.proofs.Observing.OneRegistration.{registered_turn}
use Rattle.coap_server_laws.proofs.Observing.OneRegistration.{marked_turn, same_turn}
use Rattle.coap_server.proofs.Facts.Observing.ObserverLists.{notified_left, rejected_left}
use Rattle.coap_server_laws.proofs.Observing.LivesOn.{Lives, LivesAt, turned}
use Rattle.coap_server_laws.proofs.Observing.Flights.{E1, FlightOf, flight_fed, flight_ticked, flight_later}
use Rattle.coap_server_laws.proofs.Observing.Flights.{flight_more}
use Rattle.coap_server_laws.proofs.Observing.Flights.{Later, answering_later, notifies_later, readies_later}
use Rattle.coap_server_laws.proofs.Observing.Flights.{refusing_later}
use Rattle.coap_server.proofs.Facts.Observing.Outcomes.{Came, came, nobody, ignored, replied, served, waits, Turned}
use Rattle.coap_server.proofs.Facts.Observing.Outcomes.{copied}
use Rattle.coap_server.proofs.Facts.Observing.Outcomes.{expired, lost, responded, rests, noticed, turned as turned_by}
use Rattle.coap_server.proofs.Facts.Serving.Brought.{server_back}
use Rattle.coap_server.proofs.Facts.Exact.FirstRow.{first_row}
use Rattle.coap_server_laws.proofs.Replying.Replies.{came_by}
use Rattle.coap_server_laws.proofs.Observing.OneRegistration.{elsewhere_turn}
use Rattle.coap_observe.specs.Observers.{elsewhere}
use Rattle.coap_server.specs.Trace.{Forgets}

abbrev own : Limits → ℕ → List Call → Own
own limits szx t = own_of limits szx t

module _ (x : Telling) where
  flying : {F G : Type 0} (s : Content) (os : List Observer) → (F → G) → LivesAt x F s os → LivesAt x G s os
  flying s os f l = record {
    entry = l.entry;
    is = l.is;
    path = l.path;
    low = l.low;
    fresh = l.fresh;
    young = l.young;
    flies = f l.flies;
  }

  map_lives : {F G : Type 0} (s : Content) (os : List Observer) → (F → G) → Lives x F s os → Lives x G s os
  map_lives s os f (inl n) = inl n
  map_lives s os f (inr l) = inr (flying s os f l)

  -- what is told to have ended
  ended_turn : (e : Option Ended) (s : Content) (os : List Observer) → Turn x.to x.token s s os (unless_ended e os)
  ended_turn None s os = same_turn x.to x.token s os
  ended_turn (Some y) s os = by y.observe
    where
      by : (b : Bool) → Turn x.to x.token s s os (cond b (removed y.to y.token os) os)
      by true = removed_turn x.to x.token s y.to y.token os
      by false = same_turn x.to x.token s os

  heard_lives : {F G : Type 0} (e : Option Ended) (s : Content) (os : List Observer) → (F → G ⊎ (e ≡ Some (E1 x)))
      → Lives x F s os → Lives x G s (unless_ended e os)
  heard_lives {F} {G} e s os f (inl n) = turned x G s s os (unless_ended e os) (ended_turn e s os) (inl n)
  heard_lives {F} {G} e s os f (inr l) =
      elim (f l.flies) [
        | inl g ↦ turned x G s s os (unless_ended e os) (ended_turn e s os) (inr (flying s os (λ f. g) l))
        | inr k ↦ inl (ap (λ z. registration x.to x.token (unless_ended z os)) k ∙ registration-removed x.to x.token os)
      ]

  rejected_lives : {F : Type 0} (at : ℕ) (r : Option Sending) (s : Content) (os : List Observer) → Lives x F s os
      → Lives x F s (unless_rejected at r os)
  rejected_lives {F} at r s os l =
      rejected_left (Lives x F s) at r os l
      (λ to token. turned x F s s os (removed to token os) (removed_turn x.to x.token s to token os) l)

  -- a request that is served, and registers nothing of this pair
  with_turn : (s : Content) (at : ℕ) (a : Asked) (q : Question) (reply : Reply) (os : List Observer) (mine : Own)
      → mine.observers ≡ os → (registers_by mine a q reply ≡ Some (record { to = x.to; token = x.token }) → ⊥)
      → Turn x.to x.token s s os (observers_with at a q reply os)
  with_turn s at a q reply os mine e none = by (registers a q reply os) (observes 1 q)
      (λ k. none (ap (λ (z : List Observer). cond {A = Option Pair} (registers a q reply z)
      (Some (record { to = a.from; token = a.token })) None) e ∙ k))
    where
      by : (b m : Bool) → (cond {A = Option Pair} b (Some (record { to = a.from; token = a.token })) None
          ≡ Some (record { to = x.to; token = x.token }) → ⊥)
          → Turn x.to x.token s s os (cond b (registered at a.from a.token q.path (szx_by (block_of q.options) q.szx)
          os)
          (cond m (removed a.from a.token os) os))
      by true m f =
          registered_turn x.to x.token s at a.from a.token q.path (szx_by (block_of q.options) q.szx) os
          (λ k. f (ap {B = Option Pair} (λ t. Some (record { to = t; token = a.token })) (sym k.0)
          ∙ ap {B = Option Pair} (λ t. Some (record { to = x.to; token = t })) (sym k.1)))
      by false true f = removed_turn x.to x.token s a.from a.token os
      by false false f = same_turn x.to x.token s os

  served_lives : {F : Type 0} (s : Own) (a : Asked) (q : Question) (reply : Reply) (left : Content)
      → R.Serves s.store s.clock q reply left
      → (registers_by s a q reply ≡ Some (record { to = x.to; token = x.token }) → ⊥)
      → Lives x F s.store s.observers → Lives x F left (observers_served s.clock s.store a q reply left s.observers)
  served_lives {F} s a q reply left k none l =
      let os : List Observer = observers_with s.clock a q reply s.observers in
      turned x F s.store left os (marked_if s.clock q.path s.store left os)
      (marked_turn x.to x.token s.clock q.path s.store left os (served_effect s.store s.clock q reply left k))
      (turned x F s.store s.store s.observers os (with_turn s.store s.clock a q reply s.observers s refl none) l)

  notified_lives : {F : Type 0} (plain : Bool) (at id : ℕ) (held : Option Held) (s : Content) (o : Observer)
      (os : List Observer) → Lives x F s os → Lives x F s (notified plain at id held o os)
  notified_lives {F} plain at id held s o os l =
      let noted : List Observer = noted_to at o.to o.token id os in
      notified_left (Lives x F s) plain at id held o os
      (turned x F s s os (removed o.to o.token os) (removed_turn x.to x.token s o.to o.token os) l)
      (turned x F s s noted (sent_to at o.to o.token false noted) (sent_turn x.to x.token s at false o.to o.token noted)
      (turned x F s s os noted (noted_turn x.to x.token s at o.to o.token id os) l))
      (turned x F s s os (sent_to at o.to o.token true os) (sent_turn x.to x.token s at true o.to o.token os) l)

  module _ (limits : Limits) (szx : ℕ) (setup : Setup) where
    abbrev pub At : List Call → List Call → Type 0
    At t after = Lives x (FlightOf x x.way (own_of limits szx t).exchanges.separate after) (own_of limits szx t).store
        (own_of limits szx t).observers

    abbrev NotNew : List Call → Call → Type 0
    NotNew t c = registering (own_of limits szx t) c ≡ Some (record { to = x.to; token = x.token }) → ⊥

    -- an arrival
    module _ (t after : List Call) (now : ℕ) (from : Endpoint) (bytes : List ℕ) (w : ℕ) (up : L.Answer)
        (below : L.Answer) where
      abbrev fed_call : Option (Asked × Message) → Handling → Call
      fed_call came h = Feeds now from bytes w up came h below

      abbrev fed_stage : Option (Asked × Message) → Own
      fed_stage came = heard (own limits szx t) now (incoming (own limits szx t) now from bytes up came)

      heard_fed : (came : Option (Asked × Message)) (h : Handling) → At t after
          → Lives x (FlightOf x x.way (fed_stage came).exchanges.separate (fed_call came h ∷ after))
          (fed_stage came).store (fed_stage came).observers
      heard_fed came h l =
          let s : Own = own limits szx t in
          rejected_lives (max s.clock now) (unmatched_by from up) s.store
          (unless_ended (reset_by from up s.exchanges.separate) s.observers)
          (heard_lives (reset_by from up s.exchanges.separate) s.store s.observers
          (flight_fed x x.way from up s.exchanges.separate after (fed_call came h)
          (λ id e k. record {
            now = now;
            bytes = bytes;
            word = w;
            came = came;
            handling = h;
            below = below;
            is = ap (λ z. Feeds now z bytes w up came h below) e
                ∙ ap (λ z. Feeds now x.to bytes w z came h below) k;
          })) l)

      asked_lives : (p : Asked × Message) (h : Handling) (s : Content) (os : List Observer)
          → Lives x (FlightOf x x.way (fed_stage (Some p)).exchanges.separate (fed_call (Some p) h ∷ after)) s os
          → Lives x (FlightOf x x.way (exchanges_after (fed_stage (Some p)).exchanges
          (answering (fed_stage (Some p)) (Some p) h below)).separate (fed_call (Some p) h ∷ after)) s os
      asked_lives p h s os l =
          map_lives s os (flight_later x x.way (fed_stage (Some p)).exchanges
          (answering (fed_stage (Some p)) (Some p) h below) (fed_call (Some p) h ∷ after)
          (λ id. answering_later x id (fed_stage (Some p)) p h below)) l

      fed_step : (c : Option (Asked × Message)) (h : Handling) → Came (fed_stage c) c h → NotNew t (fed_call c h)
          → At t after → At (fed_call c h ∷ t) (fed_call c h ∷ after)
      fed_step c h nobody none l = heard_fed None Silent l
      fed_step c h (ignored p is) none l = heard_fed (Some p) Silent l
      fed_step c h (replied p r) none l = asked_lives p (Replies r) _ _ (heard_fed (Some p) (Replies r) l)
      fed_step c h (waits p q d has place) none l = asked_lives p (Waits q d) _ _ (heard_fed (Some p) (Waits q d) l)
      fed_step c h (served p q reply left k unplaced) none l =
          let s : Own = fed_stage (Some p) in
          served_lives s p.0 q reply left k none
          (asked_lives p (Serves q reply left) s.store s.observers (heard_fed (Some p) (Serves q reply left) l))

    -- time passes
    module _ (t after : List Call) (now w : ℕ) (below : L.Answer) (room : Bool) (passed id : ℕ) (answer : Bool) where
      abbrev tick_call : Due → Handling → Call
      tick_call d h = Ticks now w below room d passed h id answer

      abbrev tick_stage : Due → Own
      tick_stage d = heard (own limits szx t) now (ticking (own limits szx t) now below room d)

      pub heard_ticked : (d : Due) → At t after → Lives x (FlightOf x x.way (tick_stage d).exchanges.separate after)
          (tick_stage d).store (tick_stage d).observers
      heard_ticked d l =
          let s : Own = own limits szx t in
          heard_lives (failed_by below s.exchanges.separate) s.store s.observers
          (flight_ticked x x.way below s.exchanges.separate after) l

      tock : (d : Due) (h : Handling) → At t after
          → Lives x (FlightOf x x.way (tick_stage d).exchanges.separate (tick_call d h ∷ after)) (tick_stage d).store
          (tick_stage d).observers
      tock d h l = map_lives _ _ (flight_more x x.way (tick_stage d).exchanges.separate after (tick_call d h))
          (heard_ticked d l)

      with_asks : (d : Due) (h : Handling) (cs : List E.Call) (s : Content) (os : List Observer)
          → ((n : ℕ) → Later x n cs) → Lives x (FlightOf x x.way (tick_stage d).exchanges.separate
          (tick_call d h ∷ after))
          s os
          → Lives x (FlightOf x x.way (exchanges_after (tick_stage d).exchanges cs).separate
          (tick_call d h ∷ after)) s os
      with_asks d h cs s os k l = map_lives s os (flight_later x x.way (tick_stage d).exchanges cs
          (tick_call d h ∷ after) k) l

      tick_step : (d : Due) (h : Handling) → Turned (tick_stage d) passed d h → NotNew t (tick_call d h) → At t after
          → At (tick_call d h ∷ t) (tick_call d h ∷ after)
      tick_step d h copied none l = tock due.Copied Silent l
      tick_step d h expired none l = tock due.Expired Silent l
      tick_step d h (lost a is) none l = tock (due.Ready a) Silent l
      tick_step d h (responded a q reply left asks k) none l =
          let s : Own = tick_stage (due.Ready a) in
          let cs : List E.Call = responding s (due.Ready a) passed (Serves q reply left) w id in
          served_lives s a q reply left k none
          (with_asks (due.Ready a) (Serves q reply left) cs s.store s.observers (λ n. (tt, tt))
          (tock (due.Ready a) (Serves q reply left) l))
      tick_step d h (rests is) none l =
          let it : Own = tick_stage due.Idle in
          with_asks due.Idle Silent (readies it.clock passed (marked it.observers)) _ _
          (λ n. readies_later x n it.clock passed (marked it.observers)) (tock due.Idle Silent l)
      tick_step d h (noticed o reply found is) none l =
          let s : Own = tick_stage due.Idle in
          let cs : List E.Call = responding s due.Idle passed (Notifies o reply) w id in
          notified_lives (by_plain s o) s.clock id (s.store.holds o.path) s.store o s.observers
          (with_asks due.Idle (Notifies o reply) cs s.store s.observers
          (λ n. (
            notifies_later x n (by_plain s o) s.clock o (notification s.store o reply) w id,
            readies_later x n s.clock passed (marked s.observers),
          )) (tock due.Idle (Notifies o reply) l))

    step : (t after : List Call) (c : Call) → ServerLaw limits szx setup (c ∷ t) → NotNew t c → At t after
        → At (c ∷ t) (c ∷ after)
    step t after (Sets now path format body answer left) law none l =
        let s : Own = own limits szx t in
        let at : ℕ = max s.clock now in
        turned x _ s.store left s.observers (marked_if at path s.store left s.observers)
        (marked_turn x.to x.token at path s.store left s.observers
        (sets_effect (put_refusal s.store at path _) s.store at path format body answer left refl law.rows.0))
        (map_lives s.store s.observers (flight_more x x.way s.exchanges.separate after
        (Sets now path format body answer left)) l)
    step t after (Removes now path answer left) law none l =
        let s : Own = own limits szx t in
        let at : ℕ = max s.clock now in
        turned x _ s.store left s.observers (marked_if at path s.store left s.observers)
        (marked_turn x.to x.token at path s.store left s.observers
        (removes_effect (s.store.holds path) (rate_refusal s.store.tally at) s.store at path answer left refl
        law.rows.0))
        (map_lives s.store s.observers (flight_more x x.way s.exchanges.separate after
        (Removes now path answer left)) l)
    step t after (Feeds now from bytes w up c h below) law none l =
        fed_step t after now from bytes w up below c h
        (came (heard (own limits szx t) now (incoming (own limits szx t) now from bytes up c)) c h law.rows.0) none l
    step t after (Refuses now from bytes w code up p response below) law none l =
        let s : Own = own limits szx t in
        let first : E.Call = incoming s now from bytes up (Some p) in
        let asks : List E.Call = refusing p.0 response below in
        let c : Call = Refuses now from bytes w code up p response below in
        let row = first_row setup asks first (lower_of limits szx t) law.exchanges in
        let same : separate_after from up s.exchanges.separate ≡ s.exchanges.separate =
        ap (λ u. separate_after from u s.exchanges.separate) (came_by from up p.0 p.1 row).up_is in
        map_lives s.store s.observers
        (λ f. flight_later x x.way (P.after s.exchanges first) asks (c ∷ after)
        (λ id. refusing_later x id p.0 response below)
        (subst (λ xs. FlightOf x x.way xs (c ∷ after)) (sym same)
        (flight_more x x.way s.exchanges.separate after c f))) l
    step t after (Ticks now w below room d passed h id answer) law none l =
        tick_step t after now w below room passed id answer d h
        (turned_by (heard (own limits szx t) now (ticking (own limits szx t) now below room d)) passed d h law.rows.0.0)
        none l
    step t after (Forgets peer) law none l =
        let s : Own = own limits szx t in
        turned x _ s.store s.store s.observers (elsewhere peer s.observers)
        (elsewhere_turn x.to x.token s.store peer s.observers)
        (map_lives s.store s.observers (flight_more x x.way s.exchanges.separate after (Forgets peer)) l)
    step t after c law none l = map_lives _ _ (flight_more x x.way (own limits szx t).exchanges.separate after c) l

    pub steps : (after base : List Call) → ServerLaw limits szx setup (after ++ base)
        → NoneMade limits szx x.to x.token after base → At base [] → At (after ++ base) after
    steps [] base law none l = l
    steps (c ∷ after) base law none l = step (after ++ base) after c law none.0
        (steps after base (server_back limits szx setup c (after ++ base) law) none.1 l)
