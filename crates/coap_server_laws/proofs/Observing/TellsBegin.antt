-- What is told begins what lives on under its registration.
use Rattle.coap_types.specs.declared.option_number.TheConstants.{OBSERVE as observe}
use Rattle.coap_types.specs.OptionValues.{uint_at}
use Rattle.coap_observe.specs.declared.observers.TheConstants.{MAX_OBSERVERS as max_observers}
use Rattle.std.proofs.Common.{◌≡◌, inl, inr, ℕ, ◌==◌, ◌&&◌, nat_lt, Bool, true, false, Option, Some, None, List}
use Rattle.std.proofs.Common.{[], ◌∷◌, ◌++◌, length, option_map, refl, ap, sym, subst, ◌∙◌, cond, ◌≤◌}
use Rattle.coap_types.specs.Recognised.{has_number}
use Rattle.coap_types.specs.declared.endpoint.Endpoint.{Endpoint}
use Rattle.coap_codec.specs.Message.{Message}
use Rattle.coap_layer.specs.Trace as L
use Rattle.coap_observe.specs.Observers.{Observer, begun, noted_to, removed, registered, sent_to, registration}
use Rattle.coap_observe.proofs.Facts.Registrations.{registration-noted_to, registration-registered}
use Rattle.coap_observe.proofs.Facts.Registrations.{registration-sent_to}
use Rattle.coap_observe.specs.Versions.{sequence_number}
use Rattle.coap_resource.specs.Content.{Content, Held}
use Rattle.coap_resource.specs.RequestOptions.{block_of, szx_by}
use Rattle.coap_resource.specs.Serves.{Question, Reply}
use Rattle.coap_resource.specs.Serves as R
use Rattle.coap_resource.specs.Limits.{Limits}
use Rattle.coap_exchange.specs.declared.answerer.Asked.{Asked}
use Rattle.coap_exchange.specs.declared.answerer.Due.TheVariants as due
use Rattle.coap_exchange.specs.declared.answerer.Ended.{Ended}
use Rattle.coap_exchange.specs.AnswererTrace as E
use Rattle.coap_exchange.specs.AnswererSteps as P
use Rattle.coap_exchange.specs.AnswererSteps.{is_waited_for, ended_as, separate_of}
use Rattle.std.proofs.lemmas.Bool.{and_parts}
use Rattle.coap_layer.specs.declared.setup.Setup.{Setup}
use Rattle.coap_exchange.specs.SuccessCodes.{content}
use Rattle.coap_server.specs.Trace.{Own, Serves, Notifies, Call}
use Rattle.coap_server.specs.Trace.{Feeds, Ticks}
use Rattle.coap_server.specs.Responses.{response_with}
use Rattle.coap_server.specs.Serving.{response_to, observers_served}
use Rattle.coap_server.specs.Uploads.{last_block}
use Rattle.coap_server.specs.Observers.{observes, registers, observers_with, marked_if, sequence}
use Rattle.coap_server.specs.Observers.{sequence_if, is_get, is_number}
use Rattle.coap_server.specs.Deferring.{question_of}
use Rattle.coap_server.specs.Notifying.{marked, behind, readies, notification, notified}
use Rattle.coap_server.specs.Handling.{incoming, ticking, heard}
use Rattle.coap_server.specs.Steps.{exchanges_after}
use Rattle.coap_server.specs.Law.{ServerLaw, own_of, lower_of}
use Rattle.coap_server.specs.Follows.Tells.{InCon, InNon, InReply, Telling, Way, telling}
use Rattle.coap_server.specs.Follows.Tells.{telling_of, tells, tells_if, way_of}
use Rattle.coap_server.proofs.Facts.Observing.StoreChanges.{kept_by, get_same}
use Rattle.coap_server_laws.proofs.Observing.OneRegistration.{marked_turn}
use Rattle.coap_server_laws.proofs.Observing.LivesOn.{Lives, LivesAt, turned}
use Rattle.coap_server.proofs.Facts.Observing.StoreSteps.{AreLow, are_low}
use Rattle.coap_server_laws.proofs.Observing.DatedMarks.{IsDated, are_dated, ended_dated}
use Rattle.coap_server_laws.proofs.Observing.YoungNons.{young_by}
use Rattle.coap_server.proofs.Facts.Observing.MarkedObservers.{each_there}
use Rattle.coap_server.proofs.Facts.Exact.Asked.{back}
use Rattle.coap_server.specs.Asks.{notifies_by}
use Rattle.coap_server.specs.Plain.{by_plain, goes_plain}
use Rattle.coap_exchange.specs.AnswererLaw as W
use Rattle.coap_exchange.specs.AnswererLaw.{ResponseLaw}
use Rattle.coap_resource.specs.Since.{IsSince}
use Rattle.coap_observe.specs.Registrations.{told_by}
use Rattle.coap_server.proofs.Facts.Observing.Outcomes.{next_one, serves_came, serves_waited}
use Rattle.coap_server_laws.proofs.Observing.ConsAreAcknowledged.{ready_alone, alone_later, begins}
use Rattle.coap_server.proofs.Facts.Exact.Leads.{exchanges_kept, kept_behind}
use Rattle.coap_server.proofs.Facts.Observing.ObserversWereMade.{good_ended, good}
use Rattle.coap_server.proofs.Facts.Serving.Brought.{server_back}
use Rattle.coap_server_laws.proofs.Observing.Flights.{FlightOf}
use Rattle.coap_server_laws.proofs.Observing.VersionsRise.{At}
use Rattle.coap_server.proofs.Facts.Observing.MarkedObservers.{IsThere, behind_there, marked_there, observe_there}
use Rattle.coap_server.proofs.Facts.Observing.MarkedObservers.{readies_head}
use Rattle.coap_server.proofs.Facts.Observing.MarkedObservers.{there_is}

pub one : (a b : Telling) → Some a ≡ Some b → a ≡ b
one a b e = cc e

-- what the answer that registers leaves
abbrev answer_of : (s : Own) (a : Asked) (q : Question) (held : Held) (way : Way) → Telling
answer_of s a q held way = telling_of a.from a.token q.path way s.clock true held

get_of : (a : Asked) (q : Question) (reply : Reply) (os : List Observer) → registers a q reply os ≡ true
    → is_get q.method ≡ true
get_of a q reply os e =
    let k = and_parts (observes 0 q) ((reply.code == content)
    && ((reply.offset == 0) && nat_lt (length (removed a.from a.token os)) max_observers)) e in
    (and_parts (is_get q.method) (is_number 0 (uint_at observe q.options)) k.0).0

module _ (s : Own) (a : Asked) (q : Question) (reply : Reply) (left : Content) (held : Held) (way : Way)
    (F : Type 0) where
  registered_lives : registers a q reply s.observers ≡ true → s.store.holds q.path ≡ Some held
      → R.Serves s.store s.clock q reply left → AreLow s.store
      → (way ≡ InNon → ⊥) → F → Lives (answer_of s a q held way) F left (observers_served s.clock s.store a q reply left
      s.observers)
  registered_lives e is k low no_non f =
      let y : Telling = answer_of s a q held way in
      let szx : ℕ = szx_by (block_of q.options) q.szx in
      let new : List Observer = registered s.clock a.from a.token q.path szx s.observers in
      let os : List Observer = observers_with s.clock a q reply s.observers in
      let same : os ≡ new = ap (λ b. cond b new (cond (observes 1 q) (removed a.from a.token s.observers) s.observers))
      e in
      let first : LivesAt y F s.store new = record {
        entry = begun s.clock a.from a.token q.path szx;
        is = registration-registered s.clock a.from a.token q.path szx s.observers;
        path = refl;
        low = low q.path held is;
        fresh = λ m h z. absurd (cc m);
        young = λ w. absurd (no_non w);
        flies = f;
      } in
      turned y F s.store left os (marked_if s.clock q.path s.store left os)
      (marked_turn a.from a.token s.clock q.path s.store left os
      (inl (kept_by s.clock s.store left (get_same s.store s.clock q reply left (get_of a q reply s.observers e) k))))
      (subst (Lives y F s.store) (sym same) (inr first))

-- the response has Observe then
response_observes : (s : Own) (a : Asked) (q : Question) (reply : Reply) (held : Held)
    → registers a q reply s.observers ≡ true → s.store.holds q.path ≡ Some held
    → has_number 6 (response_to s.store s.observers a q reply).options ≡ true
response_observes s a q reply held e is =
    ap (λ b. has_number 6 (response_with reply (sequence_if b (s.store.holds q.path)) (last_block q)).options) e
    ∙ (ap (λ o. has_number 6 (response_with reply (sequence o) (last_block q)).options) is
    ∙ observe_there reply (sequence_number held.version) (last_block q))

notification_observes : (s : Content) (o : Observer) (reply : Reply) (held : Held) → s.holds o.path ≡ Some held
    → has_number 6 (notification s o reply).options ≡ true
notification_observes s o reply held is = ap (λ h. has_number 6 (response_with reply (sequence h) None).options) is
    ∙ observe_there reply (sequence_number held.version) None

ends_as : (to : Endpoint) (id : ℕ) (token : List ℕ) (r : E.Response) → has_number 6 r.options ≡ true
    → ended_as (separate_of to id token r) ≡ record { to = to; token = token; observe = true }
ends_as to id token r e = ap {B = Ended} (λ b. record { to = to; token = token; observe = b }) e

module _ (limits : Limits) (szx : ℕ) (setup : Setup) where
  abbrev own : List Call → Own
  own t = own_of limits szx t

  -- the observer that is notified is there, and marked
  pub record Told (t : List Call) (s : Own) (o : Observer) : Type 0 where
    pub is : registration o.to o.token s.observers ≡ Some o
    pub there : IsThere o s.observers
    pub marked_is : o.marked ≡ true

  module _ (t : List Call) (now w : ℕ) (below : L.Answer) (room : Bool) (passed id : ℕ) (answer : Bool) (o : Observer)
      (reply : Reply) where
    abbrev pub call : Call
    call = Ticks now w below room due.Idle passed (Notifies o reply) id answer

    abbrev pub stage : Own
    stage = heard (own t) now (ticking (own t) now below room due.Idle)

    abbrev pub asks : List E.Call
    asks = readies stage.clock passed (marked stage.observers)

    pub told_here : ServerLaw limits szx setup (call ∷ t) → Told t stage o
    told_here law =
        let is = (next_one (behind passed (marked stage.observers)) stage.store o reply law.rows.0.0).0 in
        let k = marked_there stage.observers o (behind_there passed (marked stage.observers) o is) in
        let g = good_ended limits szx t (P.after (own t).exchanges (ticking (own t) now below room due.Idle)).ended
        (own t).observers (good limits szx t) in
        record {
          is = there_is stage.observers o g.registrations.distinct k.0;
          there = k.0;
          marked_is = k.1;
        }

    abbrev plain : Bool
    plain = by_plain stage o

    abbrev response : E.Response
    response = notification stage.store o reply

    -- none to its endpoint is outstanding
    pub free : ServerLaw limits szx setup (call ∷ t) → is_waited_for o.to
        (exchanges_after stage.exchanges asks).separate
        ≡ false
    free law =
        ap (λ (z : E.Own). is_waited_for o.to z.separate)
        (kept_behind (own t).exchanges first asks older (exchanges_kept limits szx t))
        ∙ subst Idle (sym head.1)
        (ready_alone setup stage.clock o.to ((head.0 ++ first ∷ []) ++ older)
        (subst (λ xs. ResponseLaw setup ((xs ++ first ∷ []) ++ older)) head.1
        (back setup (notifies_by plain stage.clock o response w id ∷ []) ((asks ++ first ∷ []) ++ older)
        law.exchanges)))
      where
        first : E.Call
        first = ticking (own t) now below room due.Idle

        older : List E.Call
        older = lower_of limits szx t

        Idle : List E.Call → Type 0
        Idle xs = is_waited_for o.to (W.own_of ((xs ++ first ∷ []) ++ older)).separate ≡ false

        head : (rest : List E.Call) × (asks ≡ E.Ready stage.clock o.to true ∷ rest)
        head = readies_head stage.clock passed (marked stage.observers) o
            (next_one (behind passed (marked stage.observers)) stage.store o reply law.rows.0.0).0

  module _ (older : List Call) (x : Telling) where
    abbrev pub Begins : Call → Type 0
    Begins c = At x limits szx setup (c ∷ older) []

    -- the answer that registers
    answers_fed : (now : ℕ) (from : Endpoint) (bytes : List ℕ) (w : ℕ) (up : L.Answer) (p : Asked × Message)
        (q : Question) (reply : Reply) (left : Content) (below : L.Answer)
        → ServerLaw limits szx setup (Feeds now from bytes w up (Some p) (Serves q reply left) below ∷ older)
        → telling (own older) (Feeds now from bytes w up (Some p) (Serves q reply left) below) ≡ Some x
        → Begins (Feeds now from bytes w up (Some p) (Serves q reply left) below)
    answers_fed now from bytes w up p q reply left below law h = by (registers p.0 q reply s.observers) refl h
      where
        s : Own
        s = heard (own older) now (incoming (own older) now from bytes up (Some p))

        past_law : ServerLaw limits szx setup older
        past_law = server_back limits szx setup (Feeds now from bytes w up (Some p) (Serves q reply left) below) older
            law

        held_by : registers p.0 q reply s.observers ≡ true → (o : Option Held) → s.store.holds q.path ≡ o
            → tells p.0.from p.0.token q.path InReply s.clock true o ≡ Some x
            → Begins (Feeds now from bytes w up (Some p) (Serves q reply left) below)
        held_by e None is k = absurd (cc k)
        held_by e (Some held) is k =
            let same : answer_of s p.0 q held InReply ≡ x = one _ x k in
            subst (λ (y : Telling). At y limits szx setup
            (Feeds now from bytes w up (Some p) (Serves q reply left) below ∷ older) []) same
            (registered_lives s p.0 q reply left held InReply (Unit {0}) e is (serves_came s p q reply left law.rows.0)
            (are_low limits szx setup older past_law) (λ w. cc w) tt)

        by : (b : Bool) → registers p.0 q reply s.observers ≡ b → tells_if b s.clock s.store p.0 q InReply ≡ Some x
            → Begins (Feeds now from bytes w up (Some p) (Serves q reply left) below)
        by true e k = held_by e (s.store.holds q.path) refl k
        by false e k = absurd (cc k)

    answers_ready : (now w : ℕ) (below : L.Answer) (room : Bool) (a : Asked) (passed : ℕ) (q : Question) (reply : Reply)
        (left : Content) (id : ℕ) (answer : Bool)
        → ServerLaw limits szx setup (Ticks now w below room (due.Ready a) passed
        (Serves q reply left) id answer ∷ older)
        → telling (own older) (Ticks now w below room (due.Ready a) passed (Serves q reply left) id answer) ≡ Some x
        → Begins (Ticks now w below room (due.Ready a) passed (Serves q reply left) id answer)
    answers_ready now w below room a passed q reply left id answer law h = by (registers a q reply s.observers) refl h
      where
        s : Own
        s = heard (own older) now (ticking (own older) now below room (due.Ready a))

        past_law : ServerLaw limits szx setup older
        past_law = server_back limits szx setup
            (Ticks now w below room (due.Ready a) passed (Serves q reply left) id answer) older law

        r : E.Response
        r = response_to s.store s.observers a q reply

        idle : is_waited_for a.from s.exchanges.separate ≡ false
        idle =
            let first : E.Call = ticking (own older) now below room (due.Ready a) in
            ap (λ (z : E.Own). is_waited_for a.from (P.after z first).separate) (exchanges_kept limits szx older)
            ∙ alone_later setup s.clock a r w id (first ∷ lower_of limits szx older) law.exchanges

        held_by : registers a q reply s.observers ≡ true → (o : Option Held) → s.store.holds q.path ≡ o
            → tells a.from a.token q.path (InCon id) s.clock true o ≡ Some x
            → Begins (Ticks now w below room (due.Ready a) passed (Serves q reply left) id answer)
        held_by e None is k = absurd (cc k)
        held_by e (Some held) is k =
            let same : answer_of s a q held (InCon id) ≡ x = one _ x k in
            subst (λ (y : Telling). At y limits szx setup
            (Ticks now w below room (due.Ready a) passed (Serves q reply left) id answer ∷ older) []) same
            (registered_lives s a q reply left held (InCon id) _ e is
            (serves_waited (question_of s.clock a s.waiting) s.store s.clock q reply left law.rows.0.0)
            (are_low limits szx setup older past_law) (λ w. cc w)
            (inl (begins a.from id a.token s.exchanges.separate r idle
            (ends_as a.from id a.token r (response_observes s a q reply held e is)))))

        by : (b : Bool) → registers a q reply s.observers ≡ b → tells_if b s.clock s.store a q (InCon id) ≡ Some x
            → Begins (Ticks now w below room (due.Ready a) passed (Serves q reply left) id answer)
        by true e k = held_by e (s.store.holds q.path) refl k
        by false e k = absurd (cc k)

    -- a notification
    module _ (now w : ℕ) (below : L.Answer) (room : Bool) (passed id : ℕ) (answer : Bool) (o : Observer) (reply : Reply)
        (law : ServerLaw limits szx setup (Ticks now w below room due.Idle passed (Notifies o reply) id answer ∷ older))
      where
        abbrev s : Own
        s = stage older now w below room passed id answer o reply

        abbrev r : E.Response
        r = notification s.store o reply

        past_law : ServerLaw limits szx setup older
        past_law = server_back limits szx setup
            (Ticks now w below room due.Idle passed (Notifies o reply) id answer) older law

        told : Told older s o
        told = told_here older now w below room passed id answer o reply law

        -- what is asked before it
        abbrev xs : E.Own
        xs = exchanges_after s.exchanges (asks older now w below room passed id answer o reply)

        -- what it leaves, as it goes
        abbrev Left : Bool → Telling → Type 0
        Left plain y = Lives y (FlightOf y y.way (P.after xs (notifies_by plain s.clock o r w id)).separate []) s.store
            (notified plain s.clock id (s.store.holds o.path) o s.observers)

        abbrev notice : Bool → Held → Telling
        notice plain held = telling_of o.to o.token o.path (way_of plain id) s.clock false held

        low : (held : Held) → s.store.holds o.path ≡ Some held → held.version ≤ s.store.tally.version
        low held is = are_low limits szx setup older past_law o.path held is

        in_con : (held : Held) → s.store.holds o.path ≡ Some held → Left false (notice false held)
        in_con held is =
            let y : Telling = notice false held in
            let F : Type 0 = FlightOf y y.way (xs.separate ++ separate_of o.to id o.token r ∷ []) [] in
            let left : notified false s.clock id (s.store.holds o.path) o s.observers
            ≡ sent_to s.clock o.to o.token true s.observers =
            ap (λ z. notified false s.clock id z o s.observers) is in
            let first : LivesAt y F s.store (sent_to s.clock o.to o.token true s.observers) = record {
              entry = told_by s.clock true o;
              is = registration-sent_to s.clock o.to o.token true s.observers
                  ∙ ap (option_map (told_by s.clock true)) told.is;
              path = refl;
              low = low held is;
              fresh = λ m z e. absurd (cc m);
              young = λ k. absurd (cc k);
              flies = inl (begins o.to id o.token xs.separate r
                  (free older now w below room passed id answer o reply law)
                  (ends_as o.to id o.token r (notification_observes s.store o reply held is)));
            } in
            subst (Lives y F s.store) (sym left) (inr first)

        -- its state was made when the entry says
        dated : (held : Held) → s.store.holds o.path ≡ Some held → IsSince held.version o.changed s.store.tally
        dated held is =
            each_there (IsDated s.store) s.observers o
            (ended_dated s.store (P.failed_by below (own older).exchanges.separate) (own older).observers
            (are_dated limits szx setup older past_law)) told.there told.marked_is held is

        in_non : by_plain s o ≡ true → (held : Held) → s.store.holds o.path ≡ Some held → Left true (notice true held)
        in_non goes held is =
            let y : Telling = notice true held in
            let noted : List Observer = noted_to s.clock o.to o.token id s.observers in
            let left : notified true s.clock id (s.store.holds o.path) o s.observers
            ≡ sent_to s.clock o.to o.token false noted = ap (λ z. notified true s.clock id z o s.observers) is in
            let keep : Observer → Observer = λ z. record z { noted = Some (record { id = id; at = s.clock }) } in
            let first : LivesAt y (Unit {0}) s.store (sent_to s.clock o.to o.token false noted) = record {
              entry = told_by s.clock false (keep o);
              is = registration-sent_to s.clock o.to o.token false noted
                  ∙ ap (option_map (told_by s.clock false))
                  (registration-noted_to s.clock o.to o.token id s.observers ∙ ap (option_map keep) told.is);
              path = refl;
              low = low held is;
              fresh = λ m z e. absurd (cc m);
              young = λ k. record {
                made = o.changed;
                young = young_by s.plains s.clock held o (ap (λ z. goes_plain s.plains s.clock z o) (sym is) ∙ goes);
                since = dated held is;
              };
              flies = tt;
            } in
            subst (Lives y (Unit {0}) s.store) (sym left) (inr first)

        by_way : (plain : Bool) → by_plain s o ≡ plain → (held : Option Held) → s.store.holds o.path ≡ held
            → tells o.to o.token o.path (way_of plain id) s.clock false held ≡ Some x → Left plain x
        by_way plain goes None is k = absurd (cc k)
        by_way false goes (Some held) is k = subst (Left false) (one _ x k) (in_con held is)
        by_way true goes (Some held) is k = subst (Left true) (one _ x k) (in_non goes held is)

        notifies : telling (own older) (Ticks now w below room due.Idle passed (Notifies o reply) id answer) ≡ Some x
            → Begins (Ticks now w below room due.Idle passed (Notifies o reply) id answer)
        notifies h = by_way (by_plain s o) refl (s.store.holds o.path) refl h

    pub begins_at : (c : Call) → ServerLaw limits szx setup (c ∷ older) → telling (own older) c ≡ Some x → Begins c
    begins_at (Feeds now from bytes w up (Some p) (Serves q reply left) below) law h =
        answers_fed now from bytes w up p q reply left below law h
    begins_at (Ticks now w below room (due.Ready a) passed (Serves q reply left) id answer) law h =
        answers_ready now w below room a passed q reply left id answer law h
    begins_at (Ticks now w below room due.Idle passed (Notifies o reply) id answer) law h =
        notifies now w below room passed id answer o reply law h
    begins_at _ law e = absurd (cc e)
