-- In a smooth run in which few notifications are sent a Message ID is free after each event; and where nothing is
-- observed and there is no stranger, none is sent.
use Rattle.std.proofs.Common.{◌≡◌, inl, inr, ◌≤◌, ◌<◌, ℕ, zero, suc, ◌+◌, max, Bool, true, false, cond, ◌&&◌, Option}
use Rattle.std.proofs.Common.{Some, None}
use Rattle.std.proofs.Common.{List, [], ◌∷◌, ◌++◌, map, refl, ap, subst, ◌∙◌, arith}
use Rattle.coap_types.specs.Past.{Always}
use Rattle.coap_types.specs.declared.endpoint.Endpoint.{Endpoint}
use Rattle.coap_codec.specs.Message.{Message}
use Rattle.coap_layer.specs.Taking.{is_then, came, FewCome}
use Rattle.coap_layer.specs.Trace as L
use Rattle.coap_layer.specs.Words.{Incoming, handed, clock}
use Rattle.coap_observe.specs.Observers.{Observer}
use Rattle.coap_exchange.specs.AnswererIds.{notifies, FewNotified, IdIsFree}
use Rattle.coap_exchange.specs.Counts.{count_then}
use Rattle.coap_exchange.specs.AnswererLaw.{ResponseLaw, own_of as exchanges_of}
use Rattle.coap_exchange.specs.AnswererTrace as R
use Rattle.coap_exchange.specs.declared.answerer.Asked.{Asked}
use Rattle.coap_exchange.specs.declared.answerer.Due.{Due}
use Rattle.coap_exchange.specs.declared.answerer.Due.TheVariants as due
use Rattle.coap_client_laws.specs.Follows.OfObservations.{AreOfObservations}
use Rattle.coap_server.specs.Asks.{lower, answering, responding}
use Rattle.coap_server.specs.Deferring.{deferral_by}
use Rattle.coap_server.specs.Follows.Attended.{NoId}
use Rattle.coap_server.specs.Follows.Observes.{notice, AreObservers}
use Rattle.coap_server.specs.Handling.{heard, incoming, ticking}
use Rattle.coap_server.specs.Refusing.{refusing}
use Rattle.coap_server.specs.Law.{ServerLaw, own_of, lower_of}
use Rattle.coap_server.specs.Notifying.{readies, marked}
use Rattle.coap_server.specs.Trace as S
use Rattle.coap_server_laws.proofs.Facts.Laws as server_facts
use Rattle.coap_record.specs.Events.{Config}
use Rattle.coap_smooth.specs.HasIds.{HasIds}
use Rattle.coap_record.specs.Record.{Entry, OfClient, OfServer, Turn, entries_of, client_of, server_trace, Setting}
use Rattle.coap_record.specs.Record.{DelayOf, PlainOf, gives_it, settings}
use Rattle.coap_smooth.specs.Smooth.{TakesNoObservation, most_that_come, FewNotices, FewTold}
use Rattle.coap_promise.proofs.Facts.Delivery.EntriesInTime.{Every, every_join}
use Rattle.coap_promise.proofs.Facts.Delivery.HopsAreEntries.{server_layer, far_is}
use Rattle.coap_promise.proofs.Facts.Requests.OfACall.{Lawful, lawful_back}
use Rattle.coap_promise.proofs.Facts.Requests.Promised.{lawful}
use Rattle.coap_smooth.proofs.Smoothly.Arriving.AllTaken.{Goes, goes_before}
use Rattle.coap_smooth.proofs.Smoothly.Answers.ConsAnswer.{NotifiesTo}
use Rattle.coap_smooth.proofs.Smoothly.Arriving.FewArrive.{few_arrive}
use Rattle.coap_smooth.proofs.Smoothly.Arriving.HeardClient.{heard_client}
use Rattle.coap_smooth.proofs.Smoothly.Requests.NoObservers.{none_made}
use Rattle.coap_smooth.proofs.Smoothly.MessageIds.FewBefore.{notified_back, notices_before}
use Rattle.coap_smooth.proofs.Smoothly.Ticks.NothingIsLeft.{record_of}
use Rattle.coap_smooth.proofs.Smoothly.Arriving.ToClient.{HeardClient, heard_before, of_observer, told_observer}
use Rattle.coap_smooth.proofs.Smoothly.Answers.OpenTo.{front_of}

-- no notification was sent
abbrev NoneNotified : List R.Call → Type 0
NoneNotified t = Always (λ past c. notifies c ≡ false) t

abbrev moment_of : List R.Call → ℕ
moment_of t = (exchanges_of t).clock

none_then : (since : ℕ) (t : List R.Call) → NoneNotified t → count_then moment_of notifies since t ≡ 0
none_then since [] none = refl
none_then since (c ∷ t) none = by (notifies c) (is_then since (moment_of (c ∷ t))) none.0 (none_then since t none.1)
  where
    by : (k b : Bool) → k ≡ false → {n : ℕ} → n ≡ 0 → cond (k && b) (1 + n) n ≡ 0
    by false b e h = h
    by true b e h = absurd (cc e)

few_of_none : (t : List R.Call) → NoneNotified t → FewNotified most_that_come t
few_of_none t none since = let k = none_then since t none in omega (arith, k)

abbrev IsOther : R.Call → Type 0
IsOther b = notifies b ≡ false

-- what a call asks that notifies nobody

deferred : (o : Option ℕ) (place : Bool) (at : ℕ) (a : Asked) → Every IsOther (deferral_by o place at a)
deferred None place at a = tt
deferred (Some delay) place at a = (refl, tt)

answered : (s : S.Own) (came : Option (Asked × Message)) (h : S.Handling) (below : L.Answer)
    → Every IsOther (answering s came h below)
answered s (Some p) (S.Replies r) below = (refl, tt)
answered s (Some p) (S.Serves q reply left) below = (refl, deferred _ _ _ p.0)
answered s (Some p) (S.Waits q delay) below = deferred _ _ _ p.0
answered s _ _ below = tt

ready : (at passed : ℕ) (os : List Observer) → Every IsOther (readies at passed os)
ready at passed [] = tt
ready at zero (o ∷ os) = (refl, tt)
ready at (suc passed) (o ∷ os) = every_join IsOther (readies at passed os) (R.Ready at o.to false ∷ [])
    (ready at passed os) (refl, tt)

abbrev IsNoNotice : S.Handling → Type 0
IsNoNotice (S.Notifies o reply) = ⊥
IsNoNotice h = Unit {0}

responded : (s : S.Own) (d : Due) (passed : ℕ) (h : S.Handling) (word id : ℕ) → IsNoNotice h
    → Every IsOther (responding s d passed h word id)
responded s d passed (S.Notifies o reply) word id none = absurd none
responded s (due.Ready a) passed (S.Serves q reply left) word id none = (refl, tt)
responded s due.Idle passed S.Silent word id none = ready s.clock passed (marked s.observers)
responded s due.Idle passed (S.Replies r) word id none = ready s.clock passed (marked s.observers)
responded s due.Idle passed (S.Serves q reply left) word id none = ready s.clock passed (marked s.observers)
responded s due.Idle passed (S.Waits q delay) word id none = ready s.clock passed (marked s.observers)
responded s _ passed _ word id none = tt

ticked : (s : S.Own) (d : Due) (passed : ℕ) (h : S.Handling) (word id : ℕ) (tick : R.Call) → notifies tick ≡ false
    → ((o : Observer) (reply : _) → h ≡ S.Notifies o reply → ⊥)
    → Every IsOther (responding s d passed h word id ++ tick ∷ [])
ticked s d passed h word id tick none f =
    every_join IsOther (responding s d passed h word id) (tick ∷ []) (responded s d passed h word id (quiet h f))
    (none, tt)
  where
    quiet : (g : S.Handling) → ((o : Observer) (reply : _) → g ≡ S.Notifies o reply → ⊥) → IsNoNotice g
    quiet (S.Notifies o reply) never = never o reply refl
    quiet S.Silent never = tt
    quiet (S.Replies r) never = tt
    quiet (S.Serves q reply left) never = tt
    quiet (S.Waits q delay) never = tt

refusing_other : (a : Asked) (response : Option ℕ) (below : L.Answer) → Every IsOther (refusing a response below)
refusing_other a None below = tt
refusing_other a (Some code) below = (refl, tt)

-- more messages came by more entries
pub came_more : (since : ℕ) (front es : List L.Entry) → came since es ≤ came since (front ++ es)
came_more since [] es = omega arith
came_more since (e ∷ front) es = by (handed e) (came_more since front es)
  where
    further : (b : Bool) {n k : ℕ} → n ≤ k → n ≤ cond b (1 + k) k
    further true h = omega (arith, h)
    further false h = h

    by : (o : Option Incoming) → came since es ≤ came since (front ++ es)
        → came since es ≤ elim o [
          | Some m ↦ cond (is_then since e.at) (1 + came since (front ++ es)) (came since (front ++ es))
          | None ↦ came since (front ++ es)
        ]
    by None h = h
    by (Some m) h = further (is_then since e.at) h

own_first : (a b c : ℕ) → a ≤ max a (max b c)
own_first a b c = omega arith

module _ (config : Config) (observers : (t : List S.Call) → AreObservers config.limits config.server_szx t)
    (free : (t : List R.Call) → ResponseLaw config.server_setup t → IdIsFree config.server_setup t) where
  module _ (past : List Entry) (law : Lawful config past)
      (observed : AreOfObservations config.client_sizes (client_of past))
      (none : Always (λ p d. TakesNoObservation d) (client_of past))
      (from : HeardClient config observers (server_trace config past)) where
    -- nobody is there who could be notified
    none_told : (c : S.Call) → Lawful config (OfServer c ∷ past) → (to : Endpoint) → NotifiesTo c to → ⊥
    none_told c whole to n =
        let k = told_observer config observers (server_trace config past) c whole.server to n in
        none_made config k.0 past law observed none
        (of_observer config observers (server_trace config past) law.server from k.0 k.1) k.1

    none_here : (c : S.Call) → Lawful config (OfServer c ∷ past)
        → Every IsOther (lower (own_of config.limits config.server_szx (server_trace config past)) c)
    none_here (S.Feeds now source bytes word up came h below) whole =
        let s : S.Own = own_of config.limits config.server_szx (server_trace config past) in
        let call : R.Call = incoming s now source bytes up came in
        every_join IsOther (answering (heard s now call) came h below) (call ∷ [])
        (answered (heard s now call) came h below) (refl, tt)
    none_here (S.Refuses now source bytes word code up p response below) whole =
        let s : S.Own = own_of config.limits config.server_szx (server_trace config past) in
        every_join IsOther (refusing p.0 response below) (incoming s now source bytes up (Some p) ∷ [])
        (refusing_other p.0 response below) (refl, tt)
    none_here (S.Ticks now word below room d passed h id answer) whole =
        let s : S.Own = own_of config.limits config.server_szx (server_trace config past) in
        let tick : R.Call = ticking s now below room d in
        ticked (heard s now tick) d passed h word id tick refl (λ o reply is.
        none_told (S.Ticks now word below room d passed h id answer) whole o.to (record {
          now = now;
          answer = answer;
          tick = (word, below, room, d, passed, h, id, refl);
          notice_of = record { observer = o; reply = reply };
          here = ap (λ z. notice (S.Ticks now word below room d passed z id answer)) is;
          there = refl;
        }))
    none_here (S.NextOut answer) whole = (refl, tt)
    none_here (S.Forgets peer) whole = (refl, tt)
    none_here _ whole = tt

  at_first : (ss : List Setting)
      → NoneNotified (lower_of config.limits config.server_szx (map gives_it ss))
  at_first [] = tt
  at_first (DelayOf d ∷ ss) = at_first ss
  at_first (PlainOf p ∷ ss) = at_first ss

  none_notified : (es : List Entry) → Lawful config es → AreOfObservations config.client_sizes (client_of es)
      → Always (λ p d. TakesNoObservation d) (client_of es) → HeardClient config observers (server_trace config es)
      → NoneNotified (lower_of config.limits config.server_szx (server_trace config es))
  none_notified [] law observed none from = at_first (settings config)
  none_notified (OfClient c ∷ es) law observed none from =
      none_notified es (lawful_back config es (OfClient c) law) observed.1 none.1 from
  none_notified (OfServer c ∷ es) law observed none from =
      let older = lawful_back config es (OfServer c) law in
      let t : List S.Call = server_trace config es in
      let before_it = heard_before config observers c t from in
      every_join IsOther (lower (own_of config.limits config.server_szx t) c)
      (lower_of config.limits config.server_szx t) (none_here es older observed none before_it c law)
      (none_notified es older observed none before_it)

  module _ (turn : Turn) (past : List Turn) (g : Goes config (turn ∷ past))
      (told : FewNotices config (turn ∷ past)) where
    abbrev es : List Entry
    es = entries_of (turn ∷ past)

    whole : Lawful config es
    whole = lawful config _ (turn ∷ past) (record_of config (turn ∷ past) g.stands)
        (record { range = g.stands.range; events = g.stands.legal })

    less : {a b c : ℕ} → a ≤ b → b < c → a < c
    less h l = omega (arith, h, l)

    at_call : (now : ℕ) (later t : List S.Call) → server_trace config es ≡ later ++ t
        → NoId config.limits config.server_szx config.server_setup t now → ⊥
    at_call now later t is no_id =
        let law : ServerLaw config.limits config.server_szx config.server_setup t =
        server_facts.back config.limits config.server_szx config.server_setup later t
        (subst (ServerLaw config.limits config.server_szx config.server_setup) is whole.server) in
        let told_t : FewNotified most_that_come (lower_of config.limits config.server_szx t) =
        notified_back config later t
        (subst (λ z. FewNotified most_that_come (lower_of config.limits config.server_szx z)) is told) in
        let few = (few_arrive config (turn ∷ past) g.stands g.few_client g.few_server).with_ids_at_server in
        let k = front_of config later t in
        let all : server_layer config (server_trace config es) ≡ k.0 ++ server_layer config t =
        ap (server_layer config) is ∙ k.1 in
        let few_t : FewCome most_that_come (server_layer config t) = λ since.
        less (came_more since k.0 (server_layer config t))
        (subst (λ l. came since l < most_that_come) (far_is config es ∙ all) (few since)) in
        free (lower_of config.limits config.server_szx t) law.exchanges most_that_come
        (max (clock (server_layer config t)) (max (own_of config.limits config.server_szx t).clock now))
        (omega arith) told_t few_t
        (own_first (clock (server_layer config t)) (own_of config.limits config.server_szx t).clock now) no_id

  pub has_ids : (turns : List Turn) → Goes config turns → FewNotices config turns → HasIds config turns
  has_ids [] g told = tt
  has_ids (turn ∷ past) g told = (
    λ now later t is no_id. at_call turn past g told now later t is no_id,
    has_ids past (goes_before config turn past g) (notices_before config turn past told),
  )

  -- where there is no stranger none is sent
  pub few_told : (turns : List Turn) → Goes config turns
      → AreOfObservations config.client_sizes (client_of (entries_of turns))
      → Always (λ p d. TakesNoObservation d) (client_of (entries_of turns)) → FewTold config turns
      → FewNotices config turns
  few_told turns g observed none (inr told) = told
  few_told turns g observed none (inl no_stranger) =
      few_of_none (lower_of config.limits config.server_szx (server_trace config (entries_of turns)))
      (none_notified (entries_of turns)
      (lawful config _ turns (record_of config turns g.stands)
      (record { range = g.stands.range; events = g.stands.legal })) observed none
      (heard_client config observers turns g.stands no_stranger))
