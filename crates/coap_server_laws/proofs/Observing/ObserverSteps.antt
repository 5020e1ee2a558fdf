-- What each call of a server makes of its observers and its store: steps that each keep a fact keep it in all.
use Rattle.std.proofs.Common.{◌≤◌, ℕ, max, Bool, true, false, Option, Some, None, List, ◌∷◌, arith, cond, refl}
use Rattle.coap_types.specs.declared.endpoint.Endpoint.{Endpoint}
use Rattle.coap_codec.specs.Message.{Message}
use Rattle.coap_layer.specs.Trace as L
use Rattle.coap_layer.specs.declared.setup.Setup.{Setup}
use Rattle.coap_observe.specs.Observers.{Observer, noted_to, removed, registered, sent_to}
use Rattle.coap_resource.specs.Content.{Content, Held, put_refusal}
use Rattle.coap_resource.specs.Limits.{Limits}
use Rattle.coap_resource.specs.Rate.{rate_refusal}
use Rattle.coap_resource.specs.RequestOptions.{block_of, szx_by}
use Rattle.coap_resource.specs.Serves.{Question, Reply}
use Rattle.coap_resource.specs.Serves as R
use Rattle.coap_exchange.specs.declared.answerer.Asked.{Asked}
use Rattle.coap_exchange.specs.declared.answerer.Due.{Due}
use Rattle.coap_exchange.specs.declared.answerer.Due.TheVariants as due
use Rattle.coap_exchange.specs.declared.answerer.Ended.{Ended}
use Rattle.coap_exchange.specs.AnswererSteps as P
use Rattle.coap_exchange.specs.AnswererSteps.{unmatched_by}
use Rattle.coap_server.specs.Trace.{Own, Handling, Serves, Notifies, Call, Sets}
use Rattle.coap_server.specs.Trace.{Removes, Feeds, Ticks}
use Rattle.coap_server.specs.Serving.{observers_served}
use Rattle.coap_server.specs.Observers.{observes, registers, observers_with, marked_if, unless_ended}
use Rattle.coap_server.specs.Notifying.{notified}
use Rattle.coap_server.specs.Plain.{by_plain}
use Rattle.coap_server.specs.Handling.{incoming, ticking, heard}
use Rattle.coap_server.specs.Law.{ServerLaw, own_of}
use Rattle.coap_server.proofs.Facts.Observing.ObserverLists.{notified_left, rejected_left}
use Rattle.coap_server.proofs.Facts.Observing.Outcomes.{Came, came, served, Turned, turned, responded, noticed}
use Rattle.coap_server.proofs.Facts.Observing.StoreChanges.{Effect, served_effect, sets_effect, removes_effect}
use Rattle.coap_server.proofs.Facts.Observing.StoreSteps.{store_timed}
use Rattle.coap_server.proofs.Facts.Serving.Brought.{server_back}
use Rattle.coap_observe.specs.Observers.{elsewhere}
use Rattle.coap_server.specs.Trace.{Forgets}

abbrev pub Fact : Type 1
Fact = Content → List Observer → Type 0

-- each step at this moment keeps it
pub record EachKeeps (at : ℕ) (Q : Fact) : Type 0 where
  pub removes : (s : Content) (os : List Observer) (to : Endpoint) (token : List ℕ) → Q s os → Q s (removed to token os)
  pub forgets : (s : Content) (os : List Observer) (peer : Endpoint) → Q s os → Q s (elsewhere peer os)
  pub registers : (s : Content) (os : List Observer) (to : Endpoint) (token : List ℕ) (path : List (List ℕ)) (szx : ℕ)
      → Q s os → Q s (registered at to token path szx os)
  pub sends : (s : Content) (os : List Observer) (to : Endpoint) (token : List ℕ) (con : Bool) → Q s os
      → Q s (sent_to at to token con os)
  pub notes : (s : Content) (os : List Observer) (to : Endpoint) (token : List ℕ) (id : ℕ) → Q s os
      → Q s (noted_to at to token id os)
  pub marks : (a b : Content) (os : List Observer) (path : List (List ℕ)) → Effect path at a b → a.tally.clock ≤ at
      → Q a os → Q b (marked_if at path a b os)

module _ (at : ℕ) (Q : Fact) (k : EachKeeps at Q) (s : Content) where
  ended_kept : (e : Option Ended) (os : List Observer) → Q s os → Q s (unless_ended e os)
  ended_kept None os q = q
  ended_kept (Some x) os q = by x.observe
    where
      by : (b : Bool) → Q s (cond b (removed x.to x.token os) os)
      by true = k.removes s os x.to x.token q
      by false = q

  with_kept : (a : Asked) (q : Question) (reply : Reply) (os : List Observer) → Q s os
      → Q s (observers_with at a q reply os)
  with_kept a q reply os f = by (registers a q reply os) (observes 1 q)
    where
      by : (b m : Bool)
          → Q s (cond b (registered at a.from a.token q.path (szx_by (block_of q.options) q.szx) os)
          (cond m (removed a.from a.token os) os))
      by true m = k.registers s os a.from a.token q.path (szx_by (block_of q.options) q.szx) f
      by false true = k.removes s os a.from a.token f
      by false false = f

  served_kept : (a : Asked) (q : Question) (reply : Reply) (left : Content) (os : List Observer)
      → R.Serves s at q reply left → s.tally.clock ≤ at → Q s os → Q left (observers_served at s a q reply left os)
  served_kept a q reply left os serves timed f =
      k.marks s left (observers_with at a q reply os) q.path (served_effect s at q reply left serves) timed
      (with_kept a q reply os f)

  notified_kept : (plain : Bool) (id : ℕ) (held : Option Held) (o : Observer) (os : List Observer) → Q s os
      → Q s (notified plain at id held o os)
  notified_kept plain id held o os f =
      notified_left (Q s) plain at id held o os (k.removes s os o.to o.token f)
      (k.sends s (noted_to at o.to o.token id os) o.to o.token false (k.notes s os o.to o.token id f))
      (k.sends s os o.to o.token true f)

module _ (limits : Limits) (szx : ℕ) (setup : Setup) (t : List Call) where
  abbrev own : Own
  own = own_of limits szx t

  abbrev After : Fact → Call → Type 0
  After Q c = Q (own_of limits szx (c ∷ t)).store (own_of limits szx (c ∷ t)).observers

  abbrev Keeps : Fact → Call → Type 0
  Keeps Q c = EachKeeps (own_of limits szx (c ∷ t)).clock Q

  timed_at : (c : Call) → ServerLaw limits szx setup (c ∷ t) → own.store.tally.clock ≤ own.clock
  timed_at c law = store_timed limits szx setup t (server_back limits szx setup c t law)

  -- an arrival
  module _ (Q : Fact) (now : ℕ) (from : Endpoint) (bytes : List ℕ) (w : ℕ) (up : L.Answer) (below : L.Answer) where
    abbrev stage : Option (Asked × Message) → Own
    stage came = heard own now (incoming own now from bytes up came)

    abbrev fed_call : Option (Asked × Message) → Handling → Call
    fed_call came h = Feeds now from bytes w up came h below

    heard_fed : (came : Option (Asked × Message)) → EachKeeps (max own.clock now) Q → Q own.store own.observers
        → Q own.store (stage came).observers
    heard_fed came k q =
        let ended : List Observer = unless_ended (P.reset_by from up own.exchanges.separate) own.observers in
        let f = ended_kept (max own.clock now) Q k own.store (P.reset_by from up own.exchanges.separate) own.observers
        q in
        rejected_left (Q own.store) (max own.clock now) (unmatched_by from up) ended f
        (λ to token. k.removes own.store ended to token f)

    fed_kept : (c : Option (Asked × Message)) (h : Handling) → Came (stage c) c h
        → ServerLaw limits szx setup (fed_call c h ∷ t) → EachKeeps (max own.clock now) Q → Q own.store own.observers
        → After Q (fed_call c h)
    fed_kept c h (served p u reply left serves unplaced) law k q =
        let s : Own = stage (Some p) in
        let timed = timed_at (fed_call (Some p) (Serves u reply left)) law in
        served_kept s.clock Q k s.store p.0 u reply left s.observers serves (omega (arith, timed))
        (heard_fed (Some p) k q)
    fed_kept c h _ law k q = heard_fed c k q

  -- time passes
  module _ (Q : Fact) (now w : ℕ) (below : L.Answer) (room : Bool) (passed id : ℕ) (answer : Bool) where
    abbrev turn : Due → Own
    turn d = heard own now (ticking own now below room d)

    abbrev tick_call : Due → Handling → Call
    tick_call d h = Ticks now w below room d passed h id answer

    heard_ticked : (d : Due) → EachKeeps (max own.clock now) Q → Q own.store own.observers
        → Q own.store (turn d).observers
    heard_ticked d k q = ended_kept (max own.clock now) Q k own.store
        (P.failed_by below own.exchanges.separate) own.observers q

    notices_kept : (d : Due) (o : Observer) (reply : Reply) → EachKeeps (max own.clock now) Q
        → Q own.store own.observers → After Q (tick_call d (Notifies o reply))
    notices_kept d o reply k q =
        let s : Own = turn d in
        notified_kept s.clock Q k s.store (by_plain s o) id (s.store.holds o.path) o s.observers (heard_ticked d k q)

    ticked_kept : (d : Due) (h : Handling) → Turned (turn d) passed d h → ServerLaw limits szx setup (tick_call d h ∷ t)
        → EachKeeps (max own.clock now) Q → Q own.store own.observers → After Q (tick_call d h)
    ticked_kept d h (responded a u reply left asks serves) law k q =
        let s : Own = turn (due.Ready a) in
        let timed = timed_at (tick_call (due.Ready a) (Serves u reply left)) law in
        served_kept s.clock Q k s.store a u reply left s.observers serves (omega (arith, timed))
        (heard_ticked (due.Ready a) k q)
    ticked_kept d h (noticed o reply found is) law k q = notices_kept due.Idle o reply k q
    ticked_kept d h _ law k q = heard_ticked d k q

  -- What each step keeps, each call keeps.
  pub call_kept : (Q : Fact) (c : Call) → ServerLaw limits szx setup (c ∷ t) → Keeps Q c → Q own.store own.observers
      → After Q c
  call_kept Q (Sets now path format body answer left) law k q =
      let at : ℕ = max own.clock now in
      let timed = timed_at (Sets now path format body answer left) law in
      k.marks own.store left own.observers path
      (sets_effect (put_refusal own.store at path _) own.store at path format body answer left refl law.rows.0)
      (omega (arith, timed)) q
  call_kept Q (Removes now path answer left) law k q =
      let at : ℕ = max own.clock now in
      let timed = timed_at (Removes now path answer left) law in
      k.marks own.store left own.observers path
      (removes_effect (own.store.holds path) (rate_refusal own.store.tally at) own.store at path answer left refl
      law.rows.0) (omega (arith, timed)) q
  call_kept Q (Feeds now from bytes w up c h below) law k q =
      fed_kept Q now from bytes w up below c h (came (heard own now
      (incoming own now from bytes up c)) c h law.rows.0) law k q
  call_kept Q (Ticks now w below room d passed h id answer) law k q =
      ticked_kept Q now w below room passed id answer d h
      (turned (heard own now (ticking own now below room d)) passed d h law.rows.0.0) law k q
  call_kept Q (Forgets peer) law k q = k.forgets own.store own.observers peer q
  call_kept Q _ law k q = q
