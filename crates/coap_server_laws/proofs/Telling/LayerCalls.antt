-- Which call of the exchanges gives a message layer what it sends.
use Rattle.std.proofs.Common.{◌≡◌, ◌⊎◌, inl, inr, ℕ, Bool, true, false, Option, Some, None, List, [], ◌∷◌, ◌++◌, refl}
use Rattle.std.proofs.Common.{ap, sym, subst, ◌∙◌, cond}
use Rattle.coap_types.specs.Past.{Ever}
use Rattle.coap_types.proofs.Facts.Traces.{Ever_append}
use Rattle.coap_types.specs.declared.endpoint.Endpoint.{Endpoint}
use Rattle.coap_layer.specs.Machine.State as S
use Rattle.coap_layer.specs.Machine.Steps as G
use Rattle.coap_layer.specs.Machine.Steps.{Steps, entries, left_after}
use Rattle.coap_layer.specs.Trace as L
use Rattle.coap_layer.specs.Words.{is_kept}
use Rattle.coap_layer.proofs.Facts.Calls.{steps_left}
use Rattle.coap_layer.proofs.Facts.StepsOfLayer.{steps_split}
use Rattle.coap_layer.specs.declared.setup.Setup.{Setup}
use Rattle.coap_resource.specs.Limits.{Limits}
use Rattle.coap_exchange.specs.declared.answerer.Asked.{Asked}
use Rattle.coap_exchange.specs.declared.separate.Deferred.{Deferred}
use Rattle.coap_exchange.specs.EmptyMessages.{ack_bytes, reset_bytes}
use Rattle.coap_exchange.specs.AnswererTrace as E
use Rattle.coap_exchange.specs.AnswererSteps as P
use Rattle.coap_exchange.specs.AnswererLaw as W
use Rattle.coap_exchange.specs.AskerRequests.{asked}
use Rattle.coap_exchange.specs.AskerArrivals.{id_in, replying}
use Rattle.coap_exchange.specs.Adds.{asked_by_server}
use Rattle.coap_server.specs.Trace.{Call}
use Rattle.coap_server.specs.Asks.{lower}
use Rattle.coap_server.specs.Law.{ServerLaw, own_of, lower_of, layer_of}
use Rattle.coap_exchange.proofs.Facts.Adds.{answerer_append, entries_append}
use Rattle.coap_server_laws.specs.Follows.Adds.{call_asks, all_asked, call_adds}

-- from the entries of the layer to what was asked of it, with the answer
pub asked_for : (K : L.Call → L.Answer → Type 0) (old new : S.State) (calls : List G.Asked) → Steps old calls new
    → Ever (λ (e : L.Entry). K e.call e.answer) (entries old calls) → Ever (λ (b : G.Asked). K b.call b.answer) calls
asked_for K old new [] h e = e
asked_for K old new (a ∷ earlier) h (inr e) = inr (asked_for K old h.0 earlier h.1 e)
asked_for K old new (a ∷ earlier) h (inl e) =
    let s : S.State = left_after old earlier in
    let right : a.answer ≡ S.answer_of s (S.moment s a.now a.call) a.call =
    subst (λ w. a.answer ≡ S.answer_of w (S.moment w a.now a.call) a.call)
    (steps_left old earlier h.0 h.1) h.2.right in
    inl (subst (K a.call) (sym right) e)

module _ (K : L.Call → L.Answer → Type 0) where
  -- an Empty message; the answer to a request; a separate response; a notification in a CON and in a NON
  pub data Origin (s : E.Own) (c : E.Call) : Type 0 where
    empties : (to : Endpoint) (id : ℕ) → K (L.Reply to id (ack_bytes id)) L.Nothing
        ⊎ K (L.Reply to id (reset_bytes id)) L.Nothing → Origin s c
    answers : (a : Asked) (r : E.Response) (below : L.Answer) → c ≡ E.Answers a r below
        → K (P.answering s a.kind a r) below → Origin s c
    responds : (now : ℕ) (a : Asked) (r : E.Response) (word id : ℕ) → c ≡ E.Responds now a r word id
        → K (L.Confirm a.from (P.content_of a r) word) (L.Sent id) → Origin s c
    notifies : (now : ℕ) (to : Endpoint) (token : List ℕ) (r : E.Response) (word id : ℕ)
        → c ≡ E.Notifies now to token r word id → K (L.Confirm to (P.content_with token r) word) (L.Sent id)
        → Origin s c
    plains : (now : ℕ) (to : Endpoint) (token : List ℕ) (r : E.Response) (id : ℕ)
        → c ≡ E.NotifiesPlain now to token r id → K (L.Plain to (P.content_with token r)) (L.Sent id) → Origin s c

  -- what sends nothing of the kind
  pub record IsOfSending : Type 0 where
    pub receive : (from : Endpoint) (bytes : List ℕ) (a : L.Answer) → K (L.Receive from bytes) a → ⊥
    pub room : (to : Endpoint) (a : L.Answer) → K (L.Room to) a → ⊥
    pub ticks : (a : L.Answer) → K L.Ticks a → ⊥
    pub take : (a : L.Answer) → K L.Take a → ⊥
    pub pass : (a : L.Answer) → K L.Pass a → ⊥

  abbrev pub In : List G.Asked → Type 0
  In calls = Ever (λ (b : G.Asked). K b.call b.answer) calls

  module _ (q : IsOfSending) (s : E.Own) (c : E.Call) where
    rejected : (from : Endpoint) (up : L.Answer) → In (replying from (id_in up) (P.reject_by up)) → Origin s c
    rejected from (L.Becomes (L.Response m)) h = by (is_kept m.kind) h
      where
        by : (k : Bool) → In (replying from m.id (cond k (Some (reset_bytes m.id)) None)) → Origin s c
        by true (inl g) = empties from m.id (inr g)
        by true (inr g) = absurd g
        by false g = absurd g
    rejected from _ h = absurd h

    deferral : (at : ℕ) (a : Asked) (d : Bool) → In (P.deferring d a ++ asked at L.Pass L.Nothing ∷ []) → Origin s c
    deferral at a true (inl g) = empties a.from a.id.0 (inl g)
    deferral at a true (inr (inl g)) = absurd (q.pass _ g)
    deferral at a true (inr (inr g)) = absurd g
    deferral at a false (inl g) = absurd (q.pass _ g)
    deferral at a false (inr g) = absurd g

    tick_none : (at : ℕ) (o : Option Deferred) (room : Bool) (below : L.Answer)
        → In (P.asking_room at o room ++ asked at L.Ticks below ∷ []) → ⊥
    tick_none at None room below (inl g) = q.ticks _ g
    tick_none at None room below (inr g) = g
    tick_none at (Some d) room below (inl g) = q.room d.asked.from _ g
    tick_none at (Some d) room below (inr (inl g)) = q.ticks _ g
    tick_none at (Some d) room below (inr (inr g)) = g

  pub origin : IsOfSending → (s : E.Own) (c : E.Call) → In (P.lower s c) → Origin s c
  origin q s (E.Incoming at from bytes up came) h =
      elim (Ever_append (λ (b : G.Asked). K b.call b.answer) (replying from (id_in up) (P.reject_by up))
      (asked at (L.Receive from bytes) up ∷ []) h) [
        | inl k ↦ rejected q s (E.Incoming at from bytes up came) from up k
        | inr k ↦ elim k [ inl g ↦ absurd (q.receive from bytes up g) | inr g ↦ absurd g ]
      ]
  origin q s (E.Answers a r below) (inl h) = answers a r below refl h
  origin q s (E.Answers a r below) (inr h) = absurd h
  origin q s (E.Defers at a delay answer) h = deferral q s (E.Defers at a delay answer) at a (P.may_defer s.deferred) h
  origin q s (E.Ticks at below room d) h = absurd
      (tick_none q s (E.Ticks at below room d) at (P.ready_if below (P.ready_at s at)) room below h)
  origin q s (E.Responds at a r word id) (inl h) = responds at a r word id refl h
  origin q s (E.Responds at a r word id) (inr h) = absurd h
  origin q s (E.Ready at to answer) (inl h) = absurd (q.room to _ h)
  origin q s (E.Ready at to answer) (inr h) = absurd h
  origin q s (E.Notifies at to token r word id) (inl h) = notifies at to token r word id refl h
  origin q s (E.Notifies at to token r word id) (inr h) = absurd h
  origin q s (E.NotifiesPlain at to token r id) (inl h) = plains at to token r id refl h
  origin q s (E.NotifiesPlain at to token r id) (inr h) = absurd h
  origin q s (E.Take answer) (inl h) = absurd (q.take _ h)
  origin q s (E.Take answer) (inr h) = absurd h
  origin q s (E.Forgets peer) h = absurd h

  -- of several calls, the one that gives it
  pub record Given (later : List E.Call) : Type 0 where
    pub before : List E.Call
    pub call : E.Call
    pub there : Ever (λ d. d ≡ call) later
    pub right : P.IsRight (W.own_of before) call
    pub from : Origin (W.own_of before) call

  pub given : IsOfSending → (later past : List E.Call) → W.AnswererLaw (later ++ past) → In (asked_by_server past later)
      → Given later
  given q [] past law h = absurd h
  given q (c ∷ later) past law h =
      elim (Ever_append (λ (b : G.Asked). K b.call b.answer) (P.lower (W.own_of (later ++ past)) c)
      (asked_by_server past later) h) [
        | inl k ↦ record {
          before = later ++ past;
          call = c;
          there = inl refl;
          right = law.0;
          from = origin q (W.own_of (later ++ past)) c k;
        }
        | inr k ↦ (let g = given q later past law.1 k in record
            { before = g.before; call = g.call; there = inr g.there; right = g.right; from = g.from })
      ]

module _ (limits : Limits) (szx : ℕ) (setup : Setup) where
  pub asked_next : (past : List Call) (c : Call)
      → all_asked limits szx (c ∷ past) ≡ call_asks limits szx past c ++ all_asked limits szx past
  asked_next past c = answerer_append (lower (own_of limits szx past) c) (lower_of limits szx past)

  -- what a call adds to the layer's entries stands in front
  pub layer_next : (past : List Call) (c : Call)
      → layer_of limits szx setup (c ∷ past) ≡ call_adds limits szx setup past c ++ layer_of limits szx setup past
  layer_next past c = ap (entries (S.start setup)) (asked_next past c)
      ∙ entries_append (S.start setup) (call_asks limits szx past c) (all_asked limits szx past)

  -- the steps of the layer at one call
  pub steps_here : (past : List Call) (c : Call) → ServerLaw limits szx setup (c ∷ past)
      → (old new : S.State) × Steps old (call_asks limits szx past c) new
      × (call_adds limits szx setup past c ≡ entries old (call_asks limits szx past c))
  steps_here past c law =
      let asks = call_asks limits szx past c in
      let before = all_asked limits szx past in
      let steps = subst (λ (z : List G.Asked). Steps (S.start setup) z law.exchanges.left)
      (asked_next past c) law.exchanges.layer in
      let k = steps_split (S.start setup) law.exchanges.left asks before steps in
      let from = steps_left (S.start setup) before k.0 k.1 in
      (k.0, law.exchanges.left, k.2, ap (λ s. entries s asks) (sym from))

  -- which call of the exchanges gives the layer what it sends in this call
  pub given_here : (K : L.Call → L.Answer → Type 0) → IsOfSending K → (past : List Call) (c : Call)
      → ServerLaw limits szx setup (c ∷ past)
      → Ever (λ (e : L.Entry). K e.call e.answer) (call_adds limits szx setup past c)
      → Given K (lower (own_of limits szx past) c)
  given_here K q past c law h =
      let k = steps_here past c law in
      given K q (lower (own_of limits szx past) c) (lower_of limits szx past) law.exchanges.rows
      (asked_for K k.0 k.1 (call_asks limits szx past c) k.2 (subst (Ever (λ (e : L.Entry). K e.call e.answer)) k.3 h))
