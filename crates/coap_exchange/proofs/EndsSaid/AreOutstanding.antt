-- The separate responses that are not acknowledged are the layer's outstanding CONs.
use Rattle.std.proofs.Common.{◌≡◌, ℕ, max, Bool, true, false, Option, Some, None, List, [], ◌∷◌, ◌++◌, refl, ap, sym}
use Rattle.std.proofs.Common.{subst, ◌∙◌, cond, ◌||◌, not, option_to_list}
use Rattle.std.specs.List.{list_any, filter_map, cons_option}
use Rattle.std.proofs.lemmas.List.{append-nil}
use Rattle.coap_types.specs.declared.endpoint.Endpoint.{Endpoint}
use Rattle.coap_types.specs.declared.message.Kind.{Kind}
use Rattle.coap_types.specs.declared.message.Kind.TheVariants.{Con, Non, Ack, Rst}
use Rattle.coap_types.specs.SameEndpoint.{same_endpoint}
use Rattle.coap_layer.specs.Machine.State as L
use Rattle.coap_layer.specs.Machine.State.{out_of, is_busy, is_outstanding}
use Rattle.coap_layer.specs.Machine.Steps.{Steps}
use Rattle.coap_layer.specs.Trace as T
use Rattle.coap_layer.specs.Words.{Open, same, left_by, begun_in}
use Rattle.coap_exchange.specs.declared.answerer.Asked.{Asked}
use Rattle.coap_exchange.specs.declared.separate.Deferred.{Deferred}
use Rattle.coap_exchange.specs.declared.separate.Separate.{Separate}
use Rattle.coap_exchange.specs.AnswererTrace.{Response, Own, Call, Incoming, Answers, Defers, Ticks, Responds, Ready}
use Rattle.coap_exchange.specs.AnswererTrace.{Notifies, Take}
use Rattle.coap_exchange.specs.AnswererTrace.{NotifiesPlain, Forgets}
use Rattle.coap_exchange.specs.AnswererSteps.{lower, after, goes_to, without_separate, separate_after, separate_unless}
use Rattle.coap_exchange.specs.AnswererSteps.{is_waited_for, content_of, content_with, answering, deferring, may_defer}
use Rattle.coap_exchange.specs.AnswererSteps.{asking_room, ready_if, ready_at, reject_by}
use Rattle.coap_exchange.specs.AnswererLaw.{own_of, lower_of, ResponseLaw}
use Rattle.coap_exchange.specs.AnswererFollows.{WaitsForOutstanding}
use Rattle.coap_exchange.specs.AskerRequests.{asked}
use Rattle.coap_exchange.specs.AskerArrivals.{id_in, replying}
use Rattle.coap_exchange.specs.EmptyMessages.{ack_bytes}
use Rattle.coap_layer.proofs.Facts.StepsOfLayer.{steps_split}
use Rattle.coap_exchange.proofs.Ending.RequestIsOutstanding.{replying_opens}
use Rattle.coap_layer.specs.Machine.Calls.{opens_then, entry_of}
use Rattle.coap_layer.proofs.Facts.CallsOfLayer.{step_opens, left_same, left_same_nil}
use Rattle.coap_layer.specs.declared.setup.Setup.{Setup}

-- one goes where the other goes, under its Message ID
abbrev Mirrors : List Separate → List Open → Type 0
Mirrors [] [] = Unit {0}
Mirrors (x ∷ xs) (c ∷ cs) = (x.to ≡ c.to) × (x.id.0 ≡ c.id) × Mirrors xs cs
Mirrors [] (c ∷ cs) = ⊥
Mirrors (x ∷ xs) [] = ⊥

abbrev without_con : Endpoint → ℕ → List Open → List Open
without_con to id cs = filter_map (λ (c : Open). cond (same to id c.to c.id) None (Some c)) cs

abbrev copied_con : ℕ → Endpoint → ℕ → List Open → List Open
copied_con at to id cs = filter_map (λ (c : Open). cond (same to id c.to c.id) (Some (record c { last = at })) (Some c))
    cs

module _ (to : Endpoint) (id : ℕ) where
  left_one : (x : Separate) (xs : List Separate) (c : Open) (cs : List Open) (b : Bool) → x.to ≡ c.to → x.id.0 ≡ c.id
      → Mirrors xs cs → Mirrors (cond (not b) (x ∷ xs) xs) (cons_option (cond b None (Some c)) cs)
  left_one x xs c cs true p q m = m
  left_one x xs c cs false p q m = (p, q, m)

  without_mirrors : (xs : List Separate) (cs : List Open) → Mirrors xs cs
      → Mirrors (without_separate to id xs) (without_con to id cs)
  without_mirrors [] [] m = tt
  without_mirrors (x ∷ xs) (c ∷ cs) m =
      let e : same to id c.to c.id ≡ same to id x.to x.id.0 = ap (λ p. same to id p c.id) (sym m.0)
      ∙ ap (λ n. same to id x.to n) (sym m.1) in
      subst (λ b. Mirrors (without_separate to id (x ∷ xs)) (cons_option (cond b None (Some c)) (without_con to id cs)))
      (sym e)
      (left_one x (without_separate to id xs) c (without_con to id cs) (same to id x.to x.id.0) m.0 m.1
      (without_mirrors xs cs m.2))
  without_mirrors _ _ m = absurd m

  copied_one : (at : ℕ) (x : Separate) (xs : List Separate) (c : Open) (cs : List Open) (b : Bool) → x.to ≡ c.to
      → x.id.0 ≡ c.id → Mirrors xs cs → Mirrors (x ∷ xs)
      (cons_option (cond b (Some (record c { last = at })) (Some c)) cs)
  copied_one at x xs c cs true p q m = (p, q, m)
  copied_one at x xs c cs false p q m = (p, q, m)

  copied_mirrors : (at : ℕ) (xs : List Separate) (cs : List Open) → Mirrors xs cs → Mirrors xs (copied_con at to id cs)
  copied_mirrors at [] [] m = tt
  copied_mirrors at (x ∷ xs) (c ∷ cs) m = copied_one at x xs c (copied_con at to id cs) (same to id c.to c.id) m.0 m.1
      (copied_mirrors at xs cs m.2)
  copied_mirrors at _ _ m = absurd m

with_mirrors : (xs : List Separate) (cs : List Open) (x : Separate) (c : Open) → x.to ≡ c.to → x.id.0 ≡ c.id
    → Mirrors xs cs → Mirrors (xs ++ x ∷ []) (cs ++ c ∷ [])
with_mirrors [] [] x c p q m = (p, q, tt)
with_mirrors (y ∷ xs) (d ∷ cs) x c p q m = (m.0, m.1, with_mirrors xs cs x c p q m.2)
with_mirrors _ _ x c p q m = absurd m

busy_mirrors : (to : Endpoint) (xs : List Separate) (cs : List Open) → Mirrors xs cs
    → is_waited_for to xs ≡ is_busy to cs
busy_mirrors to [] [] m = refl
busy_mirrors to (x ∷ xs) (c ∷ cs) m = ap (λ p. same_endpoint p to || is_waited_for to xs) m.0
    ∙ ap (λ b. same_endpoint c.to to || b) (busy_mirrors to xs cs m.2)
busy_mirrors to _ _ m = absurd m

outstanding_mirrors : (to : Endpoint) (id : ℕ) (xs : List Separate) (cs : List Open) → Mirrors xs cs
    → list_any (goes_to to id) xs ≡ is_outstanding to id cs
outstanding_mirrors to id [] [] m = refl
outstanding_mirrors to id (x ∷ xs) (c ∷ cs) m =
    ap (λ p. same to id p x.id.0 || list_any (goes_to to id) xs) m.0
    ∙ (ap (λ n. same to id c.to n || list_any (goes_to to id) xs) m.1
    ∙ ap (λ b. same to id c.to c.id || b) (outstanding_mirrors to id xs cs m.2))
outstanding_mirrors to id _ _ m = absurd m

-- what each call of the layer leaves
module _ (at : ℕ) (out : List T.Packet) (xs : List Separate) (cs : List Open) (m : Mirrors xs cs) where
  same_mirrors : (call : T.Call) (answer : T.Answer) → ((c : Open) → left_by (entry_of at call answer out) c ≡ Some c)
      → begun_in at call answer ≡ None → Mirrors xs (opens_then at call answer out cs)
  same_mirrors call answer f none =
      subst (Mirrors xs) (sym (ap (λ o. filter_map (left_by (entry_of at call answer out)) cs ++ option_to_list o) none
      ∙ left_same_nil (entry_of at call answer out) f cs)) m

  gone_mirrors : (to : Endpoint) (id : ℕ) → Mirrors (without_separate to id xs) (without_con to id cs ++ [])
  gone_mirrors to id = subst (Mirrors (without_separate to id xs)) (sym (append-nil (without_con to id cs)))
      (without_mirrors to id xs cs m)

  arrival_mirrors : (from : Endpoint) (bytes : List ℕ) (up : T.Answer)
      → Mirrors (separate_after from up xs) (opens_then at (T.Receive from bytes) up out cs)
  arrival_mirrors from bytes (T.Becomes (T.Acked id)) = gone_mirrors from id
  arrival_mirrors from bytes (T.Becomes (T.Reset id)) = gone_mirrors from id
  arrival_mirrors from bytes up = same_mirrors (T.Receive from bytes) up (λ c. refl) refl

  tick_mirrors : (below : T.Answer) → Mirrors (separate_unless below xs) (opens_then at T.Ticks below out cs)
  tick_mirrors (T.Expired to id) = gone_mirrors to id
  tick_mirrors (T.Copied to id) = subst (Mirrors xs) (sym (append-nil (copied_con at to id cs)))
      (copied_mirrors to id at xs cs m)
  tick_mirrors below = same_mirrors T.Ticks below (λ c. refl) refl

-- one call of the layer that begins and ends none
still : (old new : L.State) (now : ℕ) (call : T.Call) (answer : T.Answer) (xs : List Separate)
    → L.Step old now call answer new
    → ((at : ℕ) (out : List T.Packet) (c : Open) → left_by (entry_of at call answer out) c ≡ Some c)
    → ((at : ℕ) → begun_in at call answer ≡ None) → Mirrors xs old.open_cons → Mirrors xs new.open_cons
still old new now call answer xs step f none m =
    subst (Mirrors xs) (sym (step_opens old new now call answer step))
    (same_mirrors (L.moment old now call) (out_of old (L.moment old now call) call) xs old.open_cons m call answer
    (f (L.moment old now call) (out_of old (L.moment old now call) call)) (none (L.moment old now call)))

answered_mirrors : (kind : Kind) (s : Own) (a : Asked) (r : Response) (below : T.Answer) (old new : L.State) (now : ℕ)
    (xs : List Separate) → L.Step old now (answering s kind a r) below new → Mirrors xs old.open_cons
    → Mirrors xs new.open_cons
answered_mirrors Con s a r below old new now xs step m =
    still old new now (answering s Con a r) below xs step (λ at out c. refl) (λ at. refl) m
answered_mirrors Non s a r below old new now xs step m =
    still old new now (answering s Non a r) below xs step (λ at out c. refl) (λ at. refl) m
answered_mirrors Ack s a r below old new now xs step m =
    still old new now (answering s Ack a r) below xs step (λ at out c. refl) (λ at. refl) m
answered_mirrors Rst s a r below old new now xs step m =
    still old new now (answering s Rst a r) below xs step (λ at out c. refl) (λ at. refl) m

deferring_mirrors : (b : Bool) (a : Asked) (old new : L.State) (xs : List Separate) → Steps old (deferring b a) new
    → Mirrors xs old.open_cons → Mirrors xs new.open_cons
deferring_mirrors true a old new xs h m =
    still h.0 new 0 (T.Reply a.from a.id.0 (ack_bytes a.id.0)) T.Nothing xs h.2 (λ at out c. refl) (λ at. refl)
    (subst (λ (z : L.State). Mirrors xs z.open_cons) (sym h.1) m)
deferring_mirrors false a old new xs h m = subst (λ (z : L.State). Mirrors xs z.open_cons) (sym h) m

room_mirrors : (now : ℕ) (o : Option Deferred) (room : Bool) (old new : L.State) (xs : List Separate)
    → Steps old (asking_room now o room) new → Mirrors xs old.open_cons → Mirrors xs new.open_cons
room_mirrors now None room old new xs h m = subst (λ (z : L.State). Mirrors xs z.open_cons) (sym h) m
room_mirrors now (Some d) room old new xs h m =
    still h.0 new now (T.Room d.asked.from) (T.Is room) xs h.2 (λ at out c. refl) (λ at. refl)
    (subst (λ (z : L.State). Mirrors xs z.open_cons) (sym h.1) m)

pub mirrors : (setup : Setup) (t : List Call) (h : L.State) → Steps (L.start setup) (lower_of t) h
    → Mirrors (own_of t).separate h.open_cons
mirrors setup [] h steps = subst (λ (z : L.State). Mirrors [] z.open_cons) (sym steps) tt
mirrors setup (Incoming now from bytes up answer ∷ t) h steps =
    let s : Own = own_of t in
    let parts = steps_split (L.start setup) h (lower s (Incoming now from bytes up answer)) (lower_of t) steps in
    let more = steps_split parts.0 h (replying from (id_in up) (reject_by up))
    (asked now (T.Receive from bytes) up ∷ []) parts.2 in
    let mid : L.State = more.1.0 in
    let at : ℕ = max mid.clock now in
    let old : Mirrors s.separate mid.open_cons =
    subst (λ (z : L.State). Mirrors s.separate z.open_cons) (sym more.1.1) (mirrors setup t parts.0 parts.1) in
    let here : Mirrors (separate_after from up s.separate) more.0.open_cons =
    subst (Mirrors (separate_after from up s.separate))
    (sym (step_opens mid more.0 now (T.Receive from bytes) up more.1.2))
    (arrival_mirrors at (out_of mid at (T.Receive from bytes)) s.separate mid.open_cons old from bytes up) in
    subst (Mirrors (separate_after from up s.separate))
    (sym (replying_opens from (id_in up) (reject_by up) more.0 h more.2).1) here
mirrors setup (Answers a r below ∷ t) h steps =
    answered_mirrors a.kind (own_of t) a r below steps.0 h (own_of t).clock (own_of t).separate steps.2
    (mirrors setup t steps.0 steps.1)
mirrors setup (Defers now a delay answer ∷ t) h steps =
    let s : Own = own_of t in
    let parts = steps_split (L.start setup) h (lower s (Defers now a delay answer)) (lower_of t) steps in
    let more = steps_split parts.0 h (deferring (may_defer s.deferred) a) (asked now T.Pass T.Nothing ∷ []) parts.2 in
    let old : Mirrors s.separate more.1.0.open_cons =
    subst (λ (z : L.State). Mirrors s.separate z.open_cons) (sym more.1.1) (mirrors setup t parts.0 parts.1) in
    deferring_mirrors (may_defer s.deferred) a more.0 h s.separate more.2
    (still more.1.0 more.0 now T.Pass T.Nothing s.separate more.1.2 (λ at out c. refl) (λ at. refl) old)
mirrors setup (Ticks now below room answer ∷ t) h steps =
    let s : Own = own_of t in
    let parts = steps_split (L.start setup) h (lower s (Ticks now below room answer)) (lower_of t) steps in
    let more = steps_split parts.0 h (asking_room now (ready_if below (ready_at s now)) room)
    (asked now T.Ticks below ∷ []) parts.2 in
    let mid : L.State = more.1.0 in
    let at : ℕ = max mid.clock now in
    let old : Mirrors s.separate mid.open_cons =
    subst (λ (z : L.State). Mirrors s.separate z.open_cons) (sym more.1.1) (mirrors setup t parts.0 parts.1) in
    let here : Mirrors (separate_unless below s.separate) more.0.open_cons =
    subst (Mirrors (separate_unless below s.separate)) (sym (step_opens mid more.0 now T.Ticks below more.1.2))
    (tick_mirrors at (out_of mid at T.Ticks) s.separate mid.open_cons old below) in
    room_mirrors now (ready_if below (ready_at s now)) room more.0 h (separate_unless below s.separate) more.2 here
mirrors setup (Responds now a r w id ∷ t) h steps =
    let s : Own = own_of t in
    let mid : L.State = steps.0 in
    let call : T.Call = T.Confirm a.from (content_of a r) w in
    let at : ℕ = max mid.clock now in
    subst (Mirrors (after s (Responds now a r w id)).separate)
    (sym (step_opens mid h now call (T.Sent id) steps.2
    ∙ ap (λ z. z ++ option_to_list (begun_in at call (T.Sent id)))
    (left_same (entry_of at call (T.Sent id) (out_of mid at call)) (λ c. refl) mid.open_cons)))
    (with_mirrors s.separate mid.open_cons _ _ refl refl (mirrors setup t mid steps.1))
mirrors setup (Ready now to answer ∷ t) h steps =
    still steps.0 h now (T.Room to) (T.Is answer) (own_of t).separate steps.2 (λ at out c. refl) (λ at. refl)
    (mirrors setup t steps.0 steps.1)
mirrors setup (Notifies now to token r w id ∷ t) h steps =
    let s : Own = own_of t in
    let mid : L.State = steps.0 in
    let call : T.Call = T.Confirm to (content_with token r) w in
    let at : ℕ = max mid.clock now in
    subst (Mirrors (after s (Notifies now to token r w id)).separate)
    (sym (step_opens mid h now call (T.Sent id) steps.2
    ∙ ap (λ z. z ++ option_to_list (begun_in at call (T.Sent id)))
    (left_same (entry_of at call (T.Sent id) (out_of mid at call)) (λ c. refl) mid.open_cons)))
    (with_mirrors s.separate mid.open_cons _ _ refl refl (mirrors setup t mid steps.1))
mirrors setup (NotifiesPlain now to token r id ∷ t) h steps =
    still steps.0 h now (T.Plain to (content_with token r)) (T.Sent id) (own_of t).separate steps.2 (λ at out c. refl)
    (λ at. refl) (mirrors setup t steps.0 steps.1)
mirrors setup (Take answer ∷ t) h steps = still steps.0 h 0 T.Take (T.Gives answer) (own_of t).separate steps.2
    (λ at out c. refl) (λ at. refl) (mirrors setup t steps.0 steps.1)
mirrors setup (Forgets peer ∷ t) h steps = mirrors setup t h steps

pub waits : (setup : Setup) (t : List Call) (law : ResponseLaw setup t) → WaitsForOutstanding setup t law
waits setup t law to = busy_mirrors to (own_of t).separate law.left.open_cons (mirrors setup t law.left law.layer)

pub waits_for : (setup : Setup) (t : List Call) (h : L.State) → Steps (L.start setup) (lower_of t) h
    → (to : Endpoint) (id : ℕ) → list_any (goes_to to id) (own_of t).separate ≡ is_outstanding to id h.open_cons
waits_for setup t h steps to id = outstanding_mirrors to id (own_of t).separate h.open_cons (mirrors setup t h steps)
