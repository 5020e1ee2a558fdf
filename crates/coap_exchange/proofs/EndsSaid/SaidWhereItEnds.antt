-- A separate response or a notification that a Reset rejects, or that is given up, is said to have ended.
use Rattle.std.proofs.Common.{◌≡◌, ◌≢◌, inl, inr, ℕ, max, Bool, true, false, Option, Some, None, List, [], ◌∷◌, ◌++◌}
use Rattle.std.proofs.Common.{refl, ap, sym, subst, ◌∙◌, cond, ◌||◌, ◌==◌, not}
use Rattle.std.specs.List.{list_any}
use Rattle.std.specs.Option.{option_map}
use Rattle.std.specs.Cmp.{unsigned_Decides}
use Rattle.coap_types.specs.Past.{Since}
use Rattle.coap_types.specs.declared.endpoint.Endpoint.{Endpoint}
use Rattle.coap_types.specs.SameEndpoint.{same_endpoint}
use Rattle.coap_types.proofs.Facts.Endpoints.{same_endpoint_is, same_endpoint_self}
use Rattle.std.proofs.lemmas.Bool.{eqb-true}
use Rattle.coap_layer.specs.Machine.State as L
use Rattle.coap_layer.specs.Machine.State.{is_outstanding, is_busy, is_failed, is_copy_due, tick_of, sending}
use Rattle.coap_layer.specs.Machine.Steps.{Steps}
use Rattle.coap_layer.specs.Trace as T
use Rattle.coap_layer.specs.Words.{Open, is_to}
use Rattle.coap_exchange.specs.declared.answerer.Ended.{Ended}
use Rattle.coap_exchange.specs.declared.separate.Separate.{Separate}
use Rattle.coap_exchange.specs.AnswererTrace.{Own, Call, Incoming, Ticks, Responds, Notifies}
use Rattle.coap_exchange.specs.AnswererTrace.{Sending}
use Rattle.coap_exchange.specs.AnswererSteps.{lower, goes_to, found, ended_as, separate_of, without_separate}
use Rattle.coap_exchange.specs.AnswererSteps.{separate_after, separate_unless, is_waited_for, asking_room, ready_if}
use Rattle.coap_exchange.specs.AnswererSteps.{ready_at, reject_by}
use Rattle.coap_exchange.specs.AnswererLaw.{own_of, lower_of, AnswererLaw, ResponseLaw}
use Rattle.coap_exchange.specs.AnswererSends.{begins}
use Rattle.coap_exchange.specs.AnswererTells.{SentIn, TellsIf, EndsTold, fails}
use Rattle.coap_exchange.specs.AskerRequests.{asked}
use Rattle.coap_exchange.specs.AskerArrivals.{id_in, replying}
use Rattle.coap_layer.proofs.Facts.StepsOfLayer.{steps_split}
use Rattle.coap_exchange.proofs.Calls.WhatArrived.{arrived}
use Rattle.coap_exchange.proofs.EndsSaid.AreOutstanding.{waits, waits_for}
use Rattle.std.proofs.lemmas.Bool.{and_parts}
use Rattle.coap_layer.specs.declared.setup.Setup.{Setup}

-- the layer says of an outstanding CON alone that it was rejected
reset_open : (old new : L.State) (now : ℕ) (from : Endpoint) (bytes : List ℕ) (up : T.Answer) (id : ℕ)
    → L.Step old now (T.Receive from bytes) up new → up ≡ T.Becomes (T.Reset id)
    → is_outstanding from id old.open_cons ≡ true
reset_open old new now from bytes up id step is =
    (arrived old new now from bytes (T.Reset id)
    (subst (λ u. L.Step old now (T.Receive from bytes) u new) is step)).awaited

-- .. or given up

module _ (at : ℕ) (to : Endpoint) (id : ℕ) where
  is_itself : (c : Open) → T.Expired c.to c.id ≡ T.Expired to id → is_to to id c ≡ true
  is_itself c h =
      let there : c.to ≡ to = cc h in
      let same : c.id ≡ id = cc h in
      let p : same_endpoint c.to to ≡ true = subst (λ e. same_endpoint c.to e ≡ true) there (same_endpoint_self c.to) in
      let q : (c.id == id) ≡ true = (unsigned_Decides c.id id).1 same in
      cc (p, q)

  failed_by : (c : Open) (cs : List Open) (f k : Bool)
      → (tick_of at cs ≡ T.Expired to id → is_outstanding to id cs ≡ true)
      → cond f (T.Expired c.to c.id) (cond k (T.Copied c.to c.id) (tick_of at cs)) ≡ T.Expired to id
      → (is_to to id c || is_outstanding to id cs) ≡ true
  failed_by c cs true k ih h = ap (λ b. b || is_outstanding to id cs) (is_itself c h)
  failed_by c cs false true ih h = absurd (cc h)
  failed_by c cs false false ih h = or_right (is_to to id c) (is_outstanding to id cs) (ih h)
    where
      or_right : (x y : Bool) → y ≡ true → (x || y) ≡ true
      or_right true y e = refl
      or_right false y e = e

  failed_open : (cs : List Open) → tick_of at cs ≡ T.Expired to id → is_outstanding to id cs ≡ true
  failed_open [] h = absurd (cc h)
  failed_open (c ∷ cs) h = failed_by c cs (is_failed at c) (is_copy_due at c) (failed_open cs) h

-- each separate response and notification that is outstanding is the last that was sent to its endpoint

abbrev pub con_of : Separate → Sending
con_of x = record { to = x.to; id = x.id.0 }

abbrev pub Last : List Call → Sending → Ended → Type 0
Last t con e = Since (SentIn con e) (λ b. begins b ≢ Some con.to) t

abbrev pub AllLast : List Call → List Separate → Type 0
AllLast t [] = Unit {0}
AllLast t (x ∷ xs) = Last t (con_of x) (ended_as x) × AllLast t xs

still_last : (c : Call) → begins c ≡ None → (t : List Call) (xs : List Separate) → AllLast t xs → AllLast (c ∷ t) xs
still_last c none t [] h = tt
still_last c none t (x ∷ xs) h = (inr ((λ e. cc (e, none)), h.0), still_last c none t xs h.1)

module _ (t : List Call) where
  last_by : (x : Separate) (xs : List Separate) (b : Bool) → AllLast t (x ∷ xs) → AllLast t xs
      → AllLast t (cond b (x ∷ xs) xs)
  last_by x xs true h k = h
  last_by x xs false h k = k

  last_without : (to : Endpoint) (id : ℕ) (xs : List Separate) → AllLast t xs → AllLast t (without_separate to id xs)
  last_without to id [] h = tt
  last_without to id (x ∷ xs) h =
      let k = last_without to id xs h.1 in
      last_by x (without_separate to id xs) (not (goes_to to id x)) (h.0, k) k

  last_with : (xs : List Separate) (x : Separate) → AllLast t xs → Last t (con_of x) (ended_as x)
      → AllLast t (xs ++ x ∷ [])
  last_with [] x h k = (k, tt)
  last_with (y ∷ xs) x h k = (h.0, last_with xs x h.1 k)

-- where none is outstanding to the endpoint, one may begin
begun_last : (c : Call) (to : Endpoint) → begins c ≡ Some to → (t : List Call) (xs : List Separate)
    → is_waited_for to xs ≡ false → AllLast t xs → AllLast (c ∷ t) xs
begun_last c to is t [] idle h = tt
begun_last c to is t (x ∷ xs) idle h =
    let k = neither (same_endpoint x.to to) (is_waited_for to xs) idle in
    (inr ((λ e. other x.to to k.0 (cc (e, is))), h.0), begun_last c to is t xs k.1 h.1)
  where
    neither : (p q : Bool) → (p || q) ≡ false → (p ≡ false) × (q ≡ false)
    neither true q e = absurd (cc e)
    neither false q e = (refl, e)

    other : (a b : Endpoint) → same_endpoint a b ≡ false → b ≡ a → ⊥
    other a b differ e = let s = same_endpoint_self a in let k : same_endpoint a b
        ≡ true = subst (λ z. same_endpoint a z ≡ true) (sym e) s in cc (k, differ)

-- the one that is found
record Found (t : List Call) (con : Sending) (x : Option Separate) : Type 0 where
  one : Ended
  is : option_map ended_as x ≡ Some one
  last : Last t con one

same_con : (a b : Endpoint) (m n : ℕ) → a ≡ b → m ≡ n
    → ◌≡◌ {A = Sending} (record { to = a; id = m }) (record { to = b; id = n })
same_con a b m n p q = cc (p, q)

module _ (to : Endpoint) (id : ℕ) (t : List Call) where
  abbrev con : Sending
  con = record { to = to; id = id }

  con_is : (x : Separate) → goes_to to id x ≡ true → con_of x ≡ con
  con_is x h =
      let k = and_parts (same_endpoint x.to to) (x.id.0 == id) h in
      same_con x.to to x.id.0 id (same_endpoint_is x.to to k.0) (eqb-true x.id.0 id k.1)

  find_by : (x : Separate) (xs : List Separate) (b : Bool) → goes_to to id x ≡ b → AllLast t (x ∷ xs)
      → (list_any (goes_to to id) xs ≡ true → Found t con (found to id xs)) → (b || list_any (goes_to to id) xs) ≡ true
      → Found t con (cond b (Some x) (found to id xs))
  find_by x xs true is h ih some = record {
    one = ended_as x;
    is = refl;
    last = subst (λ c. Last t c (ended_as x)) (con_is x is) h.0;
  }
  find_by x xs false is h ih some = ih some

  find : (xs : List Separate) → AllLast t xs → list_any (goes_to to id) xs ≡ true → Found t con (found to id xs)
  find [] h some = absurd (cc some)
  find (x ∷ xs) h some = find_by x xs (goes_to to id x) refl h (find xs h.1) some

-- each call

abbrev TellsNow : List Call → Call → Type 0
TellsNow t c = TellsIf t c (fails c)

-- an arrival, and a tick, where what they say has failed is outstanding
arrives : (t : List Call) (now : ℕ) (from : Endpoint) (bytes : List ℕ) (answer : _) (up : T.Answer)
    → AllLast t (own_of t).separate
    → ((id : ℕ) → up ≡ T.Becomes (T.Reset id) → list_any (goes_to from id) (own_of t).separate ≡ true)
    → TellsNow t (Incoming now from bytes up answer) × AllLast t (separate_after from up (own_of t).separate)
arrives t now from bytes answer (T.Becomes (T.Reset id)) last some =
    let f = find from id t (own_of t).separate last (some id refl) in
    (record { ended = f.one; said = f.is; last = f.last }, last_without t from id (own_of t).separate last)
arrives t now from bytes answer (T.Becomes (T.Acked id)) last some =
    (refl, last_without t from id (own_of t).separate last)
arrives t now from bytes answer _ last some = (refl, last)

passes : (t : List Call) (now : ℕ) (room : Bool) (answer : _) (below : T.Answer) → AllLast t (own_of t).separate
    → ((to : Endpoint) (id : ℕ) → below ≡ T.Expired to id → list_any (goes_to to id) (own_of t).separate ≡ true)
    → TellsNow t (Ticks now below room answer) × AllLast t (separate_unless below (own_of t).separate)
passes t now room answer (T.Expired to id) last some =
    let f = find to id t (own_of t).separate last (some to id refl) in
    (record { ended = f.one; said = f.is; last = f.last }, last_without t to id (own_of t).separate last)
passes t now room answer _ last some = (refl, last)

-- a CON that is sent began where none was outstanding
sent_alone : (busy free : Bool) (n id : ℕ) → T.Sent id ≡ cond busy T.Busied (sending free n) → busy ≡ false
sent_alone true free n id h = absurd (cc h)
sent_alone false free n id h = refl

module _ (setup : Setup) (t : List Call) (rows : AnswererLaw t) (last : AllLast t (own_of t).separate) where
  abbrev xs : List Separate
  xs = (own_of t).separate

  abbrev On : Call → Type 0
  On c = TellsNow t c × AllLast (c ∷ t) (own_of (c ∷ t)).separate

  begun_on : (c : Call) (x : Separate) → begins c ≡ Some x.to → SentIn (con_of x) (ended_as x) c
      → is_waited_for x.to xs ≡ false → AllLast (c ∷ t) (xs ++ x ∷ [])
  begun_on c x is sent idle = last_with (c ∷ t) xs x (begun_last c x.to is t xs idle last) (inl sent)

  on : (c : Call) (h : L.State) → Steps (L.start setup) (lower_of (c ∷ t)) h → On c
  on (Incoming now from bytes up answer) h steps =
      let s : Own = own_of t in
      let parts = steps_split (L.start setup) h (lower s (Incoming now from bytes up answer)) (lower_of t) steps in
      let more = steps_split parts.0 h (replying from (id_in up) (reject_by up))
      (asked now (T.Receive from bytes) up ∷ []) parts.2 in
      let under : Steps (L.start setup) (lower_of t) more.1.0 =
      subst (Steps (L.start setup) (lower_of t)) (sym more.1.1) parts.1 in
      let k = arrives t now from bytes answer up last (λ id e. waits_for setup t more.1.0 under from id
      ∙ reset_open more.1.0 more.0 now from bytes up id more.1.2 e) in
      (k.0, still_last (Incoming now from bytes up answer) refl t (separate_after from up xs) k.1)
  on (Ticks now below room answer) h steps =
      let s : Own = own_of t in
      let parts = steps_split (L.start setup) h (lower s (Ticks now below room answer)) (lower_of t) steps in
      let more = steps_split parts.0 h (asking_room now (ready_if below (ready_at s now)) room)
      (asked now T.Ticks below ∷ []) parts.2 in
      let under : Steps (L.start setup) (lower_of t) more.1.0 =
      subst (Steps (L.start setup) (lower_of t)) (sym more.1.1) parts.1 in
      let k = passes t now room answer below last (λ to id e. waits_for setup t more.1.0 under to id
      ∙ failed_open (max more.1.0.clock now) to id more.1.0.open_cons (sym more.1.2.right ∙ e)) in
      (k.0, still_last (Ticks now below room answer) refl t (separate_unless below xs) k.1)
  on (Responds now a r w id) h steps =
      let idle = waits setup t (record { rows = rows; left = steps.0; layer = steps.1 }) a.from
      ∙ sent_alone (is_busy a.from steps.0.open_cons) _ _ id steps.2.right in (
        refl,
        begun_on (Responds now a r w id) (separate_of a.from id a.token r) refl
            (record { there = refl; sent = refl }) idle,
      )
  on (Notifies now to token r w id) h steps =
      let idle = waits setup t (record { rows = rows; left = steps.0; layer = steps.1 }) to
      ∙ sent_alone (is_busy to steps.0.open_cons) _ _ id steps.2.right in (
        refl,
        begun_on (Notifies now to token r w id) (separate_of to id token r) refl
            (record { there = refl; sent = refl }) idle,
      )
  on c h steps = (refl, still_last c refl t xs last)

pub told_so : (setup : Setup) (t : List Call) → AnswererLaw t → (h : L.State) → Steps (L.start setup) (lower_of t) h
    → EndsTold t × AllLast t (own_of t).separate
told_so setup [] rows h steps = (tt, tt)
told_so setup (c ∷ t) rows h steps =
    let parts = steps_split (L.start setup) h (lower (own_of t) c) (lower_of t) steps in
    let earlier = told_so setup t rows.1 parts.0 parts.1 in
    let here = on setup t rows.1 earlier.1 c h steps in
    ((here.0, earlier.0), here.1)

pub told : (setup : Setup) (t : List Call) → ResponseLaw setup t → EndsTold t
told setup t law = (told_so setup t law.rows law.left law.layer).0
