-- A call of a server begins one CON at most.
use Rattle.std.proofs.Common.{◌≡◌, ◌≤◌, inl, inr, ℕ, zero, suc, ◌+◌, Bool, true, false, Option, Some, None, List, []}
use Rattle.std.proofs.Common.{◌∷◌, ◌++◌, refl, sym, ◌∙◌, arith}
use Rattle.coap_types.specs.Past.{Ever}
use Rattle.coap_types.specs.declared.endpoint.Endpoint.{Endpoint}
use Rattle.coap_types.specs.declared.message.Kind.{Kind}
use Rattle.coap_types.specs.declared.message.Kind.TheVariants.{Con}
use Rattle.coap_codec.specs.Message.{Message}
use Rattle.coap_layer.specs.Machine.State as S
use Rattle.coap_layer.specs.Machine.Steps as G
use Rattle.coap_layer.specs.Machine.Steps.{entries, left_after}
use Rattle.coap_layer.specs.Trace as L
use Rattle.coap_layer.specs.Words.{Open, begun, begun_in}
use Rattle.coap_layer.specs.declared.setup.Setup.{Setup}
use Rattle.coap_observe.specs.Observers.{Observer}
use Rattle.coap_resource.specs.Serves.{Question}
use Rattle.coap_resource.specs.Limits.{Limits}
use Rattle.coap_exchange.specs.declared.answerer.Asked.{Asked}
use Rattle.coap_exchange.specs.declared.answerer.Due.{Due}
use Rattle.coap_exchange.specs.declared.answerer.Due.TheVariants as due
use Rattle.coap_exchange.specs.declared.separate.Deferred.{Deferred}
use Rattle.coap_exchange.specs.AnswererTrace as E
use Rattle.coap_exchange.specs.AnswererSteps as P
use Rattle.coap_exchange.specs.AnswererLaw as W
use Rattle.coap_exchange.specs.AskerRequests.{asked}
use Rattle.coap_exchange.specs.AskerArrivals.{id_in, replying}
use Rattle.coap_exchange.specs.Adds.{asked_by_server}
use Rattle.coap_server.specs.Trace.{Own, Handling, Serves, Waits, Notifies, Call}
use Rattle.coap_server.specs.Trace.{Feeds, Refuses}
use Rattle.coap_server.specs.Trace.{Ticks}
use Rattle.coap_server.specs.Asks.{lower, answering, responding}
use Rattle.coap_server.specs.Deferring.{deferral, deferral_by, delay_for}
use Rattle.coap_server.specs.Handling.{incoming, ticking, heard}
use Rattle.coap_server.specs.Notifying.{marked, notification, readies}
use Rattle.coap_server.specs.Law.{own_of, lower_of}
use Rattle.coap_server_laws.specs.Follows.Adds.{call_asks, all_asked, call_adds}
use Rattle.coap_server.specs.Asks.{notifies_by}
use Rattle.coap_server.specs.Plain.{by_plain}

-- how many CONs are asked for, of the layer and of the exchanges

abbrev con_in : L.Call → ℕ
con_in (L.Confirm to content word) = 1
con_in _ = 0

abbrev cons : List G.Asked → ℕ
cons [] = 0
cons (a ∷ earlier) = con_in a.call + cons earlier

abbrev weight : E.Call → ℕ
weight (E.Responds now a r word id) = 1
weight (E.Notifies now to token r word id) = 1
weight _ = 0

abbrev total : List E.Call → ℕ
total [] = 0
total (c ∷ cs) = weight c + total cs

cons_append : (xs ys : List G.Asked) → cons (xs ++ ys) ≡ cons xs + cons ys
cons_append [] ys = omega arith
cons_append (x ∷ xs) ys = let k = cons_append xs ys in omega (arith, k)

total_append : (xs ys : List E.Call) → total (xs ++ ys) ≡ total xs + total ys
total_append [] ys = omega arith
total_append (x ∷ xs) ys = let k = total_append xs ys in omega (arith, k)

begins_con : (at : ℕ) (call : L.Call) (answer : L.Answer) (a : Open) → begun_in at call answer ≡ Some a
    → con_in call ≡ 1
begins_con at (L.Confirm to content word) answer a h = refl
begins_con at _ answer a h = absurd (cc h)

begun_here : (s : S.State) (x : G.Asked) (a : Open) → begun (S.made s x.now x.call) ≡ Some a → con_in x.call ≡ 1
begun_here s x a h = begins_con (S.moment s x.now x.call) x.call (S.answer_of s (S.moment s x.now x.call) x.call) a h

abbrev Begins : Open → List L.Entry → Type 0
Begins a es = Ever (λ e. begun e ≡ Some a) es

some_con : (old : S.State) (calls : List G.Asked) (a : Open) → Begins a (entries old calls) → 1 ≤ cons calls
some_con old [] a h = absurd h
some_con old (x ∷ earlier) a (inl h) = let k = begun_here (left_after old earlier) x a h in omega (arith, k)
some_con old (x ∷ earlier) a (inr h) = let k = some_con old earlier a h in omega (arith, k)

one_of : (old : S.State) (calls : List G.Asked) (a b : Open) → cons calls ≤ 1 → Begins a (entries old calls)
    → Begins b (entries old calls) → a ≡ b
one_of old [] a b few p q = absurd p
one_of old (x ∷ earlier) a b few (inl p) (inl q) = let e : Some a ≡ Some b = sym p ∙ q in cc e
one_of old (x ∷ earlier) a b few (inl p) (inr q) = let k = begun_here (left_after old earlier) x a p in let l =
    some_con old earlier b q in absurd (omega (arith, k, l, few))
one_of old (x ∷ earlier) a b few (inr p) (inl q) = let k = begun_here (left_after old earlier) x b q in let l =
    some_con old earlier a p in absurd (omega (arith, k, l, few))
one_of old (x ∷ earlier) a b few (inr p) (inr q) = one_of old earlier a b (omega (arith, few)) p q

-- each call of the exchanges asks for as many

no_reply : (from : Endpoint) (id : ℕ) (o : Option (List ℕ)) → cons (replying from id o) ≡ 0
no_reply from id None = refl
no_reply from id (Some bytes) = refl

no_room : (at : ℕ) (o : Option Deferred) (room : Bool) → cons (P.asking_room at o room) ≡ 0
no_room at None room = refl
no_room at (Some d) room = refl

no_deferring : (b : Bool) (a : Asked) → cons (P.deferring b a) ≡ 0
no_deferring true a = refl
no_deferring false a = refl

no_answer : (s : E.Own) (kind : Kind) (a : Asked) (r : E.Response) → con_in (P.answering s kind a r) ≡ 0
no_answer s Con a r = refl
no_answer s _ a r = refl

weighs : (s : E.Own) (c : E.Call) → cons (P.lower s c) ≡ weight c
weighs s (E.Incoming at from bytes up came) = let k =
    cons_append (replying from (id_in up) (P.reject_by up)) (asked at (L.Receive from bytes) up ∷ []) in let z =
    no_reply from (id_in up) (P.reject_by up) in omega (arith, k, z)
weighs s (E.Answers a r below) = let z = no_answer s a.kind a r in omega (arith, z)
weighs s (E.Defers at a delay answer) = let k =
    cons_append (P.deferring (P.may_defer s.deferred) a) (asked at L.Pass L.Nothing ∷ []) in let z =
    no_deferring (P.may_defer s.deferred) a in omega (arith, k, z)
weighs s (E.Ticks at below room d) =
    let o : Option Deferred = P.ready_if below (P.ready_at s at) in
    let k = cons_append (P.asking_room at o room) (asked at L.Ticks below ∷ []) in let z =
    no_room at o room in omega (arith, k, z)
weighs s _ = refl

all_weigh : (past later : List E.Call) → cons (asked_by_server past later) ≡ total later
all_weigh past [] = refl
all_weigh past (c ∷ later) =
    let k = cons_append (P.lower (W.own_of (later ++ past)) c) (asked_by_server past later) in
    let z = weighs (W.own_of (later ++ past)) c in
    let y = all_weigh past later in
    omega (arith, k, z, y)

-- each call of the server asks for one at most

no_deferral : (o : Option ℕ) (place : Bool) (at : ℕ) (a : Asked) → total (deferral_by o place at a) ≡ 0
no_deferral None place at a = refl
no_deferral (Some d) place at a = refl

no_deferred : (s : Own) (a : Asked) (q : Question) → total (deferral s a q) ≡ 0
no_deferred s a q = no_deferral (delay_for a.kind q.path s.delays) (P.may_defer s.exchanges.deferred) s.clock a

no_readies : (at n : ℕ) (os : List Observer) → total (readies at n os) ≡ 0
no_readies at n [] = refl
no_readies at zero (o ∷ os) = refl
no_readies at (suc n) (o ∷ os) = let k = total_append (readies at n os) (E.Ready at o.to false ∷ []) in let z =
    no_readies at n os in omega (arith, k, z)

few_answers : (s : Own) (came : Option (Asked × Message)) (h : Handling) (below : L.Answer)
    → total (answering s came h below) ≤ 1
few_answers s (Some p) (Serves q reply left) below = let z = no_deferred s p.0 q in omega (arith, z)
few_answers s (Some p) (Waits q d) below = let z = no_deferred s p.0 q in omega (arith, z)
few_answers s _ _ below = omega arith

few_notices : (plain : Bool) (at : ℕ) (o : Observer) (r : E.Response) (word id : ℕ)
    → weight (notifies_by plain at o r word id) ≤ 1
few_notices true at o r word id = omega arith
few_notices false at o r word id = omega arith

few_responses : (s : Own) (d : Due) (passed : ℕ) (h : Handling) (word id : ℕ)
    → total (responding s d passed h word id) ≤ 1
few_responses s (due.Ready a) passed (Serves q reply left) word id = omega arith
few_responses s due.Idle passed (Notifies o reply) word id =
    let z = no_readies s.clock passed (marked s.observers) in
    let one = few_notices (by_plain s o) s.clock o (notification s.store o reply) word id in
    omega (arith, z, one)
few_responses s due.Idle passed _ word id = let z = no_readies s.clock passed (marked s.observers) in omega (arith, z)
few_responses s _ passed _ word id = omega arith

few : (s : Own) (c : Call) → total (lower s c) ≤ 1
few s (Feeds now from bytes word up came h below) =
    let first : E.Call = incoming s now from bytes up came in
    let cs : List E.Call = answering (heard s now first) came h below in
    let k = total_append cs (first ∷ []) in let z = few_answers (heard s now first) came h below in omega (arith, k, z)
few s (Refuses now from bytes word code up p None below) = omega arith
few s (Refuses now from bytes word code up p (Some n) below) = omega arith
few s (Ticks now word below room d passed h id answer) =
    let first : E.Call = ticking s now below room d in
    let cs : List E.Call = responding (heard s now first) d passed h word id in
    let k = total_append cs (first ∷ []) in let z =
    few_responses (heard s now first) d passed h word id in omega (arith, k, z)
few s _ = omega arith

pub one_con : (limits : Limits) (szx : ℕ) (setup : Setup) (past : List Call) (c : Call) (a b : Open)
    → Begins a (call_adds limits szx setup past c) → Begins b (call_adds limits szx setup past c) → a ≡ b
one_con limits szx setup past c a b p q =
    let calls : List E.Call = lower (own_of limits szx past) c in
    let w = all_weigh (lower_of limits szx past) calls in
    let f = few (own_of limits szx past) c in
    one_of (left_after (S.start setup) (all_asked limits szx past)) (call_asks limits szx past c) a b
    (omega (arith, w, f)) p q
