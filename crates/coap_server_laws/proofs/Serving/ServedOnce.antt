-- Each request that is handed up is served at most once.
use Rattle.std.proofs.Common.{◌≡◌, ◌≤◌, ◌<◌, ℕ, zero, suc, ◌+◌, Bool, false, Option, Some, None, List, [], ◌∷◌, ◌++◌}
use Rattle.std.proofs.Common.{refl, ap, ◌∙◌, arith}
use Rattle.coap_types.proofs.Facts.Traces.{Always_back}
use Rattle.coap_types.specs.declared.endpoint.Endpoint.{Endpoint}
use Rattle.coap_codec.specs.Message.{Message}
use Rattle.coap_layer.specs.Trace as L
use Rattle.coap_exchange.specs.declared.answerer.Asked.{Asked}
use Rattle.coap_exchange.specs.declared.answerer.Due.{Due}
use Rattle.coap_exchange.specs.declared.answerer.Due.TheVariants as due
use Rattle.coap_exchange.specs.AnswererTrace as E
use Rattle.coap_exchange.specs.AnswererFollows as F
use Rattle.coap_exchange.specs.AnswererFollows.{hits, same_asked}
use Rattle.coap_exchange.specs.AnswererSteps.{asked_in}
use Rattle.coap_server.specs.Trace.{Own, Handling, Replies, Serves, Waits, Notifies, Call}
use Rattle.coap_server.specs.Refusing.{refusing}
use Rattle.coap_server.specs.Trace.{Feeds, Refuses, Ticks}
use Rattle.coap_observe.specs.Observers.{Observer}
use Rattle.coap_resource.specs.Serves.{Question}
use Rattle.coap_resource.specs.Limits.{Limits}
use Rattle.coap_server.specs.Deferring.{deferral, deferral_by, delay_for}
use Rattle.coap_server.specs.Notifying.{marked, notification, readies}
use Rattle.coap_server.specs.Handling.{incoming, ticking, heard}
use Rattle.coap_server.specs.Asks.{lower, answering, responding}
use Rattle.coap_exchange.specs.AnswererSteps.{may_defer}
use Rattle.coap_server.specs.Law.{own_of, lower_of}
use Rattle.coap_server.specs.Follows.Serves.{Serving, serving, serving_of, asked_of, times_handed}
use Rattle.coap_server.specs.Follows.Serves.{times_served, ServedOnce}
use Rattle.coap_server.specs.Plain.{by_plain}
use Rattle.coap_server.proofs.Facts.Exact.Asked.{joined}
use Rattle.coap_server.proofs.Facts.Calls.NotifiesBy.{in_either}

abbrev pub H : Asked → List E.Call → ℕ
H a calls = F.times_handed a calls

abbrev A : Asked → List E.Call → ℕ
A a calls = F.times_answered a calls

-- what is asked beside responses
deferral_handed : (b : Asked) (a : Asked) (o : Option ℕ) (place : Bool) (at : ℕ) (rest : List E.Call)
    → (H b (deferral_by o place at a ++ rest) ≡ H b rest) × (A b (deferral_by o place at a ++ rest) ≡ A b rest)
deferral_handed b a None place at rest = (refl, refl)
deferral_handed b a (Some d) place at rest = (omega arith, omega arith)

readies_handed : (b : Asked) (at n : ℕ) (os : List Observer) (rest : List E.Call)
    → (H b (readies at n os ++ rest) ≡ H b rest) × (A b (readies at n os ++ rest) ≡ A b rest)
readies_handed b at n [] rest = (refl, refl)
readies_handed b at zero (o ∷ os) rest = (omega arith, omega arith)
readies_handed b at (suc n) (o ∷ os) rest =
    let ready : E.Call = E.Ready at o.to false in
    let k = readies_handed b at n os (ready ∷ rest) in
    let f = joined (readies at n os) ready rest in (
      ap (H b) f ∙ (k.0 ∙ (let e : H b (ready ∷ rest) ≡ H b rest = omega arith in e)),
      ap (A b) f ∙ (k.1 ∙ (let e : A b (ready ∷ rest) ≡ A b rest = omega arith in e)),
    )

module _ (b : Asked) (s : Own) where
  deferred_handed : (a : Asked) (q : Question) (rest : List E.Call)
      → (H b (deferral s a q ++ rest) ≡ H b rest) × (A b (deferral s a q ++ rest) ≡ A b rest)
  deferred_handed a q rest = deferral_handed b a (delay_for a.kind q.path s.delays)
      (may_defer s.exchanges.deferred) s.clock rest

-- the calls beneath one call: a response, where there is one, and what came
answering_handed : (a : Asked) (s : Own) (came : Option (Asked × Message)) (h : Handling) (below : L.Answer)
    (rest : List E.Call) → H a (answering s came h below ++ rest) ≡ H a rest
answering_handed a s (Some p) (Replies r) below rest = omega arith
answering_handed a s (Some p) (Serves q reply left) below rest = let k =
    (deferred_handed a s p.0 q rest).0 in omega (arith, k)
answering_handed a s (Some p) (Waits q d) below rest = (deferred_handed a s p.0 q rest).0
answering_handed a s _ _ below rest = refl

refusing_handed : (a b : Asked) (response : Option ℕ) (below : L.Answer) (rest : List E.Call)
    → H a (refusing b response below ++ rest) ≡ H a rest
refusing_handed a b None below rest = refl
refusing_handed a b (Some code) below rest = omega arith

refusing_served : (a b : Asked) (response : Option ℕ) (below : L.Answer) (rest : List E.Call)
    → A a rest ≤ A a (refusing b response below ++ rest)
refusing_served a b None below rest = omega arith
refusing_served a b (Some code) below rest = omega arith

responding_handed : (a : Asked) (s : Own) (d : Due) (passed : ℕ) (h : Handling) (word id : ℕ) (rest : List E.Call)
    → H a (responding s d passed h word id ++ rest) ≡ H a rest
responding_handed a s due.Idle passed (Notifies o reply) word id rest =
    let k = (readies_handed a s.clock passed (marked s.observers) rest).0 in
    let none = in_either (λ c. H a (c ∷ []) ≡ 0) (by_plain s o) s.clock o (notification s.store o reply) word id refl
    refl
    in omega (arith, k, none)
responding_handed a s (due.Ready b) passed (Serves q reply left) word id rest = omega arith
responding_handed a s due.Idle passed _ word id rest = (readies_handed a s.clock passed (marked s.observers) rest).0
responding_handed a s _ passed _ word id rest = refl

-- a serving is a response
answering_served : (a : Asked) (s : Own) (now : ℕ) (from : Endpoint) (bytes : List ℕ) (word : ℕ) (up : L.Answer)
    (came : Option (Asked × Message)) (h : Handling) (below : L.Answer) (rest : List E.Call)
    → hits (same_asked a) (asked_of (serving s (Feeds now from bytes word up came h below))) + A a rest ≤ A a
    (answering (heard s now (incoming s now from bytes up came)) came h below ++ rest)
answering_served a s now from bytes word up (Some p) (Serves q reply left) below rest = let k =
    (deferred_handed a (heard s now (incoming s now from bytes up (Some p))) p.0 q rest).1 in omega (arith, k)
answering_served a s now from bytes word up (Some p) (Waits q d) below rest = let k =
    (deferred_handed a (heard s now (incoming s now from bytes up (Some p))) p.0 q rest).1 in omega (arith, k)
answering_served a s now from bytes word up _ _ below rest = omega arith

responding_served : (a : Asked) (s : Own) (now word : ℕ) (below : L.Answer) (room : Bool) (d : Due) (passed : ℕ)
    (h : Handling) (id : ℕ) (answer : Bool) (rest : List E.Call)
    → hits (same_asked a) (asked_of (serving s (Ticks now word below room d passed h id answer))) + A a rest ≤ A a
    (responding (heard s now (ticking s now below room d)) d passed h word id ++ rest)
responding_served a s now word below room due.Idle passed (Notifies x reply) id answer rest =
    let o = heard s now (ticking s now below room due.Idle) in
    let k = (readies_handed a o.clock passed (marked o.observers) rest).1 in
    omega (arith, k)
responding_served a s now word below room (due.Ready b) passed (Serves q reply left) id answer rest = omega arith
responding_served a s now word below room due.Idle passed _ id answer rest =
    let o = heard s now (ticking s now below room due.Idle) in
    let k = (readies_handed a o.clock passed (marked o.observers) rest).1 in
    omega (arith, k)
responding_served a s now word below room _ passed _ id answer rest = omega arith

module _ (limits : Limits) (szx : ℕ) where
  pub handed_is : (a : Asked) (t : List Call) → H a (lower_of limits szx t) ≡ times_handed limits szx a t
  handed_is a [] = refl
  handed_is a (Feeds now from bytes word up came h below ∷ t) =
      let s : Own = own_of limits szx t in
      let first : E.Call = incoming s now from bytes up came in
      let k = handed_is a t in
      ap (H a) (joined (answering (heard s now first) came h below) first (lower_of limits szx t))
      ∙ (answering_handed a (heard s now first) came h below (first ∷ lower_of limits szx t)
      ∙ ap (λ n. hits (same_asked a) (asked_in came) + n) k)
  handed_is a (Refuses now from bytes word code up p response below ∷ t) =
      let first : E.Call = incoming (own_of limits szx t) now from bytes up (Some p) in
      ap (H a) (joined (refusing p.0 response below) first (lower_of limits szx t))
      ∙ (refusing_handed a p.0 response below (first ∷ lower_of limits szx t)
      ∙ ap (λ n. hits (same_asked a) (Some p.0) + n) (handed_is a t))
  handed_is a (Ticks now word below room d passed h id answer ∷ t) =
      let s : Own = own_of limits szx t in
      let first : E.Call = ticking s now below room d in
      let k = handed_is a t in
      let e = responding_handed a (heard s now first) d passed h word id (first ∷ lower_of limits szx t) in
      ap (H a) (joined (responding (heard s now first) d passed h word id) first (lower_of limits szx t))
      ∙ (e ∙ (let z : 0 + H a (lower_of limits szx t) ≡ 0 + times_handed limits szx a t = ap (λ n. 0 + n) k in z))
  handed_is a (_ ∷ t) = let k = handed_is a t in omega (arith, k)

  served_at_most : (a : Asked) (t : List Call) → times_served limits szx a t ≤ A a (lower_of limits szx t)
  served_at_most a [] = omega arith
  served_at_most a (Feeds now from bytes word up came h below ∷ t) =
      let s : Own = own_of limits szx t in
      let first : E.Call = incoming s now from bytes up came in
      let k = served_at_most a t in
      let m = answering_served a s now from bytes word up came h below (first ∷ lower_of limits szx t) in
      let e : A a (lower_of limits szx (Feeds now from bytes word up came h below ∷ t))
      ≡ A a (answering (heard s now first) came h below ++ first ∷ lower_of limits szx t)
      = ap (A a) (joined (answering (heard s now first) came h below) first (lower_of limits szx t)) in
      omega (arith, k, m, e)
  served_at_most a (Refuses now from bytes word code up p response below ∷ t) =
      let first : E.Call = incoming (own_of limits szx t) now from bytes up (Some p) in
      let k = served_at_most a t in
      let m = refusing_served a p.0 response below (first ∷ lower_of limits szx t) in
      let e : A a (lower_of limits szx (Refuses now from bytes word code up p response below ∷ t))
      ≡ A a (refusing p.0 response below ++ first ∷ lower_of limits szx t)
      = ap (A a) (joined (refusing p.0 response below) first (lower_of limits szx t)) in
      omega (arith, k, m, e)
  served_at_most a (Ticks now word below room d passed h id answer ∷ t) =
      let s : Own = own_of limits szx t in
      let first : E.Call = ticking s now below room d in
      let k = served_at_most a t in
      let m = responding_served a s now word below room d passed h id answer (first ∷ lower_of limits szx t) in
      let e : A a (lower_of limits szx (Ticks now word below room d passed h id answer ∷ t))
      ≡ A a (responding (heard s now first) d passed h word id ++ first ∷ lower_of limits szx t)
      = ap (A a) (joined (responding (heard s now first) d passed h word id) first (lower_of limits szx t)) in
      omega (arith, k, m, e)
  served_at_most a (_ ∷ t) = let k = served_at_most a t in omega (arith, k)

  here : (t : List Call) (c : Call) → F.AreResponses (lower_of limits szx (c ∷ t)) → (x : Serving)
      → serving (own_of limits szx t) c ≡ Some x → times_served limits szx x.asked t < times_handed limits szx x.asked
      (c ∷ t)
  here t (Feeds now from bytes word up (Some p) (Serves q reply left) below) law x h =
      let same : p.0 ≡ x.asked = ap (λ (y : Serving). y.asked)
      (let e : ◌≡◌ {A = Serving} (serving_of (heard (own_of limits szx t) now
      (incoming (own_of limits szx t) now from bytes up (Some p))) p.0 q reply left) x = cc h in e) in
      let s : Own = own_of limits szx t in
      let it : Own = heard s now (incoming s now from bytes up (Some p)) in
      let first : E.Call = incoming s now from bytes up (Some p) in
      let older : List E.Call = lower_of limits szx t in
      let rest : List E.Call = (deferral it p.0 q ++ first ∷ []) ++ older in
      let f : A x.asked rest < H x.asked rest = law.0.first x.asked (ap (λ b. Some b) same) in
      let k = served_at_most x.asked t in
      let e = handed_is x.asked (Feeds now from bytes word up (Some p) (Serves q reply left) below ∷ t) in
      let m = (deferred_handed x.asked it p.0 q (first ∷ older)).1 in
      let g = ap (A x.asked) (joined (deferral it p.0 q) first older) in
      let n : A x.asked rest ≡ A x.asked older = g
      ∙ (m ∙ (let z : A x.asked (first ∷ older) ≡ A x.asked older = omega arith in z)) in
      let o : H x.asked rest ≡ H x.asked (lower_of limits szx
      (Feeds now from bytes word up (Some p) (Serves q reply left) below ∷ t)) = omega arith in
      omega (arith, f, k, e, n, o)
  here t (Ticks now word below room (due.Ready a) passed (Serves q reply left) id answer) law x h =
      let same : a ≡ x.asked = ap (λ (y : Serving). y.asked)
      (let e : ◌≡◌ {A = Serving} (serving_of (heard (own_of limits szx t) now
      (ticking (own_of limits szx t) now below room (due.Ready a))) a q reply left) x = cc h in e) in
      let f = law.0.first x.asked (ap (λ b. Some b) same) in
      let k = served_at_most x.asked t in
      let e = handed_is x.asked t in
      omega (arith, f, k, e)
  here t _ law x e = absurd (cc e)

  pub served_once : (t : List Call) → F.AreResponses (lower_of limits szx t) → ServedOnce limits szx t
  served_once [] law = tt
  served_once (c ∷ t) law = (
    here t c law,
    served_once t
        (Always_back _ (lower (own_of limits szx t) c) (lower_of limits szx t) law),
  )
