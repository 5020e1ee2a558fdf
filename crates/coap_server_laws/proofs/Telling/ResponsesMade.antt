-- A response that a server sends was made in that call: by the store, by the checks, or to a block that is taken.
use Rattle.std.proofs.Common.{◌≡◌, inl, inr, ℕ, zero, suc, Bool, false, Option, Some, None, List, [], ◌∷◌}
use Rattle.std.proofs.Common.{◌++◌, length, refl, ap, sym, subst, ◌∙◌}
use Rattle.coap_types.specs.Past.{Ever}
use Rattle.coap_types.proofs.Facts.Traces.{Ever_append}
use Rattle.coap_types.specs.declared.endpoint.Endpoint.{Endpoint}
use Rattle.coap_codec.specs.Message.{Message}
use Rattle.coap_layer.specs.Trace as L
use Rattle.coap_layer.specs.declared.setup.Setup.{Setup}
use Rattle.coap_block.specs.AssemblyState.{AssemblyState, reached, without_key}
use Rattle.coap_block.specs.AssemblyStep.{there_at}
use Rattle.coap_observe.specs.Observers.{Observer}
use Rattle.coap_resource.specs.Serves.{Question}
use Rattle.coap_resource.specs.Limits.{Limits}
use Rattle.coap_exchange.specs.declared.answerer.Asked.{Asked}
use Rattle.coap_exchange.specs.declared.answerer.Due.{Due}
use Rattle.coap_exchange.specs.declared.answerer.Due.TheVariants as due
use Rattle.coap_exchange.specs.AnswererFollows.{responds}
use Rattle.coap_exchange.specs.AnswererSteps.{may_defer}
use Rattle.coap_exchange.specs.AnswererTrace as E
use Rattle.coap_server.specs.Trace.{Own, Handling, Replies, Serves, Waits, Notifies, Call}
use Rattle.coap_server.specs.Responses.{bare}
use Rattle.coap_server.specs.Trace.{Feeds, Refuses, Ticks, NextOut}
use Rattle.coap_server.specs.Asks.{lower}
use Rattle.coap_server.specs.Checks.{verdict_on}
use Rattle.coap_server.specs.Uploads.{key_of}
use Rattle.coap_server.specs.Deferring.{deferral, deferral_by, delay_for}
use Rattle.coap_server.specs.Notifying.{marked, readies}
use Rattle.coap_server.specs.Handling.{incoming, ticking, heard}
use Rattle.coap_server.specs.Law.{ServerLaw, own_of}
use Rattle.coap_server.specs.Follows.Serves.{Serving, serving, serving_of}
use Rattle.coap_server.specs.Follows.Takes.{took, took_by, taken_by}
use Rattle.coap_server_laws.specs.Follows.Gives.{size_by, size_of}
use Rattle.coap_server_laws.specs.Follows.GoesOut.{responds_with, response_of, IsMade}
use Rattle.coap_server_laws.proofs.Serving.ServedWasHandedUp.{joins_more}
use Rattle.coap_server_laws.proofs.Replying.ResponsesHaveRequests.{replies}
use Rattle.coap_server.specs.Plain.{by_plain}
use Rattle.coap_server.proofs.Facts.Calls.NotifiesBy.{in_either}
use Rattle.coap_server.specs.Notifying.{notification}
use Rattle.coap_server.specs.Trace.{Forgets}

abbrev SendsIn : Asked → E.Response → List E.Call → Type 0
SendsIn a r cs = Ever (λ b. responds_with b ≡ Some (a, r)) cs

-- what is answered is sent a response

response_in : (a : Asked) (d : E.Call) → responds d ≡ Some a → (r : E.Response) × (responds_with d ≡ Some (a, r))
response_in a (E.Answers x r below) h =
    let same : x ≡ a = cc h in (r, ap (λ (y : Asked). Some (y, r)) same)
response_in a (E.Responds now x r w id) h =
    let same : x ≡ a = cc h in (r, ap (λ (y : Asked). Some (y, r)) same)
response_in a _ h = absurd (cc h)

pub answer_sent : (a : Asked) (cs : List E.Call) → Ever (λ b. responds b ≡ Some a) cs
    → (r : E.Response) × Ever (λ b. responds_with b ≡ Some (a, r)) cs
answer_sent a [] h = absurd h
answer_sent a (d ∷ cs) (inl h) = let k = response_in a d h in (k.0, inl k.1)
answer_sent a (d ∷ cs) (inr h) = let k = answer_sent a cs h in (k.0, inr k.1)

-- and to what is served it is what the store replied

of_it : (s : Own) (c : Call) (x y : Serving) → Some x ≡ Some y → SendsIn x.asked (response_of x) (lower s c)
    → SendsIn y.asked (response_of y) (lower s c)
of_it s c x y h k =
    let same : x ≡ y = cc h in subst (λ (z : Serving). SendsIn z.asked (response_of z) (lower s c)) same k

pub served_sent : (s : Own) (c : Call) (x : Serving) → serving s c ≡ Some x
    → Ever (λ b. responds_with b ≡ Some (x.asked, response_of x)) (lower s c)
served_sent s (Feeds now from bytes word up (Some p) (Serves q reply left) below) x h =
    let w : Own = heard s now (incoming s now from bytes up (Some p)) in
    of_it s (Feeds now from bytes word up (Some p) (Serves q reply left) below) (serving_of w p.0 q reply left) x h
    (inl refl)
served_sent s (Ticks now word below room (due.Ready a) passed (Serves q reply left) id answer) x h =
    let w : Own = heard s now (ticking s now below room (due.Ready a)) in
    of_it s (Ticks now word below room (due.Ready a) passed (Serves q reply left) id answer)
    (serving_of w a q reply left) x h (inl refl)
served_sent s _ x e = absurd (cc e)

-- what is sent was made

pub pair_of : (x a : Asked) (y r : E.Response) → ◌≡◌ {A = Option (Asked × E.Response)} (Some (x, y)) (Some (a, r))
    → (x ≡ a) × (y ≡ r)
pair_of x a y r h =
    let p : ◌≡◌ {A = Asked × E.Response} (x, y) (a, r) = cc h in
    (ap (λ (q : Asked × E.Response). q.0) p, ap (λ (q : Asked × E.Response). q.1) p)

module _ (a : Asked) (r : E.Response) where
  abbrev In : List E.Call → Type 0
  In cs = SendsIn a r cs

  pub last_none : (first : E.Call) → (responds_with first ≡ Some (a, r) → ⊥) → In (first ∷ []) → ⊥
  last_none first n (inl k) = n k
  last_none first n (inr k) = k

  deferred_none : (o : Option ℕ) (place : Bool) (at : ℕ) (b : Asked) (cs : List E.Call) → (In cs → ⊥)
      → In (deferral_by o place at b ++ cs) → ⊥
  deferred_none None place at b cs n k = n k
  deferred_none (Some d) place at b cs n (inl k) = cc k
  deferred_none (Some d) place at b cs n (inr k) = n k

  deferral_none : (s : Own) (b : Asked) (q : Question) (cs : List E.Call) → (In cs → ⊥) → In (deferral s b q ++ cs) → ⊥
  deferral_none s b q cs n h = deferred_none (delay_for b.kind q.path s.delays)
      (may_defer s.exchanges.deferred) s.clock b cs n h

  readies_none : (at n : ℕ) (os : List Observer) → In (readies at n os) → ⊥
  readies_none at n [] h = h
  readies_none at zero (o ∷ os) (inl k) = cc k
  readies_none at zero (o ∷ os) (inr k) = k
  readies_none at (suc n) (o ∷ os) h =
      elim (Ever_append (λ b. responds_with b ≡ Some (a, r)) (readies at n os) (E.Ready at o.to false ∷ []) h)
      [ inl k ↦ readies_none at n os k | inr k ↦ last_none (E.Ready at o.to false) (λ z. cc z) k ]

  idle_none : (at n : ℕ) (os : List Observer) (cs : List E.Call) → (In cs → ⊥) → In (readies at n os ++ cs) → ⊥
  idle_none at n os cs f h =
      elim (Ever_append (λ b. responds_with b ≡ Some (a, r)) (readies at n os) cs h)
      [ inl k ↦ readies_none at n os k | inr k ↦ f k ]

module _ (limits : Limits) (szx : ℕ) (setup : Setup) (t : List Call) (a : Asked) (r : E.Response) where
  abbrev own : Own
  own = own_of limits szx t

  abbrev Made : Call → Type 0
  Made c = IsMade limits szx t c a r

  came_none : (now : ℕ) (from : Endpoint) (bytes : List ℕ) (up : L.Answer) (came : Option (Asked × Message))
      → In a r (incoming own now from bytes up came ∷ []) → ⊥
  came_none now from bytes up came h = last_none a r (incoming own now from bytes up came) (λ z. cc z) h

  tick_none : (now : ℕ) (below : L.Answer) (room : Bool) (d : Due) → In a r (ticking own now below room d ∷ []) → ⊥
  tick_none now below room d h = last_none a r (ticking own now below room d) (λ z. cc z) h

  fed : (now : ℕ) (from : Endpoint) (bytes : List ℕ) (w : ℕ) (up : L.Answer) (came : Option (Asked × Message))
      (h : Handling) (below : L.Answer) → ServerLaw limits szx setup (Feeds now from bytes w up came h below ∷ t)
      → In a r (lower own (Feeds now from bytes w up came h below)) → Made (Feeds now from bytes w up came h below)
  fed now from bytes w up (Some p) (Waits q delay) below law k =
      absurd (deferral_none a r (heard own now (incoming own now from bytes up (Some p))) p.0 q
      (incoming own now from bytes up (Some p) ∷ []) (came_none now from bytes up (Some p)) k)
  fed now from bytes w up (Some p) (Serves q reply left) below law (inl k) =
      let x : Serving = serving_of (heard own now (incoming own now from bytes up (Some p))) p.0 q reply left in
      let same = pair_of p.0 a (response_of x) r k in
      inl (record { request = x; here = refl; asked = same.0; is = sym same.1 })
  fed now from bytes w up (Some p) (Serves q reply left) below law (inr k) =
      absurd (deferral_none a r (heard own now (incoming own now from bytes up (Some p))) p.0 q
      (incoming own now from bytes up (Some p) ∷ []) (came_none now from bytes up (Some p)) k)
  fed now from bytes w up (Some p) (Replies y) below law (inr k) = absurd (came_none now from bytes up (Some p) k)
  fed now from bytes w up (Some p) (Replies y) below law (inl k) =
      let same = pair_of p.0 a y r k in
      let s : Own = heard own now (incoming own now from bytes up (Some p)) in
      elim (replies (verdict_on s.szx p.1) s p.0 y law.rows.0) [
        | inl f ↦ inr (inr (record {
          code = f.code;
          handed = ap Some same.0;
          unserved = refl;
          refuses = f.refuses;
          is = sym same.1 ∙ f.is;
        }))
        | inr f ↦ (
            let u : AssemblyState = s.uploads in
            inr (inl (record {
              block = took p.0 f.question f.block;
              taken = ap (λ v. taken_by u s.clock p.0 v) f.verdict
                  ∙ ap (λ v. took_by v (took p.0 f.question f.block)) f.joins;
              asked = same.0;
              unserved = refl;
              more =
                  joins_more (record { szx = u.szx; limit = u.limit })
                  (reached (key_of p.0 f.question) (there_at u s.clock))
                  (length (without_key (key_of p.0 f.question) (there_at u s.clock))) f.block
                  (length f.question.body) f.size f.joins;
              size = f.size;
              asks = ap (λ v. size_of u s.clock p.0 v) f.verdict ∙ ap size_by f.joins;
              is = sym same.1 ∙ f.is;
            }))
            )
      ]
  fed now from bytes w up came _ below law k = absurd (came_none now from bytes up came k)

  ticked : (now w : ℕ) (below : L.Answer) (room : Bool) (d : Due) (passed : ℕ) (h : Handling) (id : ℕ) (answer : Bool)
      → In a r (lower own (Ticks now w below room d passed h id answer))
      → Made (Ticks now w below room d passed h id answer)
  ticked now w below room (due.Ready b) passed (Serves q reply left) id answer (inl k) =
      let x : Serving = serving_of (heard own now (ticking own now below room (due.Ready b))) b q reply left in
      let same = pair_of b a (response_of x) r k in
      inl (record { request = x; here = refl; asked = same.0; is = sym same.1 })
  ticked now w below room (due.Ready b) passed (Serves q reply left) id answer (inr k) =
      absurd (tick_none now below room (due.Ready b) k)
  ticked now w below room due.Idle passed (Notifies o reply) id answer (inl k) =
      let s : Own = heard own now (ticking own now below room due.Idle) in
      let none = in_either (λ c. responds_with c ≡ None) (by_plain s o) s.clock o (notification s.store o reply) w id
      refl
      refl in let z : None ≡ Some (a, r) = sym none ∙ k in absurd (cc z)
  ticked now w below room due.Idle passed (Notifies o reply) id answer (inr k) =
      let s : Own = heard own now (ticking own now below room due.Idle) in
      absurd (idle_none a r s.clock passed (marked s.observers) (ticking own now below room due.Idle ∷ [])
      (tick_none now below room due.Idle) k)
  ticked now w below room due.Idle passed _ id answer k = let s : Own = heard own now
      (ticking own now below room due.Idle) in absurd (idle_none a r s.clock passed (marked s.observers)
      (ticking own now below room due.Idle ∷ []) (tick_none now below room due.Idle) k)
  ticked now w below room d passed _ id answer k = absurd (tick_none now below room d k)

  here : (c : Call) → ServerLaw limits szx setup (c ∷ t) → In a r (lower own c) → Made c
  here (Feeds now from bytes w up came h below) law k = fed now from bytes w up came h below law k
  here (Refuses now from bytes w code up p None below) law k = absurd (came_none now from bytes up (Some p) k)
  here (Refuses now from bytes w code up p (Some n) below) law (inr k) = absurd (came_none now from bytes up (Some p) k)
  here (Refuses now from bytes w code up p (Some n) below) law (inl k) =
      let same = pair_of p.0 a (bare n) r k in
      inr (inr (record { code = n; handed = ap Some same.0; unserved = refl; refuses = refl; is = sym same.1 }))
  here (Ticks now w below room d passed h id answer) law k = ticked now w below room d passed h id answer k
  here (NextOut answer) law k = absurd (last_none a r (E.Take answer) (λ z. cc z) k)
  here (Forgets peer) law k = absurd (last_none a r (E.Forgets peer) (λ z. cc z) k)
  here _ law k = absurd k

pub made_here : (limits : Limits) (szx : ℕ) (setup : Setup) (t : List Call) (c : Call)
    → ServerLaw limits szx setup (c ∷ t)
    → (a : Asked) (r : E.Response) → Ever (λ b. responds_with b ≡ Some (a, r)) (lower (own_of limits szx t) c)
    → IsMade limits szx t c a r
made_here limits szx setup t c law a r k = here limits szx setup t a r c law k
