-- What a call of a client sends is what it asks of its exchanges, and the other way round.
use Rattle.std.proofs.Common.{◌≡◌, inl, inr, ℕ, max, Bool, true, Option, Some, None, List, [], ◌∷◌, ◌++◌, refl, ap, sym}
use Rattle.std.proofs.Common.{subst, ◌∙◌, Result, Ok, Err}
use Rattle.coap_types.specs.Past.{Ever}
use Rattle.coap_types.proofs.Facts.Traces.{Ever_append}
use Rattle.coap_layer.specs.Trace as L
use Rattle.coap_exchange.specs.declared.asker.AskRefusal.{AskRefusal}
use Rattle.coap_exchange.specs.AskerTrace as E
use Rattle.coap_client.specs.Trace.{Call, Forgets, Feeds, Ticks, NextOut}
use Rattle.coap_client.specs.Own.{Operation, Observation, Own}
use Rattle.coap_client.specs.Observations.{observation_of}
use Rattle.coap_client.specs.Requests.{message_of}
use Rattle.coap_client.specs.Effects.{Deed, Rests, Asks, Keeps, Releases, Effect}
use Rattle.coap_client.specs.Observing.{releases}
use Rattle.coap_client.specs.Events.{happened, passes, closed}
use Rattle.coap_client.specs.Deeds.{at, deeds}
use Rattle.coap_client.specs.Steps.{lower}
use Rattle.coap_client.specs.Sendings.{Sending, sends, sent_by}

-- a request that is asked, under this token
pub record AsksFor (r : E.Request) (token : List ℕ) (b : E.Call) : Type 0 where
  pub now : ℕ
  pub word : ℕ
  pub below : L.Answer
  pub is : b ≡ E.Ask now r word below (Ok token)

-- an input asks for none
abbrev IsInput : E.Call → Type 0
IsInput b = (r : E.Request) (token : List ℕ) → AsksFor r token b → ⊥

module _ (r : E.Request) (token : List ℕ) where
  no_release : (o : Option Observation) (s : Own) (now w : ℕ) (sent : L.Answer) (t : Result (List ℕ) AskRefusal)
      (kept : Bool) → Ever (AsksFor r token) (deeds (releases o) s now w sent t kept) → ⊥
  no_release None s now w sent t kept h = h
  no_release (Some o) s now w sent t kept (inl h) = cc (h.is)
  no_release (Some o) s now w sent t kept (inr h) = h

  no_refused : (d : Deed) (s : Own) (now w : ℕ) (sent : L.Answer) (why : AskRefusal) (kept : Bool)
      → Ever (AsksFor r token) (deeds d s now w sent (Err why) kept) → ⊥
  no_refused Rests s now w sent why kept h = h
  no_refused (Asks op) s now w sent why kept (inr h) = h
  no_refused (Keeps t) s now w sent why kept (inr h) = h
  no_refused (Releases t) s now w sent why kept (inr h) = h
  no_refused _ s now w sent why kept (inl h) = cc (h.is)

-- what an effect sends
pub record SendsAs (e : Effect) (t : Result (List ℕ) AskRefusal) (r : E.Request) (token : List ℕ) : Type 0 where
  pub operation : Operation
  pub deed : e.deed ≡ Asks operation
  pub given : t ≡ Ok token
  pub request : r ≡ message_of e.own.observations operation

abbrev asked_behind : Effect → (m w : ℕ) → L.Answer → Bool → E.Call → Deed → Result (List ℕ) AskRefusal → List E.Call
asked_behind e m w sent kept input d t = deeds (closed m e d t).deed (closed m e d t).own m w sent t kept
    ++ (deeds d e.own m w sent t kept ++ input ∷ [])

module _ (e : Effect) (m w : ℕ) (sent : L.Answer) (kept : Bool) (input : E.Call) (is_input : IsInput input)
    (r : E.Request) (token : List ℕ) where
  no_input : Ever (AsksFor r token) (input ∷ []) → ⊥
  no_input (inl h) = is_input r token h
  no_input (inr h) = h

  quiet_here : (d : Deed) (t : Result (List ℕ) AskRefusal) → d ≡ Rests
      → Ever (AsksFor r token) (deeds d e.own m w sent t kept) → ⊥
  quiet_here d t is h = subst (λ z. Ever (AsksFor r token) (deeds z e.own m w sent t kept)) is h

  pub sent_as : (t : Result (List ℕ) AskRefusal) (d : Deed) → e.deed ≡ d
      → Ever (AsksFor r token) (asked_behind e m w sent kept input d t) → SendsAs e t r token
  sent_as t Rests is h = absurd (elim (Ever_append (AsksFor r token) (deeds e.deed e.own m w sent t kept)
      (input ∷ []) h) [ inl p ↦ quiet_here e.deed t is p | inr q ↦ no_input q ])
  sent_as t (Keeps k) is (inr h) = absurd (no_input h)
  sent_as t (Releases k) is (inr h) = absurd (no_input h)
  sent_as (Ok k) (Asks op) is (inl h) =
      let same : message_of e.own.observations op ≡ r = cc (h.is) in
      let key : k ≡ token = cc (h.is) in
      record { operation = op; deed = is; given = ap (λ z. Ok z) key; request = sym same }
  sent_as (Ok k) (Asks op) is (inr h) = absurd (no_input h)
  sent_as (Err why) (Asks op) is h =
      let c = closed m e (Asks op) (Err why) in
      absurd (elim (Ever_append (AsksFor r token) (deeds c.deed c.own m w sent (Err why) kept)
      (deeds (Asks op) e.own m w sent (Err why) kept ++ input ∷ []) h) [
        | inl p ↦ no_refused r token c.deed c.own m w sent why kept p
        | inr q ↦ elim (Ever_append (AsksFor r token) (deeds (Asks op) e.own m w sent (Err why) kept) (input ∷ []) q) [
          | inl x ↦ no_refused r token (Asks op) e.own m w sent why kept x
          | inr y ↦ no_input y
        ]
      ])
  sent_as t _ is (inl h) = absurd (cc (h.is))

sending_of : (e : Effect) (t : Result (List ℕ) AskRefusal) (r : E.Request) (token : List ℕ) (k : SendsAs e t r token)
    → sent_by e e.deed t ≡ Some (record { operation = k.operation; token = token; request = r })
sending_of e t r token k =
    ap (λ d. sent_by e d t) k.deed ∙ (ap (sent_by e (Asks k.operation)) k.given
    ∙ ap (λ q. Some (record { operation = k.operation; token = token; request = q })) (sym k.request))

-- What is asked for is sent.
pub record IsSent (s : Own) (c : Call) (r : E.Request) (token : List ℕ) : Type 0 where
  pub sending : Sending
  pub sends_it : sends s c ≡ Some sending
  pub request : sending.request ≡ r
  pub token_is : sending.token ≡ token

asked_is_sent : (s : Own) (c : Call) (e : Effect) (t : Result (List ℕ) AskRefusal) (r : E.Request) (token : List ℕ)
    → sends s c ≡ sent_by e e.deed t → SendsAs e t r token → IsSent s c r token
asked_is_sent s c e t r token is k = record {
  sending = record { operation = k.operation; token = token; request = r };
  sends_it = is ∙ sending_of e t r token k;
  request = refl;
  token_is = refl;
}

pub sent_if_asked : (s : Own) (c : Call) (r : E.Request) (token : List ℕ) → Ever (AsksFor r token) (lower s c)
    → IsSent s c r token
sent_if_asked s (Forgets number kept true) r token h =
    absurd (no_release r token (observation_of number s.observations) s 0 0 L.Nothing (Ok []) kept h)
sent_if_asked s (Feeds now from bytes w up settled event sent t kept) r token h =
    let m : ℕ = max s.clock now in
    let e : Effect = happened (at now s) m event in
    asked_is_sent s (Feeds now from bytes w up settled event sent t kept) e t r token refl
    (sent_as e m w sent kept (E.Receive m from bytes up settled event) (λ q k z. cc (z.is)) r token t e.deed refl h)
sent_if_asked s (Ticks now w below turn sent t kept answer) r token h =
    let m : ℕ = max s.clock now in
    let e : Effect = passes (at now s) m turn in
    asked_is_sent s (Ticks now w below turn sent t kept answer) e t r token refl
    (sent_as e m w sent kept (E.Ticks m below turn) (λ q k z. cc (z.is)) r token t e.deed refl h)
sent_if_asked s (NextOut answer) r token (inl h) = absurd (cc (h.is))
sent_if_asked s (NextOut answer) r token (inr h) = absurd h
sent_if_asked s _ r token h = absurd h

-- .. and the other way round
asked_by_effect : (e : Effect) (m w : ℕ) (sent : L.Answer) (kept : Bool) (input : E.Call) (x : Sending) (d : Deed)
    (t : Result (List ℕ) AskRefusal) → sent_by e d t ≡ Some x
    → Ever (AsksFor x.request x.token) (asked_behind e m w sent kept input d t)
asked_by_effect e m w sent kept input x (Asks op) (Ok k) h =
    let same : ◌≡◌ {A = Sending} (record { operation = op; token = k; request = message_of e.own.observations op }) x =
    cc h in
    inl (record {
      now = m;
      word = w;
      below = sent;
      is = ap (λ (z : Sending). E.Ask m z.request w sent (Ok z.token)) same;
    })
asked_by_effect e m w sent kept input x _ _ h = absurd (cc h)

pub asked_if_sent : (s : Own) (c : Call) (x : Sending) → sends s c ≡ Some x
    → Ever (AsksFor x.request x.token) (lower s c)
asked_if_sent s (Feeds now from bytes w up settled event sent t kept) x h =
    let m : ℕ = max s.clock now in
    let e : Effect = happened (at now s) m event in
    asked_by_effect e m w sent kept (E.Receive m from bytes up settled event) x e.deed t h
asked_if_sent s (Ticks now w below turn sent t kept answer) x h =
    let m : ℕ = max s.clock now in
    let e : Effect = passes (at now s) m turn in
    asked_by_effect e m w sent kept (E.Ticks m below turn) x e.deed t h
asked_if_sent s _ x h = absurd (cc h)
