-- A CON of a server that is outstanding stays so until it is acknowledged, or until its end is told.
use Rattle.std.proofs.Common.{◌≡◌, ◌⊎◌, inl, inr, ℕ, ◌==◌, ◌&&◌, ◌||◌, not, Bool, true, false, Some, None, List, []}
use Rattle.std.proofs.Common.{◌∷◌, ◌++◌, refl, ap, sym, ◌∙◌, cond, option_map}
use Rattle.std.specs.Cmp.{unsigned_Decides}
use Rattle.coap_types.specs.declared.endpoint.Endpoint.{Endpoint}
use Rattle.coap_types.specs.SameEndpoint.{same_endpoint}
use Rattle.coap_types.proofs.Facts.Endpoints.{same_endpoint_is, same_endpoint-decides}
use Rattle.coap_layer.specs.Machine.State.{is_busy, sending}
use Rattle.coap_layer.specs.Trace as L
use Rattle.coap_block.specs.Whole.{Each}
use Rattle.coap_exchange.specs.declared.answerer.Asked.{Asked}
use Rattle.coap_exchange.specs.declared.answerer.Ended.{Ended}
use Rattle.coap_exchange.specs.declared.separate.Separate.{Separate}
use Rattle.coap_exchange.specs.AnswererTrace as E
use Rattle.coap_exchange.specs.AnswererSteps as P
use Rattle.coap_exchange.specs.AnswererSteps.{goes_to, found, ended_as, without_separate, separate_after}
use Rattle.coap_exchange.specs.AnswererSteps.{separate_unless, reset_by, failed_by, is_waited_for}
use Rattle.coap_exchange.specs.AnswererLaw as W
use Rattle.coap_exchange.specs.AnswererLaw.{ResponseLaw}
use Rattle.coap_exchange.proofs.Facts.ServerSide.{waits}
use Rattle.std.proofs.lemmas.Bool.{and_parts}
use Rattle.coap_layer.specs.declared.setup.Setup.{Setup}
use Rattle.coap_server.specs.Steps.{exchanges_after}

-- a CON begins where none to its endpoint is outstanding
sent_alone : (busy free : Bool) (n id : ℕ) → L.Sent id ≡ cond busy L.Busied (sending free n) → busy ≡ false
sent_alone true free n id h = absurd (cc h)
sent_alone false free n id h = refl

-- .. and where an endpoint is said to be ready, none is outstanding
room_alone : (busy free : Bool) → L.Is true ≡ L.Is (not busy && free) → busy ≡ false
room_alone true free h = absurd (cc h)
room_alone false free h = refl

pub ready_alone : (setup : Setup) (now : ℕ) (to : Endpoint) (calls : List E.Call)
    → ResponseLaw setup (E.Ready now to true ∷ calls) → is_waited_for to (W.own_of calls).separate ≡ false
ready_alone setup now to calls law =
    let steps = law.layer in
    waits setup calls (record { rows = law.rows.1; left = steps.0; layer = steps.1 }) to
    ∙ room_alone (is_busy to steps.0.open_cons) _ steps.2.right

pub alone_later : (setup : Setup) (now : ℕ) (a : Asked) (r : E.Response) (w id : ℕ) (calls : List E.Call)
    → ResponseLaw setup (E.Responds now a r w id ∷ calls) → is_waited_for a.from (W.own_of calls).separate ≡ false
alone_later setup now a r w id calls law =
    let steps = law.layer in
    waits setup calls (record { rows = law.rows.1; left = steps.0; layer = steps.1 }) a.from
    ∙ sent_alone (is_busy a.from steps.0.open_cons) _ _ id steps.2.right

module _ (to : Endpoint) (id : ℕ) (token : List ℕ) where
  abbrev pub is_this : Ended
  is_this = record { to = to; token = token; observe = true }

  pub record Flying (xs : List Separate) : Type 0 where
    pub one : Separate
    pub is : found to id xs ≡ Some one
    pub ends : ended_as one ≡ is_this

  -- two that one CON goes to
  same_con : (from : Endpoint) (n : ℕ) (x : Separate) → goes_to to id x ≡ true → goes_to from n x ≡ true
      → (from ≡ to) × (n ≡ id)
  same_con from n x p q =
      let a = and_parts (same_endpoint x.to to) (x.id.0 == id) p in
      let b = and_parts (same_endpoint x.to from) (x.id.0 == n) q in (
        sym (same_endpoint_is x.to from b.0) ∙ same_endpoint_is x.to to a.0,
        sym ((unsigned_Decides x.id.0 n).0 b.1) ∙ (unsigned_Decides x.id.0 id).0 a.1,
      )

  this_or : (from : Endpoint) (n : ℕ) → ((from ≡ to) × (n ≡ id)) ⊎ ((from ≡ to) × (n ≡ id) → ⊥)
  this_or from n = by (same_endpoint from to) (n == id) refl refl
    where
      by : (b c : Bool) → same_endpoint from to ≡ b → (n == id) ≡ c
          → ((from ≡ to) × (n ≡ id)) ⊎ ((from ≡ to) × (n ≡ id) → ⊥)
      by true true p q = inl (same_endpoint_is from to p, (unsigned_Decides n id).0 q)
      by true false p q = inr (λ k. let z = (unsigned_Decides n id).1 k.1 in cc (z, q))
      by false c p q = inr (λ k. let z = (same_endpoint-decides from to).1 k.0 in cc (z, p))

  others_found : (from : Endpoint) (n : ℕ) → ((from ≡ to) × (n ≡ id) → ⊥) → (xs : List Separate)
      → found to id (without_separate from n xs) ≡ found to id xs
  others_found from n other [] = refl
  others_found from n other (x ∷ xs) = by (goes_to from n x) (goes_to to id x) refl refl (others_found from n other xs)
    where
      by : (b c : Bool) → goes_to from n x ≡ b → goes_to to id x ≡ c
          → found to id (without_separate from n xs) ≡ found to id xs
          → found to id (cond (not b) (x ∷ without_separate from n xs) (without_separate from n xs))
          ≡ cond c (Some x) (found to id xs)
      by true true p q e = absurd (other (same_con from n x q p))
      by true false p q e = e
      by false true p q e = ap (λ z. cond z (Some x) (found to id (without_separate from n xs))) q
      by false false p q e = ap (λ z. cond z (Some x) (found to id (without_separate from n xs))) q ∙ e

  left_flying : (from : Endpoint) (n : ℕ) → ((from ≡ to) × (n ≡ id) → ⊥) → (xs : List Separate) → Flying xs
      → Flying (without_separate from n xs)
  left_flying from n other xs f = record { one = f.one; is = others_found from n other xs ∙ f.is; ends = f.ends }

  -- its end is told
  ended_here : (from : Endpoint) (n : ℕ) → (from ≡ to) × (n ≡ id) → (xs : List Separate) → Flying xs
      → option_map ended_as (found from n xs) ≡ Some is_this
  ended_here from n e xs f =
      ap (λ p. option_map ended_as (found p n xs)) e.0
      ∙ (ap (λ m. option_map ended_as (found to m xs)) e.1
      ∙ (ap (option_map ended_as) f.is ∙ ap (λ z. Some z) f.ends))

  pub arrival : (from : Endpoint) (up : L.Answer) (xs : List Separate) → Flying xs
      → Flying (separate_after from up xs) ⊎ (((from ≡ to) × (up ≡ L.Becomes (L.Acked id)))
      ⊎ (reset_by from up xs ≡ Some is_this))
  arrival from (L.Becomes (L.Acked n)) xs f = elim (this_or from n)
      [ inl e ↦ inr (inl (e.0, ap (λ m. L.Becomes (L.Acked m)) e.1)) | inr o ↦ inl (left_flying from n o xs f) ]
  arrival from (L.Becomes (L.Reset n)) xs f = elim (this_or from n)
      [ inl e ↦ inr (inr (ended_here from n e xs f)) | inr o ↦ inl (left_flying from n o xs f) ]
  arrival from _ xs f = inl f

  pub turn : (below : L.Answer) (xs : List Separate) → Flying xs
      → Flying (separate_unless below xs) ⊎ (failed_by below xs ≡ Some is_this)
  turn (L.Expired there n) xs f = elim (this_or there n)
      [ inl e ↦ inr (ended_here there n e xs f) | inr o ↦ inl (left_flying there n o xs f) ]
  turn _ xs f = inl f

  -- what is asked beside that adds to them alone
  found_before : (xs ys : List Separate) (z : Separate) → found to id xs ≡ Some z → found to id (xs ++ ys) ≡ Some z
  found_before [] ys z e = absurd (cc e)
  found_before (x ∷ xs) ys z e = by (goes_to to id x) e (found_before xs ys z)
    where
      by : (b : Bool) → cond b (Some x) (found to id xs) ≡ Some z
          → (found to id xs ≡ Some z → found to id (xs ++ ys) ≡ Some z)
          → cond b (Some x) (found to id (xs ++ ys)) ≡ Some z
      by true k f = k
      by false k f = f k

  abbrev pub IsLater : E.Call → Type 0
  IsLater (E.Incoming at from bytes up answer) = ⊥
  IsLater (E.Ticks at below room d) = ⊥
  IsLater _ = Unit {0}

  one_later : (s : E.Own) (c : E.Call) → IsLater c → Flying s.separate → Flying (P.after s c).separate
  one_later s (E.Incoming at from bytes up answer) l f = absurd l
  one_later s (E.Ticks at below room d) l f = absurd l
  one_later s (E.Responds at a r w n) l f = record
      { one = f.one; is = found_before s.separate (P.separate_of a.from n a.token r ∷ []) f.one f.is; ends = f.ends }
  one_later s (E.Notifies at there bytes r w n) l f =
      record {
        one = f.one;
        is = found_before s.separate (P.separate_of there n bytes r ∷ []) f.one f.is;
        ends = f.ends;
      }
  one_later s _ l f = f

  pub later : (s : E.Own) (cs : List E.Call) → Each IsLater cs → Flying s.separate
      → Flying (exchanges_after s cs).separate
  later s [] l f = f
  later s (c ∷ cs) l f = one_later (exchanges_after s cs) c l.0 (later s cs l.1 f)

  -- where none waits there, the new one is found
  none_found : (xs : List Separate) → is_waited_for to xs ≡ false → found to id xs ≡ None
  none_found [] e = refl
  none_found (x ∷ xs) e = by (same_endpoint x.to to) (x.id.0 == id) e (none_found xs)
    where
      by : (b c : Bool) → (b || is_waited_for to xs) ≡ false → (is_waited_for to xs ≡ false → found to id xs ≡ None)
          → cond (b && c) (Some x) (found to id xs) ≡ None
      by true c k f = absurd (cc k)
      by false c k f = f k

  found_behind : (xs : List Separate) (x : Separate) → found to id xs ≡ None → goes_to to id x ≡ true
      → found to id (xs ++ x ∷ []) ≡ Some x
  found_behind [] x e k = ap (λ b. cond b (Some x) None) k
  found_behind (y ∷ xs) x e k = by (goes_to to id y) e (λ n. found_behind xs x n k)
    where
      by : (b : Bool) → cond b (Some y) (found to id xs) ≡ None
          → (found to id xs ≡ None → found to id (xs ++ x ∷ []) ≡ Some x)
          → cond b (Some y) (found to id (xs ++ x ∷ [])) ≡ Some x
      by true k f = absurd (cc k)
      by false k f = f k

  pub begins : (xs : List Separate) (r : E.Response) → is_waited_for to xs ≡ false
      → ended_as (P.separate_of to id token r) ≡ is_this → Flying (xs ++ P.separate_of to id token r ∷ [])
  begins xs r e k =
      let here : goes_to to id (P.separate_of to id token r) ≡ true =
      ap (λ b. b && (id == id)) ((same_endpoint-decides to to).1 refl) ∙ (unsigned_Decides id id).1 refl in
      record {
        one = P.separate_of to id token r;
        is = found_behind xs (P.separate_of to id token r) (none_found xs e) here;
        ends = k;
      }

  pub not_flying : (xs : List Separate) → is_waited_for to xs ≡ false → Flying xs → ⊥
  not_flying xs e f = let n = none_found xs e in let i = f.is in cc (n, i)
