-- A request that is handed up once is served once, and comes to one thing.
use Rattle.std.proofs.Common.{◌≡◌, ◌⊎◌, ◌≤◌, inl, inr, ℕ, Option, Some, List, [], ◌∷◌, ap, ◌∙◌, arith}
use Rattle.coap_types.specs.Past.{Sometime, Always}
use Rattle.coap_types.proofs.Facts.Traces.{Sometime_map}
use Rattle.coap_layer.specs.declared.setup.Setup.{Setup}
use Rattle.coap_resource.specs.Limits.{Limits}
use Rattle.coap_exchange.specs.declared.answerer.Asked.{Asked}
use Rattle.coap_exchange.specs.AnswererFollows.{hits, same_asked}
use Rattle.coap_exchange.proofs.Facts.ServerSide.{self_hits}
use Rattle.coap_server_laws.specs.Follows.Counts.{ups}
use Rattle.coap_server_laws.specs.Follows.HandedUpAsOften.{Counted}
use Rattle.coap_server.specs.Follows.Serves.{Serving, serving, hands, asked_of, times_handed, times_served, ServedOnce}
use Rattle.coap_server.specs.Law.{own_of, layer_of}
use Rattle.coap_server.specs.Trace.{Call}

-- what happens once only: two accounts of it are of one entry
pub once_same : {E : Type 0} (P Q R : List E → E → Type 0) → (t : List E)
    → Always (λ past e. P past e → Sometime P past → ⊥) t → Sometime (λ past e. P past e × Q past e) t
    → Sometime (λ past e. P past e × R past e) t
    → Sometime (λ past e. Q past e × R past e) t
once_same P Q R [] law a b = a
once_same P Q R (e ∷ past) law (inl a) (inl b) = inl (a.1, b.1)
once_same P Q R (e ∷ past) law (inl a) (inr b) =
    absurd (law.0 a.0 (Sometime_map (λ past e. P past e × R past e) P (λ t x h. h.0) past b))
once_same P Q R (e ∷ past) law (inr a) (inl b) =
    absurd (law.0 b.0 (Sometime_map (λ past e. P past e × Q past e) P (λ t x h. h.0) past a))
once_same P Q R (e ∷ past) law (inr a) (inr b) = inr (once_same P Q R past law.1 a b)

pub once_either : {E : Type 0} (P Q : List E → E → Type 0) → (t : List E) → Sometime (λ past e. P past e ⊎ Q past e) t
    → Sometime P t ⊎ Sometime Q t
once_either P Q [] h = inl h
once_either P Q (e ∷ past) (inl (inl h)) = inl (inl h)
once_either P Q (e ∷ past) (inl (inr h)) = inr (inl h)
once_either P Q (e ∷ past) (inr h) = elim (once_either P Q past h) [ inl p ↦ inl (inr p) | inr q ↦ inr (inr q) ]

pub never : {E : Type 0} (P : List E → E → Type 0) → ((past : List E) (e : E) → P past e → ⊥) → (t : List E)
    → Sometime P t → ⊥
never P f [] h = h
never P f (e ∷ past) (inl h) = f past e h
never P f (e ∷ past) (inr h) = never P f past h

module _ (limits : Limits) (szx : ℕ) (a : Asked) where
  abbrev pub HandsIt : List Call → Call → Type 0
  HandsIt past c = hands c ≡ Some a

  abbrev pub ServesIt : List Call → Call → Type 0
  ServesIt past c = (x : Serving) × (serving (own_of limits szx past) c ≡ Some x) × (x.asked ≡ a)

  hit : (o : Option Asked) → o ≡ Some a → hits (same_asked a) o ≡ 1
  hit o h = ap (λ z. hits (same_asked a) z) h ∙ self_hits a

  served_hit : (past : List Call) (c : Call) → ServesIt past c
      → hits (same_asked a) (asked_of (serving (own_of limits szx past) c)) ≡ 1
  served_hit past c h = hit (asked_of (serving (own_of limits szx past) c)) (ap asked_of h.1 ∙ ap (λ z. Some z) h.2)

  times_up : (t : List Call) → Sometime HandsIt t → 1 ≤ times_handed limits szx a t
  times_up [] h = absurd h
  times_up (c ∷ t) (inl h) = let e = hit (hands c) h in omega (arith, e)
  times_up (c ∷ t) (inr h) = let k = times_up t h in omega (arith, k)

  times_at_store : (t : List Call) → Sometime ServesIt t → 1 ≤ times_served limits szx a t
  times_at_store [] h = absurd h
  times_at_store (c ∷ t) (inl h) = let e = served_hit t c h in omega (arith, e)
  times_at_store (c ∷ t) (inr h) = let k = times_at_store t h in omega (arith, k)

  pub counted_in : (setup : Setup) (t : List Call) → Counted limits szx setup t
      → times_handed limits szx a t ≤ ups a (layer_of limits szx setup t)
  counted_in setup [] h = omega arith
  counted_in setup (c ∷ t) h = h.0 a

  pub handed_once : (t : List Call) → times_handed limits szx a t ≤ 1
      → Always (λ past c. HandsIt past c → Sometime HandsIt past → ⊥) t
  handed_once [] few = tt
  handed_once (c ∷ t) few = (
    λ h before. (let e = hit (hands c) h in let k =
        times_up t before in omega (arith, few, e, k)),
    handed_once t (omega (arith, few)),
  )

  pub served_once : (t : List Call) → ServedOnce limits szx t → times_handed limits szx a t ≤ 1
      → Always (λ past c. ServesIt past c → Sometime ServesIt past → ⊥) t
  served_once [] law few = tt
  served_once (c ∷ t) law few = (
    λ h before.
        let fewer = law.0 h.0 h.1 in
        let same_served = ap (λ b. times_served limits szx b t) h.2 in
        let same_handed = ap (λ b. times_handed limits szx b (c ∷ t)) h.2 in
        let k = times_at_store t before in
        omega (arith, few, fewer, same_served, same_handed, k),
    served_once t law.1 (omega (arith, few)),
  )
