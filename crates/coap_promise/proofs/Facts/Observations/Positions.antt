-- Where something happened in a record: at a call of an end, and which of two things came first.
use Rattle.std.proofs.Common.{◌≡◌, ◌⊎◌, inl, inr, ⊎_elim, ℕ, List, [], ◌∷◌, ◌++◌, map, refl, ap, subst}
use Rattle.coap_types.specs.Past.{Ever, Sometime}
use Rattle.coap_types.proofs.Facts.Traces.{Ever_append}
use Rattle.coap_resource.specs.Limits.{Limits}
use Rattle.coap_layer.specs.Channel.{Hop, Near, Far}
use Rattle.coap_layer.specs.Trace as L
use Rattle.coap_layer.specs.declared.setup.Setup.{Setup}
use Rattle.coap_client.specs.Trace as C
use Rattle.coap_server.specs.Trace as S
use Rattle.coap_server.specs.Law.{layer_of}
use Rattle.coap_server_laws.specs.Follows.Adds.{call_adds}
use Rattle.coap_server_laws.proofs.Facts.EachCall.{layer_next}
use Rattle.coap_record.specs.Events.{Config}
use Rattle.coap_promise.specs.Hops.{across}
use Rattle.coap_record.specs.Record.{Entry, OfClient, OfServer, client_of, server_trace, Setting, gives_it, settings}

module _ {E : Type 0} where
  -- at one entry both, or one of them behind the other
  pub order_of : (A B : List E → E → Type 0) (t : List E) → Sometime A t → Sometime B t
      → Sometime (λ past e. A past e × B past e) t
      ⊎ (Sometime (λ past e. B past e × Sometime A past) t ⊎ Sometime (λ past e. A past e × Sometime B past) t)
  order_of A B [] a b = absurd a
  order_of A B (e ∷ t) (inl a) (inl b) = inl (inl (a, b))
  order_of A B (e ∷ t) (inl a) (inr b) = inr (inr (inl (a, b)))
  order_of A B (e ∷ t) (inr a) (inl b) = inr (inl (inl (b, a)))
  order_of A B (e ∷ t) (inr a) (inr b) = ⊎_elim (λ x. inl (inr x))
      (λ y. ⊎_elim (λ x. inr (inl (inr x))) (λ x. inr (inr (inr x))) y) (order_of A B t a b)

  -- neither at one entry, nor the first behind the second: so the second behind the first
  pub behind : (A B : List E → E → Type 0) (t : List E) → Sometime A t → Sometime B t
      → (Sometime (λ past e. A past e × B past e) t → ⊥) → (Sometime (λ past e. A past e × Sometime B past) t → ⊥)
      → Sometime (λ past e. B past e × Sometime A past) t
  behind A B t a b apart sooner =
      ⊎_elim (λ x. absurd (apart x)) (λ y. ⊎_elim (λ x. x) (λ x. absurd (sooner x)) y) (order_of A B t a b)

-- the hops, with the server's layer as the near one

pub across_append : (xs ys : List Hop) → across (xs ++ ys) ≡ across xs ++ across ys
across_append [] ys = refl
across_append (Near e ∷ xs) ys = ap (λ t. Far e ∷ t) (across_append xs ys)
across_append (Far e ∷ xs) ys = ap (λ t. Near e ∷ t) (across_append xs ys)

pub across_near : (xs : List L.Entry) (hs : List Hop) → across (map Near xs ++ hs) ≡ map Far xs ++ across hs
across_near [] hs = refl
across_near (x ∷ xs) hs = ap (λ t. Far x ∷ t) (across_near xs hs)

pub across_far : (xs : List L.Entry) (hs : List Hop) → across (map Far xs ++ hs) ≡ map Near xs ++ across hs
across_far [] hs = refl
across_far (x ∷ xs) hs = ap (λ t. Near x ∷ t) (across_far xs hs)

-- in which call of a server its layer's entry was added
pub located : (limits : Limits) (szx : ℕ) (setup : Setup) (P : L.Entry → Type 0) (t : List S.Call)
    → Ever P (layer_of limits szx setup t)
    → Sometime (λ past c. Ever P (call_adds limits szx setup past c)) t
located limits szx setup P [] h = absurd h
located limits szx setup P (c ∷ t) h =
    elim (Ever_append P (call_adds limits szx setup t c) (layer_of limits szx setup t)
    (subst (Ever P) (layer_next limits szx setup t c) h)) [
      | inl k ↦ inl k
      | inr k ↦ inr (located limits szx setup P t k)
    ]

module _ (config : Config) where
  abbrev pub AtServer : (List S.Call → S.Call → Type 0) → List Entry → Entry → Type 0
  AtServer P past (OfClient c) = ⊥
  AtServer P past (OfServer c) = P (server_trace config past) c

  abbrev pub AtClient : (List C.Call → C.Call → Type 0) → List Entry → Entry → Type 0
  AtClient P past (OfClient c) = P (client_of past) c
  AtClient P past (OfServer c) = ⊥

  -- at none of the calls with which a server begins
  abbrev pub NotAtFirst : (List S.Call → S.Call → Type 0) → Type 0
  NotAtFirst P = (past : List S.Call) (s : Setting) → P past (gives_it s) → ⊥

  none_first : (P : List S.Call → S.Call → Type 0) → NotAtFirst P → (ss : List Setting) → Sometime P (map gives_it ss)
      → ⊥
  none_first P none [] h = h
  none_first P none (s ∷ ss) (inl h) = none (map gives_it ss) s h
  none_first P none (s ∷ ss) (inr h) = none_first P none ss h

  pub server_entries : (P : List S.Call → S.Call → Type 0) → NotAtFirst P → (all : List Entry)
      → Sometime P (server_trace config all) → Sometime (AtServer P) all
  server_entries P none [] h = absurd (none_first P none (settings config) h)
  server_entries P none (OfClient c ∷ past) h = inr (server_entries P none past h)
  server_entries P none (OfServer c ∷ past) (inl h) = inl h
  server_entries P none (OfServer c ∷ past) (inr h) = inr (server_entries P none past h)

  pub client_entries : (P : List C.Call → C.Call → Type 0) → (all : List Entry) → Sometime P (client_of all)
      → Sometime (AtClient P) all
  client_entries P [] h = absurd h
  client_entries P (OfServer c ∷ past) h = inr (client_entries P past h)
  client_entries P (OfClient c ∷ past) (inl h) = inl h
  client_entries P (OfClient c ∷ past) (inr h) = inr (client_entries P past h)

  -- what held of the server's calls holds of more of them
  pub server_more : (P : List S.Call → S.Call → Type 0) (e : Entry) (past : List Entry)
      → Sometime P (server_trace config past) → Sometime P (server_trace config (e ∷ past))
  server_more P (OfClient c) past h = h
  server_more P (OfServer c) past h = inr h
