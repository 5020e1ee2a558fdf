-- Message IDs that were given in ID_REUSE_AFTER_MS, each to a message that is handed up within 1,000 ms, are no more
-- than come in two lifetimes.
use Rattle.std.proofs.Common.{◌≡◌, ◌⊎◌, inl, inr, ⊎_elim, ℕ, ◌+◌, ◌≤◌, ◌<◌, nat_le, Bool, true, false, ◌&&◌, Option}
use Rattle.std.proofs.Common.{Some, None, List, [], ◌∷◌, ◌++◌, length, refl, ap, subst, ◌∙◌, arith, if◌then◌else◌}
use Rattle.std.proofs.lemmas.Bool.{le-leb, leb-true, cases_lt}
use Rattle.std.proofs.lemmas.List.{length-append}
use Rattle.coap_types.specs.Past.{Ever}
use Rattle.coap_types.proofs.Facts.Traces.{Ever_map, Ever_front, Ever_back}
use Rattle.coap_types.specs.declared.transmission.TheConstants.{EXCHANGE_LIFETIME_MS as exchange_lifetime}
use Rattle.coap_types.specs.declared.transmission.TheConstants.{ID_REUSE_AFTER_MS as id_reuse_after}
use Rattle.coap_layer.specs.Ids.{Issued, AreApart}
use Rattle.coap_layer.specs.Sends.{IsIn}
use Rattle.coap_layer.specs.Taking.{is_then, came, issued_since, FewCome}
use Rattle.coap_layer.specs.Trace.{Entry}
use Rattle.coap_layer.specs.Words.{Incoming, handed}
use Rattle.coap_smooth.specs.Smooth.{max_age}
use Rattle.coap_promise.proofs.Facts.Delivery.EntriesInTime.{Every}
use Rattle.coap_smooth.proofs.Watching.MessageIds.NoMore.{Differ, no_more}

-- a message with this Message ID is handed up, at most 1,000 ms after that was given
pub record HandsUpSoon (g : Issued) (e : Entry) : Type 0 where
  pub message : Incoming
  pub up : handed e ≡ Some message
  pub id_is : message.message.id ≡ g.id
  pub from : g.at ≤ e.at
  pub till : e.at ≤ g.at + max_age

-- one element, of which all is known
of_one : {X : Type 0} (P Q R : X → Type 0) (Z : Type 0) → ((x : X) → P x → Q x → R x → Z) → (xs : List X)
    → Every P xs → Every Q xs → Ever R xs → Z
of_one P Q R Z f [] p q h = absurd h
of_one P Q R Z f (x ∷ xs) p q (inl h) = f x p.0 q.0 h
of_one P Q R Z f (x ∷ xs) p q (inr h) = of_one P Q R Z f xs p.1 q.1 h

one_of : {X : Type 0} (P Q R : X → Type 0) → ((x : X) → P x → Q x ⊎ R x) → (xs : List X) → Ever P xs
    → Ever Q xs ⊎ Ever R xs
one_of P Q R f [] h = absurd h
one_of P Q R f (x ∷ xs) (inl h) = ⊎_elim (λ q. inl (inl q)) (λ r. inr (inl r)) (f x h)
one_of P Q R f (x ∷ xs) (inr h) = ⊎_elim (λ q. inl (inr q)) (λ r. inr (inr r)) (one_of P Q R f xs h)

both : (b c : Bool) → b ≡ true → c ≡ true → (b && c) ≡ true
both true c h k = k
both false c h k = absurd (cc h)

-- what was given

module _ (u : ℕ) where
  abbrev ids_since : List Issued → List ℕ
  ids_since [] = []
  ids_since (g ∷ past) = if nat_le u g.at then g.id ∷ ids_since past else ids_since past

  since_long : (t : List Issued) → length (ids_since t) ≡ issued_since u t
  since_long [] = refl
  since_long (g ∷ past) = by (nat_le u g.at) (since_long past)
    where
      by : (b : Bool) → length (ids_since past) ≡ issued_since u past
          → length (if b then g.id ∷ ids_since past else ids_since past)
          ≡ (if b then 1 + issued_since u past else issued_since u past)
      by true k = omega (arith, k)
      by false k = k

  since_in : (x : ℕ) (t : List Issued) → IsIn x (ids_since t) → Ever (λ (g : Issued). (g.id ≡ x) × (u ≤ g.at)) t
  since_in x [] h = absurd h
  since_in x (g ∷ past) h = by (nat_le u g.at) refl (λ k. since_in x past k) h
    where
      by : (b : Bool) → nat_le u g.at ≡ b
          → (IsIn x (ids_since past) → Ever (λ (z : Issued). (z.id ≡ x) × (u ≤ z.at)) past)
          → IsIn x (if b then g.id ∷ ids_since past else ids_since past)
          → Ever (λ (z : Issued). (z.id ≡ x) × (u ≤ z.at)) (g ∷ past)
      by true e f (inl is) = inl (is, leb-true u g.at e)
      by true e f (inr k) = inr (f k)
      by false e f k = inr (f k)

  differ : (t : List Issued) → AreApart t → Every (λ (g : Issued). g.at ≤ u + id_reuse_after) t → Differ (ids_since t)
  differ [] apart young = tt
  differ (g ∷ past) apart young = by (nat_le u g.at) (differ past apart.1 young.1)
    where
      new : IsIn g.id (ids_since past) → ⊥
      new k = apart.0 (Ever_map (λ (z : Issued). (z.id ≡ g.id) × (u ≤ z.at))
          (λ (z : Issued). (z.id ≡ g.id) × (g.at ≤ z.at + id_reuse_after))
          (λ z w. (w.0, (let a = w.1 in let b = young.0 in omega (arith, a, b)))) past (since_in g.id past k))

      by : (b : Bool) → Differ (ids_since past) → Differ (if b then g.id ∷ ids_since past else ids_since past)
      by true k = (new, k)
      by false k = k

-- what comes

module _ (since : ℕ) where
  abbrev ids_then : List Entry → List ℕ
  ids_then [] = []
  ids_then (e ∷ past) =
      elim (handed e) [
        | Some m ↦ (if is_then since e.at then m.message.id ∷ ids_then past else ids_then past)
        | None ↦ ids_then past
      ]

  then_long : (t : List Entry) → length (ids_then t) ≡ came since t
  then_long [] = refl
  then_long (e ∷ past) = by (handed e) (is_then since e.at) (then_long past)
    where
      by : (o : Option Incoming) (b : Bool) → length (ids_then past) ≡ came since past
          → length (elim o as (λ z. List ℕ) [
            | Some m ↦ (if b then m.message.id ∷ ids_then past else ids_then past)
            | None ↦ ids_then past
          ])
          ≡ elim o [ Some m ↦ (if b then 1 + came since past else came since past) | None ↦ came since past ]
      by None b k = k
      by (Some m) true k = omega (arith, k)
      by (Some m) false k = k

  then_in : (g : Issued) (t : List Entry) → Ever (λ (e : Entry). HandsUpSoon g e × (is_then since e.at ≡ true)) t
      → IsIn g.id (ids_then t)
  then_in g [] h = absurd h
  then_in g (e ∷ past) (inl h) = by (handed e) h.0.up (is_then since e.at) h.1
    where
      by : (o : Option Incoming) → o ≡ Some h.0.message → (b : Bool) → b ≡ true
          → IsIn g.id (elim o as (λ z. List ℕ) [
            | Some m ↦ (if b then m.message.id ∷ ids_then past else ids_then past)
            | None ↦ ids_then past
          ])
      by None is b now = absurd (cc is)
      by (Some m) is true now =
          let same : m ≡ h.0.message = cc is in inl (ap (λ (z : Incoming). z.message.id) same ∙ h.0.id_is)
      by (Some m) is false now = absurd (cc now)
  then_in g (e ∷ past) (inr h) = by (handed e) (is_then since e.at) (then_in g past h)
    where
      by : (o : Option Incoming) (b : Bool) → IsIn g.id (ids_then past)
          → IsIn g.id (elim o as (λ z. List ℕ) [
            | Some m ↦ (if b then m.message.id ∷ ids_then past else ids_then past)
            | None ↦ ids_then past
          ])
      by None b k = k
      by (Some m) true k = inr k
      by (Some m) false k = k

-- in two lifetimes
abbrev come : ℕ → List Entry → List ℕ
come u es = ids_then u es ++ ids_then (u + 247001) es

pub few_issued : (most u : ℕ) (t : List Issued) (es : List Entry) → AreApart t
    → Every (λ (g : Issued). g.at ≤ u + id_reuse_after) t → Every (λ g. Ever (HandsUpSoon g) es) t → FewCome most es
    → issued_since u t < most + most
few_issued most u t es apart young soon few =
    let given = since_long u t in
    let least = no_more (ids_since u t) (come u es) (differ u t apart young) there in
    let long = length-append (ids_then u es) (ids_then (u + 247001) es) in
    let one = then_long u es in
    let two = then_long (u + 247001) es in
    let a = few u in
    let b = few (u + 247001) in
    omega (arith, given, least, long, one, two, a, b)
  where
    which : (g : Issued) → g.at ≤ u + id_reuse_after → u ≤ g.at → (e : Entry) → HandsUpSoon g e
        → (HandsUpSoon g e × (is_then u e.at ≡ true)) ⊎ (HandsUpSoon g e × (is_then (u + 247001) e.at ≡ true))
    which g till from e h =
        let a = h.from in
        let b = h.till in
        ⊎_elim (λ late. inr (
          h,
          both _ _ (le-leb (u + 247001) e.at (omega (arith, late)))
              (le-leb e.at (u + 247001 + exchange_lifetime) (omega (arith, b, till))),
        ))
        (λ early. inl (
          h,
          both _ _ (le-leb u e.at (omega (arith, a, from)))
              (le-leb e.at (u + exchange_lifetime) (omega (arith, early))),
        ))
        (cases_lt (u + 247000) e.at)

    come_in : (g : Issued) → g.at ≤ u + id_reuse_after → u ≤ g.at → Ever (HandsUpSoon g) es → IsIn g.id (come u es)
    come_in g till from h =
        ⊎_elim (λ k. Ever_front (λ y. y ≡ g.id) (ids_then u es) (ids_then (u + 247001) es) (then_in u g es k))
        (λ k. Ever_back (λ y. y ≡ g.id) (ids_then u es) (ids_then (u + 247001) es) (then_in (u + 247001) g es k))
        (one_of (HandsUpSoon g) (λ e. HandsUpSoon g e × (is_then u e.at ≡ true))
        (λ e. HandsUpSoon g e × (is_then (u + 247001) e.at ≡ true)) (which g till from) es h)

    there : (x : ℕ) → IsIn x (ids_since u t) → IsIn x (come u es)
    there x h =
        of_one (λ (g : Issued). g.at ≤ u + id_reuse_after) (λ g. Ever (HandsUpSoon g) es)
        (λ (g : Issued). (g.id ≡ x) × (u ≤ g.at)) (IsIn x (come u es))
        (λ g till k is. subst (λ z. IsIn z (come u es)) is.0 (come_in g till is.1 k)) t young soon (since_in u x t h)
