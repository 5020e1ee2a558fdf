-- How the one request of a run is shown to have got through: the copy that comes is found, and so is the reply that
-- comes
-- back.
use Rattle.std.proofs.Common.{◌≡◌, ◌≤◌, ◌+◌, inl, inr, ℕ, Option, Some, None, List, [], ◌∷◌, ◌++◌, refl, ap, sym}
use Rattle.std.proofs.Common.{arith}
use Rattle.std.proofs.Common.{subst, ◌∙◌, append_assoc, append-nil, option_to_list}
use Rattle.coap_types.specs.Past.{Ever}
use Rattle.coap_types.specs.declared.endpoint.Endpoint.{Endpoint}
use Rattle.coap_layer.specs.Channel.{Hop, Near, Far, OnNear, OnFar}
use Rattle.coap_layer.specs.Sends.{IsIn}
use Rattle.coap_layer.specs.Taking.{ArrivesWithin}
use Rattle.coap_layer.specs.Trace as L
use Rattle.coap_layer.specs.Words.{Open, begun}

-- what was begun

abbrev pub begun_in : List L.Entry → List Open
begun_in [] = []
begun_in (e ∷ t) = option_to_list (begun e) ++ begun_in t

pub is_begun : (t : List L.Entry) (con : Open) → Ever (λ b. begun b ≡ Some con) t → IsIn con (begun_in t)
is_begun [] con h = h
is_begun (e ∷ t) con (inl h) =
    subst (λ (o : Option Open). IsIn con (option_to_list o ++ begun_in t)) (sym h) (inl refl)
is_begun (e ∷ t) con (inr h) = by (begun e) (is_begun t con h)
  where
    by : (o : Option Open) → IsIn con (begun_in t) → IsIn con (option_to_list o ++ begun_in t)
    by None k = k
    by (Some c) k = inr k

-- the newest arrival

abbrev arrival : L.Entry → L.Call → Option L.Entry → Option L.Entry
arrival e (L.Receive from bytes) rest = Some e
arrival e _ rest = rest

abbrev pub far_arrival : List Hop → Option L.Entry
far_arrival [] = None
far_arrival (Near e ∷ hs) = far_arrival hs
far_arrival (Far e ∷ hs) = arrival e e.call (far_arrival hs)

abbrev pub near_arrival : List Hop → Option L.Entry
near_arrival [] = None
near_arrival (Far e ∷ hs) = near_arrival hs
near_arrival (Near e ∷ hs) = arrival e e.call (near_arrival hs)

some_same : (x y : L.Entry) → Some x ≡ Some y → x ≡ y
some_same x y h = cc h

at_far : (P : L.Entry → Type 0) (e : L.Entry) (hs : List Hop) → far_arrival hs ≡ Some e → P e → Ever (OnFar P) hs
at_far P e [] is p = absurd (cc is)
at_far P e (Near x ∷ hs) is p = inr (at_far P e hs is p)
at_far P e (Far x ∷ hs) is p = by x.call is (λ k. at_far P e hs k p)
  where
    by : (c : L.Call) → arrival x c (far_arrival hs) ≡ Some e → (far_arrival hs ≡ Some e → Ever (OnFar P) hs)
        → Ever (OnFar P) (Far x ∷ hs)
    by (L.Receive from bytes) same f = inl (subst P (sym (some_same x e same)) p)
    by _ same f = inr (f same)

at_near : (P : L.Entry → Type 0) (e : L.Entry) (hs : List Hop) → near_arrival hs ≡ Some e → P e
    → Ever (OnNear P) hs
at_near P e [] is p = absurd (cc is)
at_near P e (Far x ∷ hs) is p = inr (at_near P e hs is p)
at_near P e (Near x ∷ hs) is p = by x.call is (λ k. at_near P e hs k p)
  where
    by : (c : L.Call) → arrival x c (near_arrival hs) ≡ Some e → (near_arrival hs ≡ Some e → Ever (OnNear P) hs)
        → Ever (OnNear P) (Near x ∷ hs)
    by (L.Receive from bytes) same f = inl (subst P (sym (some_same x e same)) p)
    by _ same f = inr (f same)

-- .. at this moment

within : (most : ℕ) (place : Endpoint) (bytes : List ℕ) (since at : ℕ) (e : L.Entry) → e.call ≡ L.Receive place bytes
    → e.at ≡ at → since ≤ at → at ≤ since + most → ArrivesWithin most place bytes since e
within most place bytes since at e call is from till =
    record { call = call; from = omega (arith, is, from); till = omega (arith, is, till) }

pub far_within : (most : ℕ) (place : Endpoint) (bytes : List ℕ) (since at : ℕ) (hs : List Hop) (e : L.Entry)
    → far_arrival hs ≡ Some e → e.call ≡ L.Receive place bytes → e.at ≡ at → since ≤ at → at ≤ since + most
    → Ever (OnFar (ArrivesWithin most place bytes since)) hs
far_within most place bytes since at hs e there call is from till =
    at_far (ArrivesWithin most place bytes since) e hs there (within most place bytes since at e call is from till)

near_within : (most : ℕ) (place : Endpoint) (bytes : List ℕ) (since at : ℕ) (hs : List Hop) (e : L.Entry)
    → near_arrival hs ≡ Some e → e.call ≡ L.Receive place bytes → e.at ≡ at → since ≤ at → at ≤ since + most
    → Ever (OnNear (ArrivesWithin most place bytes since)) hs
near_within most place bytes since at hs e there call is from till =
    at_near (ArrivesWithin most place bytes since) e hs there (within most place bytes since at e call is from till)

-- each reply comes back

module _ (most : ℕ) (far : Endpoint) where
  abbrev Comes : List ℕ → ℕ → List Hop → Type 0
  Comes bytes at seen = Ever (OnNear (ArrivesWithin most far bytes at)) seen

  -- the newest arrival before it is that, at this moment
  abbrev pub Found : List ℕ → ℕ → List Hop → Type 0
  Found bytes since seen =
      (e : L.Entry) × (at : ℕ) × (near_arrival seen ≡ Some e) × (e.call ≡ L.Receive far bytes) × (e.at ≡ at)
      × (since ≤ at) × (at ≤ since + most)

  comes : (bytes : List ℕ) (since : ℕ) (seen : List Hop) → Found bytes since seen → Comes bytes since seen
  comes bytes since seen f = near_within most far bytes since f.1 seen f.0 f.2 f.3 f.4 f.5 f.6

  abbrev BackFor : List Hop → L.Entry → L.Call → Type 0 → Type 0
  BackFor seen e (L.Reply to id bytes) Rest = Found bytes e.at seen × Rest
  BackFor seen e _ Rest = Rest

  abbrev pub Backs : List Hop → List Hop → Type 0
  Backs seen [] = Unit {0}
  Backs seen (Near e ∷ hs) = Backs (seen ++ Near e ∷ []) hs
  Backs seen (Far e ∷ hs) = BackFor seen e e.call (Backs (seen ++ Far e ∷ []) hs)

  rest_of : (seen : List Hop) (e : L.Entry) (c : L.Call) (Rest : Type 0) → BackFor seen e c Rest → Rest
  rest_of seen e (L.Reply to id bytes) Rest b = b.1
  rest_of seen e _ Rest b = b

  back_for : (seen : List Hop) (e : L.Entry) (c : L.Call) (Rest : Type 0) → BackFor seen e c Rest → (to : Endpoint)
      (id : ℕ) (bytes : List ℕ) → c ≡ L.Reply to id bytes → Comes bytes e.at seen
  back_for seen e (L.Reply to_ id_ bytes_) Rest b to id bytes is =
      let same : bytes_ ≡ bytes = cc is in subst (λ x. Comes x e.at seen) same (comes bytes_ e.at seen b.0)
  back_for seen e _ Rest b to id bytes is = absurd (cc is)

  pub back_of : (hs seen : List Hop) → Backs seen hs → (later past : List Hop) (reply : L.Entry) (to : Endpoint) (id :
      ℕ)
      (bytes : List ℕ) → hs ≡ later ++ Far reply ∷ past → reply.call ≡ L.Reply to id bytes
      → Comes bytes reply.at (seen ++ later)
  back_of [] seen b [] past reply to id bytes is call = absurd (cc is)
  back_of [] seen b (y ∷ later) past reply to id bytes is call = absurd (cc is)
  back_of (Near x ∷ hs) seen b [] past reply to id bytes is call = absurd (cc is)
  back_of (Far x ∷ hs) seen b [] past reply to id bytes is call =
      let same : x ≡ reply = cc is in
      let c : x.call ≡ L.Reply to id bytes = ap (λ (e : L.Entry). e.call) same ∙ call in
      subst (Comes bytes reply.at) (sym (append-nil seen))
      (subst (λ (e : L.Entry). Comes bytes e.at seen) same
      (back_for seen x x.call (Backs (seen ++ Far x ∷ []) hs) b to id bytes c))
  back_of (Near x ∷ hs) seen b (y ∷ later) past reply to id bytes is call =
      let same : Near x ≡ y = cc is in
      let rest : hs ≡ later ++ Far reply ∷ past = cc is in
      subst (λ z. Comes bytes reply.at (seen ++ z ∷ later)) same
      (subst (Comes bytes reply.at) (append_assoc seen (Near x ∷ []) later)
      (back_of hs (seen ++ Near x ∷ []) b later past reply to id bytes rest call))
  back_of (Far x ∷ hs) seen b (y ∷ later) past reply to id bytes is call =
      let same : Far x ≡ y = cc is in
      let rest : hs ≡ later ++ Far reply ∷ past = cc is in
      subst (λ z. Comes bytes reply.at (seen ++ z ∷ later)) same
      (subst (Comes bytes reply.at) (append_assoc seen (Far x ∷ []) later)
      (back_of hs (seen ++ Far x ∷ []) (rest_of seen x x.call (Backs (seen ++ Far x ∷ []) hs) b) later past reply to id
      bytes rest call))
