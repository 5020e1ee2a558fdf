-- What one end seals and opens under one context, over all of its lives (RFC 8613, sections 5.2, 7 and 8), the newest
-- first.
use Rattle.std.specs.Prelude.{◌≡◌, ◌⊎◌, ℕ, ◌<◌, List, [], ◌∷◌}
use Rattle.coap_types.specs.Past.{Always, Ever}

-- A nonce of this end is that of a sequence number of its own, or that of a request's number, once it has opened it.
pub data Nonce : Type 0 where
  Own : (number : ℕ) → Nonce
  OfRequest : (number : ℕ) → Nonce

-- Type, Message ID and token are not sealed.
pub record Head : Type 0 where
  pub type : ℕ
  pub id : ℕ
  pub token : List ℕ

-- A life begins; the peer's request of this number is handed to the end; a plaintext is sealed.
pub data Event : Type 0 where
  Begins : Event
  Opens : (number : ℕ) (head : Head) → Event
  Seals : (nonce : Nonce) (text : List ℕ) → Event

-- what happened in the last life
abbrev pub life : List Event → List Event
life [] = []
life (Begins ∷ past) = []
life (Opens number head ∷ past) = Opens number head ∷ life past
life (Seals nonce text ∷ past) = Seals nonce text ∷ life past

abbrev pub IsOpened : ℕ → Event → Type 0
IsOpened number (Opens n head) = n ≡ number
IsOpened number _ = ⊥

abbrev pub IsOpenedUnder : ℕ → Head → Event → Type 0
IsOpenedUnder number head (Opens n h) = (n ≡ number) × (h ≡ head)
IsOpenedUnder number head _ = ⊥

abbrev pub IsSealed : Nonce → List ℕ → Event → Type 0
IsSealed nonce text (Seals n t) = (n ≡ nonce) × (t ≡ text)
IsSealed nonce text _ = ⊥

-- every own number so far is below this one
abbrev pub AreBelow : ℕ → List Event → Type 0
AreBelow number past = (n : ℕ) (text : List ℕ) → Ever (IsSealed (Own n) text) past → n < number

-- nothing else was sealed under this nonce
abbrev pub IsAlone : Nonce → List ℕ → List Event → Type 0
IsAlone nonce text past = (other : List ℕ) → Ever (IsSealed nonce other) past → other ≡ text

-- An own number goes on, over all lives; or what was sealed under it in this life is sealed again, as it was. The nonce
-- of a request is that of one which was opened in this life, and has one plaintext in it.
abbrev pub MaySeal : List Event → Nonce → List ℕ → Type 0
MaySeal past (Own number) text = AreBelow number past ⊎ Ever (IsSealed (Own number) text) (life past)
MaySeal past (OfRequest number) text =
    Ever (IsOpened number) (life past) × IsAlone (OfRequest number) text (life past)

-- A request is handed on whose number never came, in any life; or again in this one, under the head that it had.
abbrev pub MayOpen : List Event → ℕ → Head → Type 0
MayOpen past number head = (Ever (IsOpened number) past → ⊥) ⊎ Ever (IsOpenedUnder number head) (life past)

abbrev pub Rule : List Event → Event → Type 0
Rule past Begins = Unit {0}
Rule past (Opens number head) = MayOpen past number head
Rule past (Seals nonce text) = MaySeal past nonce text

abbrev pub Follows : List Event → Type 0
Follows = Always Rule

-- no nonce is used for two plaintexts
abbrev pub NonceOnce : List Event → Type 0
NonceOnce t = (nonce : Nonce) (one other : List ℕ) → Ever (IsSealed nonce one) t → Ever (IsSealed nonce other) t
    → one ≡ other

-- no request is handed on under two heads
abbrev pub HeadOnce : List Event → Type 0
HeadOnce t = (number : ℕ) (one other : Head) → Ever (IsOpenedUnder number one) t → Ever (IsOpenedUnder number other) t
    → one ≡ other

abbrev pub first_head : Head
first_head = record { type = 0; id = 1; token = 7 ∷ [] }

abbrev pub first_life : List Event
first_life = Seals (OfRequest 0) (1 ∷ []) ∷ Opens 0 first_head
    ∷ Seals (OfRequest 0) (1 ∷ []) ∷ Opens 0 first_head ∷ Begins ∷ []

-- Two lives: a request and its copy, answered alike; then another request, and a notification.
abbrev pub two_lives : List Event
two_lives = Seals (Own 1000) (2 ∷ []) ∷ Opens 1 first_head ∷ Begins ∷ first_life
