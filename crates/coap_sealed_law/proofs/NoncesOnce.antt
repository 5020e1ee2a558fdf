-- No nonce is used for two plaintexts, and no request comes under two heads: what is opened in one life came in none
-- before, and own numbers go on.
use Rattle.std.proofs.Common.{◌≡◌, inl, inr, ⊎_elim, ℕ, ◌<◌, List, [], ◌∷◌, sym, ap, ◌∙◌, subst}
use native.Mathlib.Omega.{arith}
use Rattle.coap_types.specs.Past.{Ever}
use Rattle.coap_sealed_law.specs.Sealing.{Nonce, Own, OfRequest, Head, Event, Begins, Opens, Seals, life, IsOpened}
use Rattle.coap_sealed_law.specs.Sealing.{IsOpenedUnder, IsSealed, MaySeal, MayOpen, Follows}
use Rattle.coap_sealed_law.specs.Sealing.{NonceOnce, HeadOnce}

-- what happened in the last life happened
of_life : (P : Event → Type 0) (t : List Event) → Ever P (life t) → Ever P t
of_life P [] h = absurd h
of_life P (Begins ∷ past) h = absurd h
of_life P (Opens n h ∷ past) (inl is) = inl is
of_life P (Opens n h ∷ past) (inr is) = inr (of_life P past is)
of_life P (Seals n h ∷ past) (inl is) = inl is
of_life P (Seals n h ∷ past) (inr is) = inr (of_life P past is)

under_opened : (n : ℕ) (head : Head) (t : List Event) → Ever (IsOpenedUnder n head) t → Ever (IsOpened n) t
under_opened n head [] h = absurd h
under_opened n head (Begins ∷ past) (inl h) = absurd h
under_opened n head (Opens m k ∷ past) (inl h) = inl h.0
under_opened n head (Seals m k ∷ past) (inl h) = absurd h
under_opened n head (e ∷ past) (inr h) = inr (under_opened n head past h)

abbrev number_of : Nonce → ℕ
number_of (Own n) = n
number_of (OfRequest n) = n

-- what was sealed under a request's nonce came behind its opening
sealed_opened : (n : ℕ) (text : List ℕ) (t : List Event) → Follows t → Ever (IsSealed (OfRequest n) text) t
    → Ever (IsOpened n) t
sealed_opened n text [] law h = absurd h
sealed_opened n text (Begins ∷ past) law (inl h) = absurd h
sealed_opened n text (Opens m k ∷ past) law (inl h) = absurd h
sealed_opened n text (Seals (OfRequest m) k ∷ past) law (inl h) = inr (of_life (IsOpened n) past
    (subst (λ x. Ever (IsOpened x) (life past)) (ap number_of h.0) law.0.0))
sealed_opened n text (Seals (Own m) k ∷ past) law (inl h) = absurd (cc h.0)
sealed_opened n text (e ∷ past) law (inr h) = inr (sealed_opened n text past law.1 h)

-- a request that is opened in the last life: what was sealed under its nonce was sealed in that life
in_life : (n : ℕ) (text : List ℕ) (t : List Event) → Follows t → Ever (IsOpened n) (life t)
    → Ever (IsSealed (OfRequest n) text) t → Ever (IsSealed (OfRequest n) text) (life t)
in_life n text [] law opened h = absurd h
in_life n text (Begins ∷ past) law opened h = absurd opened
in_life n text (Opens m k ∷ past) law (inr opened) (inr h) = inr (in_life n text past law.1 opened h)
in_life n text (Opens m k ∷ past) law opened (inl h) = absurd h
in_life n text (Opens m k ∷ past) law (inl is) (inr h) = inr (⊎_elim
    (λ never. absurd (never (sealed_opened n text past law.1 h)))
    (λ copy. in_life n text past law.1 (under_opened n k (life past) copy) h)
    (subst (λ x. MayOpen past x k) is law.0))
in_life n text (Seals m k ∷ past) law (inl is) h = absurd is
in_life n text (Seals m k ∷ past) law (inr opened) (inl h) = inl h
in_life n text (Seals m k ∷ past) law (inr opened) (inr h) = inr (in_life n text past law.1 opened h)

not_below : (n : ℕ) → n < n → ⊥
not_below n h = omega (arith, h)

-- what is sealed now is what was sealed before under that nonce
as_before : (m : Nonce) (text other : List ℕ) (past : List Event) → Follows past → NonceOnce past → MaySeal past m text
    → Ever (IsSealed m other) past → text ≡ other
as_before (Own n) text other past law once (inl below) h = absurd (not_below n (below n other h))
as_before (Own n) text other past law once (inr copy) h =
    once (Own n) text other (of_life (IsSealed (Own n) text) past copy) h
as_before (OfRequest n) text other past law once may h = sym (may.1 other (in_life n other past law may.0 h))

pub nonce_once : (t : List Event) → Follows t → NonceOnce t
nonce_once [] law nonce one other h g = absurd h
nonce_once (e ∷ past) law nonce one other (inr h) (inr g) = nonce_once past law.1 nonce one other h g
nonce_once (Begins ∷ past) law nonce one other (inl h) g = absurd h
nonce_once (Begins ∷ past) law nonce one other (inr h) (inl g) = absurd g
nonce_once (Opens m k ∷ past) law nonce one other (inl h) g = absurd h
nonce_once (Opens m k ∷ past) law nonce one other (inr h) (inl g) = absurd g
nonce_once (Seals m k ∷ past) law nonce one other (inl h) (inl g) = sym h.1 ∙ g.1
nonce_once (Seals m k ∷ past) law nonce one other (inl h) (inr g) = sym h.1
    ∙ as_before m k other past law.1 (nonce_once past law.1) law.0
    (subst (λ x. Ever (IsSealed x other) past) (sym h.0) g)
nonce_once (Seals m k ∷ past) law nonce one other (inr h) (inl g) = sym (sym g.1
    ∙ as_before m k one past law.1 (nonce_once past law.1) law.0
    (subst (λ x. Ever (IsSealed x one) past) (sym g.0) h))

as_it_came : (n : ℕ) (head other : Head) (past : List Event) → HeadOnce past → MayOpen past n head
    → Ever (IsOpenedUnder n other) past → head ≡ other
as_it_came n head other past once (inl never) h = absurd (never (under_opened n other past h))
as_it_came n head other past once (inr copy) h =
    once n head other (of_life (IsOpenedUnder n head) past copy) h

pub head_once : (t : List Event) → Follows t → HeadOnce t
head_once [] law n one other h g = absurd h
head_once (e ∷ past) law n one other (inr h) (inr g) = head_once past law.1 n one other h g
head_once (Begins ∷ past) law n one other (inl h) g = absurd h
head_once (Begins ∷ past) law n one other (inr h) (inl g) = absurd g
head_once (Seals m k ∷ past) law n one other (inl h) g = absurd h
head_once (Seals m k ∷ past) law n one other (inr h) (inl g) = absurd g
head_once (Opens m k ∷ past) law n one other (inl h) (inl g) = sym h.1 ∙ g.1
head_once (Opens m k ∷ past) law n one other (inl h) (inr g) = sym h.1
    ∙ as_it_came m k other past (head_once past law.1) law.0
    (subst (λ x. Ever (IsOpenedUnder x other) past) (sym h.0) g)
head_once (Opens m k ∷ past) law n one other (inr h) (inl g) = sym (sym g.1
    ∙ as_it_came m k one past (head_once past law.1) law.0
    (subst (λ x. Ever (IsOpenedUnder x one) past) (sym g.0) h))
