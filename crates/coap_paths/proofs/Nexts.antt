-- A text is read byte by byte.
use Rattle.std.proofs.Common.{◌≡◌, ℕ, ◌+◌, ◌*◌, ◌<◌, Bool, true, false, not, cond, ◌&&◌, List, [], ◌∷◌, length}
use Rattle.std.proofs.Common.{Option, Some, None, refl, sym, ap, ◌∙◌, subst, arith, eqb, true≢false}
use Rattle.std.proofs.lemmas.Bool.Decides.{nat_tests}
use Rattle.coap_paths.specs.Escapes.{hex_of, or_zero, is_digit, is_escaped, unescaped}
use Rattle.coap_paths.specs.FirstBytes.{pair_of, next_of}

-- the first byte that a text says, and the text after it
pub record IsNext (text : List ℕ) (byte : ℕ) (after : List ℕ) : Type 0 where
  pub says : unescaped text ≡ byte ∷ unescaped after
  pub well : is_escaped text ≡ is_escaped after
  pub shorter : length after < length text

-- what is said by a text of three bytes or more, and whether it is well escaped, where its first byte is a percent sign
-- or not
abbrev said_if : Bool → (b h l : ℕ) → List ℕ → List ℕ
said_if percent b h l bs =
    cond percent ((or_zero (hex_of h) * 16 + or_zero (hex_of l)) ∷ unescaped bs) (b ∷ unescaped (h ∷ l ∷ bs))

abbrev well_if : Bool → (h l : ℕ) → List ℕ → Bool
well_if percent h l bs =
    cond percent (is_digit (hex_of h) && is_digit (hex_of l) && is_escaped bs) (is_escaped (h ∷ l ∷ bs))

says_if : (b h l : ℕ) (bs : List ℕ) (percent : Bool) → eqb b 37 ≡ percent
    → unescaped (b ∷ h ∷ l ∷ bs) ≡ said_if percent b h l bs
says_if b h l bs percent e = ap (λ x. said_if x b h l bs) e

is_well_if : (b h l : ℕ) (bs : List ℕ) (percent : Bool) → eqb b 37 ≡ percent
    → is_escaped (b ∷ h ∷ l ∷ bs) ≡ well_if percent h l bs
is_well_if b h l bs percent e = ap (λ x. well_if x h l bs) e

pair_is : (h l : Option ℕ) (rest : List ℕ) (r : ℕ × List ℕ) → pair_of h l rest ≡ Some r
    → (or_zero h * 16 + or_zero l ≡ r.0) × (rest ≡ r.1) × (is_digit h ≡ true) × (is_digit l ≡ true)
pair_is (Some h) (Some l) rest r e =
    let same : ◌≡◌ {A = ℕ × List ℕ} (h * 16 + l, rest) r = cc in (ap (λ p. p.0) same, ap (λ p. p.1) same, refl, refl)
pair_is (Some h) None rest r e = absurd cc
pair_is None l rest r e = absurd cc

-- a byte that is no percent sign, before nothing or before one byte
plain_is : (b : ℕ) (bs : List ℕ) (byte : ℕ) (after : List ℕ) → unescaped (b ∷ bs) ≡ b ∷ unescaped bs
    → is_escaped (b ∷ bs) ≡ is_escaped bs → ◌≡◌ {A = ℕ × List ℕ} (b, bs) (byte, after) → IsNext (b ∷ bs) byte after
plain_is b bs byte after says well same =
    let rest : bs ≡ after = ap (λ p. p.1) same in
    record {
      says = says ∙ (λ i. (same i).0 ∷ unescaped ((same i).1));
      well = well ∙ ap is_escaped rest;
      shorter = subst (λ x. length x < length (b ∷ bs)) rest (omega arith);
    }

pub next_is : (text : List ℕ) (byte : ℕ) (after : List ℕ) → next_of text ≡ Some (byte, after) → IsNext text byte after
next_is [] byte after e = absurd cc
next_is (b ∷ []) byte after e = (elim (eqb b 37) as (λ t. eqb b 37 ≡ t → IsNext (b ∷ []) byte after) [
  | true ↦ λ t. absurd (let f = rw t at e in cc)
  | false ↦ λ t. (let f = rw t at e in plain_is b [] byte after refl (ap not t) cc)
]) refl
next_is (b ∷ h ∷ []) byte after e = (elim (eqb b 37) as (λ t. eqb b 37 ≡ t → IsNext (b ∷ h ∷ []) byte after) [
  | true ↦ λ t. absurd (let f = rw t at e in cc)
  | false ↦ λ t. (let f = rw t at e in
      plain_is b (h ∷ []) byte after refl (ap (λ x. not x && is_escaped (h ∷ [])) t) cc)
]) refl
next_is (b ∷ h ∷ l ∷ bs) byte after e = (elim (eqb b 37) as (λ t. eqb b 37 ≡ t → IsNext (b ∷ h ∷ l ∷ bs) byte after) [
  | true ↦ λ t.
      let f : pair_of (hex_of h) (hex_of l) bs ≡ Some (byte, after) = rw t at e in
      let p = pair_is (hex_of h) (hex_of l) bs (byte, after) f in
      record {
        says = says_if b h l bs true t ∙ (λ i. p.0 i ∷ unescaped (p.1 i));
        well = is_well_if b h l bs true t ∙ (λ i. p.2 i && p.3 i && is_escaped (p.1 i));
        shorter = subst (λ x. length x < length (b ∷ h ∷ l ∷ bs)) p.1 (omega arith);
      }
  | false ↦ λ t. (let f = rw t at e in
      plain_is b (h ∷ l ∷ bs) byte after (says_if b h l bs false t) (is_well_if b h l bs false t) cc)
]) refl

no_pair : (h l : Option ℕ) (rest : List ℕ) (r : Bool) → pair_of h l rest ≡ None
    → (is_digit h && is_digit l && r) ≡ false
no_pair (Some h) (Some l) rest r e = absurd cc
no_pair (Some h) None rest r e = refl
no_pair None l rest r e = refl

-- there is none: the text is at its end, or no two digits follow a percent sign
pub no_next : (text : List ℕ) → next_of text ≡ None → is_escaped text ≡ true → text ≡ []
no_next [] e w = refl
no_next (b ∷ []) e w = (elim (eqb b 37) as (λ t. eqb b 37 ≡ t → (b ∷ []) ≡ []) [
  | true ↦ λ t. absurd (let f = ap not (sym t) ∙ w in cc)
  | false ↦ λ t. absurd (let f = rw t at e in cc)
]) refl
no_next (b ∷ h ∷ []) e w = (elim (eqb b 37) as (λ t. eqb b 37 ≡ t → (b ∷ h ∷ []) ≡ []) [
  | true ↦ λ t. absurd (let f = ap (λ x. not x && is_escaped (h ∷ [])) (sym t) ∙ w in cc)
  | false ↦ λ t. absurd (let f = rw t at e in cc)
]) refl
no_next (b ∷ h ∷ l ∷ bs) e w = (elim (eqb b 37) as (λ t. eqb b 37 ≡ t → (b ∷ h ∷ l ∷ bs) ≡ []) [
  | true ↦ λ t. absurd (
      let f = sym (is_well_if b h l bs true t) ∙ w in
      let none = no_pair (hex_of h) (hex_of l) bs (is_escaped bs) (rw t at e) in cc)
  | false ↦ λ t. absurd (let f = rw t at e in cc)
]) refl

-- a text at which there is none is well escaped exactly where it is empty
pub ended_escaped : (text : List ℕ) (empty : Bool) → next_of text ≡ None → empty ≡ eqb (length text) 0
    → empty ≡ is_escaped text
ended_escaped text empty none is = (elim (is_escaped text) as (λ b. is_escaped text ≡ b → empty ≡ b) [
  | true ↦ λ well. is ∙ ap (λ l. eqb (length l) 0) (no_next text none well)
  | false ↦ λ bad. is ∙ some text bad
]) refl
  where
    some : (l : List ℕ) → is_escaped l ≡ false → eqb (length l) 0 ≡ false
    some [] bad = absurd (true≢false bad)
    some (x ∷ xs) bad = grind (arith, nat_tests)
