-- Parts of bytes are bytes.
use Rattle.std.proofs.Common.{◌≡◌, ℕ, true, ◌<◌, List, [], ◌∷◌, ◌++◌, take, drop, length, subst, sym, arith, inl, inr}
use Rattle.std.specs.Prelude.{nat_lt, slice_index}
use Rattle.std.specs.List.{list_all}
use Rattle.std.proofs.lemmas.Bool.{and_parts, cases_lt, ltb-true}
use Rattle.std.proofs.lemmas.List.{get_or_past, take-append-drop}
use Rattle.std.proofs.lemmas.List.Elements.{All-append, All-cons, All-from_get_or, All-get_or, All-nil, All-tail}
use Rattle.coap_types.specs.Bytes.{AreBytes}

abbrev is_byte : ℕ → Type 0
is_byte b = b < 256

pub AreBytes-nil : AreBytes []
AreBytes-nil = All-nil is_byte

pub AreBytes-cons : (b : ℕ) (bytes : List ℕ) → b < 256 → AreBytes bytes → AreBytes (b ∷ bytes)
AreBytes-cons b bytes = All-cons is_byte b bytes

-- bytes, by a test
pub bytes_are : (bytes : List ℕ) → list_all (λ b. nat_lt b 256) bytes ≡ true → AreBytes bytes
bytes_are [] e = AreBytes-nil
bytes_are (b ∷ bytes) e =
    let p = and_parts (nat_lt b 256) (list_all (λ x. nat_lt x 256) bytes) e in
    AreBytes-cons b bytes (ltb-true b 256 p.0) (bytes_are bytes p.1)

pub AreBytes-tail : (b : ℕ) (bytes : List ℕ) → AreBytes (b ∷ bytes) → AreBytes bytes
AreBytes-tail b bytes h = All-tail is_byte b bytes h

pub AreBytes-append : (front rest : List ℕ) → AreBytes front → AreBytes rest → AreBytes (front ++ rest)
AreBytes-append front rest = All-append is_byte front rest

pub AreBytes-rest : (front rest : List ℕ) → AreBytes (front ++ rest) → AreBytes rest
AreBytes-rest [] rest h = h
AreBytes-rest (b ∷ front) rest h = AreBytes-rest front rest (AreBytes-tail b (front ++ rest) h)

pub AreBytes-front : (front rest : List ℕ) → AreBytes (front ++ rest) → AreBytes front
AreBytes-front [] rest h = AreBytes-nil
AreBytes-front (b ∷ front) rest h =
    AreBytes-cons b front (All-get_or is_byte (b ∷ (front ++ rest)) 0 0 (omega arith) h)
    (AreBytes-front front rest (AreBytes-tail b (front ++ rest) h))

pub AreBytes-drop : (n : ℕ) (bytes : List ℕ) → AreBytes bytes → AreBytes (drop n bytes)
AreBytes-drop n bytes h = AreBytes-rest (take n bytes) (drop n bytes)
    (subst AreBytes (sym (take-append-drop n bytes)) h)

pub AreBytes-take : (n : ℕ) (bytes : List ℕ) → AreBytes bytes → AreBytes (take n bytes)
AreBytes-take n bytes h = AreBytes-front (take n bytes) (drop n bytes)
    (subst AreBytes (sym (take-append-drop n bytes)) h)

-- the byte at a place, 0 past the end
pub byte_at : (bytes : List ℕ) → AreBytes bytes → (i : ℕ) → slice_index bytes i < 256
byte_at bytes h i =
    elim (cases_lt i (length bytes)) [
      | inl here ↦ All-get_or is_byte bytes i 0 here h
      | inr past ↦ rw (get_or_past bytes i 0 past) (omega arith)
    ]

pub are_bytes : (bytes : List ℕ) → ((i : ℕ) → slice_index bytes i < 256) → AreBytes bytes
are_bytes bytes h = All-from_get_or is_byte bytes 0 (λ i here. h i)
