-- When parts are a whole body (RFC 7959, sections 2.4 and 2.5).
use Rattle.std.specs.Prelude.{◌≡◌, ◌≢◌, ℕ, Bool, true, false, ◌+◌, ◌++◌, ◌⊎◌, List, [], ◌∷◌, length, Option, Some}
use Rattle.coap_types.specs.Piece.{offset_of, part_of, Begins, Piece}

-- a part as it came: its block, its tag and its bytes
pub record Part : Type 0 where
  pub num : ℕ
  pub more : Bool
  pub szx : ℕ
  pub tag : Option (List ℕ)
  pub bytes : List ℕ

-- each element has the property
abbrev pub Each : {X : Type 0} → (X → Type 0) → List X → Type 0
Each P [] = Unit {0}
Each P (x ∷ xs) = P x × Each P xs

abbrev pub joined : List Part → List ℕ
joined [] = []
joined (p ∷ ps) = p.bytes ++ joined ps

abbrev pub IsPieceOf : List ℕ → Part → Type 0
IsPieceOf body p = Piece body p.num p.more p.szx p.bytes

-- the first begins there, each other where the one before ended
abbrev pub Chained : ℕ → List Part → Type 0
Chained at [] = Unit {0}
Chained at (p ∷ ps) = (offset_of p.num p.szx ≡ at) × Chained (at + length p.bytes) ps

-- the last one has no more behind it
abbrev pub Ends : List Part → Type 0
Ends [] = ⊥
Ends (p ∷ []) = p.more ≡ false
Ends (p ∷ q ∷ ps) = Ends (q ∷ ps)

-- the parts are the pieces of the body, from its start to its end
pub record InOrder (parts : List Part) (body : List ℕ) : Type 0 where
  pub pieces : Each (IsPieceOf body) parts
  pub chained : Chained 0 parts
  pub ends : Ends parts

abbrev pub HasTag : List ℕ → Part → Type 0
HasTag t p = p.tag ≡ Some t

-- all carry one ETag, if there are several
abbrev pub OneTag : List Part → Type 0
OneTag [] = Unit {0}
OneTag (p ∷ []) = Unit {0}
OneTag (p ∷ q ∷ ps) = (t : List ℕ) × Each (HasTag t) (p ∷ q ∷ ps)

-- what a client was given of a body: parts with Block2, or one payload without it
pub data Payloads : Type 0 where
  Blocks : (parts : List Part) → Payloads
  Alone : (payload : List ℕ) → Payloads

-- at a client: its pieces in order under one ETag, or the one payload
abbrev pub Whole : Payloads → List ℕ → Type 0
Whole (Blocks parts) body = InOrder parts body × OneTag parts
Whole (Alone payload) body = payload ≡ body

-- the bytes and the place are those of a piece, and it says that more follows
pub record ShowsMore (body : List ℕ) (p : Part) : Type 0 where
  pub bytes : p.bytes ≡ part_of body p.num p.szx
  pub begins : Begins body p.num p.szx
  pub more : p.more ≡ true

-- the last part is empty: the one before it reached the end, and yet said that more follows
pub record ClosedByEmpty (parts : List Part) (body : List ℕ) : Type 0 where
  pub front : List Part
  pub last : Part
  pub split : parts ≡ front ++ last ∷ []
  pub some : front ≢ []
  pub shown : Each (ShowsMore body) front
  pub chained : Chained 0 parts
  pub at_end : offset_of last.num last.szx ≡ length body
  pub empty : last.bytes ≡ []
  pub closes : last.more ≡ false

-- at a server
abbrev pub WholeAtServer : List Part → List ℕ → Type 0
WholeAtServer parts body = InOrder parts body ⊎ ClosedByEmpty parts body

-- what is whole for two bodies is whole for one
abbrev pub OneBody : Type 0
OneBody = (given : Payloads) (a b : List ℕ) → Whole given a → Whole given b → a ≡ b

abbrev pub OneBodyAtServer : Type 0
OneBodyAtServer = (parts : List Part) (a b : List ℕ) → WholeAtServer parts a → WholeAtServer parts b → a ≡ b
