-- Which bytes of a body a block carries (RFC 7959, section 2.2).
use Rattle.std.specs.Prelude.{◌≡◌, ℕ, Bool, false, ◌+◌, ◌*◌, ◌^◌, ◌<◌, ◌≤◌, ◌↔◌, ◌⊎◌, List, [], length, take, drop}

abbrev pub size_of : ℕ → ℕ
size_of szx = 2 ^ (szx + 4)

abbrev pub offset_of : ℕ → ℕ → ℕ
offset_of num szx = num * size_of szx

-- size many bytes from the block's offset on, or up to the end
abbrev pub part_of : List ℕ → ℕ → ℕ → List ℕ
part_of body num szx = take (size_of szx) (drop (offset_of num szx) body)

-- the block begins in the body; an empty body has block 0
abbrev pub Begins : List ℕ → ℕ → ℕ → Type 0
Begins body num szx = (offset_of num szx < length body) ⊎ ((num ≡ 0) × (body ≡ []))

-- the part of a body that a block carries
pub record Piece (body : List ℕ) (num : ℕ) (more : Bool) (szx : ℕ) (part : List ℕ) : Type 0 where
  pub bytes : part ≡ part_of body num szx
  pub begins : Begins body num szx
  pub reaches_end : (more ≡ false) ↔ (length body ≤ offset_of num szx + size_of szx)
