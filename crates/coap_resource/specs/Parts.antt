-- Where the bytes of a response's payload are.
use Rattle.std.specs.Prelude.{ℕ, List, Option, Some, None}

-- what is shared with the store, in place of what it lends
abbrev pub part_bytes : List ℕ → Option (List ℕ) → List ℕ
part_bytes lent None = lent
part_bytes lent (Some bytes) = bytes
