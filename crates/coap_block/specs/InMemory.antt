-- Where the bytes of a body are that is gathered.
use Rattle.std.specs.Prelude.{ℕ, List, Option, Some, None}

-- the front of a body that was given out, in place of those that are held alone
abbrev pub bytes_in : List ℕ → Option (List ℕ) → List ℕ
bytes_in own None = own
bytes_in own (Some front) = front
