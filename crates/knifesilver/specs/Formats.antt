-- Formats as numbers (RFC 7252, section 12.3): -1 is none, and a number of over 16 bits counts as none.
use Rattle.std.specs.Prelude.{ℕ, ℤ, pos, negsuc, Option, Some, None, nat_lt, if◌then◌else◌}

abbrev pub format_in : ℤ → Option ℕ
format_in (pos n) = if nat_lt n 65536 then Some n else None
format_in (negsuc n) = None

abbrev pub number_of : Option ℕ → ℤ
number_of None = negsuc 0
number_of (Some n) = pos n
