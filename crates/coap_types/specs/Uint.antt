-- Option values in the uint format: a number in network byte order (RFC 7252, section 3.2).
use Rattle.std.specs.Prelude.{ℕ, ◌+◌, ◌*◌, ◌/◌, ◌%◌, ◌^◌, ◌<◌, ◌==◌, ◌≡◌, List, [], ◌∷◌, length, Option, Some, None}
use Rattle.std.specs.Prelude.{nat_le, nat_lt, if◌then◌else◌}
use Rattle.coap_types.specs.declared.uint.TheConstants.{MAX_UINT_LEN as max_uint_len}
use Rattle.coap_types.specs.Bytes.{AreBytes}

-- the number that bytes spell, the most significant byte first; no byte spells 0
abbrev pub number_of : List ℕ → ℕ
number_of [] = 0
number_of (b ∷ bs) = b * 256 ^ length bs + number_of bs

-- what is read: at most MAX_UINT_LEN bytes, also where they lead with zeros
abbrev pub uint_value : List ℕ → Option ℕ
uint_value bytes = if nat_le (length bytes) max_uint_len then Some (number_of bytes) else None

-- no zero byte in front
abbrev pub LeadsWithNoZero : List ℕ → Type 0
LeadsWithNoZero [] = Unit {0}
LeadsWithNoZero (b ∷ bs) = 0 < b

-- what is sent for a number: bytes that spell it, with no zero byte in front
pub record IsSpelling (bytes : List ℕ) (number : ℕ) : Type 0 where
  pub are_bytes : AreBytes bytes
  pub spelt : number_of bytes ≡ number
  pub no_zero : LeadsWithNoZero bytes

-- the fewest bytes that spell a number of 32 bits, the most significant one first; none for 0
abbrev pub uint : ℕ → List ℕ
uint n =
    if n == 0 then []
    else if nat_lt n 256 then n ∷ []
    else if nat_lt n (256 ^ 2) then n / 256 ∷ n % 256 ∷ []
    else if nat_lt n (256 ^ 3) then n / 256 ^ 2 ∷ n / 256 % 256 ∷ n % 256 ∷ []
    else n / 256 ^ 3 ∷ n / 256 ^ 2 % 256 ∷ n / 256 % 256 ∷ n % 256 ∷ []
