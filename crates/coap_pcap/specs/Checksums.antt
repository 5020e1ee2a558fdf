-- The Internet checksum (RFC 1071, section 1).
use Rattle.std.specs.Prelude.{ℕ, ◌+◌, ◌-◌, ◌*◌, ◌==◌, nat_lt, if◌then◌else◌, List, [], ◌∷◌}

-- ones' complement addition of 16 bits: the carry is added again
unfoldable pub ones_add : ℕ → ℕ → ℕ
ones_add a b = if nat_lt (a + b) 65536 then a + b else (a + b) - 65535

-- this sum and the bytes, as numbers of 16 bits; a last odd byte stands in front of a 0
abbrev pub sum_on : ℕ → List ℕ → ℕ
sum_on sum [] = sum
sum_on sum (a ∷ []) = ones_add sum (a * 256)
sum_on sum (a ∷ b ∷ more) = sum_on (ones_add sum (a * 256 + b)) more

-- the ones' complement of a sum
abbrev pub complement : ℕ → ℕ
complement sum = 65535 - sum

-- that of UDP, where 0 says that there is none (RFC 768)
unfoldable pub complement_of_udp : ℕ → ℕ
complement_of_udp sum = if complement sum == 0 then 65535 else complement sum
