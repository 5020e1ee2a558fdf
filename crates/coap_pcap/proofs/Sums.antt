-- The sum of bytes, two at a time.
use Rattle.std.proofs.Common.{◌≡◌, ℕ, ◌+◌, ◌*◌, ◌≤◌, List, [], ◌∷◌, length, drop, refl, arith}
use Rattle.std.specs.Prelude.{slice_index}
use Rattle.coap_pcap.specs.Checksums.{ones_add, sum_on}

pub sum_step : (sum : ℕ) (bytes : List ℕ) → 2 ≤ length bytes
    → sum_on sum bytes ≡ sum_on (ones_add sum (slice_index bytes 0 * 256 + slice_index bytes 1)) (drop 2 bytes)
sum_step sum [] long = absurd (omega (arith, long))
sum_step sum (a ∷ []) long = absurd (omega (arith, long))
sum_step sum (a ∷ b ∷ more) long = refl
