-- What the test of two numbers says where it fails.
use Rattle.std.proofs.Common.{◌≡◌, ◌≤◌, ℕ, false, nat_lt, arith}
use Rattle.std.proofs.lemmas.Bool.Decides.{nat_tests}

pub lt_not : (a b : ℕ) → nat_lt a b ≡ false → b ≤ a
lt_not a b h = grind (arith, nat_tests)
