-- How many blocks of the smallest size a body has that reaches a limit.
use Rattle.std.proofs.Common.{◌≤◌, ℕ, ◌+◌, ◌*◌, arith}
use Rattle.coap_client_laws.specs.Follows.Bounds.{max_blocks}

-- they hold such a body
pub blocks_hold : (limit : ℕ) → limit ≤ 16 * max_blocks limit
blocks_hold limit = omega arith

pub one_block : (limit : ℕ) → 1 ≤ max_blocks limit
one_block limit = omega arith

-- each but the last is full
pub within_blocks : (limit n : ℕ) → 16 * n ≤ limit + 15 → n ≤ max_blocks limit
within_blocks limit n few = omega (arith, few)
