-- The bit of a Block option that says that more follows (RFC 7959, section 2.2).
use Rattle.std.proofs.Common.{◌≤◌, Bool, true, false, arith}
use Rattle.coap_types.specs.BlockValue.{more_bit}

pub bit_small : (b : Bool) → more_bit b ≤ 8
bit_small true = omega arith
bit_small false = omega arith
