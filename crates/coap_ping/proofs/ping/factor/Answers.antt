use Rattle.std.proofs.Common.{ℕ, ◌*◌, ◌%◌, ◌-◌, ◌^◌, ◌≤◌, arith}
use Rattle.std.proofs.Math.Pow.{pow_mono}
use Rattle.coap_types.specs.declared.transmission.TheConstants.{MAX_RETRANSMIT as max_retransmit}
use Rattle.coap_types.specs.declared.transmission.TheConstants.{FAILURE_TIMEOUTS as failure_timeouts}
use Rattle.coap_ping.proofs.ping.factor.Goals as goal

short : (k : ℕ) → k ≤ max_retransmit → 1 * 2 ^ k % 18446744073709551616 - 1 ≤ failure_timeouts
short k le =
    let most : 2 ^ k ≤ 2 ^ max_retransmit = pow_mono le in
    let there : 2 ^ max_retransmit ≤ failure_timeouts = omega arith in
    bounded (2 ^ k) (omega (arith, most, there))
  where
    bounded : (n : ℕ) → n ≤ failure_timeouts → 1 * n % 18446744073709551616 - 1 ≤ failure_timeouts
    bounded n h = omega (arith, h)

pub returns-clause-short : goal.returns-clause-short
returns-clause-short c = short c.args.copy c.requires
