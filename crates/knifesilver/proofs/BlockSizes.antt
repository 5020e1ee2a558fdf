-- Which sizes a block has.
use Rattle.std.proofs.Common.{◌≡◌, ◌≤◌, ◌+◌, ◌^◌, ℕ, zero, suc, None, arith}
use Rattle.std.proofs.lemmas.Bool.Decides.{nat_tests}
use Rattle.knifesilver.specs.Configs.{IsBlockSize, chosen, exponent_of}
use Rattle.knifesilver.specs.declared.config.TheConstants.{USUAL_BLOCK as usual_block}

-- a block of that size has an exponent
has_one : (bytes szx : ℕ) → szx ≤ 6 → 2 ^ (szx + 4) ≡ chosen usual_block bytes → exponent_of bytes ≡ None → ⊥
has_one bytes zero small size is = grind (arith, nat_tests)
has_one bytes (suc zero) small size is = grind (arith, nat_tests)
has_one bytes (suc (suc zero)) small size is = grind (arith, nat_tests)
has_one bytes (suc (suc (suc zero))) small size is = grind (arith, nat_tests)
has_one bytes (suc (suc (suc (suc zero)))) small size is = grind (arith, nat_tests)
has_one bytes (suc (suc (suc (suc (suc zero))))) small size is = grind (arith, nat_tests)
has_one bytes (suc (suc (suc (suc (suc (suc zero)))))) small size is = grind (arith, nat_tests)
has_one bytes (suc (suc (suc (suc (suc (suc (suc n))))))) small size is = omega (arith, small)

pub none : (bytes : ℕ) → exponent_of bytes ≡ None → IsBlockSize (chosen usual_block bytes) → ⊥
none bytes is block = has_one bytes block.0 block.1 block.2 is
