-- What is written for a block is read as that block, and what a block that is read says.
use Rattle.std.proofs.Common.{◌≡◌, ℕ, ◌+◌, ◌*◌, ◌/◌, ◌%◌, ◌^◌, ◌<◌, ◌≤◌, ◌==◌, ◌&&◌, List, length, nat_le}
use Rattle.std.proofs.Common.{if◌then◌else◌, None, Bool, true, false, Some, refl, ap, sym, rules, ◌∙◌, arith}
use Rattle.std.proofs.Math.Nat.{pow-le-pow_right}
use Rattle.std.proofs.lemmas.Bool.{and_from, cond-true, eqb-true, le-leb, leb-true}
use Rattle.std.proofs.lemmas.Bool.Decides.{nat_tests}
use Rattle.coap_types.specs.declared.block.Block.{Block}
use Rattle.coap_types.specs.declared.block.TheConstants.{MAX_BLOCK_LEN as max_block_len, MAX_NUM as max_num}
use Rattle.coap_types.specs.declared.szx.TheConstants.{MAX_SZX as max_szx}
use Rattle.coap_types.specs.BlockValue.{BlockSays, block_by, block_in, block_value, more_bit}
use Rattle.coap_types.specs.Bytes.{AreBytes}
use Rattle.coap_types.specs.Uint.{number_of, uint_value}
use Rattle.coap_types.proofs.Values.UintsHaveOneSpelling.{number_below}

num_of : (more : Bool) (num szx : ℕ) → szx ≤ 6 → (num * 16 + more_bit more + szx) / 16 ≡ num
num_of true num szx small = omega arith
num_of false num szx small = omega arith

szx_of : (more : Bool) (num szx : ℕ) → szx ≤ 6 → (num * 16 + more_bit more + szx) % 8 ≡ szx
szx_of true num szx small = omega arith
szx_of false num szx small = omega arith

more_of : (more : Bool) (num szx : ℕ) → szx ≤ 6 → ((num * 16 + more_bit more + szx) / 8 % 2 == 1) ≡ more
more_of true num szx small = grind (arith, nat_tests)
more_of false num szx small = grind (arith, nat_tests)

pub reads_back : (b : Block) → b.num ≤ max_num → b.szx ≤ max_szx → block_by (block_value b) ≡ Some b
reads_back b few small =
    let num : block_value b / 16 ≡ b.num = num_of b.more b.num b.szx small in
    let szx : block_value b % 8 ≡ b.szx = szx_of b.more b.num b.szx small in
    let more : (block_value b / 8 % 2 == 1) ≡ b.more = more_of b.more b.num b.szx small in
    cond-true _ _ _ (and_from _ _ (le-leb (block_value b / 16) max_num (omega (arith, num, few)))
    (le-leb (block_value b % 8) max_szx (omega (arith, szx, small))))
    ∙ (λ i. Some (record { num = num i; more = more i; szx = szx i }))

-- the number that at most three bytes spell
few_num : (bytes : List ℕ) → AreBytes bytes → length bytes ≤ 3 → number_of bytes / 16 ≤ max_num
few_num bytes are_bytes short =
    let below : number_of bytes < 256 ^ length bytes = number_below bytes are_bytes in
    let powers : 256 ^ length bytes ≤ 256 ^ 3 = pow-le-pow_right {n = 256} (omega arith) short in
    omega (arith, below, powers)

value_back : (more : Bool) (n : ℕ) → (n / 8 % 2 == 1) ≡ more → n / 16 * 16 + more_bit more + n % 8 ≡ n
value_back true n is = let odd : n / 8 % 2 ≡ 1 = eqb-true (n / 8 % 2) 1 is in omega arith
value_back false n is = let even : n / 8 % 2 ≡ 0 = grind (arith, nat_tests) in omega arith

-- the function and the relation say the same
pub block_says : (bytes : List ℕ) → AreBytes bytes → BlockSays bytes (block_in bytes)
block_says bytes are_bytes = by (nat_le (length bytes) max_block_len) (nat_le (number_of bytes / 16) max_num)
    (nat_le (number_of bytes % 8) max_szx) refl refl refl
  where
    by : (a b c : Bool) → nat_le (length bytes) max_block_len ≡ a → nat_le (number_of bytes / 16) max_num ≡ b
        → nat_le (number_of bytes % 8) max_szx ≡ c
        → BlockSays bytes (if a then (if b && c then
        Some (record { num = number_of bytes / 16; more = number_of bytes / 8 % 2 == 1; szx = number_of bytes % 8 })
        else None) else None)
    by true true true is_a is_b is_c = record {
      value = value_back (number_of bytes / 8 % 2 == 1) (number_of bytes) refl;
      num = leb-true _ _ is_b;
      szx = leb-true _ _ is_c;
      when = (λ some. (leb-true _ _ is_a, leb-true _ _ is_c), λ both. search rules);
    }
    by true true false is_a is_b is_c = record {
      value = tt;
      num = tt;
      szx = tt;
      when = (λ some. absurd (cc some), λ both. absurd (grind (arith, nat_tests)));
    }
    by true false c is_a is_b is_c =
        let few : number_of bytes / 16 ≤ max_num = few_num bytes are_bytes (leb-true _ _ is_a) in
        absurd (grind (arith, nat_tests))
    by false b c is_a is_b is_c = record {
      value = tt;
      num = tt;
      szx = tt;
      when = (λ some. absurd (cc some), λ both. absurd (grind (arith, nat_tests)));
    }

-- the block of a value, by the number that it spells
pub block_read : (bytes : List ℕ) (number : ℕ) → length bytes ≤ 3 → Some number ≡ uint_value bytes
    → block_by number ≡ block_in bytes
block_read bytes number short read =
    let back : uint_value bytes ≡ Some (number_of bytes) =
    cond-true _ _ _ (le-leb (length bytes) 4 (omega (arith, short))) in
    let is : number ≡ number_of bytes = cc (read, back) in
    ap block_by is ∙ sym (cond-true _ _ _ (le-leb (length bytes) 3 short))
