-- The value of a Block option: NUM, the bit M, and SZX (RFC 7959, section 2.2).
use Rattle.std.specs.Prelude.{◌≡◌, ℕ, Bool, true, false, ◌+◌, ◌*◌, ◌/◌, ◌%◌, ◌≤◌, ◌==◌, ◌&&◌, ◌↔◌, IsSome, IfSome}
use Rattle.std.specs.Prelude.{nat_le, List, length, Option, Some, None, if◌then◌else◌}
use Rattle.coap_types.specs.Bytes.{AreBytes}
use Rattle.coap_types.specs.Uint.{number_of}
use Rattle.coap_types.specs.declared.block.Block.{Block}
use Rattle.coap_types.specs.declared.block.TheConstants.{MAX_BLOCK_LEN as max_block_len, MAX_NUM as max_num}
use Rattle.coap_types.specs.declared.szx.TheConstants.{MAX_SZX as max_szx, RESERVED_SZX as reserved_szx}

abbrev pub more_bit : Bool → ℕ
more_bit true = 8
more_bit false = 0

-- the number that is written for a block
abbrev pub block_value : Block → ℕ
block_value b = b.num * 16 + more_bit b.more + b.szx

-- the three fields of a number: SZX in its lowest three bits, M above it, and NUM above M
abbrev pub szx_field : ℕ → ℕ
szx_field n = n % 8

abbrev pub more_field : ℕ → Bool
more_field n = n / 8 % 2 == 1

abbrev pub num_field : ℕ → ℕ
num_field n = n / 16

-- the block that a number says: NUM has 20 bits, and SZX 7 is reserved
abbrev pub block_by : ℕ → Option Block
block_by n =
    if nat_le (num_field n) max_num && nat_le (szx_field n) max_szx then
    Some (record { num = num_field n; more = more_field n; szx = szx_field n })
    else None

-- the block that an option's value says: at most three bytes
abbrev pub block_in : List ℕ → Option Block
block_in bytes = if nat_le (length bytes) max_block_len then block_by (number_of bytes) else None

-- what the block of a value says, and when there is one
pub record BlockSays (bytes : List ℕ) (block : Option Block) : Type 0 where
  pub value : IfSome block (λ b. block_value b ≡ number_of bytes)
  pub num : IfSome block (λ b. b.num ≤ max_num)
  pub szx : IfSome block (λ b. b.szx ≤ max_szx)
  pub when : IsSome block ↔ ((length bytes ≤ max_block_len) × (szx_field (number_of bytes) ≤ max_szx))

-- a value is that of one block
abbrev pub OneBlock : Type 0
OneBlock = (a b : Block) → a.szx ≤ reserved_szx → b.szx ≤ reserved_szx → block_value a ≡ block_value b → a ≡ b

-- the function and the relation say the same
abbrev pub BlockIsSaid : Type 0
BlockIsSaid = (bytes : List ℕ) → AreBytes bytes → BlockSays bytes (block_in bytes)

-- what is written for a block is read as that block
abbrev pub BlockReadsBack : Type 0
BlockReadsBack = (b : Block) → b.num ≤ max_num → b.szx ≤ max_szx → block_by (block_value b) ≡ Some b
