-- What the block of a value says, and that a block that is written is read back.
use Rattle.std.proofs.Common.{◌≡◌, ℕ, ◌≤◌, List, Some}
use Rattle.coap_types.specs.declared.block.Block.{Block}
use Rattle.coap_types.specs.declared.block.TheConstants.{MAX_NUM as max_num}
use Rattle.coap_types.specs.declared.szx.TheConstants.{MAX_SZX as max_szx}
use Rattle.coap_types.specs.BlockValue.{BlockSays, block_by, block_in, block_value}
use Rattle.coap_types.specs.Bytes.{AreBytes}
use Rattle.coap_types.proofs.Values.BlocksReadBack as B

pub block_says : (bytes : List ℕ) → AreBytes bytes → BlockSays bytes (block_in bytes)
block_says = B.block_says

pub block_reads_back : (b : Block) → b.num ≤ max_num → b.szx ≤ max_szx → block_by (block_value b) ≡ Some b
block_reads_back = B.reads_back
