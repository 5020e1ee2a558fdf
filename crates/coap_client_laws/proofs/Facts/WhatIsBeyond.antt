-- Where a call may send more requests than all passes over the longest body need: a part is heard that goes on behind
-- that (RFC 7959, section 2.4; the bounds are a profile).
use Rattle.std.specs.Prelude.{◌≡◌, ◌⊎◌, ◌≤◌, ℕ, ◌+◌, ◌*◌, true, Some, List}
use Rattle.coap_types.specs.Past.{Sometime}
use Rattle.coap_types.specs.Piece.{size_of, offset_of}
use Rattle.coap_types.specs.declared.block.Block.{Block}
use Rattle.coap_types.specs.declared.option_number.TheConstants.{BLOCK2 as block2}
use Rattle.coap_codec.specs.Message.{Message}
use Rattle.coap_block.specs.Sizes.{Sizes}
use Rattle.coap_block.specs.declared.fetch_judging.TheConstants.{MAX_RESTARTS as max_restarts}
use Rattle.coap_client.specs.Trace.{Call}
use Rattle.coap_client.specs.Responses.{content, block_at}
use Rattle.coap_client_laws.specs.Follows.Bodies.{HeardFor}
use Rattle.coap_client_laws.specs.Follows.Bounds.{max_blocks, requests}

-- the requests of all passes: a body is begun anew so often
abbrev pub all_passes : ℕ → ℕ
all_passes limit = (max_restarts + 1) * max_blocks limit

-- a block that ends where the longest body does, or behind that, and more follows
pub record GoesBeyond (limit : ℕ) (m : Message) : Type 0 where
  pub block : Block
  pub says : block_at block2 m ≡ Some block
  pub more : block.more ≡ true
  pub beyond : limit ≤ offset_of block.num block.szx + size_of block.szx

module _ (sizes : Sizes) where
  -- such a part is heard for the call
  pub record HearsBeyond (number : ℕ) (past : List Call) (c : Call) : Type 0 where
    pub message : Message
    pub heard : HeardFor sizes number message past c
    pub code : message.code ≡ content
    pub part : GoesBeyond sizes.limit message

  -- A call sends no more requests than that, or hears such a part.
  abbrev pub IsWithin : ℕ → List Call → Type 0
  IsWithin number t = (requests sizes number t ≤ all_passes sizes.limit) ⊎ Sometime (HearsBeyond number) t
