-- A call's body is sent block by block, each after the answer to the one before (RFC 7959, section 2.5).
use Rattle.std.specs.Prelude.{◌≡◌, ℕ, ◌==◌, ◌⊎◌, Option, Some, None, List, [], ◌∷◌, ◌++◌, if◌then◌else◌}
use Rattle.coap_types.specs.Past.{Always}
use Rattle.coap_codec.specs.Message.{Message}
use Rattle.coap_types.specs.declared.block.Block.{Block}
use Rattle.coap_types.specs.Piece.{part_of}
use Rattle.coap_block.specs.Sizes.{Sizes}
use Rattle.coap_block.specs.Whole.{Part}
use Rattle.coap_block.specs.Sent.{Sent, part_to_send}
use Rattle.coap_block.specs.UploadStep.{UploadState, Continues, moved}
use Rattle.coap_types.specs.declared.option_number.TheConstants.{BLOCK1 as block1}
use Rattle.coap_client.specs.Trace.{Request, Call}
use Rattle.coap_client.specs.Own.{Operation, Calling, Uploads}
use Rattle.coap_client.specs.Responses.{continue, block_at}
use Rattle.coap_client.specs.Law.{own_of}
use Rattle.coap_client.specs.Sendings.{WasTaken, Sending, sends, hears, last_sent}

-- the Block1 transfer that a request carries, and of which call
pub record Carried : Type 0 where
  pub number : ℕ
  pub upload : UploadState

abbrev pub carried : Operation → Option Carried
carried (Calling number r (Uploads u)) = Some (record { number = number; upload = u })
carried op = None

-- the blocks of a call that were sent, the oldest first
abbrev pub block_of : ℕ → Option Carried → List Part
block_of number None = []
block_of number (Some x) = if x.number == number then part_to_send x.upload ∷ [] else []

abbrev pub block_in_sending : ℕ → Option Sending → List Part
block_in_sending number None = []
block_in_sending number (Some x) = block_of number (carried x.operation)

module _ (sizes : Sizes) where
  abbrev pub blocks : ℕ → List Call → List Part
  blocks number [] = []
  blocks number (c ∷ past) = blocks number past ++ block_in_sending number (sends (own_of sizes past) c)

  -- the call hears the 2.31 to the block that was sent last, which lets this one be sent
  pub record FollowsContinue (past : List Call) (c : Call) (x : Carried) : Type 0 where
    pub before : Sending
    pub last : last_sent sizes past ≡ Some before
    pub upload : UploadState
    pub of : carried before.operation ≡ Some (record { number = x.number; upload = upload })
    pub message : Message
    pub heard : hears c ≡ Some message
    pub token : message.token ≡ before.token
    pub code : message.code ≡ continue
    pub block : Block
    pub says : block_at block1 message ≡ Some block
    pub fits : Continues upload block
    pub next : x.upload ≡ moved upload block

  -- What is sent is a piece of the call's body, behind the pieces that were sent: the first, or one that follows the
  -- answer.
  pub record SendsPiece (past : List Call) (c : Call) (x : Sending) (y : Carried) : Type 0 where
    pub request : Request
    pub taken : WasTaken (record { number = y.number; request = request }) past
    pub body : y.upload.body ≡ request.body
    pub sent : Sent (blocks y.number past) y.upload
    pub payload : x.request.payload ≡ part_of y.upload.body y.upload.num y.upload.szx
    pub follows : (blocks y.number past ≡ []) ⊎ FollowsContinue past c y

  abbrev pub SendsPieces : List Call → Type 0
  SendsPieces trace = Always (λ past c. (x : Sending) (y : Carried) → sends (own_of sizes past) c ≡ Some x
      → carried x.operation ≡ Some y → SendsPiece past c x y) trace
