-- What an upload has sent, by the parts before the block to send (RFC 7959, section 2.5).
use Rattle.std.specs.Prelude.{◌≡◌, ℕ, false, ◌++◌, List, [], ◌∷◌, length, None}
use Rattle.coap_types.specs.declared.block.Block.{Block}
use Rattle.coap_types.specs.Piece.{offset_of, part_of, Begins}
use Rattle.coap_block.specs.Whole.{Part, Each, joined, IsPieceOf, Chained, InOrder}
use Rattle.coap_block.specs.UploadStep.{UploadState, upload_start, more_follows, Continues, moved}

abbrev pub part_to_send : UploadState → Part
part_to_send s = record {
  num = s.num;
  more = more_follows s;
  szx = s.szx;
  tag = None;
  bytes = part_of s.body s.num s.szx;
}

pub record Sent (parts : List Part) (s : UploadState) : Type 0 where
  pub pieces : Each (IsPieceOf s.body) parts
  pub chained : Chained 0 parts
  pub at : offset_of s.num s.szx ≡ length (joined parts)
  pub begins : Begins s.body s.num s.szx

abbrev pub SentAtStart : Type 0
SentAtStart = (body : List ℕ) (szx : ℕ) → Sent [] (upload_start body szx)

abbrev pub SentByPart : Type 0
SentByPart = (parts : List Part) (s : UploadState) (answer : Block) → Sent parts s → Continues s answer
    → Sent (parts ++ part_to_send s ∷ []) (moved s answer)

-- with the last one, the parts are the body in order
abbrev pub WholeBySent : Type 0
WholeBySent = (parts : List Part) (s : UploadState) → Sent parts s → more_follows s ≡ false
    → InOrder (parts ++ part_to_send s ∷ []) s.body
