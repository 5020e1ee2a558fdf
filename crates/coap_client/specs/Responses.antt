-- What a response says to a client (RFC 7252, sections 5.9 and 5.10; RFC 7641, section 3.2; RFC 7959, section 2.2).
use Rattle.std.specs.Prelude.{ℕ, Option, Some, None, List, length}
use Rattle.coap_types.specs.BlockValue.{block_in}
use Rattle.coap_types.specs.Uint.{number_of}
use Rattle.coap_types.specs.declared.message.TheConstants.Code as codes
use Rattle.coap_codec.specs.Message.{Message}
use Rattle.coap_types.specs.declared.block.Block.{Block}
use Rattle.coap_block.specs.declared.fetch_step.FetchRefusal.TheVariants as refusal
use Rattle.coap_block.specs.declared.fetch_verdict.Verdict.{Verdict}
use Rattle.coap_block.specs.declared.fetch_verdict.Verdict.TheVariants.{Refuse}
use Rattle.coap_block.specs.FetchStep.{FetchState, verdict}
use Rattle.coap_types.specs.OptionValues.{value_of}
use Rattle.coap_resource.specs.RequestOptions.{format_of}
use Rattle.coap_types.specs.declared.option_number.TheConstants.{OBSERVE as observe, BLOCK2 as block2}
pub use Rattle.coap_exchange.specs.Notifications.{said, tag_in, is_notification}
pub use Rattle.coap_exchange.specs.SuccessCodes.{created, deleted, changed, content, continue}

-- what a client has is fresh (RFC 7252, section 5.9.1.3)
abbrev pub valid : ℕ
valid = codes.VALID.0

abbrev pub format_in : Message → Option ℕ
format_in m = format_of (said m)

-- the sequence number of a notification
abbrev pub sequence_in : Message → ℕ
sequence_in m = elim (value_of observe (said m)) [ None ↦ 0 | Some value ↦ number_of value ]

-- the block that an option says, none at the reserved SZX 7
abbrev pub block_at : ℕ → Message → Option Block
block_at number m = elim (value_of number (said m)) [ None ↦ None | Some value ↦ block_in value ]

-- What a 2.05 means to a Block2 transfer; one whose Block2 says no block is a bad part.
abbrev pub part_by : FetchState → Option (List ℕ) → ℕ → Option (List ℕ) → Verdict
part_by f tag len None = verdict f None tag len
part_by f tag len (Some value) = elim (block_in value)
    [ None ↦ Refuse refusal.BadBlock | Some b ↦ verdict f (Some b) tag len ]

abbrev pub part : FetchState → Message → Verdict
part f m = part_by f (tag_in m) (length m.payload) (value_of block2 (said m))
