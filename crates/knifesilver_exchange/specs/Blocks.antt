-- Blocks as they cross to C, and what is read of a message for a body in blocks (RFC 7959, sections 2.2, 2.4 and 2.5).
use Rattle.std.specs.Prelude.{◌≡◌, ◌+◌, ℕ, Bool, nat_lt, nat_le, ◌&&◌, List, length, take, Option, Some, None}
use Rattle.std.specs.Prelude.{if◌then◌else◌}
use Rattle.coap_types.specs.BlockValue.{block_in}
use Rattle.coap_types.specs.OptionValues.{value_of}
use Rattle.coap_types.specs.Piece.{Piece, offset_of, size_of}
use Rattle.coap_types.specs.declared.block.Block.{Block}
use Rattle.coap_types.specs.declared.option_number.TheConstants.{ETAG as etag}
use Rattle.coap_types.specs.declared.tag.TheConstants.{MAX_TAG_LEN as max_tag_len}
use Rattle.coap_codec.specs.Message.{Message, Spells}
use Rattle.knifesilver_exchange.specs.declared.crossing.KsBlock.{KsBlock}

-- the number, whether more follows, and the size exponent
abbrev pub AreBlock : KsBlock → Block → Type 0
AreBlock told b = (told.num ≡ b.num) × (told.more ≡ b.more) × (told.szx ≡ b.szx)

-- what the first option of a number says of a block: there is none; or its value is that of this one, or of none
abbrev pub ValueSays : Option (List ℕ) → Option Block → Type 0
ValueSays None block = block ≡ None
ValueSays (Some value) None = ⊥
ValueSays (Some value) (Some b) = block_in value ≡ Some b

abbrev pub SaysBlock : ℕ → Message → Option Block → Type 0
SaysBlock number m block = ValueSays (value_of number m.options) block

abbrev pub IsBadBlock : ℕ → Message → Type 0
IsBadBlock number m = (value : List ℕ) × (value_of number m.options ≡ Some value) × (block_in value ≡ None)

-- .. of what a datagram spells
abbrev pub IsBlockIn : List ℕ → ℕ → KsBlock → Type 0
IsBlockIn datagram number told =
    (m : Message) × (b : Block) × Spells datagram m × SaysBlock number m (Some b) × AreBlock told b

abbrev pub HasNoBlock : List ℕ → ℕ → Type 0
HasNoBlock datagram number = (m : Message) → Spells datagram m → SaysBlock number m None

abbrev pub HasBadBlock : List ℕ → ℕ → Type 0
HasBadBlock datagram number = (m : Message) × Spells datagram m × IsBadBlock number m

-- the entity-tag that the first ETag says, if its value has 1 to 8 bytes (RFC 7252, section 5.10.6)
abbrev pub tag_of : List ℕ → Option (List ℕ)
tag_of value = if nat_lt 0 (length value) && nat_le (length value) max_tag_len then Some value else None

abbrev pub tag_in_value : Option (List ℕ) → Option (List ℕ)
tag_in_value None = None
tag_in_value (Some value) = tag_of value

abbrev pub tag_in : Message → Option (List ℕ)
tag_in m = tag_in_value (value_of etag m.options)

-- more of a body of that length follows the block
abbrev pub follows : ℕ → Block → Bool
follows len b = nat_lt (offset_of b.num b.szx + size_of b.szx) len

-- the piece of the body at the block that was asked for, at the front of the room
abbrev pub IsSlice : (body : List ℕ) (asked given : KsBlock) (room : List ℕ) (len : ℕ) → Type 0
IsSlice body asked given room len = (given.num ≡ asked.num) × (given.szx ≡ asked.szx)
    × Piece body given.num given.more given.szx (take len room)
