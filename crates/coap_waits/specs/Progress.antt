-- How far a body is that goes or comes in blocks (RFC 7959, section 2.2).
use Rattle.std.specs.Prelude.{ℕ, Bool, ◌+◌, ◌-◌, ◌/◌, ◌%◌, ◌^◌, nat_lt, if◌then◌else◌, true, false, List, Option, Some}
use Rattle.std.specs.Prelude.{None, option_map}
use Rattle.coap_links.specs.declared.trace.Way.{Way}
use Rattle.coap_links.specs.declared.trace.Way.TheVariants.{Comes, Goes}
use Rattle.coap_types.specs.BlockValue.{block_in}
use Rattle.coap_types.specs.CoapOption.{CoapOption}
use Rattle.coap_types.specs.OptionValues.{uint_at, value_of}
use Rattle.coap_types.specs.declared.block.Block.{Block}
use Rattle.coap_types.specs.declared.endpoint.Moment.{Moment}
use Rattle.coap_types.specs.declared.option_number.TheConstants.{BLOCK1 as block1, BLOCK2 as block2, SIZE2 as size2}
use Rattle.coap_waits.specs.declared.progress.Progress.{Progress}
use Rattle.coap_waits.specs.declared.progress.TheConstants.{SHOWN_MS as shown_ms}

-- a block of this number is not the whole body: it is not the first, or more follow
abbrev pub is_in_blocks : ℕ → Bool → Bool
is_in_blocks num more = if nat_lt 0 num then true else more

-- how many blocks of this size a body of so many bytes has, of which the last may be shorter
abbrev pub blocks_of : ℕ → ℕ → ℕ
blocks_of len szx = len / 2 ^ (szx + 4) + (if nat_lt 0 (len % 2 ^ (szx + 4)) then 1 else 0)

-- how far a body of so many bytes is told to be at this block of it, where it has another one
abbrev pub told_of : Way → Block → Option ℕ → Option Progress
told_of way block len =
    if is_in_blocks block.num block.more
    then Some (record { way = way; block = block.num + 1; of = option_map (λ n. blocks_of n block.szx) len })
    else None

abbrev pub told_if : Way → Option Block → Option ℕ → Option Progress
told_if way None len = None
told_if way (Some block) len = told_of way block len

-- the block that the first option of a number says
abbrev pub block_said : Option (List ℕ) → Option Block
block_said None = None
block_said (Some value) = block_in value

abbrev pub block_at : ℕ → List CoapOption → Option Block
block_at number options = block_said (value_of number options)

-- how many bytes a body has that comes: what its messages with a block said last (RFC 7959, section 4)
abbrev pub len_said : Option Block → Option ℕ → Option ℕ → Option ℕ
len_said None said got = got
len_said (Some block) None got = got
len_said (Some block) (Some n) got = Some n

abbrev pub len_after : Way → List CoapOption → Option ℕ → Option ℕ
len_after Goes options got = got
len_after Comes options got = len_said (block_at block2 options) (uint_at size2 options) got

-- what a message tells of the body: that which goes by Block1, and that which comes by Block2
abbrev pub told_in : Way → ℕ → List CoapOption → Option ℕ → Option Progress
told_in Goes sent options got = told_if Goes (block_at block1 options) (Some sent)
told_in Comes sent options got = told_if Comes (block_at block2 options) (len_after Comes options got)

-- less than `SHOWN_MS` passed since something was shown
abbrev pub is_fresh : Option Moment → Moment → Bool
is_fresh None now = false
is_fresh (Some shown) now = nat_lt (now.0 - shown.0) shown_ms
