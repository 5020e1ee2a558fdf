-- The sizes of blocks and bodies that are chosen (RFC 7959, sections 2.2 and 7).
use Rattle.std.specs.Prelude.{◌≡◌, ◌<◌, ◌≤◌, ◌⊎◌, ℕ, ℤ, ◌==◌, ◌||◌, if◌then◌else◌, Option, Some, None}
use Rattle.coap_types.specs.declared.body_limit.TheConstants.{DEFAULT_BODY_LIMIT as default_limit}
use Rattle.coap_types.specs.declared.body_limit.TheConstants.{MAX_BODY_LIMIT as max_limit}
use Rattle.knifesilver_exchange.specs.Fresh.{chosen}
use Rattle.knifesilver_exchange.specs.declared.answers.TheConstants.{BAD_BLOCK_SIZE as bad_block_size}
use Rattle.knifesilver_exchange.specs.declared.answers.TheConstants.{BAD_BODY_LIMIT as bad_body_limit}

-- the size exponent of blocks of so many bytes; 0 chooses the greatest
abbrev pub exponent_of : ℕ → Option ℕ
exponent_of bytes =
    if bytes == 16 then Some 0
    else if bytes == 32 then Some 1
    else if bytes == 64 then Some 2
    else if bytes == 128 then Some 3
    else if bytes == 256 then Some 4
    else if bytes == 512 then Some 5
    else if (bytes == 0) || (bytes == 1024) then Some 6
    else None

-- they are those of these numbers
abbrev pub AreChosen : (block_size body_limit szx limit : ℕ) → Type 0
AreChosen block_size body_limit szx limit = (exponent_of block_size ≡ Some szx) × (body_limit ≤ max_limit)
    × (limit ≡ chosen default_limit body_limit)

-- the number of a size that is none
abbrev pub SaysWrong : (block_size body_limit : ℕ) → ℤ → Type 0
SaysWrong block_size body_limit answer = ((answer ≡ bad_block_size) × (exponent_of block_size ≡ None))
    ⊎ ((answer ≡ bad_body_limit) × (max_limit < body_limit))
