-- What a configuration chooses, and which one can be taken.
use Rattle.std.specs.Prelude.{◌≡◌, ◌≤◌, ◌<◌, ◌+◌, ◌^◌, ◌⊎◌, ℕ, ℤ, ◌==◌, ◌||◌, if◌then◌else◌, Option, Some, None}
use Rattle.coap_types.specs.declared.body_limit.TheConstants.{MAX_BODY_LIMIT as max_limit}
use Rattle.coap_types.specs.declared.remembered.TheConstants.{MAX_REMEMBERED as max_remembered}
use Rattle.coap_types.specs.declared.szx.TheConstants.{MAX_SZX as max_szx}
use Rattle.coap_resource.specs.Base.{IsBase}
use Rattle.coap_resource.specs.declared.tally.TheConstants.{MAX_CHANGES_PER_WINDOW as max_changes}
use Rattle.knifesilver.specs.declared.answers.TheConstants.{BAD_BASE as bad_base, BAD_BLOCK_SIZE as bad_block_size}
use Rattle.knifesilver.specs.declared.answers.TheConstants.{BAD_SIZE as bad_size}
use Rattle.knifesilver.specs.declared.answers.TheConstants.{BAD_BODY_LIMIT as bad_body_limit}
use Rattle.knifesilver.specs.declared.answers.TheConstants.{BAD_CHANGES as bad_changes}
use Rattle.knifesilver.specs.declared.answers.TheConstants.{BAD_REMEMBERED as bad_remembered}
use Rattle.knifesilver.specs.declared.config.KsConfig.{KsConfig}
use Rattle.knifesilver.specs.declared.config.TheConstants.{CONFIG_LEN as config_len, USUAL_BLOCK as usual_block}

-- the number that is chosen, where 0 chooses the usual one
abbrev pub chosen : ℕ → ℕ → ℕ
chosen usual n = if n == 0 then usual else n

-- it says how long it is, or 0
abbrev pub IsSize : ℕ → Type 0
IsSize size = (size ≡ 0) ⊎ (size ≡ config_len)

-- a block has so many bytes at some size exponent (RFC 7959, section 2.2)
abbrev pub IsBlockSize : ℕ → Type 0
IsBlockSize bytes = (szx : ℕ) × (szx ≤ max_szx) × (2 ^ (szx + 4) ≡ bytes)

-- .. which is that of the field SZX; 0 chooses the greatest
abbrev pub exponent_of : ℕ → Option ℕ
exponent_of bytes =
    if bytes == 16 then Some 0
    else if bytes == 32 then Some 1
    else if bytes == 64 then Some 2
    else if bytes == 128 then Some 3
    else if bytes == 256 then Some 4
    else if bytes == 512 then Some 5
    else if (bytes == 0) || (bytes == 1024) then Some 6
    else None

-- a configuration with which a client can be made
pub record CanBeTaken (config : KsConfig) : Type 0 where
  pub size : IsSize config.size
  pub block : IsBlockSize (chosen usual_block config.block_size)
  pub limit : config.body_limit ≤ max_limit
  pub remembered : config.remembered ≤ max_remembered

-- .. and one with which a server can
pub record ServesWith (config : KsConfig) : Type 0 where
  pub taken : CanBeTaken config
  pub changes : config.changes ≤ max_changes
  pub base : IsBase config.base

-- the answer says what is wrong with the configuration
abbrev pub SaysWrong : KsConfig → ℤ → Type 0
SaysWrong config answer =
    ((answer ≡ bad_size) × (IsSize config.size → ⊥))
    ⊎ ((answer ≡ bad_block_size) × (IsBlockSize (chosen usual_block config.block_size) → ⊥))
    ⊎ ((answer ≡ bad_body_limit) × (max_limit < config.body_limit))
    ⊎ ((answer ≡ bad_remembered) × (max_remembered < config.remembered))

-- .. or, of a server, that no window takes so many changes, or that no versions begin after that one
abbrev pub SaysWrongOfServer : KsConfig → ℤ → Type 0
SaysWrongOfServer config answer =
    SaysWrong config answer
    ⊎ ((answer ≡ bad_changes) × (max_changes < config.changes))
    ⊎ ((answer ≡ bad_base) × (IsBase config.base → ⊥))
