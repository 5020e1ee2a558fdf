-- Which messages have a spelling, and how long it is at most (RFC 7252, sections 3 and 3.1).
use Rattle.std.specs.Prelude.{◌≡◌, ℕ, ◌+◌, ◌<◌, ◌≤◌, ◌^◌, nat_lt, Bool, true, List, [], ◌∷◌, length}
use Rattle.std.specs.List.{list_all}
use Rattle.coap_types.specs.CoapOption.{CoapOption}
use Rattle.coap_types.specs.declared.message.TheConstants.Code.{EMPTY as empty_code}
use Rattle.coap_codec.specs.Message.{Message, Spells}
use Rattle.coap_codec.specs.Refused.{ascends, is_short}
use Rattle.coap_types.specs.declared.token.TheConstants.{MAX_TOKEN_LEN as max_token_len}
use Rattle.coap_types.specs.declared.message.TheConstants.{MESSAGE_IDS as message_ids}

-- the number has 16 bits
abbrev pub is_numbered : CoapOption → Bool
is_numbered option = nat_lt option.number (2 ^ 16)

-- how many bytes options are at most: each is one byte, at most two that extend the delta, at most two that extend the
-- length, and its value
abbrev pub most_bytes : List CoapOption → ℕ
most_bytes [] = 0
most_bytes (option ∷ options) = (5 + length option.value) + most_bytes options

-- The message isn't Empty, its numbers have the bits of the format, and its options ascend and are short.
pub record CanBeSpelled (m : Message) : Type 0 where
  pub some : 0 < m.code
  pub code : m.code < 2 ^ 8
  pub id : m.id < message_ids
  pub token : length m.token ≤ max_token_len
  pub order : ascends 0 m.options ≡ true
  pub numbers : list_all is_numbered m.options ≡ true
  pub short : list_all is_short m.options ≡ true

-- The message is Empty, and no more than its header (section 4.1).
pub record IsBare (m : Message) : Type 0 where
  pub code : m.code ≡ empty_code.0
  pub id : m.id < message_ids
  pub token : m.token ≡ []
  pub options : m.options ≡ []
  pub payload : m.payload ≡ []

-- A message that can be spelled has a spelling, of the header, the token, the options, the payload marker and the
-- payload at most.
abbrev pub BoundedSpelling : Type 0
BoundedSpelling = (m : Message) → CanBeSpelled m
    → (bytes : List ℕ) × Spells bytes m × (length bytes ≤ 4 +
    (length m.token + (most_bytes m.options + (1 + length m.payload))))
