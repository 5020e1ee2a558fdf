-- Whether a list spells a message, as a test (RFC 7252, section 3); `spelling_law` says that it is just that.
use Rattle.std.specs.Prelude.{◌≡◌, true, ℕ, ◌^◌, nat_lt, nat_le, nat_eq, ◌==◌, ◌&&◌, ◌||◌, Bool, List, length}
use Rattle.std.specs.List.{list_all}
use Rattle.std.specs.Cmp.Lexicographic.{pointwise}
use Rattle.coap_codec.specs.BoundedSpelling.{is_numbered}
use Rattle.coap_codec.specs.Message.{Message, Spells}
use Rattle.coap_codec.specs.Refused.{ascends, is_short}
use Rattle.coap_codec.specs.Spelling.{message_bytes}
use Rattle.coap_types.specs.declared.token.TheConstants.{MAX_TOKEN_LEN as max_token_len}
use Rattle.coap_types.specs.declared.message.TheConstants.{MESSAGE_IDS as message_ids}

-- its code, its Message ID and its options' numbers have the bits of the format, its token has at most 8 bytes, its
-- options ascend and are short; an Empty one is its header alone
unfoldable pub has_spelling : Message → Bool
has_spelling m =
    nat_lt m.code (2 ^ 8) && (nat_lt m.id message_ids && (nat_le (length m.token) max_token_len
    && (ascends 0 m.options && (list_all is_numbered m.options && (list_all is_short m.options
    && (nat_lt 0 m.code || length (message_bytes m) == 4))))))

-- it has a spelling, and that is this list
unfoldable pub is_spelled : List ℕ → Message → Bool
is_spelled bytes m = has_spelling m && pointwise nat_eq bytes (message_bytes m)

-- The test holds just where the list spells the message.
abbrev pub IsTested : Type 0
IsTested = (bytes : List ℕ) (m : Message)
    → (is_spelled bytes m ≡ true → Spells bytes m) × (Spells bytes m → is_spelled bytes m ≡ true)
