-- What may be sent (RFC 7252, sections 3 and 4.6).
use Rattle.std.specs.Prelude.{◌≢◌, ◌≤◌, ◌<◌, ◌+◌, ℕ, length}
use Rattle.coap_types.specs.declared.message.Kind.{Kind}
use Rattle.coap_types.specs.declared.message.Kind.TheVariants.{Con}
use Rattle.coap_codec.specs.BoundedSpelling.{CanBeSpelled, most_bytes}
use Rattle.coap_codec.specs.Spelling.{message_bytes}
use Rattle.coap_layer.specs.Trace.{Content, with_head}
use Rattle.coap_layer.specs.Rows.{IsSpelled}
use Rattle.coap_types.specs.declared.limits.TheConstants.{MAX_MESSAGE_LEN as max_message_len}
use Rattle.coap_types.specs.declared.message.TheConstants.{MESSAGE_IDS as message_ids}

-- It is not Empty, has a spelling, and is not longer than MAX_MESSAGE_LEN.
pub record IsSendable (c : Content) : Type 0 where
  pub code : c.code ≢ 0
  pub spelled : IsSpelled c
  pub fits : (kind : Kind) (id : ℕ) → id < message_ids → length (message_bytes (with_head kind id c)) ≤ max_message_len

-- What isn't Empty, has options that ascend and are short, and is short enough by this count, may be sent.
abbrev pub IsSendableWhenShort : Type 0
IsSendableWhenShort =
    (c : Content) → CanBeSpelled (with_head Con 0 c)
    → 4 + (length c.token + (most_bytes c.options + (1 + length c.payload))) ≤ max_message_len → IsSendable c
