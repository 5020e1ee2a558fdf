-- Which requests are short enough: by a count, or by their very length (RFC 7252, section 4.6).
use Rattle.std.specs.Prelude.{◌≡◌, ◌<◌, ◌≤◌, ◌+◌, ◌^◌, true, length}
use Rattle.std.specs.List.{list_all}
use Rattle.coap_types.specs.declared.limits.TheConstants.{MAX_MESSAGE_LEN as max_message_len}
use Rattle.coap_types.specs.declared.token.TheConstants.{MAX_TOKEN_LEN as max_token_len}
use Rattle.coap_codec.specs.BoundedSpelling.{is_numbered, most_bytes}
use Rattle.coap_codec.specs.Refused.{ascends, is_short}
use Rattle.coap_codec.specs.Spelling.{options_bytes}
use Rattle.coap_exchange.specs.AskerTrace.{Request}
use Rattle.coap_exchange.specs.Machine.AskerShown.{IsAskable}

-- it isn't Empty, and its options ascend and are short
pub record HasParts (r : Request) : Type 0 where
  pub some : 0 < r.code
  pub code : r.code < 2 ^ 8
  pub order : ascends 0 r.options ≡ true
  pub numbers : list_all is_numbered r.options ≡ true
  pub short : list_all is_short r.options ≡ true

-- it fits with a token of 8 bytes, by a count of 5 bytes and the value for each option
pub record IsShort (r : Request) : Type 0 where
  pub parts : HasParts r
  pub fits : 4 + (max_token_len + (most_bytes r.options + (1 + length r.payload))) ≤ max_message_len

-- .. by the length of its options
pub record IsShortExactly (r : Request) : Type 0 where
  pub parts : HasParts r
  pub fits : 4 + (max_token_len + (length (options_bytes 0 r.options) + (1 + length r.payload))) ≤ max_message_len

abbrev pub IsAskableWhenShort : Type 0
IsAskableWhenShort = (r : Request) → IsShort r → IsAskable r

abbrev pub IsAskableWhenShortExactly : Type 0
IsAskableWhenShortExactly = (r : Request) → IsShortExactly r → IsAskable r
