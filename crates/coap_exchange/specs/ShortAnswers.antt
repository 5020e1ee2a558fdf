-- Which responses and notifications are short enough by a count (RFC 7252, section 4.6).
use Rattle.std.specs.Prelude.{◌≡◌, ◌<◌, ◌≤◌, ℕ, ◌+◌, ◌^◌, true, List, length}
use Rattle.std.specs.List.{list_all}
use Rattle.coap_types.specs.Roles.{role_of}
use Rattle.coap_types.specs.declared.limits.TheConstants.{MAX_MESSAGE_LEN as max_message_len}
use Rattle.coap_types.specs.declared.role.Role.TheVariants as role
use Rattle.coap_codec.specs.BoundedSpelling.{is_numbered, most_bytes}
use Rattle.coap_codec.specs.Refused.{ascends, is_short}
use Rattle.coap_exchange.specs.declared.answerer.Asked.{Asked}
use Rattle.coap_exchange.specs.AnswererTrace.{Response}
use Rattle.coap_exchange.specs.Machine.AnswererShown.{IsAnswer, IsAnswerWith}
use Rattle.coap_types.specs.declared.token.TheConstants.{MAX_TOKEN_LEN as max_token_len}

-- a code of class 2 to 5, options that ascend and are short, and few bytes by this count
pub record IsShortAnswer (r : Response) : Type 0 where
  pub role : role_of r.code ≡ role.Response
  pub some : 0 < r.code
  pub code : r.code < 2 ^ 8
  pub order : ascends 0 r.options ≡ true
  pub numbers : list_all is_numbered r.options ≡ true
  pub short : list_all is_short r.options ≡ true
  pub fits : 4 + (8 + (most_bytes r.options + (1 + length r.payload))) ≤ max_message_len

abbrev pub IsAnswerWhenShort : Type 0
IsAnswerWhenShort = (a : Asked) (r : Response) → length a.token ≤ max_token_len → IsShortAnswer r → IsAnswer a r

abbrev pub IsNotificationWhenShort : Type 0
IsNotificationWhenShort =
    (token : List ℕ) (r : Response) → length token ≤ max_token_len → IsShortAnswer r → IsAnswerWith token r
