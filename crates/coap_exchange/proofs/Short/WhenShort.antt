-- A short request may be asked, and a short response given.
use Rattle.std.proofs.Common.{◌≤◌, ◌<◌, ℕ, ◌+◌, List, [], ◌∷◌, length, arith}
use Rattle.coap_types.specs.declared.message.Kind.{Kind}
use Rattle.coap_types.specs.declared.limits.TheConstants.{MAX_MESSAGE_LEN as max_message_len}
use Rattle.coap_types.specs.declared.message.TheConstants.{MESSAGE_IDS as message_ids}
use Rattle.coap_types.specs.declared.token.TheConstants.{MAX_TOKEN_LEN as max_token_len}
use Rattle.coap_layer.proofs.Facts.Sendable.{sendable_when_short}
use Rattle.coap_layer.specs.Trace.{with_head}
use Rattle.coap_codec.specs.BoundedSpelling.{CanBeSpelled, most_bytes}
use Rattle.coap_codec.specs.Message.{marked}
use Rattle.coap_codec.proofs.Facts.Spelling.{message_length, spelled_by}
use Rattle.coap_exchange.specs.AskerRequests.{content_of}
use Rattle.coap_exchange.specs.ShortRequests.{IsAskableWhenShort, IsAskableWhenShortExactly}
use Rattle.coap_exchange.specs.AnswererSteps as answer
use Rattle.coap_exchange.specs.ShortAnswers.{IsAnswerWhenShort, IsNotificationWhenShort}

shorter : (t n : ℕ) → t ≤ max_token_len → 4 + (max_token_len + n) ≤ max_message_len
    → 4 + (t + n) ≤ max_message_len
shorter t n a b = omega (arith, a, b)

pub askable_when_short : IsAskableWhenShort
askable_when_short r s token few =
    let p = s.parts in
    sendable_when_short (content_of token r) (record {
      some = p.some;
      code = p.code;
      id = omega arith;
      token = few;
      order = p.order;
      numbers = p.numbers;
      short = p.short;
    })
    (shorter (length token) (most_bytes r.options + (1 + length r.payload)) few s.fits)

-- by the very length of the options

marked_most : (payload : List ℕ) → length (marked payload) ≤ 1 + length payload
marked_most [] = omega arith
marked_most (b ∷ bytes) = omega arith

pub askable_when_short_exactly : IsAskableWhenShortExactly
askable_when_short_exactly r s token few =
    let p = s.parts in
    let can : (kind : Kind) (id : ℕ) → id < message_ids → CanBeSpelled (with_head kind id (content_of token r)) =
    λ kind id small. record {
      some = p.some;
      code = p.code;
      id = omega (arith, small);
      token = few;
      order = p.order;
      numbers = p.numbers;
      short = p.short;
    } in
    record {
      code = λ e. let some = p.some in absurd (omega (arith, e));
      spelled = λ kind id small. spelled_by (with_head kind id (content_of token r)) (can kind id small);
      fits = λ kind id small.
          let len = message_length (with_head kind id (content_of token r)) in
          let most = marked_most r.payload in
          let fits = s.fits in
          omega (arith, len, most, few, fits);
    }

-- A short response may be given, and a short notification.
pub notification_when_short : IsNotificationWhenShort
notification_when_short token r few s =
    record {
      code = s.role;
      sendable = sendable_when_short (answer.content_with token r)
          (record {
            some = s.some;
            code = s.code;
            id = omega arith;
            token = few;
            order = s.order;
            numbers = s.numbers;
            short = s.short;
          })
          (shorter (length token) (most_bytes r.options + (1 + length r.payload)) few s.fits);
    }

pub answer_when_short : IsAnswerWhenShort
answer_when_short a r few s = notification_when_short a.token r few s
