-- What is sendable is spelled.
use Rattle.std.proofs.Common.{◌≡◌, ◌<◌, ℕ, List, subst, ap}
use Rattle.coap_types.specs.CoapOption.{CoapOption}
use Rattle.coap_types.specs.declared.message.Kind.{Kind}
use Rattle.coap_codec.specs.Laws.{OneSpelling}
use Rattle.coap_codec.specs.Message.{Message, Spells}
use Rattle.coap_codec.specs.Refused.{HasNoSpelling}
use Rattle.coap_codec.specs.Spelling.{message_bytes}
use Rattle.coap_layer.specs.Sendable.{IsSendable}
use Rattle.coap_layer.specs.Trace.{Content, with_head}
use Rattle.coap_types.specs.declared.message.TheConstants.{MESSAGE_IDS as message_ids}
use Rattle.coap_types.specs.declared.limits.TheConstants.{MAX_MESSAGE_LEN as max_message_len}

-- its parts are those of the message
pub same_message : (kind a : Kind) (id b code d : ℕ) (token t : List ℕ) (options : List CoapOption) (payload : List ℕ)
    (content : Content)
    → a ≡ kind → d ≡ content.code → b ≡ id → t ≡ content.token
    → record { code = code; token = token; options = options; payload = payload } ≡ content
    → record { kind = a; code = d; id = b; token = t; options = options; payload = payload } ≡ with_head kind id content
same_message kind a id b code d token t options payload content k e i f is =
    let os = ap (λ (c : Content). c.options) is in
    let p = ap (λ (c : Content). c.payload) is in
    cc (k, e, i, f, os, p)

pub not_refused : (content : Content) (kind : Kind) (id : ℕ) (m : Message) → IsSendable content → id < message_ids
    → m ≡ with_head kind id content → HasNoSpelling m max_message_len → ⊥
not_refused content kind id m ok small is none =
    subst (λ x. HasNoSpelling x max_message_len) is none (message_bytes (with_head kind id content))
    (ok.spelled kind id small)
    (ok.fits kind id small)

pub spelled_so : OneSpelling → (content : Content) (kind : Kind) (id : ℕ) (m : Message) (bytes : List ℕ)
    → IsSendable content → id < message_ids → m ≡ with_head kind id content → Spells bytes m
    → bytes ≡ message_bytes (with_head kind id content)
spelled_so one content kind id m bytes ok small is spells =
    one (with_head kind id content) bytes (message_bytes (with_head kind id content)) (subst (Spells bytes) is spells)
    (ok.spelled kind id small)
