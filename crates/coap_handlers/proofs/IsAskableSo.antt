-- A request that is spelled in few enough bytes with a token of 8 bytes may be asked with any.
use Rattle.std.proofs.Common.{◌≡◌, ◌≢◌, ◌≤◌, ◌<◌, ℕ, List, ◌++◌, length, refl, subst, arith, take}
use Rattle.std.proofs.lemmas.List.{length-take}
use Rattle.coap_types.specs.MethodCode.{method_code}
use Rattle.coap_types.specs.declared.limits.TheConstants.{MAX_MESSAGE_LEN as max_message_len}
use Rattle.coap_types.specs.declared.message.Kind.{Kind}
use Rattle.coap_types.specs.declared.message.Kind.TheVariants.{Con}
use Rattle.coap_types.specs.declared.message.TheConstants.{MESSAGE_IDS as message_ids}
use Rattle.coap_types.specs.declared.request.Method.{Method}
use Rattle.coap_types.specs.declared.request.Method.TheVariants.{Get, Post, Put, Delete}
use Rattle.coap_types.specs.declared.token.TheConstants.{MAX_TOKEN_LEN as max_token_len}
use Rattle.coap_codec.proofs.Facts.Spelling.{message_length, spelled_by_no_others}
use Rattle.coap_codec.specs.Message.{Spells, header, marked}
use Rattle.coap_codec.specs.Refused.{HasNoSpelling}
use Rattle.coap_codec.specs.Spelling.{message_bytes}
use Rattle.coap_exchange.specs.AskerRequests.{content_of}
use Rattle.coap_exchange.specs.AskerTrace.{Request}
use Rattle.coap_exchange.specs.Machine.AskerShown.{IsAskable}
use Rattle.coap_layer.specs.Sendable.{IsSendable}
use Rattle.coap_layer.specs.Trace.{Content, with_head}

spelled_with : (r : Request) (t u : List ℕ) (k kind : Kind) (i id : ℕ) (bytes : List ℕ) → r.code ≢ 0
    → length u ≤ max_token_len → Spells bytes (with_head k i (content_of t r)) → id < message_ids
    → (all : List ℕ) × Spells all (with_head kind id (content_of u r))
spelled_with r t u k kind i id bytes some few is small = (
  header (with_head kind id (content_of u r)) ++ (u ++ (is.option_bytes ++ marked r.payload)),
  record {
    code = is.code;
    id = small;
    token = few;
    option_bytes = is.option_bytes;
    options = is.options;
    parts = refl;
    empty = λ e. absurd (some e);
  },
)

-- no method has code 0.00
pub has_method : (m : Method) → (method_code m).0 ≢ 0
has_method Get h = absurd cc
has_method Post h = absurd cc
has_method Put h = absurd cc
has_method Delete h = absurd cc

-- .. by the code of its method
abbrev pub coded : ℕ → List ℕ → Request → Content
coded code token r = record { code = code; token = token; options = r.options; payload = r.payload }

pub askable_so : (code : ℕ) (t : List ℕ) (r s : Request) (n : ℕ) (old new : List ℕ) → code ≡ s.code
    → length t ≡ max_token_len → s ≡ r
    → s.code ≢ 0 → n ≤ length old → length old ≡ max_message_len
    → Spells (take n new) (with_head Con 0 (coded code t s)) → IsAskable r
askable_so code t r s n old new same long is some fits room spells u few =
    subst (λ (x : Request). IsSendable (content_of u x)) is (
    let spelled : Spells (take n new) (with_head Con 0 (content_of t s)) =
    subst (λ (k : ℕ). Spells (take n new) (with_head Con 0 (coded k t s))) same spells in
    let front = length-take n new in
    let whole = spelled_by_no_others (take n new) (with_head Con 0 (content_of t s)) spelled in
    let short : length (message_bytes (with_head Con 0 (content_of t s))) ≤ max_message_len =
    subst (λ (b : List ℕ). length b ≤ max_message_len) whole (omega (arith, front, fits, room)) in
    record {
      code = some;
      spelled = λ kind id small.
          let so = spelled_with s t u Con kind 0 id (take n new) some few spelled small in
          subst (λ (b : List ℕ). Spells b (with_head kind id (content_of u s)))
          (spelled_by_no_others so.0 (with_head kind id (content_of u s)) so.1) so.1;
      fits = λ kind id small.
          let here = message_length (with_head Con 0 (content_of t s)) in
          let there = message_length (with_head kind id (content_of u s)) in
          omega (arith, here, there, short, few, long);
    })

pub unaskable_so : (code : ℕ) (t : List ℕ) (r s : Request) (room : ℕ) → code ≡ s.code → length t ≡ max_token_len → s ≡ r
    → room ≡ max_message_len
    → HasNoSpelling (with_head Con 0 (coded code t s)) room → IsAskable r → ⊥
unaskable_so code t r s room same long is whole none can =
    let never : HasNoSpelling (with_head Con 0 (content_of t r)) room =
    subst (λ (x : Request). HasNoSpelling (with_head Con 0 (content_of t x)) room) is
    (subst (λ (k : ℕ). HasNoSpelling (with_head Con 0 (coded k t s)) room) same none) in
    let small : 0 < message_ids = omega arith in
    let sends = can t (omega (arith, long)) in
    let few = sends.fits Con 0 small in
    never (message_bytes (with_head Con 0 (content_of t r))) (sends.spelled Con 0 small) (omega (arith, few, whole))
