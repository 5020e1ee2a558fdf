-- What is spelled in few enough bytes with one type and Message ID may be sent with any.
use Rattle.std.proofs.Common.{◌≡◌, ◌≢◌, ◌≤◌, ◌<◌, ℕ, List, ◌++◌, length, refl, subst, arith}
use Rattle.std.proofs.Common.{take}
use Rattle.std.proofs.lemmas.List.{length-take}
use Rattle.coap_types.specs.Roles.{role_of}
use Rattle.coap_types.specs.declared.role.Role.TheVariants as role
use Rattle.coap_types.specs.declared.message.Kind.{Kind}
use Rattle.coap_types.specs.declared.message.Kind.TheVariants.{Con}
use Rattle.coap_codec.specs.Refused.{HasNoSpelling}
use Rattle.coap_exchange.specs.AnswererTrace.{Response}
use Rattle.coap_exchange.specs.AnswererSteps.{content_with}
use Rattle.coap_types.specs.declared.limits.TheConstants.{MAX_MESSAGE_LEN as max_message_len}
use Rattle.coap_types.specs.declared.message.TheConstants.{MESSAGE_IDS as message_ids}
use Rattle.coap_codec.specs.Message.{Spells, header, marked}
use Rattle.coap_codec.specs.Spelling.{message_bytes}
use Rattle.coap_codec.proofs.Facts.Spelling.{message_length, spelled_by_no_others}
use Rattle.coap_layer.specs.Sendable.{IsSendable}
use Rattle.coap_layer.specs.Trace.{Content, with_head}

spelled_with : (c : Content) (k kind : Kind) (i id : ℕ) (bytes : List ℕ) → c.code ≢ 0
    → Spells bytes (with_head k i c) → id < message_ids
    → (all : List ℕ) × Spells all (with_head kind id c)
spelled_with c k kind i id bytes some is small = (
  header (with_head kind id c) ++ (c.token ++ (is.option_bytes ++ marked c.payload)),
  record {
    code = is.code;
    id = small;
    token = is.token;
    option_bytes = is.option_bytes;
    options = is.options;
    parts = refl;
    empty = λ e. absurd (some e);
  },
)

pub is_sendable_so : (c : Content) (kind : Kind) (id : ℕ) (bytes : List ℕ) → c.code ≢ 0
    → Spells bytes (with_head kind id c)
    → length bytes ≤ max_message_len → IsSendable c
is_sendable_so c k i bytes some is few =
    let long : length (message_bytes (with_head k i c)) ≤ max_message_len =
    subst (λ b. length b ≤ max_message_len) (spelled_by_no_others bytes (with_head k i c) is) few in
    record {
      code = some;
      spelled = λ kind id small. let so = spelled_with c k kind i id bytes some is small in
          subst (λ b. Spells b (with_head kind id c)) (spelled_by_no_others so.0 (with_head kind id c) so.1) so.1;
      fits = λ kind id small.
          let here = message_length (with_head k i c) in
          let there = message_length (with_head kind id c) in omega (arith, here, there, long);
    }

has_code : (n : ℕ) → role_of n ≡ role.Response → n ≢ 0
has_code n h e = let none : role_of 0 ≡ role.Response = subst (λ k. role_of k ≡ role.Response) e h in absurd cc

-- what was spelled in the room for a message; and what has no spelling there
pub fits_so : (token t : List ℕ) (r s : Response) (n : ℕ) (old new : List ℕ) → t ≡ token → s ≡ r
    → role_of r.code ≡ role.Response → n ≤ length old → length old ≡ max_message_len
    → Spells (take n new) (with_head Con 0 (content_with t s)) → IsSendable (content_with token r)
fits_so token t r s n old new same is response fits room spelled =
    let few : length (take n new) ≤ max_message_len =
    (let front = length-take n new in omega (arith, front, fits, room)) in
    is_sendable_so (content_with token r) Con 0 (take n new) (has_code r.code response)
    (subst (λ (x : Response). Spells (take n new) (with_head Con 0 (content_with token x))) is
    (subst (λ u. Spells (take n new) (with_head Con 0 (content_with u s))) same spelled)) few

pub unfit_so : (token t : List ℕ) (r s : Response) (room : ℕ) → t ≡ token → s ≡ r → room ≡ max_message_len
    → HasNoSpelling (with_head Con 0 (content_with t s)) room → IsSendable (content_with token r) → ⊥
unfit_so token t r s room same is whole none can =
    let never : HasNoSpelling (with_head Con 0 (content_with token r)) room =
    subst (λ (x : Response). HasNoSpelling (with_head Con 0 (content_with token x)) room) is
    (subst (λ u. HasNoSpelling (with_head Con 0 (content_with u s)) room) same none) in
    let small : 0 < message_ids = omega arith in
    let few = can.fits Con 0 small in
    never (message_bytes (with_head Con 0 (content_with token r))) (can.spelled Con 0 small) (omega (arith, few, whole))
