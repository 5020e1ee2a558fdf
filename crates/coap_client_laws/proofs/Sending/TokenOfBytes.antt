-- The bytes of a message say its token.
use Rattle.std.proofs.Common.{◌≡◌, ℕ, ◌+◌, ◌*◌, List, ◌++◌, ap, sym, ◌∙◌, arith, length, take, drop}
use Rattle.std.proofs.Math.Seq.{take-append_seam}
use Rattle.std.proofs.lemmas.List.{append_cancel_left}
use Rattle.byteorder.specs.Endian.{big_bytes}
use Rattle.coap_types.specs.declared.message.Kind.TheVariants.{Con}
use Rattle.coap_codec.specs.Message.{marked}
use Rattle.coap_codec.specs.Spelling.{message_bytes, options_bytes}
use Rattle.coap_layer.specs.Trace.{Content, with_head}

fronts_same : (a b x y : List ℕ) → length a ≡ length b → a ++ x ≡ b ++ y → a ≡ b
fronts_same a b x y long same = sym (take-append_seam a x)
    ∙ (ap (take (length a)) same ∙ (ap (λ n. take n (b ++ y)) long ∙ take-append_seam b y))

pub token_is : (id : ℕ) (a b : Content) → message_bytes (with_head Con id a) ≡ message_bytes (with_head Con id b)
    → a.token ≡ b.token
token_is id a b same =
    let ends : Content → List ℕ = λ c. options_bytes 0 c.options ++ marked c.payload in
    let first : 1 * 64 + (0 * 16 + length a.token) ≡ 1 * 64 + (0 * 16 + length b.token) = cc same in
    let rest : big_bytes 2 id ++ (a.token ++ ends a) ≡ big_bytes 2 id ++ (b.token ++ ends b) = ap (drop 2) same in
    fronts_same a.token b.token (ends a) (ends b) (omega (arith, first))
    (append_cancel_left (big_bytes 2 id) (a.token ++ ends a) (b.token ++ ends b) rest)
