-- Requests that are alike are equal.
use Rattle.std.proofs.Common.{◌≡◌, ◌==◌, ◌&&◌, true}
use Rattle.std.proofs.Common.{refl, ap, ◌∙◌}
use Rattle.std.specs.Cmp.{unsigned_Decides}
use Rattle.coap_types.specs.declared.message.Kind.{Kind}
use Rattle.coap_types.specs.declared.message.Kind.TheVariants.{Con, Non, Ack, Rst}
use Rattle.coap_types.specs.SameEndpoint.{same_endpoint}
use Rattle.coap_types.proofs.Facts.Endpoints.{same_endpoint_is}
use Rattle.coap_codec.specs.Message.{kind_number}
use Rattle.coap_exchange.specs.declared.answerer.Asked.{Asked}
use Rattle.coap_exchange.specs.AnswererFollows.{same_asked}
use Rattle.coap_exchange.specs.Tokens.{same_token}
use Rattle.std.proofs.lemmas.Bool.{and_parts}
use Rattle.coap_exchange.proofs.Facts.SameToken.{same_token_is}

kind_is : (a b : Kind) → (kind_number a == kind_number b) ≡ true → a ≡ b
kind_is Con Con h = refl
kind_is Non Non h = refl
kind_is Ack Ack h = refl
kind_is Rst Rst h = refl
kind_is _ _ h = absurd (cc h)

pub same_asked_is : (a b : Asked) → same_asked a b ≡ true → a ≡ b
same_asked_is a b h =
    let p = and_parts (same_endpoint a.from b.from)
    ((kind_number a.kind == kind_number b.kind) && ((a.id.0 == b.id.0) && same_token a.token b.token)) h in
    let q = and_parts (kind_number a.kind == kind_number b.kind)
    ((a.id.0 == b.id.0) && same_token a.token b.token) p.1 in
    let r = and_parts (a.id.0 == b.id.0) (same_token a.token b.token) q.1 in
    let from = same_endpoint_is a.from b.from p.0 in
    let kind = kind_is a.kind b.kind q.0 in
    let id = (unsigned_Decides a.id.0 b.id.0).0 r.0 in
    let token = same_token_is a.token b.token r.1 in
    ap {B = Asked} (λ x. record { from = x; kind = a.kind; id = a.id; token = a.token }) from
    ∙ (ap {B = Asked} (λ x. record { from = b.from; kind = x; id = a.id; token = a.token }) kind
    ∙ (ap {B = Asked} (λ x. record { from = b.from; kind = b.kind; id = record { 0 = x }; token = a.token }) id
    ∙ ap {B = Asked} (λ x. record { from = b.from; kind = b.kind; id = b.id; token = x }) token))
