-- The answer to a CON is kept as the reply to it.
use Rattle.std.proofs.Common.{◌≡◌, ℕ, Bool, true, false, ◌&&◌, eqb, Option, Some, None, List, ◌∷◌, refl, sym, ap, ◌∙◌}
use Rattle.std.proofs.Common.{subst}
use Rattle.std.proofs.lemmas.Bool.Decides.{Decides-eqb}
use Rattle.std.specs.Prelude.{if◌then◌else◌, ◌==◌}
use Rattle.coap_types.specs.declared.endpoint.Endpoint.{Endpoint}
use Rattle.coap_types.specs.declared.message.Kind.{Kind}
use Rattle.coap_types.specs.declared.message.Kind.TheVariants.{Con, Ack}
use Rattle.coap_types.specs.SameEndpoint.{same_endpoint}
use Rattle.coap_types.proofs.Facts.Endpoints.{same_endpoint_self}
use Rattle.coap_codec.specs.Spelling.{message_bytes}
use Rattle.coap_layer.specs.Trace as L
use Rattle.coap_layer.specs.Words.{replied}
use Rattle.coap_layer.specs.declared.setup.Setup.{Setup}
use Rattle.coap_exchange.specs.declared.answerer.Asked.{Asked}
use Rattle.coap_exchange.specs.AnswererTrace.{Own, Call, Response, Answers}
use Rattle.coap_exchange.specs.AnswererLaw.{below_of, own_of}
use Rattle.coap_exchange.specs.AnswererSends.{carrying}
use Rattle.coap_exchange.specs.AnswererSteps.{answering}
use Rattle.coap_handler_law.specs.Promised.{AnswersAreKept}

-- the reply in a call that is one to this message
abbrev of_reply : Bool → List ℕ → Option (List ℕ) → Option (List ℕ)
of_reply is bytes before = elim (if is then Some bytes else None) [ Some b ↦ Some b | None ↦ before ]

same_self : (from : Endpoint) (id : ℕ) → (same_endpoint from from && (id == id)) ≡ true
same_self from id = ap (λ b. b && (id == id)) (same_endpoint_self from) ∙ (Decides-eqb id id).1 refl

pub answers_are_kept : (setup : Setup) (past : List Call) → AnswersAreKept setup past
answers_are_kept setup past a r sent con =
    let reply = message_bytes (carrying Ack a.id.0 a.token r) in
    let before = replied a.from a.id.0 (below_of setup past) in
    let kept : (k : Kind) → k ≡ Con → replied a.from a.id.0 (below_of setup
    (Answers (record a { kind = k }) r sent ∷ past))
    ≡ Some reply =
    λ k is. subst (λ k. replied a.from a.id.0 (below_of setup (Answers (record a { kind = k }) r sent ∷ past))
    ≡ Some reply)
    (sym is) (ap (λ b. of_reply b reply before) (same_self a.from a.id.0)) in
    kept a.kind con
