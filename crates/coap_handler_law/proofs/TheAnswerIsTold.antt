-- A reply that is a response is an answer of the handler.
use Rattle.std.proofs.Common.{◌≡◌, ◌≢◌, inl, inr, ℕ, Option, Some, None, List, [], ◌∷◌, ◌++◌, sym, subst, ap, ◌∙◌}
use Rattle.std.specs.Prelude.{if◌then◌else◌}
use Rattle.coap_types.specs.Past.{Ever, Always}
use Rattle.coap_types.specs.Roles.{role_of}
use Rattle.coap_types.specs.declared.endpoint.Endpoint.{Endpoint}
use Rattle.coap_types.specs.declared.message.Kind.{Kind}
use Rattle.coap_types.specs.declared.message.Kind.TheVariants.{Con, Non, Ack, Rst}
use Rattle.coap_types.specs.declared.role.Role.TheVariants as role
use Rattle.coap_codec.specs.Message.{Message, Spells}
use Rattle.coap_codec.specs.Spelling.{message_bytes}
use Rattle.coap_codec.proofs.Facts.EveryDatagram.{one_message}
use Rattle.coap_codec.proofs.Facts.Spelling.{spelled_by_no_others}
use Rattle.coap_layer.specs.Trace as T
use Rattle.coap_layer.specs.Words.{is_kept}
use Rattle.coap_layer.specs.declared.setup.Setup.{Setup}
use Rattle.coap_exchange.specs.AnswererTrace.{Call, Incoming, Answers, Defers, Ticks, Responds, Ready, Notifies}
use Rattle.coap_exchange.specs.AnswererTrace.{NotifiesPlain, Take, Forgets}
use Rattle.coap_exchange.specs.AnswererSends.{AllGoBack, GoesBack, carrying}
use Rattle.coap_exchange.specs.AnswererSteps.{reject_by}
use Rattle.coap_exchange.specs.EmptyMessages.{reset_bytes}
use Rattle.coap_handler_law.specs.Promised.{IsReply, IsAnswerTo}

-- what begins with the code 0.00 is no response
not_empty : (bytes : List ℕ) (m : Message) (first : ℕ) (rest : List ℕ) → bytes ≡ first ∷ 0 ∷ rest → Spells bytes m
    → role_of m.code ≡ role.Response → ⊥
not_empty bytes m first rest is spells response =
    let parts = sym is ∙ spells.parts in
    let none : 0 ≡ m.code = cc in
    let empty : role_of 0 ≡ role.Response = subst (λ n. role_of n ≡ role.Response) (sym none) response in absurd cc

reset_of : (k : Kind) (id : ℕ) (bytes : List ℕ) → (if is_kept k then Some (reset_bytes id) else None) ≡ Some bytes
    → bytes ≡ reset_bytes id
reset_of Con id bytes e = cc
reset_of Non id bytes e = cc
reset_of Ack id bytes e = absurd cc
reset_of Rst id bytes e = absurd cc

not_rejection : (up : T.Answer) (bytes : List ℕ) (m : Message) → reject_by up ≡ Some bytes → Spells bytes m
    → role_of m.code ≡ role.Response → ⊥
not_rejection (T.Becomes (T.Response n)) bytes m e spells response =
    not_empty bytes m _ _ (reset_of n.kind n.id bytes e) spells response
not_rejection _ bytes m e spells response = absurd (cc e)

one_answer : (setup : Setup) (past : List Call) (c : Call) (near : Endpoint) (id : ℕ) (bytes : List ℕ) (m : Message)
    → GoesBack setup past c → IsReply near id bytes c → Spells bytes m → role_of m.code ≡ role.Response
    → IsAnswerTo near id m c
one_answer setup past (Answers a r sent) near id bytes m goes is spells response =
    let n = carrying Ack a.id.0 a.token r in
    let out = (goes.0 is.0).sends in
    let so : Spells (message_bytes n) n =
    subst (λ b. Spells b n) (spelled_by_no_others out.bytes n out.spells) out.spells in
    (is.0, is.1, is.2, one_message bytes m n spells (subst (λ b. Spells b n) (sym is.3) so))
one_answer setup past (Defers now a delay answer) near id bytes m goes is spells response =
    not_empty bytes m _ _ is.2 spells response
one_answer setup past (Incoming now from came up answer) near id bytes m goes is spells response =
    not_rejection up bytes m is.1 spells response
one_answer setup past (Ticks now below room answer) near id bytes m goes is spells response = is
one_answer setup past (Responds now a r word n) near id bytes m goes is spells response = is
one_answer setup past (Ready now to answer) near id bytes m goes is spells response = is
one_answer setup past (Notifies now to token r word n) near id bytes m goes is spells response = is
one_answer setup past (NotifiesPlain now to token r n) near id bytes m goes is spells response = is
one_answer setup past (Take answer) near id bytes m goes is spells response = is
one_answer setup past (Forgets peer) near id bytes m goes is spells response = is

pub is_answer : (setup : Setup) (t : List Call) (near : Endpoint) (id : ℕ) (bytes : List ℕ) (m : Message)
    → AllGoBack setup t → Ever (IsReply near id bytes) t → Spells bytes m → role_of m.code ≡ role.Response
    → Ever (IsAnswerTo near id m) t
is_answer setup [] near id bytes m goes h spells response = h
is_answer setup (c ∷ t) near id bytes m goes (inl h) spells response =
    inl (one_answer setup t c near id bytes m goes.0 h spells response)
is_answer setup (c ∷ t) near id bytes m goes (inr h) spells response =
    inr (is_answer setup t near id bytes m goes.1 h spells response)
