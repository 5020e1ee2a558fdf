use Rattle.std.proofs.Common.{rules, ◌<◌, subst, ap}
use Rattle.coap_types.specs.declared.message.Kind.TheVariants.{Ack}
use Rattle.coap_codec.specs.Refused.{HasNoSpelling}
use Rattle.coap_layer.proofs.Facts.Spelling.{same_message, not_refused, spelled_so}
use Rattle.coap_exchange.specs.AnswererSteps.{content_of}
use Rattle.coap_exchange.proofs.replies.spell.Goals as goal

pub unreachable-requires : goal.unreachable-requires
unreachable-requires c =
    let small : c.args.asked.now.id.0 < 65536 = search rules in
    let content = content_of c.args.asked.now c.args.response.now in
    let head = c.head_of-head.ensures in
    let same = same_message Ack c.head_of-head.result.kind c.args.asked.now.id.0 c.head_of-head.result.id.0 _ _ _
    c.head_of-head.result.token _ _ content head.kind head.code (search rules) head.token
    (ap (content_of c.args.asked.now) c.response.view_is) in
    not_refused content Ack c.args.asked.now.id.0 _ c.requires.sendable small same
    (subst (HasNoSpelling _) c.requires.room c.in-Err.ensures.none)

pub returns-clause-bytes : goal.returns-clause-bytes
returns-clause-bytes c =
    let small : c.args.asked.now.id.0 < 65536 = search rules in
    let content = content_of c.args.asked.now c.args.response.now in
    let head = c.head_of-head.ensures in
    let same = same_message Ack c.head_of-head.result.kind c.args.asked.now.id.0 c.head_of-head.result.id.0 _ _ _
    c.head_of-head.result.token _ _ content head.kind head.code (search rules) head.token
    (ap (content_of c.args.asked.now) c.response.view_is) in
    spelled_so c.one_spelling.ensures content Ack c.args.asked.now.id.0 _ _ c.requires.sendable small same
    c.in-Ok.ensures.spelled.1
