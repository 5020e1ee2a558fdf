use Rattle.std.proofs.Common.{rules, ◌<◌, subst}
use Rattle.coap_codec.specs.Refused.{HasNoSpelling}
use Rattle.coap_types.specs.declared.message.TheConstants.{MESSAGE_IDS as message_ids}
use Rattle.coap_layer.proofs.Facts.Spelling.{same_message, not_refused, spelled_so}
use Rattle.coap_layer.proofs.content.spell.Goals as goal

pub unreachable-requires : goal.unreachable-requires
unreachable-requires c =
    let small : c.args.id.0 < message_ids = search rules in
    let head = c.head_of-head.ensures in
    let same = same_message c.args.kind c.head_of-head.result.kind c.args.id.0 c.head_of-head.result.id.0 _ _ _
    c.head_of-head.result.token _ _ c.args.content.now head.kind head.code
    (search rules) head.token c.content.view_is in
    not_refused c.args.content.now c.args.kind c.args.id.0 _ c.requires.sendable small same
    (subst (HasNoSpelling _) c.requires.room c.in-Err.ensures.none)

pub returns-clause-bytes : goal.returns-clause-bytes
returns-clause-bytes c =
    let small : c.args.id.0 < message_ids = search rules in
    let head = c.head_of-head.ensures in
    let same = same_message c.args.kind c.head_of-head.result.kind c.args.id.0 c.head_of-head.result.id.0 _ _ _
    c.head_of-head.result.token _ _ c.args.content.now head.kind head.code
    (search rules) head.token c.content.view_is in
    spelled_so c.one_spelling.ensures c.args.content.now c.args.kind c.args.id.0 _ _ c.requires.sendable small same
    c.in-Ok.ensures.spelled.1
