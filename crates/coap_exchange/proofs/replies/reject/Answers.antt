use Rattle.std.proofs.Common.{rules, subst, sym, ◌∙◌}
use Rattle.coap_layer.specs.Machine.Shown.{MayReply}
use Rattle.coap_layer.specs.Machine.Ups.{answer_as}
use Rattle.coap_exchange.proofs.Calls.ServerCalls.{rejected}
use Rattle.coap_exchange.proofs.replies.reject.Goals as goal

pub reply-requires-clause-may : goal.reply-requires-clause-may
reply-requires-clause-may g c =
    let m = rejected (answer_as c.args.up.now) (search (rules, c.in-Some.is, c.rejection.ensures)) in
    subst (MayReply c.args.layer.now c.args.from) (m.2 ∙ sym c.id_in.ensures) (c.requires m.0 m.1)
