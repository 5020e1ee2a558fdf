use Rattle.coap_serving.proofs.KeptCalls.{gone_on, gone_refused}
use Rattle.coap_common.proofs.Facts.{none_is, some_is}
use Rattle.coap_serving.proofs.kept_turns.go_on_with.Goals as goal

pub returns-in-Ok-None : goal.returns-in-Ok-None
returns-in-Ok-None g c =
    gone_on _ _ c.args.turns.0 c.args.options.now c.args.first.0 _ _ c.serve_kept.result
    (none_is _ _ c.in-Ok-None.ensures.set c.in-Ok-None.field-0-is) c.serve_kept.ensures.serves
    c.serve_kept.ensures.printed

pub returns-in-Ok-Some : goal.returns-in-Ok-Some
returns-in-Ok-Some g c =
    gone_refused _ _ c.args.turns.0 c.args.options.now c.args.first.0 _ c.in-Ok-Some.refusal _ c.tell_refusal.result
    (some_is _ _ c.in-Ok-Some.refusal c.in-Ok-Some.ensures.refused c.in-Ok-Some.field-0-is)
    c.tell_refusal.ensures.status c.tell_refusal.ensures.printed
