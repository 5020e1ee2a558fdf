use Rattle.std.proofs.Common.{[]}
use Rattle.coap_answers.proofs.SentTexts.{of_none, of_some, refusal_printed, reply_printed}
use Rattle.coap_answers.proofs.answering.held_reply.Goals as goal

pub returns-in-None : goal.returns-in-None
returns-in-None g c = λ limits setup led.
    let held = of_none c.in_ok-hold.field-0 c.in-None.is (c.in_ok-hold.ensures.holds limits setup [] led) in
    reply_printed limits setup c.args.path.now c.as_bytes.result.now c.args.body.now c.as_bytes.ensures.value
    (g.W.Write.contents c.args.out.now) (g.W.Write.contents c.reply.new.out) _ _ _ c.args.datagram.now held.1 _ held.0 _
    c.reply.result held.2 c.reply.ensures

pub returns-in-Some : goal.returns-in-Some
returns-in-Some g c = λ limits setup led.
    let left = of_some _ c.in_ok-hold.field-0 c.in-Some.refusal c.in-Some.is
    (c.in_ok-hold.ensures.refused limits setup [] led) in
    refusal_printed limits setup c.args.path.now c.as_bytes.result.now c.args.body.now c.as_bytes.ensures.value
    (g.W.Write.contents c.args.out.now) (g.W.Write.contents c.tell_refusal.new.out) _ _ _ c.args.datagram.now left.0 _
    c.in-Some.refusal c.tell_refusal.result left.1 c.tell_refusal.ensures.status c.tell_refusal.ensures.printed
