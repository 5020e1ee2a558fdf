use Rattle.std.proofs.Common.{rules}
use Rattle.coap_exchange.proofs.Calls.ServerCalls.{not_con, sent_con, sent_plain}
use Rattle.coap_exchange.proofs.replies.send.Goals as goal

pub returns-in-Con-clause-sent : goal.returns-in-Con-clause-sent
returns-in-Con-clause-sent g c = sent_con c.args.layer.now.state c.piggyback.new.layer.state c.args.asked.now.kind
    c.args.asked.now c.args.response.now (search rules) c.piggyback.ensures.step

pub returns-in-Non : goal.returns-in-Non
returns-in-Non g c = record {
  sent = sent_plain c.args.layer.now.state c.send_plain.new.layer.state c.args.asked.now.kind c.args.asked.now
      c.args.response.now (not_con c.args.asked.now.kind c.in-Non.is) c.send_plain.ensures.step;
  before = c.send_plain.ensures.before;
}
