use Rattle.std.proofs.Common.{rules}
use Rattle.coap_links.specs.SocketCalls.{again, once}
use Rattle.coap_links.proofs.SocketLeft.{left_again, left_once}
use Rattle.coap_links.proofs.socket.Socket.send.Goals as goal

pub returns-in-Closed-clause-sends : goal.returns-in-Closed-clause-sends
returns-in-Closed-clause-sends g c =
    again _ c.hand-again.result _ c.in-Closed.ensures.hands c.hand-again.ensures.hands
    (left_again c.args.self.now c.hand.new.self c.hand-again.new.self c.count.new.self c.hand-again.result
    c.hand.ensures.kept c.hand-again.ensures.kept c.count.ensures.counted)

pub returns-in_default-clause-sends : goal.returns-in_default-clause-sends
returns-in_default-clause-sends g c =
    once c.hand.result _ (search rules) c.hand.ensures.hands
    (left_once c.args.self.now c.hand.new.self c.count-in_default.new.self c.hand.result c.hand.ensures.kept
    c.count-in_default.ensures.counted)
