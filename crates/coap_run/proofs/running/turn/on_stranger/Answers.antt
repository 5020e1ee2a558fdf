use Rattle.std.proofs.Common.{ap}
use Rattle.coap_run.specs.Run.Sides.{stranger_to}
use Rattle.coap_run.proofs.Recording.EachTurn.{by_client, by_server}
use Rattle.coap_run.proofs.Recording.Sides.{is_strange}
use Rattle.coap_run.proofs.running.turn.on_stranger.Goals as goal

pub returns-then-is_end-clause-wrong : goal.returns-then-is_end-clause-wrong
returns-then-is_end-clause-wrong g c = λ e past may.
    (is_strange c.args.when.addresses past c.args.when.at.0 c.args.side c.args.from c.args.bytes.now may).0
    (c.is_end.ensures.yes c.if-is_end.true)

pub returns-then-is_end-2-clause-wrong : goal.returns-then-is_end-2-clause-wrong
returns-then-is_end-2-clause-wrong g c = λ e past may.
    (is_strange c.args.when.addresses past c.args.when.at.0 c.args.side c.args.from c.args.bytes.now may).1
    (c.is_end-2.ensures.yes c.if-is_end-2.true)

pub returns-in_ok-on_client_stranger-in-Client-clause-ok : goal.returns-in_ok-on_client_stranger-in-Client-clause-ok
returns-in_ok-on_client_stranger-in-Client-clause-ok g c = λ past.
    by_client c.args.when.addresses g.S.Store.content past c.args.when.at.0 c.args.when.word _ _
    (ap (λ s. stranger_to s c.args.from c.args.bytes.now) c.in-Client.is)
    _ _ _ _ _ (c.in_ok-on_client_stranger-in-Client.ensures past
    (c.is_end.ensures.no c.if-is_end.false, c.is_end-2.ensures.no c.if-is_end-2.false))

pub returns-in_ok-on_server_stranger-in-Server-clause-ok : goal.returns-in_ok-on_server_stranger-in-Server-clause-ok
returns-in_ok-on_server_stranger-in-Server-clause-ok g c = λ past.
    by_server c.args.when.addresses g.S.Store.content past c.args.when.at.0 c.args.when.word _ _
    (ap (λ s. stranger_to s c.args.from c.args.bytes.now) c.in-Server.is)
    _ _ _ _ _ (c.in_ok-on_server_stranger-in-Server.ensures past
    (c.is_end.ensures.no c.if-is_end.false, c.is_end-2.ensures.no c.if-is_end-2.false))
