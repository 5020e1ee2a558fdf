use Rattle.std.proofs.Common.{ap}
use Rattle.std.proofs.lemmas.Result.{on_ok_weaker}
use Rattle.coap_run.specs.Run.Sides.{ticks_of}
use Rattle.coap_run.proofs.Recording.EachTurn.{by_client, by_server}
use Rattle.coap_run.proofs.running.turn.on_tick.Goals as goal

pub returns-in-Client : goal.returns-in-Client
returns-in-Client g c = on_ok_weaker c.on_client_tick.result (λ turned past.
    by_client c.args.when.addresses g.S.Store.content past c.args.when.at.0 c.args.when.word _ _
    (ap ticks_of c.in-Client.is) _ _ _ _ _ (turned past)) c.on_client_tick.ensures

pub returns-in-Server : goal.returns-in-Server
returns-in-Server g c = on_ok_weaker c.on_server_tick.result (λ turned past.
    by_server c.args.when.addresses g.S.Store.content past c.args.when.at.0 c.args.when.word _ _
    (ap ticks_of c.in-Server.is) _ _ _ _ _ (turned past)) c.on_server_tick.ensures
