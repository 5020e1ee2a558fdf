use Rattle.coap_replay_laws.proofs.Leading.{replays_lead}
use Rattle.coap_replay.specs.Replaying.{Gives, Takes}
use Rattle.coap_replay.proofs.Facts.{replays_more}
use Rattle.coap_replay_laws.proofs.OneEnd.{replays_both}
use Rattle.coap_replay_laws.proofs.laws.replay_law.Goals as goal

pub returns-clause-leads : goal.returns-clause-leads
returns-clause-leads c limits szx setup t old new records out led =
    replays_lead limits szx setup t old records out new led

pub returns-clause-more : goal.returns-clause-more
returns-clause-more c old between new records last out outs =
    replays_more Takes Gives old records out between last outs new

pub returns-clause-one : goal.returns-clause-one
returns-clause-one c limits szx setup t old new other records out outs led a b =
    (replays_both limits szx setup (c.server_law.ensures.exact limits szx setup)
    (c.server_law.ensures.left limits szx setup) t old new other records out outs led a b).0

pub returns-clause-same_out : goal.returns-clause-same_out
returns-clause-same_out c limits szx setup t old new other records out outs led a b =
    (replays_both limits szx setup (c.server_law.ensures.exact limits szx setup)
    (c.server_law.ensures.left limits szx setup) t old new other records out outs led a b).1
