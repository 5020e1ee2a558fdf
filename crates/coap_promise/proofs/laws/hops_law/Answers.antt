use Rattle.coap_promise.specs.Hops.{hops_of}
use Rattle.coap_record.specs.Record.{entries_of}
use Rattle.coap_promise.proofs.Facts.Paced.ChannelAcross.{once_across as channel_across}
use Rattle.coap_promise.proofs.Facts.Delivery.HopsAreEntries.{near_is, far_is}
use Rattle.coap_promise.proofs.Facts.Delivery.HopsAreAChannel as joined
use Rattle.coap_promise.proofs.laws.hops_law.Goals as goal

pub returns-clause-near : goal.returns-clause-near
returns-clause-near c config turns = near_is config (entries_of turns)

pub returns-clause-far : goal.returns-clause-far
returns-clause-far c config turns = far_is config (entries_of turns)

pub returns-clause-channel : goal.returns-clause-channel
returns-clause-channel c config events turns made legal = joined.channel config events turns made legal

pub returns-clause-back : goal.returns-clause-back
returns-clause-back c config events turns made legal =
    channel_across config.client_setup config.server_setup config.addresses.client config.addresses.server
    (hops_of config turns)
    (joined.channel config events turns made legal)

pub returns-clause-at_once : goal.returns-clause-at_once
returns-clause-at_once c config events turns made legal = (joined.run config events turns made legal).sent
