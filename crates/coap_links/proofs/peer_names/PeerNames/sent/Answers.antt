use Rattle.coap_links.specs.PeerTables.{to_peer}
use Rattle.coap_links.proofs.peer_names.PeerNames.sent.Goals as goal

pub returns-in-Some : goal.returns-in-Some
returns-in-Some g c = to_peer _ _ (record { key = c.sent.ensures.key; step = c.sent.ensures.step })
