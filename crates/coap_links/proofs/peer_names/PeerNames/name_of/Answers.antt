use Rattle.coap_links.specs.PeerTables.{by_table}
use Rattle.coap_links.proofs.peer_names.PeerNames.name_of.Goals as goal

pub returns-in-Some-clause-named : goal.returns-in-Some-clause-named
returns-in-Some-clause-named g c = by_table _ _ c.name_by.ensures.exact
