use Rattle.std.proofs.Common.{◌∙◌}
use Rattle.coap_links.specs.PeerTables.{of_table}
use Rattle.coap_links.proofs.peer_names.PeerNames.peer_of.Goals as goal

pub returns-in-Some : goal.returns-in-Some
returns-in-Some g c = of_table c.deref.result.now (c.copied.ensures ∙ c.key_of.ensures)
