use Rattle.coap_resource.proofs.ServedContent.{content_law}
use Rattle.coap_resource.proofs.ServedParts.{part_law}
use Rattle.coap_resource.proofs.ServedSame.{same_law}
use Rattle.coap_resource.proofs.SaysOneWay.{says_one_way}
use Rattle.coap_resource.proofs.laws.served_law.Goals as goal

pub returns-clause-content : goal.returns-clause-content
returns-clause-content c = content_law

pub returns-clause-part : goal.returns-clause-part
returns-clause-part c = part_law

pub returns-clause-same : goal.returns-clause-same
returns-clause-same c = same_law

pub returns-clause-says : goal.returns-clause-says
returns-clause-says c = says_one_way
