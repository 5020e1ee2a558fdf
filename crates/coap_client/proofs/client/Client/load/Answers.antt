use Rattle.std.proofs.Common.{subst}
use Rattle.coap_client.specs.Load.{IsClientLoad}
use Rattle.coap_client.proofs.client.Client.load.Goals as goal

pub returns : goal.returns
returns g c = subst (IsClientLoad c.args.now.0 c.load_parts.result) c.self.view_is c.load_parts.ensures
