use Rattle.coap_opaque.proofs.Silence.ToHeard.{client_to_heard, server_to_heard}
use Rattle.coap_opaque.proofs.laws.heard_law.Goals as goal

pub returns-clause-client : goal.returns-clause-client
returns-clause-client c server sizes setup t law =
    client_to_heard server sizes setup (c.client_silence_law.ensures.silent server sizes setup) t law

pub returns-clause-server : goal.returns-clause-server
returns-clause-server c limits szx setup t law =
    server_to_heard limits szx setup (c.silence_law.ensures.silent limits szx setup) t law
