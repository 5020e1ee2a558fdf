use Rattle.coap_opaque.specs.Renaming.Endpoints.{swapped}
use Rattle.coap_opaque.proofs.Renaming.Swapped.{swap_apart, swap_exchanges}
use Rattle.coap_opaque.proofs.laws.swap_law.Goals as goal

pub returns-clause-exchanges : goal.returns-clause-exchanges
returns-clause-exchanges c e f = swap_exchanges e f

pub returns-clause-apart : goal.returns-clause-apart
returns-clause-apart c e f = swap_apart e f

pub returns-clause-server : goal.returns-clause-server
returns-clause-server c e f limits szx setup t law =
    c.opaque_law.ensures.server (swapped e f) (swap_apart e f) limits szx setup t law

pub returns-clause-client : goal.returns-clause-client
returns-clause-client c e f server sizes setup t law =
    c.opaque_law.ensures.client (swapped e f) (swap_apart e f) server sizes setup t law

pub returns-clause-server_runs : goal.returns-clause-server_runs
returns-clause-server_runs c e f limits szx setup =
    c.opaque_runs_law.ensures.server (swapped e f) (swap_apart e f) limits szx setup

pub returns-clause-client_runs : goal.returns-clause-client_runs
returns-clause-client_runs c e f server sizes setup =
    c.opaque_runs_law.ensures.client (swapped e f) (swap_apart e f) server sizes setup
