use Rattle.coap_opaque.proofs.Runs.ClientRuns as C
use Rattle.coap_opaque.proofs.Runs.ServerRuns as S
use Rattle.coap_opaque.proofs.laws.opaque_runs_law.Goals as goal

pub returns-clause-server : goal.returns-clause-server
returns-clause-server c rename apart limits szx setup =
    S.runs_the_same limits szx setup (c.server_law.ensures.start limits szx setup)
    (c.server_law.ensures.exact limits szx setup) (c.server_law.ensures.left limits szx setup) rename apart

pub returns-clause-client : goal.returns-clause-client
returns-clause-client c rename apart server sizes setup =
    C.runs_the_same sizes setup (λ at past. c.client_law.ensures.exact at sizes setup past)
    (λ at t. c.client_rests_law.ensures.left at sizes setup t) rename apart server
