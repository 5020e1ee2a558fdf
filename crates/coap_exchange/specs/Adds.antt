-- What each call of an end asks of its message layer, and the entries that it adds there (RFC 7252, section 4).
use Rattle.std.specs.Prelude.{List, [], ◌∷◌, ◌++◌}
use Rattle.coap_types.specs.declared.endpoint.Endpoint.{Endpoint}
use Rattle.coap_layer.specs.Machine.Steps.{Asked}
use Rattle.coap_layer.specs.declared.setup.Setup.{Setup}
use Rattle.coap_exchange.specs.AskerTrace as A
use Rattle.coap_exchange.specs.AskerLaw as asker
use Rattle.coap_exchange.specs.AskerSteps as asker_steps
use Rattle.coap_exchange.specs.AnswererTrace as R
use Rattle.coap_exchange.specs.AnswererLaw as answerer
use Rattle.coap_exchange.specs.AnswererSteps as answerer_steps

-- what further calls of the exchanges ask of the layer, behind what came before them
abbrev pub asked_by_client : Endpoint → Setup → List A.Call → List A.Call → List Asked
asked_by_client to setup past [] = []
asked_by_client to setup past (c ∷ later) = asker_steps.lower (asker.own_of to setup (later ++ past)) c
    ++ asked_by_client to setup past later

abbrev pub asked_by_server : List R.Call → List R.Call → List Asked
asked_by_server past [] = []
asked_by_server past (c ∷ later) = answerer_steps.lower (answerer.own_of (later ++ past)) c
    ++ asked_by_server past later
