-- The row of the first call that a call makes of the exchanges.
use Rattle.std.proofs.Common.{List, [], ◌∷◌, ◌++◌, subst}
use Rattle.coap_layer.specs.declared.setup.Setup.{Setup}
use Rattle.coap_exchange.specs.AnswererTrace as E
use Rattle.coap_exchange.specs.AnswererSteps as P
use Rattle.coap_exchange.specs.AnswererLaw as W
use Rattle.coap_server.specs.Checks.{asks}
use Rattle.coap_server.proofs.Facts.Exact.Asked.{joined, back}

pub first_row : (setup : Setup) (asks : List E.Call) (first : E.Call) (older : List E.Call)
    → W.ResponseLaw setup ((asks ++ first ∷ []) ++ older) → P.IsRight (W.own_of older) first
first_row setup asks first older law = (back setup asks (first ∷ older)
    (subst (W.ResponseLaw setup) (joined asks first older) law)).rows.0
