-- The laws of a trace hold of each of its pasts.
use Rattle.std.proofs.Common.{List, ◌++◌}
use Rattle.coap_types.specs.declared.endpoint.Endpoint.{Endpoint}
use Rattle.coap_layer.specs.Machine.State as S
use Rattle.coap_layer.specs.Machine.Steps.{Steps}
use Rattle.coap_exchange.specs.AskerLaw.{ExchangeLaw}
use Rattle.coap_exchange.specs.AskerSteps as A
use Rattle.coap_exchange.specs.AskerTrace as A_trace
use Rattle.coap_exchange.proofs.Facts.Above.{law_back}
use Rattle.coap_layer.proofs.Facts.StepsOfLayer.{steps_split}
use Rattle.coap_layer.specs.declared.setup.Setup.{Setup}

pub exchange_back : (to : Endpoint) (setup : Setup) (calls t : List A_trace.Call) → ExchangeLaw to setup (calls ++ t)
    → ExchangeLaw to setup t
exchange_back to setup calls t law = law_back A.IsRight A.after A.lower Steps (A_trace.start to setup.word)
    (S.start setup) steps_split calls t law
