-- One call more, for all calls of the client's side.
use Rattle.std.proofs.Common.{◌≡◌, List, [], ◌∷◌, ◌++◌, subst, refl}
use Rattle.std.proofs.lemmas.List.{append-nil}
use Rattle.coap_types.specs.declared.endpoint.Endpoint.{Endpoint}
use Rattle.coap_layer.specs.Machine.State as L
use Rattle.coap_layer.specs.Rows.{LayerLaw}
use Rattle.coap_layer.proofs.Facts.Calls.{led_steps}
use Rattle.coap_layer.specs.Machine.Steps.{Steps}
use Rattle.coap_exchange.proofs.Facts.Above.{led_call as above_call, led_chain as above_chain, chain_join, chain_split}
use Rattle.coap_exchange.proofs.Facts.Above.{chain_own, law_back}
use Rattle.coap_exchange.specs.Above.{sum_of}
use Rattle.coap_exchange.specs.AskerTrace.{start, Call}
use Rattle.coap_exchange.specs.AskerSteps.{lower, IsRight, after}
use Rattle.coap_exchange.specs.AskerLaw.{lower_of, below_of, fresh_state, ExchangeLaw, State, Step, Exchanged, Led}
use Rattle.coap_layer.proofs.Facts.StepsOfLayer.{steps_join, steps_split}
use Rattle.coap_layer.specs.declared.setup.Setup.{Setup}

pub led_call : (server : Endpoint) (setup : Setup) (t : List Call) (c : Call) (old new : State) → Led server setup t old
    → Step old c new → Led server setup (c ∷ t) new
led_call server setup t c old new led step = above_call IsRight after lower Steps (start server setup.word)
    (L.start setup) steps_join t c old new led step

pub led_exchanged : (server : Endpoint) (setup : Setup) (t calls : List Call) (old new : State) → Led server setup t old
    → Exchanged old calls new → Led server setup (calls ++ t) new
led_exchanged server setup t calls old new led h =
    above_chain IsRight after lower Steps (start server setup.word) (L.start setup) steps_join t calls old new led h

pub exchanged_join : (old mid new : State) (later earlier : List Call) → Exchanged old earlier mid
    → Exchanged mid later new → Exchanged old (later ++ earlier) new
exchanged_join = chain_join IsRight after lower Steps

pub exchanged_split : (old new : State) (later earlier : List Call) → Exchanged old (later ++ earlier) new
    → (mid : State) × Exchanged old earlier mid × Exchanged mid later new
exchanged_split = chain_split IsRight after lower Steps

-- what is kept behind these calls
pub exchanged_own : (old new : State) (calls : List Call) → Exchanged old calls new
    → new.own ≡ sum_of old.own after calls
exchanged_own = chain_own IsRight after lower Steps

pub led_law : (server : Endpoint) (setup : Setup) (t : List Call) (s : State) → Led server setup t s
    → ExchangeLaw server setup t
led_law server setup t s led = record { rows = led.rows; left = s.layer; layer = led.layer }

-- the law of the calls before
pub exchange_back : (server : Endpoint) (setup : Setup) (calls t : List Call) → ExchangeLaw server setup (calls ++ t)
    → ExchangeLaw server setup t
exchange_back server setup calls t law =
    law_back IsRight after lower Steps (start server setup.word) (L.start setup) steps_split calls t law

pub led_start : (server : Endpoint) (setup : Setup) → Led server setup [] (fresh_state server setup)
led_start server setup = record { rows = tt; own_is = refl; layer = refl }

pub layer_stands : (server : Endpoint) (setup : Setup) (t : List Call) → ExchangeLaw server setup t
    → LayerLaw setup (below_of server setup t)
layer_stands server setup t law =
    subst (LayerLaw setup) (append-nil (below_of server setup t))
    (led_steps setup [] (L.start setup) law.left (lower_of server setup t)
    (record { law = tt; kept = refl }) law.layer).law
