-- One call more, for all calls of the server's side.
use Rattle.std.proofs.Common.{◌≡◌, ◌++◌, List, [], ◌∷◌, refl, subst}
use Rattle.std.proofs.lemmas.List.{append-nil}
use Rattle.coap_layer.specs.Machine.State as L
use Rattle.coap_layer.specs.Rows.{LayerLaw}
use Rattle.coap_layer.specs.Machine.Steps.{Steps}
use Rattle.coap_layer.proofs.Facts.Calls.{led_steps}
use Rattle.coap_exchange.proofs.Facts.Above.{led_call as above_call, led_chain as above_chain, chain_join, chain_split}
use Rattle.coap_exchange.proofs.Facts.Above.{chain_own, law_back}
use Rattle.coap_exchange.specs.Above.{sum_of}
use Rattle.coap_exchange.specs.AnswererTrace.{start, Call}
use Rattle.coap_exchange.specs.AnswererSteps.{lower, IsRight, after}
use Rattle.coap_exchange.specs.AnswererLaw.{lower_of, below_of, fresh_state, ResponseLaw, State, Step, Exchanged, Led}
use Rattle.coap_layer.proofs.Facts.StepsOfLayer.{steps_join, steps_split}
use Rattle.coap_layer.specs.declared.setup.Setup.{Setup}

pub led_start : (setup : Setup) → Led setup [] (fresh_state setup)
led_start setup = record { rows = tt; own_is = refl; layer = refl }

pub led_call : (setup : Setup) (t : List Call) (c : Call) (old new : State) → Led setup t old → Step old c new
    → Led setup (c ∷ t) new
led_call setup t c old new led step = above_call IsRight after lower Steps start
    (L.start setup) steps_join t c old new led step

pub led_exchanged : (setup : Setup) (t calls : List Call) (old new : State) → Led setup t old → Exchanged old calls new
    → Led setup (calls ++ t) new
led_exchanged setup t calls old new led h = above_chain IsRight after lower Steps start
    (L.start setup) steps_join t calls old new led h

pub exchanged_join : (old mid new : State) (later earlier : List Call) → Exchanged old earlier mid
    → Exchanged mid later new → Exchanged old (later ++ earlier) new
exchanged_join = chain_join IsRight after lower Steps

pub exchanged_split : (old new : State) (later earlier : List Call) → Exchanged old (later ++ earlier) new
    → (mid : State) × Exchanged old earlier mid × Exchanged mid later new
exchanged_split = chain_split IsRight after lower Steps

-- what is kept behind these calls
pub exchanged_own : (old new : State) (calls : List Call) → Exchanged old calls new
    → new.own ≡ sum_of old.own after calls
exchanged_own = chain_own IsRight after lower Steps

-- the law of the calls before
pub exchange_back : (setup : Setup) (calls t : List Call) → ResponseLaw setup (calls ++ t) → ResponseLaw setup t
exchange_back setup calls t law = law_back IsRight after lower Steps start (L.start setup) steps_split calls t law

pub led_law : (setup : Setup) (t : List Call) (s : State) → Led setup t s → ResponseLaw setup t
led_law setup t s led = record { rows = led.rows; left = s.layer; layer = led.layer }

pub layer_stands : (setup : Setup) (t : List Call) → ResponseLaw setup t → LayerLaw setup (below_of setup t)
layer_stands setup t law = subst (LayerLaw setup) (append-nil (below_of setup t))
    (led_steps setup [] (L.start setup) law.left (lower_of t) (record { law = tt; kept = refl }) law.layer).law
