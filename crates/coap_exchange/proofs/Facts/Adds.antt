-- The entries of an end's message layer are those that its calls add, one behind the other.
use Rattle.std.proofs.Common.{◌≡◌, List, [], ◌∷◌, ◌++◌, refl, ap, sym, ◌∙◌, append_assoc}
use Rattle.coap_types.specs.declared.endpoint.Endpoint.{Endpoint}
use Rattle.coap_layer.specs.Machine.State.{State, made, after, forgotten}
use Rattle.coap_layer.specs.Machine.Steps.{Asked, left_after, entries}
use Rattle.coap_layer.specs.declared.setup.Setup.{Setup}
use Rattle.coap_exchange.specs.AskerTrace as A
use Rattle.coap_exchange.specs.AskerLaw as asker
use Rattle.coap_exchange.specs.AskerSteps as asker_steps
use Rattle.coap_exchange.specs.AnswererTrace as R
use Rattle.coap_exchange.specs.AnswererLaw as answerer
use Rattle.coap_exchange.specs.AnswererSteps as answerer_steps
use Rattle.coap_exchange.specs.Adds.{asked_by_client, asked_by_server}

-- calls of a layer, one behind the other

pub left_append : (old : State) (later earlier : List Asked)
    → left_after old (later ++ earlier) ≡ left_after (left_after old earlier) later
left_append old [] earlier = refl
left_append old (a ∷ later) earlier = ap (λ s. forgotten (after s (made s a.now a.call)))
    (left_append old later earlier)

pub entries_append : (old : State) (later earlier : List Asked)
    → entries old (later ++ earlier) ≡ entries (left_after old earlier) later ++ entries old earlier
entries_append old [] earlier = refl
entries_append old (a ∷ later) earlier =
    ap (λ s. made s a.now a.call ∷ entries old (later ++ earlier)) (left_append old later earlier)
    ∙ ap (λ t. made (left_after (left_after old earlier) later) a.now a.call ∷ t) (entries_append old later earlier)

-- what the exchanges ask, one behind the other

pub asker_append : (to : Endpoint) (setup : Setup) (later past : List A.Call)
    → asker.lower_of to setup (later ++ past) ≡ asked_by_client to setup past later ++ asker.lower_of to setup past
asker_append to setup [] past = refl
asker_append to setup (c ∷ later) past =
    ap (λ t. asker_steps.lower (asker.own_of to setup (later ++ past)) c ++ t) (asker_append to setup later past)
    ∙ sym (append_assoc (asker_steps.lower (asker.own_of to setup (later ++ past)) c)
    (asked_by_client to setup past later) (asker.lower_of to setup past))

pub answerer_append : (later past : List R.Call)
    → answerer.lower_of (later ++ past) ≡ asked_by_server past later ++ answerer.lower_of past
answerer_append [] past = refl
answerer_append (c ∷ later) past =
    ap (λ t. answerer_steps.lower (answerer.own_of (later ++ past)) c ++ t) (answerer_append later past)
    ∙ sym (append_assoc (answerer_steps.lower (answerer.own_of (later ++ past)) c) (asked_by_server past later)
    (answerer.lower_of past))
