use Rattle.std.proofs.Common.{ℕ, Bool, [], List, Option, Some, None, Result, Ok, Err, IfNone, IfOk, IfSome}
use Rattle.std.proofs.Common.{OnOk, is_some, subst}
use Rattle.coap_types.specs.declared.endpoint.Endpoint.{Endpoint}
use Rattle.coap_types.specs.declared.endpoint.Moment.{Moment}
use Rattle.coap_layer.specs.declared.setup.Setup.{Setup}
use Rattle.coap_block.specs.Sizes.{Sizes}
use Rattle.coap_client.specs.Led.{Led}
use Rattle.coap_client.specs.Trace.{Request}
use Rattle.coap_waits.specs.Asks.{Becomes}
use Rattle.coap_asking.specs.Discovers.{Discovers, IsShown, WritesFound, WritesShown, WritesTold}
use Rattle.coap_waits.specs.declared.calling.Outcome.{Outcome}
use Rattle.coap_status.specs.declared.status.Status.{Status}
use Rattle.coap_status.specs.declared.status.Stop.{Stop}
use Rattle.coap_waits.proofs.Facts.{where_ok}
use Rattle.coap_asking.proofs.discovering.ask_and_tell.Goals as goal

-- it is told in words where no moment is to be told
found : (at : Option Moment) (ended : Result Status Stop) (old new : Option (List ℕ)) (outcome : Outcome)
    → IfNone at (IfOk ended (WritesShown old new outcome))
    → IfSome at (λ (m : Moment). OnOk ended (WritesTold m.0 old new outcome))
    → IfOk ended (WritesFound (is_some at) old new outcome)
found None (Ok s) old new outcome words json = words
found (Some m) (Ok s) old new outcome words json = (m.0, json)
found at (Err stop) old new outcome words json = tt

shown : (Leads : Endpoint → Sizes → Setup → Type 0) (json : Bool) (old new : Option (List ℕ)) (give_up : Option ℕ)
    (request : Request) (outcome : Outcome) (ended : Result Status Stop)
    → ((server : Endpoint) (sizes : Sizes) (w : Setup) → Leads server sizes w
    → Becomes server sizes w give_up request outcome)
    → IfOk ended (IsShown outcome) → IfOk ended (WritesFound json old new outcome)
    → IfOk ended (λ s. (server : Endpoint) (sizes : Sizes) (w : Setup) → Leads server sizes w
    → Discovers json old new server sizes w give_up request s)
shown Leads json old new give_up request outcome (Ok s) becomes is written =
    λ server sizes w led. (outcome, becomes server sizes w led, is, written)
shown Leads json old new give_up request outcome (Err stop) becomes is written = tt

pub returns-clause-discovers : goal.returns-clause-discovers
returns-clause-discovers g c =
    let contents = g.O.Write.contents in
    let outcome = c.in_ok-outcome.outcome in
    let old = contents c.args.out.now in
    let new = contents c.tell.new.out in
    shown (λ server sizes w. Led server sizes w [] c.args.client.now) c.args.terms.now.json old new _ _ outcome
    c.tell.result c.in_ok-outcome.ensures.becomes c.tell.ensures.shown
    (subst (λ (is_json : Bool). IfOk c.tell.result (WritesFound is_json old new outcome)) c.in_ok-json.ensures.wanted
    (found c.in_ok-json.json c.tell.result old new outcome c.tell.ensures.written c.tell.ensures.told))

pub returns-clause-over : goal.returns-clause-over
returns-clause-over g c = where_ok c.tell.result c.in_ok-outcome.ensures.over
