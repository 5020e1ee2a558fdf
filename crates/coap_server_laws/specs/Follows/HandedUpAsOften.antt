-- How often a server is handed a request: at most as often as its message layer hands it up (RFC 7252, section 5.2).
use Rattle.std.specs.Prelude.{◌≤◌, ℕ, List, ◌∷◌}
use Rattle.coap_types.specs.Past.{Always}
use Rattle.coap_layer.specs.declared.setup.Setup.{Setup}
use Rattle.coap_resource.specs.Limits.{Limits}
use Rattle.coap_exchange.specs.declared.answerer.Asked.{Asked}
use Rattle.coap_server_laws.specs.Follows.Counts.{ups}
use Rattle.coap_server.specs.Trace.{Call}
use Rattle.coap_server.specs.Law.{layer_of}
use Rattle.coap_server.specs.Follows.Serves.{times_handed}

-- At each call, what came of a request so far came up from the layer.
abbrev pub Counted : Limits → ℕ → Setup → List Call → Type 0
Counted limits szx setup t = Always (λ past c. (a : Asked)
    → times_handed limits szx a (c ∷ past) ≤ ups a (layer_of limits szx setup (c ∷ past))) t
