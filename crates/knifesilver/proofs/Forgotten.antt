-- What led to a server leads on where it forgets a peer.
use Rattle.std.proofs.Common.{ℕ, List, Some, ◌∷◌, refl}
use Rattle.coap_types.specs.declared.endpoint.Endpoint.{Endpoint}
use Rattle.coap_layer.specs.declared.setup.Setup.{Setup}
use Rattle.coap_resource.specs.Limits.{Limits}
use Rattle.coap_server.proofs.Facts.EachCall.{led_further}
use Rattle.coap_server.specs.Forgetting.{IsForgotten}
use Rattle.coap_server.specs.Led.{Led, State}
use Rattle.coap_server.specs.Trace.{Call, Feeds, Forgets}
use Rattle.knifesilver.specs.Forgetting.{BothMade, IsLetGo, reset_from}
use Rattle.knifesilver.specs.ServerCalls.{IsFeed}
use Rattle.knifesilver.specs.declared.held.Held.{Held}
use Rattle.knifesilver.specs.declared.held.Held.TheVariants.{Client, Names, Server}

-- the Reset is fed, and then the peer is forgotten
both_led : (peer : Endpoint) (old new : State) → IsForgotten peer old new → (limits : Limits) (szx : ℕ) (setup : Setup)
    (t : List Call) → Led limits szx setup t old
    → (first : Call) × IsFeed 0 peer (reset_from peer old) 0 first × Led limits szx setup (Forgets peer ∷ first ∷ t) new
both_led peer old new steps limits szx setup t led =
    let fed = steps.1 in
    let first : Call = Feeds 0 peer (reset_from peer old) 0 fed.0 fed.1 fed.2 fed.3 in (
      first,
      (fed.0, fed.1, fed.2, fed.3, refl),
      led_further limits szx setup (first ∷ t) _ _ _ (led_further limits szx setup t _ _ _ led fed.4) steps.2,
    )

pub both_made : (peer : Endpoint) (held left : Held) → IsLetGo peer (Some held) (Some left)
    → BothMade peer (Some held) (Some left)
both_made peer (Server old) (Server new) steps = λ limits szx setup t led.
    both_led peer _ _ steps limits szx setup t led
both_made peer (Server old) (Client c) steps = absurd steps
both_made peer (Server old) (Names n) steps = absurd steps
both_made peer (Client c) left steps = absurd steps
both_made peer (Names n) left steps = absurd steps
