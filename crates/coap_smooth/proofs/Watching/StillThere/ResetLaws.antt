-- What the laws beneath say of Resets (RFC 7641, section 3.6).
use Rattle.std.proofs.Common.{ℕ, List}
use Rattle.coap_types.specs.declared.endpoint.Endpoint.{Endpoint}
use Rattle.coap_layer.specs.Channel.{Hop}
use Rattle.coap_layer.specs.OneClock.{ChannelLaw}
use Rattle.coap_layer.specs.Follows.{IdsSmall}
use Rattle.coap_layer.specs.Rows.{LayerLaw}
use Rattle.coap_layer.specs.Taking.{ResetsMeant}
use Rattle.coap_layer.specs.Trace as L
use Rattle.coap_layer.specs.declared.setup.Setup.{Setup}
use Rattle.coap_resource.specs.Limits.{Limits}
use Rattle.coap_server_laws.specs.Follows.Ways.{EndsOnReset}
use Rattle.coap_server.specs.Law.{ServerLaw}
use Rattle.coap_server.specs.Trace as S
use Rattle.coap_smooth.proofs.Watching.StillThere.NonReset.{AllSent}
use Rattle.coap_smooth.proofs.Watching.StillThere.Rejected.{AllAcked}
use Rattle.coap_smooth.proofs.Watching.StillThere.ToldToken.{Says}

pub record ResetLaws : Type 0 where
  pub says : Says
  pub meant : (one other : Setup) (near far : Endpoint) (all : List Hop) → ChannelLaw one other near far all
      → ResetsMeant near far all
  pub sent : AllSent
  pub acked : AllAcked
  pub small : (setup : Setup) (t : List L.Entry) → LayerLaw setup t → IdsSmall t
  pub on_reset : (limits : Limits) (szx : ℕ) (setup : Setup) (t : List S.Call) → ServerLaw limits szx setup t
      → EndsOnReset limits szx t
