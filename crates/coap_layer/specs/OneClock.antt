-- Two layers that have one clock.
use Rattle.std.specs.Prelude.{List}
use Rattle.coap_types.specs.declared.endpoint.Endpoint.{Endpoint}
use Rattle.coap_layer.specs.Channel.{Hop}
use Rattle.coap_layer.specs.Clocks.{one_clock}
use Rattle.coap_layer.specs.Paced as paced
use Rattle.coap_layer.specs.Trace.{Setup}

abbrev pub ChannelLaw : Setup → Setup → Endpoint → Endpoint → List Hop → Type 0
ChannelLaw one other near far all = paced.ChannelLaw one_clock one other near far all
