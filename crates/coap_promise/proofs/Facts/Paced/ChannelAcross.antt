-- The same hops, with the other layer as the near one, and its clock, stand in the law as well.
use Rattle.std.proofs.Common.{◌≤◌, List, [], ◌∷◌, ◌++◌, sym, subst}
use Rattle.coap_types.specs.Past.{Always}
use Rattle.coap_types.specs.declared.endpoint.Endpoint.{Endpoint}
use Rattle.coap_layer.specs.Channel.{Hop, Near, Far, GaveOut, RepliesSo}
use Rattle.coap_layer.specs.Clocks.{Clocks, turned, one_clock}
use Rattle.coap_layer.specs.OneClock as once
use Rattle.coap_layer.specs.Paced.{IsFair, ChannelLaw}
use Rattle.coap_layer.specs.Rows.{LayerLaw}
use Rattle.coap_layer.specs.Words.{clock}
use Rattle.coap_layer.specs.declared.setup.Setup.{Setup}
use Rattle.coap_layer.proofs.Facts.Paced.{earlier, pace_turned}
use Rattle.coap_promise.specs.Hops.{across}
use Rattle.coap_promise.proofs.Facts.Delivery.ChannelAcross.{near_across, far_across, near_there, far_there}

fair_across : (c : Clocks) (near far : Endpoint) (hs : List Hop) → Always (IsFair c near far) hs
    → Always (IsFair (turned c) far near) (across hs)
fair_across c near far [] h = tt
fair_across c near far (Near e ∷ hs) h = (
  (λ bytes is.
      let m = h.0 bytes is in
      record {
        instant = m.instant;
        shown = m.shown;
        later = subst (λ l. clock l ≤ c.far m.instant) (sym (near_across hs)) m.later;
        so = far_there (GaveOut near bytes (c.far m.instant)) hs m.so;
      }),
  fair_across c near far hs h.1,
)
fair_across c near far (Far e ∷ hs) h = (
  (λ bytes is.
      let m = h.0 bytes is in
      record {
        instant = m.instant;
        shown = m.shown;
        later = subst (λ l. clock l ≤ c.near m.instant) (sym (far_across hs)) m.later;
        so = near_there (GaveOut far bytes (c.near m.instant)) hs m.so;
      }),
  fair_across c near far hs h.1,
)

pub channel_across : (c : Clocks) (one other : Setup) (near far : Endpoint) (hs : List Hop)
    → ChannelLaw c one other near far hs → ChannelLaw (turned c) other one far near (across hs)
channel_across c one other near far hs law =
    record {
      pace = pace_turned c law.pace;
      near_law = subst (LayerLaw other) (sym (near_across hs)) law.far_law;
      far_law = subst (LayerLaw one) (sym (far_across hs)) law.near_law;
      near_replies = subst (Always RepliesSo) (sym (near_across hs)) law.far_replies;
      far_replies = subst (Always RepliesSo) (sym (far_across hs)) law.near_replies;
      fair = fair_across c near far hs law.fair;
    }

-- by one clock

pub once_across : (one other : Setup) (near far : Endpoint) (hs : List Hop) → once.ChannelLaw one other near far hs
    → once.ChannelLaw other one far near (across hs)
once_across = channel_across one_clock

pub once_back : (one other : Setup) (near far : Endpoint) (later past : List Hop)
    → once.ChannelLaw one other near far (later ++ past) → once.ChannelLaw one other near far past
once_back one other near far [] past law = law
once_back one other near far (h ∷ later) past law =
    once_back one other near far later past (earlier one_clock one other near far (later ++ past) h law)
