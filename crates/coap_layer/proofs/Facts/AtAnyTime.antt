-- What follows from the law of two layers between which datagrams come at any time.
use Rattle.std.proofs.Common.{◌≡◌, ℕ, List, ◌∷◌}
use Rattle.coap_types.specs.Past.{Ever}
use Rattle.coap_types.specs.declared.endpoint.Endpoint.{Endpoint}
use Rattle.coap_types.specs.declared.message.Kind.TheVariants.{Con, Non}
use Rattle.coap_codec.specs.Message.{Message, Spells}
use Rattle.coap_layer.specs.AtAnyTime.{FairLaw, BegunSo, NonsSent}
use Rattle.coap_layer.specs.Channel.{Hop, Far, near_of}
use Rattle.coap_layer.specs.Clocks.{Clocks}
use Rattle.coap_layer.specs.Paced as paced
use Rattle.coap_layer.specs.Sends.{PlainOut, TakenSent}
use Rattle.coap_layer.specs.Rows.{LayerLaw}
use Rattle.coap_layer.specs.Trace.{Setup, Receive, Entry}
use Rattle.coap_layer.proofs.Out.InOrder as order
use Rattle.coap_layer.proofs.Paced.AtAnyTime as any

pub taken_sent : (setup : Setup) (t : List Entry) → LayerLaw setup t → TakenSent t
taken_sent = order.taken_sent

pub of_channel : (c : Clocks) (one other : Setup) (near far : Endpoint) (all : List Hop)
    → paced.ChannelLaw c one other near far all → FairLaw one other near far all
of_channel = any.of_channel

module _ (one other : Setup) (near far : Endpoint) where
  pub earlier : (past : List Hop) (h : Hop) → FairLaw one other near far (h ∷ past) → FairLaw one other near far past
  earlier = any.earlier one other near far

  pub begun_so : (past : List Hop) (x : Entry) (bytes : List ℕ) (m : Message)
      → FairLaw one other near far (Far x ∷ past)
      → x.call ≡ Receive near bytes → Spells bytes m → m.kind ≡ Con → BegunSo far bytes m.id (near_of past)
  begun_so = any.begun_so one other near far

  pub nons_sent : (all : List Hop) → FairLaw one other near far all → NonsSent near far all
  nons_sent = any.nons_sent one other near far
