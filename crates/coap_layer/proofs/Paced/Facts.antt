-- The law of each past, and what happens at an instant.
use Rattle.std.proofs.Common.{ℕ, List, [], ◌∷◌, subst}
use Rattle.coap_types.specs.Past.{Always}
use Rattle.coap_types.specs.declared.endpoint.Endpoint.{Endpoint}
use Rattle.coap_layer.specs.Channel.{Hop, Near, Far}
use Rattle.coap_layer.specs.Clocks.{Clocks, one_clock}
use Rattle.coap_layer.specs.Paced.{Meanwhile, ChannelLaw}
use Rattle.coap_layer.specs.Trace.{Setup, Entry}

module _ (c : Clocks) (one other : Setup) (near far : Endpoint) where
  pub earlier : (past : List Hop) (h : Hop) → ChannelLaw c one other near far (h ∷ past)
      → ChannelLaw c one other near far past
  earlier past (Near e) law = record {
    pace = law.pace;
    near_law = law.near_law.1;
    far_law = law.far_law;
    near_replies = law.near_replies.1;
    far_replies = law.far_replies;
    fair = law.fair.1;
  }
  earlier past (Far e) law = record {
    pace = law.pace;
    near_law = law.near_law;
    far_law = law.far_law.1;
    near_replies = law.near_replies;
    far_replies = law.far_replies.1;
    fair = law.fair.1;
  }

  pub each_hop : (C : List Hop → Hop → Type 0)
      → ((past : List Hop) (h : Hop) → ChannelLaw c one other near far (h ∷ past) → C past h) → (all : List Hop)
      → ChannelLaw c one other near far all → Always C all
  each_hop C f [] law = tt
  each_hop C f (h ∷ past) law = (f past h law, each_hop C f past (earlier past h law))

pub meanwhile_map : (c : Clocks) (at : ℕ) (past : List Entry) (P Q : ℕ → Type 0) → ((when : ℕ) → P when → Q when)
    → Meanwhile c at past P → Meanwhile c at past Q
meanwhile_map c at past P Q f m =
    record { instant = m.instant; shown = m.shown; later = m.later; so = f (c.near m.instant) m.so }

-- by one clock it is that moment
pub at_once : (at : ℕ) (past : List Entry) (P : ℕ → Type 0) → Meanwhile one_clock at past P → P at
at_once at past P m = subst P m.shown m.so
