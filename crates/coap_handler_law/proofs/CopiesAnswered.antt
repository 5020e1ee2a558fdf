-- A copy of what is remembered gets the reply that is kept.
use Rattle.std.proofs.Common.{◌≡◌, ◌⊎◌, inl, inr, ℕ, List, [], ◌∷◌, refl, sym, ap, subst, ◌∙◌}
use Rattle.coap_types.specs.Past.{Always}
use Rattle.coap_types.specs.declared.endpoint.Endpoint.{Endpoint}
use Rattle.coap_types.specs.declared.message.Kind.{Kind}
use Rattle.coap_types.specs.declared.message.Kind.TheVariants.{Con, Non, Ack, Rst}
use Rattle.coap_codec.specs.Message.{Message, Spells}
use Rattle.coap_codec.proofs.Facts.EveryDatagram.{one_message}
use Rattle.coap_layer.specs.Arrivals.{Arrival, Unreadable, Faulted, Whole, Shows}
use Rattle.coap_layer.specs.Rows.{LayerLaw, Row, Arrives, Sorts, HandsOver, HandedAs, stored}
use Rattle.coap_layer.specs.Trace.{Entry, Call, Answer, Receive, Becomes, Replayed}
use Rattle.coap_layer.specs.Words.{Incoming}
use Rattle.coap_layer.specs.declared.setup.Setup.{Setup}
use Rattle.coap_handler_law.specs.Promised.{CopyGets}

not_handed : (setup : Setup) (past : List Entry) (e : Entry) (m : Incoming) → HandedAs setup past e m
    → e.answer ≡ Becomes Replayed → ⊥
not_handed setup past e m (inl h) is = let a = h.2 in absurd cc
not_handed setup past e m (inr (inl h)) is = let a = h.3 in absurd cc
not_handed setup past e m (inr (inr h)) is = let a = h.1 in absurd cc

by_row : (setup : Setup) (past : List Entry) (e : Entry) (m : Incoming) → Sorts setup past e m
    → e.answer ≡ Becomes Replayed → e.out ≡ stored past m
by_row setup past e m (Sorts.rejects h) is = let a = h.answer in absurd cc
by_row setup past e m (Sorts.drops h) is = let a = h.answer in absurd cc
by_row setup past e m (Sorts.takes_ack h) is = let a = h.answer in absurd cc
by_row setup past e m (Sorts.takes_reset h) is = let a = h.answer in absurd cc
by_row setup past e m (Sorts.passes_reset h) is = let a = h.answer in absurd cc
by_row setup past e m (Sorts.takes_answer h) is = let a = h.answer in absurd cc
by_row setup past e m (Sorts.replays h) is = h.out
by_row setup past e m (Sorts.hands_over h) is = absurd (not_handed setup past e m h.answer is)

by_arrival : (setup : Setup) (past : List Entry) (e : Entry) (from : Endpoint) (bytes : List ℕ) (m : Message)
    (what : Arrival) → Shows bytes what → Arrives setup past e from what → e.answer ≡ Becomes Replayed → Spells bytes m
    → e.out ≡ stored past (record { from = from; message = m })
by_arrival setup past e from bytes m Unreadable shows row is spells = let a = row.0 in absurd cc
by_arrival setup past e from bytes m (Faulted Con id) shows row is spells = let a = row.0 in absurd cc
by_arrival setup past e from bytes m (Faulted Non id) shows row is spells = let a = row.0 in absurd cc
by_arrival setup past e from bytes m (Faulted Ack id) shows row is spells = let a = row.0 in absurd cc
by_arrival setup past e from bytes m (Faulted Rst id) shows row is spells = let a = row.0 in absurd cc
by_arrival setup past e from bytes m (Whole n) shows row is spells =
    by_row setup past e (record { from = from; message = m })
    (subst (λ x. Sorts setup past e (record { from = from; message = x })) (one_message bytes n m shows spells) row) is

pub copies_get : (setup : Setup) (t : List Entry) → LayerLaw setup t → Always CopyGets t
copies_get setup [] law = tt
copies_get setup (e ∷ past) law = (
  λ from bytes m call answer spells.
      let row : Row setup past e (Receive from bytes) = subst (Row setup past e) call law.0.row in
      by_arrival setup past e from bytes m row.0 row.1 row.2 answer spells,
  copies_get setup past law.1,
)
