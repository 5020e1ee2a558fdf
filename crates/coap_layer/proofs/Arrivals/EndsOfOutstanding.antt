-- An acknowledgement and a Reset are taken only for a CON that is outstanding.
use Rattle.coap_layer.specs.Trace.{Setup}
use Rattle.std.proofs.Common.{◌≡◌, ◌⊎◌, inl, inr, ⊎_elim, ℕ, Option, Some, None, List, [], ◌∷◌, refl, ap, ◌∙◌, subst}
use Rattle.coap_types.specs.declared.endpoint.Endpoint.{Endpoint}
use Rattle.coap_types.specs.declared.message.Kind.TheVariants.{Con, Non, Ack, Rst}
use Rattle.coap_layer.specs.Arrivals.{Arrival, Unreadable, Faulted, Whole}
use Rattle.coap_layer.specs.Trace.{Receive, Acked, Reset, Answer, Becomes, Entry}
use Rattle.coap_layer.specs.Words.{Incoming}
use Rattle.coap_layer.specs.Rows.{Outstanding, Stands, LayerLaw, Row, Arrives, Sorts, HandedAs, rejects, drops}
use Rattle.coap_layer.specs.Rows.{takes_ack, takes_reset, passes_reset, takes_answer, replays, hands_over}
use Rattle.coap_layer.specs.Follows.{EndsOutstanding}

-- the Message ID of what an answer says has ended
abbrev ended_by : Answer → Option ℕ
ended_by (Becomes (Acked id)) = Some id
ended_by (Becomes (Reset id)) = Some id
ended_by _ = None

none_ended : (answer a : Answer) (id : ℕ) → answer ≡ a → ended_by a ≡ None → ended_by answer ≡ Some id → ⊥
none_ended answer a id is none some = let k : ended_by answer ≡ None = ap ended_by is ∙ none in cc (k, some)

this_ended : (answer a : Answer) (n id : ℕ) → answer ≡ a → ended_by a ≡ Some n → ended_by answer ≡ Some id → n ≡ id
this_ended answer a n id is one some = let k : ended_by answer ≡ Some n = ap ended_by is ∙ one in cc (k, some)

sorted_ends : (setup : Setup) (past : List Entry) (e : Entry) (m : Incoming) (id : ℕ) → Sorts setup past e m
    → ended_by e.answer ≡ Some id → Outstanding past m.from id
sorted_ends setup past e m id (rejects r) h = absurd (none_ended e.answer _ id r.answer refl h)
sorted_ends setup past e m id (drops r) h = absurd (none_ended e.answer _ id r.answer refl h)
sorted_ends setup past e m id (takes_ack r) h =
    subst (Outstanding past m.from) (this_ended e.answer _ m.message.id id r.answer refl h) r.matches
sorted_ends setup past e m id (takes_reset r) h =
    subst (Outstanding past m.from) (this_ended e.answer _ m.message.id id r.answer refl h) r.matches
sorted_ends setup past e m id (passes_reset r) h = absurd (none_ended e.answer _ id r.answer refl h)
sorted_ends setup past e m id (takes_answer r) h = absurd (none_ended e.answer _ id r.answer refl h)
sorted_ends setup past e m id (replays r) h = absurd (none_ended e.answer _ id r.answer refl h)
sorted_ends setup past e m id (hands_over r) h = absurd (go r.answer)
  where
    go : HandedAs setup past e m → ⊥
    go (inl a) = none_ended e.answer _ id a.2 refl h
    go (inr (inl a)) = none_ended e.answer _ id a.3 refl h
    go (inr (inr a)) = none_ended e.answer _ id a.1 refl h

arrived_ends : (setup : Setup) (past : List Entry) (e : Entry) (from : Endpoint) (what : Arrival) (id : ℕ)
    → Arrives setup past e from what → ended_by e.answer ≡ Some id → Outstanding past from id
arrived_ends setup past e from Unreadable id r h = absurd (none_ended e.answer _ id r.0 refl h)
arrived_ends setup past e from (Faulted Con n) id r h = absurd (none_ended e.answer _ id r.0 refl h)
arrived_ends setup past e from (Faulted Non n) id r h = absurd (none_ended e.answer _ id r.0 refl h)
arrived_ends setup past e from (Faulted Ack n) id r h = absurd (none_ended e.answer _ id r.0 refl h)
arrived_ends setup past e from (Faulted Rst n) id r h = absurd (none_ended e.answer _ id r.0 refl h)
arrived_ends setup past e from (Whole m) id r h = sorted_ends setup past e (record { from = from; message = m }) id r h

ends_here : (setup : Setup) (past : List Entry) (e : Entry) → Stands setup past e
    → (from : Endpoint) (bytes : List ℕ) (id : ℕ) → e.call ≡ Receive from bytes
    → (e.answer ≡ Becomes (Acked id)) ⊎ (e.answer ≡ Becomes (Reset id)) → Outstanding past from id
ends_here setup past e here from bytes id call h =
    let row : Row setup past e (Receive from bytes) = subst (Row setup past e) call here.row in
    arrived_ends setup past e from row.0 id row.2 (⊎_elim (λ a. ap ended_by a) (λ a. ap ended_by a) h)

pub ends_outstanding : (setup : Setup) (t : List Entry) → LayerLaw setup t → EndsOutstanding t
ends_outstanding setup [] law = tt
ends_outstanding setup (e ∷ past) law = (ends_here setup past e law.0, ends_outstanding setup past law.1)
