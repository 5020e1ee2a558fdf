-- A response is what its datagram spells.
use Rattle.coap_layer.specs.Trace.{Setup}
use Rattle.std.proofs.Common.{◌≡◌, inl, inr, ⊎_elim, ℕ, Option, Some, None, List, [], ◌∷◌, refl, ap, ◌∙◌, subst}
use Rattle.coap_types.specs.declared.endpoint.Endpoint.{Endpoint}
use Rattle.coap_types.specs.declared.message.Kind.TheVariants.{Con, Non, Ack, Rst}
use Rattle.coap_codec.specs.Message.{Message, Spells}
use Rattle.coap_layer.specs.Arrivals.{Arrival, Unreadable, Faulted, Whole, Shows}
use Rattle.coap_layer.specs.Trace.{Call, Receive, Reply, Confirm, Plain, Settle, Ticks, Take, Room, AsksFree, Pass}
use Rattle.coap_layer.specs.Trace.{Answer, Becomes, Response, Entry}
use Rattle.coap_layer.specs.Words.{Incoming}
use Rattle.coap_layer.specs.Rows.{LayerLaw, Row, Arrives, Sorts, HandedAs, rejects, drops, takes_ack, takes_reset}
use Rattle.coap_layer.specs.Rows.{passes_reset, takes_answer, replays, hands_over, copies, expires, rests}
use Rattle.coap_layer.specs.Follows.{Carried, ResponsesSpelled}

abbrev told_in : Answer → Option Message
told_in (Becomes (Response m)) = Some m
told_in _ = None

module _ (setup : Setup) (past : List Entry) (e : Entry) (m : Message) (h : told_in e.answer ≡ Some m) where
  not_told : (X : Type 0) (a : Answer) → e.answer ≡ a → told_in a ≡ None → X
  not_told X a is none = let k : told_in e.answer ≡ None = ap told_in is ∙ none in absurd (cc (k, h))

  is_told : (n : Message) → e.answer ≡ Becomes (Response n) → n ≡ m
  is_told n is = let k = ap told_in is in cc (k, h)

  sorted : (n : Incoming) → Sorts setup past e n → n.message ≡ m
  sorted n (rejects r) = not_told _ _ r.answer refl
  sorted n (drops r) = not_told _ _ r.answer refl
  sorted n (takes_ack r) = not_told _ _ r.answer refl
  sorted n (takes_reset r) = not_told _ _ r.answer refl
  sorted n (passes_reset r) = not_told _ _ r.answer refl
  sorted n (takes_answer r) = is_told n.message r.answer
  sorted n (replays r) = not_told _ _ r.answer refl
  sorted n (hands_over r) = go r.answer
    where
      go : HandedAs setup past e n → n.message ≡ m
      go (inl a) = not_told _ _ a.2 refl
      go (inr (inl a)) = not_told _ _ a.3 refl
      go (inr (inr a)) = is_told n.message a.1

  arrived : (from : Endpoint) (bytes : List ℕ) (what : Arrival) → Shows bytes what → Arrives setup past e from what
      → Spells bytes m
  arrived from bytes Unreadable s r = not_told _ _ r.0 refl
  arrived from bytes (Faulted Con id) s r = not_told _ _ r.0 refl
  arrived from bytes (Faulted Non id) s r = not_told _ _ r.0 refl
  arrived from bytes (Faulted Ack id) s r = not_told _ _ r.0 refl
  arrived from bytes (Faulted Rst id) s r = not_told _ _ r.0 refl
  arrived from bytes (Whole n) s r = subst (Spells bytes) (sorted (record { from = from; message = n }) r) s

  carried : (call : Call) → e.call ≡ call → Row setup past e call → Carried e m
  carried (Receive from bytes) is row = record
      { from = from; bytes = bytes; call = is; spells = arrived from bytes row.0 row.1 row.2 }
  carried (Reply to id bytes) is row = not_told _ _ row.1 refl
  carried (Confirm to content wish) is row = ⊎_elim (λ r. not_told _ _ r.answer refl)
      (λ r. ⊎_elim (λ q. not_told _ _ q.answer refl) (λ q. not_told _ _ q.answer refl) r.1) row.1
  carried (Plain to content) is row = ⊎_elim (λ r. not_told _ _ r.answer refl) (λ r. not_told _ _ r.answer refl) row.1
  carried (Settle to id) is row = ⊎_elim (λ k. not_told _ _ k.1 refl) (λ k. not_told _ _ k.1 refl) row.0.0
  carried Ticks is (copies r) = not_told _ _ r.answer refl
  carried Ticks is (expires r) = not_told _ _ r.answer refl
  carried Ticks is (rests r) = not_told _ _ r.answer refl
  carried Take is row = not_told _ _ row.0 refl
  carried (Room to) is row = ⊎_elim (λ k. not_told _ _ k.2 refl) (λ k. not_told _ _ k.1 refl) row.0
  carried AsksFree is row = ⊎_elim (λ k. not_told _ _ k.1 refl) (λ k. not_told _ _ k.1 refl) row.0
  carried Pass is row = not_told _ _ row.0 refl

pub responses_spelled : (setup : Setup) (t : List Entry) → LayerLaw setup t → ResponsesSpelled t
responses_spelled setup [] law = tt
responses_spelled setup (e ∷ past) law = (
  (λ m h. carried setup past e m (ap told_in h) e.call refl law.0.row),
  responses_spelled setup past law.1,
)
