-- What a Reset says, and what goes out beside it.
use Rattle.std.proofs.Common.{◌≡◌, ◌⊎◌, inl, inr, ℕ, ◌<◌, ◌/◌, ◌%◌, List, ◌∷◌, ap, sym, subst, arith}
use Rattle.coap_types.specs.Past.{Always}
use Rattle.coap_types.proofs.Facts.Traces.{Ever_of_Since}
use Rattle.coap_types.specs.Roles.{role_of}
use Rattle.coap_types.specs.declared.endpoint.Endpoint.{Endpoint}
use Rattle.coap_types.specs.declared.message.Kind.TheVariants.{Con, Non, Ack, Rst}
use Rattle.coap_types.specs.declared.role.Role.TheVariants as role
use Rattle.coap_types.specs.declared.message.TheConstants.{MESSAGE_IDS as message_ids}
use Rattle.std.specs.Int.{byte_at}
use Rattle.coap_codec.specs.Faulty.{head_of}
use Rattle.coap_codec.specs.Message.{Message, Spells}
use Rattle.coap_codec.specs.declared.fault.Reason.{Reason}
use Rattle.coap_codec.specs.declared.fault.Reason.TheVariants.{Short, Version, TokenLength, TokenCut, EmptyNotBare}
use Rattle.coap_codec.specs.declared.fault.Reason.TheVariants.{DeltaReserved, LengthReserved, OptionCut, NumberTooLarge}
use Rattle.coap_codec.specs.declared.fault.Reason.TheVariants.{NoPayload}
use Rattle.coap_layer.specs.Arrivals.{Arrival, Unreadable, Faulted, Whole, Shows, by_head}
use Rattle.coap_layer.specs.EmptyMessages.{reset_bytes}
use Rattle.coap_layer.specs.Trace.{Setup, with_head, Packet, Reset, Rejected, Becomes, Entry}
use Rattle.coap_layer.specs.Words.{Incoming}
use Rattle.coap_layer.specs.Rows.{LayerLaw, Arrives, Sorts, HandedAs, rejects, drops, takes_ack, takes_reset}
use Rattle.coap_layer.specs.Rows.{passes_reset, takes_answer, replays, hands_over}
use Rattle.coap_layer.specs.Sends.{SpellsCon, GoesOut, first, copy, plain, reply, stored, reset}
use Rattle.coap_layer.specs.Channel.{RepliesSo}
use Rattle.coap_layer.proofs.Between.WhatComesByType.{spelled_begun, SpellsReply, stored_reply}

pub reset_id : (m : Message) (id : ℕ) → Spells (reset_bytes id) m → m.id ≡ id
reset_id m id s =
    let parts = s.parts in
    let high : id / 256 ≡ byte_at 1 m.id = cc parts in
    let low : id % 256 ≡ byte_at 0 m.id = cc parts in
    let high_is : id / 256 ≡ m.id / 256 % 256 = high in
    let low_is : id % 256 ≡ m.id % 256 = low in
    let bound : m.id < message_ids = s.id in
    omega (arith, high_is, low_is, bound)

not_con : (reason : Reason) (rest : List ℕ) (id : ℕ) → Faulted Con id ≡ by_head (head_of reason (0x70 ∷ rest)) → ⊥
not_con Short rest id h = cc h
not_con Version rest id h = cc h
not_con TokenLength rest id h = cc h
not_con TokenCut rest id h = cc h
not_con EmptyNotBare rest id h = cc h
not_con DeltaReserved rest id h = cc h
not_con LengthReserved rest id h = cc h
not_con OptionCut rest id h = cc h
not_con NumberTooLarge rest id h = cc h
not_con NoPayload rest id h = cc h

pub no_fault : (bytes : List ℕ) (n id : ℕ) → bytes ≡ reset_bytes n → Shows bytes (Faulted Con id) → ⊥
no_fault bytes n id is h =
    not_con h.1.0 _ id (subst (λ (x : List ℕ). Faulted Con id ≡ by_head (head_of h.1.0 x)) is h.1.3)

-- what goes out spells a message, or is a Reset
pub sent_what : (setup : Setup) (past : List Entry) (e : Entry) (p : Packet) → LayerLaw setup (e ∷ past)
    → Always RepliesSo (e ∷ past) → GoesOut past e p
    → ((m : Message) × Spells p.bytes m) ⊎ ((id : ℕ) × (p.bytes ≡ reset_bytes id))
sent_what setup past e p law replies (first r) =
    let s : SpellsCon r.con = spelled_begun setup (e ∷ past) r.con law (inl r.begins) in
    inl (s.0, subst (λ (x : List ℕ). Spells x s.0) (sym (ap (λ (x : Packet). x.bytes) r.is)) s.1)
sent_what setup past e p law replies (copy r) =
    let s : SpellsCon r.con = spelled_begun setup (e ∷ past) r.con law (inr r.begun_before) in
    inl (s.0, subst (λ (x : List ℕ). Spells x s.0) (sym (ap (λ (x : Packet). x.bytes) r.is)) s.1)
sent_what setup past e p law replies (plain r) = inl (with_head Non r.id r.content, r.spells)
sent_what setup past e p law replies (reply r) =
    let a = replies.0 p.to r.id p.bytes r.call in inl (a.reply, a.spells)
sent_what setup past e p law replies (stored r) =
    let a : SpellsReply r.message.id p.bytes = stored_reply p.to r.message.id p.bytes past replies.1
    (Ever_of_Since _ _ past r.given) in inl (a.reply, a.spells)
sent_what setup past e p law replies (reset r) = inr (r.id, ap (λ (x : Packet). x.bytes) r.is)

pub record Lawful (setup : Setup) (t : List Entry) : Type 0 where
  pub law : LayerLaw setup t
  pub replies : Always RepliesSo t

-- a Reset that is taken
pub record HeardReset (bytes : List ℕ) (id : ℕ) : Type 0 where
  pub message : Message
  pub spells : Spells bytes message
  pub kind : message.kind ≡ Rst
  pub id_is : message.id ≡ id

sorted_reset : (setup : Setup) (past : List Entry) (e : Entry) (n : Incoming) (id : ℕ) → Sorts setup past e n
    → e.answer ≡ Becomes (Reset id) → (n.message.kind ≡ Rst) × (n.message.id ≡ id)
sorted_reset setup past e n id (rejects r) h = let a = r.answer in absurd (cc (a, h))
sorted_reset setup past e n id (drops r) h = let a = r.answer in absurd (cc (a, h))
sorted_reset setup past e n id (takes_ack r) h = let a = r.answer in absurd (cc (a, h))
sorted_reset setup past e n id (takes_reset r) h = (r.kind, (let a = r.answer in cc (a, h)))
sorted_reset setup past e n id (passes_reset r) h = let a = r.answer in absurd (cc (a, h))
sorted_reset setup past e n id (takes_answer r) h = let a = r.answer in absurd (cc (a, h))
sorted_reset setup past e n id (replays r) h = let a = r.answer in absurd (cc (a, h))
sorted_reset setup past e n id (hands_over r) h = absurd (up r.answer)
  where
    up : HandedAs setup past e n → ⊥
    up (inl a) = let b = a.2 in cc (b, h)
    up (inr (inl a)) = let b = a.3 in cc (b, h)
    up (inr (inr a)) = let b = a.1 in cc (b, h)

pub arrived_reset : (setup : Setup) (past : List Entry) (e : Entry) (from : Endpoint) (bytes : List ℕ) (what : Arrival)
    (id : ℕ)
    → Shows bytes what → Arrives setup past e from what → e.answer ≡ Becomes (Reset id)
    → HeardReset bytes id
arrived_reset setup past e from bytes Unreadable id s r h = let a = r.0 in absurd (cc (a, h))
arrived_reset setup past e from bytes (Faulted Con n) id s r h = let a = r.0 in absurd (cc (a, h))
arrived_reset setup past e from bytes (Faulted Non n) id s r h = let a = r.0 in absurd (cc (a, h))
arrived_reset setup past e from bytes (Faulted Ack n) id s r h = let a = r.0 in absurd (cc (a, h))
arrived_reset setup past e from bytes (Faulted Rst n) id s r h = let a = r.0 in absurd (cc (a, h))
arrived_reset setup past e from bytes (Whole m) id s r h =
    let k = sorted_reset setup past e (record { from = from; message = m }) id r h in
    record { message = m; spells = s; kind = k.0; id_is = k.1 }

-- a CON that is rejected is of neither class
pub rejected_class : (setup : Setup) (past : List Entry) (e : Entry) (n : Incoming) → Sorts setup past e n
    → e.answer ≡ Becomes Rejected
    → (role_of n.message.code ≡ role.Empty) ⊎ (role_of n.message.code ≡ role.Reserved)
rejected_class setup past e n (rejects r) h = r.class
rejected_class setup past e n (drops r) h = let a = r.answer in absurd (cc (a, h))
rejected_class setup past e n (takes_ack r) h = let a = r.answer in absurd (cc (a, h))
rejected_class setup past e n (takes_reset r) h = let a = r.answer in absurd (cc (a, h))
rejected_class setup past e n (passes_reset r) h = let a = r.answer in absurd (cc (a, h))
rejected_class setup past e n (takes_answer r) h = let a = r.answer in absurd (cc (a, h))
rejected_class setup past e n (replays r) h = let a = r.answer in absurd (cc (a, h))
rejected_class setup past e n (hands_over r) h = absurd (up r.answer)
  where
    up : HandedAs setup past e n → ⊥
    up (inl a) = let b = a.2 in cc (b, h)
    up (inr (inl a)) = let b = a.3 in cc (b, h)
    up (inr (inr a)) = let b = a.1 in cc (b, h)
