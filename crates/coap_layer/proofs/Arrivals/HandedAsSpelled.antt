-- What is handed up, and what is heard, by the rows.
use Rattle.coap_layer.specs.Trace.{Setup}
use Rattle.std.proofs.Common.{◌≡◌, ◌⊎◌, inl, inr, ℕ, true, Option, Some, None, List, [], ◌∷◌, refl, ap, sym, ◌∙◌, subst}
use Rattle.coap_types.specs.declared.endpoint.Endpoint.{Endpoint}
use Rattle.coap_types.specs.declared.message.Kind.TheVariants.{Con, Non, Ack, Rst}
use Rattle.coap_types.specs.SameEndpoint.{same_endpoint}
use Rattle.coap_types.proofs.Facts.Endpoints.{same_endpoint_is}
use Rattle.coap_codec.specs.Message.{Message, Spells}
use Rattle.coap_layer.specs.Arrivals.{Arrival, Unreadable, Faulted, Whole, Shows}
use Rattle.coap_layer.specs.Trace.{Call, Receive, Reply, Confirm, Plain, Settle, Ticks, Take, Room, AsksFree, Pass}
use Rattle.coap_layer.specs.Trace.{Response, Acked, Answer, Becomes, Entry}
use Rattle.coap_layer.specs.Words.{Incoming, handed_by, kept_by, from_there, handed_in, handed, taken, awaits_in}
use Rattle.coap_layer.specs.Words.{awaits, Awaited, Open, is_to, outstanding}
use Rattle.coap_layer.specs.Rows.{Outstanding, Stands, LayerLaw, Row, Arrives, Sorts, HandedAs, rejects, drops}
use Rattle.coap_layer.specs.Rows.{takes_ack, takes_reset, passes_reset, takes_answer, replays, hands_over}
use Rattle.coap_layer.specs.Channel.{IsLatest, HandedBy, HandedAsSpelled, TakesAckOf, HearsAck, AcksHeard}
use Rattle.coap_layer.proofs.ListLemmas.{and_left, and_right, same_nat}
use Rattle.coap_layer.proofs.Copies.WhatIsOpen.{some_in}

no_up : (from : Endpoint) (answer a : Answer) (m : Incoming) (X : Type 0) → answer ≡ a → handed_by a ≡ None
    → from_there from (handed_by answer) ≡ Some m → X
no_up from answer a m X is none up = let e : from_there from (handed_by answer)
    ≡ None = ap (from_there from) (ap handed_by is ∙ none) in absurd (cc (e, up))

-- a response in a CON or a NON is handed up, and remembered
response_held : (x : Message) → (x.kind ≡ Con) ⊎ (x.kind ≡ Non) → handed_by (Becomes (Response x)) ≡ Some x
response_held x (inl k) = rw k refl
response_held x (inr k) = rw k refl

module _ (setup : Setup) (past : List Entry) (e : Entry) (from : Endpoint) (bytes : List ℕ) (m : Incoming)
    (call : e.call ≡ Receive from bytes) where
  -- this message is handed up
  up_is : (n : Message) → Spells bytes n → (n.kind ≡ Con) ⊎ (n.kind ≡ Non) → handed_by e.answer ≡ Some n
      → (n.kind ≡ Con → kept_by e.answer ≡ Some n) → from_there from (handed_by e.answer) ≡ Some m → HandedBy e m
  up_is n spells kind is kept up =
      let same : record { from = from; message = n }
      ≡ m = (let k : from_there from (handed_by e.answer)
      ≡ Some (record { from = from; message = n }) = ap (from_there from) is in cc (k, up)) in
      subst (HandedBy e) same (record {
        bytes = bytes;
        call = call;
        spells = spells;
        kind = kind;
        kept = λ con. subst (λ (c : Call). taken (record e { call = c }) ≡ Some (record { from = from; message = n }))
            (sym call) (ap (from_there from) (kept con));
      })

  sorted_by : (n : Message) → Spells bytes n → Sorts setup past e (record { from = from; message = n })
      → from_there from (handed_by e.answer) ≡ Some m → HandedBy e m
  sorted_by n s (rejects r) h = no_up from e.answer _ m _ r.answer refl h
  sorted_by n s (drops r) h = no_up from e.answer _ m _ r.answer refl h
  sorted_by n s (takes_ack r) h = no_up from e.answer _ m _ r.answer refl h
  sorted_by n s (takes_reset r) h = no_up from e.answer _ m _ r.answer refl h
  sorted_by n s (passes_reset r) h = no_up from e.answer _ m _ r.answer refl h
  sorted_by n s (takes_answer r) h = no_up from e.answer _ m _ r.answer (none_of n r.kind) h
    where
      none_of : (x : Message) → x.kind ≡ Ack → handed_by (Becomes (Response x)) ≡ None
      none_of x k = rw k refl
  sorted_by n s (replays r) h = no_up from e.answer _ m _ r.answer refl h
  sorted_by n s (hands_over r) h = go r.answer
    where
      go : HandedAs setup past e (record { from = from; message = n }) → HandedBy e m
      go (inl a) = up_is n s r.kind (ap handed_by a.2) (λ k. ap kept_by a.2) h
      go (inr (inl a)) = up_is n s r.kind (ap handed_by a.3) (λ k. let l = a.1 in absurd (cc (k, l))) h
      go (inr (inr a)) = up_is n s r.kind (ap handed_by a.1 ∙ response_held n r.kind)
          (λ k. ap kept_by a.1 ∙ response_held n r.kind) h

  arrived_by : (what : Arrival) → Shows bytes what → Arrives setup past e from what
      → from_there from (handed_by e.answer) ≡ Some m → HandedBy e m
  arrived_by Unreadable s r h = no_up from e.answer _ m _ r.0 refl h
  arrived_by (Faulted Con id) s r h = no_up from e.answer _ m _ r.0 refl h
  arrived_by (Faulted Non id) s r h = no_up from e.answer _ m _ r.0 refl h
  arrived_by (Faulted Ack id) s r h = no_up from e.answer _ m _ r.0 refl h
  arrived_by (Faulted Rst id) s r h = no_up from e.answer _ m _ r.0 refl h
  arrived_by (Whole n) s r h = sorted_by n s r h

handed_row : (setup : Setup) (past : List Entry) (e : Entry) (m : Incoming) (call : Call) → e.call ≡ call
    → Row setup past e call → handed_in call e.answer ≡ Some m → HandedBy e m
handed_row setup past e m (Receive from bytes) is row h =
    arrived_by setup past e from bytes m is row.0 row.1 row.2 h
handed_row setup past e m (Reply to id bytes) is row h = absurd (cc h)
handed_row setup past e m (Confirm to content wish) is row h = absurd (cc h)
handed_row setup past e m (Plain to content) is row h = absurd (cc h)
handed_row setup past e m (Settle to id) is row h = absurd (cc h)
handed_row setup past e m Ticks is row h = absurd (cc h)
handed_row setup past e m Take is row h = absurd (cc h)
handed_row setup past e m (Room to) is row h = absurd (cc h)
handed_row setup past e m AsksFree is row h = absurd (cc h)
handed_row setup past e m Pass is row h = absurd (cc h)

pub handed_so : (setup : Setup) (past : List Entry) (e : Entry) (m : Incoming) → Stands setup past e → handed e ≡ Some m
    → HandedBy e m
handed_so setup past e m law h = handed_row setup past e m e.call refl law.row h

-- the acknowledgement that is taken
abbrev acked_by : Answer → Option ℕ
acked_by (Becomes (Acked id)) = Some id
acked_by (Becomes (Response m)) = Some m.id
acked_by _ = None

pub record Heard (bytes : List ℕ) (id : ℕ) : Type 0 where
  pub message : Message
  pub spells : Spells bytes message
  pub kind : message.kind ≡ Ack
  pub id_is : message.id ≡ id

module _ (setup : Setup) (past : List Entry) (e : Entry) (bytes : List ℕ) (id : ℕ) where
  not_heard : (a : Answer) → e.answer ≡ a → acked_by a ≡ None → acked_by e.answer ≡ Some id → Heard bytes id
  not_heard a is none h = let k : acked_by e.answer ≡ None = ap acked_by is ∙ none in absurd (cc (k, h))

  heard_in : (m : Incoming) → Spells bytes m.message → ((n : Message) → e.answer ≡ Becomes (Response n) → n.kind ≡ Ack)
      → acked_by e.answer ≡ Some id → Sorts setup past e m → Heard bytes id
  heard_in m s only h (rejects r) = not_heard _ r.answer refl h
  heard_in m s only h (drops r) = not_heard _ r.answer refl h
  heard_in m s only h (takes_ack r) = record {
    message = m.message;
    spells = s;
    kind = r.kind;
    id_is = let k = ap acked_by r.answer in cc (k, h);
  }
  heard_in m s only h (takes_reset r) = not_heard _ r.answer refl h
  heard_in m s only h (passes_reset r) = not_heard _ r.answer refl h
  heard_in m s only h (takes_answer r) = record
      { message = m.message; spells = s; kind = r.kind; id_is = let k = ap acked_by r.answer in cc (k, h) }
  heard_in m s only h (replays r) = not_heard _ r.answer refl h
  heard_in m s only h (hands_over r) = go r.answer
    where
      not_ack : (m.message.kind ≡ Con) ⊎ (m.message.kind ≡ Non) → m.message.kind ≡ Ack → ⊥
      not_ack (inl a) b = cc (a, b)
      not_ack (inr a) b = cc (a, b)

      go : HandedAs setup past e m → Heard bytes id
      go (inl a) = not_heard _ a.2 refl h
      go (inr (inl a)) = not_heard _ a.3 refl h
      go (inr (inr a)) = absurd (not_ack r.kind (only m.message a.1))

  heard_as : (from : Endpoint) (what : Arrival) → Shows bytes what
      → ((n : Message) → e.answer ≡ Becomes (Response n) → n.kind ≡ Ack) → acked_by e.answer ≡ Some id
      → Arrives setup past e from what → Heard bytes id
  heard_as from Unreadable s only h r = not_heard _ r.0 refl h
  heard_as from (Faulted Con n) s only h r = not_heard _ r.0 refl h
  heard_as from (Faulted Non n) s only h r = not_heard _ r.0 refl h
  heard_as from (Faulted Ack n) s only h r = not_heard _ r.0 refl h
  heard_as from (Faulted Rst n) s only h r = not_heard _ r.0 refl h
  heard_as from (Whole m) s only h r = heard_in (record { from = from; message = m }) s only h r

-- what both say of the answer
ack_only : (answer : Answer) (id : ℕ) → TakesAckOf id answer → (n : Message) → answer ≡ Becomes (Response n)
    → n.kind ≡ Ack
ack_only answer id (inl a) n k = absurd (cc (a, k))
ack_only answer id (inr a) n k = let l = a.1 in let same : a.0
    ≡ n = cc (l, k) in ap (λ (x : Message). x.kind) (sym same) ∙ a.2

ack_told : (answer : Answer) (id : ℕ) → TakesAckOf id answer → acked_by answer ≡ Some id
ack_told answer id (inl a) = ap acked_by a
ack_told answer id (inr a) = ap acked_by a.1 ∙ ap Some a.3

pub heard : (setup : Setup) (past : List Entry) (e : Entry) (from : Endpoint) (bytes : List ℕ) (id : ℕ)
    → Stands setup past e
    → e.call ≡ Receive from bytes
    → TakesAckOf id e.answer → Heard bytes id
heard setup past e from bytes id here call h =
    heard_as setup past e bytes id from row.0 row.1 (ack_only e.answer id h) (ack_told e.answer id h) row.2
  where
    row : Row setup past e (Receive from bytes)
    row = subst (Row setup past e) call here.row

pub handed_spelled : (setup : Setup) (t : List Entry) → LayerLaw setup t → HandedAsSpelled t
handed_spelled setup [] law = tt
handed_spelled setup (e ∷ past) law = ((λ m h. handed_so setup past e m law.0 h), handed_spelled setup past law.1)

-- the CON of which an acknowledgement is taken
outstanding_of : (past : List Entry) (e : Entry) (from : Endpoint) (bytes : List ℕ) (id : ℕ)
    → e.call ≡ Receive from bytes → TakesAckOf id e.answer → Outstanding past from id
    → (con : Open) × (con.to ≡ from) × (con.id ≡ id) × HearsAck con past e
outstanding_of past e from bytes id call h o =
    let q = some_in (λ c. is_to from id c ≡ true) (outstanding past) o in
    let place : q.0.to ≡ from = same_endpoint_is q.0.to from (and_left _ _ q.2) in
    let number : q.0.id ≡ id = same_nat q.0.id id (and_right (same_endpoint q.0.to from) _ q.2) in (
      q.0,
      place,
      number,
      record {
        is_outstanding = q.1;
        bytes = bytes;
        call = call ∙ ap (λ (f : Endpoint). Receive f bytes) (sym place);
        answer = subst (λ (i : ℕ). TakesAckOf i e.answer) (sym number) h;
      },
    )

module _ (setup : Setup) (past : List Entry) (e : Entry) (id : ℕ) where
  not_this : (X : Type 0) (a : Answer) → e.answer ≡ a → acked_by a ≡ None → acked_by e.answer ≡ Some id → X
  not_this X a is none h = let k : acked_by e.answer ≡ None = ap acked_by is ∙ none in absurd (cc (k, h))

  sorted_ack : (m : Incoming) → ((n : Message) → e.answer ≡ Becomes (Response n) → n.kind ≡ Ack)
      → acked_by e.answer ≡ Some id → Sorts setup past e m → Outstanding past m.from id
  sorted_ack m only h (rejects r) = not_this _ _ r.answer refl h
  sorted_ack m only h (drops r) = not_this _ _ r.answer refl h
  sorted_ack m only h (takes_ack r) = subst (Outstanding past m.from)
      (let k = ap acked_by r.answer in cc (k, h)) r.matches
  sorted_ack m only h (takes_reset r) = not_this _ _ r.answer refl h
  sorted_ack m only h (passes_reset r) = not_this _ _ r.answer refl h
  sorted_ack m only h (takes_answer r) = subst (Outstanding past m.from)
      (let k = ap acked_by r.answer in cc (k, h)) r.matches
  sorted_ack m only h (replays r) = not_this _ _ r.answer refl h
  sorted_ack m only h (hands_over r) = go r.answer
    where
      not_ack : (m.message.kind ≡ Con) ⊎ (m.message.kind ≡ Non) → m.message.kind ≡ Ack → ⊥
      not_ack (inl a) b = cc (a, b)
      not_ack (inr a) b = cc (a, b)

      go : HandedAs setup past e m → Outstanding past m.from id
      go (inl a) = not_this _ _ a.2 refl h
      go (inr (inl a)) = not_this _ _ a.3 refl h
      go (inr (inr a)) = absurd (not_ack r.kind (only m.message a.1))

  arrived_ack : (from : Endpoint) (what : Arrival) → ((n : Message) → e.answer ≡ Becomes (Response n) → n.kind ≡ Ack)
      → acked_by e.answer ≡ Some id → Arrives setup past e from what → Outstanding past from id
  arrived_ack from Unreadable only h r = not_this _ _ r.0 refl h
  arrived_ack from (Faulted Con n) only h r = not_this _ _ r.0 refl h
  arrived_ack from (Faulted Non n) only h r = not_this _ _ r.0 refl h
  arrived_ack from (Faulted Ack n) only h r = not_this _ _ r.0 refl h
  arrived_ack from (Faulted Rst n) only h r = not_this _ _ r.0 refl h
  arrived_ack from (Whole m) only h r = sorted_ack (record { from = from; message = m }) only h r

heard_of : (setup : Setup) (past : List Entry) (e : Entry) (from : Endpoint) (bytes : List ℕ) (id : ℕ)
    → Stands setup past e
    → e.call ≡ Receive from bytes → TakesAckOf id e.answer
    → (con : Open) × (con.to ≡ from) × (con.id ≡ id) × HearsAck con past e
heard_of setup past e from bytes id here call h =
    let row : Row setup past e (Receive from bytes) = subst (Row setup past e) call here.row in
    outstanding_of past e from bytes id call h (arrived_ack setup past e id from row.0 (ack_only e.answer id h)
    (ack_told e.answer id h) row.2)

pub acks_heard : (setup : Setup) (t : List Entry) → LayerLaw setup t → AcksHeard t
acks_heard setup [] law = tt
acks_heard setup (e ∷ past) law = (
  (λ from bytes id call h. heard_of setup past e from bytes id law.0 call h),
  acks_heard setup past law.1,
)

-- what a reply may be given to is the message that was handed up last
pub record IsOf (m : Incoming) (a : Awaited) : Type 0 where
  pub from_is : m.from ≡ a.from
  pub id_is : m.message.id ≡ a.id

latest_here : (call : Call) (answer : Answer) (old : Option Awaited) (m : Incoming) (a : Awaited)
    → handed_in call answer ≡ Some m → awaits_in call answer old ≡ Some a → IsOf m a
latest_here (Receive from bytes) answer old m a h k = go (from_there from (handed_by answer)) refl
  where
    go : (o : Option Incoming) → from_there from (handed_by answer) ≡ o → IsOf m a
    go None e = absurd (cc (e, h))
    go (Some n) e =
        let same : n ≡ m = cc (e, h) in
        let is : record { from = n.from; id = n.message.id } ≡ a = cc (e, k) in
        record {
          from_is = ap (λ (x : Incoming). x.from) (sym same) ∙ ap (λ (x : Awaited). x.from) is;
          id_is = ap (λ (x : Incoming). x.message.id) (sym same) ∙ ap (λ (x : Awaited). x.id) is;
        }
latest_here (Reply to id bytes) answer old m a h k = absurd (cc h)
latest_here (Confirm to content wish) answer old m a h k = absurd (cc h)
latest_here (Plain to content) answer old m a h k = absurd (cc h)
latest_here (Settle to id) answer old m a h k = absurd (cc h)
latest_here Ticks answer old m a h k = absurd (cc h)
latest_here Take answer old m a h k = absurd (cc h)
latest_here (Room to) answer old m a h k = absurd (cc h)
latest_here AsksFree answer old m a h k = absurd (cc h)
latest_here Pass answer old m a h k = absurd (cc h)

pub latest_before : (call : Call) (answer : Answer) (old : Option Awaited) (a : Awaited) → handed_in call answer ≡ None
    → awaits_in call answer old ≡ Some a → old ≡ Some a
latest_before (Receive from bytes) answer old a h k = absurd (cc (h, k))
latest_before (Reply to id bytes) answer old a h k = absurd (cc k)
latest_before (Confirm to content wish) answer old a h k = absurd (cc k)
latest_before (Plain to content) answer old a h k = absurd (cc k)
latest_before (Settle to id) answer old a h k = k
latest_before Ticks answer old a h k = absurd (cc k)
latest_before Take answer old a h k = k
latest_before (Room to) answer old a h k = k
latest_before AsksFree answer old a h k = k
latest_before Pass answer old a h k = k

pub latest_is : (t : List Entry) (at : ℕ) (m : Incoming) (a : Awaited) → awaits t ≡ Some a → IsLatest t at m → IsOf m a
latest_is [] at m a h k = absurd k
latest_is (e ∷ past) at m a h (inl k) = latest_here e.call e.answer (awaits past) m a k.0 h
latest_is (e ∷ past) at m a h (inr k) = latest_is past at m a (latest_before e.call e.answer (awaits past) a k.0 h) k.1
