-- What follows from the rows alone: what is handed up was not handed up in the last 247 s.
use Rattle.coap_layer.specs.Trace.{Setup}
use Rattle.std.proofs.Common.{◌≡◌, ◌⊎◌, inl, inr, ℕ, ◌<◌, true, false, Option, Some, None, List, refl, ap, ◌∙◌, subst}
use Rattle.coap_types.specs.declared.endpoint.Endpoint.{Endpoint}
use Rattle.coap_types.specs.declared.message.Kind.{Kind}
use Rattle.coap_types.specs.declared.message.Kind.TheVariants.{Con, Non, Ack, Rst}
use Rattle.coap_codec.specs.Message.{Message}
use Rattle.coap_layer.specs.Arrivals.{Arrival, Unreadable, Faulted, Whole}
use Rattle.coap_layer.specs.Trace.{Call, Receive, Reply, Confirm, Plain, Settle, Ticks, Take, Room, AsksFree, Pass}
use Rattle.coap_layer.specs.Trace.{Dropped, Replayed, Rejected, Request, Response, Acked, Reset, Unmatched, Answer}
use Rattle.coap_layer.specs.Trace.{Becomes, Entry}
use Rattle.coap_layer.specs.Words.{Incoming, handed_by, kept_by, from_there, handed_in, taken_in, handed, taken}
use Rattle.coap_layer.specs.Words.{Remembered, remembered}
use Rattle.coap_layer.specs.Rows.{Stands, Row, Arrives, Sorts, HandedAs, rejects, drops, takes_ack, takes_reset}
use Rattle.coap_layer.specs.Rows.{passes_reset, takes_answer, replays, hands_over}

-- an answer that hands nothing up
nothing_up : (from : Endpoint) (answer a : Answer) (m : Incoming) → answer ≡ a → handed_by a ≡ None
    → from_there from (handed_by answer) ≡ Some m → ⊥
nothing_up from answer a m is no_one up =
    let e : from_there from (handed_by answer) ≡ None = ap (from_there from) (ap handed_by is ∙ no_one) in
    cc (e, up)

-- an answer that hands up this message
this_up : (from : Endpoint) (answer : Answer) (n : Message) (m : Incoming) → handed_by answer ≡ Some n
    → from_there from (handed_by answer) ≡ Some m → record { from = from; message = n } ≡ m
this_up from answer n m is up =
    let e : from_there from (handed_by answer) ≡ Some (record { from = from; message = n }) = ap (from_there from) is in
    cc (e, up)

response_up : (k : Kind) (n : Message) → n.kind ≡ k → (k ≡ Con) ⊎ (k ≡ Non) → handed_by (Becomes (Response n)) ≡ Some n
response_up Con n h c = rw h refl
response_up Non n h c = rw h refl
response_up Ack n h (inl c) = absurd (cc c)
response_up Ack n h (inr c) = absurd (cc c)
response_up Rst n h (inl c) = absurd (cc c)
response_up Rst n h (inr c) = absurd (cc c)

acknowledged_up : (n : Message) → n.kind ≡ Ack → handed_by (Becomes (Response n)) ≡ None
acknowledged_up n h = rw h refl

pub handed_up : (setup : Setup) (past : List Entry) (e : Entry) (m : Incoming) → (m.message.kind ≡ Con)
    ⊎ (m.message.kind ≡ Non)
    → HandedAs setup past e m → handed_by e.answer ≡ Some m.message
handed_up setup past e m k (inl a) = ap handed_by a.2
handed_up setup past e m k (inr (inl a)) = ap handed_by a.3
handed_up setup past e m k (inr (inr a)) = ap handed_by a.1 ∙ response_up m.message.kind m.message refl k

-- .. is not remembered, and there is a place for it
abbrev IsNew : ℕ → List Entry → Entry → Incoming → Type 0
IsNew most past e m = (Remembered past e.at m.from m.message.id → ⊥) × (remembered e.at past < most)

sorted_new : (setup : Setup) (past : List Entry) (e : Entry) (n m : Incoming) → Sorts setup past e n
    → from_there n.from (handed_by e.answer) ≡ Some m → IsNew setup.remembered past e m
sorted_new setup past e n m (rejects r) h = absurd (nothing_up n.from e.answer _ m r.answer refl h)
sorted_new setup past e n m (drops r) h = absurd (nothing_up n.from e.answer _ m r.answer refl h)
sorted_new setup past e n m (takes_ack r) h = absurd (nothing_up n.from e.answer _ m r.answer refl h)
sorted_new setup past e n m (takes_reset r) h = absurd (nothing_up n.from e.answer _ m r.answer refl h)
sorted_new setup past e n m (passes_reset r) h = absurd (nothing_up n.from e.answer _ m r.answer refl h)
sorted_new setup past e n m (takes_answer r) h =
    absurd (nothing_up n.from e.answer _ m r.answer (acknowledged_up n.message r.kind) h)
sorted_new setup past e n m (replays r) h = absurd (nothing_up n.from e.answer _ m r.answer refl h)
sorted_new setup past e n m (hands_over r) h = (
  subst (λ (x : Incoming). Remembered past e.at x.from x.message.id → ⊥)
      (this_up n.from e.answer n.message m (handed_up setup past e n r.kind r.answer) h) r.new,
  r.room,
)

arrived_new : (setup : Setup) (past : List Entry) (e : Entry) (from : Endpoint) (what : Arrival) (m : Incoming)
    → Arrives setup past e from what → from_there from (handed_by e.answer) ≡ Some m → IsNew setup.remembered past e m
arrived_new setup past e from Unreadable m r h = absurd (nothing_up from e.answer _ m r.0 refl h)
arrived_new setup past e from (Faulted Con id) m r h = absurd (nothing_up from e.answer _ m r.0 refl h)
arrived_new setup past e from (Faulted Non id) m r h = absurd (nothing_up from e.answer _ m r.0 refl h)
arrived_new setup past e from (Faulted Ack id) m r h = absurd (nothing_up from e.answer _ m r.0 refl h)
arrived_new setup past e from (Faulted Rst id) m r h = absurd (nothing_up from e.answer _ m r.0 refl h)
arrived_new setup past e from (Whole n) m r h = sorted_new setup past e (record { from = from; message = n }) m r h

handed_new : (setup : Setup) (past : List Entry) (e : Entry) (call : Call) (m : Incoming) → Row setup past e call
    → handed_in call e.answer ≡ Some m → IsNew setup.remembered past e m
handed_new setup past e (Receive from bytes) m row h = arrived_new setup past e from row.0 m row.2 h
handed_new setup past e (Reply to id bytes) m row h = absurd (cc h)
handed_new setup past e (Confirm to content wish) m row h = absurd (cc h)
handed_new setup past e (Plain to content) m row h = absurd (cc h)
handed_new setup past e (Settle to id) m row h = absurd (cc h)
handed_new setup past e Ticks m row h = absurd (cc h)
handed_new setup past e Take m row h = absurd (cc h)
handed_new setup past e (Room to) m row h = absurd (cc h)
handed_new setup past e AsksFree m row h = absurd (cc h)
handed_new setup past e Pass m row h = absurd (cc h)

pub up_new : (setup : Setup) (past : List Entry) (e : Entry) (m : Incoming) → Stands setup past e → handed e ≡ Some m
    → Remembered past e.at m.from m.message.id → ⊥
up_new setup past e m law h = (handed_new setup past e e.call m law.row h).0

pub up_room : (setup : Setup) (past : List Entry) (e : Entry) (m : Incoming) → Stands setup past e → handed e ≡ Some m
    → remembered e.at past < setup.remembered
up_room setup past e m law h = (handed_new setup past e e.call m law.row h).1

-- what is remembered is handed up
kept_handed : (a : Answer) (n : Message) → kept_by a ≡ Some n → handed_by a ≡ Some n
kept_handed (Becomes (Request m true)) n h = h
kept_handed (Becomes (Request m false)) n h = absurd (cc h)
kept_handed (Becomes (Response m)) n h = h
kept_handed (Becomes Dropped) n h = absurd (cc h)
kept_handed (Becomes Replayed) n h = absurd (cc h)
kept_handed (Becomes Rejected) n h = absurd (cc h)
kept_handed (Becomes (Acked id)) n h = absurd (cc h)
kept_handed (Becomes (Reset id)) n h = absurd (cc h)
kept_handed (Becomes (Unmatched id)) n h = absurd (cc h)
kept_handed Answer.Nothing n h = absurd (cc h)
kept_handed (Answer.Is b) n h = absurd (cc h)
kept_handed (Answer.Sent id) n h = absurd (cc h)
kept_handed Answer.Busied n h = absurd (cc h)
kept_handed Answer.NoIds n h = absurd (cc h)
kept_handed Answer.Idle n h = absurd (cc h)
kept_handed (Answer.Copied to id) n h = absurd (cc h)
kept_handed (Answer.Expired to id) n h = absurd (cc h)
kept_handed (Answer.Gives p) n h = absurd (cc h)

taken_handed_in : (call : Call) (answer : Answer) (m : Incoming) → taken_in call answer ≡ Some m
    → handed_in call answer ≡ Some m
taken_handed_in (Receive from bytes) answer m h = go (kept_by answer) refl h
  where
    go : (o : Option Message) → kept_by answer ≡ o → from_there from o ≡ Some m
        → from_there from (handed_by answer) ≡ Some m
    go (Some n) is k = ap (from_there from) (kept_handed answer n is) ∙ k
    go None is k = absurd (cc k)
taken_handed_in (Reply to id bytes) answer m h = absurd (cc h)
taken_handed_in (Confirm to content wish) answer m h = absurd (cc h)
taken_handed_in (Plain to content) answer m h = absurd (cc h)
taken_handed_in (Settle to id) answer m h = absurd (cc h)
taken_handed_in Ticks answer m h = absurd (cc h)
taken_handed_in Take answer m h = absurd (cc h)
taken_handed_in (Room to) answer m h = absurd (cc h)
taken_handed_in AsksFree answer m h = absurd (cc h)
taken_handed_in Pass answer m h = absurd (cc h)

pub taken_handed : (e : Entry) (m : Incoming) → taken e ≡ Some m → handed e ≡ Some m
taken_handed e m h = taken_handed_in e.call e.answer m h

-- no message is remembered that is remembered
pub new_only : (setup : Setup) (past : List Entry) (e : Entry) (m : Incoming) → Stands setup past e → taken e ≡ Some m
    → Remembered past e.at m.from m.message.id → ⊥
new_only setup past e m law h = up_new setup past e m law (taken_handed e m h)
