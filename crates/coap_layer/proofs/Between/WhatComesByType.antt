-- What goes out, by the type of the message that it spells.
use Rattle.coap_layer.specs.Trace.{Setup}
use Rattle.std.proofs.Common.{◌≡◌, ◌⊎◌, inl, inr, ⊎_elim, ℕ, ◌+◌, ◌*◌, ◌≤◌, Bool, true, false, ◌&&◌, ◌==◌, cond, Some}
use Rattle.std.proofs.Common.{None, List, [], ◌∷◌, length, refl, ap, sym, ◌∙◌, subst, arith}
use Rattle.coap_types.specs.Past.{Ever, Always}
use Rattle.coap_types.proofs.Facts.Traces.{Ever_of_Since, Ever_by_law, forget}
use Rattle.coap_types.specs.declared.endpoint.Endpoint.{Endpoint}
use Rattle.coap_types.specs.declared.message.Kind.{Kind}
use Rattle.coap_types.specs.declared.message.Kind.TheVariants.{Con, Non, Ack, Rst}
use Rattle.coap_types.specs.SameEndpoint.{same_endpoint}
use Rattle.coap_types.proofs.Facts.Endpoints.{same_endpoint_is}
use Rattle.coap_codec.specs.Message.{Message, Spells, kind_number}
use Rattle.coap_codec.proofs.Facts.EveryDatagram.{spelled_decoded}
use Rattle.coap_layer.specs.Trace.{Packet, with_head, Call, Receive, Reply, Confirm, Plain, Settle, Ticks, Take, Room}
use Rattle.coap_layer.specs.Trace.{AsksFree, Pass, Entry}
use Rattle.coap_layer.specs.Words.{reply_in, Open, begun}
use Rattle.coap_layer.specs.Rows.{LayerLaw}
use Rattle.coap_layer.specs.Sends.{SendsIt, packet_of, SpellsCon, GoesOut, PlainOut, ReplyOut, StoredOut, first, copy}
use Rattle.coap_layer.specs.Sends.{plain, reply, stored, reset, Begins}
use Rattle.coap_layer.specs.Channel.{RepliesAtOnce, RepliesSo}
use Rattle.coap_types.specs.declared.transmission.TheConstants.{LAST_RETRANSMISSION_MS as last_retransmission}
use Rattle.coap_layer.proofs.ListLemmas.{same_nat, and_left, and_right}
use Rattle.coap_layer.proofs.Out.EachGoesOut.{cons_spelled}
use Rattle.coap_layer.specs.Machine.Calls.{IsBegun}
use Rattle.coap_layer.proofs.Numbers.OneEntryForAnId.{SendsPlain, begins_of}

pub one_message : (bytes : List ℕ) (m n : Message) → Spells bytes m → Spells bytes n → m ≡ n
one_message bytes m n s t = let a = spelled_decoded bytes m s in let b =
    spelled_decoded bytes n t in cc (a, b)

-- a CON that was begun, and is sent now
pub record BegunHere (past : List Entry) (e : Entry) (p : Packet) (m : Message) : Type 0 where
  pub con : Open
  pub begun : Ever (IsBegun con) (e ∷ past)
  pub sends : SendsIt con past e
  pub is : p ≡ packet_of con
  pub id_is : con.id ≡ m.id
  pub from : con.first ≤ e.at
  pub till : e.at ≤ con.first + last_retransmission

pub data Comes (past : List Entry) (e : Entry) (p : Packet) (m : Message) : Type 0 where
  a_con : m.kind ≡ Con → BegunHere past e p m → Comes past e p m
  a_non : m.kind ≡ Non → PlainOut e p → SendsPlain m.id e.at e → Comes past e p m
  a_reply : (m.kind ≡ Ack) ⊎ (m.kind ≡ Rst) → (r : ReplyOut past e p) → (a : RepliesAtOnce past e.at r.id p.bytes)
      → a.reply ≡ m → Comes past e p m
  a_stored : (m.kind ≡ Ack) ⊎ (m.kind ≡ Rst) → (r : StoredOut past e p) → r.message.id ≡ m.id → Comes past e p m
  a_reset : m.kind ≡ Rst → Comes past e p m

-- the call that gives the reply
pub replied_call : (from : Endpoint) (id : ℕ) (bytes : List ℕ) (call : Call) → reply_in from id call ≡ Some bytes
    → call ≡ Reply from id bytes
replied_call from id bytes (Reply to n x) h = go (same_endpoint to from && (n == id)) refl h
  where
    go : (b : Bool) → (same_endpoint to from && (n == id)) ≡ b → cond b (Some x) None ≡ Some bytes
        → Reply to n x ≡ Reply from id bytes
    go false e k = absurd (cc k)
    go true e k =
        let place : to ≡ from = same_endpoint_is to from (and_left _ _ e) in
        let number : n ≡ id = same_nat n id (and_right (same_endpoint to from) _ e) in
        let same : x ≡ bytes = cc k in
        cc (place, number, same)
replied_call from id bytes (Receive place x) h = absurd (cc h)
replied_call from id bytes (Confirm to content wish) h = absurd (cc h)
replied_call from id bytes (Plain to content) h = absurd (cc h)
replied_call from id bytes (Settle to n) h = absurd (cc h)
replied_call from id bytes Ticks h = absurd (cc h)
replied_call from id bytes Take h = absurd (cc h)
replied_call from id bytes (Room to) h = absurd (cc h)
replied_call from id bytes AsksFree h = absurd (cc h)
replied_call from id bytes Pass h = absurd (cc h)

-- the stored reply spells an ACK or a RST with the Message ID
pub record SpellsReply (id : ℕ) (bytes : List ℕ) : Type 0 where
  pub reply : Message
  pub spells : Spells bytes reply
  pub id_is : reply.id ≡ id
  pub kind : (reply.kind ≡ Ack) ⊎ (reply.kind ≡ Rst)

kind_of : (past : List Entry) (at id : ℕ) (bytes : List ℕ) → (a : RepliesAtOnce past at id bytes)
    → (a.reply.kind ≡ Ack) ⊎ (a.reply.kind ≡ Rst)
kind_of past at id bytes a = ⊎_elim (λ k. inr k) (λ k. inl k.0) a.kind

pub stored_reply : (from : Endpoint) (id : ℕ) (bytes : List ℕ) (t : List Entry) → Always RepliesSo t
    → Ever (λ b. reply_in from id b.call ≡ Some bytes) t → SpellsReply id bytes
stored_reply from id bytes t law h = forget (SpellsReply id bytes) t
    (Ever_by_law RepliesSo _ (λ b. SpellsReply id bytes) here t law h)
  where
    here : (past : List Entry) (b : Entry) → Always RepliesSo (b ∷ past) → reply_in from id b.call ≡ Some bytes
        → SpellsReply id bytes
    here past b l k =
        let c = replied_call from id bytes b.call k in
        let a = l.0 from id bytes c in
        record { reply = a.reply; spells = a.spells; id_is = a.id_is; kind = kind_of past b.at id bytes a }

pub spelled_begun : (setup : Setup) (t : List Entry) (c : Open) → LayerLaw setup t → Ever (IsBegun c) t → SpellsCon c
spelled_begun setup [] c law h = absurd h
spelled_begun setup (e ∷ past) c law (inl h) = (cons_spelled setup (e ∷ past) law).0 c h
spelled_begun setup (e ∷ past) c law (inr h) = spelled_begun setup past c law.1 h

-- a Reset's first byte
reset_kind : (m : Message) (rest : List ℕ) → Spells (112 ∷ rest) m → m.kind ≡ Rst
reset_kind m rest s = go m.kind refl
  where
    byte : 112 ≡ 64 + (kind_number m.kind * 16 + length m.token)
    byte = let k = s.parts in cc k

    go : (k : Kind) → m.kind ≡ k → k ≡ Rst
    go Rst h = refl
    go Con h = let k : 112 ≡ 64 + (0 * 16 + length m.token) = byte
        ∙ ap (λ (x : Kind). 64 + (kind_number x * 16 + length m.token)) h in absurd (omega (arith, k, s.token))
    go Non h = let k : 112 ≡ 64 + (1 * 16 + length m.token) = byte
        ∙ ap (λ (x : Kind). 64 + (kind_number x * 16 + length m.token)) h in absurd (omega (arith, k, s.token))
    go Ack h = let k : 112 ≡ 64 + (2 * 16 + length m.token) = byte
        ∙ ap (λ (x : Kind). 64 + (kind_number x * 16 + length m.token)) h in absurd (omega (arith, k, s.token))

module _ (setup : Setup) (past : List Entry) (e : Entry) (p : Packet) (m : Message) (law : LayerLaw setup (e ∷ past))
    (replies : Always RepliesSo (e ∷ past)) (spells : Spells p.bytes m) where
  same_message : (n : Message) → Spells p.bytes n → n ≡ m
  same_message n s = one_message p.bytes n m s spells

  same_con : (c : Open) → p ≡ packet_of c → Ever (IsBegun c) (e ∷ past) → SendsIt c past e → c.first ≤ e.at
      → e.at ≤ c.first + last_retransmission → Comes past e p m
  same_con c is begun sends from till =
      let s : SpellsCon c = spelled_begun setup (e ∷ past) c law begun in
      let same : s.0 ≡ m = same_message s.0 (subst (λ (x : List ℕ). Spells x s.0)
      (sym (ap (λ (x : Packet). x.bytes) is)) s.1) in
      a_con (ap (λ (x : Message). x.kind) (sym same) ∙ s.2)
      (record {
        con = c;
        begun = begun;
        sends = sends;
        is = is;
        id_is = sym s.3 ∙ ap (λ (x : Message). x.id) same;
        from = from;
        till = till;
      })

  pub comes : GoesOut past e p → Comes past e p m
  comes (first r) = let b : Begins e.at e.call e.answer r.con = begins_of e r.con r.begins in let at : r.con.first
      ≡ e.at = b.first_is in same_con r.con r.is (inl r.begins) (inl r.begins) (omega (arith, at)) (omega (arith, at))
  comes (copy r) = same_con r.con r.is (inr r.begun_before) r.sends r.from r.till
  comes (plain r) =
      let same : with_head Non r.id r.content ≡ m = same_message _ r.spells in
      a_non (ap (λ (x : Message). x.kind) (sym same)) r
      (subst (λ (i : ℕ). SendsPlain i e.at e) (ap (λ (x : Message). x.id) same)
      (record { to = p.to; content = r.content; call = r.call; answer = r.answer; at_is = refl }))
  comes (reply r) =
      let a = replies.0 p.to r.id p.bytes r.call in
      let same : a.reply ≡ m = same_message a.reply a.spells in
      a_reply (subst (λ (x : Message). (x.kind ≡ Ack) ⊎ (x.kind ≡ Rst)) same (kind_of past e.at r.id p.bytes a)) r a
      same
  comes (stored r) =
      let a = stored_reply p.to r.message.id p.bytes past replies.1 (Ever_of_Since _ _ past r.given) in
      let same : a.reply ≡ m = same_message a.reply a.spells in
      a_stored (subst (λ (x : Message). (x.kind ≡ Ack) ⊎ (x.kind ≡ Rst)) same a.kind) r
      (sym a.id_is ∙ ap (λ (x : Message). x.id) same)
  comes (reset r) = a_reset (reset_kind m _ (subst (λ (x : List ℕ). Spells x m)
      (ap (λ (x : Packet). x.bytes) r.is) spells))
