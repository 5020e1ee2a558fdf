-- What a Reset and a reply say, and that one entry of a message layer gives a Message ID within 400 s (RFC 7252,
-- sections 4.2 to 4.4).
use Rattle.std.proofs.Common.{◌≡◌, ◌⊎◌, inl, inr, ⊎_elim, ℕ, ◌+◌, ◌≤◌, ◌<◌, ◌/◌, ◌%◌, ◌==◌, Bool, true, false, ◌&&◌}
use Rattle.std.proofs.Common.{Option, Some, None, List, [], ◌∷◌, ◌++◌, refl, ap, sym, ◌∙◌, subst, arith, cond}
use Rattle.std.specs.Cmp.{unsigned_Decides}
use Rattle.std.specs.Int.{byte_at}
use Rattle.coap_types.specs.Past.{Ever, Sometime, Always}
use Rattle.coap_types.specs.SameEndpoint.{same_endpoint}
use Rattle.coap_types.specs.declared.endpoint.Endpoint.{Endpoint}
use Rattle.coap_types.specs.declared.message.Kind.TheVariants.{Con, Non, Rst}
use Rattle.coap_types.specs.declared.message.TheConstants.{MESSAGE_IDS as message_ids}
use Rattle.coap_types.specs.declared.transmission.TheConstants.{ID_REUSE_AFTER_MS as id_reuse_after}
use Rattle.coap_types.proofs.Facts.Endpoints.{same_endpoint_is}
use Rattle.coap_types.proofs.Facts.Traces.{Ever_of_Since, Ever_map, Ever_out, which_first}
use Rattle.coap_codec.specs.Faulty.{head_of}
use Rattle.coap_codec.specs.Message.{Message, Spells}
use Rattle.coap_codec.specs.declared.fault.Reason.{Reason}
use Rattle.coap_codec.specs.declared.fault.Reason.TheVariants.{Short}
use Rattle.coap_layer.specs.Arrivals.{Arrival, Faulted, Whole, Shows, by_head}
use Rattle.coap_layer.specs.Channel.{IsLatest, RepliesSo}
use Rattle.coap_layer.specs.EmptyMessages.{reset_bytes}
use Rattle.coap_layer.specs.Ids.{AreApart, Issued}
use Rattle.coap_layer.specs.Rows.{LayerLaw, Arrives, Sorts, HandedAs, rejects, drops, takes_ack, takes_reset}
use Rattle.coap_layer.specs.Rows.{passes_reset, takes_answer, replays, hands_over}
use Rattle.coap_layer.specs.Sends.{SpellsCon, GoesOut, first, copy, plain, reply, stored, reset}
use Rattle.coap_layer.specs.Trace.{with_head, Packet, Call, Receive, Reply, Confirm, Plain, Ticks, Unmatched, Sent}
use Rattle.coap_layer.specs.Trace.{Becomes, Entry}
use Rattle.coap_layer.specs.Words.{Incoming, Awaited, handed_in, reply_in, awaits, awaits_in, awaited_of, issued}
use Rattle.coap_layer.specs.Words.{issued_by, numbers}
use Rattle.coap_layer.specs.declared.setup.Setup.{Setup}
use Rattle.coap_layer.proofs.Facts.IdsApart.{ids_apart}
use Rattle.coap_layer.proofs.Facts.Laws.{spelled_begun}

-- what a Reset shows

pub reset_id : (m : Message) (id : ℕ) → Spells (reset_bytes id) m → m.id ≡ id
reset_id m id s =
    let parts = s.parts in
    let high : id / 256 ≡ byte_at 1 m.id = cc parts in
    let low : id % 256 ≡ byte_at 0 m.id = cc parts in
    let high_is : id / 256 ≡ m.id / 256 % 256 = high in
    let low_is : id % 256 ≡ m.id % 256 = low in
    let bound : m.id < message_ids = s.id in
    omega (arith, high_is, low_is, bound)

not_con : (reason : Reason) (rest : List ℕ) (id : ℕ) → Faulted Con id ≡ by_head (head_of reason (0x70 ∷ rest)) → ⊥
not_con Short rest id h = cc h
not_con _ rest id h = cc h

pub no_fault : (bytes : List ℕ) (n id : ℕ) → bytes ≡ reset_bytes n → Shows bytes (Faulted Con id) → ⊥
no_fault bytes n id is h =
    not_con h.1.0 _ id (subst (λ (x : List ℕ). Faulted Con id ≡ by_head (head_of h.1.0 x)) is h.1.3)

-- replies

reply_is : (from : Endpoint) (n : ℕ) (bytes : List ℕ) (call : Call) → reply_in from n call ≡ Some bytes
    → call ≡ Reply from n bytes
reply_is from n bytes (Reply to k given) h = by (same_endpoint to from) (k == n) refl refl h
  where
    by : (a b : Bool) → same_endpoint to from ≡ a → (k == n) ≡ b → cond (a && b) (Some given) None ≡ Some bytes
        → Reply to k given ≡ Reply from n bytes
    by true true p q e =
        let there : to ≡ from = same_endpoint_is to from p in
        let number : k ≡ n = (unsigned_Decides k n).0 q in
        let same : given ≡ bytes = cc e in
        ap (λ z. Reply z k given) there ∙ (ap (λ z. Reply from z given) number ∙ ap (λ z. Reply from n z) same)
    by true false p q e = absurd (cc e)
    by false b p q e = absurd (cc e)
reply_is from n bytes _ h = absurd (cc h)

-- a reply has the Message ID of what it replies to, and is a Reset or an acknowledgement
pub record SpellsReply (id : ℕ) (bytes : List ℕ) : Type 0 where
  pub message : Message
  pub spells : Spells bytes message
  pub id_is : message.id ≡ id

pub spelled_reply : (from : Endpoint) (n : ℕ) (bytes : List ℕ) (t : List Entry) → Always RepliesSo t
    → Ever (λ (b : Entry). reply_in from n b.call ≡ Some bytes) t → SpellsReply n bytes
spelled_reply from n bytes [] law h = absurd h
spelled_reply from n bytes (e ∷ t) law (inr h) = spelled_reply from n bytes t law.1 h
spelled_reply from n bytes (e ∷ t) law (inl h) =
    let a = law.0 from n bytes (reply_is from n bytes e.call h) in
    record { message = a.reply; spells = a.spells; id_is = a.id_is }

-- what is handed up last is what a reply is awaited to

of_handed : (call : Call) (answer : _) (old : Option Awaited) (m : Incoming) (a : Awaited) → handed_in call answer
    ≡ Some m
    → awaits_in call answer old ≡ Some a → (m.from ≡ a.from) × (m.message.id ≡ a.id)
of_handed (Receive from bytes) answer old m a h k =
    let z : Some (record { from = m.from; id = m.message.id }) ≡ Some a = sym (ap awaited_of h) ∙ k in
    let same : record { from = m.from; id = m.message.id } ≡ a = cc z in
    (ap (λ (w : Awaited). w.from) same, ap (λ (w : Awaited). w.id) same)
of_handed _ answer old m a h k = absurd (cc h)

awaited_before : (call : Call) (answer : _) (old : Option Awaited) (a : Awaited) → handed_in call answer ≡ None
    → awaits_in call answer old ≡ Some a → old ≡ Some a
awaited_before (Receive from bytes) answer old a h k = let z = sym (ap awaited_of h) ∙ k in absurd (cc z)
awaited_before (Reply z id bytes) answer old a h k = absurd (cc k)
awaited_before (Confirm z content word) answer old a h k = absurd (cc k)
awaited_before (Plain z content) answer old a h k = absurd (cc k)
awaited_before Ticks answer old a h k = absurd (cc k)
awaited_before _ answer old a h k = k

pub latest_of : (t : List Entry) (at : ℕ) (m : Incoming) (a : Awaited) → awaits t ≡ Some a → IsLatest t at m
    → (m.from ≡ a.from) × (m.message.id ≡ a.id)
latest_of [] at m a h k = absurd k
latest_of (e ∷ t) at m a h (inl k) = of_handed e.call e.answer (awaits t) m a k.0 h
latest_of (e ∷ t) at m a h (inr k) = latest_of t at m a (awaited_before e.call e.answer (awaits t) a k.0 h) k.1

-- what goes out spells a message, or is a Reset
pub sent_what : (setup : Setup) (past : List Entry) (e : Entry) (p : Packet) → LayerLaw setup (e ∷ past)
    → Always RepliesSo (e ∷ past) → GoesOut past e p
    → ((m : Message) × Spells p.bytes m) ⊎ ((id : ℕ) × (p.bytes ≡ reset_bytes id))
sent_what setup past e p law replies (first r) =
    let s : SpellsCon r.con = spelled_begun setup (e ∷ past) r.con law (inl r.begins) in
    inl (s.0, subst (λ (x : List ℕ). Spells x s.0) (sym (ap (λ (x : Packet). x.bytes) r.is)) s.1)
sent_what setup past e p law replies (copy r) =
    let s : SpellsCon r.con = spelled_begun setup (e ∷ past) r.con law (inr r.begun_before) in
    inl (s.0, subst (λ (x : List ℕ). Spells x s.0) (sym (ap (λ (x : Packet). x.bytes) r.is)) s.1)
sent_what setup past e p law replies (plain r) = inl (with_head Non r.id r.content, r.spells)
sent_what setup past e p law replies (reply r) =
    let a = replies.0 p.to r.id p.bytes r.call in inl (a.reply, a.spells)
sent_what setup past e p law replies (stored r) =
    let a = spelled_reply p.to r.message.id p.bytes past replies.1 (Ever_of_Since _ _ past r.given) in
    inl (a.message, a.spells)
sent_what setup past e p law replies (reset r) = inr (r.id, ap (λ (x : Packet). x.bytes) r.is)

-- the Reset of what isn't outstanding

pub record HeardReset (bytes : List ℕ) (id : ℕ) : Type 0 where
  pub message : Message
  pub spells : Spells bytes message
  pub kind : message.kind ≡ Rst
  pub id_is : message.id ≡ id

sorted_reset : (setup : Setup) (past : List Entry) (e : Entry) (n : Incoming) (id : ℕ) → Sorts setup past e n
    → e.answer ≡ Becomes (Unmatched id) → (n.message.kind ≡ Rst) × (n.message.id ≡ id)
sorted_reset setup past e n id (rejects r) h = let a = r.answer in absurd (cc (a, h))
sorted_reset setup past e n id (drops r) h = let a = r.answer in absurd (cc (a, h))
sorted_reset setup past e n id (takes_ack r) h = let a = r.answer in absurd (cc (a, h))
sorted_reset setup past e n id (takes_reset r) h = let a = r.answer in absurd (cc (a, h))
sorted_reset setup past e n id (passes_reset r) h = (r.kind, (let a = r.answer in cc (a, h)))
sorted_reset setup past e n id (takes_answer r) h = let a = r.answer in absurd (cc (a, h))
sorted_reset setup past e n id (replays r) h = let a = r.answer in absurd (cc (a, h))
sorted_reset setup past e n id (hands_over r) h = absurd (up r.answer)
  where
    up : HandedAs setup past e n → ⊥
    up (inl a) = let b = a.2 in cc (b, h)
    up (inr (inl a)) = let b = a.3 in cc (b, h)
    up (inr (inr a)) = let b = a.1 in cc (b, h)

pub arrived_reset : (setup : Setup) (past : List Entry) (e : Entry) (from : Endpoint) (bytes : List ℕ) (what : Arrival)
    (id : ℕ)
    → Shows bytes what → Arrives setup past e from what → e.answer ≡ Becomes (Unmatched id)
    → HeardReset bytes id
arrived_reset setup past e from bytes (Whole m) id s r h =
    let k = sorted_reset setup past e (record { from = from; message = m }) id r h in
    record { message = m; spells = s; kind = k.0; id_is = k.1 }
arrived_reset setup past e from bytes (Faulted Con n) id s r h = let a = r.0 in absurd (cc (a, h))
arrived_reset setup past e from bytes _ id s r h = let a = r.0 in absurd (cc (a, h))

-- Of two entries that are given one Message ID within 400 s: they are one.
module _ (setup : Setup) (id a b : ℕ) (low : a ≤ b + id_reuse_after) (high : b ≤ a + id_reuse_after)
    (P Q : Entry → Type 0) where
  abbrev pub Given : ℕ → (Entry → Type 0) → Entry → Type 0
  Given at R e = (e.answer ≡ Sent id) × (e.at ≡ at) × R e

  in_numbers : (at later : ℕ) (R : Entry → Type 0) → later ≤ at + id_reuse_after → (t : List Entry)
      → Ever (Given at R) t
      → Ever (λ (h : Issued). (h.id ≡ id) × (later ≤ h.at + id_reuse_after)) (numbers t)
  in_numbers at later R close t h =
      Ever_out issued (λ (h : Issued). (h.id ≡ id) × (later ≤ h.at + id_reuse_after)) t
      (Ever_map (Given at R) (λ e. Ever (λ (h : Issued). (h.id ≡ id) × (later ≤ h.at + id_reuse_after)) (issued e))
      (λ e k. subst (λ answer. Ever (λ (h : Issued). (h.id ≡ id) × (later ≤ h.at + id_reuse_after))
      (issued_by e.at answer))
      (sym k.0) (inl (refl, (let z = k.1 in omega (arith, z, close))))) t h)

  never : (at later : ℕ) (R S : Entry → Type 0) → later ≤ at + id_reuse_after → (t : List Entry) → LayerLaw setup t
      → Sometime (λ past e. Given later S e × Ever (Given at R) past) t → ⊥
  never at later R S close [] law h = h
  never at later R S close (e ∷ t) law (inr h) = never at later R S close t law.1 h
  never at later R S close (e ∷ t) law (inl h) =
      let apart : AreApart (issued_by e.at (Sent id) ++ numbers t) =
      subst (λ answer. AreApart (issued_by e.at answer ++ numbers t)) h.0.0 (ids_apart setup (e ∷ t) law) in
      let when = h.0.1 in
      apart.0 (in_numbers at e.at R (omega (arith, when, close)) t h.1)

  pub same_entry : (t : List Entry) → LayerLaw setup t → Ever (Given a P) t → Ever (Given b Q) t
      → Ever (λ e. P e × Q e) t
  same_entry t law p q =
      ⊎_elim (λ k. Ever_map (λ e. Given a P e × Given b Q e) (λ e. P e × Q e) (λ e z. (z.0.2, z.1.2)) t k)
      (λ k. absurd (⊎_elim (λ z. never a b P Q high t law z) (λ z. never b a Q P low t law z) k))
      (which_first (Given a P) (Given b Q) t p q)
