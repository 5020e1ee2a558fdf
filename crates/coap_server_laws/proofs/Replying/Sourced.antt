-- Where a datagram that a message layer sends comes from: it is a Reset, or an entry gives it as a reply, a NON or a
-- CON (RFC 7252, sections 4.2 and 4.3).
use Rattle.std.proofs.Common.{◌≡◌, ◌⊎◌, inl, inr, ℕ, ◌<◌, ◌==◌, Bool, true, false, ◌&&◌, Option, Some, None, List, []}
use Rattle.std.proofs.Common.{◌∷◌, refl, ap, sym, subst, ◌∙◌, cond, arith, drop}
use Rattle.coap_types.specs.Past.{Ever}
use Rattle.coap_server_laws.proofs.Replying.Sources.{GivesReply, GivesMessage, Source}
use Rattle.coap_types.proofs.Facts.Traces.{Ever_by_law, Ever_of_Since}
use Rattle.coap_types.specs.declared.endpoint.Endpoint.{Endpoint}
use Rattle.coap_types.specs.declared.message.Kind.{Kind}
use Rattle.coap_types.specs.declared.message.Kind.TheVariants.{Con, Non, Rst}
use Rattle.coap_types.specs.SameEndpoint.{same_endpoint}
use Rattle.coap_types.proofs.Facts.Endpoints.{same_endpoint_is}
use Rattle.coap_codec.specs.declared.fault.Reason.{Reason}
use Rattle.coap_codec.specs.declared.fault.Reason.TheVariants as fault
use Rattle.coap_codec.specs.Faulty.{head_of}
use Rattle.coap_codec.specs.Header.{id_of}
use Rattle.coap_types.specs.Bytes.{AreBytes}
use Rattle.coap_codec.specs.Message.{Message, Spells}
use Rattle.coap_codec.specs.Spelling.{message_bytes}
use Rattle.coap_types.proofs.Facts.Bytes.{AreBytes-drop, byte_at}
use Rattle.coap_layer.specs.declared.setup.Setup.{Setup}
use Rattle.coap_layer.specs.Arrivals.{Faulted, Whole, Shows, by_head}
use Rattle.coap_layer.specs.Trace.{with_head, Packet, Call, Receive, Reply, Confirm, Plain, Ticks}
use Rattle.coap_layer.specs.Trace.{Entry}
use Rattle.coap_layer.specs.Words.{Awaited, awaits, awaits_in, awaited_of, Incoming, handed, handed_in, handed_by}
use Rattle.coap_layer.specs.Words.{from_there, reply_in, hands_up, Open, begun}
use Rattle.coap_layer.specs.Rows.{Stands, LayerLaw, Row, IsSpelled, Confirms, SendsAs, RefusesIds}
use Rattle.coap_layer.specs.Sends.{IsIn, packet_of, PlainOut, ResetOut, GoesOut}
use Rattle.coap_layer.proofs.Facts.Laws.{handed_spelled}
use Rattle.coap_layer.proofs.Facts.Laws.{begins_of}
use Rattle.coap_layer.proofs.Facts.Laws.{cons_spelled, each_goes_out}
use Rattle.std.proofs.lemmas.Bool.{and_parts}
use Rattle.coap_server_laws.specs.Follows.EmptyPackets.{IsEmpty}
use Rattle.coap_exchange.proofs.Facts.AskerReplies.{empty_of, reset_spells}

only_out : (p q : Packet) (out : List Packet) → out ≡ q ∷ [] → IsIn p out → q ≡ p
only_out p q out is h = elim (subst (IsIn p) is h) [ inl k ↦ k | inr k ↦ absurd k ]

-- Message IDs have 16 bits

id_small : (bytes : List ℕ) → AreBytes bytes → id_of bytes < 65536
id_small bytes fits = let d = AreBytes-drop 2 bytes fits in omega
    (arith, byte_at (drop 2 bytes) d 0, byte_at (drop 2 bytes) d 1)

fault_id : (reason : Reason) (bytes : List ℕ) (kind : Kind) (id : ℕ) → Faulted kind id ≡ by_head (head_of reason bytes)
    → id ≡ id_of bytes
fault_id fault.Short bytes kind id h = absurd (cc h)
fault_id fault.Version bytes kind id h = absurd (cc h)
fault_id _ bytes kind id h = cc h

shown_small : (bytes : List ℕ) (id : ℕ)
    → Shows bytes (Faulted Con id) ⊎ ((m : Message) × Shows bytes (Whole m) × (m.kind ≡ Con) × (m.id ≡ id)) → id < 65536
shown_small bytes id (inl s) =
    subst (λ n. n < 65536) (sym (fault_id s.1.0 bytes Con id s.1.3)) (id_small bytes s.0)
shown_small bytes id (inr s) = let k = s.1.id in let e = s.3 in omega (arith, k, e)

module _ (setup : Setup) where
  small_in : (past : List Entry) (e : Entry) (w : Awaited) → LayerLaw setup (e ∷ past) → (call : Call) → e.call ≡ call
      → (awaits past ≡ Some w → w.id < 65536) → awaits_in call e.answer (awaits past) ≡ Some w → w.id < 65536
  small_in past e w law (Receive from bytes) is older h = by (handed_by e.answer) refl h
    where
      by : (o : Option Message) → handed_by e.answer ≡ o → awaited_of (from_there from o) ≡ Some w → w.id < 65536
      by None up k = absurd (cc k)
      by (Some m) up k =
          let there : Incoming = record { from = from; message = m } in
          let comes : handed e ≡ Some there = ap (λ c. handed_in c e.answer) is ∙ ap (from_there from) up in
          let s = ((handed_spelled setup (e ∷ past) law).0 there comes).spells.id in
          let same : m.id ≡ w.id = ap (λ (x : Awaited). x.id)
          (let q : ◌≡◌ {A = Awaited} (record { from = from; id = m.id }) w = cc k in q) in
          omega (arith, s, same)
  small_in past e w law (Reply to id bytes) is older h = absurd (cc h)
  small_in past e w law (Confirm to content wish) is older h = absurd (cc h)
  small_in past e w law (Plain to content) is older h = absurd (cc h)
  small_in past e w law Ticks is older h = absurd (cc h)
  small_in past e w law _ is older h = older h

  awaited_small : (t : List Entry) → LayerLaw setup t → (w : Awaited) → awaits t ≡ Some w → w.id < 65536
  awaited_small [] law w h = absurd (cc h)
  awaited_small (e ∷ past) law w h = small_in past e w law e.call refl (awaited_small past law.1 w) h

  -- a CON that begins
  pub begun_source : (c : Open) (past : List Entry) (e : Entry) → LayerLaw setup (e ∷ past) → begun e ≡ Some c
      → Source (packet_of c) e.call
  begun_source c past e law h =
      let b = begins_of e c h in
      let s = (cons_spelled setup (e ∷ past) law).0 c h in
      let row : IsSpelled b.content × Confirms setup past e c.to b.content =
      subst (Row setup past e) b.call_is law.0.row in
      let low : c.id < 65536 = let k = s.1.id in let e = s.3 in omega (arith, k, e) in
      inr (record {
        kind = Con;
        content = b.content;
        id = c.id;
        call_is = inr (b.word, b.call_is);
        bytes = b.bytes_are;
        spells = subst (λ x. Spells x (with_head Con c.id b.content)) (sym b.bytes_are) (row.0 Con c.id low);
      })

  module _ (p : Packet) where
    -- a reply that was given before
    reply_source : (id : ℕ) (past : List Entry) (e : Entry) → LayerLaw setup (e ∷ past)
        → reply_in p.to id e.call ≡ Some p.bytes → Source p e.call
    reply_source id past e law h = by e.call refl h
      where
        placed : (to : Endpoint) (n : ℕ) (bytes : List ℕ) → e.call ≡ Reply to n bytes → (b : Bool)
            → (same_endpoint to p.to && (n == id)) ≡ b → cond b (Some bytes) None ≡ Some p.bytes → GivesReply p e.call
        placed to n bytes is false k g = absurd (cc g)
        placed to n bytes is true k g =
            let place : to ≡ p.to = same_endpoint_is to p.to (and_parts (same_endpoint to p.to) (n == id) k).0 in
            let given : bytes ≡ p.bytes = cc g in
            let row = subst (Row setup past e) is law.0.row in
            record {
              id = n;
              call_is = is ∙ (ap (λ x. Reply x n bytes) place ∙ ap (λ x. Reply p.to n x) given);
              small = awaited_small past law.1 (record { from = to; id = n }) row.0;
            }

        by : (call : Call) → e.call ≡ call → reply_in p.to id call ≡ Some p.bytes → Source p e.call
        by (Reply to n bytes) is g = inl (placed to n bytes is (same_endpoint to p.to && (n == id)) refl g)
        by _ is g = absurd (cc g)

    module _ (past : List Entry) (e : Entry) (law : LayerLaw setup (e ∷ past)) where
      plain_source : IsIn p e.out → PlainOut e p → Source p e.call
      plain_source sends q = inr (by row.1)
        where
          row : IsSpelled q.content × (RefusesIds setup past e ⊎ SendsAs Non setup past e p.to q.content)
          row = subst (Row setup past e) q.call law.0.row

          by : RefusesIds setup past e ⊎ SendsAs Non setup past e p.to q.content → GivesMessage p e.call
          by (inl r) = let k = r.answer in let l = q.answer in absurd (cc (k, l))
          by (inr r) =
              let same : r.id ≡ q.id = let k = r.answer in let l = q.answer in cc (k, l) in
              let out = only_out p (record { to = p.to; bytes = message_bytes (with_head Non r.id q.content) }) e.out
              r.out sends in
              record {
                kind = Non;
                content = q.content;
                id = q.id;
                call_is = inl q.call;
                bytes = sym (ap (λ (x : Packet). x.bytes) out)
                    ∙ ap (λ n. message_bytes (with_head Non n q.content)) same;
                spells = q.spells;
              }

      reset_empty : ResetOut e p → IsEmpty p
      reset_empty r =
          let row = subst (Row setup past e) r.call law.0.row in
          let low = shown_small r.bytes r.id r.shows in (
            empty_of Rst r.id,
            subst (λ x. Spells x (empty_of Rst r.id)) (sym (ap (λ (x : Packet). x.bytes) r.is))
                (reset_spells r.id low),
            refl,
          )

      goes_out : IsIn p e.out → GoesOut past e p → IsEmpty p ⊎ Ever (λ b. Source p b.call) (e ∷ past)
      goes_out sends (GoesOut.first f) = inr (inl
          (subst (λ x. Source x e.call) (sym f.is) (begun_source f.con past e law f.begins)))
      goes_out sends (GoesOut.copy f) =
          inr (inr (subst (λ x. Ever (λ b. Source x b.call) past) (sym f.is)
          (Ever_by_law (Stands setup) (λ b. begun b ≡ Some f.con) (λ b. Source (packet_of f.con) b.call)
          (begun_source f.con) past law.1 f.begun_before)))
      goes_out sends (GoesOut.plain q) = inr (inl (plain_source sends q))
      goes_out sends (GoesOut.reply r) = inr (inl
          (inl (record {
            id = r.id;
            call_is = r.call;
            small = awaited_small past law.1 (record { from = p.to; id = r.id }) r.awaited;
          })))
      goes_out sends (GoesOut.stored s) =
          inr (inr (Ever_by_law (Stands setup) (λ b. reply_in p.to s.message.id b.call ≡ Some p.bytes)
          (λ b. Source p b.call) (reply_source s.message.id) past law.1
          (Ever_of_Since (λ b. reply_in p.to s.message.id b.call ≡ Some p.bytes)
          (λ b. hands_up p.to s.message.id b ≡ false) past s.given)))
      goes_out sends (GoesOut.reset r) = inl (reset_empty r)

    pub sourced : (t : List Entry) → LayerLaw setup t → Ever (λ e. IsIn p e.out) t
        → IsEmpty p ⊎ Ever (λ b. Source p b.call) t
    sourced [] law h = absurd h
    sourced (e ∷ past) law (inl h) = goes_out past e law h ((each_goes_out setup (e ∷ past) law).0 p h)
    sourced (e ∷ past) law (inr h) = elim (sourced past law.1 h) [ inl k ↦ inl k | inr k ↦ inr (inr k) ]
