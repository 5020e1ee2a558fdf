-- What the message layer of a server sends beside Empty messages carries a response that its exchanges were given.
use Rattle.std.proofs.Common.{◌≡◌, ◌⊎◌, inl, inr, ℕ, ◌<◌, Bool, true, false, Option, Some, None, List, [], ◌∷◌, ◌++◌}
use Rattle.std.proofs.Common.{refl, ap, sym, subst, ◌∙◌, cond, arith}
use Rattle.coap_types.specs.Past.{Ever}
use Rattle.coap_types.proofs.Facts.Traces.{Ever_append}
use Rattle.coap_types.specs.declared.endpoint.Endpoint.{Endpoint}
use Rattle.coap_types.specs.declared.message.Kind.{Kind}
use Rattle.coap_types.specs.declared.message.Kind.TheVariants.{Con, Ack, Rst}
use Rattle.coap_codec.specs.Message.{Message, Spells}
use Rattle.coap_codec.specs.Spelling.{message_bytes}
use Rattle.coap_layer.specs.Machine.Steps as G
use Rattle.coap_layer.specs.Machine.Steps.{entries}
use Rattle.coap_layer.specs.Trace as L
use Rattle.coap_layer.specs.Trace.{Content, with_head}
use Rattle.coap_layer.specs.Words.{is_kept}
use Rattle.coap_exchange.specs.declared.answerer.Asked.{Asked}
use Rattle.coap_exchange.specs.declared.separate.Deferred.{Deferred}
use Rattle.coap_exchange.specs.EmptyMessages.{ack_bytes, reset_bytes}
use Rattle.coap_exchange.specs.AnswererTrace as E
use Rattle.coap_exchange.specs.AnswererSteps as P
use Rattle.coap_exchange.specs.AnswererLaw as W
use Rattle.coap_exchange.specs.AskerRequests.{asked}
use Rattle.coap_exchange.specs.AskerArrivals.{id_in, replying}
use Rattle.coap_exchange.specs.Adds.{asked_by_server}
use Rattle.coap_server_laws.specs.Follows.Gives.{Carries, IsEmpty}
use Rattle.coap_exchange.proofs.Facts.AskerReplies.{empty_of, ack_spells, reset_spells}
use Rattle.coap_server_laws.proofs.Replying.Sources.{GivesMessage, Source}
pub use Rattle.coap_server_laws.proofs.Replying.AskedInEntries.{called}

-- from the entries of the layer to what was asked of it
module _ (p : L.Packet) where
  -- the exchanges' call that makes a response
  abbrev pub CarriesIn : E.Call → Type 0
  CarriesIn (E.Answers a r below) = Carries p a.from a.token r
  CarriesIn (E.Responds now a r word id) = Carries p a.from a.token r
  CarriesIn (E.Notifies now to token r word id) = Carries p to token r
  CarriesIn (E.NotifiesPlain now to token r id) = Carries p to token r
  CarriesIn _ = ⊥

  abbrev From : List G.Asked → Type 0
  From calls = Ever (λ (b : G.Asked). Source p b.call) calls

  -- a reply's bytes

  replied : (to : Endpoint) (n : ℕ) (bytes : List ℕ) → Source p (L.Reply to n bytes)
      → (p.to ≡ to) × (p.bytes ≡ bytes) × (n < 65536)
  replied to n bytes (inl g) =
      let k = g.call_is in
      let same : n ≡ g.id = cc k in
      let low = g.small in
      (cc k, cc k, omega (arith, same, low))
  replied to n bytes (inr g) = elim g.call_is [ inl k ↦ absurd (cc k) | inr k ↦ let l = k.1 in absurd (cc l) ]

  -- a message's content
  carried : (call : L.Call) (g : GivesMessage p call) (to : Endpoint) (token : List ℕ) (r : E.Response) → p.to ≡ to
      → g.content ≡ P.content_with token r → Carries p to token r
  carried call g to token r there content =
      record {
        there = there;
        kind = g.kind;
        id = g.id;
        bytes = g.bytes ∙ ap (λ c. message_bytes (with_head g.kind g.id c)) content;
        spells = subst (λ c. Spells p.bytes (with_head g.kind g.id c)) content g.spells;
      }

  in_non : (to : Endpoint) (token : List ℕ) (r : E.Response) → Source p (L.Plain to (P.content_with token r))
      → Carries p to token r
  in_non to token r (inl g) = let k = g.call_is in absurd (cc k)
  in_non to token r (inr g) = elim g.call_is [
    | inl k ↦ carried (L.Plain to (P.content_with token r)) g to token r (cc k)
        (cc k)
    | inr k ↦ let l = k.1 in absurd (cc l)
  ]

  in_con : (to : Endpoint) (token : List ℕ) (r : E.Response) (word : ℕ)
      → Source p (L.Confirm to (P.content_with token r) word) → Carries p to token r
  in_con to token r word (inl g) = let k = g.call_is in absurd (cc k)
  in_con to token r word (inr g) =
      elim g.call_is [
        | inl k ↦ absurd (cc k)
        | inr k ↦ let l =
            k.1 in carried (L.Confirm to (P.content_with token r) word) g to token r (cc l) (cc l)
      ]

  -- piggybacked
  in_ack : (a : Asked) (r : E.Response) → P.IsResponse a r
      → Source p (L.Reply a.from a.id.0 (message_bytes (with_head Ack a.id.0 (P.content_of a r))))
      → Carries p a.from a.token r
  in_ack a r is h =
      let m : Message = with_head Ack a.id.0 (P.content_of a r) in
      let k = replied a.from a.id.0 (message_bytes m) h in
      record {
        there = k.0;
        kind = Ack;
        id = a.id.0;
        bytes = k.1;
        spells = subst (λ b. Spells b m) (sym k.1) (is.spelled Ack a.id.0 k.2);
      }

  answer_of : (s : E.Own) (a : Asked) (r : E.Response) → P.IsResponse a r → (kind : Kind)
      → Source p (P.answering s kind a r) → Carries p a.from a.token r
  answer_of s a r is Con h = in_ack a r is h
  answer_of s a r is _ h = in_non a.from a.token r h

  -- Empty messages

  in_reset : (to : Endpoint) (n : ℕ) → Source p (L.Reply to n (reset_bytes n)) → IsEmpty p
  in_reset to n h = let k = replied to n (reset_bytes n) h
      in (empty_of Rst n, subst (λ b. Spells b (empty_of Rst n)) (sym k.1) (reset_spells n k.2), refl)

  in_bare_ack : (to : Endpoint) (n : ℕ) → Source p (L.Reply to n (ack_bytes n)) → IsEmpty p
  in_bare_ack to n h = let k = replied to n (ack_bytes n) h
      in (empty_of Ack n, subst (λ b. Spells b (empty_of Ack n)) (sym k.1) (ack_spells n k.2), refl)

  rejected : (from : Endpoint) (up : L.Answer) → From (replying from (id_in up) (P.reject_by up)) → IsEmpty p
  rejected from (L.Becomes (L.Response m)) h = by (is_kept m.kind) h
    where
      by : (k : Bool) → From (replying from m.id (cond k (Some (reset_bytes m.id)) None)) → IsEmpty p
      by true (inl g) = in_reset from m.id g
      by true (inr g) = absurd g
      by false g = absurd g
  rejected from _ h = absurd h

  -- what sends nothing
  abbrev Quiet : L.Call → Type 0
  Quiet call = Source p call → ⊥

  quiet_of : (call : L.Call) → ((to : Endpoint) (id : ℕ) (bytes : List ℕ) → call ≡ L.Reply to id bytes → ⊥)
      → ((to : Endpoint) (content : Content) → call ≡ L.Plain to content → ⊥)
      → ((to : Endpoint) (content : Content) (word : ℕ) → call ≡ L.Confirm to content word → ⊥) → Quiet call
  quiet_of call f g k (inl h) = f p.to h.id p.bytes h.call_is
  quiet_of call f g k (inr h) = elim h.call_is [ inl e ↦ g p.to h.content e | inr e ↦ k p.to h.content e.0 e.1 ]

  of_receive : (from : Endpoint) (bytes : List ℕ) → Quiet (L.Receive from bytes)
  of_receive from bytes = quiet_of (L.Receive from bytes) (λ to id b h. absurd (cc h)) (λ to c h. absurd (cc h))
      (λ to c w h. absurd (cc h))

  of_room : (to : Endpoint) → Quiet (L.Room to)
  of_room to = quiet_of (L.Room to) (λ t id b h. absurd (cc h)) (λ t c h. absurd (cc h)) (λ t c w h. absurd (cc h))

  of_ticks : Quiet L.Ticks
  of_ticks = quiet_of L.Ticks (λ t id b h. absurd (cc h)) (λ t c h. absurd (cc h)) (λ t c w h. absurd (cc h))

  of_take : Quiet L.Take
  of_take = quiet_of L.Take (λ t id b h. absurd (cc h)) (λ t c h. absurd (cc h)) (λ t c w h. absurd (cc h))

  of_pass : Quiet L.Pass
  of_pass = quiet_of L.Pass (λ t id b h. absurd (cc h)) (λ t c h. absurd (cc h)) (λ t c w h. absurd (cc h))

  -- the calls of the exchanges

  abbrev Makes : E.Call → Type 0
  Makes c = IsEmpty p ⊎ CarriesIn c

  arrival_makes : (at : ℕ) (from : Endpoint) (bytes : List ℕ) (up : L.Answer)
      → From (replying from (id_in up) (P.reject_by up) ++ asked at (L.Receive from bytes) up ∷ []) → IsEmpty p
  arrival_makes at from bytes up h =
      elim (Ever_append (λ (b : G.Asked). Source p b.call) (replying from (id_in up) (P.reject_by up))
      (asked at (L.Receive from bytes) up ∷ []) h) [
        | inl k ↦ rejected from up k
        | inr k ↦ elim k [ inl g ↦ absurd (of_receive from bytes g) | inr g ↦ absurd g ]
      ]

  deferral_makes : (at : ℕ) (a : Asked) (d : Bool) → From (P.deferring d a ++ asked at L.Pass L.Nothing ∷ [])
      → IsEmpty p
  deferral_makes at a true (inl g) = in_bare_ack a.from a.id.0 g
  deferral_makes at a true (inr (inl g)) = absurd (of_pass g)
  deferral_makes at a true (inr (inr g)) = absurd g
  deferral_makes at a false (inl g) = absurd (of_pass g)
  deferral_makes at a false (inr g) = absurd g

  tick_quiet : (at : ℕ) (o : Option Deferred) (room : Bool) (below : L.Answer)
      → From (P.asking_room at o room ++ asked at L.Ticks below ∷ []) → ⊥
  tick_quiet at None room below (inl g) = of_ticks g
  tick_quiet at None room below (inr g) = g
  tick_quiet at (Some d) room below (inl g) = of_room d.asked.from g
  tick_quiet at (Some d) room below (inr (inl g)) = of_ticks g
  tick_quiet at (Some d) room below (inr (inr g)) = g

  makes : (s : E.Own) (c : E.Call) → P.IsRight s c → From (P.lower s c) → Makes c
  makes s (E.Incoming at from bytes up came) right h = inl (arrival_makes at from bytes up h)
  makes s (E.Answers a r below) right (inl h) = inr (answer_of s a r right.1 a.kind h)
  makes s (E.Answers a r below) right (inr h) = absurd h
  makes s (E.Defers at a delay answer) right h = inl (deferral_makes at a (P.may_defer s.deferred) h)
  makes s (E.Ticks at below room d) right h = absurd (tick_quiet at (P.ready_if below (P.ready_at s at)) room below h)
  makes s (E.Responds at a r word id) right (inl h) = inr (in_con a.from a.token r word h)
  makes s (E.Responds at a r word id) right (inr h) = absurd h
  makes s (E.Ready at to answer) right (inl h) = absurd (of_room to h)
  makes s (E.Ready at to answer) right (inr h) = absurd h
  makes s (E.Notifies at to token r word id) right (inl h) = inr (in_con to token r word h)
  makes s (E.Notifies at to token r word id) right (inr h) = absurd h
  makes s (E.NotifiesPlain at to token r id) right (inl h) = inr (in_non to token r h)
  makes s (E.NotifiesPlain at to token r id) right (inr h) = absurd h
  makes s (E.Take answer) right (inl h) = absurd (of_take h)
  makes s (E.Take answer) right (inr h) = absurd h
  makes s (E.Forgets peer) right h = absurd h

  -- .. of some calls, behind others
  pub made_in : (past later : List E.Call) → W.AnswererLaw (later ++ past) → From (asked_by_server past later)
      → IsEmpty p ⊎ Ever CarriesIn later
  made_in past [] law h = absurd h
  made_in past (c ∷ later) law h =
      elim (Ever_append (λ (b : G.Asked). Source p b.call) (P.lower (W.own_of (later ++ past)) c)
      (asked_by_server past later) h) [
        | inl k ↦ elim (makes (W.own_of (later ++ past)) c law.0 k) [ inl x ↦ inl x | inr x ↦ inr (inl x) ]
        | inr k ↦ elim (made_in past later law.1 k) [ inl x ↦ inl x | inr x ↦ inr (inr x) ]
      ]

  pub made : (t : List E.Call) → W.AnswererLaw t → From (W.lower_of t) → IsEmpty p ⊎ Ever CarriesIn t
  made [] law h = absurd h
  made (c ∷ t) law h =
      elim (Ever_append (λ (b : G.Asked). Source p b.call) (P.lower (W.own_of t) c) (W.lower_of t) h) [
        | inl k ↦ elim (makes (W.own_of t) c law.0 k) [ inl x ↦ inl x | inr x ↦ inr (inl x) ]
        | inr k ↦ elim (made t law.1 k) [ inl x ↦ inl x | inr x ↦ inr (inr x) ]
      ]
