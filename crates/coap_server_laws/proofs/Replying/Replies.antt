-- Each reply of a server's message layer is given at the moment at which a message is handed up, with its Message ID: a
-- Reset of a response, or the acknowledgement of a CON, which may carry the response.
use Rattle.std.proofs.Common.{◌≡◌, ◌⊎◌, inl, inr, ℕ, ◌<◌, max, Bool, true, false, Option, Some, None, List, [], ◌∷◌}
use Rattle.std.proofs.Common.{◌++◌, refl, ap, sym, subst, ◌∙◌, cond, arith}
use Rattle.coap_types.specs.Roles.{role_of}
use Rattle.coap_types.specs.declared.endpoint.Endpoint.{Endpoint}
use Rattle.coap_types.specs.declared.message.Kind.{Kind}
use Rattle.coap_types.specs.declared.message.Kind.TheVariants.{Con, Ack, Rst}
use Rattle.coap_types.specs.declared.role.Role.TheVariants as role
use Rattle.coap_codec.specs.Message.{Message, Spells}
use Rattle.coap_codec.specs.Spelling.{message_bytes}
use Rattle.coap_layer.specs.Trace as T
use Rattle.coap_layer.specs.Trace.{with_head, Entry}
use Rattle.coap_layer.specs.Words.{is_kept, handed, handed_by, from_there}
use Rattle.coap_layer.specs.Machine.State as L
use Rattle.coap_layer.specs.Machine.Steps as G
use Rattle.coap_layer.specs.Machine.Steps.{Steps, entries, left_after}
use Rattle.coap_layer.proofs.Facts.Calls.{steps_left}
use Rattle.coap_exchange.specs.declared.answerer.Asked.{Asked}
use Rattle.coap_exchange.specs.EmptyMessages.{ack_bytes, reset_bytes}
use Rattle.coap_exchange.specs.AnswererTrace as E
use Rattle.coap_exchange.specs.AnswererSteps as P
use Rattle.coap_exchange.specs.AskerRequests.{asked}
use Rattle.coap_exchange.specs.AskerArrivals.{id_in, replying}
use Rattle.coap_layer.specs.Machine.Calls.{message_in}
use Rattle.coap_layer.proofs.Facts.HandedUp.{spelled}
use Rattle.coap_exchange.proofs.Facts.AskerReplies.{empty_of, ack_spells, reset_spells}
use Rattle.coap_server_laws.specs.Follows.Rejects.{RejectsSo}
use Rattle.coap_server_laws.proofs.Replying.ResponsesRejected.{So, over, response_class}

-- what is handed up
pub record Hands (up : T.Answer) (m : Message) : Type 0 where
  pub up_is : handed_by up ≡ Some m
  pub in_is : message_in up ≡ Some m

-- the reply to it
pub record Fits (m : Message) (id : ℕ) (bytes : List ℕ) : Type 0 where
  pub reply : Message
  pub spells : Spells bytes reply
  pub id_is : reply.id ≡ id
  pub kind : (reply.kind ≡ Rst) ⊎ ((reply.kind ≡ Ack) × (m.kind ≡ Con))
  pub class : reply.kind ≡ Rst → role_of m.code ≡ role.Response

module _ (begin : L.State) (from : Endpoint) (now : ℕ) (bytes : List ℕ) (up : T.Answer) (rest : List G.Asked)
    (mid new : L.State) (before : Steps begin rest mid) (step : L.Step mid now (T.Receive from bytes) up new) where
  abbrev received : List G.Asked
  received = asked now (T.Receive from bytes) up ∷ rest

  abbrev arrival : Entry
  arrival = L.made (left_after begin rest) now (T.Receive from bytes)

  there : mid ≡ left_after begin rest
  there = steps_left begin rest mid before

  right : up ≡ L.answer_of (left_after begin rest) (L.moment (left_after begin rest) now (T.Receive from bytes))
      (T.Receive from bytes)
  right = subst (λ w. up ≡ L.answer_of w (L.moment w now (T.Receive from bytes)) (T.Receive from bytes)) there
      step.right

  heard : (m : Message) → Hands up m → handed arrival ≡ Some (record { from = from; message = m })
  heard m h = ap (λ a. from_there from (handed_by a)) (sym right) ∙ ap (from_there from) h.up_is

  pub small : (m : Message) → Hands up m → m.id < 65536
  small m h = let k = spelled mid new now from bytes up m step h.in_is in let i = k.id in omega (arith, i)

  -- at once
  pub at_once : (m : Message) (id : ℕ) (b : List ℕ) → Hands up m → Fits m id b
      → RejectsSo (entries begin received) (L.made (left_after begin received) 0 (T.Reply from id b))
  at_once m id b h f to n c k =
      let n_is : id ≡ n = cc k in
      let c_is : b ≡ c = cc k in
      record {
        at_once = record {
          to_what = record { from = from; message = m };
          latest = inl (heard m h, refl);
          reply = f.reply;
          spells = subst (λ w. Spells w f.reply) c_is f.spells;
          id_is = f.id_is ∙ n_is;
          kind = f.kind;
        };
        class = f.class;
      }

  max_twice : (a b : ℕ) → max a b ≡ max (max a b) b
  max_twice a b = omega arith

  -- .. also where only the clock was moved, to the same moment
  pub at_once_then : (m : Message) (id : ℕ) (b : List ℕ) → Hands up m → Fits m id b
      → RejectsSo (entries begin (asked now T.Pass T.Nothing ∷ received))
      (L.made (left_after begin (asked now T.Pass T.Nothing ∷ received)) 0 (T.Reply from id b))
  at_once_then m id b h f to n c k =
      let n_is : id ≡ n = cc k in
      let c_is : b ≡ c = cc k in
      record {
        at_once = record {
          to_what = record { from = from; message = m };
          latest = inr (refl, inl (heard m h, max_twice (left_after begin rest).clock now));
          reply = f.reply;
          spells = subst (λ w. Spells w f.reply) c_is f.spells;
          id_is = f.id_is ∙ n_is;
          kind = f.kind;
        };
        class = f.class;
      }

-- the request that is handed up
pub record Came (from : Endpoint) (up : T.Answer) (a : Asked) (m : Message) : Type 0 where
  pub up_is : up ≡ T.Becomes (T.Request m true)
  pub asked_is : a ≡ P.asked_of from m

pub came_by : (from : Endpoint) (up : T.Answer) (a : Asked) (m : Message) → Some (a, m) ≡ P.handed_up from up
    → Came from up a m
came_by from (T.Becomes (T.Request n true)) a m h =
    let p : ◌≡◌ {A = Asked × Message} (a, m) (P.asked_of from n, n) = cc h in
    let same : m ≡ n = ap (λ (q : Asked × Message). q.1) p in
    record {
      up_is = ap (λ k. T.Becomes (T.Request k true)) (sym same);
      asked_is = ap (λ (q : Asked × Message). q.0) p ∙ ap (P.asked_of from) (sym same);
    }
came_by from up a m h = absurd (cc h)

-- the request that came is what was handed up
pub hands_up : (from : Endpoint) (up : T.Answer) (a : Asked) (m : Message) → Came from up a m → Hands up m
hands_up from up a m c = record { up_is = ap handed_by c.up_is; in_is = ap message_in c.up_is }

-- the acknowledgement that carries the response to it
pub carrying : (from : Endpoint) (up : T.Answer) (a : Asked) (m : Message) (r : E.Response) → Came from up a m
    → P.IsResponse a r → m.id < 65536 → a.kind ≡ Con
    → Fits m a.id.0 (message_bytes (with_head Ack a.id.0 (P.content_of a r)))
carrying from up a m r c is low k =
    let id_is : a.id.0 ≡ m.id = ap (λ (x : Asked). x.id.0) c.asked_is in
    let kind_is : m.kind ≡ Con = sym (ap (λ (x : Asked). x.kind) c.asked_is) ∙ k in
    record {
      reply = with_head Ack a.id.0 (P.content_of a r);
      spells = is.spelled Ack a.id.0 (omega (arith, low, id_is));
      id_is = refl;
      kind = inr (refl, kind_is);
      class = λ h. absurd (cc h);
    }

-- a response that is rejected
reject_hands : (up : T.Answer) (b : List ℕ) → P.reject_by up ≡ Some b
    → (m : Message) × Hands up m × (id_in up ≡ m.id) × (b ≡ reset_bytes m.id) × (up ≡ T.Becomes (T.Response m))
reject_hands (T.Becomes (T.Response m)) b h = by (is_kept m.kind) refl h
  where
    by : (k : Bool) → is_kept m.kind ≡ k → cond k (Some (reset_bytes m.id)) None ≡ Some b
        → (n : Message) × Hands (T.Becomes (T.Response m)) n × (m.id ≡ n.id) × (b ≡ reset_bytes n.id)
        × (T.Becomes (T.Response m) ≡ T.Becomes (T.Response n))
    by true is e = (
      m,
      record { up_is = ap (λ w. cond w (Some m) None) is; in_is = refl },
      refl,
      sym (let s : reset_bytes m.id ≡ b = cc e in s),
      refl,
    )
    by false is e = absurd (cc e)
reject_hands up b h = absurd (cc h)

module _ (begin : L.State) (from : Endpoint) (now : ℕ) (bytes : List ℕ) (up : T.Answer) (rest : List G.Asked)
    (mid new : L.State) (before : Steps begin rest mid) (step : L.Step mid now (T.Receive from bytes) up new)
    (so : So begin rest) where
  abbrev first : List G.Asked
  first = asked now (T.Receive from bytes) up ∷ rest

  taken : So begin first
  taken = over begin (asked now (T.Receive from bytes) up ∷ []) rest (refl, tt) so

  pub rejecting : (o : Option (List ℕ)) → P.reject_by up ≡ o → So begin (replying from (id_in up) o ++ first)
  rejecting None is = taken
  rejecting (Some b) is =
      let k = reject_hands up b is in
      let low = small begin from now bytes up rest mid new before step k.0 k.1 in
      let f : Fits k.0 (id_in up) b = record {
        reply = empty_of Rst k.0.id;
        spells = subst (λ w. Spells w (empty_of Rst k.0.id)) (sym k.3) (reset_spells k.0.id low);
        id_is = sym k.2;
        kind = inl refl;
        class = λ h. response_class mid new now from bytes up k.0 step k.4;
      } in
      (at_once begin from now bytes up rest mid new before step k.0 (id_in up) b k.1 f, taken)

  -- a piggybacked response
  pub piggybacked : (s : E.Own) (a : Asked) (m : Message) (r : E.Response) (below : T.Answer) → Came from up a m
      → P.IsResponse a r → (kind : Kind) → a.kind ≡ kind
      → So begin (asked s.clock (P.answering s kind a r) below ∷ first)
  piggybacked s a m r below c is Con k =
      let h = hands_up from up a m c in
      let f = carrying from up a m r c is (small begin from now bytes up rest mid new before step m h) k in
      let from_is : a.from ≡ from = ap (λ (x : Asked). x.from) c.asked_is in
      let b : List ℕ = message_bytes (with_head Ack a.id.0 (P.content_of a r)) in (
        subst (λ e. RejectsSo (entries begin first) (L.made (left_after begin first) 0 (T.Reply e a.id.0 b)))
            (sym from_is) (at_once begin from now bytes up rest mid new before step m a.id.0 b h f),
        taken,
      )
  piggybacked s a m r below c is _ k = ((λ to id b h. absurd (cc h)), taken)

  -- an Empty acknowledgement
  pub acknowledged : (a : Asked) (m : Message) → Came from up a m → a.kind ≡ Con → (d : Bool)
      → So begin (P.deferring d a ++ (asked now T.Pass T.Nothing ∷ first))
  acknowledged a m c k false = ((λ to id b h. absurd (cc h)), taken)
  acknowledged a m c k true =
      let h : Hands up m = record { up_is = ap handed_by c.up_is; in_is = ap message_in c.up_is } in
      let low = small begin from now bytes up rest mid new before step m h in
      let id_is : a.id.0 ≡ m.id = ap (λ (x : Asked). x.id.0) c.asked_is in
      let from_is : a.from ≡ from = ap (λ (x : Asked). x.from) c.asked_is in
      let kind_is : m.kind ≡ Con = sym (ap (λ (x : Asked). x.kind) c.asked_is) ∙ k in
      let f : Fits m a.id.0 (ack_bytes a.id.0) = record {
        reply = empty_of Ack a.id.0;
        spells = ack_spells a.id.0 (omega (arith, low, id_is));
        id_is = refl;
        kind = inr (refl, kind_is);
        class = λ h. absurd (cc h);
      } in (
        subst (λ e. RejectsSo (entries begin (asked now T.Pass T.Nothing ∷ first))
            (L.made (left_after begin (asked now T.Pass T.Nothing ∷ first)) 0 (T.Reply e a.id.0 (ack_bytes a.id.0))))
            (sym from_is)
            (at_once_then begin from now bytes up rest mid new before step m a.id.0 (ack_bytes a.id.0) h f),
        ((λ to id b e. absurd (cc e)), taken),
      )
