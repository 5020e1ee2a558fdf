-- The law leaves each call of the server's side one answer.
use Rattle.std.proofs.Common.{◌≡◌, ℕ, Bool, Option, Some, None, List, [], ◌∷◌, ◌++◌, refl, ap, sym, subst, ◌∙◌}
use Rattle.coap_layer.specs.Machine.State as L
use Rattle.coap_layer.specs.Machine.Steps.{Asked as Below, Steps}
use Rattle.coap_layer.specs.Trace as T
use Rattle.coap_exchange.specs.declared.separate.Deferred.{Deferred}
use Rattle.coap_exchange.specs.AnswererTrace.{Own, Call}
use Rattle.coap_exchange.specs.AnswererSteps.{handed_up, answering, content_of, content_with, reject_by, asking_room}
use Rattle.coap_exchange.specs.AnswererSteps.{ready_if, ready_at, due_of}
use Rattle.coap_exchange.specs.AnswererLaw.{own_of, lower_of}
use Rattle.coap_exchange.specs.AnswererExact.{IsExact}
use Rattle.coap_exchange.specs.AskerRequests.{asked}
use Rattle.coap_exchange.specs.AskerArrivals.{id_in, replying}
use Rattle.coap_layer.proofs.Facts.StepsOfLayer.{steps_split}
use Rattle.coap_layer.proofs.Facts.StepsOfLayer.{one_left, one_answer}
use Rattle.coap_layer.specs.declared.setup.Setup.{Setup}

-- what is due where the layer does nothing for the request that is ready doesn't hang on room
due_alike : (below : T.Answer) (o : Option Deferred) (room space : Bool) → (asking_room_alike : ready_if below o ≡ None)
    → due_of below o room ≡ due_of below o space
due_alike T.Idle (Some d) room space h = absurd (cc h)
due_alike _ _ room space h = refl

module _ (setup : Setup) (past : List Call) where
  abbrev s : Own
  s = own_of past

  abbrev below_past : List Below
  below_past = lower_of past

  -- one call of the layer beneath
  single : (now : ℕ) (call : T.Call) (a b : T.Answer) (h k : L.State)
      → Steps (L.start setup) (asked now call a ∷ below_past) h
      → Steps (L.start setup) (asked now call b ∷ below_past) k
      → a ≡ b
  single now call a b h k p q = one_answer p.0 q.0 h k now call a b
      (one_left (L.start setup) below_past p.0 q.0 p.1 q.1) p.2 q.2

  -- the first of the calls beneath
  first_of : (now : ℕ) (call : T.Call) (a b : T.Answer) (after_a after_b : List Below) (h k : L.State)
      → Steps (L.start setup) ((after_a ++ asked now call a ∷ []) ++ below_past) h
      → Steps (L.start setup) ((after_b ++ asked now call b ∷ []) ++ below_past) k
      → a ≡ b
  first_of now call a b after_a after_b h k p q =
      let c = steps_split (L.start setup) h (after_a ++ asked now call a ∷ []) below_past p in
      let d = steps_split (L.start setup) k (after_b ++ asked now call b ∷ []) below_past q in
      let e = steps_split c.0 h after_a (asked now call a ∷ []) c.2 in
      let f = steps_split d.0 k after_b (asked now call b ∷ []) d.2 in
      one_answer e.1.0 f.1.0 e.0 f.0 now call a b
      (e.1.1 ∙ (one_left (L.start setup) below_past c.0 d.0 c.1 d.1 ∙ sym f.1.1)) e.1.2 f.1.2

  module _ (now : ℕ) (below : T.Answer) (room space : Bool) (h k : L.State) where
    abbrev first : List Below
    first = asked now T.Ticks below ∷ []

    room_by : (o : Option Deferred) → ready_if below (ready_at s now) ≡ o
        → Steps (L.start setup) ((asking_room now o room ++ first) ++ below_past) h
        → Steps (L.start setup) ((asking_room now o space ++ first) ++ below_past) k
        → due_of below (ready_at s now) room ≡ due_of below (ready_at s now) space
    room_by None is p q = due_alike below (ready_at s now) room space is
    room_by (Some d) is p q =
        let c = steps_split (L.start setup) h (asking_room now (Some d) room ++ first) below_past p in
        let e = steps_split (L.start setup) k (asking_room now (Some d) space ++ first) below_past q in
        let f = steps_split c.0 h (asking_room now (Some d) room) first c.2 in
        let g = steps_split e.0 k (asking_room now (Some d) space) first e.2 in
        let from : c.0 ≡ e.0 = one_left (L.start setup) below_past c.0 e.0 c.1 e.1 in
        let after : f.0 ≡ g.0 = one_left c.0 first f.0 g.0 f.1 (subst (λ x. Steps x first g.0) (sym from) g.1) in
        let same : T.Is room ≡ T.Is space = one_answer f.2.0 g.2.0 h k now (T.Room d.asked.from) (T.Is room)
        (T.Is space) (f.2.1 ∙ (after ∙ sym g.2.1)) f.2.2 g.2.2 in
        let rooms : room ≡ space = cc same in
        ap (due_of below (ready_at s now)) rooms

    same_due : Steps (L.start setup) ((asking_room now (ready_if below (ready_at s now)) room ++ first) ++ below_past) h
        → Steps (L.start setup) ((asking_room now (ready_if below (ready_at s now)) space ++ first) ++ below_past) k
        → due_of below (ready_at s now) room ≡ due_of below (ready_at s now) space
    same_due p q = room_by (ready_if below (ready_at s now)) refl p q

  pub exact : IsExact setup past
  exact = record {
    incoming = λ now from bytes up other answer another p q.
        let e = first_of now (T.Receive from bytes) up other (replying from (id_in up) (reject_by up))
        (replying from (id_in other) (reject_by other)) p.left q.left p.layer q.layer in
        (e, p.rows.0 ∙ (ap (handed_up from) e ∙ sym q.rows.0));
    answers = λ a r below other p q. single s.clock (answering s a.kind a r) below other p.left q.left p.layer q.layer;
    defers = λ now a delay answer another p q. p.rows.0.2 ∙ sym q.rows.0.2;
    ticks = λ now below other room space answer another p q.
        let e = first_of now T.Ticks below other (asking_room now (ready_if below (ready_at s now)) room)
        (asking_room now (ready_if other (ready_at s now)) space) p.left q.left p.layer q.layer in
        let last : Steps (L.start setup) ((asking_room now (ready_if below (ready_at s now)) space
        ++ asked now T.Ticks below ∷ []) ++ below_past) q.left =
        subst (λ b. Steps (L.start setup) ((asking_room now (ready_if b (ready_at s now)) space
        ++ asked now T.Ticks b ∷ []) ++ below_past) q.left) (sym e) q.layer in (
          e,
          p.rows.0 ∙ (same_due now below room space p.left q.left p.layer last
              ∙ (ap (λ b. due_of b (ready_at s now) space) e ∙ sym q.rows.0)),
        );
    responds = λ now a r w id another p q. let e =
        single now (T.Confirm a.from (content_of a r) w) (T.Sent id)
        (T.Sent another) p.left q.left p.layer q.layer in cc e;
    ready = λ now to answer another p q. let e =
        single now (T.Room to) (T.Is answer) (T.Is another) p.left q.left p.layer q.layer in cc e;
    notifies = λ now to token r w id another p q. let e =
        single now (T.Confirm to (content_with token r) w) (T.Sent id)
        (T.Sent another) p.left q.left p.layer q.layer in cc e;
    notifies_plain = λ now to token r id another p q. let e =
        single now (T.Plain to (content_with token r)) (T.Sent id)
        (T.Sent another) p.left q.left p.layer q.layer in cc e;
    take = λ answer another p q. let e = single 0 T.Take (T.Gives answer)
        (T.Gives another) p.left q.left p.layer q.layer in cc e;
  }
