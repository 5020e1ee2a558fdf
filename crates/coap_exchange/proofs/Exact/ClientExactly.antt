-- The law leaves each call of the client's side one answer.
use Rattle.std.proofs.Common.{◌≡◌, ℕ, Bool, true, Option, Some, List, [], ◌∷◌, ◌++◌, max, refl, ap, sym}
use Rattle.std.proofs.Common.{subst, ◌∙◌}
use Rattle.coap_types.specs.declared.endpoint.Endpoint.{Endpoint}
use Rattle.coap_layer.specs.Machine.State as L
use Rattle.coap_layer.specs.Machine.Steps.{Asked, Steps}
use Rattle.coap_layer.specs.Trace as T
use Rattle.coap_exchange.specs.declared.asker.Event.{Event}
use Rattle.coap_exchange.specs.declared.asker.Exchange.{Exchange}
use Rattle.coap_exchange.specs.AskerTrace.{Own, Call, Receive}
use Rattle.coap_exchange.specs.AskerSteps.{lower}
use Rattle.coap_exchange.specs.AskerRequests.{asked, opening_of, ask_answer, request_token}
use Rattle.coap_exchange.specs.AskerArrivals.{told, verdict_on, id_in, reply_by, settles, replying, settling, acts}
use Rattle.coap_exchange.specs.AskerArrivals.{turn_of}
use Rattle.coap_exchange.specs.AskerLaw.{own_of, lower_of, ExchangeLaw}
use Rattle.coap_exchange.specs.AskerExact.{IsExact}
use Rattle.coap_layer.proofs.Facts.StepsOfLayer.{one_answer, one_left, steps_split}
use Rattle.coap_layer.specs.declared.setup.Setup.{Setup}

settled_alike : (v : Bool) (server : Endpoint) (running : Option Exchange) (settled ended : Bool)
    (old same new other : L.State) → old ≡ same → Steps old (settling v server running settled) new
    → Steps same (settling v server running ended) other
    → settling v server running settled ≡ settling v server running ended
settled_alike true server (Some x) settled ended old same new other e h k =
    ap (λ a. asked 0 (T.Settle server x.id.0) a ∷ [])
    (one_answer h.0 k.0 new other 0 (T.Settle server x.id.0) (T.Is settled) (T.Is ended)
    (h.1 ∙ (e ∙ sym k.1)) h.2 k.2)
settled_alike _ server _ settled ended old same new other e h k = refl

module _ (server : Endpoint) (setup : Setup) (past : List Call) where
  abbrev s : Own
  s = own_of server setup past

  abbrev below_past : List Asked
  below_past = lower_of server setup past

  -- one call of the layer beneath
  single : (now : ℕ) (call : T.Call) (a b : T.Answer) (h k : L.State)
      → Steps (L.start setup) (asked now call a ∷ below_past) h
      → Steps (L.start setup) (asked now call b ∷ below_past) k
      → a ≡ b
  single now call a b h k p q = one_answer p.0 q.0 h k now call a b
      (one_left (L.start setup) below_past p.0 q.0 p.1 q.1) p.2 q.2

  module _ (now : ℕ) (from : Endpoint) (bytes : List ℕ) (settled ended : Bool) where
    received : (up other : T.Answer) (h k : L.State)
        → Steps (L.start setup) ((acts s from up settled (verdict_on s from up)
        ++ asked now (T.Receive from bytes) up ∷ []) ++ below_past) h
        → Steps (L.start setup) ((acts s from other ended (verdict_on s from other)
        ++ asked now (T.Receive from bytes) other ∷ []) ++ below_past) k → up ≡ other
    received up other h k p q =
        let a = steps_split (L.start setup) h (acts s from up settled (verdict_on s from up)
        ++ asked now (T.Receive from bytes) up ∷ []) below_past p in
        let b = steps_split (L.start setup) k (acts s from other ended (verdict_on s from other)
        ++ asked now (T.Receive from bytes) other ∷ []) below_past q in
        let c = steps_split a.0 h (acts s from up settled (verdict_on s from up))
        (asked now (T.Receive from bytes) up ∷ []) a.2 in
        let d = steps_split b.0 k (acts s from other ended (verdict_on s from other))
        (asked now (T.Receive from bytes) other ∷ []) b.2 in
        one_answer c.1.0 d.1.0 c.0 d.0 now (T.Receive from bytes) up other
        (c.1.1 ∙ (one_left (L.start setup) below_past a.0 b.0 a.1 b.1 ∙ sym d.1.1)) c.1.2 d.1.2

    lowered : (up : T.Answer) (h k : L.State) → Steps (L.start setup)
        ((acts s from up settled (verdict_on s from up) ++ asked now (T.Receive from bytes) up ∷ []) ++ below_past) h
        → Steps (L.start setup) ((acts s from up ended (verdict_on s from up)
        ++ asked now (T.Receive from bytes) up ∷ []) ++ below_past) k
        → acts s from up settled (verdict_on s from up) ≡ acts s from up ended (verdict_on s from up)
    lowered up h k p q =
        let v = verdict_on s from up in
        let first : List Asked = asked now (T.Receive from bytes) up ∷ [] in
        let replies : List Asked = replying from (id_in up) (reply_by v (id_in up)) in
        let a = steps_split (L.start setup) h (acts s from up settled v ++ first) below_past p in
        let b = steps_split (L.start setup) k (acts s from up ended v ++ first) below_past q in
        let c = steps_split a.0 h (acts s from up settled v) first a.2 in
        let d = steps_split b.0 k (acts s from up ended v) first b.2 in
        let e = steps_split c.0 h (settling (settles v) s.server s.running settled) replies c.2 in
        let f = steps_split d.0 k (settling (settles v) s.server s.running ended) replies d.2 in
        let start_same : a.0 ≡ b.0 = one_left (L.start setup) below_past a.0 b.0 a.1 b.1 in
        let first_same : c.0 ≡ d.0 = one_left a.0 first c.0 d.0 c.1
        (subst (λ x. Steps x first d.0) (sym start_same) d.1) in
        let reply_same : e.0 ≡ f.0 = one_left c.0 replies e.0 f.0 e.1
        (subst (λ x. Steps x replies f.0) (sym first_same) f.1) in
        ap (λ x. x ++ replies) (settled_alike (settles v) s.server s.running settled ended e.0 f.0 h k reply_same e.2
        f.2)

    by_same : (up other : T.Answer) → up ≡ other → (answer another : Option Event)
        → ExchangeLaw server setup (Receive now from bytes up settled answer ∷ past)
        → ExchangeLaw server setup (Receive now from bytes other ended another ∷ past)
        → lower s (Receive now from bytes up settled answer) ≡ lower s (Receive now from bytes other ended another)
    by_same up other e answer another p q =
        subst (λ o. lower s (Receive now from bytes up settled answer)
        ≡ lower s (Receive now from bytes o ended another)) e
        (ap (λ x. x ++ asked now (T.Receive from bytes) up ∷ [])
        (lowered up p.left q.left p.layer (subst (λ o. Steps (L.start setup)
        ((acts s from o ended (verdict_on s from o) ++ asked now (T.Receive from bytes) o ∷ []) ++ below_past)
        q.left) (sym e) q.layer)))

  pub exact : IsExact server setup past
  exact = record {
    ask = λ now w r below other answer another p q.
        let e = single now _ below other p.left q.left p.layer q.layer
        in (e, p.rows.0 ∙ (ap (λ a. ask_answer (opening_of s r) a (request_token s r)) e ∙ sym q.rows.0));
    receive = λ now from bytes up other settled ended answer another p q.
        let e = received now from bytes settled ended up other p.left q.left p.layer q.layer in (
          e,
          p.rows.0 ∙ (ap (λ a. told (verdict_on s from a) a) e ∙ sym q.rows.0),
          by_same now from bytes settled ended up other e answer another p q,
        );
    ticks = λ now below other answer another p q.
        let e = single now T.Ticks below other p.left q.left p.layer q.layer
        in (e, p.rows.0 ∙ (ap (λ a. turn_of s (max s.clock now) a) e ∙ sym q.rows.0));
    keep = λ token answer another p q. p.rows.0 ∙ sym q.rows.0;
    release = λ token answer another p q. p.rows.0 ∙ sym q.rows.0;
    take = λ answer another p q. let e = single 0 T.Take (T.Gives answer)
        (T.Gives another) p.left q.left p.layer q.layer in cc e;
  }
