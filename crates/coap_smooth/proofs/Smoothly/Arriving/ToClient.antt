-- A server that hears from the client alone sends to the client alone, and answers no other.
use Rattle.std.proofs.Common.{◌≡◌, ◌⊎◌, inl, inr, ⊎_elim, ℕ, zero, suc, Bool, true, false, Option, Some, None, List, []}
use Rattle.std.proofs.Common.{◌∷◌, ◌++◌, refl, ap, sym, subst, ◌∙◌}
use Rattle.coap_types.specs.Past.{Ever, Sometime}
use Rattle.coap_types.proofs.Facts.Traces.{Ever_append, Ever_map, Ever_of_Since, Always_back}
use Rattle.coap_types.specs.declared.endpoint.Endpoint.{Endpoint}
use Rattle.coap_codec.specs.Message.{Message}
use Rattle.coap_layer.specs.Sends.{IsIn, GoesOut, EachGoesOut, first, copy, plain as in_non, reply as in_reply, stored}
use Rattle.coap_layer.specs.Sends.{reset}
use Rattle.coap_layer.specs.Trace as L
use Rattle.coap_layer.specs.Words.{Open, begun, Awaited, awaited_of, awaits_in, awaits, from_there, handed_by}
use Rattle.coap_layer.proofs.Facts.Laws.{each_goes_out}
use Rattle.coap_observe.specs.Observers.{Observer}
use Rattle.coap_exchange.specs.AnswererTrace as R
use Rattle.coap_exchange.specs.declared.answerer.Asked.{Asked}
use Rattle.coap_exchange.specs.declared.answerer.Due.{Due}
use Rattle.coap_exchange.specs.declared.answerer.Due.TheVariants as due
use Rattle.coap_server.specs.Asks.{answering, lower, notifies_by, responding}
use Rattle.coap_server.specs.Deferring.{deferral_by}
use Rattle.coap_server_laws.specs.Follows.Begins.{CanNotify}
use Rattle.coap_server.specs.Follows.Brings.{HandsUp, Comes, Brings}
use Rattle.coap_server.specs.Follows.Observes.{notice, WasMade, AreObservers}
use Rattle.coap_server.specs.Follows.Serves.{Serving, serving}
use Rattle.coap_server.specs.Handling as Handling
use Rattle.coap_server.specs.Handling.{incoming, ticking}
use Rattle.coap_server.specs.Refusing.{refusing}
use Rattle.coap_server.specs.Law.{ServerLaw, own_of}
use Rattle.coap_server.specs.Notifying.{marked, notification, readies}
use Rattle.coap_server.specs.Plain.{by_plain}
use Rattle.coap_server.specs.Trace as S
use Rattle.coap_server.proofs.Facts.EachCall.{comes_here, comes_refused}
use Rattle.coap_server_laws.proofs.Facts.Laws as server_facts
use Rattle.coap_record.specs.Events.{Config}
use Rattle.coap_promise.specs.Hops.{server_adds}
use Rattle.coap_promise.proofs.Facts.Delivery.EntriesInTime.{Every, every_join, every_map}
use Rattle.coap_promise.proofs.Facts.Delivery.HopsAreEntries.{server_layer, server_next}
use Rattle.coap_smooth.proofs.Smoothly.Answers.Confirms.{IsEntrySo}
use Rattle.coap_smooth.proofs.Smoothly.Answers.ConsAnswer.{Confirms, Plain, RespondsTo, NotifiesTo, plain_to}
use Rattle.coap_smooth.proofs.Smoothly.Answers.ConsAnswer.{exchange_calls}
use Rattle.coap_smooth.proofs.Smoothly.Answers.ConsAnswer.{adds_so, con_of}
use Rattle.coap_smooth.proofs.Smoothly.Answers.ConsOfOpen.{of_each}
use Rattle.coap_record.specs.declared.addresses.Addresses.{Addresses}

-- what arrives came from the client
abbrev pub IsFromClient : Addresses → L.Entry → Type 0
IsFromClient addresses e = (from : Endpoint) (bytes : List ℕ) → e.call ≡ L.Receive from bytes → from ≡ addresses.client

abbrev pub GoesToClient : Addresses → L.Entry → Type 0
GoesToClient addresses e = (p : L.Packet) → IsIn p e.out → p.to ≡ addresses.client

module _ (config : Config) (observers : (t : List S.Call) → AreObservers config.limits config.server_szx t) where
  abbrev Law : List S.Call → Type 0
  Law t = ServerLaw config.limits config.server_szx config.server_setup t

  abbrev pub HeardClient : List S.Call → Type 0
  HeardClient t = Every (IsFromClient config.addresses) (server_layer config t)

  back : (c : S.Call) (t : List S.Call) → Law (c ∷ t) → Law t
  back c t law = server_facts.back config.limits config.server_szx config.server_setup (c ∷ []) t law

  pub heard_before : (c : S.Call) (t : List S.Call) → HeardClient (c ∷ t) → HeardClient t
  heard_before c t h = Always_back (λ p e. IsFromClient config.addresses e) (server_adds config t c)
      (server_layer config t)
      (subst (Every (IsFromClient config.addresses)) (server_next config t c) h)

  -- whose request it is

  hands_client : (a : Asked) (v : _) (es : List L.Entry) → Every (IsFromClient config.addresses) es
      → Ever (HandsUp config.server_szx a v) es → a.from ≡ config.addresses.client
  hands_client a v [] all h = absurd h
  hands_client a v (e ∷ es) all (inl h) = all.0 a.from h.bytes h.call
  hands_client a v (e ∷ es) all (inr h) = hands_client a v es all.1 h

  of_comes : (t : List S.Call) (c : S.Call) (a : Asked) (v : _) → HeardClient (c ∷ t)
      → Comes config.limits config.server_szx config.server_setup t c a v → a.from ≡ config.addresses.client
  of_comes t c a v heard k = hands_client a v k.news (news k.news (subst (Every (IsFromClient config.addresses)) k.is
      heard)) k.here
    where
      news : (front : List L.Entry) → Every (IsFromClient config.addresses) (front ++ server_layer config t)
          → Every (IsFromClient config.addresses) front
      news [] h = tt
      news (e ∷ front) h = (h.0, news front h.1)

  of_served : (t : List S.Call) (c : S.Call) → Law (c ∷ t) → HeardClient (c ∷ t) → (x : Serving)
      → serving (own_of config.limits config.server_szx t) c ≡ Some x → x.asked.from ≡ config.addresses.client
  of_served t c law heard x is =
      brought (c ∷ t) heard
      ((server_facts.handed config.limits config.server_szx config.server_setup (c ∷ t) law).0 x is)
    where
      brought : (calls : List S.Call) → HeardClient calls
          → Sometime (λ old b. Brings config.limits config.server_szx config.server_setup old b x.asked x.question)
          calls
          → x.asked.from ≡ config.addresses.client
      brought [] h k = absurd k
      brought (b ∷ old) h (inl k) = of_comes old b x.asked k.verdict h k.comes
      brought (b ∷ old) h (inr k) = brought old (heard_before b old h) k

  pub of_observer : (t : List S.Call) → Law t → HeardClient t → (o : Observer)
      → WasMade config.limits config.server_szx t o → o.to ≡ config.addresses.client
  of_observer [] law heard o h = absurd h
  of_observer (c ∷ t) law heard o (inl h) =
      sym h.made.from ∙ of_served t c law heard h.made.request h.made.here
  of_observer (c ∷ t) law heard o (inr h) = of_observer t (back c t law) (heard_before c t heard) o h

  -- who is notified
  pub told_observer : (t : List S.Call) (c : S.Call) → Law (c ∷ t) → (to : Endpoint) → NotifiesTo c to
      → (o : Observer) × WasMade config.limits config.server_szx t o × (o.to ≡ to)
  told_observer t c law to n =
      let next = ((server_facts.begins config.limits config.server_szx config.server_setup (c ∷ t) law).0 n.now n.answer
      n.tick).notifies n.notice_of n.here in
      let among = Ever_map _ (λ y. y ≡ n.notice_of.observer) (λ y k. k.0)
      (own_of config.limits config.server_szx t).observers
      (Ever_of_Since (λ y. (y ≡ n.notice_of.observer) × CanNotify config.limits config.server_szx config.server_setup t
      y)
      (λ y. CanNotify config.limits config.server_szx config.server_setup t y → ⊥)
      (own_of config.limits config.server_szx t).observers next.first) in (
        n.notice_of.observer,
        of_each (WasMade config.limits config.server_szx t) n.notice_of.observer
            (own_of config.limits config.server_szx t).observers (observers t).made among,
        n.there,
      )

  -- where CONs go

  con_now : (t : List S.Call) (c : S.Call) → Law (c ∷ t) → HeardClient (c ∷ t) → (to : Endpoint)
      → RespondsTo (own_of config.limits config.server_szx t) c to ⊎ NotifiesTo c to → to ≡ config.addresses.client
  con_now t c law heard to (inl r) =
      let next = ((server_facts.begins config.limits config.server_szx config.server_setup (c ∷ t) law).0 r.now r.answer
      r.tick).responds r.asked r.answers in
      sym (ap (λ (z : Asked). z.from) next.asks.0 ∙ r.from) ∙ of_served t c law heard next.serves next.here
  con_now t c law heard to (inr n) =
      let k = told_observer t c law to n in
      sym k.2 ∙ of_observer t (back c t law) (heard_before c t heard) k.0 k.1

  pub cons_to : (t : List S.Call) → Law t → HeardClient t → (con : Open)
      → Ever (λ b. begun b ≡ Some con) (server_layer config t) → con.to ≡ config.addresses.client
  cons_to [] law heard con h = absurd h
  cons_to (c ∷ t) law heard con h =
      ⊎_elim (λ now. con_now t c law heard con.to
      (con_of config.limits config.server_szx config.server_setup t c con now))
      (λ older. cons_to t (back c t law) (heard_before c t heard) con older)
      (Ever_append (λ b. begun b ≡ Some con) (server_adds config t c) (server_layer config t)
      (subst (Ever (λ b. begun b ≡ Some con)) (server_next config t c) h))

  -- .. and NONs

  module _ (to : Endpoint) where
    abbrev Here : List R.Call → Type 0
    Here calls = Ever (λ b. plain_to b ≡ Some to) calls

    some_is : (x : Endpoint) → Some x ≡ Some to → x ≡ to
    some_is x h = cc h

    none_deferred : (o : Option ℕ) (place : Bool) (at : ℕ) (a : Asked) → Here (deferral_by o place at a) → ⊥
    none_deferred None place at a h = h
    none_deferred (Some delay) place at a (inl h) = cc h
    none_deferred (Some delay) place at a (inr h) = h

    answered : (s : S.Own) (p : Asked × Message) (h : S.Handling) (below : L.Answer)
        → Here (answering s (Some p) h below)
        → p.0.from ≡ to
    answered s p (S.Replies r) below (inl k) = some_is p.0.from k
    answered s p (S.Replies r) below (inr k) = absurd k
    answered s p (S.Serves q reply left) below (inl k) = some_is p.0.from k
    answered s p (S.Serves q reply left) below (inr k) = absurd (none_deferred _ _ _ p.0 k)
    answered s p (S.Waits q delay) below k = absurd (none_deferred _ _ _ p.0 k)
    answered s p _ below k = absurd k

    not_asked : (at : ℕ) (o : Observer) → Here (R.Ready at o.to false ∷ []) → ⊥
    not_asked at o (inl k) = cc k
    not_asked at o (inr k) = k

    none_ready : (at passed : ℕ) (os : List Observer) → Here (readies at passed os) → ⊥
    none_ready at passed [] h = h
    none_ready at zero (o ∷ os) (inl h) = cc h
    none_ready at zero (o ∷ os) (inr h) = h
    none_ready at (suc passed) (o ∷ os) h =
        ⊎_elim (λ k. none_ready at passed os k) (λ k. not_asked at o k)
        (Ever_append (λ b. plain_to b ≡ Some to) (readies at passed os) (R.Ready at o.to false ∷ []) h)

    notice_to : (plain : Bool) (at : ℕ) (o : Observer) (r : R.Response) (word id : ℕ)
        → plain_to (notifies_by plain at o r word id) ≡ Some to → o.to ≡ to
    notice_to true at o r word id h = some_is o.to h
    notice_to false at o r word id h = absurd (cc h)

    -- by a tick, a notification alone
    record Tells (h : S.Handling) : Type 0 where
      observer : Observer
      reply : _
      is : h ≡ S.Notifies observer reply
      there : observer.to ≡ to

    told_responding : (s : S.Own) (d : Due) (passed : ℕ) (h : S.Handling) (word id : ℕ)
        → Here (responding s d passed h word id) → Tells h
    told_responding s (due.Ready a) passed (S.Serves q reply left) word id (inl k) = absurd (cc k)
    told_responding s (due.Ready a) passed (S.Serves q reply left) word id (inr k) = absurd k
    told_responding s due.Idle passed (S.Notifies o reply) word id (inl k) = record {
      observer = o;
      reply = reply;
      is = refl;
      there = notice_to (by_plain s o) s.clock o (notification s.store o reply) word id k;
    }
    told_responding s due.Idle passed (S.Notifies o reply) word id (inr k) =
        absurd (none_ready s.clock passed (marked s.observers) k)
    told_responding s due.Idle passed S.Silent word id k = absurd (none_ready s.clock passed (marked s.observers) k)
    told_responding s due.Idle passed (S.Replies r) word id k = absurd
        (none_ready s.clock passed (marked s.observers) k)
    told_responding s due.Idle passed (S.Serves q reply left) word id k =
        absurd (none_ready s.clock passed (marked s.observers) k)
    told_responding s due.Idle passed (S.Waits q delay) word id k =
        absurd (none_ready s.clock passed (marked s.observers) k)
    told_responding s _ passed _ word id k = absurd k

    fed_now : (s : S.Own) (p : Asked × Message) (h : S.Handling) (below : L.Answer) (call : R.Call) → plain_to call
        ≡ None
        → Here (answering s (Some p) h below ++ call ∷ []) → p.0.from ≡ to
    fed_now s p h below call none k =
        ⊎_elim (λ z. answered s p h below z) (λ z. absurd (last z))
        (Ever_append (λ b. plain_to b ≡ Some to) (answering s (Some p) h below) (call ∷ []) k)
      where
        last : Here (call ∷ []) → ⊥
        last (inl z) = let both : None ≡ Some to = sym none ∙ z in cc both
        last (inr z) = z

    ticked_now : (s : S.Own) (d : Due) (passed : ℕ) (h : S.Handling) (word id : ℕ) (call : R.Call) → plain_to call
        ≡ None
        → Here (responding s d passed h word id ++ call ∷ []) → Tells h
    ticked_now s d passed h word id call none k =
        ⊎_elim (λ z. told_responding s d passed h word id z) (λ z. absurd (last z))
        (Ever_append (λ b. plain_to b ≡ Some to) (responding s d passed h word id) (call ∷ []) k)
      where
        last : Here (call ∷ []) → ⊥
        last (inl z) = let both : None ≡ Some to = sym none ∙ z in cc both
        last (inr z) = z

    refused_now : (a : Asked) (response : Option ℕ) (below : L.Answer) (call : R.Call) → plain_to call ≡ None
        → Here (refusing a response below ++ call ∷ []) → a.from ≡ to
    refused_now a None below call none (inl k) = let both : None ≡ Some to = sym none ∙ k in absurd (cc both)
    refused_now a None below call none (inr k) = absurd k
    refused_now a (Some code) below call none (inl k) = some_is a.from k
    refused_now a (Some code) below call none (inr (inl k)) = let both : None ≡ Some to = sym none ∙ k in
        absurd (cc both)
    refused_now a (Some code) below call none (inr (inr k)) = absurd k

    plain_now : (t : List S.Call) (c : S.Call) → Law (c ∷ t) → HeardClient (c ∷ t)
        → Here (lower (own_of config.limits config.server_szx t) c) → to ≡ config.addresses.client
    plain_now t (S.Feeds now from bytes word up (Some p) h below) law heard k =
        let s : S.Own = own_of config.limits config.server_szx t in
        let call : R.Call = incoming s now from bytes up (Some p) in
        sym (fed_now (Handling.heard s now call) p h below call refl k)
        ∙ of_comes t (S.Feeds now from bytes word up (Some p) h below) p.0 _ heard
        (comes_here config.limits config.server_szx config.server_setup t now from bytes word up p h below law)
    plain_now t (S.Feeds now from bytes word up None h below) law heard (inl k) = absurd (cc k)
    plain_now t (S.Feeds now from bytes word up None h below) law heard (inr k) = absurd k
    plain_now t (S.Refuses now from bytes word code up p response below) law heard k =
        let s : S.Own = own_of config.limits config.server_szx t in
        sym (refused_now p.0 response below (incoming s now from bytes up (Some p)) refl k)
        ∙ of_comes t (S.Refuses now from bytes word code up p response below) p.0 _ heard
        (comes_refused config.limits config.server_szx config.server_setup t now from bytes word code up p response
        below law)
    plain_now t (S.Ticks now word below room d passed h id answer) law heard k =
        let s : S.Own = own_of config.limits config.server_szx t in
        let call : R.Call = ticking s now below room d in
        let n = ticked_now (Handling.heard s now call) d passed h word id call refl k in
        con_now t (S.Ticks now word below room d passed h id answer) law heard to (inr (record {
          now = now;
          answer = answer;
          tick = (word, below, room, d, passed, h, id, refl);
          notice_of = record { observer = n.observer; reply = n.reply };
          here = ap (λ z. notice (S.Ticks now word below room d passed z id answer)) n.is;
          there = n.there;
        }))
    plain_now t (S.NextOut answer) law heard (inl k) = absurd (cc k)
    plain_now t (S.NextOut answer) law heard (inr k) = absurd k
    plain_now t (S.Forgets peer) law heard (inl k) = absurd (cc k)
    plain_now t (S.Forgets peer) law heard (inr k) = absurd k
    plain_now t _ law heard k = absurd k

  abbrev PlainToClient : L.Entry → Type 0
  PlainToClient e = (to : Endpoint) (content : L.Content) → e.call ≡ L.Plain to content → to ≡ config.addresses.client

  plains : (t : List S.Call) → Law t → HeardClient t → Every PlainToClient (server_layer config t)
  plains [] law heard = tt
  plains (c ∷ t) law heard =
      let calls : List R.Call = exchange_calls config.limits config.server_szx config.server_setup t c in
      subst (Every PlainToClient) (sym (server_next config t c))
      (every_join PlainToClient (server_adds config t c) (server_layer config t)
      (every_map (IsEntrySo (Confirms calls) (Plain calls)) PlainToClient
      (λ e so to content is. plain_now to t c law heard (so.plain to content is)) (server_adds config t c)
      (adds_so config.limits config.server_szx config.server_setup t c))
      (plains t (back c t law) (heard_before c t heard)))

  -- what is awaited, to which a reply is given
  of_handed : (from : Endpoint) (o : Option Message) (x : Awaited) → awaited_of (from_there from o) ≡ Some x
      → x.from ≡ from
  of_handed from None x h = absurd (cc h)
  of_handed from (Some m) x h =
      let same : record { from = from; id = m.id } ≡ x = cc h in sym (ap (λ (z : Awaited). z.from) same)

  awaited_from : (es : List L.Entry) → Every (IsFromClient config.addresses) es → (x : Awaited) → awaits es ≡ Some x
      → x.from ≡ config.addresses.client
  awaited_from [] all x h = absurd (cc h)
  awaited_from (e ∷ es) all x h = by e.call refl (λ k. awaited_from es all.1 x k) h
    where
      by : (call : L.Call) → e.call ≡ call → (awaits es ≡ Some x → x.from ≡ config.addresses.client)
          → awaits_in call e.answer (awaits es) ≡ Some x → x.from ≡ config.addresses.client
      by (L.Receive from bytes) is older k = of_handed from (handed_by e.answer) x k ∙ all.0 from bytes is
      by (L.Settle to id) is older k = older k
      by L.Take is older k = older k
      by (L.Room to) is older k = older k
      by L.AsksFree is older k = older k
      by L.Pass is older k = older k
      by (L.Reply to id bytes) is older k = absurd (cc k)
      by (L.Confirm to content word) is older k = absurd (cc k)
      by (L.Plain to content) is older k = absurd (cc k)
      by L.Ticks is older k = absurd (cc k)

  out_to : (es : List L.Entry) → EachGoesOut es → Every (IsFromClient config.addresses) es → Every PlainToClient es
      → ((con : Open) → Ever (λ b. begun b ≡ Some con) es → con.to ≡ config.addresses.client)
      → Every (GoesToClient config.addresses) es
  out_to [] goes from plain cons = tt
  out_to (e ∷ es) goes from plain_ones cons = (
    λ p among. by p (goes.0 p among),
    out_to es goes.1 from.1 plain_ones.1 (λ con h. cons con (inr h)),
  )
    where
      by : (p : L.Packet) → GoesOut es e p → p.to ≡ config.addresses.client
      by p (first k) = ap (λ (z : L.Packet). z.to) k.is ∙ cons k.con (inl k.begins)
      by p (copy k) = ap (λ (z : L.Packet). z.to) k.is ∙ cons k.con (inr k.begun_before)
      by p (in_non k) = plain_ones.0 p.to k.content k.call
      by p (in_reply k) = awaited_from es from.1 (record { from = p.to; id = k.id }) k.awaited
      by p (stored k) = from.0 p.to k.bytes k.call
      by p (reset k) = from.0 p.to k.bytes k.call

  pub all_to_client : (t : List S.Call) → Law t → HeardClient t
      → Every (GoesToClient config.addresses) (server_layer config t)
  all_to_client t law heard =
      out_to (server_layer config t)
      (each_goes_out config.server_setup (server_layer config t)
      (server_facts.layer config.limits config.server_szx config.server_setup t law))
      heard (plains t law heard) (cons_to t law heard)
