-- What a tick begins is the next that can be, and a tick that does nothing leaves nothing that can be begun.
use Rattle.std.proofs.Common.{◌≡◌, ◌⊎◌, inl, inr, ⊎_elim, ℕ, zero, suc, Bool, true, false, Option, Some, None, List, []}
use Rattle.std.proofs.Common.{◌∷◌, ◌++◌, refl, sym, subst, ◌∙◌}
use Rattle.coap_types.specs.Past.{Ever}
use Rattle.coap_types.proofs.Facts.Traces.{Ever_append}
use Rattle.coap_layer.specs.Trace as L
use Rattle.coap_layer.specs.declared.setup.Setup.{Setup}
use Rattle.coap_observe.specs.Observers.{Observer}
use Rattle.coap_resource.specs.Limits.{Limits}
use Rattle.coap_exchange.specs.declared.answerer.Asked.{Asked}
use Rattle.coap_exchange.specs.declared.answerer.Due.{Due}
use Rattle.coap_exchange.specs.declared.answerer.Due.TheVariants as due
use Rattle.coap_exchange.specs.declared.separate.Deferred.{Deferred}
use Rattle.coap_exchange.specs.AnswererFollows.{responds}
use Rattle.coap_exchange.specs.AnswererSteps as P
use Rattle.coap_exchange.specs.AnswererTrace as E
use Rattle.coap_server.specs.Trace.{Own, Handling, Silent, Serves, Notifies, Call, Ticks}
use Rattle.coap_server.specs.Asks.{responding}
use Rattle.coap_server.specs.Handling.{heard, ticking}
use Rattle.coap_server.specs.Notifying.{notification, readies, marked}
use Rattle.coap_server.specs.Law.{ServerLaw, own_of}
use Rattle.coap_server.specs.Follows.Attended.{CanAnswer, NoId}
use Rattle.coap_server_laws.specs.Follows.Begins.{IsFirst, CanNotify, NoneToAnswer, NoneToNotify, NoneLeft, BeginsNext}
use Rattle.coap_server_laws.specs.Follows.Begins.{IsNextResponse, IsNextNotice, AllBeginNext, FirstIsNotified}
use Rattle.coap_server.specs.Follows.Observes.{Notice, notice}
use Rattle.coap_server_laws.proofs.Answering.TickTurns.{due_is, was_idle, response_next, notice_next, nothing_left}
use Rattle.coap_server_laws.proofs.Answering.TickTurns.{ready_first}
use Rattle.coap_server_laws.proofs.Answering.WhatCanGo.{first_never, first_one}
use Rattle.coap_server.proofs.Facts.Observing.Outcomes.{Turned, turned, copied, expired, lost, responded, rests}
use Rattle.coap_server.proofs.Facts.Observing.Outcomes.{noticed}
use Rattle.coap_server.proofs.Facts.Serving.Brought.{server_back}
use Rattle.coap_server.specs.Plain.{by_plain}
use Rattle.coap_server.proofs.Facts.Calls.NotifiesBy.{in_either}

-- which observers could be notified: no response
pub none_responds : (a : Asked) (at passed : ℕ) (os : List Observer)
    → Ever (λ b. responds b ≡ Some a) (readies at passed os) → ⊥
none_responds a at passed [] h = h
none_responds a at zero (o ∷ os) (inl h) = cc h
none_responds a at zero (o ∷ os) (inr h) = h
none_responds a at (suc passed) (o ∷ os) h =
    ⊎_elim (none_responds a at passed os) (λ k. ⊎_elim (λ e. cc e) (λ e. e) k)
    (Ever_append (λ b. responds b ≡ Some a) (readies at passed os) (E.Ready at o.to false ∷ []) h)

-- behind an idle layer nothing is sent again, and nothing fails
not_again : (o : Option Deferred) (room : Bool) → (due.Copied ≡ P.due_if o room → ⊥) × (due.Expired ≡ P.due_if o room
    → ⊥)
not_again None room = ((λ z. cc z), (λ z. cc z))
not_again (Some d) true = ((λ z. cc z), (λ z. cc z))
not_again (Some d) false = ((λ z. cc z), (λ z. cc z))

module _ (limits : Limits) (szx : ℕ) (setup : Setup) (t : List Call) (now w : ℕ) where
  abbrev own : Own
  own = own_of limits szx t

  abbrev call : L.Answer → Bool → Due → ℕ → Handling → ℕ → Bool → Call
  call below room d passed h id answer = Ticks now w below room d passed h id answer

  -- a tick that does nothing
  abbrev Left : Type 0
  Left = NoId limits szx setup t now ⊎ (NoneToAnswer limits szx setup t now × NoneToNotify limits szx setup t)

  none_here : (below : L.Answer) (room : Bool) (d : Due) (passed : ℕ) (h : Handling) (id : ℕ)
      → ServerLaw limits szx setup (call below room d passed h id false ∷ t) → Left
  none_here below room due.Idle passed Silent id law =
      let idle = was_idle limits szx setup t now w below room due.Idle passed Silent id false law refl in
      nothing_left limits szx setup t now w room passed id false
      (subst (λ u. ServerLaw limits szx setup (call u room due.Idle passed Silent id false ∷ t)) idle law)
  none_here below room _ passed _ id law = let e = law.rows.0.1 in absurd (cc e)

  -- a response
  no_other : (a : Asked) (c : E.Call) (xs : List E.Call) → responds c ≡ None
      → Ever (λ b. responds b ≡ Some a) (xs ++ c ∷ []) → Ever (λ b. responds b ≡ Some a) xs
  no_other a c xs none h = elim (Ever_append (λ b. responds b ≡ Some a) xs (c ∷ []) h) [
    | inl k ↦ k
    | inr k ↦ elim k [ inl e ↦ absurd (let z : None ≡ Some a = sym none ∙ e in cc z) | inr e ↦ absurd e ]
  ]

  idle_responds : (below : L.Answer) (room : Bool) (passed : ℕ) (a : Asked)
      → Ever (λ b. responds b ≡ Some a) (readies (heard own now (ticking own now below room due.Idle)).clock passed
      (marked (heard own now (ticking own now below room due.Idle)).observers)) → ⊥
  idle_responds below room passed a k =
      let s : Own = heard own now (ticking own now below room due.Idle) in
      none_responds a s.clock passed (marked s.observers) k

  responds_next : (below : L.Answer) (room : Bool) (d : Due) (passed : ℕ) (h : Handling) (id : ℕ) (answer : Bool)
      (a : Asked)
      → ServerLaw limits szx setup (call below room d passed h id answer ∷ t)
      → Ever (λ b. responds b ≡ Some a) (responding (heard own now (ticking own now below room d)) d passed h w id)
      → IsNextResponse limits szx setup t (call below room d passed h id answer) now a
  responds_next below room (due.Ready b) passed (Serves q reply left) id answer a law (inl e) =
      let same : b ≡ a = cc e in
      subst (λ x. IsNextResponse limits szx setup t
      (call below room (due.Ready b) passed (Serves q reply left) id answer)
      now x) same (response_next limits szx setup t now w room b passed q reply left id answer below law)
  responds_next below room (due.Ready b) passed (Serves q reply left) id answer a law (inr e) = absurd e
  responds_next below room due.Idle passed (Notifies o reply) id answer a law (inl e) =
      let s : Own = heard own now (ticking own now below room due.Idle) in
      let none = in_either (λ c. responds c ≡ None) (by_plain s o) s.clock o (notification s.store o reply) w id refl
      refl
      in let z : None ≡ Some a = sym none ∙ e in absurd (cc z)
  responds_next below room due.Idle passed (Notifies o reply) id answer a law (inr k) =
      absurd (idle_responds below room passed a k)
  responds_next below room due.Idle passed _ id answer a law k = absurd (idle_responds below room passed a k)
  responds_next below room _ passed _ id answer a law k = absurd k

  -- a notification
  notifies_next : (below : L.Answer) (room : Bool) (d : Due) (passed : ℕ) (o : Observer) (reply : _) (id : ℕ)
      (answer : Bool)
      → ServerLaw limits szx setup (call below room d passed (Notifies o reply) id answer ∷ t)
      → IsNextNotice limits szx setup t now o
  notifies_next below room d passed o reply id answer law =
      by d (turned (heard own now (ticking own now below room d)) passed d (Notifies o reply) law.rows.0.0) law
    where
      by : (d : Due) → Turned (heard own now (ticking own now below room d)) passed d (Notifies o reply)
          → ServerLaw limits szx setup (call below room d passed (Notifies o reply) id answer ∷ t)
          → IsNextNotice limits szx setup t now o
      by d (noticed _ _ found is) law =
          let idle = was_idle limits szx setup t now w below room due.Idle passed
          (Notifies o reply) id answer law refl in
          notice_next limits szx setup t now w room passed o reply id answer
          (subst (λ u. ServerLaw limits szx setup (call u room due.Idle passed (Notifies o reply) id answer ∷ t)) idle
          law)

  begins_here : (below : L.Answer) (room : Bool) (d : Due) (passed : ℕ) (h : Handling) (id : ℕ) (answer : Bool)
      → ServerLaw limits szx setup (call below room d passed h id answer ∷ t)
      → BeginsNext limits szx setup t (call below room d passed h id answer) now
  begins_here below room d passed h id answer law =
      record {
        responds = λ a k. responds_next below room d passed h id answer a law
            (no_other a (ticking own now below room d)
            (responding (heard own now (ticking own now below room d)) d passed h w id) refl k);
        notifies = by h law;
      }
    where
      by : (h : Handling) → ServerLaw limits szx setup (call below room d passed h id answer ∷ t) → (x : Notice)
          → notice (call below room d passed h id answer) ≡ Some x → IsNextNotice limits szx setup t now x.observer
      by (Notifies o reply) law x e =
          let same : ◌≡◌ {A = Notice} (record { observer = o; reply = reply }) x = cc e in
          subst (λ (y : Notice). IsNextNotice limits szx setup t now y.observer) same
          (notifies_next below room d passed o reply id answer law)
      by _ law x e = absurd (cc e)

  -- the first that can be notified
  module _ (o : Observer) (none : NoneToAnswer limits szx setup t now)
      (first : IsFirst (CanNotify limits szx setup t) o own.observers) where
    abbrev Goal : Call → Type 0
    Goal c = ((x : Notice) × (notice c ≡ Some x) × (x.observer ≡ o)) ⊎ NoId limits szx setup t now

    served_no : (room : Bool) (a : Asked) (passed : ℕ) (h : Handling) (id : ℕ) (answer : Bool)
        → ServerLaw limits szx setup (call L.Idle room (due.Ready a) passed h id answer ∷ t) → ⊥
    served_no room a passed h id answer law =
        first_never (CanAnswer limits szx setup t now) _ own.waiting
        (ready_first limits szx setup t now w room a passed h id answer law).first none

    notified : (room : Bool) (d : Due) (passed : ℕ) (h : Handling) (id : ℕ) (answer : Bool)
        → Turned (heard own now (ticking own now L.Idle room d)) passed d h
        → ServerLaw limits szx setup (call L.Idle room d passed h id answer ∷ t)
        → Goal (call L.Idle room d passed h id answer)
    notified room d passed h id answer (responded a q reply left asks k) law =
        absurd (served_no room a passed (Serves q reply left) id answer law)
    notified room d passed h id answer (lost a unfound) law = absurd (served_no room a passed Silent id answer law)
    notified room d passed h id answer copied law =
        absurd ((not_again _ room).0
        (due_is limits szx setup t now w L.Idle room due.Copied passed Silent id answer law))
    notified room d passed h id answer expired law =
        absurd ((not_again _ room).1
        (due_is limits szx setup t now w L.Idle room due.Expired passed Silent id answer law))
    notified room d passed h id answer (rests unfound) law =
        elim (nothing_left limits szx setup t now w room passed id answer law) [
          | inl held ↦ inr held
          | inr none ↦ absurd (first_never (CanNotify limits szx setup t) o own.observers first none.1)
        ]
    notified room d passed h id answer (noticed x reply found is) law =
        let k = notice_next limits szx setup t now w room passed x reply id answer law in
        inl (
          record { observer = x; reply = reply },
          refl,
          first_one (CanNotify limits szx setup t) x o own.observers k.first first,
        )

module _ (limits : Limits) (szx : ℕ) (setup : Setup) where
  pub none_left : (t : List Call) → ServerLaw limits szx setup t → NoneLeft limits szx setup t
  none_left [] law = tt
  none_left (c ∷ t) law = (
    (λ now k. none_here limits szx setup t now k.0 k.1 k.2 k.3 k.4 k.5 k.6
        (subst (λ b. ServerLaw limits szx setup (b ∷ t)) k.7 law)),
    none_left t (server_back limits szx setup c t law),
  )

  pub all_begin_next : (t : List Call) → ServerLaw limits szx setup t → AllBeginNext limits szx setup t
  all_begin_next [] law = tt
  all_begin_next (c ∷ t) law = (
    (λ now answer k. subst (λ b. BeginsNext limits szx setup t b now) (sym k.7)
        (begins_here limits szx setup t now k.0 k.1 k.2 k.3 k.4 k.5 k.6 answer
        (subst (λ b. ServerLaw limits szx setup (b ∷ t)) k.7 law))),
    all_begin_next t (server_back limits szx setup c t law),
  )

  by : (t : List Call) (now w : ℕ) (o : Observer) → NoneToAnswer limits szx setup t now
      → IsFirst (CanNotify limits szx setup t) o (own_of limits szx t).observers → (room : Bool) (d : Due) (passed : ℕ)
      (h : Handling) (id : ℕ) (answer : Bool)
      → ServerLaw limits szx setup (Ticks now w L.Idle room d passed h id answer ∷ t)
      → ((x : Notice) × (notice (Ticks now w L.Idle room d passed h id answer) ≡ Some x) × (x.observer ≡ o))
      ⊎ NoId limits szx setup t now
  by t now w o none first room d passed h id answer law =
      let s : Own = own_of limits szx t in
      notified limits szx setup t now w o none first room d passed h id answer
      (turned (heard s now (ticking s now L.Idle room d)) passed d h law.rows.0.0) law

  pub first_is_notified : (t : List Call) → ServerLaw limits szx setup t → FirstIsNotified limits szx setup t
  first_is_notified [] law = tt
  first_is_notified (c ∷ t) law = (
    (λ now w room d passed h id answer o is none first.
        subst (λ b. ((x : Notice) × (notice b ≡ Some x) × (x.observer ≡ o)) ⊎ NoId limits szx setup t now) (sym is)
        (by t now w o none first room d passed h id answer
        (subst (λ b. ServerLaw limits szx setup (b ∷ t)) is law))),
    first_is_notified t (server_back limits szx setup c t law),
  )
