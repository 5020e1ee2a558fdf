-- A CON that a server begins in a call carries the response to what it answers in that call, or a notification.
use Rattle.std.proofs.Common.{◌≡◌, ◌⊎◌, inl, inr, ⊎_elim, ℕ, zero, suc, Bool, true, false, Option, Some, None, List, []}
use Rattle.std.proofs.Common.{◌∷◌, ◌++◌, refl, ap, sym, ◌∙◌}
use Rattle.coap_types.specs.Past.{Ever}
use Rattle.coap_types.proofs.Facts.Traces.{Ever_append, Ever_front}
use Rattle.coap_types.specs.declared.endpoint.Endpoint.{Endpoint}
use Rattle.coap_codec.specs.Message.{Message}
use Rattle.coap_layer.specs.Machine.State.{start}
use Rattle.coap_layer.specs.Machine.Steps.{left_after}
use Rattle.coap_layer.specs.Trace as L
use Rattle.coap_layer.specs.Words.{Open, begun}
use Rattle.coap_layer.specs.declared.setup.Setup.{Setup}
use Rattle.coap_resource.specs.Limits.{Limits}
use Rattle.coap_observe.specs.Observers.{Observer}
use Rattle.coap_exchange.specs.AnswererLaw as answerer
use Rattle.coap_exchange.specs.AnswererFollows.{responds}
use Rattle.coap_exchange.specs.AnswererSteps as P
use Rattle.coap_exchange.specs.AnswererTrace as R
use Rattle.coap_exchange.specs.declared.answerer.Asked.{Asked}
use Rattle.coap_exchange.specs.declared.answerer.Due.{Due}
use Rattle.coap_exchange.specs.declared.answerer.Due.TheVariants as due
use Rattle.coap_exchange.specs.Adds.{asked_by_server}
use Rattle.coap_server.specs.Asks.{answering, lower, notifies_by, responding}
use Rattle.coap_server.specs.Deferring.{deferral_by}
use Rattle.coap_server_laws.specs.Follows.Adds.{all_asked, call_asks, call_adds}
use Rattle.coap_server.specs.Follows.Observes.{Notice, notice}
use Rattle.coap_server.specs.Follows.Rests.{IsTick}
use Rattle.coap_server.specs.Handling.{heard, incoming, ticking}
use Rattle.coap_server.specs.Refusing.{refusing}
use Rattle.coap_server.specs.Law.{own_of, lower_of}
use Rattle.coap_server.specs.Notifying.{marked, notification, readies}
use Rattle.coap_server.specs.Plain.{by_plain}
use Rattle.coap_server.specs.Trace as S
use Rattle.coap_promise.proofs.Facts.Delivery.EntriesInTime.{Every, every_join, every_map}
use Rattle.coap_smooth.proofs.Smoothly.Answers.Confirms.{IsAskedSo, IsEntrySo, SendsSo, sends_so, entries_so, begun_so}

-- to whom a call of the exchanges sends a CON, and a NON

abbrev pub confirms_to : R.Call → Option Endpoint
confirms_to (R.Responds now a r word id) = Some a.from
confirms_to (R.Notifies now to token r word id) = Some to
confirms_to c = None

abbrev pub plain_to : R.Call → Option Endpoint
plain_to (R.Answers a r below) = Some a.from
plain_to (R.NotifiesPlain now to token r id) = Some to
plain_to c = None

abbrev pub Confirms : List R.Call → Endpoint → L.Content → Type 0
Confirms calls to content = Ever (λ b. confirms_to b ≡ Some to) calls

abbrev pub Plain : List R.Call → Endpoint → L.Content → Type 0
Plain calls to content = Ever (λ b. plain_to b ≡ Some to) calls

itself : (b : R.Call) (later : List R.Call) → SendsSo (Confirms (b ∷ later)) (Plain (b ∷ later)) b
itself (R.Responds now a r word id) later = inl refl
itself (R.Notifies now to token r word id) later = inl refl
itself (R.Answers a r below) later = inl refl
itself (R.NotifiesPlain now to token r id) later = inl refl
itself _ later = tt

all_send : (past later : List R.Call) → Every (IsAskedSo (Confirms later) (Plain later)) (asked_by_server past later)
all_send past [] = tt
all_send past (b ∷ later) =
    every_join (IsAskedSo (Confirms (b ∷ later)) (Plain (b ∷ later))) (P.lower (answerer.own_of (later ++ past)) b)
    (asked_by_server past later)
    (sends_so (Confirms (b ∷ later)) (Plain (b ∷ later)) (answerer.own_of (later ++ past)) b (itself b later))
    (every_map (IsAskedSo (Confirms later) (Plain later)) (IsAskedSo (Confirms (b ∷ later)) (Plain (b ∷ later)))
    (λ y h. record {
      confirms = λ to content word is. inr (h.confirms to content word is);
      plain = λ to content is. inr (h.plain to content is);
    })
    (asked_by_server past later) (all_send past later))

-- by which calls of a server

pub record RespondsTo (s : S.Own) (c : S.Call) (to : Endpoint) : Type 0 where
  pub now : ℕ
  pub answer : Bool
  pub tick : IsTick now answer c
  pub asked : Asked
  pub answers : Ever (λ b. responds b ≡ Some asked) (lower s c)
  pub from : asked.from ≡ to

pub record NotifiesTo (c : S.Call) (to : Endpoint) : Type 0 where
  pub now : ℕ
  pub answer : Bool
  pub tick : IsTick now answer c
  pub notice_of : Notice
  pub here : notice c ≡ Some notice_of
  pub there : notice_of.observer.to ≡ to

module _ (to : Endpoint) where
  abbrev Here : List R.Call → Type 0
  Here calls = Ever (λ b. confirms_to b ≡ Some to) calls

  none_deferred : (d : Option ℕ) (place : Bool) (at : ℕ) (a : Asked) → Here (deferral_by d place at a) → ⊥
  none_deferred None place at a h = h
  none_deferred (Some delay) place at a (inl h) = cc h
  none_deferred (Some delay) place at a (inr h) = h

  none_answering : (s : S.Own) (came : Option (Asked × Message)) (h : S.Handling) (below : L.Answer)
      → Here (answering s came h below) → ⊥
  none_answering s (Some p) (S.Replies r) below (inl k) = cc k
  none_answering s (Some p) (S.Replies r) below (inr k) = k
  none_answering s (Some p) (S.Serves q reply left) below (inl k) = cc k
  none_answering s (Some p) (S.Serves q reply left) below (inr k) = none_deferred _ _ _ p.0 k
  none_answering s (Some p) (S.Waits q delay) below k = none_deferred _ _ _ p.0 k
  none_answering s _ _ below k = k

  none_refusing : (a : Asked) (response : Option ℕ) (below : L.Answer) (call : R.Call) → confirms_to call ≡ None
      → Here (refusing a response below ++ call ∷ []) → ⊥
  none_refusing a None below call none (inl k) = let both : None ≡ Some to = sym none ∙ k in cc both
  none_refusing a None below call none (inr k) = k
  none_refusing a (Some code) below call none (inl k) = cc k
  none_refusing a (Some code) below call none (inr (inl k)) = let both : None ≡ Some to = sym none ∙ k in cc both
  none_refusing a (Some code) below call none (inr (inr k)) = k

  not_asked : (at : ℕ) (o : Observer) → Here (R.Ready at o.to false ∷ []) → ⊥
  not_asked at o (inl k) = cc k
  not_asked at o (inr k) = k

  none_ready : (at passed : ℕ) (os : List Observer) → Here (readies at passed os) → ⊥
  none_ready at passed [] h = h
  none_ready at zero (o ∷ os) (inl h) = cc h
  none_ready at zero (o ∷ os) (inr h) = h
  none_ready at (suc passed) (o ∷ os) h =
      ⊎_elim (λ k. none_ready at passed os k) (λ k. not_asked at o k)
      (Ever_append (λ b. confirms_to b ≡ Some to) (readies at passed os) (R.Ready at o.to false ∷ []) h)

  -- what a tick begins
  data Begins (s : S.Own) (d : Due) (passed : ℕ) (h : S.Handling) (word id : ℕ) : Type 0 where
    answers : (a : Asked) → Ever (λ b. responds b ≡ Some a) (responding s d passed h word id) → a.from ≡ to
        → Begins s d passed h word id
    tells : (o : Observer) (reply : _) → h ≡ S.Notifies o reply → o.to ≡ to → Begins s d passed h word id

  some_is : (x : Endpoint) → Some x ≡ Some to → x ≡ to
  some_is x h = cc h

  notice_to : (plain : Bool) (at : ℕ) (o : Observer) (r : R.Response) (word id : ℕ)
      → confirms_to (notifies_by plain at o r word id) ≡ Some to → o.to ≡ to
  notice_to true at o r word id h = absurd (cc h)
  notice_to false at o r word id h = some_is o.to h

  begins : (s : S.Own) (d : Due) (passed : ℕ) (h : S.Handling) (word id : ℕ) → Here (responding s d passed h word id)
      → Begins s d passed h word id
  begins s (due.Ready a) passed (S.Serves q reply left) word id (inl k) = answers a (inl refl) (some_is a.from k)
  begins s (due.Ready a) passed (S.Serves q reply left) word id (inr k) = absurd k
  begins s due.Idle passed (S.Notifies o reply) word id (inl k) = tells o reply refl
      (notice_to (by_plain s o) s.clock o (notification s.store o reply) word id k)
  begins s due.Idle passed (S.Notifies o reply) word id (inr k) = absurd
      (none_ready s.clock passed (marked s.observers) k)
  begins s due.Idle passed S.Silent word id k = absurd (none_ready s.clock passed (marked s.observers) k)
  begins s due.Idle passed (S.Replies r) word id k = absurd (none_ready s.clock passed (marked s.observers) k)
  begins s due.Idle passed (S.Serves q reply left) word id k =
      absurd (none_ready s.clock passed (marked s.observers) k)
  begins s due.Idle passed (S.Waits q delay) word id k = absurd (none_ready s.clock passed (marked s.observers) k)
  begins s _ passed _ word id k = absurd k

  begins_in : (s : S.Own) (c : S.Call) → Here (lower s c) → RespondsTo s c to ⊎ NotifiesTo c to
  begins_in s (S.Feeds now from bytes word up came h below) k =
      absurd (by (Ever_append (λ b. confirms_to b ≡ Some to)
      (answering (heard s now (incoming s now from bytes up came)) came h below)
      (incoming s now from bytes up came ∷ []) k))
    where
      by : Here (answering (heard s now (incoming s now from bytes up came)) came h below)
          ⊎ Here (incoming s now from bytes up came ∷ []) → ⊥
      by (inl z) = none_answering (heard s now (incoming s now from bytes up came)) came h below z
      by (inr (inl z)) = cc z
      by (inr (inr z)) = z
  begins_in s (S.Refuses now from bytes word code up p response below) k =
      absurd (none_refusing p.0 response below (incoming s now from bytes up (Some p)) refl k)
  begins_in s (S.Ticks now word below room d passed h id answer) k =
      by (Ever_append (λ b. confirms_to b ≡ Some to)
      (responding (heard s now (ticking s now below room d)) d passed h word id) (ticking s now below room d ∷ []) k)
    where
      so : Begins (heard s now (ticking s now below room d)) d passed h word id
          → RespondsTo s (S.Ticks now word below room d passed h id answer) to
          ⊎ NotifiesTo (S.Ticks now word below room d passed h id answer) to
      so (answers a there from) = inl (record {
        now = now;
        answer = answer;
        tick = (word, below, room, d, passed, h, id, refl);
        asked = a;
        answers = Ever_front (λ b. responds b ≡ Some a)
            (responding (heard s now (ticking s now below room d)) d passed h word id) (ticking s now below room d ∷ [])
            there;
        from = from;
      })
      so (tells o reply is there) = inr (record {
        now = now;
        answer = answer;
        tick = (word, below, room, d, passed, h, id, refl);
        notice_of = record { observer = o; reply = reply };
        here = ap (λ z. notice (S.Ticks now word below room d passed z id answer)) is;
        there = there;
      })

      by : Here (responding (heard s now (ticking s now below room d)) d passed h word id)
          ⊎ Here (ticking s now below room d ∷ [])
          → RespondsTo s (S.Ticks now word below room d passed h id answer) to
          ⊎ NotifiesTo (S.Ticks now word below room d passed h id answer) to
      by (inl z) = so (begins (heard s now (ticking s now below room d)) d passed h word id z)
      by (inr (inl z)) = absurd (cc z)
      by (inr (inr z)) = absurd z
  begins_in s (S.NextOut answer) (inl k) = absurd (cc k)
  begins_in s (S.NextOut answer) (inr k) = absurd k
  begins_in s (S.Forgets peer) (inl k) = absurd (cc k)
  begins_in s (S.Forgets peer) (inr k) = absurd k
  begins_in s _ k = absurd k

module _ (limits : Limits) (szx : ℕ) (setup : Setup) (t : List S.Call) (c : S.Call) where
  abbrev pub exchange_calls : List R.Call
  exchange_calls = lower (own_of limits szx t) c

  pub adds_so : Every (IsEntrySo (Confirms exchange_calls) (Plain exchange_calls)) (call_adds limits szx setup t c)
  adds_so = entries_so (Confirms exchange_calls) (Plain exchange_calls)
      (left_after (start setup) (all_asked limits szx t)) (call_asks limits szx t c)
      (all_send (lower_of limits szx t) exchange_calls)

  pub con_of : (con : Open) → Ever (λ b. begun b ≡ Some con) (call_adds limits szx setup t c)
      → RespondsTo (own_of limits szx t) c con.to ⊎ NotifiesTo c con.to
  con_of con h =
      let so = begun_so (Confirms exchange_calls) (Plain exchange_calls) (call_adds limits szx setup t c) con adds_so
      h in
      begins_in con.to (own_of limits szx t) c so.is_so
