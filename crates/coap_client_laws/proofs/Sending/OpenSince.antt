-- An exchange is open exactly where one runs beneath, and it ends without an answer in time.
use Rattle.std.proofs.Common.{◌≡◌, inl, inr, ℕ, max, Bool, true, false, cond, Option, Some, None, List, [], ◌∷◌, ◌++◌}
use Rattle.std.proofs.Common.{refl, ap, sym, subst, ◌∙◌, arith, Result, Ok, Err}
use Rattle.std.proofs.lemmas.List.{append_assoc}
use Rattle.coap_types.specs.declared.endpoint.Endpoint.{Endpoint}
use Rattle.coap_layer.specs.Trace as L
use Rattle.coap_layer.specs.declared.setup.Setup.{Setup}
use Rattle.coap_block.specs.Sizes.{Sizes}
use Rattle.coap_exchange.specs.declared.asker.AskRefusal.{AskRefusal}
use Rattle.coap_exchange.specs.declared.asker.Event.{Event}
use Rattle.coap_exchange.specs.declared.asker.Event.TheVariants as event_of
use Rattle.coap_exchange.specs.declared.asker.Exchange.{Exchange}
use Rattle.coap_exchange.specs.declared.asker.Turn.{Turn}
use Rattle.coap_exchange.specs.declared.asker.Turn.TheVariants as turn_is
use Rattle.coap_exchange.specs.AskerTrace as E
use Rattle.coap_exchange.specs.AskerFollows as A
use Rattle.coap_exchange.specs.AskerSteps as P
use Rattle.coap_exchange.specs.AskerLaw as X
use Rattle.coap_exchange.proofs.Facts.Moves as move
use Rattle.coap_client.specs.Trace.{Call, Calls, Observes, Cancels, Forgets, Feeds, Ticks, NextOut, NextReport, Asked}
use Rattle.coap_client.specs.Own.{Operation, Own}
use Rattle.coap_client.specs.Observations.{observation_of}
use Rattle.coap_client.specs.Observing.{releases}
use Rattle.coap_client.specs.Requests.{message_of}
use Rattle.coap_client.specs.Effects.{Deed, Rests, Asks, Effect, has_sent}
use Rattle.coap_client.specs.Events.{happened, passes, closed}
use Rattle.coap_client.specs.Deeds.{at, close, deeds, done_for}
use Rattle.coap_client.specs.Steps.{lower}
use Rattle.coap_client.specs.Law.{ClientLaw, own_of, lower_of}
use Rattle.coap_client_laws.specs.Follows.Clock.{moment_of}
use Rattle.coap_client_laws.specs.Follows.Ends.{ends_as}
use Rattle.coap_client_laws.specs.Follows.Open.{IsOpenSince, RunsSince, OpenRuns}
use Rattle.coap_client.specs.Sendings.{Sending, sends, sent_by, hears}
use Rattle.coap_client.proofs.Facts.Places.Once.{law_back, law_front, done_right, beneath}
use Rattle.coap_client.proofs.Facts.Places.PlaceDeeds.{AreRight, are_right_back}
use Rattle.coap_client_laws.proofs.Reporting.ExchangeEnds.{ended_by, ByTime}
use Rattle.coap_client_laws.proofs.Rest.Resting.{clocks}
use Rattle.coap_client_laws.proofs.Sending.LastCancels.{exchange_cancels, failed_quiet}
use Rattle.coap_client_laws.proofs.Sending.OpenBeneath.{running_in, open_at, IsOpened, opened}
use Rattle.coap_client_laws.proofs.Sending.SentFor.{sent_for}
use Rattle.coap_client_laws.proofs.Uploading.FirstBlocks.{sent_of}
use Rattle.coap_client.proofs.Facts.Turning.Moves.{releases_none}

module _ (server : Endpoint) (setup : Setup) where
  -- what asks for no request leaves what is open
  quiet_open : (d : Deed) (o : Own) (m w : ℕ) (sent : L.Answer) (token : Result (List ℕ) AskRefusal) (kept : Bool)
      (past : List E.Call) → ((op : Operation) → d ≡ Asks op → ⊥)
      → open_at server setup (deeds d o m w sent token kept ++ past) ≡ open_at server setup past
  quiet_open (Asks op) o m w sent token kept past f = absurd (f op refl)
  quiet_open _ o m w sent token kept past f = refl

  module _ (e : Effect) (m w : ℕ) (sent : L.Answer) (kept : Bool) (input : E.Call) (past : List E.Call) where
    abbrev opened_by : Option Sending → Option ℕ
    opened_by (Some x) = Some (A.moment server setup (input ∷ past) m)
    opened_by None = open_at server setup (input ∷ past)

    abbrev behind : Deed → Result (List ℕ) AskRefusal → List E.Call
    behind d token = (deeds (closed m e d token).deed (closed m e d token).own m w sent token kept
        ++ (deeds d e.own m w sent token kept ++ input ∷ [])) ++ past

    done_open : (d : Deed) (token : Result (List ℕ) AskRefusal) → e.deed ≡ d
        → open_at server setup (behind d token) ≡ opened_by (sent_by e d token)
    done_open Rests token is =
        ap (open_at server setup) (append_assoc (deeds e.deed e.own m w sent token kept) (input ∷ []) past)
        ∙ quiet_open e.deed e.own m w sent token kept (input ∷ past) (λ op h. cc (h, is))
    done_open (Asks op) (Err why) is =
        let c : Effect = closed m e (Asks op) (Err why) in
        let own : List E.Call = deeds (Asks op) e.own m w sent (Err why) kept ++ input ∷ [] in
        ap (open_at server setup) (append_assoc (deeds c.deed c.own m w sent (Err why) kept) own past)
        ∙ quiet_open c.deed c.own m w sent (Err why) kept (own ++ past) (failed_quiet has_sent e.own (Some op))
    done_open _ _ is = refl

-- what a call does to the exchange that is open
pub record Turns (server : Endpoint) (sizes : Sizes) (setup : Setup) (t : List Call) (c : Call) : Type 0 where
  pub begins : (x : Sending) → sends (own_of sizes t) c ≡ Some x
      → (open_at server setup (lower_of sizes (c ∷ t)) ≡ Some (moment_of (own_of sizes t) c))
      × (hears c ≡ None → ends_as c ≡ None → running_in server setup (lower_of sizes t) ≡ None)
  pub goes_on : sends (own_of sizes t) c ≡ None → hears c ≡ None → ends_as c ≡ None
      → open_at server setup (lower_of sizes (c ∷ t)) ≡ open_at server setup (lower_of sizes t)
  pub is_over : sends (own_of sizes t) c ≡ None → (hears c ≡ None → ends_as c ≡ None → ⊥)
      → open_at server setup (lower_of sizes (c ∷ t)) ≡ None

module _ (server : Endpoint) (sizes : Sizes) (setup : Setup) where
  -- a call that neither sends, hears nor ends
  plainly : (t : List Call) (c : Call) → sends (own_of sizes t) c ≡ None → hears c ≡ None → ends_as c ≡ None
      → open_at server setup (lower_of sizes (c ∷ t)) ≡ open_at server setup (lower_of sizes t)
      → Turns server sizes setup t c
  plainly t c none unheard goes same = record {
    begins = λ x h. let k : None ≡ Some x = sym none ∙ h in absurd (cc k);
    goes_on = λ n h e. same;
    is_over = λ n f. absurd (f unheard goes);
  }

  module _ (t : List Call) (c : Call) (m w : ℕ) (sent : L.Answer) (token : Result (List ℕ) AskRefusal) (kept : Bool)
      (e : Effect) (input : E.Call) (lower_is : lower (own_of sizes t) c ≡ done_for e m w sent token kept input)
      (sends_is : sends (own_of sizes t) c ≡ sent_by e e.deed token) (moment_is : moment_of (own_of sizes t) c ≡ m)
      (input_moment : A.moment server setup (input ∷ lower_of sizes t) m ≡ m) (unbegun : A.begun input ≡ None)
      (input_open : open_at server setup (input ∷ lower_of sizes t)
      ≡ cond (A.ends input) None (open_at server setup (lower_of sizes t)))
      (off : hears c ≡ None → ends_as c ≡ None → A.ends input ≡ false)
      (on : A.ends input ≡ false → (hears c ≡ None) × (ends_as c ≡ None))
      (law : X.AskerLaw server setup (done_for e m w sent token kept input ++ lower_of sizes t)) where
    next : open_at server setup (lower_of sizes (c ∷ t))
        ≡ opened_by server setup e m w sent kept input (lower_of sizes t) (sends (own_of sizes t) c)
    next = ap (λ (l : List E.Call). open_at server setup (l ++ lower_of sizes t)) lower_is
        ∙ (done_open server setup e m w sent kept input (lower_of sizes t) e.deed token refl
        ∙ ap (opened_by server setup e m w sent kept input (lower_of sizes t)) (sym sends_is))

    later : List E.Call
    later = deeds (close m e token).deed (close m e token).own m w sent token kept

    abbrev mid : E.Own
    mid = P.after (beneath server sizes setup t) input

    right : P.IsRight (beneath server sizes setup t) input
        × AreRight mid (deeds (close m e token).deed (close m e token).own m w sent token kept
        ++ deeds e.deed e.own m w sent token kept)
    right = done_right (beneath server sizes setup t)
        (deeds (close m e token).deed (close m e token).own m w sent token kept)
        (deeds e.deed e.own m w sent token kept) input
        (law_front server setup (done_for e m w sent token kept input) (lower_of sizes t) law)

    none_mid : (op : Operation) (key : List ℕ) → e.deed ≡ Asks op → token ≡ Ok key → mid.running ≡ None
    none_mid op key is given =
        let asks : AreRight mid (deeds (Asks op) e.own m w sent token kept) =
        subst (λ d. AreRight mid (deeds d e.own m w sent token kept)) is
        (are_right_back mid (deeds (close m e token).deed (close m e token).own m w sent token kept)
        (deeds e.deed e.own m w sent token kept) right.1) in
        by (move.ask_row mid (message_of e.own.observations op) sent token asks.0)
      where
        by : move.AskRow mid (message_of e.own.observations op) sent token → mid.running ≡ None
        by (move.refused why is_so none) = let k : Ok key ≡ Err why = sym given ∙ is_so in absurd (cc k)
        by (move.sent id is_so some opens sent_id) = move.not_running mid (message_of e.own.observations op) opens

    none_before : A.ends input ≡ false → mid.running ≡ None → running_in server setup (lower_of sizes t) ≡ None
    none_before goes none = by (move.moves (beneath server sizes setup t) input right.0)
      where
        by : move.Moves (beneath server sizes setup t).running mid.running input
            → running_in server setup (lower_of sizes t) ≡ None
        by (move.starts x b e a before now) = before
        by (move.stops x b e a before now) = let k : false ≡ true = sym goes ∙ e in absurd (cc k)
        by (move.keeps b e a same) = none_of (beneath server sizes setup t).running (sym same ∙ ap move.token_in none)
          where
            none_of : (o : Option Exchange) → move.token_in o ≡ None → o ≡ None
            none_of None h = refl
            none_of (Some x) h = absurd (cc h)

    not_false : (b : Bool) → (b ≡ false → ⊥) → b ≡ true
    not_false true f = refl
    not_false false f = absurd (f refl)

    input_turns : Turns server sizes setup t c
    input_turns = record {
      begins = λ x h. (
        next ∙ (ap (opened_by server setup e m w sent kept input (lower_of sizes t)) h
            ∙ ap (λ (n : ℕ). Some n) (input_moment ∙ sym moment_is)),
        λ unheard goes. (let s = sent_of e e.deed token x (sym sends_is ∙ h) in
            none_before (off unheard goes) (none_mid x.operation x.token s.asks s.given)),
      );
      goes_on = λ none unheard goes. next ∙ (ap (opened_by server setup e m w sent kept input (lower_of sizes t)) none
          ∙ (input_open ∙ ap (λ z. cond z None (open_at server setup (lower_of sizes t))) (off unheard goes)));
      is_over = λ none f. next ∙ (ap (opened_by server setup e m w sent kept input (lower_of sizes t)) none
          ∙ (input_open ∙ ap (λ z. cond z None (open_at server setup (lower_of sizes t)))
          (not_false (A.ends input) (λ z. let k = on z in f k.0 k.1))));
    }

  module _ (t : List Call) (now : ℕ) (from : Endpoint) (bytes : List ℕ) (w : ℕ) (up : L.Answer) (settled : Bool)
      (sent : L.Answer) (token : Result (List ℕ) AskRefusal) (kept : Bool) where
    abbrev feed : Option Event → Call
    feed event = Feeds now from bytes w up settled event sent token kept

    abbrev arrival : Option Event → E.Call
    arrival event = E.Receive (max (own_of sizes t).clock now) from bytes up settled event

    fed_off : (event : Option Event) → hears (feed event) ≡ None → ends_as (feed event) ≡ None
        → A.ends (arrival event) ≡ false
    fed_off (Some (event_of.Answer m)) h e = absurd (cc h)
    fed_off (Some event_of.Reset) h e = absurd (cc e)
    fed_off _ h e = refl

    fed_on : (event : Option Event) → A.ends (arrival event) ≡ false
        → (hears (feed event) ≡ None) × (ends_as (feed event) ≡ None)
    fed_on (Some (event_of.Answer m)) h = absurd (cc h)
    fed_on (Some event_of.Reset) h = absurd (cc h)
    fed_on _ h = (refl, refl)

  module _ (t : List Call) (now w : ℕ) (below : L.Answer) (sent : L.Answer) (token : Result (List ℕ) AskRefusal)
      (kept answer : Bool) where
    abbrev tick : Turn → Call
    tick turn = Ticks now w below turn sent token kept answer

    abbrev turning : Turn → E.Call
    turning turn = E.Ticks (max (own_of sizes t).clock now) below turn

    by_time : (e : Event) → ByTime e → ends_as (tick (turn_is.End e)) ≡ None → ⊥
    by_time e (inl is) h = let k = sym (ap (λ z. ends_as (tick (turn_is.End z))) is) ∙ h in cc k
    by_time e (inr is) h = let k = sym (ap (λ z. ends_as (tick (turn_is.End z))) is) ∙ h in cc k

    ticked_off : (turn : Turn) → P.IsRight (beneath server sizes setup t) (turning turn) → ends_as (tick turn) ≡ None
        → A.ends (turning turn) ≡ false
    ticked_off (turn_is.End x) so e =
        absurd (by_time x (ended_by (beneath server sizes setup t) _ below x so).by_time e)
    ticked_off _ so e = refl

    ticked_on : (turn : Turn) → A.ends (turning turn) ≡ false → ends_as (tick turn) ≡ None
    ticked_on (turn_is.End x) h = absurd (cc h)
    ticked_on _ h = refl

  turns : (t : List Call) (c : Call) → X.AskerLaw server setup (lower_of sizes (c ∷ t)) → Turns server sizes setup t c
  turns t (Calls now r answer) law = plainly t (Calls now r answer) refl refl refl refl
  turns t (Observes now path answer) law = plainly t (Observes now path answer) refl refl refl refl
  turns t (Cancels now number answer) law = plainly t (Cancels now number answer) refl refl refl refl
  turns t (Forgets number kept false) law = plainly t (Forgets number kept false) refl refl refl refl
  turns t (Forgets number kept true) law = plainly t (Forgets number kept true) refl refl refl
      (quiet_open server setup (releases (observation_of number (own_of sizes t).observations)) (own_of sizes t) 0 0
      L.Nothing (Ok []) kept (lower_of sizes t) (releases_none (observation_of number (own_of sizes t).observations)))
  turns t (NextOut answer) law = plainly t (NextOut answer) refl refl refl refl
  turns t (NextReport answer) law = plainly t (NextReport answer) refl refl refl refl
  turns t (Asked answer) law = plainly t (Asked answer) refl refl refl refl
  turns t (Feeds now from bytes w up settled event sent token kept) law =
      let m : ℕ = max (own_of sizes t).clock now in
      let k = clocks server sizes setup t in
      input_turns t (Feeds now from bytes w up settled event sent token kept) m w sent token kept
      (happened (at now (own_of sizes t)) m event) (E.Receive m from bytes up settled event) refl refl refl
      (omega (arith, k)) refl refl (fed_off t now from bytes w up settled sent token kept event)
      (fed_on t now from bytes w up settled sent token kept event) law
  turns t (Ticks now w below turn sent token kept answer) law =
      let m : ℕ = max (own_of sizes t).clock now in
      let k = clocks server sizes setup t in
      let e : Effect = passes (at now (own_of sizes t)) m turn in
      let right = done_right (beneath server sizes setup t) (deeds (close m e token).deed (close m e token).own m w sent
      token kept) (deeds e.deed e.own m w sent token kept) (E.Ticks m below turn)
      (law_front server setup (done_for e m w sent token kept (E.Ticks m below turn)) (lower_of sizes t) law) in
      input_turns t (Ticks now w below turn sent token kept answer) m w sent token kept e (E.Ticks m below turn) refl
      refl refl (omega (arith, k)) refl refl (λ h f. ticked_off t now w below sent token kept answer turn right.0 f)
      (λ h. (refl, ticked_on t now w below sent token kept answer turn h)) law

  -- what is open
  pub record Agrees (t : List Call) : Type 0 where
    pub since : (at : ℕ) → IsOpenSince sizes at t → open_at server setup (lower_of sizes t) ≡ Some at
    pub till : (at : ℕ) → open_at server setup (lower_of sizes t) ≡ Some at → IsOpenSince sizes at t

  none_open : (past : List E.Call) → X.AskerLaw server setup past → running_in server setup past ≡ None
      → open_at server setup past ≡ None
  none_open past law none = elim (opened server setup past law) [
    | inl o ↦ o.1
    | inr o ↦ (let k : None ≡ Some o.exchange = sym none ∙ o.runs in absurd (cc k))
  ]

  module _ (t : List Call) (c : Call) (under : X.AskerLaw server setup (lower_of sizes t))
      (h : Turns server sizes setup t c) (before : Agrees t) where
    since_next : (o : Option Sending) → sends (own_of sizes t) c ≡ o → (at : ℕ) → IsOpenSince sizes at (c ∷ t)
        → open_at server setup (lower_of sizes (c ∷ t)) ≡ Some at
    since_next (Some x) is at (inl b) = (h.begins x is).0 ∙ ap (λ (n : ℕ). Some n) b.moment
    since_next (Some x) is at (inr o) =
        let none = none_open (lower_of sizes t) under ((h.begins x is).1 o.0 o.1) in
        let k : None ≡ Some at = sym none ∙ before.since at o.2 in
        absurd (cc k)
    since_next None is at (inl b) = let k : None ≡ Some b.sending = sym is ∙ b.sends_it in absurd (cc k)
    since_next None is at (inr o) = h.goes_on is o.0 o.1 ∙ before.since at o.2

    till_next : (o : Option Sending) → sends (own_of sizes t) c ≡ o → (a : Option _) → hears c ≡ a → (r : Option _)
        → ends_as c ≡ r → (at : ℕ) → open_at server setup (lower_of sizes (c ∷ t)) ≡ Some at
        → IsOpenSince sizes at (c ∷ t)
    till_next (Some x) is a heard r ended at opened_at =
        let same : Some (moment_of (own_of sizes t) c) ≡ Some at = sym (h.begins x is).0 ∙ opened_at in
        inl (record { sending = x; sends_it = is; moment = cc same })
    till_next None is None heard None ended at opened_at =
        inr (heard, ended, before.till at (sym (h.goes_on is heard ended) ∙ opened_at))
    till_next None is (Some m) heard r ended at opened_at =
        let k = sym (h.is_over is (λ i j. cc (i, heard))) ∙ opened_at in absurd (cc k)
    till_next None is None heard (Some e) ended at opened_at =
        let k = sym (h.is_over is (λ i j. cc (j, ended))) ∙ opened_at in absurd (cc k)

    agrees_next : Agrees (c ∷ t)
    agrees_next = record {
      since = since_next (sends (own_of sizes t) c) refl;
      till = till_next (sends (own_of sizes t) c) refl (hears c) refl (ends_as c) refl;
    }

  pub agrees : (t : List Call) → X.AskerLaw server setup (lower_of sizes t) → Agrees t
  agrees [] law = record { since = λ at h. absurd h; till = λ at h. cc h }
  agrees (c ∷ t) law =
      let under = law_back server setup (lower (own_of sizes t) c) (lower_of sizes t) law in
      agrees_next t c under (turns t c law) (agrees t under)

  module _ (t : List Call) (law : ClientLaw server sizes setup t) where
    runs_since : (at : ℕ) → open_at server setup (lower_of sizes t) ≡ Some at → IsOpened server setup (lower_of sizes t)
        → RunsSince server sizes setup at t
    runs_since at opened_at o =
        let s = sent_for sizes server setup t law.rows law.exchanges.rows o.exchange o.runs in
        let same : Some o.begun.at ≡ Some at = sym o.at ∙ opened_at in
        record {
          exchange = o.exchange;
          runs = o.runs;
          begun = o.begun;
          last_begun = o.last;
          moment = cc same;
          operation = s.operation;
          operates = s.runs;
          sending = s.sending;
          last_sent = s.last;
          sent_for = s.is_for;
          token = s.token;
          cancel = exchange_cancels server sizes setup t law.exchanges.rows o.exchange o.runs s.sending s.last;
        }

    pub open_runs : OpenRuns server sizes setup t
    open_runs =
        let k = agrees t law.exchanges.rows in
        let o = opened server setup (lower_of sizes t) law.exchanges.rows in
        record {
          runs = λ at is. elim o [
            | inl n ↦ (let b : None ≡ Some at = sym n.1 ∙ k.since at is in absurd (cc b))
            | inr x ↦ runs_since at (k.since at is) x
          ];
          is_open = λ x runs. elim o [
            | inl n ↦ (let b : None ≡ Some x = sym n.0 ∙ runs in absurd (cc b))
            | inr y ↦ (y.begun.at, k.till y.begun.at y.at, runs_since y.begun.at y.at y)
          ];
        }
