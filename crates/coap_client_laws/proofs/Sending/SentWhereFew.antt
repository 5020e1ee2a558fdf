-- Where few exchanges end, each request is sent.
use Rattle.std.proofs.Common.{◌≡◌, inl, inr, ◌≤◌, ◌+◌, ℕ, max, Bool, true, false, Option, Some, None, List, []}
use Rattle.std.proofs.Common.{◌∷◌, ◌++◌, refl, ap, sym, subst, ◌∙◌, arith, Result, Ok, Err, cond, is_some, ◌&&◌, ◌||◌}
use Rattle.std.proofs.lemmas.List.{append_assoc}
use Rattle.coap_types.specs.Past.{Always}
use Rattle.coap_types.specs.declared.endpoint.Endpoint.{Endpoint}
use Rattle.coap_types.proofs.Facts.Traces.{Always_back}
use Rattle.coap_layer.specs.Taking.{is_then}
use Rattle.coap_layer.specs.Trace as L
use Rattle.coap_layer.specs.declared.setup.Setup.{Setup}
use Rattle.coap_block.specs.Sizes.{Sizes}
use Rattle.coap_exchange.specs.declared.asker.AskRefusal.{AskRefusal}
use Rattle.coap_exchange.specs.declared.asker.AskRefusal.TheVariants as refusal
use Rattle.coap_exchange.specs.declared.asker.Event.{Event}
use Rattle.coap_exchange.specs.declared.asker.Event.TheVariants as event_of
use Rattle.coap_exchange.specs.declared.asker.Turn.{Turn}
use Rattle.coap_exchange.specs.declared.asker.Turn.TheVariants as turn_is
use Rattle.coap_exchange.specs.AskerFollows.{ends}
use Rattle.coap_exchange.specs.AskerIds as ids
use Rattle.coap_exchange.specs.AskerLaw as X
use Rattle.coap_exchange.specs.AskerSteps as P
use Rattle.coap_exchange.specs.AskerTrace as E
use Rattle.coap_exchange.specs.Counts.{count_then}
use Rattle.coap_exchange.proofs.Facts.Verdicts.{TurnFits, turn_fits}
use Rattle.coap_client.specs.Deeds.{at, close, deeds, forgets}
use Rattle.coap_client.specs.Effects.{Deed, Rests, Asks, Effect}
use Rattle.coap_client.specs.Events.{happened, passes}
use Rattle.coap_client_laws.specs.Follows.Ends.{ends_as, Unsent, unsent, IsWant}
use Rattle.coap_client_laws.specs.Follows.Free as free
use Rattle.coap_client_laws.specs.Follows.Free.{is_over, is_answered, EndByAnswers, FewEnd, FewAnswered, AllAreSent}
use Rattle.coap_client_laws.specs.Follows.Free.{SentWhereFewEnd, SentWhereAnswered}
use Rattle.coap_client.specs.Sendings.{hears}
use Rattle.coap_client.specs.Law.{ClientLaw, own_of, lower_of}
use Rattle.coap_client.specs.Own.{Own}
use Rattle.coap_client.specs.Requests.{message_of}
use Rattle.coap_client.specs.Trace.{Report, Call, Forgets, Feeds, Ticks}
use Rattle.coap_client_laws.proofs.Facts.Laws.{clock_is}
use Rattle.coap_client_laws.proofs.Reporting.EffectReports.{unsent_asks}
use Rattle.coap_client_laws.proofs.Reporting.Ends.{all_ends}
use Rattle.coap_client_laws.proofs.Rest.Resting.{clocks}
use Rattle.coap_client_laws.proofs.Sending.EndsInTime.{at_input}
use Rattle.coap_client.proofs.Facts.Turning.Leading.{client_back}

-- what a deed asks for ends no exchange

abbrev Quiet : List E.Call → Type 0
Quiet l = Always (λ past x. ends x ≡ false) l

quiet_deeds : (d : Deed) (o : Own) (m w : ℕ) (sent : L.Answer) (token : Result (List ℕ) AskRefusal) (kept : Bool)
    → Quiet (deeds d o m w sent token kept)
quiet_deeds Rests o m w sent token kept = tt
quiet_deeds _ o m w sent token kept = (refl, tt)

module _ (clock : List E.Call → ℕ) (u : ℕ) where
  abbrev counted : List E.Call → ℕ
  counted l = count_then clock ends u l

  past_quiet : (l r : List E.Call) → Quiet l → counted (l ++ r) ≡ counted r
  past_quiet [] r quiet = refl
  past_quiet (x ∷ l) r quiet =
      ap (λ b. cond (b && is_then u (clock (x ∷ (l ++ r)))) (1 + counted (l ++ r)) (counted (l ++ r))) quiet.0
      ∙ past_quiet l r quiet.1

  past_deeds : (later first : List E.Call) (input : E.Call) (rest : List E.Call) → Quiet later → Quiet first
      → counted ((later ++ (first ++ input ∷ [])) ++ rest) ≡ counted (input ∷ rest)
  past_deeds later first input rest q p =
      ap counted (append_assoc later (first ++ input ∷ []) rest
      ∙ ap (λ l. later ++ l) (append_assoc first (input ∷ []) rest))
      ∙ (past_quiet later (first ++ input ∷ rest) q ∙ past_quiet first (input ∷ rest) p)

-- one that ends an exchange here, at the same moment
counts_alike : (a b p q : Bool) (m n : ℕ) → a ≡ b → p ≡ q → m ≤ n
    → cond (a && p) (1 + m) m ≤ cond (b && q) (1 + n) n
counts_alike true true true true m n e f le = omega (arith, le)
counts_alike true true false false m n e f le = le
counts_alike false false p q m n e f le = le
counts_alike true false p q m n e f le = absurd (cc e)
counts_alike false true p q m n e f le = absurd (cc e)
counts_alike true true true false m n e f le = absurd (cc f)
counts_alike true true false true m n e f le = absurd (cc f)

module _ (server : Endpoint) (sizes : Sizes) (setup : Setup) where
  -- the exchanges of a call end where it says so

  fed_ends : (now : ℕ) (from : Endpoint) (bytes : List ℕ) (w : ℕ) (up : L.Answer) (settled : Bool) (m : ℕ)
      (event : Option Event) (sent : L.Answer) (token : Result (List ℕ) AskRefusal) (kept : Bool)
      → ends (E.Receive m from bytes up settled event)
      ≡ is_over (Feeds now from bytes w up settled event sent token kept)
  fed_ends now from bytes w up settled m (Some (event_of.Answer x)) sent token kept = refl
  fed_ends now from bytes w up settled m _ sent token kept = refl

  tick_ends : (now w : ℕ) (below : L.Answer) (m : ℕ) (turn : Turn) (sent : L.Answer)
      (token : Result (List ℕ) AskRefusal) (kept answer : Bool) (s : E.Own) (at_m : ℕ) → TurnFits s at_m below turn
      → ends (E.Ticks m below turn) ≡ is_over (Ticks now w below turn sent token kept answer)
  tick_ends now w below m (turn_is.End event_of.Reset) sent token kept answer s at_m fits = absurd fits
  tick_ends now w below m (turn_is.End (event_of.Answer x)) sent token kept answer s at_m fits = absurd fits
  tick_ends now w below m (turn_is.End (event_of.Notice x)) sent token kept answer s at_m fits = absurd fits
  tick_ends now w below m _ sent token kept answer s at_m fits = refl

  abbrev beneath : List Call → E.Own
  beneath t = X.own_of server setup (lower_of sizes t)

  abbrev ended : ℕ → List E.Call → ℕ
  ended u l = count_then (ids.clock_of server setup) ends u l

  abbrev over : ℕ → List Call → ℕ
  over u t = count_then (free.clock_of sizes) is_over u t

  module _ (u : ℕ) (t : List Call) (less : ended u (lower_of sizes t) ≤ over u t) where
    -- at the input, which is at the call's moment
    by_input : (c : Call) (m : ℕ) (input : E.Call) → (P.after (beneath t) input).clock ≡ m
        → free.clock_of sizes (c ∷ t) ≡ m → ends input ≡ is_over c
        → ended u (input ∷ lower_of sizes t) ≤ over u (c ∷ t)
    by_input c m input here there same =
        counts_alike (ends input) (is_over c) _ _ _ _ same (ap (is_then u) (here ∙ sym there)) less

    next : (c : Call) → ClientLaw server sizes setup (c ∷ t)
        → ended u (lower_of sizes (c ∷ t)) ≤ over u (c ∷ t)
    next (Feeds now from bytes w up settled event sent token kept) law =
        let c : Call = Feeds now from bytes w up settled event sent token kept in
        let m : ℕ = max (own_of sizes t).clock now in
        let e : Effect = happened (at now (own_of sizes t)) m event in
        let input : E.Call = E.Receive m from bytes up settled event in
        let clock = clocks server sizes setup t in
        let here : max (beneath t).clock m ≡ m = omega (arith, clock) in
        let k = by_input c m input here (clock_is (own_of sizes t) c)
        (fed_ends now from bytes w up settled m event sent token kept) in
        subst (λ n. n ≤ over u (c ∷ t))
        (sym (past_deeds (ids.clock_of server setup) u
        (deeds (close m e token).deed (close m e token).own m w sent token kept)
        (deeds e.deed e.own m w sent token kept) input (lower_of sizes t)
        (quiet_deeds (close m e token).deed (close m e token).own m w sent token kept)
        (quiet_deeds e.deed e.own m w sent token kept))) k
    next (Ticks now w below turn sent token kept answer) law =
        let c : Call = Ticks now w below turn sent token kept answer in
        let m : ℕ = max (own_of sizes t).clock now in
        let e : Effect = passes (at now (own_of sizes t)) m turn in
        let input : E.Call = E.Ticks m below turn in
        let clock = clocks server sizes setup t in
        let here : max (beneath t).clock m ≡ m = omega (arith, clock) in
        let later : List E.Call = deeds (close m e token).deed (close m e token).own m w sent token kept in
        let first : List E.Call = deeds e.deed e.own m w sent token kept in
        let right = (at_input (λ past x. P.IsRight (X.own_of server setup past) x) later first input (lower_of sizes t)
        law.exchanges.rows).0 in
        let fits : TurnFits (beneath t) (max (beneath t).clock m) below turn =
        subst (TurnFits (beneath t) (max (beneath t).clock m) below) (sym right)
        (turn_fits (beneath t) (max (beneath t).clock m) below) in
        let k = by_input c m input here (clock_is (own_of sizes t) c)
        (tick_ends now w below m turn sent token kept answer (beneath t) (max (beneath t).clock m) fits) in
        subst (λ n. n ≤ over u (c ∷ t))
        (sym (past_deeds (ids.clock_of server setup) u later first input (lower_of sizes t)
        (quiet_deeds (close m e token).deed (close m e token).own m w sent token kept)
        (quiet_deeds e.deed e.own m w sent token kept))) k
    next (Forgets number kept answer) law =
        subst (λ n. n ≤ over u t)
        (sym (past_quiet (ids.clock_of server setup) u
        (deeds (forgets answer number (own_of sizes t)) (own_of sizes t) 0 0 L.Nothing (Ok []) kept) (lower_of sizes t)
        (quiet_deeds (forgets answer number (own_of sizes t)) (own_of sizes t) 0 0 L.Nothing (Ok []) kept))) less
    next _ law = less

  few_end : (u : ℕ) (t : List Call) → ClientLaw server sizes setup t → ended u (lower_of sizes t) ≤ over u t
  few_end u [] law = omega arith
  few_end u (c ∷ t) law = next u t (few_end u t (client_back server sizes setup (c ∷ []) t law)) c law

  -- what can't be sent is refused by the exchanges

  refused_is : (later first : List E.Call) (d : Deed) (o : Own) (m w : ℕ) (sent : L.Answer)
      (token : Result (List ℕ) AskRefusal) (kept : Bool) (input : E.Call) (rest : List E.Call) (op : _)
      (why : AskRefusal)
      → first ≡ deeds d o m w sent token kept → d ≡ Asks op → token ≡ Err why
      → ids.NoneWanting ((later ++ (first ++ input ∷ [])) ++ rest) → why ≡ refusal.Running
  refused_is later first d o m w sent token kept input rest op why is asks err none =
      let P : List E.Call → E.Call → Type 0 =
      λ past x. ((y : AskRefusal) → ids.refused x ≡ Some y → y ≡ refusal.Running) in
      let one : first ≡ E.Ask m (message_of o.observations op) w sent (Err why) ∷ [] =
      is ∙ (ap (λ z. deeds z o m w sent token kept) asks
      ∙ ap (λ z. E.Ask m (message_of o.observations op) w sent z ∷ []) err) in
      let there : Always P (first ++ input ∷ rest) =
      Always_back P later (first ++ input ∷ rest)
      (subst (Always P) (append_assoc later (first ++ input ∷ []) rest
      ∙ ap (λ l. later ++ l) (append_assoc first (input ∷ []) rest)) none) in
      (subst (λ l. Always P (l ++ input ∷ rest)) one there).0 why refl

  not_wanted : (why : AskRefusal) → IsWant why → why ≡ refusal.Running → ⊥
  not_wanted why (inl is) runs = cc (is, runs)
  not_wanted why (inr is) runs = cc (is, runs)

  sent_here : (t : List Call) (c : Call) → ids.NoneWanting (lower_of sizes (c ∷ t))
      → ((u : Unsent) → unsent (own_of sizes t) c ≡ Some u → IsWant u.why) → (u : Unsent)
      → unsent (own_of sizes t) c ≡ Some u → ⊥
  sent_here t (Feeds now from bytes w up settled event sent token kept) none want u is =
      let m : ℕ = max (own_of sizes t).clock now in
      let e : Effect = happened (at now (own_of sizes t)) m event in
      let k = unsent_asks e token u is in
      not_wanted u.why (want u is)
      (refused_is (deeds (close m e token).deed (close m e token).own m w sent token kept)
      (deeds e.deed e.own m w sent token kept) e.deed e.own m w sent token kept
      (E.Receive m from bytes up settled event) (lower_of sizes t) u.operation u.why refl k.0 k.1 none)
  sent_here t (Ticks now w below turn sent token kept answer) none want u is =
      let m : ℕ = max (own_of sizes t).clock now in
      let e : Effect = passes (at now (own_of sizes t)) m turn in
      let k = unsent_asks e token u is in
      not_wanted u.why (want u is)
      (refused_is (deeds (close m e token).deed (close m e token).own m w sent token kept)
      (deeds e.deed e.own m w sent token kept) e.deed e.own m w sent token kept
      (E.Ticks m below turn) (lower_of sizes t) u.operation u.why refl k.0 k.1 none)
  sent_here t _ none want u is = cc is

  all_sent : (t : List Call) → ClientLaw server sizes setup t → ids.NoneWanting (lower_of sizes t)
      → AllAreSent sizes t
  all_sent [] law none = tt
  all_sent (c ∷ t) law none = (
    sent_here t c none (λ u is. ((all_ends server sizes setup (c ∷ t) law).0.each_unsent u is).0),
    all_sent t (client_back server sizes setup (c ∷ []) t law)
        (Always_back (λ past x. ((y : AskRefusal) → ids.refused x ≡ Some y → y ≡ refusal.Running)) _ (lower_of sizes t)
        none),
  )

  -- where the exchanges send theirs
  pub sent_where_few_end : (t : List Call) → ClientLaw server sizes setup t
      → ids.RequestsAreSent server setup (lower_of sizes t) → SentWhereFewEnd sizes t
  sent_where_few_end t law sends most few_ids few till =
      let clock = clocks server sizes setup t in
      all_sent t law (sends most few_ids
      (λ u. (let a = few_end u t law in let b = few u in omega (arith, a, b))) (omega (arith, clock, till)))

-- each end is an answer
answered_over : (sizes : Sizes) (u : ℕ) (t : List Call) → EndByAnswers t
    → count_then (free.clock_of sizes) is_over u t ≤ count_then (free.clock_of sizes) is_answered u t
answered_over sizes u [] by = omega arith
answered_over sizes u (c ∷ t) by =
    counts_alike (is_over c) (is_answered c) _ _ _ _ (same (is_some (hears c)) (ends_as c) by.0) refl
    (answered_over sizes u t by.1)
  where
    same : (b : Bool) (o : Option Report) → o ≡ None → (b || is_some o) ≡ b
    same true o none = refl
    same false o none = ap is_some none

pub sent_where_answered : (sizes : Sizes) (t : List Call) → SentWhereFewEnd sizes t → SentWhereAnswered sizes t
sent_where_answered sizes t sends most few_ids by few till =
    sends most few_ids (λ u. (let a = answered_over sizes u t by in let b = few u in omega (arith, a, b))) till
