-- The exchanges keep the tokens of the live observations.
use Rattle.std.proofs.Common.{◌≡◌, inl, inr, ℕ, max, Bool, true, false, Option, Some, None, List, ◌∷◌, ◌++◌, []}
use Rattle.std.proofs.Common.{refl, ap, sym, subst, ◌∙◌, Result, Ok, Err, arith, length, ◌||◌}
use Rattle.std.specs.Prelude.{◌==◌, nat_lt}
use Rattle.std.specs.List.{list_any}
use Rattle.std.proofs.lemmas.Bool.{lt-ltb}
use Rattle.std.proofs.lemmas.List.{length-map}
use Rattle.coap_types.specs.declared.endpoint.Endpoint.{Endpoint}
use Rattle.coap_codec.specs.Message.{Message}
use Rattle.coap_layer.specs.Trace as L
use Rattle.coap_layer.specs.declared.setup.Setup.{Setup}
use Rattle.coap_block.specs.Sizes.{Sizes}
use Rattle.coap_exchange.specs.declared.asker.AskRefusal.{AskRefusal}
use Rattle.coap_exchange.specs.declared.asker.Event.{Event}
use Rattle.coap_exchange.specs.AskerLaw as X
use Rattle.coap_exchange.specs.AskerSteps as P
use Rattle.coap_exchange.specs.AskerTrace as E
use Rattle.coap_exchange.specs.Tokens.{same_token, is_kept, max_kept}
use Rattle.coap_exchange.proofs.Facts.SameToken.{same_token_is, same_token_self}
use Rattle.coap_client.specs.declared.limits.TheConstants.{MAX_OBSERVATIONS as max_observations}
use Rattle.coap_client.specs.Trace.{Ended, Call, Calls, Observes, Cancels, Forgets, Feeds, Ticks, NextOut, NextReport}
use Rattle.coap_client.specs.Trace.{Asked}
use Rattle.coap_client.specs.Own.{Operation, Calling, Registering, Fetching, Cancelling, Dropped, Observation, Own}
use Rattle.coap_client.specs.Observations.{observation_of}
use Rattle.coap_client.specs.Effects.{Asks, Effect}
use Rattle.coap_client.specs.Observing.{releases}
use Rattle.coap_client.specs.Events.{happened, passes}
use Rattle.coap_client.specs.Deeds.{at, close, deeds, done_for}
use Rattle.coap_client.specs.Law.{ClientLaw, own_of, lower_of}
use Rattle.coap_client_laws.specs.Follows.Answered.{IsSentFor}
use Rattle.coap_client_laws.specs.Follows.Live.{TokensAreKept}
use Rattle.coap_client_laws.specs.Follows.Open.{RunsSince}
use Rattle.coap_client.specs.Sendings.{Sending, hears}
use Rattle.coap_client.specs.Turns.Moves.{Moved, Hears}
use Rattle.coap_client_laws.proofs.Observing.FewObserved.{few_count, running_one}
use Rattle.coap_client_laws.proofs.Observing.KeptTokens.{tokens_of, kept_by, deeds_kept, not_kept, TellApart, Keeping}
use Rattle.coap_client_laws.proofs.Observing.KeptTokens.{over_keeps, moves_keep, closed_keeps}
use Rattle.coap_client_laws.proofs.Observing.ObservationSources.{In}
use Rattle.coap_client_laws.proofs.Observing.OfObservations.{of_number}
use Rattle.coap_client_laws.proofs.Observing.OneToken.{registered, same_number_of}
use Rattle.coap_client_laws.proofs.Observing.StaysLive.{found_in, one_found, once_there, no_registration}
use Rattle.coap_client.proofs.Facts.Places.Once.{own_ran, done_ran, beneath}
use Rattle.coap_client.proofs.Facts.Places.PlaceDeeds.{ran, ran_append}
use Rattle.coap_client.proofs.Facts.Places.PlaceLemmas.{same_number, number_self}
use Rattle.coap_client_laws.proofs.Sending.HeardOfOpen.{hears_of_open}
use Rattle.coap_client_laws.proofs.Sending.Tokens.{one_of_token}
use Rattle.coap_client_laws.proofs.Sending.LiveTokens.{last_was_sent, same_observations}
use Rattle.coap_client.proofs.Facts.Turning.Leading.{client_back}
use Rattle.coap_client.proofs.Facts.Turning.Moves.{happened_moves, passes_moves}

module _ (server : Endpoint) (sizes : Sizes) (setup : Setup) where
  module _ (t : List Call) (law : ClientLaw server sizes setup t) where
    abbrev os : List Observation
    os = (own_of sizes t).observations

    one_of_number : (p : Observation) → In p os → observation_of p.number os ≡ Some p
    one_of_number p there = of_number os p there (once_there server sizes setup t law p.number)

    -- a token tells its observation from the others
    tell_apart : (k : ℕ) → TellApart k os
    tell_apart k o found p there = by (p.number == k) refl (same_token o.token p.token) refl
      where
        f : In o os × (o.number ≡ k)
        f = found_in k os o found

        by : (b : Bool) → (p.number == k) ≡ b → (d : Bool) → same_token o.token p.token ≡ d → b ≡ d
        by true e true g = refl
        by false e false g = refl
        by true e false g =
            let one = one_found k os o p (once_there server sizes setup t law k) found there
            (same_number p.number k e) in
            let yes : same_token o.token p.token ≡ true = ap (λ (x : Observation). same_token o.token x.token) one
            ∙ same_token_self o.token in
            absurd (cc (yes, g))
        by false e true g =
            let number = same_number_of server sizes setup t law o p f.0 there (same_token_is o.token p.token g)
            ∙ f.1 in
            let yes : (p.number == k) ≡ true = ap (λ i. i == k) number ∙ number_self k in
            absurd (cc (yes, e))

    -- the exchange that runs has the token of a live observation for its cancel alone
    pub only_cancel : (at : ℕ) (r : RunsSince server sizes setup at t) (o : Observation) → In o os
        → r.exchange.token ≡ o.token → (own_of sizes t).running ≡ Some (Cancelling o.number)
    only_cancel at r o there same =
        let a = registered server sizes setup t law o there in
        elim (one_of_token sizes server setup t law a.sending r.sending a.sent
        (last_was_sent sizes t r.sending r.last_sent) (a.token_is ∙ (sym same ∙ r.token))) [
          | inl e ↦ registering r.operation r.sent_for
              (ap (λ (x : Sending). x.operation) (sym e) ∙ a.operation) r.operates
          | inr d ↦ elim d [
            | inl x ↦ (
                let z : Registering o.number o.path ≡ Registering x.number x.path = sym a.operation ∙ x.registers in
                let n : x.number ≡ o.number = cc z in
                cancelling r.operation r.sent_for (x.cancels ∙ ap (λ i. Cancelling i) n) r.operates)
            | inr x ↦ (
                let z : Registering o.number o.path ≡ Cancelling x.number = sym a.operation ∙ x.cancels in
                absurd (cc z))
          ]
        ]
      where
        none : (path : List (List ℕ)) → (own_of sizes t).running ≡ Some (Registering o.number path) → ⊥
        none path runs = no_registration server sizes setup t law o.number o (one_of_number o there) path runs

        registering : (op : Operation) → IsSentFor op r.sending → r.sending.operation ≡ Registering o.number o.path
            → (own_of sizes t).running ≡ Some op → (own_of sizes t).running ≡ Some (Cancelling o.number)
        registering (Calling n q tr) for is runs = let z : Calling n q tr ≡ Registering o.number o.path = sym for
            ∙ is in absurd (cc z)
        registering (Registering n path) for is runs =
            let z : Registering n path ≡ Registering o.number o.path = sym for ∙ is in
            absurd (none o.path (runs ∙ ap (λ op. Some op) z))
        registering (Fetching n) for is runs = let z : Fetching n ≡ Registering o.number o.path = sym for
            ∙ is in absurd (cc z)
        registering (Cancelling n) for is runs = let z : Cancelling n ≡ Registering o.number o.path = sym for
            ∙ is in absurd (cc z)
        registering Dropped for is runs = let z : Fetching for.0 ≡ Registering o.number o.path = sym for.1
            ∙ is in absurd (cc z)

        cancelling : (op : Operation) → IsSentFor op r.sending → r.sending.operation ≡ Cancelling o.number
            → (own_of sizes t).running ≡ Some op → (own_of sizes t).running ≡ Some (Cancelling o.number)
        cancelling (Calling n q tr) for is runs = let z : Calling n q tr ≡ Cancelling o.number = sym for
            ∙ is in absurd (cc z)
        cancelling (Registering n path) for is runs = let z : Registering n path ≡ Cancelling o.number = sym for
            ∙ is in absurd (cc z)
        cancelling (Fetching n) for is runs = let z : Fetching n ≡ Cancelling o.number = sym for ∙ is in absurd (cc z)
        cancelling (Cancelling n) for is runs = let z : Cancelling n ≡ Cancelling o.number = sym for
            ∙ is in runs ∙ ap (λ op. Some op) z
        cancelling Dropped for is runs = let z : Fetching for.0 ≡ Cancelling o.number = sym for.1 ∙ is in absurd (cc z)

    -- there is a place for the one that begins
    room : (k : ℕ) (path : List (List ℕ)) → (own_of sizes t).running ≡ Some (Registering k path)
        → nat_lt (length (tokens_of os)) max_kept ≡ true
    room k path runs =
        let a = few_count sizes t law.rows in
        let b : running_one (own_of sizes t).running ≡ 1 = ap running_one runs in
        let d = length-map os (λ (o : Observation). o.token) in
        let e : max_kept ≡ 16 = refl in
        let f : max_observations ≡ 16 = refl in
        lt-ltb (length (tokens_of os)) max_kept (omega (arith, a, b, d, e, f))

  -- the token of what begins is that of no other
  fresh : (t : List Call) (c : Call) → ClientLaw server sizes setup (c ∷ t) → (k : ℕ) (path : List (List ℕ))
      (m : Message) → hears c ≡ Some m → (own_of sizes t).running ≡ Some (Registering k path)
      → is_kept m.token (tokens_of (own_of sizes t).observations) ≡ false
  fresh t c law k path m heard runs =
      let past = client_back server sizes setup (c ∷ []) t law in
      let h = (hears_of_open server sizes setup (c ∷ t) law).0 m heard in
      not_kept m.token (own_of sizes t).observations (λ p there same.
      (let z : Some (Registering k path) ≡ Some (Cancelling p.number) = sym runs
      ∙ only_cancel t past h.since h.runs p there (sym h.token ∙ same) in
      cc z))

  abbrev Kept : List Call → Type 0
  Kept t = (beneath server sizes setup t).kept ≡ tokens_of (own_of sizes t).observations

  -- an input, and what is asked behind it
  module _ (t : List Call) (now w : ℕ) (sent : L.Answer) (token : Result (List ℕ) AskRefusal) (was : Bool)
      (told : Option Event) (e : Effect) (input : E.Call) where
    abbrev s : Own
    s = at now (own_of sizes t)

    abbrev m : ℕ
    m = max (own_of sizes t).clock now

    abbrev closed_so : Effect
    closed_so = close m e token

    abbrev later : List E.Call
    later = deeds closed_so.deed closed_so.own m w sent token was

    abbrev first : List E.Call
    first = deeds e.deed e.own m w sent token was

    abbrev taken : E.Own
    taken = P.after (beneath server sizes setup t) input

    ran_kept : (X.own_of server setup (done_for e m w sent token was input ++ lower_of sizes t)).kept
        ≡ kept_by closed_so.deed (kept_by e.deed taken.kept)
    ran_kept =
        ap (λ (y : E.Own). y.kept) (own_ran server setup (later ++ (first ++ input ∷ [])) (lower_of sizes t)
        ∙ (done_ran (beneath server sizes setup t) later first input ∙ ran_append taken later first))
        ∙ (deeds_kept m w sent token was closed_so.deed closed_so.own (ran taken first)
        ∙ ap (kept_by closed_so.deed) (deeds_kept m w sent token was e.deed e.own taken))

    stepped : ClientLaw server sizes setup t → Moved s m told e
        → ((x : E.Own) → (P.after x input).kept ≡ x.kept)
        → ((k : ℕ) (path : List (List ℕ)) (a : Message) → Hears told a
        → (own_of sizes t).running ≡ Some (Registering k path)
        → is_kept a.token (tokens_of (own_of sizes t).observations) ≡ false)
        → Kept t → (X.own_of server setup (done_for e m w sent token was input ++ lower_of sizes t)).kept
        ≡ tokens_of closed_so.own.observations
    stepped law mo same new ih =
        let keeps : Keeping s e = subst (Keeping s) (sym mo.1)
        (moves_keep s m told new (room t law) (tell_apart t law) mo.0) in
        ran_kept ∙ (ap (λ l. kept_by closed_so.deed (kept_by e.deed l)) (same (beneath server sizes setup t) ∙ ih)
        ∙ (ap (kept_by closed_so.deed) (sym keeps) ∙ sym (closed_keeps m e token tell)))
      where
        tell : (k : ℕ) → e.deed ≡ Asks (Cancelling k) → TellApart k e.own.observations
        tell k asks =
            let deed = ap (λ (x : Effect). x.deed) (sym mo.1) ∙ asks in
            elim (same_observations s m told mo.0 (Cancelling k) deed) [
              | inl eq ↦ subst (TellApart k) (sym (ap (λ (x : Effect). x.own.observations) mo.1 ∙ eq))
                  (tell_apart t law k)
              | inr f ↦ (let z : Cancelling k ≡ Fetching f.0 = f.1 in absurd (cc z))
            ]

  kept_is : (t : List Call) → ClientLaw server sizes setup t → Kept t
  kept_is [] law = refl
  kept_is (Calls now r (Ok n) ∷ t) law = kept_is t (client_back server sizes setup (Calls now r (Ok n) ∷ []) t law)
  kept_is (Calls now r (Err why) ∷ t) law = kept_is t (client_back server sizes setup (Calls now r (Err why) ∷ []) t
      law)
  kept_is (Observes now path (Ok n) ∷ t) law =
      kept_is t (client_back server sizes setup (Observes now path (Ok n) ∷ []) t law)
  kept_is (Observes now path (Err why) ∷ t) law =
      kept_is t (client_back server sizes setup (Observes now path (Err why) ∷ []) t law)
  kept_is (Cancels now k None ∷ t) law = kept_is t (client_back server sizes setup (Cancels now k None ∷ []) t law)
  kept_is (Cancels now k (Some why) ∷ t) law =
      kept_is t (client_back server sizes setup (Cancels now k (Some why) ∷ []) t law)
  kept_is (Forgets k was true ∷ t) law =
      let past = client_back server sizes setup (Forgets k was true ∷ []) t law in
      let s : Own = own_of sizes t in
      let d = releases (observation_of k s.observations) in
      ap (λ (y : E.Own). y.kept) (own_ran server setup (deeds d s 0 0 L.Nothing (Ok []) was) (lower_of sizes t))
      ∙ (deeds_kept 0 0 L.Nothing (Ok []) was d s (beneath server sizes setup t)
      ∙ (ap (kept_by d) (kept_is t past) ∙ sym (over_keeps k (Ended 0) s (tell_apart t past k))))
  kept_is (Forgets k was false ∷ t) law = kept_is t (client_back server sizes setup (Forgets k was false ∷ []) t law)
  kept_is (NextOut answer ∷ t) law = kept_is t (client_back server sizes setup (NextOut answer ∷ []) t law)
  kept_is (NextReport answer ∷ t) law = kept_is t (client_back server sizes setup (NextReport answer ∷ []) t law)
  kept_is (Asked answer ∷ t) law = kept_is t (client_back server sizes setup (Asked answer ∷ []) t law)
  kept_is (Feeds now from bytes w up settled event sent token was ∷ t) law =
      let c : Call = Feeds now from bytes w up settled event sent token was in
      let past = client_back server sizes setup (c ∷ []) t law in
      let m : ℕ = max (own_of sizes t).clock now in
      stepped t now w sent token was event (happened (at now (own_of sizes t)) m event)
      (E.Receive m from bytes up settled event) past (happened_moves (at now (own_of sizes t)) m event) (λ x. refl)
      (λ k path a h runs. fresh t c law k path a
      (ap (λ e. hears (Feeds now from bytes w up settled e sent token was)) h) runs) (kept_is t past)
  kept_is (Ticks now w below turn sent token was answer ∷ t) law =
      let c : Call = Ticks now w below turn sent token was answer in
      let past = client_back server sizes setup (c ∷ []) t law in
      let m : ℕ = max (own_of sizes t).clock now in
      stepped t now w sent token was None (passes (at now (own_of sizes t)) m turn) (E.Ticks m below turn) past
      (passes_moves (at now (own_of sizes t)) m turn) (λ x. refl) (λ k path a h runs. absurd (cc h)) (kept_is t past)

  is_there : (token : List ℕ) (all : List Observation) (o : Observation) → In o all → o.token ≡ token
      → is_kept token (tokens_of all) ≡ true
  is_there token [] o there same = absurd there
  is_there token (p ∷ all) o (inl e) same =
      ap (λ b. b || list_any (same_token token) (tokens_of all))
      (ap (same_token token) (ap (λ (x : Observation). x.token) e ∙ same) ∙ same_token_self token)
  is_there token (p ∷ all) o (inr there) same =
      ap (λ b. same_token token p.token || b) (is_there token all o there same) ∙ or_true (same_token token p.token)
    where
      or_true : (b : Bool) → (b || true) ≡ true
      or_true true = refl
      or_true false = refl

  pub tokens_are_kept : (t : List Call) → ClientLaw server sizes setup t → TokensAreKept sizes server setup t
  tokens_are_kept t law number path token l =
      let f = found_in number (own_of sizes t).observations l.observation l.found in
      ap (is_kept token) (kept_is t law)
      ∙ is_there token (own_of sizes t).observations l.observation f.0 l.token_is
