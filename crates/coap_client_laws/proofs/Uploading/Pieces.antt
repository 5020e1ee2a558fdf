-- A call's body is sent block by block, each after the answer to the one before.
use Rattle.std.proofs.Common.{◌≡◌, ◌≤◌, inl, inr, ℕ, max, Bool, true, false, Option, Some, None, List, [], ◌∷◌, refl}
use Rattle.std.proofs.Common.{ap, sym, subst, ◌∙◌, arith, Result}
use Rattle.coap_types.specs.declared.endpoint.Endpoint.{Endpoint}
use Rattle.coap_codec.specs.Message.{Message}
use Rattle.coap_block.specs.Sizes.{Sizes}
use Rattle.coap_layer.specs.Trace as L
use Rattle.coap_layer.specs.declared.setup.Setup.{Setup}
use Rattle.coap_exchange.specs.declared.asker.AskRefusal.{AskRefusal}
use Rattle.coap_exchange.specs.declared.asker.Event.{Event}
use Rattle.coap_exchange.specs.declared.asker.Event.TheVariants as event_of
use Rattle.coap_exchange.specs.declared.asker.Exchange.{Exchange}
use Rattle.coap_exchange.specs.AskerLaw as X
use Rattle.coap_client.specs.Trace.{Call, Feeds, Ticks}
use Rattle.coap_client.specs.Own.{Operation, Calling, Registering, Fetching, Cancelling, Dropped, Own}
use Rattle.coap_client_laws.specs.Follows.Answered.{of_call, NoneAfter}
use Rattle.coap_client_laws.specs.Follows.AnswersLastRequest.{Answers, AnswersLast}
use Rattle.coap_client.proofs.Facts.Places.PlaceEffects as Effects
use Rattle.coap_client.proofs.Facts.Places.PlaceEffects.{IfRuns, Linked}
use Rattle.coap_client.specs.Effects.{Asks, Effect}
use Rattle.coap_client.specs.Events.{happened, passes}
use Rattle.coap_client.specs.Deeds.{at}
use Rattle.coap_client.specs.Steps.{lower}
use Rattle.coap_client.specs.Law.{ClientLaw, ClientRows, own_of, lower_of}
use Rattle.coap_client.specs.Sendings.{Sending, sends, hears, runs_call, runs_fetch}
use Rattle.coap_client_laws.specs.Follows.Blocks.{Carried, carried, SendsPiece, SendsPieces}
use Rattle.coap_client.specs.Places.{hit, in_running, in_observations, places, final_of, gone}
use Rattle.coap_client.proofs.Facts.Places.PlaceLemmas.{hit_self}
use Rattle.coap_client.proofs.Facts.Places.Once.{law_back, beneath, Known, known}
use Rattle.coap_client_laws.proofs.Places.ReportedOnce.{final_gone}
use Rattle.coap_client.proofs.Facts.Places.NumberSteps.{both_one}
use Rattle.coap_client_laws.proofs.Uploading.Holds.{goes_fed, goes_ticked}
use Rattle.coap_client_laws.proofs.Uploading.FirstBlocks.{sent_of}
use Rattle.coap_client_laws.proofs.Turning.BlockByBlock.{heard_in, happened_from, passes_from}
use Rattle.coap_client_laws.proofs.Uploading.SentSoFar.{IfTracked, Sends, piece}
use Rattle.coap_client_laws.proofs.Uploading.AllSent.{all_sends, fed_hear, no_hear}

module _ (sizes : Sizes) (server : Endpoint) (setup : Setup) where
  -- each piece
  piece_here : (t : List Call) (c : Call) → X.AskerLaw server setup (lower_of sizes (c ∷ t)) → Sends sizes server
      setup t
      → (x : Sending) (y : Carried) → sends (own_of sizes t) c ≡ Some x → carried x.operation ≡ Some y
      → SendsPiece sizes t c x y
  piece_here t (Feeds now from bytes w up settled event sent token kept) law h x y is carries =
      let m : ℕ = max (own_of sizes t).clock now in
      let e : Effect = happened (at now (own_of sizes t)) m event in
      let o = sent_of e e.deed token x is in
      piece sizes server setup t (Feeds now from bytes w up settled event sent token kept) h (heard_in event)
      (fed_hear sizes server setup t now from bytes w up settled event sent token kept law) x e.own.observations
      o.request y carries
      e now
      (happened_from (at now (own_of sizes t)) m event x.operation y o.asks carries)
  piece_here t (Ticks now w below turn sent token kept answer) law h x y is carries =
      let m : ℕ = max (own_of sizes t).clock now in
      let e : Effect = passes (at now (own_of sizes t)) m turn in
      let o = sent_of e e.deed token x is in
      piece sizes server setup t (Ticks now w below turn sent token kept answer) h None
      (no_hear sizes server setup t now w below turn sent token kept answer law) x e.own.observations o.request y
      carries e now
      (passes_from (at now (own_of sizes t)) m turn x.operation y o.asks carries)
  piece_here t _ law h x y is carries = absurd (cc is)

  pub sends_pieces : (t : List Call) → ClientLaw server sizes setup t → SendsPieces sizes t
  sends_pieces t law = all t law.rows law.exchanges.rows
    where
      all : (t : List Call) → ClientRows sizes t → X.AskerLaw server setup (lower_of sizes t) → SendsPieces sizes t
      all [] rows law = tt
      all (c ∷ t) rows law =
          let under = law_back server setup (lower (own_of sizes t) c) (lower_of sizes t) law in (
            λ x y is carries. piece_here t c law (all_sends sizes server setup t rows.1 under) x y is carries,
            all t
                rows.1 under,
          )

  -- what is heard answers the request that was sent last
  runs_sent : (t : List Call) (m : Message) (running : Option Operation)
      → IfTracked sizes t running (beneath server sizes setup t).running
      → Linked running (own_of sizes t).observations (beneath server sizes setup t).running
      → (own_of sizes t).running ≡ running
      → (e : Exchange) → (beneath server sizes setup t).running ≡ Some e → m.token ≡ e.token → (c : Call)
      → Answers sizes t c m
  runs_sent t m None tracked linked is e runs token c = absurd (cc (linked, runs))
  runs_sent t m (Some op) tracked linked is e runs token c = record {
    sending = tracked.sending;
    last = tracked.last;
    token = sym (token ∙ tracked.token e runs);
    number = λ k h. elim tracked.same [
      | inl d ↦ (let f : false ≡ true = sym (ap (runs_call k) (is ∙ ap (λ o. Some o) d)) ∙ h in absurd (cc f))
      | inr s ↦ ap (λ o. runs_call k (Some o)) s ∙ (sym (ap (runs_call k) is) ∙ h)
    ];
    observation = λ k h. elim tracked.same [
      | inl d ↦ (let f : false ≡ true = sym (ap (runs_fetch k) (is ∙ ap (λ o. Some o) d)) ∙ h in absurd (cc f))
      | inr s ↦ ap (λ o. runs_fetch k (Some o)) s ∙ (sym (ap (runs_fetch k) is) ∙ h)
    ];
  }

  heard_event : (now : ℕ) (from : Endpoint) (bytes : List ℕ) (w : ℕ) (up : L.Answer) (settled : Bool)
      (event : Option Event) (sent : L.Answer) (token : Result (List ℕ) AskRefusal) (kept : Bool) (m : Message)
      → hears (Feeds now from bytes w up settled event sent token kept) ≡ Some m → heard_in event ≡ Some m
  heard_event now from bytes w up settled (Some (event_of.Answer a)) sent token kept m h = h
  heard_event now from bytes w up settled _ sent token kept m h = absurd (cc h)

  answer_here : (t : List Call) (c : Call) → X.AskerLaw server setup (lower_of sizes (c ∷ t)) → Sends sizes server
      setup t
      → Known server sizes setup t → (m : Message) → hears c ≡ Some m → Answers sizes t c m
  answer_here t (Feeds now from bytes w up settled event sent token kept) law h k m is =
      let f = fed_hear sizes server setup t now from bytes w up settled event sent token kept law m
      (heard_event now from bytes w up settled event sent token kept m is) in
      runs_sent t m (own_of sizes t).running h.tracked k.linked refl f.1.0 f.1.1 f.1.2
      (Feeds now from bytes w up settled event sent token kept)
  answer_here t _ law h k m is = absurd (cc is)

  pub answers_last : (t : List Call) → ClientLaw server sizes setup t → AnswersLast sizes t
  answers_last t law = all t law.rows law.exchanges.rows
    where
      all : (t : List Call) → ClientRows sizes t → X.AskerLaw server setup (lower_of sizes t) → AnswersLast sizes t
      all [] rows law = tt
      all (c ∷ t) rows law =
          let under = law_back server setup (lower (own_of sizes t) c) (lower_of sizes t) law in (
            λ m is. answer_here t c law (all_sends sizes server setup t rows.1 under) (known server sizes setup t
                rows.1 under) m is,
            all t rows.1 under,
          )

  -- nothing is sent for a number behind its last report
  op_place : (s : Own) (e : Effect) (op : Operation) (k : ℕ) → e.own.running ≡ Some op
      → IfRuns e.own.observations e.own.running → of_call op ≡ Some k → 1 ≤ places k e.own
  op_place s e (Calling j r u) k is live n = let same : j
      ≡ k = cc n in let a = ap (in_running k) is in let b = ap (λ i. hit i k) same ∙ hit_self k in omega (arith, a, b)
  op_place s e (Registering j path) k is live n = let same : j
      ≡ k = cc n in let a = ap (in_running k) is in let b = ap (λ i. hit i k) same ∙ hit_self k in omega (arith, a, b)
  op_place s e (Fetching j) k is live n = let same : j
      ≡ k = cc n in let l : 1 ≤ in_observations j e.own.observations =
      subst (IfRuns e.own.observations) is live in let l2 =
      subst (λ i. 1 ≤ in_observations i e.own.observations) same l in omega (arith, l2)
  op_place s e (Cancelling j) k is live n = let same : j
      ≡ k = cc n in let l : 1 ≤ in_observations j e.own.observations =
      subst (IfRuns e.own.observations) is live in let l2 =
      subst (λ i. 1 ≤ in_observations i e.own.observations) same l in omega (arith, l2)
  op_place s e Dropped k is live n = absurd (cc n)

  goes_place : (s : Own) (x : Option Exchange) (e : Effect) → Effects.Goes s x e → (op : Operation) (k : ℕ)
      → e.deed ≡ Asks op → of_call op ≡ Some k → 1 ≤ places k s
  goes_place s x e g op k is n =
      let a = g.asks op is in
      let p = op_place s e op k a.1 g.runs_on n in
      let b = g.conserved k in
      let d = ap (final_of k) a.0 in
      omega (arith, p, b, d)

  after_here : (t : List Call) (c : Call) → X.AskerLaw server setup (lower_of sizes (c ∷ t))
      → Known server sizes setup t
      → (x : Sending) (k : ℕ) → sends (own_of sizes t) c ≡ Some x → of_call x.operation ≡ Some k
      → 1 ≤ places k (own_of sizes t)
  after_here t (Feeds now from bytes w up settled event sent token kept) law kn x k is n =
      let e : Effect = happened (at now (own_of sizes t)) (max (own_of sizes t).clock now) event in
      goes_place (at now (own_of sizes t)) _ e
      (goes_fed server sizes setup t now from bytes w up settled event sent token
      kept kn law) x.operation k (sent_of e e.deed token x is).asks n
  after_here t (Ticks now w below turn sent token kept answer) law kn x k is n =
      let e : Effect = passes (at now (own_of sizes t)) (max (own_of sizes t).clock now) turn in
      goes_place (at now (own_of sizes t)) _ e (goes_ticked server sizes setup t now turn kn) x.operation k
      (sent_of e e.deed token x is).asks n
  after_here t _ law kn x k is n = absurd (cc is)

  pub none_after : (t : List Call) → ClientLaw server sizes setup t → NoneAfter server sizes setup t
  none_after t law = all t law.rows law.exchanges.rows
    where
      all : (t : List Call) → ClientRows sizes t → X.AskerLaw server setup (lower_of sizes t)
          → NoneAfter server sizes setup t
      all [] rows law = tt
      all (c ∷ t) rows law =
          let under = law_back server setup (lower (own_of sizes t) c) (lower_of sizes t) law in
          let kn = known server sizes setup t rows.1 under in (
            λ x k is n reported. both_one (places k (own_of sizes t)) (gone sizes k t) _ (kn.one k)
                (after_here t c law kn x k is n) (final_gone server sizes setup k t reported),
            all t rows.1 under,
          )
