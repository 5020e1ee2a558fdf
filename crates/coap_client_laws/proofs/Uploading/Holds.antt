-- No first block is sent at most 100,000 ms after a datagram of an upload that ended without a final response.
use Rattle.std.proofs.Common.{◌≡◌, ◌≤◌, ◌⊎◌, inl, inr, ℕ, ◌+◌, max, Bool, true, false, cond, Option, Some, None, List}
use Rattle.std.proofs.Common.{[], ◌∷◌, ◌++◌, refl, ap, sym, subst, ◌∙◌, arith, Result, Ok, Err}
use Rattle.std.specs.Prelude.{nat_le}
use Rattle.coap_types.specs.Past.{Sometime}
use Rattle.coap_types.specs.declared.endpoint.Endpoint.{Endpoint}
use Rattle.coap_block.specs.Sizes.{Sizes}
use Rattle.coap_layer.specs.Trace as L
use Rattle.std.proofs.lemmas.Bool.{le-leb}
use Rattle.coap_exchange.specs.declared.asker.AskRefusal.{AskRefusal}
use Rattle.coap_exchange.specs.declared.asker.Event.{Event}
use Rattle.coap_exchange.specs.declared.asker.Event.TheVariants as event_of
use Rattle.coap_exchange.specs.declared.asker.Turn.{Turn}
use Rattle.coap_exchange.specs.declared.asker.Turn.TheVariants as turn_of
use Rattle.coap_exchange.specs.AskerTrace as E
use Rattle.coap_exchange.specs.AskerArrivals as A
use Rattle.coap_exchange.specs.AskerSteps as P
use Rattle.coap_exchange.specs.AskerLaw as X
use Rattle.coap_client.specs.Trace.{Call, Calls, Observes, Cancels, Forgets, Feeds, Ticks, NextOut, NextReport, Asked}
use Rattle.coap_types.specs.declared.transmission.TheConstants.{MAX_LATENCY_MS as max_latency}
use Rattle.coap_layer.specs.declared.setup.Setup.{Setup}
use Rattle.coap_client.specs.Own.{Operation, Registering, Own}
use Rattle.coap_client.specs.Observations.{over}
use Rattle.coap_client.specs.Requests.{is_longer}
use Rattle.coap_client.specs.Calls.{answer}
use Rattle.coap_client.specs.Effects.{Effect, runs, of}
use Rattle.coap_client.specs.Events.{happened, is_held, passes}
use Rattle.coap_client.specs.Deeds.{at, close, deeds}
use Rattle.coap_client.specs.Steps.{lower, reports}
use Rattle.coap_client.specs.Law.{ClientLaw, ClientRows, own_of, lower_of}
use Rattle.coap_client.specs.Sendings.{Sending, sends}
use Rattle.coap_client_laws.specs.Follows.Blocks.{Carried, carried}
use Rattle.coap_client.specs.Places.{hit, places, final_of, gone}
use Rattle.coap_client_laws.specs.Follows.Holds.{moment, is_copy, is_final, is_upload_of, sends_of, SendsOf}
use Rattle.coap_client_laws.specs.Follows.Holds.{EndsUnanswered}
use Rattle.coap_client_laws.specs.Follows.Holds.{Holds, AllHold}
use Rattle.coap_client.proofs.Facts.Places.PlaceLemmas.{hit_self}
use Rattle.coap_client.proofs.Facts.Turning.ExchangeCame.{came}
use Rattle.coap_client.proofs.Facts.Places.PlaceEffects.{Goes}
use Rattle.coap_client.proofs.Facts.Places.PlaceEvents.{happened_goes, passes_goes}
use Rattle.coap_client.proofs.Facts.Places.Once.{law_back, law_front, done_right, beneath, Known, sound_of, known}
use Rattle.coap_client.proofs.Facts.Places.Once.{from_place}
use Rattle.coap_client.proofs.Facts.Places.NumberSteps.{both_one}
use Rattle.coap_client.proofs.Facts.Uploading.Holding.{Steadied, steadied, happened_steady, passes_steady}
use Rattle.coap_client_laws.proofs.Uploading.Fate.{IsOver}
use Rattle.coap_client_laws.proofs.Uploading.Fate.{happened_fate, passes_fate, finality, closed_fate}
use Rattle.coap_client_laws.proofs.Uploading.FirstBlocks.{copies_now, dropped_up, happened_later, passes_free}
use Rattle.coap_client_laws.proofs.Uploading.FirstBlocks.{sends_now}
use Rattle.coap_client_laws.proofs.Uploading.FirstBlocks.{sent_of, up_place}

module _ (server : Endpoint) (sizes : Sizes) (setup : Setup) where
  abbrev own : List Call → Own
  own t = own_of sizes t

  -- the exchange beneath, and the effect
  pub goes_fed : (t : List Call) (now : ℕ) (from : Endpoint) (bytes : List ℕ) (w : ℕ) (up : L.Answer) (settled : Bool)
      (event : Option Event) (sent : L.Answer) (token : Result (List ℕ) AskRefusal) (kept : Bool)
      → Known server sizes setup t
      → X.AskerLaw server setup (lower_of sizes (Feeds now from bytes w up settled event sent token kept ∷ t))
      → Goes (at now (own t)) (P.after (beneath server sizes setup t)
      (E.Receive (max (own t).clock now) from bytes up settled event)).running
      (happened (at now (own t)) (max (own t).clock now) event)
  goes_fed t now from bytes w up settled event sent token kept k law =
      let m : ℕ = max (own t).clock now in
      let e : Effect = happened (at now (own t)) m event in
      let z = sound_of server sizes setup t k in
      let i : E.Call = E.Receive m from bytes up settled event in
      let later : List E.Call = deeds (close m e token).deed (close m e token).own m w sent token kept in
      let first : List E.Call = deeds e.deed e.own m w sent token kept in
      let right = done_right (beneath server sizes setup t) later first i
      (law_front server setup (later ++ (first ++ i ∷ [])) (lower_of sizes t) law) in
      happened_goes (at now (own t)) (beneath server sizes setup t).running _
      (record { at_most = z.at_most; waits = z.waits; runs_on = z.runs_on }) k.linked m event
      (came (beneath server sizes setup t) from _ up event right.0)

  pub goes_ticked : (t : List Call) (now : ℕ) (turn : Turn) → Known server sizes setup t
      → Goes (at now (own t)) (A.running_unless turn (beneath server sizes setup t).running)
      (passes (at now (own t)) (max (own t).clock now) turn)
  goes_ticked t now turn k =
      let z = sound_of server sizes setup t k in
      passes_goes (at now (own t)) (beneath server sizes setup t).running
      (record { at_most = z.at_most; waits = z.waits; runs_on = z.runs_on }) k.linked (max (own t).clock now) turn

  unanswered_gone : (other : ℕ) (t : List Call) → Sometime (EndsUnanswered sizes other) t → 1 ≤ gone sizes other t
  unanswered_gone other [] h = absurd h
  unanswered_gone other (c ∷ t) (inr h) = let ih = unanswered_gone other t h in omega (arith, ih)
  unanswered_gone other (c ∷ t) (inl h) =
      let a : final_of other (reports (own t) c) ≡ final_of other (Some h.report) = ap (final_of other) h.made in
      let b : final_of other (Some h.report) ≡ hit h.report.number other =
      ap (λ v. cond v 0 (hit h.report.number other)) h.last in
      let d : hit h.report.number other ≡ 1 = ap (λ i. hit i other) h.is ∙ hit_self other in
      omega (arith, a, b, d)

  abbrev Till : ℕ → Own → Type 0
  Till z s = (h : ℕ) × (s.hold ≡ Some h) × (z ≤ h + max_latency)

  abbrev IsThen : ℕ → ℕ → List Call → Type 0
  IsThen other z t = Sometime (λ earlier b. SendsOf sizes other earlier b
      × (z ≤ moment (own earlier) b + max_latency)) t

  -- it runs, or it is over and holds back
  abbrev Stands : ℕ → ℕ → List Call → Type 0
  Stands other z t =
      (z ≤ (own t).sent + max_latency) × ((is_upload_of other (own t).running ≡ true)
      ⊎ ((1 ≤ gone sizes other t) × (Sometime (EndsUnanswered sizes other) t → Till z (own t))))

  pub record Keeping (t : List Call) : Type 0 where
    pub sent : (own t).sent ≤ (own t).clock
    pub stands : (other z : ℕ) → IsThen other z t → Stands other z t

  -- a call that sends and reports nothing
  plain : (t : List Call) (c : Call) → sends (own t) c ≡ None → is_copy c ≡ false → reports (own t) c ≡ None
      → (own (c ∷ t)).sent ≡ (own t).sent → (own (c ∷ t)).hold ≡ (own t).hold → (own t).clock ≤ (own (c ∷ t)).clock
      → ((other : ℕ) → is_upload_of other (own t).running ≡ true → is_upload_of other (own (c ∷ t)).running ≡ true)
      → Keeping t → Keeping (c ∷ t)
  plain t c no_sending no_copy no_report sent hold clock still k = record {
    sent = let a = k.sent in omega (arith, a, sent, clock);
    stands = λ other z h. elim h [
      | inl now ↦ absurd (elim now.0 [
        | inl x ↦ (let e : false ≡ true = sym (ap (sends_of other) no_sending) ∙ x in cc e)
        | inr x ↦ (let e : false ≡ true = sym no_copy ∙ x.0 in cc e)
      ])
      | inr before ↦ (let g = k.stands other z before in
          let bound = g.0 in (
            omega (arith, bound, sent),
            elim g.1 [
              | inl up ↦ inl (still other up)
              | inr over ↦ (let o = over.0 in inr (
                omega (arith, o),
                λ w. elim w [
                  | inl y ↦ absurd (cc (no_report, y.made))
                  | inr y ↦ (let q = over.1 y in (q.0, hold ∙ q.1, q.2))
                ],
              ))
            ],
          ))
    ];
  }

  -- an event, or a turn
  module _ (t : List Call) (c : Call) (now : ℕ) (e : Effect) (token : Result (List ℕ) AskRefusal)
      (k : Known server sizes setup t) (law : X.AskerLaw server setup (lower_of sizes (c ∷ t)))
      (keeping : Keeping t) where
    abbrev m : ℕ
    m = max (own t).clock now

    abbrev s : Own
    s = at now (own t)

    abbrev done : Effect
    done = close m e token

    moved_on : (final : Bool) → moment (own t) c ≡ m → (own (c ∷ t)).sent ≡ done.own.sent
        → (own (c ∷ t)).hold ≡ done.own.hold → (own (c ∷ t)).clock ≡ done.own.clock
        → (own (c ∷ t)).running ≡ done.own.running
        → reports (own t) c ≡ done.report → is_final c ≡ final → Steadied s m done
        → ((other : ℕ) → is_upload_of other (own t).running ≡ true
        → IsOver final other s done ⊎ (is_upload_of other done.own.running ≡ true))
        → ((other : ℕ) → SendsOf sizes other t c → (done.own.sent ≡ m) × (is_upload_of other done.own.running ≡ true))
        → Keeping (c ∷ t)
    moved_on final moment_is sent hold clock running report final_is st fate first = record {
      sent = later_sent;
      stands = λ other z h. elim h [
        | inl now ↦ (let f = first other now.0 in let b = now.1 in let x =
            f.0 in (omega (arith, b, x, sent, moment_is), inl (ap (is_upload_of other) running ∙ f.1)))
        | inr before ↦ (let g = keeping.stands other z before in (
          bounded z g.0,
          elim g.1 [
            | inl up ↦ elim (fate other up) [
              | inl o ↦ inr (
                over_gone other o,
                λ w. elim w [
                  | inl y ↦ ((own t).sent, hold ∙ o.holds (sym final_is ∙ y.not_final), g.0)
                  | inr y ↦ absurd (both_one (places other (own t)) (gone sizes other t) _ (k.one other)
                      (up_place other (own t) up) (unanswered_gone other t y))
                ],
              )
              | inr r ↦ inl (ap (is_upload_of other) running ∙ r)
            ]
            | inr over ↦ (let o = over.0 in inr (
              omega (arith, o),
              λ w. elim w [
                | inl y ↦ absurd (both_one (places y.report.number (own t)) (gone sizes y.report.number t) _
                    (k.one y.report.number) (from_place server sizes setup t c k law y.report y.made)
                    (subst (λ i. 1 ≤ gone sizes i t) (sym y.is) o))
                | inr y ↦ elim st.hold [
                  | inl same ↦ (let q = over.1 y in (q.0, hold ∙ (same ∙ q.1), q.2))
                  | inr set ↦ ((own t).sent, hold ∙ set, g.0)
                ]
              ],
            ))
          ],
        ))
      ];
    }
      where
        later_sent : (own (c ∷ t)).sent ≤ (own (c ∷ t)).clock
        later_sent =
            let a = keeping.sent in
            let q = st.clock in
            elim st.sent [ inl x ↦ omega (arith, a, x, sent, clock, q) | inr x ↦ omega (arith, x, sent, clock, q) ]

        bounded : (z : ℕ) → z ≤ (own t).sent + max_latency → z ≤ (own (c ∷ t)).sent + max_latency
        bounded z b = let a = keeping.sent in elim st.sent
            [ inl x ↦ omega (arith, b, x, sent) | inr x ↦ omega (arith, a, b, x, sent) ]

        over_gone : (other : ℕ) → IsOver final other s done
            → 1 ≤ final_of other (reports (own t) c) +
            (Rattle.coap_client.specs.Places.forgotten_by other c + gone sizes other t)
        over_gone other o =
            let a : final_of other (reports (own t) c)
            ≡ final_of other (of other o.report) = ap (final_of other) (report ∙ o.made) in
            let b : final_of other (of other o.report)
            ≡ hit other other = ap (λ v. cond v 0 (hit other other)) o.last in
            let d = hit_self other in
            omega (arith, a, b, d)

  final_of_event : (now : ℕ) (from : Endpoint) (bytes : List ℕ) (w : ℕ) (up : L.Answer) (settled : Bool)
      (event : Option Event) (sent : L.Answer) (token : Result (List ℕ) AskRefusal) (kept : Bool) (other : ℕ) (s : Own)
      (m : ℕ) (u : is_upload_of other s.running ≡ true)
      → is_final (Feeds now from bytes w up settled event sent token kept) ≡ finality other s m u event
  final_of_event now from bytes w up settled (Some (event_of.Answer a)) sent token kept other s m u = refl
  final_of_event now from bytes w up settled _ sent token kept other s m u = refl

  copy_is : (now w : ℕ) (below : L.Answer) (turn : Turn) (sent : L.Answer) (token : Result (List ℕ) AskRefusal)
      (kept answer : Bool) → is_copy (Ticks now w below turn sent token kept answer) ≡ true → turn ≡ turn_of.Copied
  copy_is now w below turn_of.Copied sent token kept answer h = refl
  copy_is now w below _ sent token kept answer h = absurd (cc h)

  answer_keeps : (o : Result ℕ _) (f : ℕ → Operation) (s : Own)
      → ((Rattle.coap_client.specs.Queue.numbered f o s).sent ≡ s.sent)
      × ((Rattle.coap_client.specs.Queue.numbered f o s).hold ≡ s.hold)
      × ((Rattle.coap_client.specs.Queue.numbered f o s).clock ≡ s.clock)
      × ((Rattle.coap_client.specs.Queue.numbered f o s).running ≡ s.running)
  answer_keeps (Ok k) f s = (refl, refl, refl, refl)
  answer_keeps (Err why) f s = (refl, refl, refl, refl)

  cancel_keeps : (o : Option _) (k : ℕ) (s : Own)
      → ((Rattle.coap_client.specs.Queue.cancelling k o s).sent ≡ s.sent)
      × ((Rattle.coap_client.specs.Queue.cancelling k o s).hold ≡ s.hold)
      × ((Rattle.coap_client.specs.Queue.cancelling k o s).clock ≡ s.clock)
      × ((Rattle.coap_client.specs.Queue.cancelling k o s).running ≡ s.running)
  cancel_keeps None k s = (refl, refl, refl, refl)
  cancel_keeps (Some why) k s = (refl, refl, refl, refl)

  pub keeping : (t : List Call) → ClientRows sizes t → X.AskerLaw server setup (lower_of sizes t) → Keeping t
  keeping [] rows law = record { sent = omega arith; stands = λ other z h. absurd h }
  keeping (Calls now r answer ∷ t) rows law =
      let a = answer_keeps answer
      (λ number. Rattle.coap_client.specs.Queue.calling (own t).sizes number r)
      (at now (own t)) in
      let q = a.2 in
      plain t (Calls now r answer) refl refl refl a.0 a.1 (omega (arith, q))
      (λ other h. ap (is_upload_of other) a.3 ∙ h) (keeping t rows.1 law)
  keeping (Observes now path answer ∷ t) rows law =
      let a = answer_keeps answer (λ number. Registering number path) (at now (own t)) in
      let q = a.2 in
      plain t (Observes now path answer) refl refl refl a.0 a.1 (omega (arith, q))
      (λ other h. ap (is_upload_of other) a.3 ∙ h) (keeping t rows.1 law)
  keeping (Cancels now number answer ∷ t) rows law =
      let a = cancel_keeps answer number (at now (own t)) in
      let q = a.2 in
      plain t (Cancels now number answer) refl refl refl a.0 a.1 (omega (arith, q))
      (λ other h. ap (is_upload_of other) a.3 ∙ h) (keeping t rows.1 law)
  keeping (Forgets number kept true ∷ t) rows law =
      plain t (Forgets number kept true) refl refl refl refl refl (omega arith)
      (λ other h. dropped_up other number (own t).running h)
      (keeping t rows.1 (law_back server setup (lower (own t) (Forgets number kept true)) (lower_of sizes t) law))
  keeping (Forgets number kept false ∷ t) rows law =
      plain t (Forgets number kept false) refl refl refl refl refl (omega arith) (λ other h. h) (keeping t rows.1 law)
  keeping (NextOut answer ∷ t) rows law = plain t (NextOut answer) refl refl refl refl refl (omega arith) (λ other h. h)
      (keeping t rows.1 law.1)
  keeping (NextReport answer ∷ t) rows law = plain t (NextReport answer) refl refl refl refl refl (omega arith)
      (λ other h. h) (keeping t rows.1 law)
  keeping (Asked answer ∷ t) rows law = plain t (Asked answer) refl refl refl refl refl (omega arith) (λ other h. h)
      (keeping t rows.1 law)
  keeping (Feeds now from bytes w up settled event sent token kept ∷ t) rows law =
      let c : Call = Feeds now from bytes w up settled event sent token kept in
      let below = law_back server setup (lower (own t) c) (lower_of sizes t) law in
      let k = known server sizes setup t rows.1 below in
      let m : ℕ = max (own t).clock now in
      let s : Own = at now (own t) in
      let e : Effect = happened s m event in
      let g = goes_fed t now from bytes w up settled event sent token kept k law in
      moved_on t c now e token k law (keeping t rows.1 below) (is_final c) refl refl refl refl refl refl refl
      (steadied s m e token e.deed refl (happened_steady s m event))
      (λ other u. subst (λ f. IsOver f other s (close m e token)
      ⊎ (is_upload_of other (close m e token).own.running ≡ true))
      (sym (final_of_event now from bytes w up settled event sent token kept other s m u))
      (closed_fate other s m u (finality other s m u event) e token (happened_fate other s m u event)
      (λ op h. (g.asks op h).0) e.deed refl))
      (λ other h. elim h [
        | inl x ↦ sends_now m other e token e.deed (λ op i. (g.asks op i).1) x
        | inr x ↦ absurd
            (cc x.0)
      ])
  keeping (Ticks now w below turn sent token kept answer ∷ t) rows law =
      let c : Call = Ticks now w below turn sent token kept answer in
      let under = law_back server setup (lower (own t) c) (lower_of sizes t) law in
      let k = known server sizes setup t rows.1 under in
      let m : ℕ = max (own t).clock now in
      let s : Own = at now (own t) in
      let e : Effect = passes s m turn in
      let g = goes_ticked t now turn k in
      moved_on t c now e token k law (keeping t rows.1 under) false refl refl refl refl refl refl refl
      (steadied s m e token e.deed refl (passes_steady s m turn))
      (λ other u. closed_fate other s m u false e token (passes_fate other s m u turn)
      (λ op h. (g.asks op h).0) e.deed refl)
      (λ other h. elim h [
        | inl x ↦ sends_now m other e token e.deed
            (λ op i. (g.asks op i).1) x
        | inr x ↦ copies_now m other s turn token
            (copy_is now w below turn sent token kept answer x.0) x.1
      ])

  -- a first block
  module _ (t : List Call) (k : Keeping t) (now : ℕ) where
    free : (other m : ℕ) → (own t).running ≡ None → is_held (at now (own t)) m ≡ false
        → Sometime (EndsUnanswered sizes other) t → IsThen other m t → ⊥
    free other m none apart ended h =
        let g = k.stands other m h in
        elim g.1 [
          | inl up ↦ (let e : false ≡ true = sym (ap (is_upload_of other) none) ∙ up in cc e)
          | inr over ↦ (let q = over.1 ended in
              let is : is_held (at now (own t)) m ≡ nat_le m (q.0 + max_latency) =
              ap (λ o. elim o [ None ↦ false | Some last ↦ nat_le m (last + max_latency) ]) q.1 in
              let yes_it : nat_le m (q.0 + max_latency) ≡ true = le-leb m (q.0 + max_latency) q.2 in
              cc (apart, is, yes_it))
        ]

  holds_here : (t : List Call) (c : Call) → Keeping t → (x : Sending) (y : Carried) → sends (own t) c ≡ Some x
      → carried x.operation ≡ Some y → is_longer y.upload ≡ true → y.upload.num ≡ 0 → Holds sizes t c y.number
  holds_here t (Feeds now from bytes w up settled event sent token kept) k x y h c l zero =
      let m : ℕ = max (own t).clock now in
      let e : Effect = happened (at now (own t)) m event in
      absurd (happened_later (at now (own t)) m event x.operation y (sent_of e e.deed token x h).asks c zero)
  holds_here t (Ticks now w below turn sent token kept answer) k x y h c l zero =
      let m : ℕ = max (own t).clock now in
      let e : Effect = passes (at now (own t)) m turn in
      let f = passes_free (at now (own t)) m turn x.operation y (sent_of e e.deed token x h).asks c l in
      record { held = λ other ended is. free t k now other m f.0 f.1 ended is }
  holds_here t _ k x y h c l zero = absurd (cc h)

  pub all_hold : (t : List Call) → ClientLaw server sizes setup t → AllHold sizes t
  all_hold t law = all t law.rows law.exchanges.rows
    where
      all : (t : List Call) → ClientRows sizes t → X.AskerLaw server setup (lower_of sizes t) → AllHold sizes t
      all [] rows law = tt
      all (c ∷ t) rows law =
          let under = law_back server setup (lower (own t) c) (lower_of sizes t) law in
          (λ x y h carries l zero. holds_here t c (keeping t rows.1 under) x y h carries l zero, all t rows.1 under)
