-- Each number that a client gave is in one place, and a call is reported for the last time at most once.
use Rattle.std.proofs.Common.{◌≡◌, ◌≤◌, ℕ, ◌+◌, max, Bool, true, false, cond, not, Option, Some, None, List}
use Rattle.std.proofs.Common.{[], ◌∷◌, ◌++◌, refl, ap, sym, subst, ◌∙◌, arith, Result, Ok, Err}
use Rattle.std.specs.Prelude.{◌==◌, nat_lt, nat_le, length}
use Rattle.std.proofs.lemmas.List.{append_assoc}
use Rattle.coap_types.specs.declared.endpoint.Endpoint.{Endpoint}
use Rattle.coap_layer.specs.Trace as L
use Rattle.coap_block.specs.Sizes.{Sizes}
use Rattle.coap_exchange.specs.declared.asker.AskRefusal.{AskRefusal}
use Rattle.coap_exchange.specs.declared.asker.Event.{Event}
use Rattle.coap_exchange.specs.declared.asker.Turn.{Turn}
use Rattle.coap_exchange.specs.AskerTrace as E
use Rattle.coap_exchange.specs.AskerSteps as P
use Rattle.coap_exchange.specs.AskerLaw as X
use Rattle.coap_client.specs.declared.limits.TheConstants.{MAX_OBSERVATIONS as max_observations}
use Rattle.coap_client.specs.declared.refusals.CallRefusal.{CallRefusal}
use Rattle.coap_client.specs.declared.refusals.CallRefusal.TheVariants.{QueueFull, BodyTooLarge, BadPath, WatchesFull}
use Rattle.coap_client.specs.declared.refusals.CallRefusal.TheVariants.{CallsSpent}
use Rattle.coap_client.specs.declared.refusals.CancelRefusal.{CancelRefusal}
use Rattle.coap_types.specs.declared.option_number.TheConstants.{BLOCK2 as block2}
use Rattle.coap_layer.specs.declared.setup.Setup.{Setup}
use Rattle.coap_client.specs.Trace.{Request, Reported, Requested, Ended, Call, Calls, Observes, Cancels, Forgets}
use Rattle.coap_client.specs.Trace.{Feeds, Ticks, NextOut, NextReport, Asked}
use Rattle.coap_client.specs.Own.{Operation, Registering, Cancelling, Own}
use Rattle.coap_client.specs.Observations.{observation_of, is_cancelled, is_live, over}
use Rattle.coap_client.specs.Requests.{options_of, path_options}
use Rattle.coap_client.specs.Effects.{Asks, Effect}
use Rattle.coap_client.specs.Observing.{releases, is_over}
use Rattle.coap_client.specs.Events.{happened, passes}
use Rattle.coap_client.specs.Queue.{max_numbers, are_long, block_option_number, is_full, observed, call_answer}
use Rattle.coap_client.specs.Queue.{observe_answer, cancel_answer, may_forget, calling}
use Rattle.coap_client.specs.Deeds.{at, close, deeds, done_for}
use Rattle.coap_client.specs.Steps.{lower, reports, reporting, asking}
use Rattle.coap_client.specs.Law.{ClientRows, own_of, lower_of}
use Rattle.coap_client.specs.Places.{hit, in_op, in_running, in_queue, in_observations, places, final_of}
use Rattle.coap_client.specs.Places.{forgotten_by, gone, InOnePlace}
use Rattle.coap_client.proofs.Facts.Places.PlaceLemmas.{in_queue_append, found_by_number}
use Rattle.coap_client.proofs.Facts.Turning.ExchangeCame.{came}
use Rattle.coap_client.proofs.Facts.Places.PlaceEffects.{AllWait, IfRuns, Sound, Linked, Goes}
use Rattle.coap_client.proofs.Places.ObservationPlaces.{over_goes}
use Rattle.coap_client.proofs.Facts.Places.PlaceEvents.{happened_goes, passes_goes}
use Rattle.coap_client.proofs.Facts.Places.PlaceDeeds.{ran, AreRight, ran_append, are_right_back, are_right_front}
use Rattle.coap_client.proofs.Facts.Places.PlaceDeeds.{Closes}
use Rattle.coap_client.proofs.Facts.Places.PlaceDeeds.{closes, quiet_deeds, linked_of}
use Rattle.coap_client.proofs.Facts.Turning.Moves.{releases_none}
use Rattle.coap_client.proofs.Facts.Places.NumberSteps.{and_both, at_most_one, below, below_next, below_zero}
use Rattle.coap_client.proofs.Facts.Places.NumberSteps.{given_is, live_if, no_cancel, wait_behind}

-- of exchanges' calls, those behind others

pub own_ran : (server : Endpoint) (setup : Setup) (cs rest : List E.Call)
    → X.own_of server setup (cs ++ rest) ≡ ran (X.own_of server setup rest) cs
own_ran server setup [] rest = refl
own_ran server setup (c ∷ cs) rest = ap (λ y. P.after y c) (own_ran server setup cs rest)

pub law_back : (server : Endpoint) (setup : Setup) (cs rest : List E.Call) → X.AskerLaw server setup (cs ++ rest)
    → X.AskerLaw server setup rest
law_back server setup [] rest h = h
law_back server setup (c ∷ cs) rest h = law_back server setup cs rest h.1

pub law_front : (server : Endpoint) (setup : Setup) (cs rest : List E.Call) → X.AskerLaw server setup (cs ++ rest)
    → AreRight (X.own_of server setup rest) cs
law_front server setup [] rest h = tt
law_front server setup (c ∷ cs) rest h = (
  subst (λ y. P.IsRight y c) (own_ran server setup cs rest) h.0,
  law_front server setup cs rest h.1,
)

-- an input, and what is asked behind it
module _ (x : E.Own) (later first : List E.Call) (input : E.Call) where
  pub done_ran : ran x (later ++ (first ++ input ∷ [])) ≡ ran (P.after x input) (later ++ first)
  done_ran = ap (ran x) (sym (append_assoc later first (input ∷ []))) ∙ ran_append x (later ++ first) (input ∷ [])

  pub done_right : AreRight x (later ++ (first ++ input ∷ []))
      → P.IsRight x input × AreRight (P.after x input) (later ++ first)
  done_right h =
      let k = subst (AreRight x) (sym (append_assoc later first (input ∷ []))) h in
      ((are_right_back x (later ++ first) (input ∷ []) k).0, are_right_front x (later ++ first) (input ∷ []) k)

module _ (server : Endpoint) (sizes : Sizes) (setup : Setup) where
  abbrev pub beneath : List Call → E.Own
  beneath t = X.own_of server setup (lower_of sizes t)

  pub record Known (t : List Call) : Type 0 where
    pub waits : AllWait (own_of sizes t).observations (own_of sizes t).queue
    pub runs_on : IfRuns (own_of sizes t).observations (own_of sizes t).running
    pub linked : Linked (own_of sizes t).running (own_of sizes t).observations (beneath t).running
    pub one : InOnePlace sizes t

  pub sound_of : (t : List Call) → Known t → Sound (own_of sizes t)
  sound_of t k = record { at_most = λ n. at_most_one _ _ _ (k.one n); waits = k.waits; runs_on = k.runs_on }

  -- an event, or a turn
  module _ (t : List Call) (now w : ℕ) (sent : L.Answer) (token : Result (List ℕ) AskRefusal) (kept : Bool) (e : Effect)
      (input : E.Call) where
    abbrev s : Own
    s = at now (own_of sizes t)

    abbrev m : ℕ
    m = max (own_of sizes t).clock now

    abbrev later : List E.Call
    later = deeds (close m e token).deed (close m e token).own m w sent token kept

    abbrev first : List E.Call
    first = deeds e.deed e.own m w sent token kept

    stepped : Known t → X.AskerLaw server setup (done_for e m w sent token kept input ++ lower_of sizes t)
        → (P.IsRight (beneath t) input → Goes s (P.after (beneath t) input).running e)
        → Closes s (close m e token) (X.own_of server setup
        (done_for e m w sent token kept input ++ lower_of sizes t)).running
    stepped k law goes =
        let right = done_right (beneath t) later first input
        (law_front server setup (later ++ (first ++ input ∷ [])) (lower_of sizes t) law) in
        let sound : Sound s = (let z = sound_of t k in record
        { at_most = z.at_most; waits = z.waits; runs_on = z.runs_on }) in
        let c = closes s e (P.after (beneath t) input) sound (goes right.0) m w sent kept token right.1 in
        subst (Closes s (close m e token)) (sym (ap (λ (y : E.Own). y.running)
        (own_ran server setup (later ++ (first ++ input ∷ [])) (lower_of sizes t)
        ∙ done_ran (beneath t) later first input))) c

  pub fed : (t : List Call) (now : ℕ) (from : Endpoint) (bytes : List ℕ) (w : ℕ) (up : L.Answer) (settled : Bool)
      (event : Option Event) (sent : L.Answer) (token : Result (List ℕ) AskRefusal) (kept : Bool) → Known t
      → X.AskerLaw server setup (lower_of sizes (Feeds now from bytes w up settled event sent token kept ∷ t))
      → Closes (at now (own_of sizes t)) (close (max (own_of sizes t).clock now)
      (happened (at now (own_of sizes t)) (max (own_of sizes t).clock now) event) token)
      (beneath (Feeds now from bytes w up settled event sent token kept ∷ t)).running
  fed t now from bytes w up settled event sent token kept k law =
      let m : ℕ = max (own_of sizes t).clock now in
      let z = sound_of t k in
      stepped t now w sent token kept (happened (at now (own_of sizes t)) m event)
      (E.Receive m from bytes up settled event) k law
      (λ right. happened_goes (at now (own_of sizes t)) (beneath t).running _
      (record { at_most = z.at_most; waits = z.waits; runs_on = z.runs_on }) k.linked m event
      (came (beneath t) from _ up event right))

  pub ticked : (t : List Call) (now w : ℕ) (below : L.Answer) (turn : Turn) (sent : L.Answer)
      (token : Result (List ℕ) AskRefusal) (kept answer : Bool) → Known t
      → X.AskerLaw server setup (lower_of sizes (Ticks now w below turn sent token kept answer ∷ t))
      → Closes (at now (own_of sizes t)) (close (max (own_of sizes t).clock now)
      (passes (at now (own_of sizes t)) (max (own_of sizes t).clock now) turn) token)
      (beneath (Ticks now w below turn sent token kept answer ∷ t)).running
  ticked t now w below turn sent token kept answer k law =
      let m : ℕ = max (own_of sizes t).clock now in
      let z = sound_of t k in
      stepped t now w sent token kept (passes (at now (own_of sizes t)) m turn) (E.Ticks m below turn) k law
      (λ right. passes_goes (at now (own_of sizes t)) (beneath t).running
      (record { at_most = z.at_most; waits = z.waits; runs_on = z.runs_on }) k.linked m turn)

  -- one number more waits
  queued : (t : List Call) (c : Call) (op : Operation) (k : ℕ) → Known t → ((n : ℕ) → in_op n op ≡ hit k n)
      → k ≡ (own_of sizes t).taken → (n : ℕ)
      → (in_running n (own_of sizes t).running + (in_queue n ((own_of sizes t).queue ++ op ∷ []) + in_observations n
      (own_of sizes t).observations)) + gone sizes n t ≡ cond (nat_lt n ((own_of sizes t).taken + 1)) 1 0
  queued t c op k known place is n =
      let a = in_queue_append n (own_of sizes t).queue (op ∷ []) in
      let b = below_next n (own_of sizes t).taken in
      let d = place n ∙ ap (λ i. hit i n) is in
      let e = known.one n in
      omega (arith, a, b, d, e)

  called : (t : List Call) (now : ℕ) (r : Request) (answer : Result ℕ CallRefusal)
      → answer ≡ call_answer (own_of sizes t) r → Known t → Known (Calls now r answer ∷ t)
  called t now r (Err why) right k = record {
    waits = k.waits;
    runs_on = k.runs_on;
    linked = k.linked;
    one = λ n. let e = k.one n in omega (arith, e);
  }
  called t now r (Ok number) right k =
      let s : Own = own_of sizes t in
      let is : number ≡ s.taken = given_is (is_full s) (nat_lt s.sizes.limit (length r.body))
      (are_long (block_option_number r.method) (options_of r))
      (s.taken == max_numbers) QueueFull BodyTooLarge BadPath CallsSpent number s.taken right in
      record {
        waits = wait_behind s.observations s.queue (calling s.sizes number r) k.waits tt;
        runs_on = k.runs_on;
        linked = k.linked;
        one = λ n. let e = queued t (Calls now r (Ok number)) (calling s.sizes number r) number k
            (λ i. refl) is n in omega (arith, e);
      }

  observed_by : (t : List Call) (now : ℕ) (path : List (List ℕ)) (answer : Result ℕ CallRefusal)
      → answer ≡ observe_answer (own_of sizes t) path → Known t → Known (Observes now path answer ∷ t)
  observed_by t now path (Err why) right k = record
      { waits = k.waits; runs_on = k.runs_on; linked = k.linked; one = λ n. let e = k.one n in omega (arith, e) }
  observed_by t now path (Ok number) right k =
      let s : Own = own_of sizes t in
      let is : number ≡ s.taken = given_is (is_full s) (are_long block2 (path_options path))
      (nat_le max_observations (observed s)) (s.taken == max_numbers) QueueFull BadPath WatchesFull CallsSpent
      number s.taken right in
      record {
        waits = wait_behind s.observations s.queue (Registering number path) k.waits tt;
        runs_on = k.runs_on;
        linked = k.linked;
        one = λ n. let e = queued t (Observes now path (Ok number)) (Registering number path) number k
            (λ i. refl) is n in omega (arith, e);
      }

  cancelled : (t : List Call) (now number : ℕ) (answer : Option CancelRefusal)
      → answer ≡ cancel_answer (own_of sizes t) number → Known t → Known (Cancels now number answer ∷ t)
  cancelled t now number (Some why) right k = record
      { waits = k.waits; runs_on = k.runs_on; linked = k.linked; one = λ n. let e = k.one n in omega (arith, e) }
  cancelled t now number None right k =
      let s : Own = own_of sizes t in
      let live = found_by_number number s.observations
      (live_if (is_live number s) (is_cancelled number s) (is_full s) right) in
      record {
        waits = wait_behind s.observations s.queue (Cancelling number) k.waits live;
        runs_on = k.runs_on;
        linked = k.linked;
        one = λ n. let e = k.one n in let a = in_queue_append n s.queue (Cancelling number ∷ []) in omega (arith, a, e);
      }

  forgot : (t : List Call) (number : ℕ) (kept answer : Bool) → answer ≡ may_forget (own_of sizes t) number → Known t
      → Known (Forgets number kept answer ∷ t)
  forgot t number kept false right k = record {
    waits = k.waits;
    runs_on = k.runs_on;
    linked = k.linked;
    one = λ n. let e = k.one n in omega (arith, e);
  }
  forgot t number kept true right k =
      let s : Own = own_of sizes t in
      let both = and_both (is_live number s) (not (is_cancelled number s)) right in
      let g = over_goes s (beneath t).running (sound_of t k) k.linked number (Ended 0)
      (found_by_number number s.observations both.0) (no_cancel s number both.1) refl in
      let apart : (op : Operation) → releases (observation_of number s.observations) ≡ Asks op
      → ⊥ = releases_none (observation_of number s.observations) in
      let cs : List E.Call = deeds (releases (observation_of number s.observations)) s 0 0 L.Nothing (Ok []) kept in
      let same = ap (λ (y : E.Own). y.running) (own_ran server setup cs (lower_of sizes t))
      ∙ quiet_deeds 0 0 L.Nothing kept (Ok []) (releases (observation_of number s.observations)) s
      (beneath t) apart in
      record {
        waits = g.waits;
        runs_on = g.runs_on;
        linked = subst (Linked (over number s).running (over number s).observations) (sym same)
            (linked_of (releases (observation_of number s.observations)) (is_over number (Ended 0) s)
            (beneath t).running apart g.leaves);
        one = λ n. let a = g.conserved n in let e = k.one n in omega (arith, a, e);
      }

  closed_known : (t : List Call) (c : Call) (now : ℕ) (e : Effect) (request : Option Requested)
      → own_of sizes (c ∷ t) ≡ asking request (reporting e) → reports (own_of sizes t) c ≡ e.report
      → ((n : ℕ) → forgotten_by n c ≡ 0) → Known t → Closes (at now (own_of sizes t)) e (beneath (c ∷ t)).running
      → Known (c ∷ t)
  closed_known t c now e request own_is report_is none k z = record {
    waits = subst (λ (o : Own). AllWait o.observations o.queue) (sym own_is) z.waits;
    runs_on = subst (λ (o : Own). IfRuns o.observations o.running) (sym own_is) z.runs_on;
    linked = subst (λ (o : Own). Linked o.running o.observations (beneath (c ∷ t)).running) (sym own_is) z.linked;
    one = λ n.
        subst (λ (o : Own). places n o + gone sizes n (c ∷ t) ≡ cond (nat_lt n o.taken) 1 0) (sym own_is)
        (let a = z.conserved n in let b = k.one n in let d = ap (final_of n) report_is in let f = none n in let i =
        ap (below n) z.taken_is in omega (arith, a, b, d, f, i));
  }

  pub known : (t : List Call) → ClientRows sizes t → X.AskerLaw server setup (lower_of sizes t) → Known t
  known [] rows law = record {
    waits = tt;
    runs_on = tt;
    linked = refl;
    one = λ n. let z = below_zero n in omega (arith, z);
  }
  known (Calls now r answer ∷ t) rows law = called t now r answer rows.0 (known t rows.1 law)
  known (Observes now path answer ∷ t) rows law = observed_by t now path answer rows.0 (known t rows.1 law)
  known (Cancels now number answer ∷ t) rows law = cancelled t now number answer rows.0 (known t rows.1 law)
  known (Forgets number kept answer ∷ t) rows law =
      forgot t number kept answer rows.0 (known t rows.1
      (law_back server setup (lower (own_of sizes t) (Forgets number kept answer)) (lower_of sizes t) law))
  known (Feeds now from bytes w up settled event sent token kept ∷ t) rows law =
      let c : Call = Feeds now from bytes w up settled event sent token kept in
      let k = known t rows.1 (law_back server setup (lower (own_of sizes t) c) (lower_of sizes t) law) in
      closed_known t c now _ _ refl refl (λ n. refl) k (fed t now from bytes w up settled event sent token kept k law)
  known (Ticks now w below turn sent token kept answer ∷ t) rows law =
      let c : Call = Ticks now w below turn sent token kept answer in
      let k = known t rows.1 (law_back server setup (lower (own_of sizes t) c) (lower_of sizes t) law) in
      closed_known t c now _ _ refl refl (λ n. refl) k (ticked t now w below turn sent token kept answer k law)
  known (NextOut answer ∷ t) rows law = let k =
      known t rows.1 law.1 in record {
        waits = k.waits;
        runs_on = k.runs_on;
        linked = k.linked;
        one = λ n. let e = k.one n in omega (arith, e);
      }
  known (NextReport answer ∷ t) rows law = let k =
      known t rows.1 law in record {
        waits = k.waits;
        runs_on = k.runs_on;
        linked = k.linked;
        one = λ n. let e = k.one n in omega (arith, e);
      }
  known (Asked answer ∷ t) rows law = let k = known t rows.1 law in record
      { waits = k.waits; runs_on = k.runs_on; linked = k.linked; one = λ n. let e = k.one n in omega (arith, e) }

  -- what is reported is of a number that was in a place
  pub from_place : (t : List Call) (c : Call) → Known t → X.AskerLaw server setup (lower_of sizes (c ∷ t))
      → (x : Reported)
      → reports (own_of sizes t) c ≡ Some x → 1 ≤ places x.number (own_of sizes t)
  from_place t (Feeds now from bytes w up settled event sent token kept) k law x h =
      (fed t now from bytes w up settled event sent token kept k law).source x h
  from_place t (Ticks now w below turn sent token kept answer) k law x h =
      (ticked t now w below turn sent token kept answer k law).source x h
  from_place t _ k law x h = absurd (cc h)
