-- An observation that was taken and is not over waits, runs or is live.
use Rattle.std.proofs.Common.{◌≡◌, ◌≤◌, ◌⊎◌, inl, inr, ℕ, zero, suc, ◌+◌, Bool, true, false, cond, Option, Some, None}
use Rattle.std.proofs.Common.{List}
use Rattle.std.proofs.Common.{◌∷◌, [], refl, ap, sym, subst, ◌∙◌, Ok, arith}
use Rattle.std.specs.Prelude.{◌==◌, nat_lt}
use Rattle.std.proofs.lemmas.Bool.{lt-ltb}
use Rattle.coap_types.specs.Past.{Ever}
use Rattle.coap_types.proofs.Facts.Traces.{Ever_map}
use Rattle.coap_types.specs.declared.endpoint.Endpoint.{Endpoint}
use Rattle.coap_layer.specs.declared.setup.Setup.{Setup}
use Rattle.coap_block.specs.Sizes.{Sizes}
use Rattle.coap_client.specs.Trace.{is_value, Request, Report, Call, Calls, Observes}
use Rattle.coap_client.specs.Own.{Operation, Calling, Registering, Fetching, Cancelling, Dropped, Observation}
use Rattle.coap_client.specs.Effects.{of}
use Rattle.coap_client.specs.Steps.{reports}
use Rattle.coap_client.specs.Law.{ClientLaw, own_of}
use Rattle.coap_client_laws.specs.Follows.Answered.{HasReport, IsSentFor}
use Rattle.coap_client_laws.specs.Follows.Ended.{WasForgotten}
use Rattle.coap_client_laws.specs.Follows.Live.{IsLive, IsThere, AreThere}
use Rattle.coap_client_laws.specs.Follows.Numbers.{number_given, NumbersOnce}
use Rattle.coap_client_laws.specs.Follows.OfObservations.{Observed, observes, WasObserved}
use Rattle.coap_client_laws.specs.Follows.Begins.{WasSent}
use Rattle.coap_client_laws.specs.Follows.Order.{call_of}
use Rattle.coap_client.specs.Places.{in_op, in_running, in_queue, in_observations, places, gone}
use Rattle.coap_client.specs.Sendings.{Taken, takes, WasTaken, Sending}
use Rattle.coap_client_laws.proofs.Observing.OfObservations.{sent_taken}
use Rattle.coap_client_laws.proofs.Observing.OneToken.{registered}
use Rattle.coap_client_laws.proofs.Observing.StaysLive.{found_in, found_there, none_final, none_forgotten}
use Rattle.coap_client_laws.proofs.Places.Numbers.{numbers_once, below}
use Rattle.coap_client.proofs.Facts.Places.Once.{beneath, known}
use Rattle.coap_client.proofs.Facts.Places.PlaceEffects.{Linked}
use Rattle.coap_client.proofs.Facts.Places.PlaceLemmas.{same_number}
use Rattle.coap_client_laws.proofs.Sending.OfCalls.{are_of_calls}
use Rattle.coap_client_laws.proofs.Sending.OpenSince.{open_runs}
use Rattle.coap_client_laws.proofs.Sending.LiveTokens.{last_was_sent}
use Rattle.coap_client_laws.proofs.Turning.AllWaiting.{all_wait}
use Rattle.coap_client_laws.proofs.Turning.BlockByBlock.{AllOf}
use Rattle.coap_client_laws.proofs.Observing.Notified.{one_of_two}

-- a number is given to one call, or to one observation

taken_given : (c : Call) (y : Taken) → takes c ≡ Some y → (number_given c ≡ Some y.number) × (observes c ≡ None)
taken_given (Calls now r (Ok n)) y h =
    let same : record { number = n; request = r } ≡ y = cc h in (ap (λ (z : Taken). Some z.number) same, refl)
taken_given _ y h = absurd (cc h)

observed_given : (c : Call) (x : Observed) → observes c ≡ Some x → number_given c ≡ Some x.number
observed_given (Observes now path (Ok n)) x h =
    let same : record { number = n; path = path } ≡ x = cc h in ap (λ (z : Observed). Some z.number) same
observed_given _ x h = absurd (cc h)

pub was_given : (x : Observed) (t : List Call) → WasObserved x t → Ever (λ c. number_given c ≡ Some x.number) t
was_given x t h = Ever_map (λ c. observes c ≡ Some x) (λ c. number_given c ≡ Some x.number)
    (λ c is. observed_given c x is) t h

no_call : (t : List Call) → NumbersOnce t → (y : Taken) (x : Observed) → WasTaken y t → WasObserved x t
    → y.number ≡ x.number → ⊥
no_call [] law y x h k same = h
no_call (c ∷ t) law y x (inl h) (inl k) same = let e : None ≡ Some x = sym (taken_given c y h).1 ∙ k in cc e
no_call (c ∷ t) law y x (inl h) (inr k) same =
    law.0 x.number ((taken_given c y h).0 ∙ ap (λ i. Some i) same) (was_given x t k)
no_call (c ∷ t) law y x (inr h) (inl k) same =
    law.0 y.number (observed_given c x k ∙ ap (λ i. Some i) (sym same))
    (Ever_map (λ b. takes b ≡ Some y) (λ b. number_given b ≡ Some y.number) (λ b is. (taken_given b y is).0) t h)
no_call (c ∷ t) law y x (inr h) (inr k) same = no_call t law.1 y x h k same

one_path : (t : List Call) → NumbersOnce t → (y x : Observed) → WasObserved y t → WasObserved x t
    → y.number ≡ x.number → y ≡ x
one_path [] law y x h k same = absurd h
one_path (c ∷ t) law y x (inl h) (inl k) same = let e : Some y ≡ Some x = sym h ∙ k in cc e
one_path (c ∷ t) law y x (inl h) (inr k) same =
    absurd (law.0 x.number (observed_given c y h ∙ ap (λ i. Some i) same) (was_given x t k))
one_path (c ∷ t) law y x (inr h) (inl k) same =
    absurd (law.0 y.number (observed_given c x k ∙ ap (λ i. Some i) (sym same)) (was_given y t h))
one_path (c ∷ t) law y x (inr h) (inr k) same = one_path t law.1 y x h k same

-- the operation of a number that was taken

abbrev IsOf : List Call → Operation → Type 0
IsOf t (Calling k r tr) = (request : Request) × WasTaken (record { number = k; request = request }) t
IsOf t (Registering k path) = WasObserved (record { number = k; path = path }) t
IsOf t op = Unit {0}

of_later : (t : List Call) (c : Call) (op : Operation) → IsOf t op → IsOf (c ∷ t) op
of_later t c (Calling k r tr) h = (h.0, inr h.1)
of_later t c (Registering k path) h = inr h
of_later t c _ h = tt

is_registration_of : (t : List Call) → NumbersOnce t → (x : Observed) → WasObserved x t → (op : Operation) → IsOf t op
    → 1 ≤ in_op x.number op → op ≡ Registering x.number x.path
is_registration_of t law x was (Calling k r tr) h hits = by (k == x.number) refl hits
  where
    by : (b : Bool) → (k == x.number) ≡ b → 1 ≤ cond b 1 0 → Calling k r tr ≡ Registering x.number x.path
    by true e p = absurd (no_call t law (record { number = k; request = h.0 }) x h.1 was (same_number k x.number e))
    by false e p = absurd (omega (arith, p))
is_registration_of t law x was (Registering k path) h hits = by (k == x.number) refl hits
  where
    by : (b : Bool) → (k == x.number) ≡ b → 1 ≤ cond b 1 0 → Registering k path ≡ Registering x.number x.path
    by true e p = ap (λ (z : Observed). Registering z.number z.path)
        (one_path t law (record { number = k; path = path }) x h was (same_number k x.number e))
    by false e p = absurd (omega (arith, p))
is_registration_of t law x was _ h hits = absurd (omega (arith, hits))

in_the_queue : (t : List Call) → NumbersOnce t → (x : Observed) → WasObserved x t → (ops : List Operation)
    → AllOf (IsOf t) ops → 1 ≤ in_queue x.number ops → Ever (λ op. op ≡ Registering x.number x.path) ops
in_the_queue t law x was [] h hits = absurd (omega (arith, hits))
in_the_queue t law x was (op ∷ ops) h hits = elim (one_of_two (in_op x.number op) (in_queue x.number ops) hits) [
  | inl now ↦ inl (is_registration_of t law x was op h.0 now)
  | inr later ↦ inr (in_the_queue t law x was ops h.1 later)
]

module _ (sizes : Sizes) where
  queue_of : (t : List Call) → AllOf (IsOf t) (own_of sizes t).queue
  queue_of = all_wait sizes IsOf of_later (λ t now r n. (r, inl refl)) (λ t now path n. inl refl) (λ t now n. tt)

  sent_call : (t : List Call) (x : Sending) (k : ℕ) (r : Request) (tr : _) → WasSent sizes x t
      → x.operation ≡ Calling k r tr
      → (request : Request) × WasTaken (record { number = k; request = request }) t
  sent_call [] x k r tr h op = absurd h
  sent_call (c ∷ t) x k r tr (inl h) op =
      let z = (are_of_calls sizes (c ∷ t)).0 x k h (ap call_of op) in
      (z.request, inr z.taken)
  sent_call (c ∷ t) x k r tr (inr h) op = let z = sent_call t x k r tr h op in (z.0, inr z.1)

  module _ (server : Endpoint) (setup : Setup) where
    sent_is_of : (t : List Call) (x : Sending) → WasSent sizes x t → (op : Operation) → IsSentFor op x → IsOf t op
    sent_is_of t x was (Calling k r tr) for = sent_call t x k r tr was for
    sent_is_of t x was (Registering k path) for = sent_taken sizes t x k path was for
    sent_is_of t x was _ for = tt

    running_of : (t : List Call) → ClientLaw server sizes setup t → (op : Operation)
        → (own_of sizes t).running ≡ Some op → IsOf t op
    running_of t law op runs =
        let l : Linked (Some op) (own_of sizes t).observations (beneath server sizes setup t).running =
        subst (λ o. Linked o (own_of sizes t).observations (beneath server sizes setup t).running) runs
        (known server sizes setup t law.rows law.exchanges.rows).linked in
        let k = (open_runs server sizes setup t law).is_open l.0 l.1 in
        let both : Some k.2.operation ≡ Some op = sym k.2.operates ∙ runs in
        let same : k.2.operation ≡ op = cc both in
        subst (IsOf t) same (sent_is_of t k.2.sending (last_was_sent sizes t k.2.sending k.2.last_sent) k.2.operation
        k.2.sent_for)

    -- it is not over
    pub none_gone : (t : List Call) (number : ℕ) → (WasForgotten number t → ⊥)
        → (HasReport server sizes setup number t → ⊥) → gone sizes number t ≡ 0
    none_gone [] number kept none = refl
    none_gone (c ∷ t) number kept none =
        let a = none_final number (reports (own_of sizes t) c) values in
        let b = none_forgotten number c (λ h. kept (inl h)) in
        let ih = none_gone t number (λ h. kept (inr h)) (λ h. none (inr h)) in
        omega (arith, a, b, ih)
      where
        values : (report : Report) → reports (own_of sizes t) c ≡ of number report → is_value report ≡ true
        values report h = by (is_value report) refl
          where
            by : (b : Bool) → is_value report ≡ b → b ≡ true
            by true e = refl
            by false e = absurd (none (inl (
              record { number = number; report = report },
              refl,
              record { made = h; final = e },
            )))

    -- .. of the path that was taken
    pub live_where : (t : List Call) → ClientLaw server sizes setup t → (x : Observed) → WasObserved x t
        → 1 ≤ in_observations x.number (own_of sizes t).observations
        → (token : List ℕ) × IsLive sizes x.number x.path token t
    live_where t law x was h =
        let p = found_there x.number (own_of sizes t).observations h in
        let f = found_in x.number (own_of sizes t).observations p.0 p.1 in
        let r = registered server sizes setup t law p.0 f.0 in
        let once = numbers_once server sizes setup t law.rows law.exchanges.rows in
        let same = one_path t once (record { number = p.0.number; path = p.0.path }) x
        (sent_taken sizes t r.sending p.0.number p.0.path r.sent r.operation) was f.1 in (
          p.0.token,
          record {
            observation = p.0;
            found = p.1;
            path_is = ap (λ (z : Observed). z.path) same;
            token_is = refl;
          },
        )

    pub are_there : (t : List Call) → ClientLaw server sizes setup t → AreThere sizes server setup t
    are_there t law x was kept none = by (one_of_two (in_running n s.running)
        (in_queue n s.queue + in_observations n s.observations) somewhere)
      where
        n : ℕ
        n = x.number

        s : Rattle.coap_client.specs.Own.Own
        s = own_of sizes t

        once : NumbersOnce t
        once = numbers_once server sizes setup t law.rows law.exchanges.rows

        somewhere : 1 ≤ places n s
        somewhere =
            let one = (known server sizes setup t law.rows law.exchanges.rows).one n in
            let over = none_gone t n kept none in
            let given = below server sizes setup t law.rows law.exchanges.rows n (was_given x t was) in
            let less : nat_lt n s.taken ≡ true = lt-ltb n s.taken (omega (arith, given)) in
            let places_one : places n s + gone sizes n t ≡ 1 = one ∙ ap (λ b. cond b 1 0) less in
            omega (arith, over, places_one)

        running : (o : Option Operation) → s.running ≡ o → 1 ≤ in_running n o
            → s.running ≡ Some (Registering n x.path)
        running None is h = absurd (omega (arith, h))
        running (Some op) is h = is ∙ ap (λ o. Some o)
            (is_registration_of t once x was op (running_of t law op is) h)

        by : (1 ≤ in_running n s.running) ⊎ (1 ≤ in_queue n s.queue + in_observations n s.observations)
            → IsThere sizes n x.path t
        by (inl h) = inr (inl (running s.running refl h))
        by (inr h) = elim (one_of_two (in_queue n s.queue) (in_observations n s.observations) h) [
          | inl waits ↦ inl (in_the_queue t once x was s.queue (queue_of t) waits)
          | inr there ↦ inr (inr (live_where t law x was there))
        ]
