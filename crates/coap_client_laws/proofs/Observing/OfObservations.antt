-- What is sent for an observation asks for the path that is observed.
use Rattle.std.proofs.Common.{◌≡◌, ◌≤◌, inl, inr, ℕ, max, Bool, true, false, cond, Option, Some}
use Rattle.std.proofs.Common.{None, is_some, List, ◌∷◌, ◌++◌, [], map, refl, ap, sym, subst, ◌∙◌, arith}
use Rattle.std.specs.Prelude.{◌==◌}
use Rattle.std.specs.Option.{option_map}
use Rattle.coap_types.specs.Past.{Ever}
use Rattle.coap_types.specs.declared.endpoint.Endpoint.{Endpoint}
use Rattle.coap_types.specs.CoapOption.{option}
use Rattle.coap_types.specs.Uint.{uint}
use Rattle.coap_types.specs.declared.option_number.TheConstants.{OBSERVE as observe}
use Rattle.coap_layer.specs.declared.setup.Setup.{Setup}
use Rattle.coap_block.specs.Sizes.{Sizes}
use Rattle.coap_block.specs.declared.fetch_progress.Asked.{Asked as Block}
use Rattle.coap_block.specs.declared.fetch_verdict.Verdict.TheVariants as verdict
use Rattle.coap_block.specs.Gathered.{Awaits}
use Rattle.coap_block.specs.Whole.{Part}
use Rattle.coap_exchange.specs.declared.asker.Event.{Event}
use Rattle.coap_exchange.specs.AskerTrace as E
use Rattle.coap_exchange.specs.AskerFollows as F
use Rattle.coap_exchange.proofs.Facts.ClientSide.{are_tokens}
use Rattle.coap_client.specs.Trace.{Call, Feeds, Ticks}
use Rattle.coap_client.specs.Own.{Operation, Calling, Registering, Fetching, Cancelling, Dropped}
use Rattle.coap_client.specs.Own.{Notified, Observation, Own}
use Rattle.coap_client.specs.Observations.{observation_of, observed_path, token_of, rest_of, fetch_of}
use Rattle.coap_client.specs.Observations.{to_fetch, with_rest}
use Rattle.coap_client.specs.Requests.{path_options, block2_option, get, message_of}
use Rattle.coap_client.specs.Effects.{Asks, Effect}
use Rattle.coap_client.specs.Events.{failed}
use Rattle.coap_client.specs.Reports.{lapse}
use Rattle.coap_client.specs.Deeds.{at}
use Rattle.coap_client.specs.Law.{ClientLaw, own_of, lower_of}
use Rattle.coap_client.specs.Places.{hit, in_observations}
use Rattle.coap_client.specs.Sendings.{Sending, sends}
use Rattle.coap_client_laws.specs.Follows.Begins.{WasSent}
use Rattle.coap_client.specs.Turns.Moves as mv
use Rattle.coap_client.specs.Turns.Moves.{Move, left_by}
use Rattle.coap_client_laws.proofs.Queueing.Closing.{Closing, quiet, goes_out, is_refused, sending_of}
use Rattle.coap_client.proofs.Facts.Places.PlaceLemmas.{same_number, number_self}
use Rattle.coap_client.proofs.Facts.Places.PlaceEffects.{AllWait}
use Rattle.coap_client_laws.proofs.Turning.BlockByBlock.{AllOf}
use Rattle.coap_client.proofs.Facts.Places.Once.{known}
use Rattle.coap_client_laws.proofs.Turning.AllWaiting.{all_wait}
use Rattle.coap_client_laws.proofs.Sending.Asked as asked
use Rattle.coap_client.proofs.Facts.Turning.Leading.{client_back}
use Rattle.coap_client_laws.proofs.Sending.Tokens.{Registered, live, was_asked}
use Rattle.coap_client.proofs.Facts.Turning.Moves.{releases_none}
use Rattle.coap_client_laws.proofs.Turning.Turns.{Turned, fed_turned, ticked_turned}
use Rattle.coap_client_laws.specs.Follows.OfObservations.{WasObserved, observation_for, AsksFor}
use Rattle.coap_client_laws.specs.Follows.OfObservations.{IsOfObservation, AreOfObservations}
use Rattle.coap_client_laws.proofs.Observing.ObservationSources.{In, in_count}
use Rattle.coap_client_laws.proofs.Observing.Notified.{live_in, most}
use Rattle.coap_client_laws.proofs.Observing.Values.{Fetched, fetched}
use Rattle.coap_client_laws.proofs.Observing.ValueParts.{found_rest}

-- lists

-- an observation is found by its number, where no other has that
pub of_number : (os : List Observation) (p : Observation) → In p os → in_observations p.number os ≤ 1
    → observation_of p.number os ≡ Some p
of_number [] p there once = absurd there
of_number (o ∷ os) p (inl e) once = ap (λ b. cond b (Some o) (observation_of p.number os))
    (ap (λ (x : Observation). x.number == p.number) e ∙ number_self p.number) ∙ ap (λ x. Some x) e
of_number (o ∷ os) p (inr there) once = by (o.number == p.number) refl (of_number os p there)
  where
    by : (b : Bool) → (o.number == p.number) ≡ b
        → (in_observations p.number os ≤ 1 → observation_of p.number os ≡ Some p)
        → cond b (Some o) (observation_of p.number os) ≡ Some p
    by true e ih = let a : hit o.number p.number
        ≡ 1 = ap (λ b. cond b 1 0) e in let d = in_count p os there in absurd (omega (arith, a, d, once))
    by false e ih = let a : hit o.number p.number ≡ 0 = ap (λ b. cond b 1 0) e in ih (omega (arith, a, once))

found_of : (k : ℕ) (os : List Observation) → 1 ≤ in_observations k os
    → (p : Observation) × In p os × (p.number ≡ k) × (observation_of k os ≡ Some p)
found_of k [] h = absurd (omega (arith, h))
found_of k (o ∷ os) h = by (o.number == k) refl (found_of k os)
  where
    by : (b : Bool) → (o.number == k) ≡ b → (1 ≤ in_observations k os
        → (p : Observation) × In p os × (p.number ≡ k) × (observation_of k os ≡ Some p))
        → (p : Observation) × In p (o ∷ os) × (p.number ≡ k) × (cond b (Some o) (observation_of k os) ≡ Some p)
    by true e ih = (o, inl refl, same_number o.number k e, refl)
    by false e ih = let a : hit o.number k ≡ 0 = ap (λ b. cond b 1 0) e in let r =
        ih (omega (arith, a, h)) in (r.0, inr r.1, r.2, r.3)

found_changed : (k : ℕ) (f : Observation → Observation) → ((o : Observation) → (f o).number ≡ o.number)
    → (os : List Observation) (p : Observation) → observation_of k os ≡ Some p
    → observation_of k (map (λ (o : Observation). cond (o.number == k) (f o) o) os) ≡ Some (f p)
found_changed k f same [] p h = absurd (cc h)
found_changed k f same (o ∷ os) p h = by (o.number == k) refl h (found_changed k f same os p)
  where
    rest : List Observation
    rest = map (λ (x : Observation). cond (x.number == k) (f x) x) os

    by : (b : Bool) → (o.number == k) ≡ b → cond b (Some o) (observation_of k os) ≡ Some p
        → (observation_of k os ≡ Some p → observation_of k rest ≡ Some (f p))
        → observation_of k (cond b (f o) o ∷ rest) ≡ Some (f p)
    by true e h ih = let same_one : o ≡ p = cc h in ap (λ b. cond b (Some (f o)) (observation_of k rest))
        (ap (λ i. i == k) (same o) ∙ e) ∙ ap (λ x. Some (f x)) same_one
    by false e h ih = ap (λ b. cond b (Some o) (observation_of k rest)) e ∙ ih h

pub waits_there : (os : List Observation) (k : ℕ) → to_fetch os ≡ Some k
    → (p : Observation) × (n : Notified) × In p os × (p.number ≡ k) × (p.rest ≡ Some n)
waits_there [] k h = absurd (cc h)
waits_there (o ∷ os) k h = by o.rest refl h (waits_there os k)
  where
    by : (r : Option Notified) → o.rest ≡ r → cond (is_some r) (Some o.number) (to_fetch os) ≡ Some k
        → (to_fetch os ≡ Some k → (p : Observation) × (n : Notified) × In p os × (p.number ≡ k) × (p.rest ≡ Some n))
        → (p : Observation) × (n : Notified) × In p (o ∷ os) × (p.number ≡ k) × (p.rest ≡ Some n)
    by None e h ih = let r = ih h in (r.0, r.1, inr r.2, r.3, r.4)
    by (Some n) e h ih = (o, n, inl refl, cc h, e)

-- the block that is waited for

abbrev rest_in : Option Observation → Option Notified
rest_in None = None
rest_in (Some o) = o.rest

abbrev block_of : Option Notified → Option Block
block_of None = None
block_of (Some n) = n.fetch.asked

-- behind some parts a block is asked for
awaits_block : (o : Option Block) (tag : Option (List ℕ)) (p : Part) (parts : List Part) → Awaits o tag (p ∷ parts)
    → (b : Block) × (o ≡ Some b)
awaits_block None tag p parts h = absurd (cc h)
awaits_block (Some b) tag p parts h = (b, refl)

-- which operation is asked for: the first of the queue, the next request of a call, or a fetch
pub data AskSource (s : Own) (e : Effect) (op : Operation) : Type 0 where
  of_queue : (queue : List Operation) → s.queue ≡ op ∷ queue → e.own.observations ≡ s.observations → AskSource s e op
  of_call : (k : ℕ) (r : _) (t : _) → op ≡ Calling k r t → AskSource s e op
  of_fetch : (k : ℕ) → op ≡ Fetching k → to_fetch s.observations ≡ Some k → e.own.observations ≡ s.observations
      → AskSource s e op
  of_part : (k : ℕ) (n new : Notified) (b : Block) → op ≡ Fetching k → rest_of k s.observations ≡ Some n
      → new.fetch.asked ≡ Some b → e.own.observations ≡ with_rest k (Some new) s.observations → AskSource s e op

ask_source : (s : Own) (now : ℕ) (told : Option Event) (mo : Move s now told) (op : Operation)
    → (left_by s now told mo).deed ≡ Asks op → AskSource s (left_by s now told mo) op
ask_source s now told (mv.starts_next o queue none rest first q) op h = let e : o
    ≡ op = cc h in of_queue queue (first ∙ ap (λ x. x ∷ queue) e) refl
ask_source s now told (mv.fetches k none rest q) op h = let e : Fetching k ≡ op = cc h in of_fetch k (sym e) rest refl
ask_source s now told (mv.goes_on k r tr next a hears_it runs asks) op h = let e : Calling k r next
    ≡ op = cc h in of_call k r next (sym e)
ask_source s now told (mv.fetches_on k n a num size hears_it runs rest code asks) op h =
    let e : Fetching k ≡ op = cc h in of_part k n
    (record {
      sequence = n.sequence;
      fetch = Rattle.coap_block.specs.FetchStep.after n.fetch
          (Rattle.coap_client.specs.Responses.tag_in a) a.payload (verdict.Ask num size);
    })
    (record { num = num; szx = size }) (sym e) rest refl refl
ask_source s now told (mv.cancels k a hears_it runs) op h = absurd (releases_none _ op h)
ask_source s now told (mv.is_ended o a notes found note) op h = absurd (releases_none _ op h)
ask_source s now told (mv.fails e un) op h = absurd (by s.running h)
  where
    by : (running : Option Operation) → (failed (λ t. true) (lapse e) s running).deed ≡ Asks op → ⊥
    by None h = cc h
    by (Some (Calling k r t)) h = cc h
    by (Some (Registering k path)) h = cc h
    by (Some (Fetching k)) h = cc h
    by (Some Dropped) h = cc h
    by (Some (Cancelling k)) h = releases_none _ op h
ask_source s now told _ op h = absurd (cc h)

-- a registration that waits is of an observation that was taken
abbrev IsTaken : List Call → Operation → Type 0
IsTaken t (Registering k path) = WasObserved (record { number = k; path = path }) t
IsTaken t op = Unit {0}

taken_later : (t : List Call) (c : Call) (op : Operation) → IsTaken t op → IsTaken (c ∷ t) op
taken_later t c (Registering k path) h = inr h
taken_later t c _ h = tt

-- of a request with a token that was asked for, that is its token
cancel_token : (setup : Setup) (calls : List E.Call) → F.AreTokens setup.word calls
    → (r : E.Request) (token given : List ℕ)
    → r.token ≡ Some given → Ever (asked.AsksFor r token) calls → token ≡ given
cancel_token setup [] law r token given has h = absurd h
cancel_token setup (b ∷ calls) law r token given has (inl h) =
    let a = law.0.0.cancel given (ap F.cancels h.is ∙ has) in
    let e : Some token ≡ Some given = sym (ap F.begun h.is) ∙ a in
    cc e
cancel_token setup (b ∷ calls) law r token given has (inr h) = cancel_token setup calls law.1 r token given has h

module _ (sizes : Sizes) where
  all_taken : (t : List Call) → AllOf (IsTaken t) (own_of sizes t).queue
  all_taken = all_wait sizes IsTaken taken_later (λ t now r n. tt) (λ t now path n. inl refl) (λ t now n. tt)

  -- what is sent, as which message
  pub record SentAs (t : List Call) (x : Sending) : Type 0 where
    pub now : ℕ
    pub effect : Effect
    pub request : x.request ≡ message_of effect.own.observations x.operation
    pub source : AskSource (at now (own_of sizes t)) effect x.operation

  sent_turned : (t : List Call) (c : Call) (x : Sending) → Turned sizes t c → sends (own_of sizes t) c ≡ Some x
      → SentAs t x
  sent_turned t c x z h = by z.closes
    where
      e : Effect
      e = left_by (at z.now (own_of sizes t)) (max (own_of sizes t).clock z.now) z.told z.move

      by : Closing (max (own_of sizes t).clock z.now) e z.token → SentAs t x
      by (quiet q none own_same report_same) = let k : Some x ≡ None = sym h ∙ (z.sends_is ∙ none) in absurd (cc k)
      by (is_refused op why asks given none all) = let k : Some x ≡ None = sym h ∙ (z.sends_is ∙ none) in absurd (cc k)
      by (goes_out op key asks given sends_it own_same report_same) =
          let same : sending_of e op key ≡ x = (let k : Some (sending_of e op key) ≡ Some x = sym sends_it
          ∙ (sym z.sends_is ∙ h) in cc k) in
          let op_is : op ≡ x.operation = ap (λ (y : Sending). y.operation) same in
          record {
            now = z.now;
            effect = e;
            request = sym (ap (λ (y : Sending). y.request) same) ∙ ap (message_of e.own.observations) op_is;
            source = subst (AskSource (at z.now (own_of sizes t)) e) op_is
                (ask_source (at z.now (own_of sizes t)) (max (own_of sizes t).clock z.now) z.told z.move op asks);
          }

  pub sent_as : (t : List Call) (c : Call) (x : Sending) → sends (own_of sizes t) c ≡ Some x → SentAs t x
  sent_as t (Feeds now from bytes w up settled event sent token was) x h =
      sent_turned t (Feeds now from bytes w up settled event sent token was) x
      (fed_turned sizes t now from bytes w up settled event sent token was) h
  sent_as t (Ticks now w below turn sent token was answer) x h =
      sent_turned t (Ticks now w below turn sent token was answer) x
      (ticked_turned sizes t now w below turn sent token was answer) h
  sent_as t _ x h = absurd (cc h)

  -- a registration that is sent was the first of the queue
  registers_taken : (t : List Call) (x : Sending) (k : ℕ) (path : List (List ℕ)) → SentAs t x
      → x.operation ≡ Registering k path → WasObserved (record { number = k; path = path }) t
  registers_taken t x k path s op = by s.source
    where
      by : AskSource (at s.now (own_of sizes t)) s.effect x.operation
          → WasObserved (record { number = k; path = path }) t
      by (of_queue queue first left) = let h : AllOf (IsTaken t) (x.operation ∷ queue) =
          subst (AllOf (IsTaken t)) first (all_taken t) in subst (IsTaken t) op h.0
      by (of_call j r tr is) = let e : Registering k path ≡ Calling j r tr = sym op ∙ is in absurd (cc e)
      by (of_fetch j is rest left) = let e : Registering k path ≡ Fetching j = sym op ∙ is in absurd (cc e)
      by (of_part j n new b is rest asks left) = let e : Registering k path ≡ Fetching j = sym op ∙ is in absurd (cc e)

  pub sent_taken : (t : List Call) (x : Sending) (k : ℕ) (path : List (List ℕ)) → WasSent sizes x t
      → x.operation ≡ Registering k path → WasObserved (record { number = k; path = path }) t
  sent_taken [] x k path h op = absurd h
  sent_taken (c ∷ t) x k path (inl h) op = inr (registers_taken t x k path (sent_as t c x h) op)
  sent_taken (c ∷ t) x k path (inr h) op = inr (sent_taken t x k path h op)

  -- of one that is found

  path_is : (k : ℕ) (os : List Observation) (p : Observation) → observation_of k os ≡ Some p
      → observed_path k os ≡ p.path
  path_is k os p h = ap (λ x. elim x [ None ↦ [] | Some o ↦ o.path ]) h

  rest_is : (k : ℕ) (os : List Observation) (p : Observation) → observation_of k os ≡ Some p
      → fetch_of k os ≡ block_of p.rest
  rest_is k os p h = ap (λ x. block_of (rest_in x)) h

  module _ (server : Endpoint) (setup : Setup) where
    -- of one that is live
    of_live : (t : List Call) → ClientLaw server sizes setup t → (p : Observation) → In p (own_of sizes t).observations
        → Registered sizes t p.number p.path p.token
    of_live t law p there = live_in (Registered sizes t) (own_of sizes t).observations p
        (live sizes server setup t law) there

    one_of_number : (t : List Call) → ClientLaw server sizes setup t → (p : Observation)
        → In p (own_of sizes t).observations
        → observation_of p.number (own_of sizes t).observations ≡ Some p
    one_of_number t law p there = let a = most server sizes setup t law p.number in of_number
        (own_of sizes t).observations p there (omega (arith, a))

    path_taken : (t : List Call) → ClientLaw server sizes setup t → (p : Observation)
        → In p (own_of sizes t).observations
        → WasObserved (record { number = p.number; path = p.path }) t
    path_taken t law p there = let r = of_live t law p there in sent_taken t r.sending p.number p.path r.sent
        r.operation

    -- a fetch asks for the block that its observation waits for
    fetch_asks : (t : List Call) → ClientLaw server sizes setup t → (x : Sending) (k : ℕ)
        → (os : List Observation) (p q : Observation) (b : Block) → x.operation ≡ Fetching k
        → x.request ≡ message_of os x.operation → In p (own_of sizes t).observations → p.number ≡ k
        → observation_of k os ≡ Some q → q.path ≡ p.path → block_of q.rest ≡ Some b → IsOfObservation sizes k x t
    fetch_asks t law x k os p q b op request there number found same asks = record {
      path = p.path;
      taken = subst (λ i. WasObserved (record { number = i; path = p.path }) t) number (path_taken t law p there);
      asks = subst (λ o. AsksFor sizes o p.path x t) (sym op) (
        b,
        request ∙ (ap (message_of os) op ∙ (ap
            (λ path. get None (path_options path ++ block2_option (fetch_of k os))) (path_is k os q found ∙ same)
            ∙ ap (λ o. get None (path_options p.path ++ block2_option o)) (rest_is k os q found ∙ asks))),
      );
    }

    -- each operation
    registration_here : (t : List Call) (x : Sending) (k : ℕ) (path : List (List ℕ)) → (s : SentAs t x)
        → x.operation ≡ Registering k path → IsOfObservation sizes k x t
    registration_here t x k path s op = record {
      path = path;
      taken = registers_taken t x k path s op;
      asks = subst (λ o. AsksFor sizes o path x t) (sym op)
          (refl, s.request ∙ ap (message_of s.effect.own.observations) op);
    }

    fetch_here : (t : List Call) → ClientLaw server sizes setup t → (x : Sending) (k : ℕ) → (s : SentAs t x)
        → x.operation ≡ Fetching k → IsOfObservation sizes k x t
    fetch_here t law x k s op = by s.source
      where
        os : List Observation
        os = (own_of sizes t).observations

        by : AskSource (at s.now (own_of sizes t)) s.effect x.operation → IsOfObservation sizes k x t
        by (of_call j r tr is) = let e : Fetching k ≡ Calling j r tr = sym op ∙ is in absurd (cc e)
        by (of_queue queue first left) =
            let waits = (known server sizes setup t law.rows law.exchanges.rows).waits in
            let h : AllWait os (Fetching k ∷ queue) = subst (AllWait os) (first ∙ ap (λ o. o ∷ queue) op) waits in
            absurd h.0
        by (of_fetch j is rest left) =
            let n : j ≡ k = (let e : Fetching j ≡ Fetching k = sym is ∙ op in cc e) in
            let p = waits_there os j rest in
            let f : Fetched sizes t p.0.number p.1 = fetched sizes server setup t law p.0 p.2 p.1 p.4 in
            let b = awaits_block p.1.fetch.asked p.1.fetch.tag f.part f.rest f.gathered.awaits in
            let number : p.0.number ≡ k = p.3 ∙ n in
            fetch_asks t law x k os p.0 p.0 b.0 op (s.request ∙ ap (λ o. message_of o x.operation) left) p.2 number
            (subst (λ i. observation_of i os ≡ Some p.0) number (one_of_number t law p.0 p.2)) refl
            (ap block_of p.4 ∙ b.1)
        by (of_part j n new b is rest asks left) =
            let same : j ≡ k = (let e : Fetching j ≡ Fetching k = sym is ∙ op in cc e) in
            let p = found_rest j os n rest in
            let number : p.0.number ≡ k = p.2 ∙ same in
            let here : observation_of k os ≡ Some p.0 =
            subst (λ i. observation_of i os ≡ Some p.0) number (one_of_number t law p.0 p.1) in
            let f : Observation → Observation = λ o. record o { rest = Some new } in
            fetch_asks t law x k (with_rest k (Some new) os) p.0 (f p.0) b op
            (s.request ∙ (ap (λ o. message_of o x.operation) left
            ∙ ap (λ i. message_of (with_rest i (Some new) os) x.operation) same)) p.1 number
            (found_changed k f (λ o. refl) os p.0 here) refl asks

    cancel_here : (t : List Call) (c : Call) → ClientLaw server sizes setup (c ∷ t) → (x : Sending) (k : ℕ)
        → sends (own_of sizes t) c ≡ Some x → (s : SentAs t x) → x.operation ≡ Cancelling k
        → IsOfObservation sizes k x t
    cancel_here t c law x k is s op = by s.source
      where
        past : ClientLaw server sizes setup t
        past = client_back server sizes setup (c ∷ []) t law

        os : List Observation
        os = (own_of sizes t).observations

        by : AskSource (at s.now (own_of sizes t)) s.effect x.operation → IsOfObservation sizes k x t
        by (of_call j r tr e) = let z : Cancelling k ≡ Calling j r tr = sym op ∙ e in absurd (cc z)
        by (of_fetch j e rest left) = let z : Cancelling k ≡ Fetching j = sym op ∙ e in absurd (cc z)
        by (of_part j n new b e rest asks left) = let z : Cancelling k ≡ Fetching j = sym op ∙ e in absurd (cc z)
        by (of_queue queue first left) =
            let waits = (known server sizes setup t past.rows past.exchanges.rows).waits in
            let h : AllWait os (Cancelling k ∷ queue) = subst (AllWait os) (first ∙ ap (λ o. o ∷ queue) op) waits in
            let p = found_of k os h.0 in
            let r = of_live t past p.0 p.1 in
            let token_is : token_of k os ≡ Some p.0.token = ap (option_map (λ (o : Observation). o.token)) p.3 in
            let request : x.request ≡ get (Some p.0.token) (option observe (uint 1) ∷ path_options p.0.path) =
            s.request ∙ (ap (λ o. message_of o x.operation) left ∙ (ap (message_of os) op
            ∙ (ap (λ z. get z (option observe (uint 1) ∷ path_options (observed_path k os))) token_is
            ∙ ap (λ path. get (Some p.0.token) (option observe (uint 1) ∷ path_options path))
            (path_is k os p.0 p.3)))) in
            let key : x.token ≡ p.0.token = cancel_token setup (lower_of sizes (c ∷ t))
            (are_tokens server setup (lower_of sizes (c ∷ t)) law.exchanges.rows) x.request x.token p.0.token
            (ap (λ (q : E.Request). q.token) request) (was_asked sizes (c ∷ t) x (inl is)) in
            record {
              path = p.0.path;
              taken = subst (λ i. WasObserved (record { number = i; path = p.0.path }) t) p.2
                  (path_taken t past p.0 p.1);
              asks = subst (λ o. AsksFor sizes o p.0.path x t) (sym op) (
                request ∙ ap (λ z. get (Some z) (option observe (uint 1) ∷ path_options p.0.path)) (sym key),
                record {
                  path = p.0.path;
                  sending = r.sending;
                  sent = r.sent;
                  registers = r.operation ∙ ap (λ i. Registering i p.0.path) p.2;
                  token_is = r.token_is ∙ sym key;
                },
              );
            }

    here : (t : List Call) (c : Call) → ClientLaw server sizes setup (c ∷ t) → (x : Sending) (number : ℕ)
        → sends (own_of sizes t) c ≡ Some x → observation_for x.operation ≡ Some number
        → IsOfObservation sizes number x t
    here t c law x number is h = by x.operation refl h
      where
        by : (op : Operation) → x.operation ≡ op → observation_for op ≡ Some number → IsOfObservation sizes number x t
        by (Registering k path) e h = let n : k ≡ number =
            cc h in subst (λ i. IsOfObservation sizes i x t) n (registration_here t x k path (sent_as t c x is) e)
        by (Fetching k) e h = let n : k ≡ number =
            cc h in subst (λ i. IsOfObservation sizes i x t) n
            (fetch_here t (client_back server sizes setup (c ∷ []) t law) x k (sent_as t c x is) e)
        by (Cancelling k) e h = let n : k ≡ number =
            cc h in subst (λ i. IsOfObservation sizes i x t) n (cancel_here t c law x k is (sent_as t c x is) e)
        by _ e h = absurd (cc h)

    pub are_of_observations : (t : List Call) → ClientLaw server sizes setup t → AreOfObservations sizes t
    are_of_observations [] law = tt
    are_of_observations (c ∷ t) law = (
      here t c law,
      are_of_observations t
          (client_back server sizes setup (c ∷ []) t law),
    )
