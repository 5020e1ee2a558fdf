-- The registration of an observation is sent once.
use Rattle.std.proofs.Common.{◌≡◌, inl, inr, ℕ, max, Bool, true, false, cond, Some, None, List, ◌∷◌, []}
use Rattle.std.proofs.Common.{refl, ap, sym, subst, ◌∙◌, Ok, arith}
use Rattle.std.specs.Prelude.{◌==◌}
use Rattle.coap_types.specs.Past.{Ever}
use Rattle.coap_types.specs.declared.endpoint.Endpoint.{Endpoint}
use Rattle.coap_layer.specs.declared.setup.Setup.{Setup}
use Rattle.coap_block.specs.Sizes.{Sizes}
use Rattle.coap_client.specs.Trace.{Call, Calls, Observes, Cancels, Forgets, Feeds, Ticks}
use Rattle.coap_client.specs.Own.{Operation, Calling, Registering, Fetching, Cancelling, Own}
use Rattle.coap_client.specs.Effects.{Effect}
use Rattle.coap_client.specs.Events.{happened, passes}
use Rattle.coap_client.specs.Deeds.{at}
use Rattle.coap_client.specs.Queue.{calling}
use Rattle.coap_client.specs.Law.{ClientLaw, own_of}
use Rattle.coap_client_laws.specs.Follows.Begins.{WasSent}
use Rattle.coap_client_laws.specs.Follows.Live.{RegisteredOnce}
use Rattle.coap_client_laws.specs.Follows.Numbers.{number_given}
use Rattle.coap_client.specs.Places.{hit, in_op, in_running, in_queue}
use Rattle.coap_client.specs.Sendings.{Sending, sends}
use Rattle.coap_client_laws.proofs.Observing.AreThere.{was_given}
use Rattle.coap_client_laws.proofs.Observing.Notified.{most}
use Rattle.coap_client_laws.proofs.Observing.OfObservations.{AskSource, of_queue, of_call, of_fetch, of_part, SentAs}
use Rattle.coap_client_laws.proofs.Observing.OfObservations.{sent_as}
use Rattle.coap_client_laws.proofs.Observing.OfObservations.{sent_taken}
use Rattle.coap_client_laws.proofs.Places.Numbers.{numbers_once}
use Rattle.coap_client.proofs.Facts.Places.PlaceLemmas.{same_number, hit_self}
use Rattle.coap_client_laws.proofs.Queueing.OneByOne.{sent_now}
use Rattle.coap_client_laws.proofs.Reporting.Bodies.{waits_closed}
use Rattle.coap_client_laws.proofs.Turning.AllWaiting.{all_more}
use Rattle.coap_client_laws.proofs.Turning.BlockByBlock.{AllOf, all_uncancelled, happened_runs, passes_runs}
use Rattle.coap_client.proofs.Facts.Turning.Leading.{client_back}
use Rattle.coap_client_laws.proofs.Turning.Turns.{closing}

-- none of these operations is of the number
abbrev pub NoneOf : ℕ → List Operation → Type 0
NoneOf n ops = AllOf (λ op. in_op n op ≡ 0) ops

none_counted : (n : ℕ) (ops : List Operation) → in_queue n ops ≡ 0 → NoneOf n ops
none_counted n [] h = tt
none_counted n (op ∷ ops) h = (omega (arith, h), none_counted n ops (omega (arith, h)))

other_hit : (k n : ℕ) → (k ≡ n → ⊥) → hit k n ≡ 0
other_hit k n apart = by (k == n) refl
  where
    one_if : Bool → ℕ
    one_if b = cond b 1 0

    by : (b : Bool) → (k == n) ≡ b → one_if b ≡ 0
    by true e = absurd (apart (same_number k n e))
    by false e = refl

module _ (sizes : Sizes) (n : ℕ) where
  -- a call that doesn't give the number leaves the queue without it
  queue_next : (t : List Call) (c : Call) → (number_given c ≡ Some n → ⊥) → NoneOf n (own_of sizes t).queue
      → NoneOf n (own_of sizes (c ∷ t)).queue
  queue_next t (Calls now r (Ok k)) apart h =
      all_more (λ op. in_op n op ≡ 0) (own_of sizes t).queue (calling (own_of sizes t).sizes k r) h
      (other_hit k n (λ e. apart (ap (λ i. Some i) e)))
  queue_next t (Observes now path (Ok k)) apart h =
      all_more (λ op. in_op n op ≡ 0) (own_of sizes t).queue (Registering k path) h
      (other_hit k n (λ e. apart (ap (λ i. Some i) e)))
  queue_next t (Cancels now k None) apart h =
      all_more (λ op. in_op n op ≡ 0) (own_of sizes t).queue (Cancelling k) h refl
  queue_next t (Forgets k was true) apart h = all_uncancelled k (λ op. in_op n op ≡ 0) (own_of sizes t).queue h
  queue_next t (Feeds now from bytes w up settled event sent token was) apart h =
      let s : Own = own_of sizes t in
      let m : ℕ = max s.clock now in
      let e : Effect = happened (at now s) m event in
      waits_closed (λ op. in_op n op ≡ 0) m e token
      ((happened_runs (at now s) m event).waits (λ op. in_op n op ≡ 0) h) (closing m e token)
  queue_next t (Ticks now w below turn sent token was answer) apart h =
      let s : Own = own_of sizes t in
      let m : ℕ = max s.clock now in
      let e : Effect = passes (at now s) m turn in
      waits_closed (λ op. in_op n op ≡ 0) m e token
      ((passes_runs (at now s) m turn).waits (λ op. in_op n op ≡ 0) h) (closing m e token)
  queue_next t _ apart h = h

  -- its registration was sent
  pub record HasSent (t : List Call) : Type 0 where
    pub sending : Sending
    pub path : List (List ℕ)
    pub sent : WasSent sizes sending t
    pub operation : sending.operation ≡ Registering n path

  given_before : (t : List Call) → HasSent t → Ever (λ b. number_given b ≡ Some n) t
  given_before t h = was_given (record { number = n; path = h.path }) t
      (sent_taken sizes t h.sending n h.path h.sent h.operation)

  module _ (server : Endpoint) (setup : Setup) where
    -- so it waits no more
    pub none_waits : (t : List Call) → ClientLaw server sizes setup t → HasSent t → NoneOf n (own_of sizes t).queue
    none_waits [] law h = absurd h.sent
    none_waits (c ∷ t) law h = by h.sent (none_waits t (client_back server sizes setup (c ∷ []) t law))
      where
        by : WasSent sizes h.sending (c ∷ t) → (HasSent t → NoneOf n (own_of sizes t).queue)
            → NoneOf n (own_of sizes (c ∷ t)).queue
        by (inl now) ih =
            let runs : (own_of sizes (c ∷ t)).running ≡ Some (Registering n h.path) =
            (sent_now sizes t c h.sending now).runs ∙ ap (λ o. Some o) h.operation in
            let a = most server sizes setup (c ∷ t) law n in
            let b = ap (in_running n) runs in
            let d = hit_self n in
            none_counted n (own_of sizes (c ∷ t)).queue (omega (arith, a, b, d))
        by (inr before) ih =
            let earlier : HasSent t =
            record { sending = h.sending; path = h.path; sent = before; operation = h.operation } in
            let once = numbers_once server sizes setup (c ∷ t) law.rows law.exchanges.rows in
            queue_next t c (λ given. once.0 n given (given_before t earlier)) (ih earlier)

    -- what is sent of it was the first that waited
    not_again : (t : List Call) (c : Call) → ClientLaw server sizes setup t → HasSent t → (x : Sending)
        (path : List (List ℕ)) → sends (own_of sizes t) c ≡ Some x → x.operation ≡ Registering n path → ⊥
    not_again t c law h x path is op = by (sent_as sizes t c x is).source
      where
        s : SentAs sizes t x
        s = sent_as sizes t c x is

        by : AskSource (at s.now (own_of sizes t)) s.effect x.operation → ⊥
        by (of_queue queue first left) =
            let none : NoneOf n (x.operation ∷ queue) = subst (NoneOf n) first (none_waits t law h) in
            let a : in_op n (Registering n path) ≡ 0 = subst (λ o. in_op n o ≡ 0) op none.0 in
            let b = hit_self n in
            absurd (omega (arith, a, b))
        by (of_call j r tr e) = let z : Registering n path ≡ Calling j r tr = sym op ∙ e in cc z
        by (of_fetch j e rest left) = let z : Registering n path ≡ Fetching j = sym op ∙ e in cc z
        by (of_part j m new b e rest asks left) = let z : Registering n path ≡ Fetching j = sym op ∙ e in cc z

module _ (server : Endpoint) (sizes : Sizes) (setup : Setup) where
  pub registered_once : (t : List Call) → ClientLaw server sizes setup t → RegisteredOnce sizes t
  registered_once [] law x y n p q h k op other = absurd h
  registered_once (c ∷ t) law x y n p q (inl h) (inl k) op other = let z : Some x ≡ Some y = sym h ∙ k in cc z
  registered_once (c ∷ t) law x y n p q (inl h) (inr k) op other =
      absurd (not_again sizes n server setup t c (client_back server sizes setup (c ∷ []) t law)
      (record { sending = y; path = q; sent = k; operation = other }) x p h op)
  registered_once (c ∷ t) law x y n p q (inr h) (inl k) op other =
      absurd (not_again sizes n server setup t c (client_back server sizes setup (c ∷ []) t law)
      (record { sending = x; path = p; sent = h; operation = op }) y q k other)
  registered_once (c ∷ t) law x y n p q (inr h) (inr k) op other =
      registered_once t (client_back server sizes setup (c ∷ []) t law) x y n p q h k op other
