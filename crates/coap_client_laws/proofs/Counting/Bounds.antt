-- How many requests a call sends at most.
use Rattle.std.proofs.Common.{◌≡◌, ◌≤◌, ◌⊎◌, inl, inr, ℕ, ◌+◌, max, Bool, true, false, cond, nat_lt, Option, Some, None}
use Rattle.std.proofs.Common.{List, [], ◌∷◌, length, refl, ap, sym, subst, ◌∙◌, Ok, Err, arith}
use Rattle.std.specs.Prelude.{◌==◌}
use Rattle.coap_types.specs.Past.{Ever}
use Rattle.coap_types.proofs.Facts.Traces.{Ever_map}
use Rattle.coap_types.specs.declared.endpoint.Endpoint.{Endpoint}
use Rattle.coap_layer.specs.declared.setup.Setup.{Setup}
use Rattle.coap_block.specs.Sizes.{Sizes}
use Rattle.coap_client.specs.declared.refusals.CallRefusal.TheVariants.{QueueFull, BodyTooLarge, BadPath}
use Rattle.coap_client.specs.Trace.{Request, Call, Calls, Observes, Cancels, Forgets, Feeds, Ticks}
use Rattle.coap_client.specs.Own.{Transfer, Operation, Calling, Registering, Cancelling, Own}
use Rattle.coap_client.specs.Requests.{options_of}
use Rattle.coap_client.specs.Calls.{answer}
use Rattle.coap_client.specs.Queue.{are_long, block_option_number, is_full, taken_by, call_answer, transfer_of, calling}
use Rattle.coap_client.specs.Effects.{Effect}
use Rattle.coap_client.specs.Events.{happened, passes}
use Rattle.coap_client.specs.Deeds.{at}
use Rattle.coap_client.specs.Steps.{IsRight}
use Rattle.coap_client.specs.Law.{ClientLaw, ClientRows, own_of}
use Rattle.coap_client_laws.specs.Follows.Order.{call_of, turn_of}
use Rattle.coap_client_laws.specs.Follows.Begins.{WasSent}
use Rattle.coap_client_laws.specs.Follows.Numbers.{number_given, NumbersOnce}
use Rattle.coap_client.specs.Sendings.{Taken, takes, WasTaken, Sending, sends}
use Rattle.coap_client.proofs.Facts.Places.PlaceLemmas.{same_number, number_self}
use Rattle.coap_client_laws.proofs.Turning.BlockByBlock.{AllOf, all_uncancelled, happened_runs, passes_runs}
use Rattle.coap_client_laws.proofs.Turning.Turns.{closing}
use Rattle.coap_client_laws.proofs.Turning.Origins.{Origin, kept, begins, follows, origin}
use Rattle.coap_client_laws.proofs.Reporting.Bodies.{waits_closed}
use Rattle.coap_client_laws.proofs.Queueing.InTurn.{Turns, turns}
use Rattle.coap_client_laws.proofs.Queueing.RisingNumbers.{Rises}
use Rattle.coap_client_laws.proofs.Places.Numbers.{numbers_once}
use Rattle.coap_client_laws.proofs.Queueing.OneByOne.{sent_now}
use Rattle.coap_client_laws.specs.Follows.Bounds.{most_requests, one_of, one_sent, requests, AreBounded}
use Rattle.coap_client_laws.proofs.Turning.AllWaiting.{all_to, all_more}
use Rattle.coap_client_laws.proofs.Uploading.TransferSteps.{lt_not}
use Rattle.coap_client_laws.proofs.Counting.BoundedTransfers.{Within, begins_within, next_within, within_bound}
use Rattle.coap_client_laws.proofs.Sending.OfCalls.{size_is}

-- what waits was taken, and is at its start

abbrev pub taken : ℕ → Request → Taken
taken k q = record { number = k; request = q }

abbrev Waits : Sizes → List Call → Operation → Type 0
Waits sizes t (Calling k r tr) = (q : Request) × WasTaken (taken k q) t × (length q.body ≤ sizes.limit)
    × (tr ≡ transfer_of sizes q q.method)
Waits sizes t op = Unit {0}

waits_later : (sizes : Sizes) (t : List Call) (c : Call) (op : Operation) → Waits sizes t op → Waits sizes (c ∷ t) op
waits_later sizes t c (Calling k r tr) h = (h.0, inr h.1, h.2, h.3)
waits_later sizes t c _ h = tt

-- a call that is taken has a body that can be joined
body_small : (s : Own) (r : Request) (n : ℕ) → Ok n ≡ call_answer s r → length r.body ≤ s.sizes.limit
body_small s r n is = by (is_full s) (nat_lt s.sizes.limit (length r.body))
    (are_long (block_option_number r.method) (options_of r)) refl is
  where
    by : (a b c : Bool) → nat_lt s.sizes.limit (length r.body) ≡ b
        → Ok n ≡ cond a (Err QueueFull) (cond b (Err BodyTooLarge) (cond c (Err BadPath) (taken_by s)))
        → length r.body ≤ s.sizes.limit
    by true b c small e = absurd (cc e)
    by false true c small e = absurd (cc e)
    by false false c small e = lt_not s.sizes.limit (length r.body) small

call_turns : (op : Operation) (k : ℕ) → call_of op ≡ Some k → turn_of op ≡ Some k
call_turns (Calling n r t) k is = is
call_turns _ k is = absurd (cc is)

pub the_call : (op : Operation) (k : ℕ) → call_of op ≡ Some k → (r : Request) × (tr : Transfer) × (op ≡ Calling k r tr)
the_call (Calling n r t) k is = let e : n ≡ k = cc is in (r, t, ap (λ i. Calling i r t) e)
the_call _ k is = absurd (cc is)

-- counting

pub at_most_one : (k : ℕ) (o : Option Sending) → one_sent k o ≤ 1
at_most_one k None = omega arith
at_most_one k (Some x) = by (call_of x.operation)
  where
    by : (o : Option ℕ) → one_of k o ≤ 1
    by None = omega arith
    by (Some n) = go (n == k)
      where
        go : (b : Bool) → cond b 1 0 ≤ 1
        go true = omega arith
        go false = omega arith

-- a request is of this call, or of no use for it
pub sent_or_not : (k : ℕ) (o : Option Sending)
    → (one_sent k o ≡ 0) ⊎ ((x : Sending) × (o ≡ Some x) × (call_of x.operation ≡ Some k))
sent_or_not k None = inl refl
sent_or_not k (Some x) = by (call_of x.operation) refl
  where
    by : (o : Option ℕ) → call_of x.operation ≡ o
        → (one_of k o ≡ 0) ⊎ ((y : Sending) × (◌≡◌ {A = Option Sending} (Some x) (Some y))
        × (call_of y.operation ≡ Some k))
    by None is = inl refl
    by (Some n) is = go (n == k) refl
      where
        go : (b : Bool) → (n == k) ≡ b → (◌≡◌ {A = ℕ} (cond b 1 0) 0)
            ⊎ ((y : Sending) × (◌≡◌ {A = Option Sending} (Some x) (Some y)) × (call_of y.operation ≡ Some k))
        go true e = inr (x, refl, is ∙ ap (λ i. Some i) (same_number n k e))
        go false e = inl refl

module _ (sizes : Sizes) where
  none_sent : (k : ℕ) (t : List Call) → ((x : Sending) → WasSent sizes x t → call_of x.operation ≡ Some k → ⊥)
      → requests sizes k t ≡ 0
  none_sent k [] f = refl
  none_sent k (c ∷ t) f =
      elim (sent_or_not k (sends (own_of sizes t) c)) [
        | inl e ↦ (let ih = none_sent k t (λ x was. f x (inr was)) in omega (arith, e, ih))
        | inr h ↦ absurd (f h.0 (inl h.1) h.2)
      ]

  waits_step : (t : List Call) (c : Call) → IsRight (own_of sizes t) c
      → AllOf (Waits sizes (c ∷ t)) (own_of sizes t).queue
      → AllOf (Waits sizes (c ∷ t)) (own_of sizes (c ∷ t)).queue
  waits_step t (Calls now r (Ok n)) right h =
      all_more (Waits sizes (Calls now r (Ok n) ∷ t)) (own_of sizes t).queue (calling (own_of sizes t).sizes n r) h (
        r,
        inl refl,
        subst (λ (z : Sizes). length r.body ≤ z.limit) (size_is sizes t) (body_small (own_of sizes t) r n right),
        ap (λ i. transfer_of i r r.method) (size_is sizes t),
      )
  waits_step t (Observes now path (Ok n)) right h =
      all_more (Waits sizes (Observes now path (Ok n) ∷ t)) (own_of sizes t).queue (Registering n path) h tt
  waits_step t (Cancels now k None) right h = all_more (Waits sizes (Cancels now k None ∷ t)) (own_of sizes t).queue
      (Cancelling k) h tt
  waits_step t (Forgets k was true) right h = all_uncancelled k (Waits sizes (Forgets k was true ∷ t))
      (own_of sizes t).queue h
  waits_step t (Feeds now from bytes w up settled event sent token was) right h =
      let s : Own = own_of sizes t in
      let m : ℕ = max s.clock now in
      let e : Effect = happened (at now s) m event in
      let P : Operation → Type 0 = Waits sizes (Feeds now from bytes w up settled event sent token was ∷ t) in
      waits_closed P m e token ((happened_runs (at now s) m event).waits P h) (closing m e token)
  waits_step t (Ticks now w below turn sent token was answer) right h =
      let s : Own = own_of sizes t in
      let m : ℕ = max s.clock now in
      let e : Effect = passes (at now s) m turn in
      let P : Operation → Type 0 = Waits sizes (Ticks now w below turn sent token was answer ∷ t) in
      waits_closed P m e token ((passes_runs (at now s) m turn).waits P h) (closing m e token)
  waits_step t _ right h = h

  all_wait : (t : List Call) → ClientRows sizes t → AllOf (Waits sizes t) (own_of sizes t).queue
  all_wait [] rows = tt
  all_wait (c ∷ t) rows = waits_step t c rows.0
      (all_to (Waits sizes t) (Waits sizes (c ∷ t)) (waits_later sizes t c) (own_of sizes t).queue (all_wait t rows.1))

  -- the call that runs sent so many
  pub record Runs (t : List Call) (k : ℕ) (tr : Transfer) : Type 0 where
    pub request : Request
    pub taken_it : WasTaken (taken k request) t
    pub small : length request.body ≤ sizes.limit
    pub within : Within sizes request tr (requests sizes k t)

  pub started : (t : List Call) → ClientRows sizes t → (k : ℕ) (r : Request) (tr : Transfer) (queue : List Operation)
      → (own_of sizes t).queue ≡ Calling k r tr ∷ queue → requests sizes k t ≡ 0
  started t rows k r tr queue is =
      let h : Turns sizes t = turns sizes t rows in
      let w : Rises h.low (Calling k r tr ∷ queue) (own_of sizes t).taken =
      subst (λ ops. Rises h.low ops (own_of sizes t).taken) is h.waits in
      let low = w.0 in
      none_sent k t (λ x was of_it. (let less = h.sent x k was (call_turns x.operation k of_it) in absurd
      (omega (arith, less, low))))

  runs_here : (t : List Call) (c : Call) → ClientRows sizes t → (k : ℕ) (r : Request) (tr : Transfer)
      → Origin sizes t c k r tr → ((old : Transfer) → (own_of sizes t).running ≡ Some (Calling k r old) → Runs t k old)
      → Runs (c ∷ t) k tr
  runs_here t c rows k r tr (kept runs none) ih =
      let h = ih tr runs in
      let same : requests sizes k (c ∷ t) ≡ requests sizes k t = (let e = ap (one_sent k) none in omega (arith, e)) in
      record {
        request = h.request;
        taken_it = inr h.taken_it;
        small = h.small;
        within = subst (Within sizes h.request tr) (sym same) h.within;
      }
  runs_here t c rows k r tr (follows old m x runs heard asks sends_it op_is) ih =
      let h = ih old runs in
      let one : one_sent k (sends (own_of sizes t) c) ≡ 1 = ap (one_sent k) sends_it
      ∙ (ap (λ op. one_of k (call_of op)) op_is ∙ ap (λ b. cond b 1 0) (number_self k)) in
      let more : requests sizes k (c ∷ t) ≡ 1 + requests sizes k t = omega (arith, one) in
      record {
        request = h.request;
        taken_it = inr h.taken_it;
        small = h.small;
        within = subst (Within sizes h.request tr) (sym more)
            (next_within sizes h.request r m tr (requests sizes k t) old asks h.within);
      }
  runs_here t c rows k r tr (begins queue is) ih =
      let all : AllOf (Waits sizes t) (Calling k r tr ∷ queue) = subst (AllOf (Waits sizes t)) is (all_wait t rows) in
      let g = all.0 in
      let none = started t rows k r tr queue is in
      let one = at_most_one k (sends (own_of sizes t) c) in
      record {
        request = g.0;
        taken_it = inr g.1;
        small = g.2;
        within = subst (λ z. Within sizes g.0 z (requests sizes k (c ∷ t))) (sym g.3)
            (begins_within sizes g.0 g.0.method (requests sizes k (c ∷ t)) refl (omega (arith, none, one)));
      }

  pub runs_within : (t : List Call) → ClientRows sizes t → (k : ℕ) (r : Request) (tr : Transfer)
      → (own_of sizes t).running ≡ Some (Calling k r tr) → Runs t k tr
  runs_within [] rows k r tr is = absurd (cc is)
  runs_within (c ∷ t) rows k r tr is = runs_here t c rows.1 k r tr (origin sizes t c k r tr is)
      (λ old runs. runs_within t rows.1 k r old runs)

  -- so each call sent none, or so many
  abbrev Bounded : ℕ → List Call → Type 0
  Bounded k t = (requests sizes k t ≡ 0) ⊎ ((q : Request) × WasTaken (taken k q) t
      × (requests sizes k t ≤ most_requests sizes q q.method))

  bounded : (t : List Call) → ClientRows sizes t → (k : ℕ) → Bounded k t
  bounded [] rows k = inl refl
  bounded (c ∷ t) rows k = by (sent_or_not k (sends (own_of sizes t) c)) (bounded t rows.1 k)
    where
      by : (one_sent k (sends (own_of sizes t) c) ≡ 0)
          ⊎ ((x : Sending) × (sends (own_of sizes t) c ≡ Some x) × (call_of x.operation ≡ Some k)) → Bounded k t
          → Bounded k (c ∷ t)
      by (inl none) (inl zero) = inl (omega (arith, none, zero))
      by (inl none) (inr h) = inr (h.0, inr h.1, (let least = h.2 in omega (arith, none, least)))
      by (inr h) ih =
          let op = the_call h.0.operation k h.2 in
          let g = runs_within (c ∷ t) rows k op.0 op.1 ((sent_now sizes t c h.0 h.1).runs ∙ ap (λ o. Some o) op.2) in
          inr (g.request, g.taken_it, within_bound sizes g.request op.1 (requests sizes k (c ∷ t)) g.small g.within)

-- a number is given to one request

gives_number : (k : ℕ) (q : Request) (c : Call) → takes c ≡ Some (taken k q) → number_given c ≡ Some k
gives_number k q (Calls now r (Ok n)) is = let e : ◌≡◌ {A = Taken} (taken n r) (taken k q) =
    cc is in ap (λ (x : Taken). Some x.number) e
gives_number k q _ is = absurd (cc is)

given_before : (k : ℕ) (q : Request) (t : List Call) → WasTaken (taken k q) t → Ever (λ b. number_given b ≡ Some k) t
given_before k q t h = Ever_map (λ b. takes b ≡ Some (taken k q)) (λ b. number_given b ≡ Some k)
    (λ b is. gives_number k q b is) t h

pub one_request : (k : ℕ) (a b : Request) (t : List Call) → NumbersOnce t → WasTaken (taken k a) t
    → WasTaken (taken k b) t
    → a ≡ b
one_request k a b [] once h i = absurd h
one_request k a b (c ∷ t) once (inl h) (inl i) =
    let e : ◌≡◌ {A = Option Taken} (Some (taken k a)) (Some (taken k b)) = sym h
    ∙ i in let z : taken k a ≡ taken k b = cc e in ap (λ (x : Taken). x.request) z
one_request k a b (c ∷ t) once (inl h) (inr i) = absurd (once.0 k (gives_number k a c h) (given_before k b t i))
one_request k a b (c ∷ t) once (inr h) (inl i) = absurd (once.0 k (gives_number k b c i) (given_before k a t h))
one_request k a b (c ∷ t) once (inr h) (inr i) = one_request k a b t once.1 h i

pub are_bounded : (server : Endpoint) (sizes : Sizes) (setup : Setup) (t : List Call) → ClientLaw server sizes setup t
    → AreBounded sizes t
are_bounded server sizes setup t law x was = by (bounded sizes t law.rows x.number)
  where
    by : Bounded sizes x.number t → requests sizes x.number t ≤ most_requests sizes x.request x.request.method
    by (inl none) = omega (arith, none)
    by (inr h) =
        let same : h.0 ≡ x.request = one_request x.number h.0 x.request t
        (numbers_once server sizes setup t law.rows law.exchanges.rows) h.1 was in
        subst (λ (q : Request). requests sizes x.number t ≤ most_requests sizes q q.method) same h.2
