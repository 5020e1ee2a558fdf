-- How many requests were sent, by the turns that were taken and the exchanges that a call makes at most.
use Rattle.std.proofs.Common.{◌≡◌, ◌≤◌, ℕ, ◌+◌, ◌*◌, max, true, false, cond, is_some, Option, Some, None}
use Rattle.std.proofs.Common.{List, [], ◌∷◌, refl, ap, sym, ◌∙◌, arith, Result, Ok}
use Rattle.std.specs.Prelude.{◌==◌}
use Rattle.std.specs.Option.{option_map}
use Rattle.coap_types.specs.declared.endpoint.Endpoint.{Endpoint}
use Rattle.coap_layer.specs.declared.setup.Setup.{Setup}
use Rattle.coap_block.specs.Sizes.{Sizes}
use Rattle.coap_codec.specs.Message.{Message}
use Rattle.coap_exchange.specs.declared.asker.AskRefusal.{AskRefusal}
use Rattle.coap_exchange.specs.declared.asker.Event.{Event}
use Rattle.coap_exchange.specs.declared.asker.Event.TheVariants as event_of
use Rattle.coap_client.specs.Deeds.{at}
use Rattle.coap_client.specs.Effects.{Deed, Asks, Effect}
use Rattle.coap_client.specs.Events.{failed, happened}
use Rattle.coap_client.specs.Law.{ClientLaw, own_of}
use Rattle.coap_client.specs.Own.{Operation, Calling, Registering, Fetching, Cancelling, Dropped, Own}
use Rattle.coap_client.specs.Reports.{lapse}
use Rattle.coap_client.specs.Sendings.{Sending, sends, sent_by, hears, last_sent, runs_call}
use Rattle.coap_client.specs.Trace.{Call, Feeds, Ticks}
use Rattle.coap_client.specs.Turns.Moves as mv
use Rattle.coap_client.specs.Turns.Moves.{Move, left_by}
use Rattle.coap_client.proofs.Facts.Places.PlaceLemmas.{same_number, number_self}
use Rattle.coap_client.proofs.Facts.Turning.Moves.{releases_none, happened_moves}
use Rattle.coap_client_laws.specs.Follows.Bounds.{one_of, requests}
use Rattle.coap_client_laws.specs.Follows.Bounds as bounds
use Rattle.coap_client_laws.specs.Follows.Ends.{Unsent, unsent}
use Rattle.coap_client_laws.specs.Follows.Order.{call_of}
use Rattle.coap_client_laws.specs.Follows.Taken.{waiting_of, is_turn, starts}
use Rattle.coap_client_laws.proofs.Counting.Bounds.{the_call, runs_within, taken}
use Rattle.coap_client_laws.proofs.Queueing.OneByOne.{sent_now, last_same}
use Rattle.coap_client_laws.proofs.Uploading.Pieces.{answers_last}
use Rattle.coap_given_back.specs.GivenBack.{one_sent, MakeAtMost}

deed_of : (e : Effect) (d : Deed) (token : Result (List ℕ) AskRefusal) (x : Sending) → sent_by e d token ≡ Some x
    → d ≡ Asks x.operation
deed_of e (Asks op) (Ok key) x h =
    ap (λ (o : Option Sending). elim o as (λ w. Deed) [ Some z ↦ Asks z.operation | None ↦ Asks op ]) h
deed_of e _ token x h = absurd (cc h)

-- the call that runs hears its answer, and asks for more
record GoesOn (s : Own) (ev : Event) (op : Operation) : Type 0 where
  number : ℕ
  of_it : call_of op ≡ Some number
  runs : runs_call number s.running ≡ true
  message : Message
  hears_it : ev ≡ event_of.Answer message

some_event : (a b : Event) → Some a ≡ Some b → a ≡ b
some_event a b h = cc h

runs_it : (s : Own) (k : ℕ) (op : Operation) → call_of op ≡ Some k → s.running ≡ Some op
    → runs_call k s.running ≡ true
runs_it s k (Calling n r t) of_it is =
    let same : n ≡ k = cc of_it in
    ap (runs_call k) is ∙ (ap (λ i. i == k) same ∙ number_self k)
runs_it s k _ of_it is = absurd (cc of_it)

asked_next : (s : Own) (now : ℕ) (ev : Event) (mo : Move s now (Some ev)) (op : Operation)
    → (left_by s now (Some ev) mo).deed ≡ Asks op → is_some (waiting_of op) ≡ true → GoesOn s ev op
asked_next s now ev (mv.starts_next o queue none rest first quiet_so) op h turn = absurd (cc quiet_so)
asked_next s now ev (mv.fetches k none rest quiet_so) op h turn = absurd (cc quiet_so)
asked_next s now ev (mv.goes_on k r tr next a hears_it runs asks) op h turn =
    let same : Calling k r next ≡ op = cc h in
    record {
      number = k;
      of_it = ap call_of (sym same);
      runs = runs_it s k (Calling k r tr) refl runs;
      message = a;
      hears_it = some_event ev (event_of.Answer a) hears_it;
    }
asked_next s now ev (mv.fetches_on k n a num size hears_it runs rest code asks) op h turn =
    let same : Fetching k ≡ op = cc h in
    let e : false ≡ true = ap (λ o. is_some (waiting_of o)) same ∙ turn in
    absurd (cc e)
asked_next s now ev (mv.cancels k a hears_it runs) op h turn = absurd (releases_none _ op h)
asked_next s now ev (mv.is_ended o a notes found note) op h turn = absurd (releases_none _ op h)
asked_next s now ev (mv.fails e un) op h turn = absurd (by s.running h)
  where
    by : (running : Option Operation) → (failed (λ t. true) (lapse e) s running).deed ≡ Asks op → ⊥
    by None h = cc h
    by (Some (Calling k r t)) h = cc h
    by (Some (Registering k path)) h = cc h
    by (Some (Fetching k)) h = cc h
    by (Some Dropped) h = cc h
    by (Some (Cancelling k)) h = releases_none _ op h
asked_next s now ev _ op h turn = absurd (cc h)

call_by : (k : ℕ) (op : Operation) → runs_call k (Some op) ≡ true → call_of op ≡ Some k
call_by k (Calling n r t) h = ap (λ i. Some i) (same_number n k h)
call_by k _ h = absurd (cc h)

module _ (server : Endpoint) (sizes : Sizes) (setup : Setup) where
  -- the exchanges of a call so far, and one where what was sent is of no call
  abbrev made : Option ℕ → List Call → ℕ
  made None t = 1
  made (Some k) t = requests sizes k t

  abbrev one : List Call → Call → ℕ
  one t c = one_sent server sizes setup t c

  pub record Counted (most sent started : ℕ) (t : List Call) : Type 0 where
    pub some : 1 ≤ most
    pub all : sent + 1 ≤ (1 + started) * most
    pub last : (y : Sending) → last_sent sizes t ≡ Some y → (o : Option ℕ) → call_of y.operation ≡ o
        → sent + 1 ≤ started * most + made o t

  more : (o : Option ℕ) (t : List Call) (c : Call) → made o t ≤ made o (c ∷ t)
  more None t c = omega arith
  more (Some k) t c = omega arith

  last_is : (t : List Call) (c : Call) (x : Sending) → sends (own_of sizes t) c ≡ Some x → (y : Sending)
      → last_sent sizes (c ∷ t) ≡ Some y → x ≡ y
  last_is t c x is y last = let e : Some x ≡ Some y = sym (sent_now sizes t c x is).last ∙ last in cc e

  one_more : (t : List Call) (c : Call) (x : Sending) → sends (own_of sizes t) c ≡ Some x → (k : ℕ)
      → call_of x.operation ≡ Some k → requests sizes k (c ∷ t) ≡ 1 + requests sizes k t
  one_more t c x is k of_it =
      let one : bounds.one_sent k (sends (own_of sizes t) c) ≡ 1 = ap (bounds.one_sent k) is
      ∙ (ap (λ o. one_of k o) of_it ∙ ap (λ b. cond b 1 0) (number_self k)) in
      omega (arith, one)

  some_made : (t : List Call) (y : Sending) → last_sent sizes t ≡ Some y → (o : Option ℕ) → call_of y.operation ≡ o
      → 1 ≤ made o t
  some_made [] y last o is = absurd (cc last)
  some_made (c ∷ t) y last o is = by (λ before. some_made t y before o is) (sends (own_of sizes t) c) refl
    where
      now : (x : Sending) → sends (own_of sizes t) c ≡ Some x → (p : Option ℕ) → call_of x.operation ≡ p
          → 1 ≤ made p (c ∷ t)
      now x sent None of_it = omega arith
      now x sent (Some k) of_it = let e = one_more t c x sent k of_it in omega (arith, e)

      by : (last_sent sizes t ≡ Some y → 1 ≤ made o t) → (z : Option Sending) → sends (own_of sizes t) c ≡ z
          → 1 ≤ made o (c ∷ t)
      by older None none =
          let before = older (sym (last_same sizes t c none) ∙ last) in
          let m = more o t c in
          omega (arith, before, m)
      by older (Some x) sent =
          now x sent o (ap (λ (z : Sending). call_of z.operation) (last_is t c x sent y last) ∙ is)

  one_by : (o : Option Sending) → cond (is_some o) 1 0 ≤ 1
  one_by None = omega arith
  one_by (Some x) = omega arith

  -- at the call itself nothing is sent
  pub begin : (most : ℕ) → 1 ≤ most → (t : List Call) (c : Call) → sends (own_of sizes t) c ≡ None
      → Counted most 0 0 (c ∷ t)
  begin most some t c none = record {
    some = some;
    all = omega (arith, some);
    last = λ y last o is. (let k = some_made (c ∷ t) y last o is in omega (arith, k));
  }

  -- a turn is taken
  pub next_turn : (most sent started : ℕ) (t : List Call) (c : Call) → Counted most sent started t
      → Counted most (one t c + sent) (1 + started) (c ∷ t)
  next_turn most sent started t c h =
      let one_is = one_by (sends (own_of sizes t) c) in
      let some = h.some in
      let all = h.all in
      record {
        some = h.some;
        all = omega (arith, one_is, some, all);
        last = λ y last o is. (
            let k = some_made (c ∷ t) y last o is in
            omega (arith, one_is, all, k));
      }

  -- nothing is sent
  pub no_more : (most sent started : ℕ) (t : List Call) (c : Call) → sends (own_of sizes t) c ≡ None
      → Counted most sent started t → Counted most (one t c + sent) started (c ∷ t)
  no_more most sent started t c none h =
      let zero : one t c ≡ 0 = ap (λ (o : Option Sending). cond (is_some o) 1 0) none in
      let all = h.all in
      record {
        some = h.some;
        all = omega (arith, zero, all);
        last = λ y last o is. (
            let k = h.last y (sym (last_same sizes t c none) ∙ last) o is in
            let m = more o t c in
            omega (arith, zero, k, m));
      }

  -- a request that is no turn is the next of the call that ran

  record Follows (t : List Call) (x : Sending) : Type 0 where
    number : ℕ
    of_it : call_of x.operation ≡ Some number
    before : Sending
    last : last_sent sizes t ≡ Some before
    same : call_of before.operation ≡ Some number

  follows : (t : List Call) (c : Call) → ClientLaw server sizes setup (c ∷ t) → starts (own_of sizes t) c ≡ false
      → (x : Sending) → sends (own_of sizes t) c ≡ Some x → is_some (waiting_of x.operation) ≡ true → Follows t x
  follows t (Ticks now w below u sent token kept answer) law none x is turn =
      let c : Call = Ticks now w below u sent token kept answer in
      let e : starts (own_of sizes t) c ≡ true =
      ap (λ (z : Option Sending). is_turn (elim z [
        | Some y ↦ Some y.operation
        | None ↦ option_map (λ (v : Unsent). v.operation) (unsent (own_of sizes t) c)
      ])) is ∙ turn in
      let k : false ≡ true = sym none ∙ e in
      absurd (cc k)
  follows t (Feeds now from bytes w up settled None sent token kept) law none x is turn = absurd (cc is)
  follows t (Feeds now from bytes w up settled (Some ev) sent token kept) law none x is turn =
      let c : Call = Feeds now from bytes w up settled (Some ev) sent token kept in
      let s : Own = own_of sizes t in
      let m : ℕ = max s.clock now in
      let k = happened_moves (at now s) m (Some ev) in
      let deed : (happened (at now s) m (Some ev)).deed ≡ Asks x.operation =
      deed_of (happened (at now s) m (Some ev)) (happened (at now s) m (Some ev)).deed token x is in
      let g = asked_next (at now s) m ev k.0 x.operation
      (ap (λ (z : Effect). z.deed) (sym k.1) ∙ deed) turn in
      let hears_it : hears c ≡ Some g.message =
      ap (λ i. hears (Feeds now from bytes w up settled (Some i) sent token kept)) g.hears_it in
      let a = (answers_last sizes server setup (c ∷ t) law).0 g.message hears_it in
      record {
        number = g.number;
        of_it = g.of_it;
        before = a.sending;
        last = a.last;
        same = call_by g.number a.sending.operation (a.number g.number g.runs);
      }
  follows t _ law none x is turn = absurd (cc is)

  pub one_goes_on : (most sent started : ℕ) (t : List Call) (c : Call) → ClientLaw server sizes setup (c ∷ t)
      → MakeAtMost server sizes setup most (c ∷ t) → starts (own_of sizes t) c ≡ false
      → ((x : Sending) → sends (own_of sizes t) c ≡ Some x → is_some (waiting_of x.operation) ≡ true)
      → Counted most sent started t → Counted most (one t c + sent) started (c ∷ t)
  one_goes_on most sent started t c law few none turns h = by (sends (own_of sizes t) c) refl
    where
      by : (z : Option Sending) → sends (own_of sizes t) c ≡ z → Counted most (one t c + sent) started (c ∷ t)
      by None is = no_more most sent started t c is h
      by (Some x) is =
          let f = follows t c law none x is (turns x is) in
          let one_is : one t c ≡ 1 = ap (λ (o : Option Sending). cond (is_some o) 1 0) is in
          let k = h.last f.before f.last (Some f.number) f.same in
          let m = one_more t c x is f.number f.of_it in
          let op = the_call x.operation f.number f.of_it in
          let r = runs_within sizes (c ∷ t) law.rows f.number op.0 op.1
          ((sent_now sizes t c x is).runs ∙ ap (λ o. Some o) op.2) in
          let limit = few (taken f.number r.request) r.taken_it in
          record {
            some = h.some;
            all = omega (arith, one_is, k, m, limit);
            last = λ y last o of_y. by_call f.number one_is k m o
                (sym (ap (λ (z : Sending). call_of z.operation) (last_is t c x is y last) ∙ of_y) ∙ f.of_it);
          }
        where
          by_call : (n : ℕ) → one t c ≡ 1 → sent + 1 ≤ started * most + requests sizes n t
              → requests sizes n (c ∷ t) ≡ 1 + requests sizes n t → (o : Option ℕ) → o ≡ Some n
              → (one t c + sent) + 1 ≤ started * most + made o (c ∷ t)
          by_call n one_is k m None e = absurd (cc e)
          by_call n one_is k m (Some i) e =
              let same : i ≡ n = cc e in
              let moved : requests sizes i (c ∷ t) ≡ requests sizes n (c ∷ t) =
              ap (λ j. requests sizes j (c ∷ t)) same in
              omega (arith, one_is, k, m, moved)
