-- The requests of a call go out one by one, each where those before it were answered.
use Rattle.std.proofs.Common.{◌≡◌, ◌≤◌, inl, inr, ℕ, max, Bool, true, false, cond, not, ◌&&◌, Option, Some, None, List}
use Rattle.std.proofs.Common.{◌∷◌, [], refl, ap, sym, subst, ◌∙◌, Result, arith}
use Rattle.std.specs.Prelude.{◌==◌}
use Rattle.coap_types.specs.Past.{Ever}
use Rattle.coap_types.specs.declared.endpoint.Endpoint.{Endpoint}
use Rattle.coap_types.specs.declared.block.Block.{Block}
use Rattle.coap_types.specs.declared.option_number.TheConstants.{BLOCK1 as block1}
use Rattle.coap_layer.specs.declared.setup.Setup.{Setup}
use Rattle.coap_codec.specs.Message.{Message}
use Rattle.coap_block.specs.Sizes.{Sizes}
use Rattle.coap_block.specs.UploadStep.{UploadState, more_follows, moved, continues}
use Rattle.coap_exchange.specs.declared.asker.AskRefusal.{AskRefusal}
use Rattle.coap_exchange.specs.declared.asker.Event.{Event}
use Rattle.coap_client.specs.Trace.{Request, Requested, BadBlock, Call, Feeds, Ticks}
use Rattle.coap_client.specs.Own.{Transfer, Fetches, Uploads, Single, Operation, Calling, Registering, Fetching}
use Rattle.coap_client.specs.Own.{Cancelling, Dropped, Own}
use Rattle.coap_client.specs.Requests.{is_longer}
use Rattle.coap_client.specs.Responses.{continue, block_at}
use Rattle.coap_client.specs.Reports.{done}
use Rattle.coap_client.specs.Calls.{answer}
use Rattle.coap_client.specs.Calls as calls
use Rattle.coap_client.specs.Effects.{Asks, Effect}
use Rattle.coap_client.specs.Events.{failed, closed}
use Rattle.coap_client.specs.Deeds.{at}
use Rattle.coap_client.specs.Steps.{reports}
use Rattle.coap_client.specs.Law.{ClientLaw, own_of}
use Rattle.coap_client_laws.specs.Follows.Answered.{of_call}
use Rattle.coap_client_laws.specs.Follows.AnswersLastRequest.{Answers, AnswersLast}
use Rattle.coap_client.specs.Places.{hit, in_op, in_running, places, gone}
use Rattle.coap_client.specs.Sendings.{Sending, sends, sent_by, hears, last_sent}
use Rattle.coap_client.proofs.Facts.Places.PlaceLemmas.{hit_self}
use Rattle.coap_client_laws.proofs.Uploading.UploadSteps.{continues_is}
use Rattle.coap_client.proofs.Facts.Places.Once.{known}
use Rattle.coap_client.proofs.Facts.Places.NumberSteps.{both_one}
use Rattle.coap_client_laws.proofs.Uploading.Pieces.{answers_last}
use Rattle.coap_client.proofs.Facts.Turning.Leading.{client_back}
use Rattle.coap_client_laws.specs.Follows.Begins.{WasSent}
use Rattle.coap_client_laws.specs.Follows.Order.{call_of, is_last, HearsBy, InOrder, AreInOrder, OneLast}
use Rattle.coap_client.specs.Turns.Moves as mv
use Rattle.coap_client.specs.Turns.Moves.{Move, left_by}
use Rattle.coap_client_laws.proofs.Queueing.Closing.{Closing, quiet, goes_out, is_refused, sending_of}
use Rattle.coap_client.proofs.Facts.Turning.Moves.{releases_none}
use Rattle.coap_client_laws.proofs.Turning.Turns.{Turned, left_with, fed_turned, ticked_turned}
use Rattle.coap_client_laws.proofs.Turning.Fates.{IsLone, Fate, runs_on, goes_on, ends_it, fate}
use Rattle.coap_client_laws.proofs.Queueing.InTurn.{in_turn}

-- the operation that asks is the one that runs
pub asks_runs : (s : Own) (now : ℕ) (told : Option Event) (mo : Move s now told) (op : Operation)
    → (left_by s now told mo).deed ≡ Asks op → (left_by s now told mo).own.running ≡ Some op
asks_runs s now told (mv.starts_next o queue none rest first quiet_so) op h = let e : o
    ≡ op = cc h in ap (λ z. Some z) e
asks_runs s now told (mv.fetches k none rest quiet_so) op h = let e : Fetching k ≡ op = cc h in ap (λ z. Some z) e
asks_runs s now told (mv.goes_on k r tr next a hears runs asks) op h = let e : Calling k r next
    ≡ op = cc h in ap (λ z. Some z) e
asks_runs s now told (mv.fetches_on k n a num size hears runs rest code asks) op h = let e : Fetching k
    ≡ op = cc h in ap (λ z. Some z) e
asks_runs s now told (mv.cancels k a hears runs) op h = absurd (releases_none _ op h)
asks_runs s now told (mv.is_ended o a notes found note) op h = absurd (releases_none _ op h)
asks_runs s now told (mv.fails e un) op h = absurd (by s.running h)
  where
    by : (running : Option Operation) → (failed (λ t. true)
        (Rattle.coap_client.specs.Reports.lapse e) s running).deed ≡ Asks op → ⊥
    by None h = cc h
    by (Some (Calling k r t)) h = cc h
    by (Some (Registering k path)) h = cc h
    by (Some (Fetching k)) h = cc h
    by (Some Dropped) h = cc h
    by (Some (Cancelling k)) h = releases_none _ op h
asks_runs s now told _ op h = absurd (cc h)

-- where a request is sent, it is of the operation that runs then, and nothing is reported
pub record SentNow (sizes : Sizes) (t : List Call) (c : Call) (x : Sending) : Type 0 where
  pub runs : (own_of sizes (c ∷ t)).running ≡ Some x.operation
  pub none : reports (own_of sizes t) c ≡ None
  pub last : last_sent sizes (c ∷ t) ≡ Some x

module _ (sizes : Sizes) (t : List Call) (c : Call) (x : Sending) where
  last_now : sends (own_of sizes t) c ≡ Some x → last_sent sizes (c ∷ t) ≡ Some x
  last_now h = ap (λ z. elim z [ Some y ↦ Some y | None ↦ last_sent sizes t ]) h

  now_by : (now : ℕ) (e : Effect) (token : Result (List ℕ) AskRefusal) (request : Option Requested)
      → ((op : Operation) → e.deed ≡ Asks op → e.own.running ≡ Some op) → Closing now e token
      → own_of sizes (c ∷ t) ≡ left_with request (closed now e e.deed token)
      → sends (own_of sizes t) c ≡ sent_by e e.deed token → reports (own_of sizes t) c
      ≡ (closed now e e.deed token).report
      → sends (own_of sizes t) c ≡ Some x → SentNow sizes t c x
  now_by now e token request runs (quiet q none own_same report_same) own sending report h = let k : Some x
      ≡ None = sym h ∙ (sending ∙ none) in absurd (cc k)
  now_by now e token request runs (is_refused op why asks given none all) own sending report h = let k : Some x
      ≡ None = sym h ∙ (sending ∙ none) in absurd (cc k)
  now_by now e token request runs (goes_out op key asks given sends_it own_same report_same) own sending report h =
      let same : sending_of e op key ≡ x = (let k : Some (sending_of e op key) ≡ Some x = sym sends_it
      ∙ (sym sending ∙ h) in cc k) in
      record {
        runs = ap (λ (o : Own). o.running) own ∙ (ap (λ (o : Own). o.running) own_same
            ∙ (runs op asks ∙ ap (λ (z : Sending). Some z.operation) same));
        none = report ∙ report_same;
        last = last_now h;
      }

  now_turned : Turned sizes t c → sends (own_of sizes t) c ≡ Some x → SentNow sizes t c x
  now_turned k h =
      let m : ℕ = max (own_of sizes t).clock k.now in
      now_by m (left_by (at k.now (own_of sizes t)) m k.told k.move) k.token k.request
      (asks_runs (at k.now (own_of sizes t)) m k.told k.move) k.closes k.own_is k.sends_is k.reports_is h

pub sent_now : (sizes : Sizes) (t : List Call) (c : Call) (x : Sending) → sends (own_of sizes t) c ≡ Some x
    → SentNow sizes t c x
sent_now sizes t (Feeds now from bytes w up settled event sent token kept) x h =
    now_turned sizes t (Feeds now from bytes w up settled event sent token kept) x
    (fed_turned sizes t now from bytes w up settled event sent token kept) h
sent_now sizes t (Ticks now w below turn sent token kept answer) x h =
    now_turned sizes t (Ticks now w below turn sent token kept answer) x
    (ticked_turned sizes t now w below turn sent token kept answer) h
sent_now sizes t _ x h = absurd (cc h)

pub last_same : (sizes : Sizes) (t : List Call) (c : Call) → sends (own_of sizes t) c ≡ None
    → last_sent sizes (c ∷ t) ≡ last_sent sizes t
last_same sizes t c none = ap (λ z. elim z [ Some x ↦ Some x | None ↦ last_sent sizes t ]) none

-- a further request follows none that is the last
continued_more : (u : UploadState) (o : Option Block) (next : Transfer) → calls.continued u o ≡ calls.Asks next
    → more_follows u ≡ true
continued_more u None next h = absurd (cc h)
continued_more u (Some b) next h = by (continues u b) refl h
  where
    by : (c : Bool) → continues u b ≡ c → cond c (calls.Asks (Uploads (moved u b))) (calls.Ends false BadBlock)
        ≡ calls.Asks next → more_follows u ≡ true
    by true k h = (continues_is u b k).0
    by false k h = absurd (cc h)

not_last : (k : ℕ) (r : Request) (tr next : Transfer) (m : Message) → answer r tr m ≡ calls.Asks next
    → is_last (Calling k r tr) ≡ false
not_last k r (Fetches f) next m h = refl
not_last k r Single next m h = absurd (cc h)
not_last k r (Uploads u) next m h = ap not (by ((m.code == continue) && is_longer u)
    (more_follows u && calls.is_below_errors m.code) h)
  where
    by : (b p : Bool) → cond b (calls.continued u (block_at block1 m))
        (cond p (calls.Ends true BadBlock) (calls.Ends true (done r.method m.code))) ≡ calls.Asks next
        → more_follows u ≡ true
    by true p h = continued_more u (block_at block1 m) next h
    by false true h = absurd (cc h)
    by false false h = absurd (cc h)

pub lone_call : (op : Operation) (k : ℕ) → call_of op ≡ Some k → IsLone op
lone_call (Calling n r t) k h = tt
lone_call _ k h = absurd (cc h)

calls_of : (op : Operation) (k : ℕ) → call_of op ≡ Some k → of_call op ≡ Some k
calls_of (Calling n r t) k h = h
calls_of _ k h = absurd (cc h)

call_place : (op : Operation) (k : ℕ) → call_of op ≡ Some k → in_op k op ≡ 1
call_place (Calling n r t) k h = let e : n ≡ k = cc h in ap (hit n) (sym e) ∙ hit_self n
call_place _ k h = absurd (cc h)

module _ (sizes : Sizes) where
  -- A request of a call waits for its answer; or was answered, and the call runs on; or the call is over.
  pub data Place (t : List Call) (x : Sending) (k : ℕ) : Type 0 where
    waits : (own_of sizes t).running ≡ Some x.operation → last_sent sizes t ≡ Some x → Place t x k
    went_on : (op : Operation) → (own_of sizes t).running ≡ Some op → call_of op ≡ Some k → Ever (HearsBy x.token) t
        → is_last x.operation ≡ false → Place t x k
    is_gone : 1 ≤ gone sizes k t → Place t x k

  abbrev pub Placed : List Call → Type 0
  Placed t = (x : Sending) (k : ℕ) → WasSent sizes x t → call_of x.operation ≡ Some k → Place t x k

  gone_later : (k : ℕ) (t : List Call) (c : Call) → 1 ≤ gone sizes k t → 1 ≤ gone sizes k (c ∷ t)
  gone_later k t c h = omega (arith, h)

  -- the answer is to the request that waits
  heard_now : (t : List Call) (c : Call) (m : Message) (x : Sending) → Answers sizes t c m → last_sent sizes t ≡ Some x
      → hears c ≡ Some m → HearsBy x.token c
  heard_now t c m x a last is = let e : a.sending
      ≡ x = (let k : Some a.sending ≡ Some x = sym a.last ∙ last in cc k)
      in (m, is, sym a.token ∙ ap (λ (z : Sending). z.token) e)

  place_here : (t : List Call) (c : Call) (answers : (m : Message) → hears c ≡ Some m
      → Answers sizes t c m) (x : Sending)
      (k : ℕ) → call_of x.operation ≡ Some k → Place t x k → Place (c ∷ t) x k
  place_here t c answers x k is (is_gone h) = is_gone (gone_later k t c h)
  place_here t c answers x k is (waits runs last) = by (fate sizes t c x.operation (lone_call x.operation k is) runs)
    where
      by : Fate sizes t c x.operation → Place (c ∷ t) x k
      by (runs_on run none) = waits run (last_same sizes t c none ∙ last)
      by (goes_on n r tr next m y op_is heard asks sends_it y_is run) =
          let number : Some n ≡ Some k = ap call_of (sym op_is) ∙ is in
          went_on (Calling n r next) run number (inl (heard_now t c m x (answers m heard) last heard))
          (ap is_last op_is ∙ not_last n r tr next m asks)
      by (ends_it n number final none) = let e : n
          ≡ k = (let z : Some n ≡ Some k = sym number ∙ calls_of x.operation k is in cc z) in is_gone
          (subst (λ j. 1 ≤ gone sizes j (c ∷ t)) e (omega (arith, final)))
  place_here t c answers x k is (went_on op runs op_is heard last) = by (fate sizes t c op (lone_call op k op_is) runs)
    where
      by : Fate sizes t c op → Place (c ∷ t) x k
      by (runs_on run none) = went_on op run op_is (inr heard) last
      by (goes_on n r tr next m y is_call hears_it asks sends_it y_is run) = let number : Some n
          ≡ Some k = ap call_of (sym is_call) ∙ op_is in went_on (Calling n r next) run number (inr heard) last
      by (ends_it n number final none) = let e : n
          ≡ k = (let z : Some n ≡ Some k = sym number ∙ calls_of op k op_is in cc z) in is_gone
          (subst (λ j. 1 ≤ gone sizes j (c ∷ t)) e (omega (arith, final)))

  pub placed : (t : List Call) → AnswersLast sizes t → Placed t
  placed [] answers x k was is = absurd was
  placed (c ∷ t) answers x k (inl now) is = let z = sent_now sizes t c x now in waits z.runs z.last
  placed (c ∷ t) answers x k (inr before) is = place_here t c answers.0 x k is (placed t answers.1 x k before is)

  module _ (server : Endpoint) (setup : Setup) where
    -- what is sent of a call shows that it is not over
    not_gone : (t : List Call) (c : Call) → ClientLaw server sizes setup (c ∷ t) → (y : Sending) (k : ℕ)
        → sends (own_of sizes t) c ≡ Some y → call_of y.operation ≡ Some k → 1 ≤ gone sizes k t → ⊥
    not_gone t c law y k is number h =
        let z = sent_now sizes t c y is in
        let kn = known server sizes setup (c ∷ t) law.rows law.exchanges.rows in
        let a = ap (in_running k) z.runs in
        let b = call_place y.operation k number in
        both_one (places k (own_of sizes (c ∷ t))) (gone sizes k (c ∷ t)) _ (kn.one k) (omega (arith, a, b))
        (gone_later k t c h)

    ordered : (t : List Call) (c : Call) → ClientLaw server sizes setup (c ∷ t) → AnswersLast sizes (c ∷ t)
        → InOrder sizes t c
    ordered t c law answers = record {
      in_turn = in_turn sizes t c law.rows;
      none_with = λ y is. (sent_now sizes t c y is).none;
      none_behind = λ x y k is was first second last. behind x y k is last first second
          (placed t answers.1 x k was first);
      one_by_one = λ x y k is was first second. one x y k is first second (placed t answers.1 x k was first);
    }
      where
        silent : (y : Sending) → sends (own_of sizes t) c ≡ Some y → sends (own_of sizes t) c ≡ None → ⊥
        silent y is none = let k : Some y ≡ None = sym is ∙ none in cc k

        behind : (x y : Sending) (k : ℕ) → sends (own_of sizes t) c ≡ Some y → is_last x.operation ≡ true
            → call_of x.operation ≡ Some k → call_of y.operation ≡ Some k → Place t x k → ⊥
        behind x y k is last first second (is_gone h) = not_gone t c law y k is second h
        behind x y k is last first second (went_on op runs op_is heard other) = cc (last, other)
        behind x y k is last first second (waits runs was) =
            by (fate sizes t c x.operation (lone_call x.operation k first) runs)
          where
            by : Fate sizes t c x.operation → ⊥
            by (runs_on run none) = silent y is none
            by (goes_on n r tr next m z op_is heard asks sends_it z_is run) = let e : is_last x.operation
                ≡ false = ap is_last op_is ∙ not_last n r tr next m asks in cc (last, e)
            by (ends_it n number final none) = silent y is none

        one : (x y : Sending) (k : ℕ) → sends (own_of sizes t) c ≡ Some y → call_of x.operation ≡ Some k
            → call_of y.operation ≡ Some k → Place t x k → Ever (HearsBy x.token) (c ∷ t)
        one x y k is first second (is_gone h) = absurd (not_gone t c law y k is second h)
        one x y k is first second (went_on op runs op_is heard other) = inr heard
        one x y k is first second (waits runs was) = by (fate sizes t c x.operation
            (lone_call x.operation k first) runs)
          where
            by : Fate sizes t c x.operation → Ever (HearsBy x.token) (c ∷ t)
            by (runs_on run none) = absurd (silent y is none)
            by (goes_on n r tr next m z op_is heard asks sends_it z_is run) =
                inl (heard_now t c m x (answers.0 m heard) was heard)
            by (ends_it n number final none) = absurd (silent y is none)

    pub are_in_order : (t : List Call) → ClientLaw server sizes setup t → AreInOrder sizes t
    are_in_order [] law = tt
    are_in_order (c ∷ t) law = (
      ordered t c law (answers_last sizes server setup (c ∷ t) law),
      are_in_order t (client_back server sizes setup (c ∷ []) t law),
    )

    pub one_last : (t : List Call) → ClientLaw server sizes setup t → OneLast sizes t
    one_last t law = all t (are_in_order t law)
      where
        all : (t : List Call) → AreInOrder sizes t → OneLast sizes t
        all [] law x y k a b first second p q = absurd a
        all (c ∷ t) law x y k (inl a) (inl b) first second p q = cc (a, b)
        all (c ∷ t) law x y k (inl a) (inr b) first second p q = absurd (law.0.none_behind y x k a b second first q)
        all (c ∷ t) law x y k (inr a) (inl b) first second p q = absurd (law.0.none_behind x y k b a first second p)
        all (c ∷ t) law x y k (inr a) (inr b) first second p q = all t law.1 x y k a b first second p q
