-- What is sent for a call is what that call asks for, as it was taken.
use Rattle.std.proofs.Common.{◌≡◌, inl, inr, ℕ, max, Bool, true, false, cond, not, ◌&&◌, arith, Option, Some, None}
use Rattle.std.proofs.Common.{List, ◌∷◌, [], refl, ap, sym, subst, ◌∙◌, Ok, Err}
use Rattle.std.specs.Prelude.{◌==◌}
use Rattle.coap_types.specs.declared.block.Block.{Block}
use Rattle.coap_types.specs.declared.option_number.TheConstants.{BLOCK1 as block1}
use Rattle.coap_types.specs.MethodCode.{method_code}
use Rattle.coap_types.specs.declared.request.Method.{Method}
use Rattle.coap_types.specs.declared.request.Method.TheVariants.{Get, Post, Put, Delete}
use Rattle.coap_codec.specs.Message.{Message}
use Rattle.coap_block.specs.Sizes.{Sizes}
use Rattle.coap_block.specs.declared.fetch_verdict.Verdict.{Verdict}
use Rattle.coap_block.specs.declared.fetch_verdict.Verdict.TheVariants as verdict
use Rattle.coap_block.specs.FetchStep.{FetchState}
use Rattle.coap_block.specs.FetchStep as F
use Rattle.coap_block.specs.UploadStep.{UploadState, more_follows, moved, continues, Continues}
use Rattle.coap_exchange.specs.declared.asker.Event.{Event}
use Rattle.coap_client.specs.Trace.{Request, NoIds, BadBlock, Failed, Valid, Call, Calls, Observes, Cancels, Forgets}
use Rattle.coap_client.specs.Trace.{Feeds, Ticks, NextOut, NextReport, Asked}
use Rattle.coap_client.specs.Own.{Transfer, Fetches, Uploads, Single, Operation, Calling, Observation, Own}
use Rattle.coap_client.specs.Requests.{message_of, is_longer}
use Rattle.coap_client.specs.Responses.{content, valid, continue, tag_in, block_at, part}
use Rattle.coap_client.specs.Reports.{done, lapse}
use Rattle.coap_client.specs.Calls.{answer, has_tags}
use Rattle.coap_client.specs.Calls as calls
use Rattle.coap_client.specs.Effects.{Effect, has_sent, is_upload}
use Rattle.coap_client.specs.Events.{failed, closed}
use Rattle.coap_client.specs.Deeds.{at}
use Rattle.coap_client.specs.Queue.{transfer_of}
use Rattle.coap_client.specs.Law.{own_of}
use Rattle.coap_client.specs.Sendings.{Taken, WasTaken, takes, Sending, sends}
use Rattle.coap_client_laws.specs.Follows.Order.{call_of}
use Rattle.coap_client_laws.specs.Follows.OfCalls.{SendsBody, CarriesBody, IsOfCall, AreOfCalls, OthersAreGets}
use Rattle.coap_client.specs.Turns.Moves as mv
use Rattle.coap_client.specs.Turns.Moves.{Move, left_by}
use Rattle.coap_client_laws.proofs.Queueing.Closing.{Closing, quiet, goes_out, is_refused, sending_of}
use Rattle.coap_client_laws.proofs.Turning.BlockByBlock.{AllOf}
use Rattle.coap_client_laws.proofs.Turning.Turns.{Turned, fed_turned, ticked_turned}
use Rattle.coap_client_laws.proofs.Turning.Origins.{Origin, kept, begins, follows, origin}
use Rattle.coap_client_laws.proofs.Turning.AllWaiting.{all_wait}
use Rattle.coap_client_laws.proofs.Queueing.OneByOne.{sent_now}
use Rattle.coap_client_laws.proofs.Uploading.UploadSteps.{continues_is}

-- the size of blocks stays

failed_size : (u : Transfer → Bool) (report : _) (s : Own) (running : Option Operation)
    → (failed u report s running).own.sizes ≡ s.sizes
failed_size u report s (Some (Calling k r t)) = by (u t && is_upload t)
  where
    by : (b : Bool) → (cond b (record s { hold = Some s.sent }) s).sizes ≡ s.sizes
    by true = refl
    by false = refl
failed_size u report s _ = refl

move_size : (s : Own) (now : ℕ) (told : Option Event) (mo : Move s now told)
    → (left_by s now told mo).own.sizes ≡ s.sizes
move_size s now told (mv.is_done k r tr final rep a hears_it runs ends_so) = by (not final && is_upload tr)
  where
    by : (b : Bool) → (cond b (record s { hold = Some s.sent }) s).sizes ≡ s.sizes
    by true = refl
    by false = refl
move_size s now told (mv.fails e un) = failed_size (λ t. true) (lapse e) s s.running
move_size s now told _ = refl

turn_size : (sizes : Sizes) (t : List Call) (c : Call) → Turned sizes t c
    → (own_of sizes (c ∷ t)).sizes ≡ (own_of sizes t).sizes
turn_size sizes t c z = ap (λ (o : Own). o.sizes) z.own_is ∙ by z.closes
  where
    m : ℕ
    m = max (own_of sizes t).clock z.now

    e : Effect
    e = left_by (at z.now (own_of sizes t)) m z.told z.move

    moved_size : e.own.sizes ≡ (own_of sizes t).sizes
    moved_size = move_size (at z.now (own_of sizes t)) m z.told z.move

    by : Closing m e z.token → (closed m e e.deed z.token).own.sizes ≡ (own_of sizes t).sizes
    by (quiet q none own_same report_same) = ap (λ (o : Own). o.sizes) own_same ∙ moved_size
    by (goes_out op key asks given sends_it own_same report_same) = ap (λ (o : Own). o.sizes) own_same ∙ moved_size
    by (is_refused op why asks given none all) = ap (λ (x : Effect). x.own.sizes) all
        ∙ (failed_size has_sent NoIds e.own (Some op) ∙ moved_size)

size_step : (sizes : Sizes) (t : List Call) (c : Call) → (own_of sizes (c ∷ t)).sizes ≡ (own_of sizes t).sizes
size_step sizes t (Calls now r (Ok n)) = refl
size_step sizes t (Observes now path (Ok n)) = refl
size_step sizes t (Cancels now k None) = refl
size_step sizes t (Forgets k was true) = refl
size_step sizes t (Feeds now from bytes w up settled event sent token was) =
    turn_size sizes t (Feeds now from bytes w up settled event sent token was)
    (fed_turned sizes t now from bytes w up settled event sent token was)
size_step sizes t (Ticks now w below turn sent token was did) =
    turn_size sizes t (Ticks now w below turn sent token was did)
    (ticked_turned sizes t now w below turn sent token was did)
size_step sizes t _ = refl

pub size_is : (sizes : Sizes) (t : List Call) → (own_of sizes t).sizes ≡ sizes
size_is sizes [] = refl
size_is sizes (c ∷ t) = size_step sizes t c ∙ size_is sizes t

-- the transfer of a call, at its start and as it goes on

fresh_carries : (sizes : Sizes) (r : Request) (m : Method) → CarriesBody sizes m r.body (transfer_of sizes r m)
fresh_carries sizes r Get = refl
fresh_carries sizes r Delete = tt
fresh_carries sizes r _ = record { body_is = refl; num = omega arith; size = omega arith }

fetches_on : (sizes : Sizes) (m : Method) (body : List ℕ) (f g : FetchState) → F.sizes_of g ≡ F.sizes_of f
    → CarriesBody sizes m body (Fetches f) → CarriesBody sizes m body (Fetches g)
fetches_on sizes Get body f g same h = same ∙ h
fetches_on sizes _ body f g same h = h

moved_on : (sizes : Sizes) (body : List ℕ) (u : UploadState) (b : Block) → Continues u b → SendsBody sizes body u
    → SendsBody sizes body (moved u b)
moved_on sizes body u b k h =
    let s = h.size in
    record {
      body_is = h.body_is;
      num = k.4;
      size = elim k.3 [ inl same ↦ omega (arith, same, s) | inr less ↦ (let l = less.1 in omega (arith, l, s)) ];
    }

uploads_on : (sizes : Sizes) (m : Method) (body : List ℕ) (u : UploadState) (b : Block) → Continues u b
    → CarriesBody sizes m body (Uploads u) → CarriesBody sizes m body (Uploads (moved u b))
uploads_on sizes Post body u b k h = moved_on sizes body u b k h
uploads_on sizes Put body u b k h = moved_on sizes body u b k h
uploads_on sizes _ body u b k h = h

module _ (sizes : Sizes) (method : Method) (body : List ℕ) where
  abbrev Carried : Transfer → Type 0
  Carried t = CarriesBody sizes method body t

  asked_next : (t next : Transfer) → Carried t → calls.Asks t ≡ calls.Asks next → Carried next
  asked_next t next h is = let same : t ≡ next = cc is in subst Carried same h

  fetched_next : (f : FetchState) (m : Message) (v : Verdict) (next : Transfer) → Carried (Fetches f)
      → calls.fetched f m v ≡ calls.Asks next → Carried next
  fetched_next f m verdict.Again next h is = asked_next _ next (fetches_on sizes method body f _ refl h) is
  fetched_next f m (verdict.Ask num size) next h is = asked_next _ next (fetches_on sizes method body f _ refl h) is
  fetched_next f m _ next h is = absurd (cc is)

  continued_next : (u : UploadState) (o : Option Block) (next : Transfer) → Carried (Uploads u)
      → calls.continued u o ≡ calls.Asks next → Carried next
  continued_next u None next h is = absurd (cc is)
  continued_next u (Some b) next h is = by (continues u b) refl is
    where
      by : (c : Bool) → continues u b ≡ c → cond c (calls.Asks (Uploads (moved u b))) (calls.Ends false BadBlock)
          ≡ calls.Asks next → Carried next
      by true e k = asked_next _ next (uploads_on sizes method body u b (continues_is u b e) h) k
      by false e k = absurd (cc k)

  pub carries_on : (r : Request) (old next : Transfer) (m : Message) → Carried old → answer r old m ≡ calls.Asks next
      → Carried next
  carries_on r Single next m h is = absurd (cc is)
  carries_on r (Fetches f) next m h is = by (m.code == content) ((m.code == valid) && has_tags r.etags) is
    where
      by : (c d : Bool) → cond c (calls.fetched f m (part f m))
          (cond d (calls.Ends true (Valid (tag_in m))) (calls.Ends true (Failed m.code))) ≡ calls.Asks next
          → Carried next
      by true d k = fetched_next f m (part f m) next h k
      by false true k = absurd (cc k)
      by false false k = absurd (cc k)
  carries_on r (Uploads u) next m h is = by ((m.code == continue) && is_longer u)
      (more_follows u && calls.is_below_errors m.code) is
    where
      by : (c d : Bool) → cond c (calls.continued u (block_at block1 m))
          (cond d (calls.Ends true BadBlock) (calls.Ends true (done r.method m.code))) ≡ calls.Asks next → Carried next
      by true d k = continued_next u (block_at block1 m) next h k
      by false true k = absurd (cc k)
      by false false k = absurd (cc k)

-- what waits and what runs is of a call that was taken

abbrev pub IsTakenBy : Sizes → List Call → Operation → Type 0
IsTakenBy sizes t (Calling k r tr) = (q : Request) × WasTaken (record { number = k; request = q }) t
    × (r ≡ record q { body = [] }) × CarriesBody sizes q.method q.body tr
IsTakenBy sizes t op = Unit {0}

taken_later : (sizes : Sizes) (t : List Call) (c : Call) (op : Operation) → IsTakenBy sizes t op
    → IsTakenBy sizes (c ∷ t) op
taken_later sizes t c (Calling k r tr) h = (h.0, inr h.1, h.2, h.3)
taken_later sizes t c _ h = tt

-- a call that sends takes none
sends_takes : (s : Own) (c : Call) (x : Sending) (y : Taken) → sends s c ≡ Some x → takes c ≡ Some y → ⊥
sends_takes s (Calls now r did) x y h k = cc h
sends_takes s _ x y h k = cc k

before_it : (s : Own) (c : Call) (t : List Call) (x : Sending) (y : Taken) → sends s c ≡ Some x → WasTaken y (c ∷ t)
    → WasTaken y t
before_it s c t x y h (inl k) = absurd (sends_takes s c x y h k)
before_it s c t x y h (inr k) = k

-- a call fetches in the client's sizes
pub fetch_sizes : (sizes : Sizes) (m : Method) (body : List ℕ) (f : FetchState) → CarriesBody sizes m body (Fetches f)
    → F.sizes_of f ≡ sizes
fetch_sizes sizes Get body f h = h
fetch_sizes sizes _ body f h = absurd h

-- the message is that of the operation
module _ (sizes : Sizes) (t : List Call) (c : Call) (x : Sending) where
  abbrev SentAs : Type 0
  SentAs = (os : List Observation) × (x.request ≡ message_of os x.operation)

  sent_by_turn : Turned sizes t c → sends (own_of sizes t) c ≡ Some x → SentAs
  sent_by_turn z h = by z.closes
    where
      m : ℕ
      m = max (own_of sizes t).clock z.now

      e : Effect
      e = left_by (at z.now (own_of sizes t)) m z.told z.move

      by : Closing m e z.token → SentAs
      by (quiet q none own_same report_same) = let k : Some x ≡ None = sym h ∙ (z.sends_is ∙ none) in absurd (cc k)
      by (is_refused op why asks given none all) = let k : Some x ≡ None = sym h ∙ (z.sends_is ∙ none) in absurd (cc k)
      by (goes_out op key asks given sends_it own_same report_same) =
          let same : sending_of e op key ≡ x = (let k : Some (sending_of e op key) ≡ Some x = sym sends_it
          ∙ (sym z.sends_is ∙ h) in cc k) in
          (e.own.observations, subst (λ (y : Sending). y.request ≡ message_of e.own.observations y.operation) same refl)

pub sent_as : (sizes : Sizes) (t : List Call) (c : Call) (x : Sending) → sends (own_of sizes t) c ≡ Some x
    → SentAs sizes t c x
sent_as sizes t (Feeds now from bytes w up settled event sent token was) x h =
    sent_by_turn sizes t (Feeds now from bytes w up settled event sent token was) x
    (fed_turned sizes t now from bytes w up settled event sent token was) h
sent_as sizes t (Ticks now w below turn sent token was did) x h =
    sent_by_turn sizes t (Ticks now w below turn sent token was did) x
    (ticked_turned sizes t now w below turn sent token was did) h
sent_as sizes t _ x h = absurd (cc h)

module _ (sizes : Sizes) where
  abbrev pub IsTaken : List Call → Operation → Type 0
  IsTaken t op = IsTakenBy sizes t op

  all_taken : (t : List Call) → AllOf (IsTaken t) (own_of sizes t).queue
  all_taken = all_wait sizes IsTaken (taken_later sizes) (λ t now r n. (
    r,
    inl refl,
    refl,
    subst (λ m. CarriesBody sizes r.method r.body (transfer_of m r r.method))
        (sym (size_is sizes t)) (fresh_carries sizes r r.method),
  )) (λ t now path n. tt) (λ t now n. tt)

  taken_here : (t : List Call) (c : Call) (k : ℕ) (r : Request) (tr : Transfer) → Origin sizes t c k r tr
      → ((old : Transfer) → (own_of sizes t).running ≡ Some (Calling k r old) → IsTaken t (Calling k r old))
      → IsTaken (c ∷ t) (Calling k r tr)
  taken_here t c k r tr (kept runs none) ih = let h = ih tr runs in (h.0, inr h.1, h.2, h.3)
  taken_here t c k r tr (follows old m x runs heard asks sends_it op_is) ih = let h =
      ih old runs in (h.0, inr h.1, h.2, carries_on sizes h.0.method h.0.body r old tr m h.3 asks)
  taken_here t c k r tr (begins queue is) ih = let h : AllOf (IsTaken t) (Calling k r tr ∷ queue) =
      subst (AllOf (IsTaken t)) is (all_taken t) in let g = h.0 in (g.0, inr g.1, g.2, g.3)

  pub running_taken : (t : List Call) (k : ℕ) (r : Request) (tr : Transfer)
      → (own_of sizes t).running ≡ Some (Calling k r tr)
      → IsTaken t (Calling k r tr)
  running_taken [] k r tr is = absurd (cc is)
  running_taken (c ∷ t) k r tr is = taken_here t c k r tr (origin sizes t c k r tr is)
      (λ old runs. running_taken t k r old runs)

  of_call : (t : List Call) (c : Call) (x : Sending) (number : ℕ) → sends (own_of sizes t) c ≡ Some x → (op : Operation)
      → x.operation ≡ op → call_of op ≡ Some number → IsOfCall sizes number x t
  of_call t c x number h (Calling k r tr) is k_is =
      let same : k ≡ number = cc k_is in
      let g = running_taken (c ∷ t) k r tr ((sent_now sizes t c x h).runs ∙ ap (λ o. Some o) is) in
      let z = sent_as sizes t c x h in
      let asks : Operation = Calling number (record (g.0) { body = [] }) tr in
      let op_is : Calling k r tr ≡ asks = ap (λ n. Calling n r tr) same ∙ ap (λ q. Calling number q tr) g.2 in
      record {
        request = g.0;
        taken = subst (λ n. WasTaken (record { number = n; request = g.0 }) t) same
            (before_it (own_of sizes t) c t x (record { number = k; request = g.0 }) h g.1);
        transfer = tr;
        operation = is ∙ op_is;
        carries = g.3;
        message = z.1 ∙ ap (message_of z.0) (is ∙ op_is);
      }
  of_call t c x number h _ is k_is = absurd (cc k_is)

  pub are_of_calls : (t : List Call) → AreOfCalls sizes t
  are_of_calls [] = tt
  are_of_calls (c ∷ t) = ((λ x number h k. of_call t c x number h x.operation refl k), are_of_calls t)

-- what is sent for no call

get_by : (os : List Observation) (op : Operation) → call_of op ≡ None → (message_of os op).code ≡ (method_code Get).0
get_by os (Calling k r tr) h = absurd (cc h)
get_by os _ h = refl

pub others_are_gets : (sizes : Sizes) (t : List Call) → OthersAreGets sizes t
others_are_gets sizes [] = tt
others_are_gets sizes (c ∷ t) = (
  (λ x h k. let z = sent_as sizes t c x h in ap (λ r. r.code) z.1
      ∙ get_by z.0 x.operation k),
  others_are_gets sizes t,
)
