-- Where an upload begins, each block of another was answered, or that ended and sends no more.
use Rattle.std.proofs.Common.{◌≡◌, ◌≤◌, ◌<◌, ◌⊎◌, inl, inr, ℕ, ◌+◌, not, cond, Bool, true, false, Option, Some, None}
use Rattle.std.proofs.Common.{List, [], ◌∷◌, refl, ap, sym, subst, ◌∙◌, arith}
use Rattle.std.specs.Prelude.{◌==◌}
use Rattle.std.proofs.Math.Nat.{lt_of_not-le}
use Rattle.coap_types.specs.Past.{Ever, Sometime, Always}
use Rattle.coap_types.specs.declared.endpoint.Endpoint.{Endpoint}
use Rattle.coap_types.specs.declared.transmission.TheConstants.{MAX_LATENCY_MS as max_latency}
use Rattle.coap_layer.specs.declared.setup.Setup.{Setup}
use Rattle.coap_codec.specs.Message.{Message}
use Rattle.coap_block.specs.Sizes.{Sizes}
use Rattle.coap_client.specs.Trace.{is_value, Reported, Call}
use Rattle.coap_client.specs.Own.{Uploads, Operation, Calling, Registering, Fetching, Cancelling, Dropped, Own}
use Rattle.coap_client.specs.Requests.{is_longer}
use Rattle.coap_client.specs.Responses.{continue}
use Rattle.coap_client.specs.Steps.{reports}
use Rattle.coap_client.specs.Law.{ClientLaw, own_of}
use Rattle.coap_client.specs.Sendings.{Sending, sends, hears, last_sent}
use Rattle.coap_client_laws.specs.Follows.Answered.{of_call}
use Rattle.coap_client_laws.specs.Follows.AnswersLastRequest.{Answers, AnswersLast}
use Rattle.coap_client_laws.specs.Follows.Begins.{WasSent}
use Rattle.coap_client_laws.specs.Follows.Blocks.{Carried, carried}
use Rattle.coap_client_laws.specs.Follows.Holds.{moment, is_upload_of, sends_of, SendsOf, EndsUnanswered}
use Rattle.coap_client_laws.specs.Follows.Order.{call_of, turn_of, HearsBy}
use Rattle.coap_client.specs.Places.{hit, in_running, places, final_of, gone}
use Rattle.coap_client.proofs.Facts.Turning.Leading.{client_back}
use Rattle.coap_client_laws.proofs.Uploading.Holds.{all_hold}
use Rattle.coap_client_laws.proofs.Uploading.Pieces.{answers_last}
use Rattle.coap_client_laws.proofs.Turning.Fates.{IsLone, Fate, runs_on, goes_on, ends_it, fate}
use Rattle.coap_client_laws.proofs.Uploading.Fate.{up_of}
use Rattle.coap_client.proofs.Facts.Places.Once.{known}
use Rattle.coap_client.proofs.Facts.Places.NumberSteps.{both_one}
use Rattle.coap_client_laws.proofs.Queueing.OneByOne.{are_in_order, sent_now, last_same, lone_call}
use Rattle.coap_client.proofs.Facts.Places.PlaceLemmas.{same_number, hit_self}
use Rattle.coap_client_laws.proofs.Sending.Moments.{moment_same, moment_from}
use Rattle.coap_client_laws.proofs.Uploading.FirstBlocks.{up_place}

-- an upload that runs has its place
-- the last report that is there
record Final (n : ℕ) (o : Option Reported) : Type 0 where
  report : Reported
  made : o ≡ Some report
  is : report.number ≡ n
  last : is_value report.report ≡ false

hit_same : (a n : ℕ) → 1 ≤ hit a n → a ≡ n
hit_same a n h = by (a == n) refl h
  where
    by : (b : Bool) → (a == n) ≡ b → 1 ≤ cond b 1 0 → a ≡ n
    by true e k = same_number a n e
    by false e k = absurd (omega (arith, k))

final_is : (n : ℕ) (o : Option Reported) → 1 ≤ final_of n o → Final n o
final_is n None h = absurd (omega (arith, h))
final_is n (Some x) h = by (is_value x.report) refl h
  where
    by : (b : Bool) → is_value x.report ≡ b → 1 ≤ cond b 0 (hit x.number n) → Final n (Some x)
    by true e k = absurd (omega (arith, k))
    by false e k = record { report = x; made = refl; is = hit_same x.number n k; last = e }

module _ (sizes : Sizes) where
  unanswered_gone : (k : ℕ) (t : List Call) → Sometime (EndsUnanswered sizes k) t → 1 ≤ gone sizes k t
  unanswered_gone k [] h = absurd h
  unanswered_gone k (c ∷ t) (inr h) = let ih = unanswered_gone k t h in omega (arith, ih)
  unanswered_gone k (c ∷ t) (inl h) =
      let a : final_of k (reports (own_of sizes t) c) ≡ final_of k (Some h.report) = ap (final_of k) h.made in
      let b : final_of k (Some h.report) ≡ hit h.report.number k = ap (λ v. cond v 0 (hit h.report.number k)) h.last in
      let d : hit h.report.number k ≡ 1 = ap (λ i. hit i k) h.is ∙ hit_self k in
      omega (arith, a, b, d)

  -- a block that was sent waits for its answer, was answered, or its upload ended without a final response
  pub data Lot (t : List Call) (x : Sending) (k : ℕ) : Type 0 where
    waits : (own_of sizes t).running ≡ Some x.operation → last_sent sizes t ≡ Some x → Lot t x k
    heard : Ever (HearsBy x.token) t → Lot t x k
    ended : Sometime (EndsUnanswered sizes k) t → Lot t x k

  -- the answer is to the request that waits
  heard_now : (t : List Call) (c : Call) (m : Message) (x : Sending) → Answers sizes t c m → last_sent sizes t ≡ Some x
      → hears c ≡ Some m → HearsBy x.token c
  heard_now t c m x a last is = let e : a.sending
      ≡ x = (let k : Some a.sending ≡ Some x = sym a.last ∙ last in cc k)
      in (m, is, sym a.token ∙ ap (λ (z : Sending). z.token) e)

  unanswered : (t : List Call) (c : Call) (k : ℕ) → Final k (reports (own_of sizes t) c) → hears c ≡ None
      → EndsUnanswered sizes k t c
  unanswered t c k f none = record {
    report = f.report;
    made = f.made;
    is = f.is;
    last = f.last;
    not_final = ap (λ (o : Option Message). elim o [ None ↦ false | Some m ↦ not (m.code == continue) ]) none;
  }

  lot_here : (t : List Call) (c : Call) → ((m : Message) → hears c ≡ Some m → Answers sizes t c m)
      → (x : Sending) (k : ℕ)
      → call_of x.operation ≡ Some k → Lot t x k → Lot (c ∷ t) x k
  lot_here t c answers x k is (heard h) = heard (inr h)
  lot_here t c answers x k is (ended h) = ended (inr h)
  lot_here t c answers x k is (waits runs last) = by (fate sizes t c x.operation (lone_call x.operation k is) runs)
    where
      over : (n : ℕ) → n ≡ k → 1 ≤ final_of n (reports (own_of sizes t) c) → (o : Option Message) → hears c ≡ o
          → Lot (c ∷ t) x k
      over n same final (Some m) e = heard (inl (heard_now t c m x (answers m e) last e))
      over n same final None e = ended (inl (unanswered t c k
          (final_is k (reports (own_of sizes t) c) (subst (λ i. 1 ≤ final_of i
          (reports (own_of sizes t) c)) same final))
          e))

      number_of : (op : Operation) (n : ℕ) → of_call op ≡ Some n → call_of op ≡ Some k → n ≡ k
      number_of (Calling i r tr) n a b = let p : Some n ≡ Some k = sym a ∙ b in cc p
      number_of (Registering i path) n a b = absurd (cc b)
      number_of (Fetching i) n a b = absurd (cc b)
      number_of (Cancelling i) n a b = absurd (cc b)
      number_of Dropped n a b = absurd (cc b)

      by : Fate sizes t c x.operation → Lot (c ∷ t) x k
      by (runs_on run none) = waits run (last_same sizes t c none ∙ last)
      by (goes_on n r tr next m y op_is hears_it asks sends_it y_is run) =
          heard (inl (heard_now t c m x (answers m hears_it) last hears_it))
      by (ends_it n number final none) = over n (number_of x.operation n number is) final (hears c) refl

  pub lot : (t : List Call) → AnswersLast sizes t → (x : Sending) (k : ℕ) → WasSent sizes x t
      → call_of x.operation ≡ Some k
      → Lot t x k
  lot [] answers x k was is = absurd was
  lot (c ∷ t) answers x k (inl now) is = let z = sent_now sizes t c x now in waits z.runs z.last
  lot (c ∷ t) answers x k (inr before) is = lot_here t c answers.0 x k is (lot t answers.1 x k before is)

  -- The upload of this call ended without a final response, and each of its datagrams is older than MAX_LATENCY at this
  -- moment.
  pub record Past (k till : ℕ) (t : List Call) : Type 0 where
    pub ended : Sometime (EndsUnanswered sizes k) t
    pub old : Always (λ earlier b. SendsOf sizes k earlier b → moment (own_of sizes earlier) b + max_latency < till) t

  none_since : (k till : ℕ) (t : List Call) → (Sometime
      (λ earlier b. SendsOf sizes k earlier b × (till ≤ moment (own_of sizes earlier) b + max_latency)) t → ⊥)
      → Always (λ earlier b. SendsOf sizes k earlier b → moment (own_of sizes earlier) b + max_latency < till) t
  none_since k till [] f = tt
  none_since k till (c ∷ t) f = (λ s. lt_of_not-le (λ le. f (inl (s, le))), none_since k till t (λ h. f (inr h)))

  module _ (server : Endpoint) (setup : Setup) where
    -- an upload that ended sends no more
    pub none_behind_end : (t : List Call) (c : Call) → ClientLaw server sizes setup (c ∷ t) → (k : ℕ)
        → Sometime (EndsUnanswered sizes k) t → SendsOf sizes k t c → ⊥
    none_behind_end t c law k over (inr copy) =
        let past = client_back server sizes setup (c ∷ []) t law in
        let kn = known server sizes setup t past.rows past.exchanges.rows in
        both_one (places k (own_of sizes t)) (gone sizes k t) _ (kn.one k) (up_place k (own_of sizes t) copy.1)
        (unanswered_gone k t over)
    none_behind_end t c law k over (inl s) = by (sends (own_of sizes t) c) refl s
      where
        kept : 1 ≤ gone sizes k (c ∷ t)
        kept = unanswered_gone k (c ∷ t) (inr over)

        by : (o : Option Sending) → sends (own_of sizes t) c ≡ o → sends_of k o ≡ true → ⊥
        by None is h = cc h
        by (Some z) is h =
            let kn = known server sizes setup (c ∷ t) law.rows law.exchanges.rows in
            let up : is_upload_of k (own_of sizes (c ∷ t)).running
            ≡ true = ap (is_upload_of k) (sent_now sizes t c z is).runs ∙ h in
            both_one (places k (own_of sizes (c ∷ t))) (gone sizes k (c ∷ t)) _ (kn.one k)
            (up_place k (own_of sizes (c ∷ t)) up) kept

    past_later : (t : List Call) (c : Call) → ClientLaw server sizes setup (c ∷ t) → (k till : ℕ) → Past k till t
        → Past k till (c ∷ t)
    past_later t c law k till p = record {
      ended = inr p.ended;
      old = (λ s. absurd (none_behind_end t c law k p.ended s), p.old);
    }

    -- where a first block is sent
    pub at_first : (t : List Call) (c : Call) → ClientLaw server sizes setup (c ∷ t)
        → (x y : Sending) (k : ℕ) (b : Carried) → sends (own_of sizes t) c ≡ Some y → WasSent sizes x t
        → call_of x.operation ≡ Some k
        → carried y.operation ≡ Some b → is_longer b.upload ≡ true → b.upload.num ≡ 0
        → Ever (HearsBy x.token) (c ∷ t) ⊎ Past k (moment (own_of sizes t) c) t
    at_first t c law x y k b sends_it was is carries longer zero =
        by (lot t (answers_last sizes server setup (c ∷ t) law).1 x k was is)
      where
        stops : (z : Sending) → sends (own_of sizes t) c ≡ Some z → sends (own_of sizes t) c ≡ None → ⊥
        stops z h none = let e : Some z ≡ None = sym h ∙ none in cc e

        by : Lot t x k → Ever (HearsBy x.token) (c ∷ t) ⊎ Past k (moment (own_of sizes t) c) t
        by (heard h) = inl (inr h)
        by (ended h) =
            let held = ((all_hold server sizes setup (c ∷ t) law).0 y b sends_it carries longer zero).held k h in
            inr (record { ended = h; old = none_since k (moment (own_of sizes t) c) t held })
        by (waits runs last) = then_ (fate sizes t c x.operation (lone_call x.operation k is) runs)
          where
            then_ : Fate sizes t c x.operation → Ever (HearsBy x.token) (c ∷ t) ⊎ Past k (moment (own_of sizes t) c) t
            then_ (runs_on run none) = absurd (stops y sends_it none)
            then_ (goes_on n r tr next m z op_is hears_it asks sends_z z_is run) =
                inl (inl (heard_now t c m x ((answers_last sizes server setup (c ∷ t) law).0 m hears_it) last hears_it))
            then_ (ends_it n number final none) = absurd (stops y sends_it none)

    -- .. and since
    pub record Gone (x : Sending) (k : ℕ) (t : List Call) : Type 0 where
      pub till : ℕ
      pub by : till ≤ (own_of sizes t).clock
      pub past : Past k till t

    carried_turn : (op : Operation) (b : Carried) → carried op ≡ Some b
        → (call_of op ≡ Some b.number) × (turn_of op ≡ Some b.number)
    carried_turn (Calling n r (Uploads u)) b h =
        let e : ◌≡◌ {A = Carried} (record { number = n; upload = u }) b = cc h in
        (ap (λ (z : Carried). Some z.number) e, ap (λ (z : Carried). Some z.number) e)
    carried_turn _ b h = absurd (cc h)

    call_turn : (op : Operation) (k : ℕ) → call_of op ≡ Some k → turn_of op ≡ Some k
    call_turn (Calling n r t) k h = h
    call_turn _ k h = absurd (cc h)

    pub since_first : (t : List Call) → ClientLaw server sizes setup t → (x y : Sending) (k : ℕ) (b : Carried)
        → WasSent sizes y t → WasSent sizes x t → call_of x.operation ≡ Some k
        → carried y.operation ≡ Some b → is_longer b.upload ≡ true → b.upload.num ≡ 0 → k < b.number
        → Ever (HearsBy x.token) t ⊎ Gone x k t
    since_first [] law x y k b first was is carries longer zero less = absurd first
    since_first (c ∷ t) law x y k b (inl first) (inl was) is carries longer zero less =
        let same : Some y ≡ Some x = sym first ∙ was in
        let e : y ≡ x = cc same in
        let a : Some b.number ≡ Some k = sym (carried_turn y.operation b carries).0
        ∙ (ap (λ (z : Sending). call_of z.operation) e ∙ is) in
        let n : b.number ≡ k = cc a in
        absurd (omega (arith, n, less))
    since_first (c ∷ t) law x y k b (inl first) (inr was) is carries longer zero less =
        elim (at_first t c law x y k b first was is carries longer zero) [
          | inl h ↦ inl h
          | inr p ↦ (let here = moment_same (own_of sizes t) c in inr
              (record { till = moment (own_of sizes t) c; by = omega (arith, here); past = past_later t c law k _ p }))
        ]
    since_first (c ∷ t) law x y k b (inr first) (inl was) is carries longer zero less =
        let le = ((are_in_order sizes server setup (c ∷ t) law).0).in_turn y x b.number k was first
        (carried_turn y.operation b carries).1 (call_turn x.operation k is) in
        absurd (omega (arith, le, less))
    since_first (c ∷ t) law x y k b (inr first) (inr was) is carries longer zero less =
        elim (since_first t (client_back server sizes setup (c ∷ []) t law) x y k b first was is carries longer zero
        less) [
          | inl h ↦ inl (inr h)
          | inr g ↦ (let here = moment_same (own_of sizes t) c in let from = moment_from
              (own_of sizes t) c in let till =
              g.by in inr (record {
                till = g.till;
                by = omega (arith, here, from, till);
                past = past_later t c law k g.till g.past;
              }))
        ]
