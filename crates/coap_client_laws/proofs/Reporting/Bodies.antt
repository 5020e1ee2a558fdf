-- A body that is reported is whole by the parts that the call took since it asked for the first block.
use Rattle.std.proofs.Common.{◌≡◌, inl, inr, ℕ, ◌+◌, max, Bool, true, false, cond, ◌&&◌, Option, Some, None, List, ◌∷◌}
use Rattle.std.proofs.Common.{◌++◌, [], refl, ap, sym, subst, ◌∙◌, Result, Ok, Err}
use Rattle.std.specs.Prelude.{◌==◌}
use Rattle.coap_types.specs.declared.block.Block.{Block}
use Rattle.coap_types.specs.declared.endpoint.Endpoint.{Endpoint}
use Rattle.coap_types.specs.declared.option_number.TheConstants.{BLOCK1 as block1}
use Rattle.coap_types.specs.declared.request.Method.{Method}
use Rattle.coap_types.specs.declared.request.Method.TheVariants.{Get}
use Rattle.coap_layer.specs.declared.setup.Setup.{Setup}
use Rattle.coap_codec.specs.Message.{Message}
use Rattle.coap_block.specs.Sizes.{Sizes}
use Rattle.coap_block.specs.declared.fetch_step.FetchRefusal.{FetchRefusal}
use Rattle.coap_block.specs.declared.fetch_step.FetchRefusal.TheVariants as refusal
use Rattle.coap_block.specs.declared.fetch_verdict.Verdict.{Verdict}
use Rattle.coap_block.specs.declared.fetch_verdict.Verdict.TheVariants as verdict
use Rattle.coap_block.specs.FetchStep.{FetchState}
use Rattle.coap_block.specs.FetchStep as F
use Rattle.coap_block.specs.declared.fetch_progress.Asked as fetch
use Rattle.coap_block.specs.Gathered.{part as part_of_block, payloads_of, Gathered}
use Rattle.coap_block.specs.UploadStep.{UploadState, more_follows, moved, continues}
use Rattle.coap_block.specs.Whole.{Part, Each, Whole}
use Rattle.coap_block.proofs.Facts.Laws.{gathered_by_part, whole_by_parts}
use Rattle.coap_exchange.specs.declared.asker.AskRefusal.{AskRefusal}
use Rattle.coap_client.specs.Trace.{Request, Report, Body, Valid, Failed, Done, BadBlock, NoIds, Call, Calls, Observes}
use Rattle.coap_client.specs.Trace.{Cancels, Forgets, Feeds, Ticks, NextOut, NextReport, Asked}
use Rattle.coap_client.specs.Own.{Transfer, Fetches, Uploads, Single, Operation, Calling, Registering, Cancelling, Own}
use Rattle.coap_client.specs.Requests.{is_longer}
use Rattle.coap_client.specs.Responses.{content, valid, continue, tag_in, format_in, block_at, part}
use Rattle.coap_client.specs.Reports.{refused, done, is_success}
use Rattle.coap_client.specs.Calls.{answer, has_tags}
use Rattle.coap_client.specs.Calls as calls
use Rattle.coap_client.specs.Effects.{Effect, has_sent, of}
use Rattle.coap_client.specs.Events.{closed, happened, passes}
use Rattle.coap_client.specs.Deeds.{at}
use Rattle.coap_client.specs.Queue.{transfer_of, calling}
use Rattle.coap_client.specs.Steps.{reports}
use Rattle.coap_client.specs.Law.{ClientLaw, own_of}
use Rattle.coap_client_laws.specs.Follows.AnswersLastRequest.{Answers, AnswersLast}
use Rattle.coap_client.specs.Sendings.{Sending, sends, hears, last_sent, runs_call}
use Rattle.coap_client.proofs.Facts.Places.PlaceLemmas.{same_number, number_self}
use Rattle.coap_client_laws.proofs.Turning.BlockByBlock.{AllOf, all_uncancelled, failed_runs, happened_runs}
use Rattle.coap_client_laws.proofs.Turning.BlockByBlock.{passes_runs}
use Rattle.coap_client.proofs.Facts.Places.Once.{beneath}
use Rattle.coap_client_laws.proofs.Uploading.SentSoFar.{Tracked, IfTracked, all_behind as all_more}
use Rattle.coap_client_laws.proofs.Uploading.AllSent.{all_sends}
use Rattle.coap_client_laws.proofs.Uploading.Pieces.{answers_last}
use Rattle.coap_client.proofs.Facts.Turning.Leading.{client_back}
use Rattle.coap_client_laws.specs.Follows.Bodies.{is_first, is_first_of, HeardFor, TookPart, IsFetched, BodiesAreWhole}
use Rattle.coap_client_laws.specs.Follows.Order.{call_of}
use Rattle.coap_client_laws.proofs.Queueing.Closing.{Closing, quiet, goes_out, is_refused}
use Rattle.coap_client_laws.proofs.Turning.Turns.{closing}
use Rattle.coap_client_laws.proofs.Reporting.AnswerReports.{GivesReport, gives_of}
use Rattle.coap_client_laws.proofs.Turning.Origins.{Origin, kept, begins, follows, origin}
use Rattle.coap_client_laws.proofs.Sending.LiveTokens.{last_was_sent}
use Rattle.coap_client_laws.proofs.Reporting.FetchedParts.{FetchNext, alone_first, fetch_next, gathered_none, part_asks}
use Rattle.coap_client_laws.proofs.Reporting.FetchedParts.{part_done}

-- which answer gives a body

abbrev is_body : Report → Bool
is_body (Body tag format body) = true
is_body report = false

refused_none : (why : FetchRefusal) → is_body (refused why) ≡ false
refused_none refusal.Changed = refl
refused_none _ = refl

done_none : (method : Method) (code : ℕ) → is_body (done method code) ≡ false
done_none method code = by (is_success method code)
  where
    by : (b : Bool) → is_body (cond b (Done code) (Failed code)) ≡ false
    by true = refl
    by false = refl

-- a call is over with a body
record GivesBody (s : Own) (heard : Option Message) (k : ℕ) (report : Report) : Type 0 where
  pub request : Request
  pub fetch : FetchState
  pub message : Message
  pub runs : s.running ≡ Some (Calling k request (Fetches fetch))
  pub heard_it : heard ≡ Some message
  pub code : message.code ≡ content
  pub done_so : part fetch message ≡ verdict.Done
  pub is : report ≡ Body (tag_in message) (format_in message) (fetch.gathered ++ message.payload)

record DoneAs (tr : Transfer) (m : Message) (report : Report) : Type 0 where
  fetch : FetchState
  transfer : tr ≡ Fetches fetch
  code : m.code ≡ content
  done_so : part fetch m ≡ verdict.Done
  is : report ≡ Body (tag_in m) (format_in m) (fetch.gathered ++ m.payload)

abbrev report_next : calls.Next → Option Report
report_next (calls.Asks t) = None
report_next (calls.Ends final report) = Some report

abbrev has_body : Option Report → Bool
has_body None = false
has_body (Some report) = is_body report

continued_body : (u : UploadState) (o : Option Block) → has_body (report_next (calls.continued u o)) ≡ false
continued_body u None = refl
continued_body u (Some b) = by (continues u b)
  where
    by : (c : Bool) → has_body (report_next (cond c (calls.Asks (Uploads (moved u b))) (calls.Ends false BadBlock)))
        ≡ false
    by true = refl
    by false = refl

upload_body : (method : Method) (u : UploadState) (m : Message) → has_body (report_next (calls.sent method u m)) ≡ false
upload_body method u m = by ((m.code == continue) && is_longer u) (more_follows u && calls.is_below_errors m.code)
  where
    by : (b p : Bool) → has_body (report_next (cond b (calls.continued u (block_at block1 m))
        (cond p (calls.Ends true BadBlock) (calls.Ends true (done method m.code))))) ≡ false
    by true p = continued_body u (block_at block1 m)
    by false true = refl
    by false false = done_none method m.code

done_as : (r : Request) (tr : Transfer) (m : Message) (final : Bool) (report : Report)
    → answer r tr m ≡ calls.Ends final report → is_body report ≡ true → DoneAs tr m report
done_as r Single m final report h body = let a : is_body (done r.method m.code)
    ≡ true = (let e : Some (done r.method m.code) ≡ Some report = ap report_next h in ap has_body e ∙ body) in let b =
    done_none r.method m.code in absurd (cc (a, b))
done_as r (Uploads u) m final report h body = let a : has_body (report_next (calls.sent r.method u m))
    ≡ true = ap (λ n. has_body (report_next n)) h ∙ body in let b = upload_body r.method u m in absurd (cc (a, b))
done_as r (Fetches f) m final report h body = by (m.code == content) refl ((m.code == valid) && has_tags r.etags) h
  where
    by_verdict : m.code ≡ content → (v : Verdict) → part f m ≡ v → calls.fetched f m v ≡ calls.Ends final report
        → DoneAs (Fetches f) m report
    by_verdict code (verdict.Refuse why) is h = let a : is_body (refused why)
        ≡ true = ap (λ n. has_body (report_next n)) h ∙ body in let b = refused_none why in absurd (cc (a, b))
    by_verdict code verdict.Again is h = absurd (cc h)
    by_verdict code (verdict.Ask num size) is h = absurd (cc h)
    by_verdict code verdict.Done is h = let e : Some (Body (tag_in m) (format_in m) (f.gathered ++ m.payload))
        ≡ Some report = ap report_next h in record
        { fetch = f; transfer = refl; code = code; done_so = is; is = sym (cc e) }

    by : (c : Bool) → (m.code == content) ≡ c → (d : Bool)
        → cond c (calls.fetched f m (part f m)) (cond d (calls.Ends true (Valid (tag_in m)))
        (calls.Ends true (Failed m.code))) ≡ calls.Ends final report → DoneAs (Fetches f) m report
    by true is d h = by_verdict (same_number m.code content is) (part f m) refl h
    by false is true h = let a : false ≡ true = ap (λ n. has_body (report_next n)) h ∙ body in absurd (cc a)
    by false is false h = let a : false ≡ true = ap (λ n. has_body (report_next n)) h ∙ body in absurd (cc a)

pub each_append : (P : Part → Type 0) (xs : List Part) (y : Part) → Each P xs → P y → Each P (xs ++ y ∷ [])
each_append P [] y h k = (k, tt)
each_append P (x ∷ xs) y h k = (h.0, each_append P xs y h.1 k)

pub each_map : (P Q : Part → Type 0) → ((p : Part) → P p → Q p) → (xs : List Part) → Each P xs → Each Q xs
each_map P Q f [] h = tt
each_map P Q f (x ∷ xs) h = (f x h.0, each_map P Q f xs h.1)

-- a GET that waits has taken nothing
abbrev pub IsNew : Operation → Type 0
IsNew (Calling k r (Fetches f)) = (sizes : Sizes) × (f ≡ F.start sizes 0)
IsNew op = Unit {0}

new_call : (sizes : Sizes) (k : ℕ) (r : Request) (method : Method)
    → IsNew (Calling k (record r { body = [] }) (transfer_of sizes r method))
new_call sizes k r Get = (sizes, refl)
new_call sizes k r _ = tt

pub waits_closed : (P : Operation → Type 0) (now : ℕ) (e : Effect) (token : Result (List ℕ) AskRefusal)
    → AllOf P e.own.queue → Closing now e token → AllOf P (closed now e e.deed token).own.queue
waits_closed P now e token h (quiet q none own_same report_same) = subst (λ (o : Own). AllOf P o.queue) (sym own_same) h
waits_closed P now e token h (goes_out op key asks given sends_it own_same report_same) =
    subst (λ (o : Own). AllOf P o.queue) (sym own_same) h
waits_closed P now e token h (is_refused op why asks given none all) =
    subst (λ (x : Effect). AllOf P x.own.queue) (sym all) ((failed_runs e.own has_sent NoIds (Some op)).waits P h)

module _ (sizes : Sizes) where
  pub all_new : (t : List Call) → AllOf IsNew (own_of sizes t).queue
  all_new [] = tt
  all_new (Calls now r (Ok n) ∷ t) = all_more IsNew (own_of sizes t).queue (calling (own_of sizes t).sizes n r)
      (all_new t)
      (new_call (own_of sizes t).sizes n r r.method)
  all_new (Observes now path (Ok n) ∷ t) = all_more IsNew (own_of sizes t).queue (Registering n path) (all_new t) tt
  all_new (Cancels now k None ∷ t) = all_more IsNew (own_of sizes t).queue (Cancelling k) (all_new t) tt
  all_new (Forgets k was true ∷ t) = all_uncancelled k IsNew (own_of sizes t).queue (all_new t)
  all_new (Feeds now from bytes w up settled event sent token was ∷ t) =
      let s : Own = own_of sizes t in
      let m : ℕ = max s.clock now in
      let e : Effect = happened (at now s) m event in
      waits_closed IsNew m e token ((happened_runs (at now s) m event).waits IsNew (all_new t)) (closing m e token)
  all_new (Ticks now w below turn sent token was answer ∷ t) =
      let s : Own = own_of sizes t in
      let m : ℕ = max s.clock now in
      let e : Effect = passes (at now s) m turn in
      waits_closed IsNew m e token ((passes_runs (at now s) m turn).waits IsNew (all_new t)) (closing m e token)
  all_new (_ ∷ t) = all_new t

  -- what a GET that runs has taken
  pub record Parts (t : List Call) (k : ℕ) (f : FetchState) : Type 0 where
    pub parts : List Part
    pub gathered : Gathered parts f
    pub took : Each (λ p. TookPart sizes k p t) parts

  call_in : (op : Operation) (k : ℕ) → runs_call k (Some op) ≡ true → call_of op ≡ Some k
  call_in (Calling n r tr) k h = ap (λ z. Some z) (same_number n k h)
  call_in _ k h = absurd (cc h)

  pub heard_for : (t : List Call) (c : Call) (m : Message) (k : ℕ) (r : Request) (tr : Transfer) → Answers sizes t c m
      → (own_of sizes t).running ≡ Some (Calling k r tr) → hears c ≡ Some m → HeardFor sizes k m t c
  heard_for t c m k r tr a runs heard = record {
    heard = heard;
    sending = a.sending;
    sent = last_was_sent sizes t a.sending a.last;
    of_call = call_in a.sending.operation k (a.number k (ap (runs_call k) runs ∙ number_self k));
    token = a.token;
  }

  parts_here : (t : List Call) (c : Call) (k : ℕ) (r : Request) (f : FetchState)
      → ((m : Message) → hears c ≡ Some m → Answers sizes t c m) → Origin sizes t c k r (Fetches f)
      → ((q : Request) (g : FetchState) → (own_of sizes t).running ≡ Some (Calling k q (Fetches g)) → Parts t k g)
      → Parts (c ∷ t) k f
  parts_here t c k r f answers (kept runs none) ih =
      let p = ih r f runs in
      record {
        parts = p.parts;
        gathered = p.gathered;
        took = each_map (λ q. TookPart sizes k q t) (λ q. TookPart sizes k q (c ∷ t))
            (λ q h. (ap (is_first k) none, inr h)) p.parts p.took;
      }
  parts_here t c k r f answers (begins queue is) ih =
      let h : AllOf IsNew (Calling k r (Fetches f) ∷ queue) = subst (AllOf IsNew) is (all_new t) in
      let g = h.0 in
      record { parts = []; gathered = subst (Gathered []) (sym g.1) (gathered_none g.0 0); took = tt }
  parts_here t c k r f answers (follows old m x runs heard asks sends_it op_is) ih = by (fetch_next r old m f asks)
    where
      by : FetchNext old m f → Parts (c ∷ t) k f
      by n = elim n.next [
        | inl again ↦ record {
          parts = [];
          gathered =
              subst (Gathered []) (sym again) (gathered_none (F.sizes_of n.before) (n.before.restarts + 1));
          took = tt;
        }
        | inr more ↦ (
            let p = ih r n.before (runs ∙ ap (λ z. Some (Calling k r z)) n.old_is) in
            let b = part_asks n.before m more.0 more.1 more.2 in
            let next : f ≡ F.after n.before (tag_in m) m.payload (verdict.Ask more.0 more.1) = more.3 in
            let quiet_first : is_first k (sends (own_of sizes t) c) ≡ false = ap (is_first k) sends_it
            ∙ (ap (is_first_of k) op_is ∙ ap (λ g. is_first_of k (Calling k r (Fetches g))) next) in
            let new : Part = part_of_block b.0 (tag_in m) m.payload in
            record {
              parts = p.parts ++ new ∷ [];
              gathered = subst (Gathered (p.parts ++ new ∷ [])) (sym next)
                  (gathered_by_part p.parts n.before b.0 (tag_in m) m.payload more.0 more.1 p.gathered b.2);
              took = each_append (λ q. TookPart sizes k q (c ∷ t)) p.parts new
                  (each_map (λ q. TookPart sizes k q t) (λ q. TookPart sizes k q (c ∷ t))
                  (λ q h. (quiet_first, inr h)) p.parts p.took) (
                    quiet_first,
                    inl (record {
                      message = m;
                      heard = heard_for t c m k r old (answers m heard) runs heard;
                      part = record { code = n.code; block = b.0; says = b.1; is = refl };
                    }),
                  );
            })
      ]

  pub parts_of : (t : List Call) → AnswersLast sizes t → (k : ℕ) (r : Request) (f : FetchState)
      → (own_of sizes t).running ≡ Some (Calling k r (Fetches f)) → Parts t k f
  parts_of [] answers k r f is = absurd (cc is)
  parts_of (c ∷ t) answers k r f is = parts_here t c k r f answers.0 (origin sizes t c k r (Fetches f) is)
      (λ q g runs. parts_of t answers.1 k q g runs)

  -- at a call
  gives_body : (t : List Call) (c : Call) (k : ℕ) (report : Report) → is_body report ≡ true
      → GivesReport (own_of sizes t) (hears c) k report → GivesBody (own_of sizes t) (hears c) k report
  gives_body t c k report body g =
      let d = done_as g.request g.transfer g.message g.final report g.ends_so body in
      record {
        request = g.request;
        fetch = d.fetch;
        message = g.message;
        runs = g.runs ∙ ap (λ z. Some (Calling k g.request z)) d.transfer;
        heard_it = g.heard_it;
        code = d.code;
        done_so = d.done_so;
        is = d.is;
      }

  -- the request that runs was sent last, as it is
  runs_as : (server : Endpoint) (setup : Setup) (t : List Call) → ClientLaw server sizes setup t
      → (k : ℕ) (r : Request) (f : FetchState) (x : Sending) → (own_of sizes t).running ≡ Some (Calling k r (Fetches f))
      → last_sent sizes t ≡ Some x
      → x.operation ≡ Calling k r (Fetches f)
  runs_as server setup t law k r f x runs last =
      elim h.same [ inl d ↦ absurd (cc d) | inr same ↦ ap (λ (y : Sending). y.operation) one ∙ same ]
    where
      h : Tracked sizes t (Calling k r (Fetches f)) (beneath server sizes setup t).running
      h = subst (λ o. IfTracked sizes t o (beneath server sizes setup t).running) runs
          (all_sends sizes server setup t law.rows law.exchanges.rows).tracked

      one : x ≡ h.sending
      one = let e : Some x ≡ Some h.sending = sym last ∙ h.last in cc e

  whole_here : (server : Endpoint) (setup : Setup) (t : List Call) (c : Call) → ClientLaw server sizes setup t
      → AnswersLast sizes (c ∷ t) → (k : ℕ) (tag : Option (List ℕ)) (format : Option ℕ) (body : List ℕ)
      → reports (own_of sizes t) c ≡ of k (Body tag format body) → IsFetched sizes k tag format body t c
  whole_here server setup t c law answers k tag format body made =
      let g = gives_body t c k (Body tag format body) refl (gives_of sizes t c k (Body tag format body) refl made) in
      let p = parts_of t answers.1 k g.request g.fetch g.runs in
      let a = answers.0 g.message g.heard_it in
      let tag_is : tag ≡ tag_in g.message = cc (g.is) in
      let format_is : format ≡ format_in g.message = cc (g.is) in
      let body_is : body ≡ g.fetch.gathered ++ g.message.payload = cc (g.is) in
      let d = part_done p.parts g.fetch g.message p.gathered g.done_so in
      let op = runs_as server setup t law k g.request g.fetch a.sending g.runs a.last in
      record {
        message = g.message;
        heard = record {
          heard = g.heard_it;
          sending = a.sending;
          sent = last_was_sent sizes t a.sending a.last;
          of_call = ap call_of op;
          token = a.token;
        };
        code = g.code;
        parts = p.parts;
        took = p.took;
        block = d.block;
        last = d.last;
        asked = a.last;
        alone = λ none. ap (is_first_of k) op ∙ alone_first k g.request g.fetch p.parts p.gathered none;
        whole = subst (Whole (payloads_of p.parts d.block (tag_in g.message) g.message.payload)) (sym body_is)
            (whole_by_parts p.parts g.fetch d.block (tag_in g.message) g.message.payload p.gathered d.done);
        tag_is = tag_is;
        format_is = format_is;
      }

  bodies : (server : Endpoint) (setup : Setup) (t : List Call) → ClientLaw server sizes setup t → AnswersLast sizes t
      → BodiesAreWhole sizes t
  bodies server setup [] law answers = tt
  bodies server setup (c ∷ t) law answers =
      let before = client_back server sizes setup (c ∷ []) t law
      in (whole_here server setup t c before answers, bodies server setup t before answers.1)

pub bodies_are_whole : (server : Endpoint) (sizes : Sizes) (setup : Setup) (t : List Call)
    → ClientLaw server sizes setup t
    → BodiesAreWhole sizes t
bodies_are_whole server sizes setup t law = bodies sizes server setup t law (answers_last sizes server setup t law)
