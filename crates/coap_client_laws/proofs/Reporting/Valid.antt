-- A representation is reported as valid where the call is a GET and carries ETags, and a 2.03 was heard.
use Rattle.std.proofs.Common.{◌≡◌, ℕ, Bool, true, false, cond, ◌&&◌, Option, Some, None, List, ◌∷◌, [], refl, ap, sym}
use Rattle.std.proofs.Common.{subst, ◌∙◌}
use Rattle.std.specs.Prelude.{◌==◌}
use Rattle.coap_types.specs.declared.block.Block.{Block}
use Rattle.coap_types.specs.declared.endpoint.Endpoint.{Endpoint}
use Rattle.coap_types.specs.declared.option_number.TheConstants.{BLOCK1 as block1}
use Rattle.coap_types.specs.declared.request.Method.{Method}
use Rattle.coap_types.specs.declared.request.Method.TheVariants.{Get, Post, Put, Delete}
use Rattle.coap_layer.specs.declared.setup.Setup.{Setup}
use Rattle.coap_codec.specs.Message.{Message}
use Rattle.coap_block.specs.Sizes.{Sizes}
use Rattle.coap_block.specs.declared.fetch_step.FetchRefusal.{FetchRefusal}
use Rattle.coap_block.specs.declared.fetch_step.FetchRefusal.TheVariants as refusal
use Rattle.coap_block.specs.declared.fetch_verdict.Verdict.{Verdict}
use Rattle.coap_block.specs.declared.fetch_verdict.Verdict.TheVariants as verdict
use Rattle.coap_block.specs.FetchStep.{FetchState}
use Rattle.coap_block.specs.UploadStep.{UploadState, more_follows, moved, continues}
use Rattle.coap_client.specs.Trace.{Request, Report, Valid, Failed, Done, BadBlock, NoIds, Call}
use Rattle.coap_client.specs.Own.{Transfer, Fetches, Uploads, Single, Calling}
use Rattle.coap_client.specs.Requests.{is_longer}
use Rattle.coap_client.specs.Responses.{content, valid, continue, tag_in, block_at, part}
use Rattle.coap_client.specs.Reports.{refused, done, is_success}
use Rattle.coap_client.specs.Calls.{answer, has_tags}
use Rattle.coap_client.specs.Calls as calls
use Rattle.coap_client.specs.Effects.{of}
use Rattle.coap_client.specs.Steps.{reports}
use Rattle.coap_client.specs.Law.{ClientLaw, own_of}
use Rattle.coap_client_laws.specs.Follows.OfCalls.{CarriesBody}
use Rattle.coap_client.specs.Sendings.{Taken}
use Rattle.coap_client_laws.proofs.Hearing.HeardRuns.{runs_call}
use Rattle.coap_client.proofs.Facts.Turning.Leading.{client_back}
use Rattle.coap_client.proofs.Facts.Places.PlaceLemmas.{same_number}
use Rattle.coap_client_laws.proofs.Uploading.Pieces.{answers_last}
use Rattle.coap_client_laws.specs.Follows.Bodies.{HeardFor}
use Rattle.coap_client_laws.specs.Follows.Valid.{IsValidated, ValidOfTags}
use Rattle.coap_client_laws.proofs.Reporting.AnswerReports.{gives_of}
use Rattle.coap_client_laws.proofs.Reporting.Bodies.{heard_for}
use Rattle.std.proofs.lemmas.Bool.{and_parts as and_split}
use Rattle.coap_client_laws.proofs.Sending.OfCalls.{running_taken}

-- whether it is such a report

abbrev is_valid : Report → Bool
is_valid (Valid tag) = true
is_valid report = false

-- which answer gives it

refused_none : (why : FetchRefusal) → is_valid (refused why) ≡ false
refused_none refusal.Changed = refl
refused_none _ = refl

done_none : (method : Method) (code : ℕ) → is_valid (done method code) ≡ false
done_none method code = by (is_success method code)
  where
    by : (b : Bool) → is_valid (cond b (Done code) (Failed code)) ≡ false
    by true = refl
    by false = refl

abbrev next_valid : calls.Next → Bool
next_valid (calls.Asks t) = false
next_valid (calls.Ends final report) = is_valid report

continued_none : (u : UploadState) (o : Option Block) → next_valid (calls.continued u o) ≡ false
continued_none u None = refl
continued_none u (Some b) = by (continues u b)
  where
    by : (c : Bool) → next_valid (cond c (calls.Asks (Uploads (moved u b))) (calls.Ends false BadBlock)) ≡ false
    by true = refl
    by false = refl

upload_none : (method : Method) (u : UploadState) (m : Message) → next_valid (calls.sent method u m) ≡ false
upload_none method u m = by ((m.code == continue) && is_longer u) (more_follows u && calls.is_below_errors m.code)
  where
    by : (b p : Bool) → next_valid (cond b (calls.continued u (block_at block1 m))
        (cond p (calls.Ends true BadBlock) (calls.Ends true (done method m.code)))) ≡ false
    by true p = continued_none u (block_at block1 m)
    by false true = refl
    by false false = done_none method m.code

fetched_none : (f : FetchState) (m : Message) (v : Verdict) → next_valid (calls.fetched f m v) ≡ false
fetched_none f m (verdict.Refuse why) = refused_none why
fetched_none f m _ = refl

abbrev next_report : calls.Next → Report
next_report (calls.Asks t) = NoIds
next_report (calls.Ends final report) = report

record ValidAs (r : Request) (tr : Transfer) (m : Message) (report : Report) : Type 0 where
  fetch : FetchState
  fetches : tr ≡ Fetches fetch
  code : m.code ≡ valid
  tags : has_tags r.etags ≡ true
  is : report ≡ Valid (tag_in m)

valid_as : (r : Request) (tr : Transfer) (m : Message) (final : Bool) (report : Report)
    → answer r tr m ≡ calls.Ends final report → is_valid report ≡ true → ValidAs r tr m report
valid_as r Single m final report h is = let a : is_valid (done r.method m.code) ≡ true = ap next_valid h
    ∙ is in let b = done_none r.method m.code in absurd (cc (a, b))
valid_as r (Uploads u) m final report h is = let a : next_valid (calls.sent r.method u m) ≡ true = ap next_valid h
    ∙ is in let b = upload_none r.method u m in absurd (cc (a, b))
valid_as r (Fetches f) m final report h is = by (m.code == content) ((m.code == valid) && has_tags r.etags) refl h
  where
    by : (c d : Bool) → ((m.code == valid) && has_tags r.etags) ≡ d
        → cond c (calls.fetched f m (part f m)) (cond d (calls.Ends true (Valid (tag_in m)))
        (calls.Ends true (Failed m.code))) ≡ calls.Ends final report → ValidAs r (Fetches f) m report
    by true d e h = let a : next_valid (calls.fetched f m (part f m)) ≡ true = ap next_valid h
        ∙ is in let b = fetched_none f m (part f m) in absurd (cc (a, b))
    by false false e h = let a : false ≡ true = ap next_valid h ∙ is in absurd (cc a)
    by false true e h = let k = and_split (m.code == valid) (has_tags r.etags) e in record
        { fetch = f; fetches = refl; code = same_number m.code valid k.0; tags = k.1; is = sym (ap next_report h) }

-- a call that fetches is a GET
get_of : (sizes : Sizes) (method : Method) (body : List ℕ) (tr : Transfer) (f : FetchState)
    → CarriesBody sizes method body tr
    → tr ≡ Fetches f → method ≡ Get
get_of sizes Get body tr f carries is = refl
get_of sizes Post body tr f carries is = absurd (subst (CarriesBody sizes Post body) is carries)
get_of sizes Put body tr f carries is = absurd (subst (CarriesBody sizes Put body) is carries)
get_of sizes Delete body tr f carries is = absurd (subst (CarriesBody sizes Delete body) is carries)

some_tags : (tags : List (List ℕ)) → has_tags tags ≡ true → tags ≡ [] → ⊥
some_tags [] h none = cc h
some_tags (x ∷ tags) h none = cc none

module _ (sizes : Sizes) where
  validated : (server : Endpoint) (setup : Setup) (t : List Call) (c : Call) → ClientLaw server sizes setup (c ∷ t)
      → (k : ℕ)
      (tag : Option (List ℕ)) → reports (own_of sizes t) c ≡ of k (Valid tag) → IsValidated sizes k tag t c
  validated server setup t c law k tag made =
      let answers = answers_last sizes server setup (c ∷ t) law in
      let g = gives_of sizes t c k (Valid tag) refl made in
      let shown = valid_as g.request g.transfer g.message g.final (Valid tag) g.ends_so refl in
      let q = running_taken sizes t k g.request g.transfer g.runs in
      let heard : HeardFor sizes k g.message t c =
      heard_for sizes t c g.message k g.request g.transfer (answers.0 g.message g.heard_it) g.runs g.heard_it in
      let x : Taken = record { number = k; request = q.0 } in
      let run = runs_call sizes server setup t c law x q.1 g.message heard in
      let same : Some (Calling k (record q.0 { body = [] }) run.transfer) ≡ Some (Calling k g.request g.transfer) =
      sym run.runs ∙ g.runs in
      let transfer_is : run.transfer ≡ g.transfer = cc same in
      record {
        request = q.0;
        taken = q.1;
        method = get_of sizes (q.0).method (q.0).body run.transfer shown.fetch run.carries (transfer_is
            ∙ shown.fetches);
        etags = λ none. some_tags g.request.etags shown.tags (ap (λ (z : Request). z.etags) q.2 ∙ none);
        message = g.message;
        heard = heard;
        code = shown.code;
        tag_is = cc (shown.is);
      }

  all_validated : (server : Endpoint) (setup : Setup) (t : List Call) → ClientLaw server sizes setup t
      → ValidOfTags sizes t
  all_validated server setup [] law = tt
  all_validated server setup (c ∷ t) law = (
    validated server setup t c law,
    all_validated server setup t (client_back server sizes setup (c ∷ []) t law),
  )

pub valid_of_tags : (server : Endpoint) (sizes : Sizes) (setup : Setup) (t : List Call) → ClientLaw server sizes setup t
    → ValidOfTags sizes t
valid_of_tags server sizes setup t law = all_validated sizes server setup t law
