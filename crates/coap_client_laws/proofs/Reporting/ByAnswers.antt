-- Which reports the answers to the requests of a call give.
use Rattle.std.proofs.Common.{◌≡◌, inl, inr, ℕ, ◌+◌, nat_lt, Bool, true, false, cond, ◌&&◌, Option, Some, None, List}
use Rattle.std.proofs.Common.{[], ◌∷◌, length, refl, ap, sym, subst, ◌∙◌, arith}
use Rattle.std.specs.Prelude.{◌==◌}
use Rattle.std.proofs.lemmas.Bool.{ltb-true, and_parts as both}
use Rattle.std.proofs.lemmas.Bool.Decides.{nat_tests}
use Rattle.coap_types.specs.Piece.{size_of, offset_of}
use Rattle.coap_types.specs.declared.block.Block.{Block}
use Rattle.coap_types.specs.declared.endpoint.Endpoint.{Endpoint}
use Rattle.coap_types.specs.declared.message.TheConstants.Code as codes
use Rattle.coap_types.specs.declared.option_number.TheConstants.{BLOCK1 as block1}
use Rattle.coap_types.specs.declared.request.Method.{Method}
use Rattle.coap_layer.specs.declared.setup.Setup.{Setup}
use Rattle.coap_codec.specs.Message.{Message}
use Rattle.coap_block.specs.Sizes.{Sizes}
use Rattle.coap_block.specs.FetchStep.{FetchState}
use Rattle.coap_block.specs.UploadStep.{UploadState, more_follows, continues, moved}
use Rattle.coap_block.proofs.Facts.Laws.{continues_is_tested}
use Rattle.coap_client.specs.Trace.{Request, Report, Body, Valid, Done, Failed, Changed, BadBlock, NoTag, TooLarge}
use Rattle.coap_client.specs.Trace.{Call}
use Rattle.coap_client.specs.Own.{Transfer, Fetches, Uploads, Single}
use Rattle.coap_client.specs.Requests.{is_longer}
use Rattle.coap_client.specs.Reports.{done, is_success}
use Rattle.coap_client.specs.Responses.{continue, block_at}
use Rattle.coap_client.specs.Calls.{answer}
use Rattle.coap_client.specs.Calls as calls
use Rattle.coap_client.specs.Effects.{of}
use Rattle.coap_client.specs.Steps.{reports}
use Rattle.coap_client.specs.Law.{ClientLaw, own_of}
use Rattle.coap_client_laws.specs.Follows.AnswersLastRequest.{Answers, AnswersLast}
use Rattle.coap_client_laws.specs.Follows.OfCalls.{CarriesBody}
use Rattle.coap_client_laws.specs.Follows.OfAnswers.{is_by_answer, IsBadFor, MayReport, IsByAnswer, AreByAnswers}
use Rattle.coap_client.specs.Sendings.{Sending, hears}
use Rattle.coap_client.proofs.Facts.Places.PlaceLemmas.{same_number}
use Rattle.coap_client_laws.proofs.Reporting.AnswerReports.{gives_of}
use Rattle.coap_client_laws.proofs.Reporting.Codes.{runs_as}
use Rattle.coap_client_laws.proofs.Reporting.AnswerCodes.{done_of, failed_of}
use Rattle.coap_client.proofs.Facts.Turning.Leading.{client_back}
use Rattle.coap_client_laws.proofs.Uploading.Pieces.{answers_last}

-- what fits one message has no block behind it
no_more : (u : UploadState) → is_longer u ≡ false → more_follows u ≡ false
no_more u short = by (offset_of u.num u.szx) (size_of u.szx) (length u.body) short
  where
    by : (o s l : ℕ) → nat_lt s l ≡ false → nat_lt (o + s) l ≡ false
    by o s l h = grind (arith, nat_tests, h)

-- success or failure, with the code of the answer
done_may : (tr : Transfer) (m : Message) (b final : Bool) (report : Report)
    → calls.Ends true (cond b (Done m.code) (Failed m.code)) ≡ calls.Ends final report → MayReport tr m report
done_may tr m true final report h = let e : Done m.code ≡ report = cc h in subst (MayReport tr m) e refl
done_may tr m false final report h = let e : Failed m.code ≡ report = cc h in subst (MayReport tr m) e refl

bad_may : (u : UploadState) (m : Message) (was final : Bool) (report : Report) → IsBadFor u m
    → calls.Ends was BadBlock ≡ calls.Ends final report → MayReport (Uploads u) m report
bad_may u m was final report bad h =
    let e : BadBlock ≡ report = cc h in subst (MayReport (Uploads u) m) e bad

upload_may : (method : Method) (u : UploadState) (m : Message) (final : Bool) (report : Report)
    → calls.sent method u m ≡ calls.Ends final report → MayReport (Uploads u) m report
upload_may method u m final report h =
    by ((m.code == continue) && is_longer u) (more_follows u && calls.is_below_errors m.code) refl refl h
  where
    continued : (o : Option Block) → block_at block1 m ≡ o → (m.code ≡ continue) × (is_longer u ≡ true)
        → calls.continued u o ≡ calls.Ends final report → MayReport (Uploads u) m report
    continued None is k h =
        bad_may u m false final report (inl (k.0, k.1, λ b e c. let z : None ≡ Some b = sym is ∙ e in absurd (cc z))) h
    continued (Some a) is k h = go (continues u a) refl h
      where
        go : (b : Bool) → continues u a ≡ b
            → cond b (calls.Asks (Uploads (moved u a))) (calls.Ends false BadBlock) ≡ calls.Ends final report
            → MayReport (Uploads u) m report
        go true e h = absurd (cc h)
        go false e h = bad_may u m false final report (inl (
          k.0,
          k.1,
          λ b z c.
              let same : Some a ≡ Some b = sym is ∙ z in
              let one : a ≡ b = cc same in
              let so : continues u b ≡ true = (continues_is_tested u b).1 c in
              let not_so : continues u b ≡ false = ap (continues u) (sym one) ∙ e in
              cc (so, not_so),
        )) h

    -- behind a block that others follow the body is longer than one, so a 2.31 counts
    other : (b : Bool) → is_longer u ≡ b → more_follows u ≡ true → ((continue == continue) && is_longer u) ≡ false → ⊥
    other true is more none = let e : is_longer u ≡ false = none in cc (is, e)
    other false is more none = let e = no_more u is in cc (more, e)

    by : (b p : Bool) → ((m.code == continue) && is_longer u) ≡ b
        → (more_follows u && calls.is_below_errors m.code) ≡ p
        → cond b (calls.continued u (block_at block1 m))
        (cond p (calls.Ends true BadBlock) (calls.Ends true (done method m.code))) ≡ calls.Ends final report
        → MayReport (Uploads u) m report
    by true p a e h =
        let k = both (m.code == continue) (is_longer u) a in
        continued (block_at block1 m) refl (same_number m.code continue k.0, k.1) h
    by false true a e h =
        let k = both (more_follows u) (calls.is_below_errors m.code) e in
        bad_may u m true final report (inr (
          k.0,
          ltb-true m.code codes.BAD_REQUEST.0 k.1,
          λ same. other (is_longer u) refl k.0 (ap (λ n. (n == continue) && is_longer u) (sym same) ∙ a),
        )) h
    by false false a e h = done_may (Uploads u) m (is_success method m.code) final report h

module _ (sizes : Sizes) (k : ℕ) (r : Request) (body : List ℕ) (m : Message) where
  fetch_may : (f : FetchState) → CarriesBody sizes r.method body (Fetches f) → (final : Bool) (report : Report)
      → is_by_answer report ≡ true → answer r (Fetches f) m ≡ calls.Ends final report → MayReport (Fetches f) m report
  fetch_may f carries final (Done code) is h = (done_of sizes k r body m (Fetches f) carries final code h).1
  fetch_may f carries final (Failed code) is h = (failed_of sizes k r body m (Fetches f) carries final code h).1
  fetch_may f carries final (Body tag format bytes) is h = refl
  fetch_may f carries final (Valid tag) is h = refl
  fetch_may f carries final Changed is h = refl
  fetch_may f carries final BadBlock is h = refl
  fetch_may f carries final NoTag is h = refl
  fetch_may f carries final TooLarge is h = refl
  fetch_may f carries final _ is h = absurd (cc is)

  may_report : (tr : Transfer) → CarriesBody sizes r.method body tr → (final : Bool) (report : Report)
      → is_by_answer report ≡ true → answer r tr m ≡ calls.Ends final report → MayReport tr m report
  may_report (Fetches f) carries final report is h = fetch_may f carries final report is h
  may_report (Uploads u) carries final report is h = upload_may r.method u m final report h
  may_report Single carries final report is h = done_may Single m (is_success r.method m.code) final report h

module _ (server : Endpoint) (sizes : Sizes) (setup : Setup) where
  by_answer : (t : List Call) (c : Call) → ClientLaw server sizes setup t
      → ((m : Message) → hears c ≡ Some m → Answers sizes t c m) → (k : ℕ) (report : Report)
      → reports (own_of sizes t) c ≡ of k report → is_by_answer report ≡ true → IsByAnswer sizes k report t c
  by_answer t c law answers k report made is =
      let g = gives_of sizes t c k report is made in
      let a = answers g.message g.heard_it in
      let runs = runs_as sizes server setup t law k g.request g.transfer g.runs in
      let both_last : Some a.sending ≡ Some runs.sending = sym a.last ∙ runs.last in
      let same : a.sending ≡ runs.sending = cc both_last in
      record {
        message = g.message;
        heard = g.heard_it;
        answers = a;
        request = g.request;
        transfer = g.transfer;
        runs = g.runs;
        operation = ap (λ (x : Sending). x.operation) same ∙ runs.operation;
        body = runs.body;
        carries = runs.carries;
        may = may_report sizes k g.request runs.body g.message g.transfer runs.carries g.final report is g.ends_so;
      }

  all_by : (t : List Call) → ClientLaw server sizes setup t → AnswersLast sizes t → AreByAnswers sizes t
  all_by [] law answers = tt
  all_by (c ∷ t) law answers =
      let before = client_back server sizes setup (c ∷ []) t law in
      (by_answer t c before answers.0, all_by t before answers.1)

  pub are_by_answers : (t : List Call) → ClientLaw server sizes setup t → AreByAnswers sizes t
  are_by_answers t law = all_by t law (answers_last sizes server setup t law)
