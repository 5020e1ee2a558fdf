-- What the answer to a request of a call comes to, by its code.
use Rattle.std.proofs.Common.{◌≡◌, ◌≢◌, ◌≤◌, ◌⊎◌, inl, inr, ℕ, Bool, true, false, cond, ◌&&◌, ◌||◌, Option, Some, None}
use Rattle.std.proofs.Common.{List, [], ◌∷◌, refl, ap, sym, ◌∙◌, arith}
use Rattle.std.specs.Prelude.{◌==◌, nat_lt}
use Rattle.std.proofs.lemmas.Bool.Decides.{nat_tests}
use Rattle.coap_types.specs.declared.block.Block.{Block}
use Rattle.coap_types.specs.declared.message.TheConstants.Code as codes
use Rattle.coap_types.specs.declared.option_number.TheConstants.{BLOCK1 as block1}
use Rattle.coap_types.specs.declared.request.Method.{Method}
use Rattle.coap_types.specs.declared.request.Method.TheVariants.{Get, Post, Put, Delete}
use Rattle.coap_codec.specs.Message.{Message}
use Rattle.coap_block.specs.Sizes.{Sizes}
use Rattle.coap_block.specs.declared.fetch_step.FetchRefusal.{FetchRefusal}
use Rattle.coap_block.specs.declared.fetch_step.FetchRefusal.TheVariants as refusal
use Rattle.coap_block.specs.declared.fetch_verdict.Verdict.{Verdict}
use Rattle.coap_block.specs.declared.fetch_verdict.Verdict.TheVariants as verdict
use Rattle.coap_block.specs.FetchStep.{FetchState}
use Rattle.coap_block.specs.UploadStep.{UploadState, more_follows, moved, continues}
use Rattle.coap_client.specs.Trace.{Request, Report, Valid, Failed, Done, BadBlock, NoIds}
use Rattle.coap_client.specs.Own.{Transfer, Fetches, Uploads, Single, Calling}
use Rattle.coap_client_laws.specs.Follows.OfCalls.{CarriesBody}
use Rattle.coap_client.specs.Requests.{is_longer}
use Rattle.coap_client.specs.Responses.{created, deleted, changed, content, valid, continue, tag_in, block_at, part}
use Rattle.coap_client.specs.Reports.{refused, done, is_success}
use Rattle.coap_client.specs.Calls.{answer, has_tags}
use Rattle.coap_client.specs.Calls as calls
use Rattle.coap_client.proofs.Facts.Places.PlaceLemmas.{same_number, number_self}
use Rattle.coap_client_laws.specs.Follows.Codes.{Succeeds, FailsBlock, Fails}

-- a report of success or of failure

abbrev pub is_code : Report → Bool
is_code (Done code) = true
is_code (Failed code) = true
is_code report = false

abbrev next_code : calls.Next → Bool
next_code (calls.Asks t) = false
next_code (calls.Ends final report) = is_code report

abbrev next_report : calls.Next → Report
next_report (calls.Asks t) = NoIds
next_report (calls.Ends final report) = report

refused_none : (why : FetchRefusal) → is_code (refused why) ≡ false
refused_none refusal.Changed = refl
refused_none _ = refl

fetched_none : (f : FetchState) (m : Message) (v : Verdict) → next_code (calls.fetched f m v) ≡ false
fetched_none f m (verdict.Refuse why) = refused_none why
fetched_none f m _ = refl

continued_none : (u : UploadState) (o : Option Block) → next_code (calls.continued u o) ≡ false
continued_none u None = refl
continued_none u (Some b) = by (continues u b)
  where
    by : (c : Bool) → next_code (cond c (calls.Asks (Uploads (moved u b))) (calls.Ends false BadBlock)) ≡ false
    by true = refl
    by false = refl

no_code : (n : calls.Next) (final : Bool) (report : Report) → next_code n ≡ false → is_code report ≡ true
    → n ≡ calls.Ends final report → ⊥
no_code n final report none is h = let a : is_code report ≡ false = sym (ap next_code h) ∙ none in cc (a, is)

-- the first of the errors
abbrev errors : ℕ
errors = codes.BAD_REQUEST.0

-- numbers as tests

pub differ : (a b : ℕ) → (a == b) ≡ false → a ≢ b
differ a b h same = let k : (b == b) ≡ false = ap (λ n. n == b) (sym same) ∙ h in let z = number_self b in cc (k, z)

pub apart : (a b : ℕ) → a ≢ b → (a == b) ≡ false
apart a b h = by (a == b) refl
  where
    by : (c : Bool) → (a == b) ≡ c → c ≡ false
    by true e = absurd (h (same_number a b e))
    by false e = refl

equal : (a b : ℕ) → a ≡ b → (a == b) ≡ true
equal a b h = ap (λ n. n == b) h ∙ number_self b

neither : (a b : Bool) → (a || b) ≡ false → (a ≡ false) × (b ≡ false)
neither true b h = absurd (cc h)
neither false b h = (refl, h)

either : (a b : Bool) → (a || b) ≡ true → (a ≡ true) ⊎ (b ≡ true)
either true b h = inl refl
either false b h = inr h

-- what `done` says

done_code : (b : Bool) (n code : ℕ) → cond b (Done n) (Failed n) ≡ Done code → (b ≡ true) × (n ≡ code)
done_code true n code h = (refl, cc h)
done_code false n code h = absurd (cc h)

failed_code : (b : Bool) (n code : ℕ) → cond b (Done n) (Failed n) ≡ Failed code → (b ≡ false) × (n ≡ code)
failed_code true n code h = absurd (cc h)
failed_code false n code h = (refl, cc h)

-- which success counts, of what is carried

single_code : (sizes : Sizes) (method : Method) (body : List ℕ) (code : ℕ) → CarriesBody sizes method body Single
    → is_success method code ≡ (code == deleted)
single_code sizes Post body code h = absurd h
single_code sizes Put body code h = absurd h
single_code sizes _ body code h = refl

upload_code : (sizes : Sizes) (method : Method) (body : List ℕ) (u : UploadState) (code : ℕ)
    → CarriesBody sizes method body (Uploads u) → is_success method code ≡ ((code == created) || (code == changed))
upload_code sizes Post body u code h = refl
upload_code sizes Put body u code h = refl
upload_code sizes _ body u code h = absurd h

module _ (sizes : Sizes) (k : ℕ) (r : Request) (body : List ℕ) (m : Message) where
  -- the answer to a block

  module _ (u : UploadState) (carries : CarriesBody sizes r.method body (Uploads u)) where
    abbrev awaited : Bool
    awaited = (m.code == continue) && is_longer u

    abbrev early : Bool
    early = more_follows u && calls.is_below_errors m.code

    abbrev by_tests : Bool → Bool → calls.Next
    by_tests b p = cond b (calls.continued u (block_at block1 m))
        (cond p (calls.Ends true BadBlock) (calls.Ends true (done r.method m.code)))

    -- both tests fail where a code is reported
    record Tested (report : Report) : Type 0 where
      not_awaited : awaited ≡ false
      not_early : early ≡ false
      is : done r.method m.code ≡ report

    tested : (final : Bool) (report : Report) → is_code report ≡ true
        → calls.sent r.method u m ≡ calls.Ends final report → Tested report
    tested final report is h = by awaited early refl refl h
      where
        by : (b p : Bool) → awaited ≡ b → early ≡ p → by_tests b p ≡ calls.Ends final report → Tested report
        by true p a e h = absurd (no_code (calls.continued u (block_at block1 m)) final report
            (continued_none u (block_at block1 m)) is h)
        by false true a e h = absurd (no_code (calls.Ends true BadBlock) final report refl is h)
        by false false a e h = record { not_awaited = a; not_early = e; is = ap next_report h }

    -- a success below the errors is of the last block
    last_of : (code : ℕ) → nat_lt code codes.BAD_REQUEST.0 ≡ true → m.code ≡ code → early ≡ false
        → more_follows u ≡ false
    last_of code below same h = by (more_follows u) refl
      where
        by : (b : Bool) → more_follows u ≡ b → b ≡ false
        by false e = refl
        by true e = let z : (true && nat_lt m.code codes.BAD_REQUEST.0)
            ≡ false = ap (λ b. b && nat_lt m.code codes.BAD_REQUEST.0) (sym e)
            ∙ h in let y : nat_lt m.code codes.BAD_REQUEST.0 ≡ true = ap (λ n. nat_lt n codes.BAD_REQUEST.0) same
            ∙ below in cc (z, y)

    upload_done : (final : Bool) (code : ℕ) → calls.sent r.method u m ≡ calls.Ends final (Done code)
        → Succeeds (Calling k r (Uploads u)) m.code × (m.code ≡ code)
    upload_done final code h =
        let t = tested final (Done code) refl h in
        let d = done_code (is_success r.method m.code) m.code code t.is in
        let so : ((m.code == created) || (m.code == changed))
        ≡ true = sym (upload_code sizes r.method body u m.code carries) ∙ d.0 in
        elim (either (m.code == created) (m.code == changed) so) [
          | inl a ↦ let same = same_number m.code created a in ((last_of created refl same t.not_early, inl same), d.1)
          | inr b ↦ let same = same_number m.code changed b in ((last_of changed refl same t.not_early, inr same), d.1)
        ]

    fails_block : awaited ≡ false → early ≡ false → is_success r.method m.code ≡ false
        → FailsBlock (more_follows u) u m.code
    fails_block not_awaited not_early none = by (more_follows u) refl
      where
        by : (b : Bool) → more_follows u ≡ b → FailsBlock b u m.code
        by true e = let z : nat_lt m.code codes.BAD_REQUEST.0
            ≡ false = sym (ap (λ b. b && nat_lt m.code codes.BAD_REQUEST.0) e)
            ∙ not_early in grind (arith, nat_tests, z)
        by false e =
            let n = neither (m.code == created) (m.code == changed)
            (sym (upload_code sizes r.method body u m.code carries) ∙ none) in (
              differ m.code created n.0,
              differ m.code changed n.1,
              λ long same.
                  let z : ((m.code == continue) && true) ≡ false = ap (λ b. (m.code == continue) && b) (sym long)
                  ∙ not_awaited in
                  let y = equal m.code continue same in
                  let x : (true && true) ≡ false = ap (λ b. b && true) (sym y) ∙ z in
                  cc x,
            )

    upload_failed : (final : Bool) (code : ℕ) → calls.sent r.method u m ≡ calls.Ends final (Failed code)
        → Fails (Calling k r (Uploads u)) m.code × (m.code ≡ code)
    upload_failed final code h =
        let t = tested final (Failed code) refl h in
        let d = failed_code (is_success r.method m.code) m.code code t.is in
        (fails_block t.not_awaited t.not_early d.0, d.1)

  -- the answer to a GET
  module _ (f : FetchState) where
    got_failed : (final : Bool) (code : ℕ) → calls.got r f m ≡ calls.Ends final (Failed code)
        → Fails (Calling k r (Fetches f)) m.code × (m.code ≡ code)
    got_failed final code h = by (m.code == content) ((m.code == valid) && has_tags r.etags) refl refl h
      where
        none_of : (tags : List (List ℕ)) → has_tags tags ≡ false → tags ≡ []
        none_of [] e = refl
        none_of (x ∷ xs) e = absurd (cc e)

        by : (b p : Bool) → (m.code == content) ≡ b → ((m.code == valid) && has_tags r.etags) ≡ p
            → cond b (calls.fetched f m (part f m)) (cond p (calls.Ends true (Valid (tag_in m)))
            (calls.Ends true (Failed m.code))) ≡ calls.Ends final (Failed code)
            → Fails (Calling k r (Fetches f)) m.code × (m.code ≡ code)
        by true p a e h = absurd (no_code (calls.fetched f m (part f m)) final (Failed code)
            (fetched_none f m (part f m)) refl h)
        by false true a e h = absurd (no_code (calls.Ends true (Valid (tag_in m))) final (Failed code) refl refl h)
        by false false a e h = (
          (
            differ m.code content a,
            λ same. none_of r.etags
                (sym (ap (λ b. b && has_tags r.etags) (equal m.code valid same)) ∙ e),
          ),
          (let z = ap next_report h in cc z),
        )

    got_done : (final : Bool) (code : ℕ) → calls.got r f m ≡ calls.Ends final (Done code) → ⊥
    got_done final code h = by (m.code == content) ((m.code == valid) && has_tags r.etags) h
      where
        by : (b p : Bool) → cond b (calls.fetched f m (part f m))
            (cond p (calls.Ends true (Valid (tag_in m))) (calls.Ends true (Failed m.code)))
            ≡ calls.Ends final (Done code) → ⊥
        by true p h = no_code (calls.fetched f m (part f m)) final (Done code) (fetched_none f m (part f m)) refl h
        by false true h = no_code (calls.Ends true (Valid (tag_in m))) final (Done code) refl refl h
        by false false h = let z = ap next_report h in cc z

  pub done_of : (tr : Transfer) → CarriesBody sizes r.method body tr → (final : Bool) (code : ℕ)
      → answer r tr m ≡ calls.Ends final (Done code) → Succeeds (Calling k r tr) m.code × (m.code ≡ code)
  done_of (Fetches f) carries final code h = absurd (got_done f final code h)
  done_of (Uploads u) carries final code h = upload_done u carries final code h
  done_of Single carries final code h =
      let d = done_code (is_success r.method m.code) m.code code (ap next_report h) in
      (same_number m.code deleted (sym (single_code sizes r.method body m.code carries) ∙ d.0), d.1)

  pub failed_of : (tr : Transfer) → CarriesBody sizes r.method body tr → (final : Bool) (code : ℕ)
      → answer r tr m ≡ calls.Ends final (Failed code) → Fails (Calling k r tr) m.code × (m.code ≡ code)
  failed_of (Fetches f) carries final code h = got_failed f final code h
  failed_of (Uploads u) carries final code h = upload_failed u carries final code h
  failed_of Single carries final code h =
      let d = failed_code (is_success r.method m.code) m.code code (ap next_report h) in
      (differ m.code deleted (sym (single_code sizes r.method body m.code carries) ∙ d.0), d.1)

  -- .. and each such answer is reported so

  ends_done : (method : Method) → is_success method m.code ≡ true → done method m.code ≡ Done m.code
  ends_done method h = ap (λ b. cond b (Done m.code) (Failed m.code)) h

  ends_failed : (method : Method) → is_success method m.code ≡ false → done method m.code ≡ Failed m.code
  ends_failed method h = ap (λ b. cond b (Done m.code) (Failed m.code)) h

  module _ (u : UploadState) (carries : CarriesBody sizes r.method body (Uploads u)) where
    sent_by : (report : Report) → awaited u carries ≡ false → early u carries ≡ false → done r.method m.code ≡ report
        → calls.sent r.method u m ≡ calls.Ends true report
    sent_by report a e is = ap (λ b. by_tests u carries b (early u carries)) a
        ∙ (ap (λ p. by_tests u carries false p) e ∙ ap (calls.Ends true) is)

    success_is : (code : ℕ) → m.code ≡ code → (code == continue) ≡ false
        → ((code == created) || (code == changed)) ≡ true → more_follows u ≡ false
        → calls.sent r.method u m ≡ calls.Ends true (Done m.code)
    success_is code same other so last =
        sent_by (Done m.code) (ap (λ n. (n == continue) && is_longer u) same ∙ ap (λ b. b && is_longer u) other)
        (ap (λ b. b && calls.is_below_errors m.code) last)
        (ends_done r.method (upload_code sizes r.method body u m.code carries
        ∙ (ap (λ n. (n == created) || (n == changed)) same ∙ so)))

    each_upload_done : Succeeds (Calling k r (Uploads u)) m.code
        → calls.sent r.method u m ≡ calls.Ends true (Done m.code)
    each_upload_done h = elim h.1 [
      | inl a ↦ success_is created a refl refl h.0
      | inr b ↦ success_is changed b refl refl h.0
    ]

    below : (n : ℕ) → errors ≤ n → (n == continue) ≡ false
    below n h = grind (arith, nat_tests, h)

    no_success : (n : ℕ) → errors ≤ n → ((n == created) || (n == changed)) ≡ false
    no_success n h = grind (arith, nat_tests, h)

    no_below : (n : ℕ) → errors ≤ n → nat_lt n errors ≡ false
    no_below n h = grind (arith, nat_tests, h)

    each_upload_failed : (b : Bool) → more_follows u ≡ b → FailsBlock b u m.code
        → calls.sent r.method u m ≡ calls.Ends true (Failed m.code)
    each_upload_failed true more h =
        sent_by (Failed m.code) (ap (λ b. b && is_longer u) (below m.code h))
        (ap (λ b. b && calls.is_below_errors m.code) more ∙ no_below m.code h)
        (ends_failed r.method (upload_code sizes r.method body u m.code carries ∙ no_success m.code h))
    each_upload_failed false more h =
        sent_by (Failed m.code) (by (is_longer u) refl) (ap (λ b. b && calls.is_below_errors m.code) more)
        (ends_failed r.method (upload_code sizes r.method body u m.code carries
        ∙ (ap (λ b. b || (m.code == changed)) (apart m.code created h.0) ∙ apart m.code changed h.1)))
      where
        false_right : (a : Bool) → (a && false) ≡ false
        false_right true = refl
        false_right false = refl

        by : (b : Bool) → is_longer u ≡ b → ((m.code == continue) && b) ≡ false
        by false e = false_right (m.code == continue)
        by true e = ap (λ a. a && true) (apart m.code continue (h.2 e))

  pub each_done_of : (tr : Transfer) → CarriesBody sizes r.method body tr → Succeeds (Calling k r tr) m.code
      → answer r tr m ≡ calls.Ends true (Done m.code)
  each_done_of (Fetches f) carries h = absurd h
  each_done_of (Uploads u) carries h = each_upload_done u carries h
  each_done_of Single carries h = ap (calls.Ends true)
      (ends_done r.method (single_code sizes r.method body m.code carries ∙ equal m.code deleted h))

  pub each_failed_of : (tr : Transfer) → CarriesBody sizes r.method body tr → Fails (Calling k r tr) m.code
      → answer r tr m ≡ calls.Ends true (Failed m.code)
  each_failed_of (Fetches f) carries h =
      ap (λ b. cond b (calls.fetched f m (part f m))
      (cond ((m.code == valid) && has_tags r.etags) (calls.Ends true (Valid (tag_in m)))
      (calls.Ends true (Failed m.code)))) (apart m.code content h.0)
      ∙ ap (λ p. cond p (calls.Ends true (Valid (tag_in m))) (calls.Ends true (Failed m.code)))
      (by (m.code == valid) refl)
    where
      by : (b : Bool) → (m.code == valid) ≡ b → (b && has_tags r.etags) ≡ false
      by false e = refl
      by true e = ap has_tags (h.1 (same_number m.code valid e))
  each_failed_of (Uploads u) carries h = each_upload_failed u carries (more_follows u) refl h
  each_failed_of Single carries h = ap (calls.Ends true)
      (ends_failed r.method (single_code sizes r.method body m.code carries ∙ apart m.code deleted h))
