-- The lines of the table of reports say what a call makes of an answer.
use Rattle.std.proofs.Common.{◌≡◌, ◌≤◌, ℕ, Bool, true, false, cond, not, ◌&&◌, ◌||◌, Option, Some, None, [], ◌∷◌, ◌++◌}
use Rattle.std.proofs.Common.{refl, ap, ◌∙◌, arith}
use Rattle.std.specs.Prelude.{◌==◌, nat_lt}
use Rattle.std.proofs.lemmas.Bool.Decides.{nat_tests}
use Rattle.coap_types.specs.declared.block.Block.{Block}
use Rattle.coap_types.specs.declared.message.TheConstants.Code as codes
use Rattle.coap_types.specs.declared.option_number.TheConstants.{BLOCK1 as block1}
use Rattle.coap_types.specs.declared.request.Method.{Method}
use Rattle.coap_types.specs.declared.request.Method.TheVariants.{Get, Post, Put, Delete}
use Rattle.coap_codec.specs.Message.{Message}
use Rattle.coap_block.specs.declared.fetch_step.FetchRefusal.TheVariants as refusal
use Rattle.coap_block.specs.declared.fetch_verdict.Verdict.{Verdict}
use Rattle.coap_block.specs.declared.fetch_verdict.Verdict.TheVariants as verdict
use Rattle.coap_block.specs.FetchStep.{FetchState}
use Rattle.coap_block.specs.UploadStep.{UploadState, more_follows, continues, moved}
use Rattle.coap_client.specs.Trace.{Request, Report, Body, Valid, Done, Failed, Changed, BadBlock, NoTag, TooLarge}
use Rattle.coap_client.specs.Own.{Uploads}
use Rattle.coap_client.specs.Responses.{content, valid, continue, created, changed, deleted, tag_in, format_in}
use Rattle.coap_client.specs.Responses.{block_at, part}
use Rattle.coap_client.specs.Reports.{is_success}
use Rattle.coap_client.specs.Calls.{has_tags, is_below_errors, answer}
use Rattle.coap_client.specs.Calls as calls
use Rattle.coap_client_laws.specs.Follows.Table.{line, first_of, is_whole, is_changed, is_bad, is_without_tag}
use Rattle.coap_client_laws.specs.Follows.Table.{is_too_large}
use Rattle.coap_client_laws.specs.Follows.Table.{get_lines, is_continue, upload_lines}
use Rattle.coap_client.proofs.Facts.Places.PlaceLemmas.{same_number}
use Rattle.std.proofs.lemmas.Bool.{and_parts}

-- what a call reports of an answer, if it is over
abbrev pub report_in : calls.Next → Option Report
report_in (calls.Asks t) = None
report_in (calls.Ends final report) = Some report

-- a GET

got_by : (r : Request) (f : FetchState) (m : Message) (b p : Bool) (v : Verdict) → (b ≡ true → p ≡ false)
    → report_in (cond b (calls.fetched f m v) (cond p (calls.Ends true (Valid (tag_in m)))
    (calls.Ends true (Failed m.code))))
    ≡ first_of (line (b && is_whole v) (Body (tag_in m) (format_in m) (f.gathered ++ m.payload))
    ∷ line p (Valid (tag_in m)) ∷ line (not b) (Failed m.code) ∷ line (is_changed v) Changed ∷ line (is_bad v) BadBlock
    ∷ line (is_without_tag v) NoTag ∷ line (is_too_large v) TooLarge ∷ [])
got_by r f m true true v h = let z : true ≡ false = h refl in absurd (cc z)
got_by r f m true false verdict.Done h = refl
got_by r f m true false verdict.Again h = refl
got_by r f m true false (verdict.Ask num size) h = refl
got_by r f m true false (verdict.Refuse refusal.Changed) h = refl
got_by r f m true false (verdict.Refuse refusal.BadBlock) h = refl
got_by r f m true false (verdict.Refuse refusal.NoTag) h = refl
got_by r f m true false (verdict.Refuse refusal.TooLarge) h = refl
got_by r f m false true v h = refl
got_by r f m false false v h = refl

pub got_lines : (r : Request) (f : FetchState) (m : Message)
    → report_in (calls.got r f m) ≡ first_of (get_lines r f m)
got_lines r f m = got_by r f m (m.code == content) ((m.code == valid) && has_tags r.etags) (part f m)
    (λ is. ap (λ n. (n == valid) && has_tags r.etags) (same_number m.code content is))

-- a POST, a PUT

sent_by : (n : ℕ) (a more below so g : Bool) → (a ≡ true → (so ≡ false) × (below ≡ true))
    → (below ≡ false → so ≡ false) → (g ≡ true → more ≡ true)
    → cond a (cond g None (Some BadBlock)) (cond (more && below) (Some BadBlock) (Some (cond so (Done n) (Failed n))))
    ≡ first_of (line (not more && so) (Done n) ∷ line (cond more (not below) (not so && not a)) (Failed n)
    ∷ line (not (a && g)) BadBlock ∷ [])
sent_by n true more below true g h k l = let z : true ≡ false = (h refl).0 in absurd (cc z)
sent_by n true more false false g h k l = let z : false ≡ true = (h refl).1 in absurd (cc z)
sent_by n true true true false true h k l = refl
sent_by n true true true false false h k l = refl
sent_by n true false true false true h k l = let z : false ≡ true = l refl in absurd (cc z)
sent_by n true false true false false h k l = refl
sent_by n false true true so g h k l = refl
sent_by n false true false true g h k l = let z : true ≡ false = k refl in absurd (cc z)
sent_by n false true false false g h k l = refl
sent_by n false false below true g h k l = refl
sent_by n false false below false g h k l = refl

continue_none : (method : Method) → is_success method continue ≡ false
continue_none Get = refl
continue_none _ = refl

not_below : (n : ℕ) → nat_lt n codes.BAD_REQUEST.0 ≡ false → codes.BAD_REQUEST.0 ≤ n
not_below n h = grind (arith, nat_tests, h)

none_made : (n : ℕ) → codes.BAD_REQUEST.0 ≤ n → ((n == created) || (n == changed)) ≡ false
none_made n h = grind (arith, nat_tests, h)

none_gone : (n : ℕ) → codes.BAD_REQUEST.0 ≤ n → (n == deleted) ≡ false
none_gone n h = grind (arith, nat_tests, h)

error_none : (method : Method) (n : ℕ) → is_below_errors n ≡ false → is_success method n ≡ false
error_none Post n h = none_made n (not_below n h)
error_none Put n h = none_made n (not_below n h)
error_none _ n h = none_gone n (not_below n h)

module _ (method : Method) (u : UploadState) (m : Message) where
  abbrev fits : Option Block → Bool
  fits o = elim o [ None ↦ false | Some b ↦ continues u b ]

  continued_is : (o : Option Block) → report_in (calls.continued u o) ≡ cond (fits o) None (Some BadBlock)
  continued_is None = refl
  continued_is (Some b) = by (continues u b)
    where
      by : (c : Bool) → report_in (cond c (calls.Asks (Uploads (moved u b))) (calls.Ends false BadBlock))
          ≡ cond c None (Some BadBlock)
      by true = refl
      by false = refl

  fits_more : (o : Option Block) → fits o ≡ true → more_follows u ≡ true
  fits_more None h = absurd (cc h)
  fits_more (Some b) h = (and_parts (more_follows u) _ h).0

  tests : (a p so : Bool) (o : Option Block)
      → report_in (cond a (calls.continued u o) (cond p (calls.Ends true BadBlock)
      (calls.Ends true (cond so (Done m.code) (Failed m.code)))))
      ≡ cond a (cond (fits o) None (Some BadBlock))
      (cond p (Some BadBlock) (Some (cond so (Done m.code) (Failed m.code))))
  tests true p so o = continued_is o
  tests false true so o = refl
  tests false false so o = refl

  continue_code : is_continue u m ≡ true → m.code ≡ continue
  continue_code h = same_number m.code continue (and_parts (m.code == continue) _ h).0

  pub sent_lines : report_in (calls.sent method u m) ≡ first_of (upload_lines method u m)
  sent_lines =
      tests (is_continue u m) (more_follows u && is_below_errors m.code) (is_success method m.code) (block_at block1 m)
      ∙ sent_by m.code (is_continue u m) (more_follows u) (is_below_errors m.code) (is_success method m.code)
      (fits (block_at block1 m))
      (λ h. (
        ap (is_success method) (continue_code h) ∙ continue_none method,
        ap is_below_errors (continue_code h),
      ))
      (error_none method m.code) (fits_more (block_at block1 m))

pub single_so : (n : ℕ) (b : Bool) → Some (cond b (Done n) (Failed n))
    ≡ first_of (line b (Done n) ∷ line (not b) (Failed n) ∷ [])
single_so n true = refl
single_so n false = refl
