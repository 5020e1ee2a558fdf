-- How far a transfer is by so many requests.
use Rattle.std.proofs.Common.{◌≡◌, ◌≤◌, inl, ℕ, ◌+◌, Bool, true, false, cond, ◌&&◌, nat_lt, Option, Some, None, length}
use Rattle.std.proofs.Common.{refl, sym, subst, arith}
use Rattle.std.specs.Prelude.{◌==◌}
use Rattle.std.proofs.lemmas.Bool.{and_parts}
use Rattle.coap_types.specs.declared.block.Block.{Block}
use Rattle.coap_types.specs.declared.option_number.TheConstants.{BLOCK1 as block1}
use Rattle.coap_types.specs.declared.request.Method.{Method}
use Rattle.coap_types.specs.declared.request.Method.TheVariants.{Get, Post, Put, Delete}
use Rattle.coap_types.specs.Piece.{size_of}
use Rattle.coap_codec.specs.Message.{Message}
use Rattle.coap_block.specs.Sizes.{Sizes}
use Rattle.coap_block.specs.declared.fetch_verdict.Verdict.{Verdict}
use Rattle.coap_block.specs.declared.fetch_verdict.Verdict.TheVariants as verdict
use Rattle.coap_block.specs.FetchStep.{FetchState}
use Rattle.coap_block.specs.FetchStep as F
use Rattle.coap_block.specs.UploadStep.{UploadState, more_follows, continues, moved}
use Rattle.coap_client.specs.Trace.{Request, Valid, Failed, BadBlock}
use Rattle.coap_client.specs.Own.{Transfer, Fetches, Uploads, Single}
use Rattle.coap_client.specs.Requests.{is_longer}
use Rattle.coap_client.specs.Responses.{content, valid, continue, tag_in, block_at, part}
use Rattle.coap_client.specs.Reports.{done}
use Rattle.coap_client.specs.Calls.{answer, has_tags}
use Rattle.coap_client.specs.Calls as calls
use Rattle.coap_client.specs.Queue.{transfer_of}
use Rattle.coap_client_laws.specs.Follows.Bounds.{max_blocks, most_requests}
use Rattle.coap_client_laws.proofs.Counting.Blocks.{one_block}
use Rattle.coap_client_laws.proofs.Uploading.TransferSteps.{FetchWithin, fetch_begins, fetch_more, fetch_anew}
use Rattle.coap_client_laws.proofs.Uploading.TransferSteps.{fetch_bound}
use Rattle.coap_client_laws.proofs.Uploading.TransferSteps.{UploadWithin, upload_more, upload_bound}

-- how far the transfer of a call is, by so many requests

abbrev pub IsUploading : Method → Type 0
IsUploading Post = Unit {0}
IsUploading Put = Unit {0}
IsUploading _ = ⊥

abbrev pub Within : Sizes → Request → Transfer → ℕ → Type 0
Within sizes q (Fetches f) n = (q.method ≡ Get) × FetchWithin sizes.limit f n
Within sizes q (Uploads u) n = IsUploading q.method × UploadWithin sizes q.body u n
Within sizes q Single n = n ≤ 1

pub begins_within : (sizes : Sizes) (q : Request) (m : Method) (n : ℕ) → q.method ≡ m → n ≤ 1
    → Within sizes q (transfer_of sizes q m) n
begins_within sizes q Get n is one = (is, fetch_begins sizes n one)
begins_within sizes q Delete n is one = one
begins_within sizes q _ n is one = (subst IsUploading (sym is) tt, inl (refl, one))

module _ (sizes : Sizes) (q r : Request) (m : Message) (next : Transfer) (n : ℕ) where
  fetch_within : (f : FetchState) → answer r (Fetches f) m ≡ calls.Asks next → Within sizes q (Fetches f) n
      → Within sizes q next (1 + n)
  fetch_within f h w = by (m.code == content) ((m.code == valid) && has_tags r.etags) h
    where
      by_verdict : (v : Verdict) → part f m ≡ v → calls.fetched f m v ≡ calls.Asks next → Within sizes q next (1 + n)
      by_verdict verdict.Again is h = let e : Fetches (F.after f (tag_in m) m.payload verdict.Again)
          ≡ next = cc h in subst (λ t. Within sizes q t (1 + n)) e (w.0, fetch_anew sizes.limit f m n is w.1)
      by_verdict (verdict.Ask num size) is h =
          let e : Fetches (F.after f (tag_in m) m.payload (verdict.Ask num size))
          ≡ next = cc h in subst (λ t. Within sizes q t (1 + n)) e (w.0, fetch_more sizes.limit f m n num size is w.1)
      by_verdict _ is h = absurd (cc h)

      by : (c d : Bool) → cond c (calls.fetched f m (part f m))
          (cond d (calls.Ends true (Valid (tag_in m))) (calls.Ends true (Failed m.code))) ≡ calls.Asks next
          → Within sizes q next (1 + n)
      by true d h = by_verdict (part f m) refl h
      by false true h = absurd (cc h)
      by false false h = absurd (cc h)

  upload_within : (u : UploadState) → answer r (Uploads u) m ≡ calls.Asks next → Within sizes q (Uploads u) n
      → Within sizes q next (1 + n)
  upload_within u h w = by ((m.code == continue) && is_longer u) refl (more_follows u && calls.is_below_errors m.code) h
    where
      step : is_longer u ≡ true → (b : Block) (c : Bool) → continues u b ≡ c
          → cond c (calls.Asks (Uploads (moved u b))) (calls.Ends false BadBlock) ≡ calls.Asks next
          → Within sizes q next (1 + n)
      step long b true may h = let e : Uploads (moved u b)
          ≡ next = cc h in subst (λ t. Within sizes q t (1 + n)) e (w.0, upload_more sizes q.body u b n may long w.1)
      step long b false may h = absurd (cc h)

      by_block : is_longer u ≡ true → (o : Option Block) → calls.continued u o ≡ calls.Asks next
          → Within sizes q next (1 + n)
      by_block long None h = absurd (cc h)
      by_block long (Some b) h = step long b (continues u b) refl h

      by : (b : Bool) → ((m.code == continue) && is_longer u) ≡ b → (p : Bool)
          → cond b (calls.continued u (block_at block1 m))
          (cond p (calls.Ends true BadBlock) (calls.Ends true (done r.method m.code))) ≡ calls.Asks next
          → Within sizes q next (1 + n)
      by true is p h = by_block (and_parts (m.code == continue) (is_longer u) is).1 (block_at block1 m) h
      by false is true h = absurd (cc h)
      by false is false h = absurd (cc h)

  pub next_within : (old : Transfer) → answer r old m ≡ calls.Asks next → Within sizes q old n
      → Within sizes q next (1 + n)
  next_within (Fetches f) h w = fetch_within f h w
  next_within (Uploads u) h w = upload_within u h w
  next_within Single h w = absurd (cc h)

pub within_bound : (sizes : Sizes) (q : Request) (tr : Transfer) (n : ℕ) → length q.body ≤ sizes.limit
    → Within sizes q tr n
    → n ≤ most_requests sizes q q.method
within_bound sizes q (Fetches f) n small w = subst (λ m. n ≤ most_requests sizes q m) (sym w.0)
    (fetch_bound sizes.limit f n w.1)
within_bound sizes q (Uploads u) n small w = by q.method w.0
  where
    by : (m : Method) → IsUploading m → n ≤ most_requests sizes q m
    by Get h = absurd h
    by Post h = upload_bound sizes q.body u n small w.1
    by Put h = upload_bound sizes q.body u n small w.1
    by Delete h = absurd h
within_bound sizes q Single n small w = by q.method
  where
    some : 1 ≤ max_blocks sizes.limit
    some = one_block sizes.limit

    one : (b : Bool) → n ≤ cond b (max_blocks sizes.limit) 1
    one true = omega (arith, w, some)
    one false = w

    by : (m : Method) → n ≤ most_requests sizes q m
    by Get = omega (arith, w)
    by Post = one (nat_lt (size_of sizes.szx) (length q.body))
    by Put = one (nat_lt (size_of sizes.szx) (length q.body))
    by Delete = w
