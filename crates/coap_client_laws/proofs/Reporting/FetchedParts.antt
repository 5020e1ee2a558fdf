-- What a fetch makes of a part that it takes.
use Rattle.std.proofs.Common.{◌≡◌, ◌⊎◌, inl, inr, ℕ, Bool, true, false, cond, ◌&&◌, Option, Some, None, List, [], refl}
use Rattle.std.proofs.Common.{ap, sym, ◌∙◌, length}
use Rattle.std.specs.Prelude.{◌==◌, is_some}
use Rattle.coap_types.specs.BlockValue.{block_in}
use Rattle.coap_types.specs.OptionValues.{value_of}
use Rattle.coap_types.specs.declared.block.Block.{Block}
use Rattle.coap_types.specs.declared.option_number.TheConstants.{BLOCK1 as block1, BLOCK2 as block2}
use Rattle.coap_types.specs.declared.request.Method.{Method}
use Rattle.coap_codec.specs.Message.{Message}
use Rattle.coap_block.specs.Sizes.{Sizes}
use Rattle.coap_block.specs.declared.fetch_step.FetchRefusal.TheVariants as refusal
use Rattle.coap_block.specs.declared.fetch_verdict.Verdict.{Verdict}
use Rattle.coap_block.specs.declared.fetch_verdict.Verdict.TheVariants as verdict
use Rattle.coap_block.specs.FetchStep.{FetchState}
use Rattle.coap_block.specs.FetchStep as F
use Rattle.coap_block.specs.declared.fetch_progress.Asked as fetch
use Rattle.coap_block.specs.Gathered.{Gathered, Awaits}
use Rattle.coap_block.specs.UploadStep.{UploadState, more_follows, moved, continues}
use Rattle.coap_block.specs.Whole.{Part}
use Rattle.coap_client.specs.Trace.{Request, Valid, Failed, BadBlock}
use Rattle.coap_client.specs.Own.{Transfer, Fetches, Uploads, Single, Calling}
use Rattle.coap_client.specs.Requests.{is_longer}
use Rattle.coap_client.specs.Responses.{content, valid, continue, said, tag_in, block_at, part}
use Rattle.coap_client.specs.Reports.{done}
use Rattle.coap_client.specs.Calls.{answer, has_tags}
use Rattle.coap_client.specs.Calls as calls
use Rattle.coap_client.proofs.Facts.Places.PlaceLemmas.{same_number, number_self}
use Rattle.coap_client_laws.specs.Follows.Bodies.{ComesLast, is_first_of}

-- what a part means

none_asks : (f : FetchState) (tag : Option (List ℕ)) (len num size : ℕ)
    → F.verdict f None tag len ≡ verdict.Ask num size → ⊥
none_asks f tag len num size h = by (Rattle.std.specs.Prelude.is_some f.asked)
    (Rattle.std.specs.Prelude.nat_lt f.limit len) h
  where
    by : (a b : Bool) → cond a (verdict.Refuse refusal.BadBlock) (cond b (verdict.Refuse refusal.TooLarge) verdict.Done)
        ≡ verdict.Ask num size → ⊥
    by true b h = cc h
    by false true h = cc h
    by false false h = cc h

pub part_asks : (f : FetchState) (m : Message) (num size : ℕ) → part f m ≡ verdict.Ask num size
    → (b : Block) × (block_at block2 m ≡ Some b)
    × (F.verdict f (Some b) (tag_in m) (length m.payload) ≡ verdict.Ask num size)
part_asks f m num size h = by (value_of block2 (said m)) refl h
  where
    with_block : (o : Option Block) → elim o [
      | None ↦ verdict.Refuse refusal.BadBlock
      | Some b ↦ F.verdict f (Some b)
          (tag_in m) (length m.payload)
    ] ≡ verdict.Ask num size
        → (b : Block) × (o ≡ Some b) × (F.verdict f (Some b) (tag_in m) (length m.payload) ≡ verdict.Ask num size)
    with_block None h = absurd (cc h)
    with_block (Some b) h = (b, refl, h)

    by : (o : Option (List ℕ)) → value_of block2 (said m) ≡ o
        → Rattle.coap_client.specs.Responses.part_by f (tag_in m) (length m.payload) o
        ≡ verdict.Ask num size
        → (b : Block) × (block_at block2 m ≡ Some b)
        × (F.verdict f (Some b) (tag_in m) (length m.payload) ≡ verdict.Ask num size)
    by None is h = absurd (none_asks f (tag_in m) (length m.payload) num size h)
    by (Some v) is h = let k = with_block (block_in v) h
        in (k.0, ap (λ o. elim o [ None ↦ None | Some x ↦ block_in x ]) is ∙ k.1, k.2)

-- what comes last, as the transfer took it
pub record DoneBy (parts : List Part) (f : FetchState) (m : Message) : Type 0 where
  pub block : Option Block
  pub last : ComesLast parts m block
  pub done : F.verdict f block (tag_in m) (length m.payload) ≡ verdict.Done

-- without a block nothing was gathered before
none_before : (parts : List Part) (f : FetchState) (len : ℕ) (tag : Option (List ℕ)) → Gathered parts f
    → F.verdict f None tag len ≡ verdict.Done → parts ≡ []
none_before parts f len tag g h = by f.asked g.awaits h
  where
    by : (o : Option fetch.Asked) → Awaits o f.tag parts
        → cond (is_some o) (verdict.Refuse refusal.BadBlock)
        (cond (Rattle.std.specs.Prelude.nat_lt f.limit len)
        (verdict.Refuse refusal.TooLarge) verdict.Done) ≡ verdict.Done → parts ≡ []
    by None a h = a
    by (Some asked) a h = absurd (cc h)

pub part_done : (parts : List Part) (f : FetchState) (m : Message) → Gathered parts f → part f m ≡ verdict.Done
    → DoneBy parts f m
part_done parts f m g h = by (value_of block2 (said m)) refl h
  where
    with_block : (o : Option Block) → block_at block2 m ≡ o
        → elim o [
          | None ↦ verdict.Refuse refusal.BadBlock
          | Some b ↦ F.verdict f (Some b) (tag_in m)
              (length m.payload)
        ] ≡ verdict.Done → DoneBy parts f m
    with_block None is h = absurd (cc h)
    with_block (Some b) is h = record { block = Some b; last = is; done = h }

    by : (o : Option (List ℕ)) → value_of block2 (said m) ≡ o
        → Rattle.coap_client.specs.Responses.part_by f (tag_in m) (length m.payload) o ≡ verdict.Done
        → DoneBy parts f m
    by None is h = record { block = None; last = (is, none_before parts f (length m.payload) (tag_in m) g h); done = h }
    by (Some v) is h = with_block (block_in v) (ap (λ o. elim o [ None ↦ None | Some x ↦ block_in x ]) is) h

-- where nothing was gathered, the first block was asked for
pub alone_first : (k : ℕ) (r : Request) (f : FetchState) (parts : List Part) → Gathered parts f → parts ≡ []
    → is_first_of k (Calling k r (Fetches f)) ≡ true
alone_first k r f parts g none = by f.asked g.awaits
  where
    by : (o : Option fetch.Asked) → Awaits o f.tag parts → elim o [ None ↦ k == k | Some asked ↦ false ] ≡ true
    by None a = number_self k
    by (Some asked) a = absurd (a.1 none)

pub gathered_none : (sizes : Sizes) (restarts : ℕ) → Gathered [] (F.start sizes restarts)
gathered_none sizes restarts = record { bytes = refl; chained = tt; full = tt; awaits = refl }

-- what a GET goes on with

pub record FetchNext (old : Transfer) (m : Message) (f : FetchState) : Type 0 where
  pub before : FetchState
  pub old_is : old ≡ Fetches before
  pub code : m.code ≡ content
  pub next : (f ≡ F.after before (tag_in m) m.payload verdict.Again)
      ⊎ ((num : ℕ) × (size : ℕ) × (part before m ≡ verdict.Ask num size)
      × (f ≡ F.after before (tag_in m) m.payload (verdict.Ask num size)))

abbrev fetch_of : Transfer → Option FetchState
fetch_of (Fetches f) = Some f
fetch_of t = None

abbrev next_of : calls.Next → Option FetchState
next_of (calls.Asks t) = fetch_of t
next_of (calls.Ends final report) = None

asks_fetch : (n : calls.Next) (f : FetchState) → n ≡ calls.Asks (Fetches f) → next_of n ≡ Some f
asks_fetch n f h = ap next_of h

continued_none : (u : UploadState) (o : Option Block) → next_of (calls.continued u o) ≡ None
continued_none u None = refl
continued_none u (Some b) = by (continues u b)
  where
    by : (c : Bool) → next_of (cond c (calls.Asks (Uploads (moved u b))) (calls.Ends false BadBlock)) ≡ None
    by true = refl
    by false = refl

upload_none : (method : Method) (u : UploadState) (m : Message) → next_of (calls.sent method u m) ≡ None
upload_none method u m = by ((m.code == continue) && is_longer u) (more_follows u && calls.is_below_errors m.code)
  where
    by : (b p : Bool) → next_of (cond b (calls.continued u (block_at block1 m))
        (cond p (calls.Ends true BadBlock) (calls.Ends true (done method m.code)))) ≡ None
    by true p = continued_none u (block_at block1 m)
    by false true = refl
    by false false = refl

pub fetch_next : (r : Request) (old : Transfer) (m : Message) (f : FetchState) → answer r old m ≡ calls.Asks (Fetches f)
    → FetchNext old m f
fetch_next r Single m f h = absurd (cc h)
fetch_next r (Uploads u) m f h = let k : None ≡ Some f = sym (upload_none r.method u m)
    ∙ asks_fetch (calls.sent r.method u m) f h in absurd (cc k)
fetch_next r (Fetches b) m f h = by (m.code == content) refl ((m.code == valid) && has_tags r.etags) h
  where
    by_verdict : m.code ≡ content → (v : Verdict) → part b m ≡ v → calls.fetched b m v ≡ calls.Asks (Fetches f)
        → FetchNext (Fetches b) m f
    by_verdict code (verdict.Refuse why) is h = absurd (cc h)
    by_verdict code verdict.Done is h = absurd (cc h)
    by_verdict code verdict.Again is h = let e : F.after b (tag_in m) m.payload verdict.Again
        ≡ f = (let k = ap next_of h in cc k) in record { before = b; old_is = refl; code = code; next = inl (sym e) }
    by_verdict code (verdict.Ask num size) is h =
        let e : F.after b (tag_in m) m.payload (verdict.Ask num size)
        ≡ f = (let k = ap next_of h in cc k) in record
        { before = b; old_is = refl; code = code; next = inr (num, size, is, sym e) }

    by : (c : Bool) → (m.code == content) ≡ c → (d : Bool)
        → cond c (calls.fetched b m (part b m)) (cond d (calls.Ends true (Valid (tag_in m)))
        (calls.Ends true (Failed m.code))) ≡ calls.Asks (Fetches f) → FetchNext (Fetches b) m f
    by true is d h = by_verdict (same_number m.code content is) (part b m) refl h
    by false is true h = absurd (cc h)
    by false is false h = absurd (cc h)
