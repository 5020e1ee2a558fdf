-- How far each request takes a transfer of a body (RFC 7959, sections 2.4 and 2.5).
use Rattle.std.proofs.Common.{◌≡◌, ◌≤◌, ◌<◌, ◌⊎◌, inl, inr, ℕ, ◌+◌, ◌*◌, Bool, true, false, not, ◌&&◌, ◌||◌, nat_lt}
use Rattle.std.proofs.Common.{nat_le, Option, Some, None, is_some, List, length, refl, ap, sym, subst, ◌∙◌, cond, arith}
use Rattle.std.specs.Prelude.{◌==◌}
use Rattle.std.proofs.lemmas.Bool.{and_parts}
use Rattle.std.proofs.lemmas.Bool.Decides.{nat_tests}
use Rattle.std.proofs.lemmas.List.{length-append}
use Rattle.std.proofs.Math.Nat.{mul-le-mul_right, add-mul}
use Rattle.std.proofs.Math.Pow.{pow_mono}
use Rattle.coap_types.specs.declared.block.Block.{Block}
use Rattle.coap_types.specs.declared.option_number.TheConstants.{BLOCK2 as block2}
use Rattle.coap_types.specs.BlockValue.{block_in}
use Rattle.coap_types.specs.OptionValues.{value_of}
use Rattle.coap_types.specs.Piece.{size_of, offset_of}
use Rattle.coap_codec.specs.Message.{Message}
use Rattle.coap_block.specs.Sizes.{Sizes}
use Rattle.coap_block.specs.declared.fetch_judging.TheConstants.{MAX_RESTARTS as max_restarts}
use Rattle.coap_block.specs.declared.fetch_progress.Asked.{Asked}
use Rattle.coap_block.specs.declared.fetch_step.FetchRefusal.TheVariants as refusal
use Rattle.coap_block.specs.declared.fetch_verdict.Verdict.{Verdict}
use Rattle.coap_block.specs.declared.fetch_verdict.Verdict.TheVariants as verdict
use Rattle.coap_block.specs.FetchStep.{FetchState, fits, is_sized, lacks_tag, differs, same_tag, next_num, next_szx}
use Rattle.coap_block.specs.FetchStep as F
use Rattle.coap_block.specs.UploadStep.{UploadState, upload_start, continues, KeepsSize, moved}
use Rattle.coap_block.proofs.Facts.Sizes.{aligned, aligned_to}
use Rattle.coap_client.specs.Responses.{said, tag_in, part, part_by}
use Rattle.coap_client_laws.specs.Follows.Bounds.{max_blocks}
use Rattle.coap_client_laws.proofs.Counting.Blocks.{blocks_hold, one_block, within_blocks}
use Rattle.coap_client_laws.proofs.Reporting.FetchedParts.{part_asks}
use Rattle.coap_client.proofs.Facts.Places.PlaceLemmas.{same_number}
use Rattle.coap_client_laws.proofs.Uploading.UploadSteps.{continues_is, at_most as no_larger}
pub use Rattle.coap_exchange.proofs.Facts.Comparisons.{lt_not}

pub size_least : (szx : ℕ) → 16 ≤ size_of szx
size_least szx = pow_mono {i = 4} {j = szx + 4} (omega arith)

lt_is : (a b : ℕ) → nat_lt a b ≡ true → a < b
lt_is a b h = grind (arith, nat_tests)

le_not : (a b : ℕ) → nat_le a b ≡ false → b < a
le_not a b h = grind (arith, nat_tests)

zero_at : (num size : ℕ) → num ≡ 0 → num * size ≡ 0
zero_at num size h = ap (λ n. n * size) h ∙ none size
  where
    none : (s : ℕ) → 0 * s ≡ 0
    none s = omega arith

-- a part that lets the next block be asked for
pub record AsksMore (f : FetchState) (b : Block) (len num size : ℕ) : Type 0 where
  pub fits_it : fits f.asked b.num b.szx ≡ true
  pub more : b.more ≡ true
  pub full : len ≡ size_of b.szx
  pub small : offset_of b.num b.szx + len ≤ f.limit
  pub num_is : next_num f b ≡ num
  pub size_is : next_szx f b ≡ size

-- .. and one that has another ETag
record AsksAnew (f : FetchState) (b : Block) (len : ℕ) : Type 0 where
  fits_it : fits f.asked b.num b.szx ≡ true
  sized : is_sized b.more b.num b.szx len ≡ true
  small : offset_of b.num b.szx + len ≤ f.limit
  behind : is_some f.asked ≡ true
  again : f.restarts < max_restarts

module _ (f : FetchState) (b : Block) (tag : Option (List ℕ)) (len : ℕ) where
  abbrev chosen : (sized large none other more : Bool) → Verdict
  chosen sized large none other more =
      cond (not sized) (verdict.Refuse refusal.BadBlock)
      (cond large (verdict.Refuse refusal.TooLarge)
      (cond none (verdict.Refuse refusal.NoTag) (cond other (F.changed f.restarts)
      (cond more (verdict.Ask (next_num f b) (next_szx f b)) verdict.Done))))

  changed_asks : (num size : ℕ) → F.changed f.restarts ≡ verdict.Ask num size → ⊥
  changed_asks num size h = by (nat_le max_restarts f.restarts) h
    where
      by : (c : Bool) → cond c (verdict.Refuse refusal.Changed) verdict.Again ≡ verdict.Ask num size → ⊥
      by true h = cc h
      by false h = cc h

  changed_again : F.changed f.restarts ≡ verdict.Again → f.restarts < max_restarts
  changed_again h = by (nat_le max_restarts f.restarts) refl h
    where
      by : (c : Bool) → nat_le max_restarts f.restarts ≡ c
          → cond c (verdict.Refuse refusal.Changed) verdict.Again ≡ verdict.Again → f.restarts < max_restarts
      by true is h = absurd (cc h)
      by false is h = le_not max_restarts f.restarts is

  full_by : (more : Bool) → more ≡ true → is_sized more b.num b.szx len ≡ true → len ≡ size_of b.szx
  full_by true is h = same_number len (size_of b.szx) h
  full_by false is h = absurd (cc is)

  pub asks_more : (num size : ℕ) → F.verdict f (Some b) tag len ≡ verdict.Ask num size → AsksMore f b len num size
  asks_more num size h = by (fits f.asked b.num b.szx && is_sized b.more b.num b.szx len) refl
      (nat_lt f.limit (offset_of b.num b.szx + len)) refl (lacks_tag b tag) (differs f tag) b.more refl h
    where
      by : (s : Bool) → (fits f.asked b.num b.szx && is_sized b.more b.num b.szx len) ≡ s → (l : Bool)
          → nat_lt f.limit (offset_of b.num b.szx + len) ≡ l → (n d m : Bool) → b.more ≡ m
          → chosen s l n d m ≡ verdict.Ask num size → AsksMore f b len num size
      by false a l c n d m e h = absurd (cc h)
      by true a true c n d m e h = absurd (cc h)
      by true a false c true d m e h = absurd (cc h)
      by true a false c false true m e h = absurd (changed_asks num size h)
      by true a false c false false false e h = absurd (cc h)
      by true a false c false false true e h =
          let k = and_parts (fits f.asked b.num b.szx) (is_sized b.more b.num b.szx len) a in
          record {
            fits_it = k.0;
            more = e;
            full = full_by b.more e k.1;
            small = lt_not f.limit (offset_of b.num b.szx + len) c;
            num_is = cc h;
            size_is = cc h;
          }

  asks_anew : F.verdict f (Some b) tag len ≡ verdict.Again → AsksAnew f b len
  asks_anew h = by (fits f.asked b.num b.szx && is_sized b.more b.num b.szx len) refl
      (nat_lt f.limit (offset_of b.num b.szx + len)) refl (lacks_tag b tag) (differs f tag) refl b.more h
    where
      by : (s : Bool) → (fits f.asked b.num b.szx && is_sized b.more b.num b.szx len) ≡ s → (l : Bool)
          → nat_lt f.limit (offset_of b.num b.szx + len) ≡ l → (n d : Bool) → differs f tag ≡ d → (m : Bool)
          → chosen s l n d m ≡ verdict.Again → AsksAnew f b len
      by false a l c n d g m h = absurd (cc h)
      by true a true c n d g m h = absurd (cc h)
      by true a false c true d g m h = absurd (cc h)
      by true a false c false false g true h = absurd (cc h)
      by true a false c false false g false h = absurd (cc h)
      by true a false c false true g m h =
          let k = and_parts (fits f.asked b.num b.szx) (is_sized b.more b.num b.szx len) a in
          let d = and_parts (is_some f.asked) (not (same_tag tag f.tag)) g in
          record {
            fits_it = k.0;
            sized = k.1;
            small = lt_not f.limit (offset_of b.num b.szx + len) c;
            behind = d.0;
            again = changed_again h;
          }

none_again : (f : FetchState) (tag : Option (List ℕ)) (len : ℕ) → F.verdict f None tag len ≡ verdict.Again → ⊥
none_again f tag len h = by (is_some f.asked) (nat_lt f.limit len) h
  where
    by : (a b : Bool) → cond a (verdict.Refuse refusal.BadBlock) (cond b (verdict.Refuse refusal.TooLarge) verdict.Done)
        ≡ verdict.Again → ⊥
    by true b h = cc h
    by false true h = cc h
    by false false h = cc h

part_again : (f : FetchState) (m : Message) → part f m ≡ verdict.Again
    → (b : Block) × (F.verdict f (Some b) (tag_in m) (length m.payload) ≡ verdict.Again)
part_again f m h = by (value_of block2 (said m)) h
  where
    with_block : (o : Option Block) → elim o [
      | None ↦ verdict.Refuse refusal.BadBlock
      | Some b ↦ F.verdict f (Some b)
          (tag_in m) (length m.payload)
    ] ≡ verdict.Again
        → (b : Block) × (F.verdict f (Some b) (tag_in m) (length m.payload) ≡ verdict.Again)
    with_block None h = absurd (cc h)
    with_block (Some b) h = (b, h)

    by : (o : Option (List ℕ)) → part_by f (tag_in m) (length m.payload) o ≡ verdict.Again
        → (b : Block) × (F.verdict f (Some b) (tag_in m) (length m.payload) ≡ verdict.Again)
    by None h = absurd (none_again f (tag_in m) (length m.payload) h)
    by (Some v) h = with_block (block_in v) h

-- so many requests were sent: what is asked for begins behind what was gathered

abbrev BeginsAt : Option Asked → ℕ → Type 0
BeginsAt None n = n ≡ 0
BeginsAt (Some a) n = (offset_of a.num a.szx ≡ n) × (16 ≤ n)

-- .. of a body that is not longer than the limit, in blocks of which so many hold it
pub record FetchWithin (limit : ℕ) (f : FetchState) (n : ℕ) : Type 0 where
  pub limit_is : f.limit ≡ limit
  pub few : 16 * n ≤ 16 * (f.restarts * max_blocks limit) + length f.gathered + 16
  pub restarts : f.restarts ≤ 3
  pub small : length f.gathered ≤ limit
  pub begins : BeginsAt f.asked (length f.gathered)

pub fetch_begins : (sizes : Sizes) (n : ℕ) → n ≤ 1 → FetchWithin sizes.limit (F.start sizes 0) n
fetch_begins sizes n h = record {
  limit_is = refl;
  few = omega (arith, h);
  restarts = omega arith;
  small = omega arith;
  begins = refl;
}

pub at_gathered : (o : Option Asked) (n num szx : ℕ) → BeginsAt o n → fits o num szx ≡ true → offset_of num szx ≡ n
at_gathered None n num szx at h = zero_at num (size_of szx) (same_number num 0 h) ∙ sym at
at_gathered (Some a) n num szx at h =
    let k = and_parts (num == a.num) (szx == a.szx) h in
    ap (λ x. offset_of x szx) (same_number num a.num k.0)
    ∙ (ap (λ x. offset_of a.num x) (same_number szx a.szx k.1) ∙ at.0)

far_enough : (o : Option Asked) (n : ℕ) → BeginsAt o n → is_some o ≡ true → 16 ≤ n
far_enough None n at h = absurd (cc h)
far_enough (Some a) n at h = at.1

-- a part behind others is not empty
some_payload : (more : Bool) (num szx len : ℕ) → is_sized more num szx len ≡ true → 16 ≤ offset_of num szx → 1 ≤ len
some_payload true num szx len h far = let e = same_number len (size_of szx) h in let k =
    size_least szx in omega (arith, e, k)
some_payload false num szx len h far = by (nat_lt 0 len) refl
    (and_parts (nat_le len (size_of szx)) (nat_lt 0 len || (num == 0)) h).1
  where
    by : (b : Bool) → nat_lt 0 len ≡ b → (b || (num == 0)) ≡ true → 1 ≤ len
    by true is k = let z = lt_is 0 len is in omega (arith, z)
    by false is k = let z = zero_at num (size_of szx) (same_number num 0 k) in absurd (omega (arith, z, far))

-- so many in all passes, of which this one has gathered so much: one request more ..
few_more : (n all old len new : ℕ) → 16 * n ≤ 16 * all + old + 16 → new ≡ old + len → 16 ≤ len
    → 16 * (1 + n) ≤ 16 * all + new + 16
few_more n all old len new few sum full = omega (arith, few, sum, full)

-- .. which begins a further pass
few_anew : (n restarts blocks old len limit : ℕ) → 16 * n ≤ 16 * (restarts * blocks) + old + 16 → old + len ≤ limit
    → 1 ≤ len → limit ≤ 16 * blocks → 16 * (1 + n) ≤ 16 * ((restarts + 1) * blocks) + 0 + 16
few_anew n restarts blocks old len limit few small some hold =
    let more : (restarts + 1) * blocks ≡ restarts * blocks + 1 * blocks = add-mul restarts 1 blocks in
    omega (arith, few, small, some, hold, more)

pub few_passes : (restarts blocks : ℕ) → restarts ≤ 3 → restarts * blocks ≤ 3 * blocks
few_passes restarts blocks few = mul-le-mul_right blocks few

pub fetch_more : (limit : ℕ) (f : FetchState) (m : Message) (n num size : ℕ) → part f m ≡ verdict.Ask num size
    → FetchWithin limit f n → FetchWithin limit (F.after f (tag_in m) m.payload (verdict.Ask num size)) (1 + n)
fetch_more limit f m n num size h w =
    let k = part_asks f m num size h in
    let b : Block = k.0 in
    let a = asks_more f b (tag_in m) (length m.payload) num size k.2 in
    let at = at_gathered f.asked (length f.gathered) b.num b.szx w.begins a.fits_it in
    let all = length-append f.gathered m.payload in
    let full = a.full in
    let least = size_least b.szx in
    let small = a.small in
    let limit_is = w.limit_is in
    let behind : offset_of num size ≡ offset_of b.num b.szx + size_of b.szx =
    ap (λ x. offset_of x size) (sym a.num_is) ∙ (ap (λ x. offset_of (next_num f b) x) (sym a.size_is)
    ∙ aligned b.num b.szx f.szx) in
    record {
      limit_is = w.limit_is;
      few = few_more n (f.restarts * max_blocks limit) (length f.gathered) (length m.payload) _ w.few all
          (omega (arith, full, least));
      restarts = w.restarts;
      small = omega (arith, all, at, small, limit_is);
      begins = (behind ∙ omega (arith, at, all, full), omega (arith, all, full, least));
    }

pub fetch_anew : (limit : ℕ) (f : FetchState) (m : Message) (n : ℕ) → part f m ≡ verdict.Again → FetchWithin limit f n
    → FetchWithin limit (F.after f (tag_in m) m.payload verdict.Again) (1 + n)
fetch_anew limit f m n h w =
    let k = part_again f m h in
    let b : Block = k.0 in
    let a = asks_anew f b (tag_in m) (length m.payload) k.1 in
    let at = at_gathered f.asked (length f.gathered) b.num b.szx w.begins a.fits_it in
    let far = far_enough f.asked (length f.gathered) w.begins a.behind in
    let some = some_payload b.more b.num b.szx (length m.payload) a.sized (omega (arith, at, far)) in
    let small = a.small in
    let limit_is = w.limit_is in
    let again = a.again in
    record {
      limit_is = w.limit_is;
      few = few_anew n f.restarts (max_blocks limit) (length f.gathered) (length m.payload) limit w.few
          (omega (arith, at, small, limit_is)) some (blocks_hold limit);
      restarts = omega (arith, again);
      small = omega arith;
      begins = refl;
    }

few_in_all : (n all old blocks limit : ℕ) → 16 * n ≤ 16 * all + old + 16 → all ≤ 3 * blocks → old ≤ limit
    → limit ≤ 16 * blocks → n ≤ 4 * blocks + 1
few_in_all n all old blocks limit few passes small hold = omega (arith, few, passes, small, hold)

pub fetch_bound : (limit : ℕ) (f : FetchState) (n : ℕ) → FetchWithin limit f n → n ≤ 4 * max_blocks limit + 1
fetch_bound limit f n w = few_in_all n (f.restarts * max_blocks limit) (length f.gathered)
    (max_blocks limit) limit w.few
    (few_passes f.restarts (max_blocks limit) w.restarts) w.small (blocks_hold limit)

-- of an upload: it is at its start, or so far in a body that is longer than a block

pub record UploadLater (sizes : Sizes) (body : List ℕ) (u : UploadState) (n : ℕ) : Type 0 where
  pub longer : nat_lt (size_of sizes.szx) (length body) ≡ true
  pub body_is : u.body ≡ body
  pub few : 16 * n ≤ offset_of u.num u.szx + 16
  pub within : offset_of u.num u.szx < length body

abbrev pub UploadWithin : Sizes → List ℕ → UploadState → ℕ → Type 0
UploadWithin sizes body u n = ((u ≡ upload_start body sizes.szx) × (n ≤ 1)) ⊎ UploadLater sizes body u n

more_by : (offset size next n : ℕ) → next ≡ offset + size → 16 ≤ size → 16 * n ≤ offset + 16 → 16 * (1 + n) ≤ next + 16
more_by offset size next n e least few = omega (arith, e, least, few)

pub upload_more : (sizes : Sizes) (body : List ℕ) (u : UploadState) (b : Block) (n : ℕ) → continues u b ≡ true
    → nat_lt (size_of u.szx) (length u.body) ≡ true → UploadWithin sizes body u n
    → UploadWithin sizes body (moved u b) (1 + n)
upload_more sizes body u b n h long (inl w) =
    let c = continues_is u b h in
    let at = aligned_to u.num u.szx b.szx (no_larger u b.szx c.3) in
    let body_is : u.body ≡ body = ap (λ (x : UploadState). x.body) w.0 in
    let szx_is : u.szx ≡ sizes.szx = ap (λ (x : UploadState). x.szx) w.0 in
    let begins : 0 ≡ offset_of u.num u.szx = sym
    (zero_at u.num (size_of u.szx) (ap (λ (x : UploadState). x.num) w.0)) in
    let one = w.1 in
    let follows = lt_is (offset_of u.num u.szx + size_of u.szx) (length u.body) c.0 in
    let same = ap (λ (l : List ℕ). length l) body_is in
    inr (record {
      longer = subst (λ (l : List ℕ). nat_lt (size_of sizes.szx) (length l) ≡ true) body_is
          (subst (λ x. nat_lt (size_of x) (length u.body) ≡ true) szx_is long);
      body_is = body_is;
      few = more_by (offset_of u.num u.szx) (size_of u.szx) _ n at (size_least u.szx) (omega (arith, one));
      within = omega (arith, at, follows, same);
    })
upload_more sizes body u b n h long (inr w) =
    let c = continues_is u b h in
    let at = aligned_to u.num u.szx b.szx (no_larger u b.szx c.3) in
    let follows = lt_is (offset_of u.num u.szx + size_of u.szx) (length u.body) c.0 in
    let same = ap (λ (l : List ℕ). length l) w.body_is in
    inr (record {
      longer = w.longer;
      body_is = w.body_is;
      few = more_by (offset_of u.num u.szx) (size_of u.szx) _ n at (size_least u.szx) w.few;
      within = omega (arith, at, follows, same);
    })

pub upload_bound : (sizes : Sizes) (body : List ℕ) (u : UploadState) (n : ℕ) → length body ≤ sizes.limit
    → UploadWithin sizes body u n → n ≤ cond (nat_lt (size_of sizes.szx) (length body)) (max_blocks sizes.limit) 1
upload_bound sizes body u n small (inl w) = by (nat_lt (size_of sizes.szx) (length body))
  where
    by : (b : Bool) → n ≤ cond b (max_blocks sizes.limit) 1
    by true = let one = w.1 in let some = one_block sizes.limit in omega (arith, one, some)
    by false = w.1
upload_bound sizes body u n small (inr w) = subst (λ b. n ≤ cond b (max_blocks sizes.limit) 1) (sym w.longer)
    (within_blocks sizes.limit n (let few = w.few in let within = w.within in omega (arith, few, within, small)))
