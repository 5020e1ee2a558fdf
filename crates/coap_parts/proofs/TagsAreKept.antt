-- The parts of a history have the entity-tags that the fetch knows of.
use Rattle.std.proofs.Common.{◌≡◌, ◌≢◌, ◌⊎◌, inl, inr, ℕ, Bool, true, false, not, ◌&&◌, ◌||◌, nat_lt, nat_le, ◌++◌}
use Rattle.std.proofs.Common.{if◌then◌else◌, ◌+◌, List, [], ◌∷◌, length, refl, ap, sym, subst, arith, Option, Some}
use Rattle.std.proofs.Common.{None}
use Rattle.std.proofs.Common.{is_some}
use Rattle.std.proofs.lemmas.Grind.{common_steps}
use Rattle.std.proofs.lemmas.Slice.Eq.{bytes_eq-Decides}
use Rattle.std.specs.Str.{bytes_eq}
use Rattle.coap_types.specs.declared.block.Block.{Block}
use Rattle.coap_block.specs.declared.fetch_progress.Asked.{Asked}
use Rattle.coap_block.specs.declared.fetch_verdict.Verdict.{Verdict}
use Rattle.coap_block.specs.declared.fetch_verdict.Verdict.TheVariants.{Refuse, Again, Done, Ask}
use Rattle.coap_block.specs.declared.fetch_step.FetchRefusal.TheVariants.{BadBlock, NoTag, TooLarge, Changed}
use Rattle.coap_block.specs.declared.fetch_judging.TheConstants.{MAX_RESTARTS as max_restarts}
use Rattle.coap_types.specs.Piece.{offset_of}
use Rattle.coap_block.specs.FetchStep.{start, sizes_of, fits, is_sized, same_tag, differs, after}
use Rattle.coap_block.specs.FetchStep.{next_num, next_szx}
use Rattle.coap_block.specs.FetchTrace.{parts_by}
use Rattle.coap_block.specs.Gathered.{part, Awaits, Gathered}
use Rattle.coap_block.specs.Sizes.{Sizes}
use Rattle.coap_block.specs.Whole.{Part, Each, HasTag, OneTag, InOrder}
use Rattle.coap_block.proofs.Facts.Laws.{gathered_by_part, whole_by_parts}
use Rattle.coap_block.proofs.Facts.Parts.{each_behind, some_there}
use Rattle.coap_parts.specs.Handed.{handed, joins, made_up, other_than, tagged_so}
use Rattle.coap_parts.specs.PartTrace.{PartState, PartTrace, Made, Took, Led, state_after}
use Rattle.coap_parts.specs.PartTrace.{gathered_by, verdict_on, parts_since}
use Rattle.coap_parts.specs.Promised.{HasNoTag, JoinedByHistory, NoneJoined, WholeByHistory}
use Rattle.coap_parts.specs.declared.tags.Gathered.{Gathered as Tags}
use Rattle.coap_parts.specs.declared.tags.Gathered.TheVariants.{Nothing, Tagged, Untagged}
use Rattle.coap_parts.proofs.Retagged.{retagged, retagged_behind, in_order_so}

-- what the tests of a part say
asks_so : (fit big lacks differ least more : Bool) (num szx num' szx' : ℕ)
    → (if not fit then Refuse BadBlock else if big then Refuse TooLarge else if lacks then Refuse NoTag
    else if differ then (if least then Refuse Changed else Again) else if more then Ask num szx else Done)
    ≡ Ask num' szx'
    → (lacks ≡ false) × (differ ≡ false) × (more ≡ true)
asks_so true false false false least true num szx num' szx' h = (refl, refl, refl)
asks_so true false false true true more num szx num' szx' h = absurd cc
asks_so fit big lacks differ least more num szx num' szx' h = absurd cc

done_so : (fit big lacks differ least more : Bool) (num szx : ℕ)
    → (if not fit then Refuse BadBlock else if big then Refuse TooLarge else if lacks then Refuse NoTag
    else if differ then (if least then Refuse Changed else Again) else if more then Ask num szx else Done) ≡ Done
    → differ ≡ false
done_so true false false false least false num szx h = refl
done_so true false false true true more num szx h = absurd cc
done_so fit big lacks differ least more num szx h = absurd cc

alone_never_asks : (there big : Bool) (num szx : ℕ)
    → (if there then Refuse BadBlock else if big then Refuse TooLarge else Done) ≡ Ask num szx → ⊥
alone_never_asks true big num szx h = cc
alone_never_asks false true num szx h = cc
alone_never_asks false false num szx h = cc

alone_is_first : (asked : Option Asked) (tag : Option (List ℕ)) (parts : List Part) (big : Bool)
    → Awaits asked tag parts
    → (if is_some asked then Refuse BadBlock else if big then Refuse TooLarge else Done) ≡ Done → parts ≡ []
alone_is_first None tag parts big w h = w
alone_is_first (Some asked) tag parts big w h = absurd cc

-- a tag that doesn't differ is that of the parts, where there are some
same_is : (a b : Option (List ℕ)) → not (same_tag a b) ≡ false → a ≡ b
same_is (Some a) (Some b) h = ap (λ (x : List ℕ). Some x) (grind (arith, bytes_eq-Decides a b, common_steps))
same_is (Some a) None h = absurd cc
same_is None b h = absurd cc

first_or_same : (asked : Option Asked) (old tag : Option (List ℕ)) (parts : List Part)
    → Awaits asked old (retagged old parts) → (is_some asked && not (same_tag tag old)) ≡ false
    → (parts ≡ []) ⊎ (tag ≡ old)
first_or_same None old tag [] w h = inl refl
first_or_same None old tag (p ∷ ps) w h = absurd cc
first_or_same (Some asked) old tag parts w h = inr (same_is tag old h)

-- the made-up tags differ
differs_from_made : other_than made_up ≢ made_up
differs_from_made h = absurd cc

other_or : (is : Bool) (tag : List ℕ) → (is ≡ true → tag ≡ made_up) → (is ≡ false → tag ≢ made_up)
    → (if is then 1 ∷ [] else made_up) ≢ tag
other_or true tag same not h = let m = same refl in absurd cc
other_or false tag same not h = not refl (sym h)

other_differs : (tag : List ℕ) → other_than tag ≢ tag
other_differs tag =
    other_or (bytes_eq tag made_up) tag (λ e. grind (arith, bytes_eq-Decides tag made_up, common_steps))
    (λ e h. grind (arith, bytes_eq-Decides tag made_up, common_steps))

-- what the parts have
abbrev pub HaveTags : Bool → Option (List ℕ) → Tags → List Part → Type 0
HaveTags untagged tag Nothing parts = parts ≡ []
HaveTags untagged tag (Tagged t) parts = (tag ≡ Some t) × Each (HasTag t) parts × (parts ≢ [])
HaveTags untagged tag Untagged parts = (tag ≡ Some made_up) × Each HasNoTag parts × (parts ≢ []) × (untagged ≡ true)

pub record Kept (parts : List Part) (s : PartState) : Type 0 where
  pub gathered : Gathered (retagged s.fetch.tag parts) s.fetch
  pub tags : HaveTags s.untagged s.fetch.tag s.gathered parts

-- With one that is asked behind: it has a tag, that of the others.
tags_behind : (untagged : Bool) (old : Option (List ℕ)) (g : Tags) (parts : List Part) (came : Option (List ℕ))
    (b : Block) (bytes : List ℕ)
    → HaveTags untagged old g parts
    → (parts ≡ []) ⊎ (handed untagged g came ≡ old)
    → is_some (handed untagged g came) ≡ true
    → HaveTags untagged (handed untagged g came) (tagged_so came) (parts ++ part b came bytes ∷ [])
tags_behind untagged old Nothing parts (Some t) b bytes have same some = (
  refl,
  each_behind (HasTag t) parts (part b (Some t) bytes) (subst (λ (ps : List Part). Each (HasTag t) ps) (sym have) tt)
      refl,
  some_there parts (part b (Some t) bytes),
)
tags_behind false old Nothing parts None b bytes have same some = absurd cc
tags_behind true old Nothing parts None b bytes have same some = (
  refl,
  each_behind HasNoTag parts (part b None bytes) (subst (λ (ps : List Part). Each HasNoTag ps) (sym have) tt) refl,
  some_there parts (part b None bytes),
  refl,
)
tags_behind untagged old (Tagged theirs) parts (Some t) b bytes have (inl none) some = absurd (have.2 none)
tags_behind untagged old (Tagged theirs) parts (Some t) b bytes have (inr same) some =
    let is : theirs ≡ t = (let h = have.0 in cc) in (
      refl,
      each_behind (HasTag t) parts (part b (Some t) bytes) (subst (λ (x : List ℕ). Each (HasTag x) parts) is have.1)
          refl,
      some_there parts (part b (Some t) bytes),
    )
tags_behind false old (Tagged theirs) parts None b bytes have same some = absurd cc
tags_behind true old (Tagged theirs) parts None b bytes have (inl none) some = absurd (have.2 none)
tags_behind true old (Tagged theirs) parts None b bytes have (inr same) some =
    absurd (other_differs theirs (let h = have.0 in cc))
tags_behind untagged old Untagged parts (Some t) b bytes have (inl none) some = absurd (have.2 none)
tags_behind untagged old Untagged parts (Some t) b bytes have (inr same) some =
    absurd (differs_from_made (let h = have.0 in cc))
tags_behind false old Untagged parts None b bytes have same some = absurd cc
tags_behind true old Untagged parts None b bytes have same some = (
  refl,
  each_behind HasNoTag parts (part b None bytes) have.1 refl,
  some_there parts (part b None bytes),
  refl,
)

retagged_so : (old tag : Option (List ℕ)) (parts : List Part) → (parts ≡ []) ⊎ (tag ≡ old)
    → retagged old parts ≡ retagged tag parts
retagged_so old tag parts (inl none) =
    subst (λ (ps : List Part). retagged old ps ≡ retagged tag ps) (sym none) refl
retagged_so old tag parts (inr same) = ap (λ (t : Option (List ℕ)). retagged t parts) (sym same)

tag_there : (more over there : Bool) → more ≡ true → ((more || over) && not there) ≡ false → there ≡ true
tag_there more over true m h = refl
tag_there true over false m h = absurd cc
tag_there false over false m h = absurd cc

-- with a part that more follow
kept_behind : (parts : List Part) (s : PartState) (b : Block) (came : Option (List ℕ)) (payload : List ℕ) (num szx : ℕ)
    → Kept parts s → verdict_on s (Some b) came (length payload) ≡ Ask num szx
    → Gathered (retagged (handed s.untagged s.gathered came) (parts ++ part b came payload ∷ []))
    (after s.fetch (handed s.untagged s.gathered came) payload (Ask num szx))
    × HaveTags s.untagged (handed s.untagged s.gathered came) (tagged_so came) (parts ++ part b came payload ∷ [])
kept_behind parts s b came payload num szx k h =
    let tag = handed s.untagged s.gathered came in
    let says = asks_so (fits s.fetch.asked b.num b.szx && is_sized b.more b.num b.szx (length payload))
    (nat_lt s.fetch.limit (offset_of b.num b.szx + length payload)) ((b.more || nat_lt 0 b.num) && not (is_some tag))
    (differs s.fetch tag) (nat_le max_restarts s.fetch.restarts) b.more (next_num s.fetch b) (next_szx s.fetch b)
    num szx h in
    let same = first_or_same s.fetch.asked s.fetch.tag tag parts k.gathered.awaits says.1 in
    let so : Gathered (retagged tag parts) s.fetch =
    subst (λ (ps : List Part). Gathered ps s.fetch) (retagged_so s.fetch.tag tag parts same) k.gathered in (
      subst (λ (ps : List Part). Gathered ps (after s.fetch tag payload (Ask num szx)))
          (sym (retagged_behind tag came parts b payload))
          (gathered_by_part (retagged tag parts) s.fetch b tag payload num szx so h),
      tags_behind s.untagged s.fetch.tag s.gathered parts came b payload k.tags same
          (tag_there b.more (nat_lt 0 b.num) (is_some tag) says.2 says.0),
    )

at_start : (sizes : Sizes) (untagged : Bool) (restarts : ℕ)
    → Kept [] (record { fetch = start sizes restarts; untagged = untagged; gathered = Nothing })
at_start sizes untagged restarts = record {
  gathered = record { bytes = refl; chained = tt; full = tt; awaits = refl };
  tags = refl;
}

step : (v : Verdict) (parts : List Part) (s : PartState) (block : Option Block) (came : Option (List ℕ))
    (payload : List ℕ)
    → Kept parts s → verdict_on s block came (length payload) ≡ v
    → Kept (parts_by v block came payload parts) (record s {
      fetch = after s.fetch (handed s.untagged s.gathered came) payload v;
      gathered = gathered_by v came s.gathered;
    })
step (Refuse why) parts s block came payload k h = record { gathered = k.gathered; tags = k.tags }
step Again parts s block came payload k h = at_start (sizes_of s.fetch) s.untagged (s.fetch.restarts + 1)
step Done parts s block came payload k h = at_start (sizes_of s.fetch) s.untagged 0
step (Ask num szx) parts s None came payload k h =
    absurd (alone_never_asks (is_some s.fetch.asked) (nat_lt s.fetch.limit (length payload)) num szx h)
step (Ask num szx) parts s (Some b) came payload k h =
    let both = kept_behind parts s b came payload num szx k h in record { gathered = both.0; tags = both.1 }

pub are_kept : (t : PartTrace) → Kept (parts_since t) (state_after t)
are_kept (Made sizes untagged) = at_start sizes untagged 0
are_kept (Took earlier block came payload) =
    step (verdict_on (state_after earlier) block came (length payload)) (parts_since earlier) (state_after earlier)
    block came payload (are_kept earlier) refl

led_kept : (t : PartTrace) (s : PartState) → Led t s → Kept (parts_since t) s
led_kept t s led = subst (λ (x : PartState). Kept (parts_since t) x) (sym led) (are_kept t)

-- a body that is given out

one_tag_of : (t : List ℕ) (ps : List Part) → Each (HasTag t) ps → OneTag ps
one_tag_of t [] e = tt
one_tag_of t (p ∷ []) e = tt
one_tag_of t (p ∷ q ∷ ps) e = (t, e)

one_tag : (untagged : Bool) (old : Option (List ℕ)) (g : Tags) (parts : List Part) (came : Option (List ℕ))
    (b : Block) (bytes : List ℕ) → HaveTags untagged old g parts → joins g ≡ false
    → (parts ≡ []) ⊎ (handed untagged g came ≡ old) → OneTag (parts ++ part b came bytes ∷ [])
one_tag untagged old g parts came b bytes have j (inl none) =
    subst (λ (ps : List Part). OneTag (ps ++ part b came bytes ∷ [])) (sym none) tt
one_tag untagged old Nothing parts came b bytes have j (inr same) =
    subst (λ (ps : List Part). OneTag (ps ++ part b came bytes ∷ [])) (sym have) tt
one_tag untagged old (Tagged theirs) parts (Some t) b bytes have j (inr same) =
    let is : t ≡ theirs = (let h = have.0 in cc) in
    one_tag_of theirs (parts ++ part b (Some t) bytes ∷ [])
    (each_behind (HasTag theirs) parts (part b (Some t) bytes) have.1 (ap (λ (x : List ℕ). Some x) is))
one_tag false old (Tagged theirs) parts None b bytes have j (inr same) = absurd (let h = have.0 in cc)
one_tag true old (Tagged theirs) parts None b bytes have j (inr same) =
    absurd (other_differs theirs (let h = have.0 in cc))
one_tag untagged old Untagged parts came b bytes have j (inr same) = absurd cc

no_tags : (untagged : Bool) (old : Option (List ℕ)) (g : Tags) (parts : List Part) (came : Option (List ℕ))
    (b : Block) (bytes : List ℕ) → HaveTags untagged old g parts → joins g ≡ true
    → (parts ≡ []) ⊎ (handed untagged g came ≡ old) → Each HasNoTag (parts ++ part b came bytes ∷ [])
no_tags untagged old Untagged parts came b bytes have j (inl none) = absurd (have.2 none)
no_tags untagged old Untagged parts (Some t) b bytes have j (inr same) =
    absurd (differs_from_made (let h = have.0 in cc))
no_tags untagged old Untagged parts None b bytes have j (inr same) =
    each_behind HasNoTag parts (part b None bytes) have.1 refl
no_tags untagged old Nothing parts came b bytes have j same = absurd cc
no_tags untagged old (Tagged t) parts came b bytes have j same = absurd cc

same_or_first : (parts : List Part) (s : PartState) (b : Block) (came : Option (List ℕ)) (payload : List ℕ)
    → Kept parts s → verdict_on s (Some b) came (length payload) ≡ Done
    → (parts ≡ []) ⊎ (handed s.untagged s.gathered came ≡ s.fetch.tag)
same_or_first parts s b came payload k h =
    let tag = handed s.untagged s.gathered came in
    first_or_same s.fetch.asked s.fetch.tag tag parts k.gathered.awaits
    (done_so (fits s.fetch.asked b.num b.szx && is_sized b.more b.num b.szx (length payload))
    (nat_lt s.fetch.limit (offset_of b.num b.szx + length payload)) ((b.more || nat_lt 0 b.num) && not (is_some tag))
    (differs s.fetch tag) (nat_le max_restarts s.fetch.restarts) b.more (next_num s.fetch b) (next_szx s.fetch b) h)

in_order : (parts : List Part) (s : PartState) (b : Block) (came : Option (List ℕ)) (payload : List ℕ)
    → Kept parts s → verdict_on s (Some b) came (length payload) ≡ Done
    → InOrder (parts ++ part b came payload ∷ []) (s.fetch.gathered ++ payload)
in_order parts s b came payload k h =
    let tag = handed s.untagged s.gathered came in
    let body = s.fetch.gathered ++ payload in
    let so : Gathered (retagged tag parts) s.fetch =
    subst (λ (ps : List Part). Gathered ps s.fetch)
    (retagged_so s.fetch.tag tag parts (same_or_first parts s b came payload k h)) k.gathered in
    let whole = whole_by_parts (retagged tag parts) s.fetch (Some b) tag payload so h in
    in_order_so tag body (parts ++ part b came payload ∷ [])
    (subst (λ (ps : List Part). InOrder ps body) (sym (retagged_behind tag came parts b payload)) whole.0)

first_alone : (parts : List Part) (s : PartState) (came : Option (List ℕ)) (payload : List ℕ) → Kept parts s
    → verdict_on s None came (length payload) ≡ Done → parts ≡ []
first_alone [] s came payload k h = refl
first_alone (p ∷ ps) s came payload k h =
    let none = alone_is_first s.fetch.asked s.fetch.tag (retagged s.fetch.tag (p ∷ ps))
    (nat_lt s.fetch.limit (length payload)) k.gathered.awaits h in absurd cc

pub whole_by_history : WholeByHistory
whole_by_history t s None came payload led h j =
    let k = led_kept t s led in
    whole_by_parts (retagged s.fetch.tag (parts_since t)) s.fetch None (handed s.untagged s.gathered came) payload
    k.gathered h
whole_by_history t s (Some b) came payload led h j =
    let k = led_kept t s led in (
      in_order (parts_since t) s b came payload k h,
      one_tag s.untagged s.fetch.tag s.gathered (parts_since t) came b payload k.tags j
          (same_or_first (parts_since t) s b came payload k h),
    )

none_joins : (untagged : Bool) (tag : Option (List ℕ)) (g : Tags) → HaveTags untagged tag g [] → joins g ≡ true → ⊥
none_joins untagged tag Untagged have j = have.2 refl
none_joins untagged tag Nothing have j = absurd cc
none_joins untagged tag (Tagged t) have j = absurd cc

pub joined_by_history : JoinedByHistory
joined_by_history t s None came payload led h j =
    let k = led_kept t s led in
    none_joins s.untagged s.fetch.tag s.gathered
    (subst (λ (ps : List Part). HaveTags s.untagged s.fetch.tag s.gathered ps)
    (first_alone (parts_since t) s came payload k h) k.tags) j
joined_by_history t s (Some b) came payload led h j =
    let k = led_kept t s led in (
      in_order (parts_since t) s b came payload k h,
      no_tags s.untagged s.fetch.tag s.gathered (parts_since t) came b payload k.tags j
          (same_or_first (parts_since t) s b came payload k h),
    )

none_so : (untagged : Bool) (tag : Option (List ℕ)) (g : Tags) (parts : List Part) → HaveTags untagged tag g parts
    → untagged ≡ false → joins g ≡ false
none_so untagged tag Nothing parts have off = refl
none_so untagged tag (Tagged t) parts have off = refl
none_so untagged tag Untagged parts have off = absurd (let on = have.3 in cc)

pub none_joined : NoneJoined
none_joined t s led off = none_so s.untagged s.fetch.tag s.gathered (parts_since t) (led_kept t s led).tags off
