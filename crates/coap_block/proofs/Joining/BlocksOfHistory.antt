-- The partial bodies of an assembly's history are the blocks that were taken for their keys.
use Rattle.std.proofs.Common.{◌≡◌, ◌≢◌, ◌∙◌, ℕ, Bool, true, false, not, ◌&&◌, ◌||◌, ◌==◌, nat_lt, nat_le, ◌+◌, ◌<◌, ◌≤◌}
use Rattle.std.proofs.Common.{◌++◌, List, [], ◌∷◌, length, Option, Some, None, if◌then◌else◌, refl, sym, subst, arith}
use Rattle.std.proofs.lemmas.Bool.Decides.{nat_tests}
use Rattle.coap_types.specs.declared.block.Block.{Block}
use Rattle.coap_block.specs.declared.block_verdict.BlockVerdict.{BlockVerdict}
use Rattle.coap_block.specs.declared.block_verdict.BlockVerdict.TheVariants.{Refuse, Join, Done}
use Rattle.coap_block.specs.declared.assembly_step.AssemblyRefusal.TheVariants.{BadRequest, EntityIncomplete}
use Rattle.coap_block.specs.declared.assembly_step.AssemblyRefusal.TheVariants.{EntityTooLarge, Unavailable}
use Rattle.coap_block.specs.declared.assembly_judging.TheConstants.{MAX_PARTIALS as max_partials}
use Rattle.coap_types.specs.Piece.{size_of, offset_of}
use Rattle.coap_block.specs.Whole.{Part}
use Rattle.coap_block.specs.Gathered.{part}
use Rattle.coap_block.specs.AssemblyState.{Key, PartialBody, AssemblyState, same_key, partial_of, without_key, put}
use Rattle.coap_block.specs.AssemblyState.{bytes_of, reached_of}
use Rattle.coap_block.specs.AssemblyStep.{fills, ends_at, goes_on, answered_szx, verdict_at, there_at, moment_at}
use Rattle.coap_block.specs.AssemblyStep.{with_block, partials_by, after_block}
use Rattle.coap_block.specs.AssemblyTrace.{AssemblyTrace, Made, Arrived, Forgot, state_after, behind, blocks_by}
use Rattle.coap_block.specs.AssemblyTrace.{blocks_since}
use Rattle.coap_block.specs.AssemblyTrace.{JoinedFrom, IsWholeBody, PartialsByHistory, FewPartials, AreDistinct}
use Rattle.coap_block.specs.AssemblyTrace.{OneForAKey, WholeByBlocks, NoneLeft, OthersStay}
use Rattle.coap_block.proofs.Facts.Keys.{same_key-decides}
use Rattle.coap_block.proofs.Joining.OneForAKey.{out_other, out_none, distinct_out, put_there, put_other, distinct_put}
use Rattle.coap_block.proofs.Joining.OneForAKey.{distinct_there, was_there, fewer_there, fewer_out, one_more, as_many}
use Rattle.coap_block.proofs.Fetching.WholeByParts.{same_number}
use Rattle.coap_block.proofs.Joining.OthersOfAPeer.{distinct_elsewhere, fewer_elsewhere, was_elsewhere}
use Rattle.coap_block.proofs.Joining.JoinedBehind.{join_first, join_next, whole_first, whole_next}

-- what the tests say of a block that is joined, and of a last one
pub join_says : (fill goes big many more : Bool) (z szx : ℕ)
    → (if not fill then Refuse BadRequest else if not goes then Refuse EntityIncomplete else if big then
    Refuse EntityTooLarge
    else if many then Refuse Unavailable else if more then Join z else Done) ≡ Join szx
    → (fill ≡ true) × (goes ≡ true) × (big ≡ false) × (many ≡ false) × (more ≡ true)
join_says true true false false true z szx h = (refl, refl, refl, refl, refl)
join_says fill goes big many more z szx h = absurd cc

done_says : (fill goes big many more : Bool) (z : ℕ)
    → (if not fill then Refuse BadRequest else if not goes then Refuse EntityIncomplete else if big then
    Refuse EntityTooLarge
    else if many then Refuse Unavailable else if more then Join z else Done) ≡ Done
    → (fill ≡ true) × (goes ≡ true) × (big ≡ false) × (more ≡ false)
done_says true true false false false z h = (refl, refl, refl, refl)
done_says fill goes big many more z h = absurd cc

full_len : (more : Bool) (szx len : ℕ) → more ≡ true → fills more szx len ≡ true → len ≡ size_of szx
full_len true szx len m h = same_number len (size_of szx) h
full_len false szx len m h = absurd cc

last_len : (more : Bool) (szx len : ℕ) → more ≡ false → fills more szx len ≡ true → len ≤ size_of szx
last_len true szx len m h = absurd cc
last_len false szx len m h = grind (arith, nat_tests)

not_over : (limit n : ℕ) → nat_lt limit n ≡ false → n ≤ limit
not_over limit n h = grind (arith, nat_tests)

-- what the key had before, and what it has with the block
joined_by : (limit : ℕ) (z : Bool) (parts : List Part) (o : Option PartialBody) (b : Block) (payload : List ℕ)
    (key : Key) (t : ℕ)
    → (b.num == 0) ≡ z
    → (z || ends_at (reached_of o) (offset_of b.num b.szx)) ≡ true
    → ((q : PartialBody) → o ≡ Some q → JoinedFrom limit parts q)
    → b.more ≡ true → length payload ≡ size_of b.szx → offset_of b.num b.szx + length payload ≤ limit
    → JoinedFrom limit (if z then part b None payload ∷ [] else parts ++ part b None payload ∷ [])
    (record { key = key; bytes = (if z then [] else bytes_of o) ++ payload; last = t })
joined_by limit true parts o b payload key t is at before more full short =
    join_first limit b payload key t (same_number b.num 0 is) more full short
joined_by limit false parts (Some q) b payload key t is at before more full short =
    join_next limit parts q b payload key t (before q refl)
    (same_number (length q.bytes) (offset_of b.num b.szx) at) more full short
joined_by limit false parts None b payload key t is at before more full short = absurd cc

whole_by : (limit : ℕ) (z : Bool) (parts : List Part) (o : Option PartialBody) (b : Block) (payload : List ℕ)
    → (b.num == 0) ≡ z
    → (z || ends_at (reached_of o) (offset_of b.num b.szx)) ≡ true
    → ((q : PartialBody) → o ≡ Some q → JoinedFrom limit parts q)
    → b.more ≡ false → length payload ≤ size_of b.szx → offset_of b.num b.szx + length payload ≤ limit
    → IsWholeBody limit (if z then part b None payload ∷ [] else parts ++ part b None payload ∷ [])
    ((if z then [] else bytes_of o) ++ payload)
whole_by limit true parts o b payload is at before last fits short =
    whole_first limit b payload (same_number b.num 0 is) last fits short
whole_by limit false parts (Some q) b payload is at before last fits short =
    whole_next limit parts q b payload (before q refl)
    (same_number (length q.bytes) (offset_of b.num b.szx) at) last fits short
whole_by limit false parts None b payload is at before last fits short = absurd cc

-- what holds of an assembly's state
pub record Holds (parts : Key → List Part) (s : AssemblyState) : Type 0 where
  pub distinct : AreDistinct s.partials
  pub few : length s.partials ≤ max_partials
  pub joined : (key : Key) (p : PartialBody) → partial_of key s.partials ≡ Some p → JoinedFrom s.limit (parts key) p

-- and of the partial bodies that are there at a moment
still_joined : (parts : Key → List Part) (s : AssemblyState) (now : ℕ) (key : Key) → Holds parts s → (q : PartialBody)
    → partial_of key (there_at s now) ≡ Some q → JoinedFrom s.limit (parts key) q
still_joined parts s now key h q e = h.joined key q (was_there key (moment_at s now) q s.partials h.distinct e)

abbrev pub new_of : AssemblyState → ℕ → Key → Block → List ℕ → PartialBody
new_of s now key b payload = record { key = key; bytes = with_block s now key b payload; last = moment_at s now }

distinct_by : (v : BlockVerdict) (new : PartialBody) (ps : List PartialBody) → AreDistinct ps
    → AreDistinct (partials_by v new ps)
distinct_by (Refuse EntityTooLarge) new ps d = distinct_out new.key ps d
distinct_by (Join szx) new ps d = distinct_put new ps d
distinct_by Done new ps d = distinct_out new.key ps d
distinct_by _ new ps d = d

others_by : (v : BlockVerdict) (new : PartialBody) (other : Key) (ps : List PartialBody) → other ≢ new.key
    → partial_of other (partials_by v new ps) ≡ partial_of other ps
others_by (Refuse EntityTooLarge) new other ps ne = out_other new.key other ps ne
others_by (Join szx) new other ps ne = put_other new other ps ne
others_by Done new other ps ne = out_other new.key other ps ne
others_by _ new other ps ne = refl

pub others_stay : OthersStay
others_stay s now key other b payload ne = others_by (verdict_at s now key b (length payload))
    (new_of s now key b payload) other (there_at s now) ne

-- at most 15 others, or one of the key
few_put : (z : Bool) (new : PartialBody) (o : Option PartialBody) (b : Block) (ps : List PartialBody) → (b.num == 0) ≡ z
    → partial_of new.key ps ≡ o
    → (z || ends_at (reached_of o) (offset_of b.num b.szx)) ≡ true → b.more ≡ true
    → (b.more && z && nat_le max_partials (length (without_key new.key ps))) ≡ false
    → length ps ≤ max_partials → length (put new ps) ≤ max_partials
few_put true new o b ps is found at more some few =
    let room : (true && true && nat_le max_partials (length (without_key new.key ps))) ≡ false = rw more at some in
    let less : length (without_key new.key ps) < max_partials = under_most (length (without_key new.key ps)) room in
    omega (arith, less, one_more new ps)
  where
    under_most : (n : ℕ) → (true && true && nat_le max_partials n) ≡ false → n < max_partials
    under_most n h = grind (arith, nat_tests)
few_put false new (Some q) b ps is found at more some few = omega (arith, few, as_many new q ps found)
few_put false new None b ps is found at more some few = absurd cc

module _ (s : AssemblyState) (now : ℕ) (key : Key) (b : Block) (payload : List ℕ)
    (few : length s.partials ≤ max_partials) where
  few_by : (v : BlockVerdict) → verdict_at s now key b (length payload) ≡ v
      → length (partials_by v (new_of s now key b payload) (there_at s now)) ≤ max_partials
  few_by (Refuse EntityTooLarge) e = omega (
    arith,
    few,
    fewer_there (moment_at s now) s.partials,
    fewer_out key (there_at s now),
  )
  few_by (Join szx) e =
      let says = join_says (fills b.more b.szx (length payload))
      (goes_on (reached_of (partial_of key (there_at s now))) b.num b.szx)
      (nat_lt s.limit (offset_of b.num b.szx + length payload))
      (b.more && (b.num == 0) && nat_le max_partials (length (without_key key (there_at s now)))) b.more
      (answered_szx s.szx b) szx e in
      few_put (b.num == 0) (new_of s now key b payload) (partial_of key (there_at s now)) b
      (there_at s now) refl refl says.1 says.4 says.3
      (omega (arith, few, fewer_there (moment_at s now) s.partials))
  few_by Done e = omega (arith, few, fewer_there (moment_at s now) s.partials, fewer_out key (there_at s now))
  few_by _ e = omega (arith, few, fewer_there (moment_at s now) s.partials)

  pub few_after : length (after_block s now key b payload).partials ≤ max_partials
  few_after = few_by (verdict_at s now key b (length payload)) refl

module _ (parts : Key → List Part) (s : AssemblyState) (now : ℕ) (key : Key) (b : Block) (payload : List ℕ)
    (h : Holds parts s) where
  joined_after : (v : BlockVerdict) → verdict_at s now key b (length payload) ≡ v → (p : PartialBody)
      → partial_of key (partials_by v (new_of s now key b payload) (there_at s now)) ≡ Some p
      → JoinedFrom s.limit (blocks_by v b payload (parts key)) p
  joined_after (Refuse EntityTooLarge) e p f =
      let none = out_none key (there_at s now) (distinct_there (moment_at s now) s.partials h.distinct) in absurd cc
  joined_after (Join szx) e p f =
      let says = join_says (fills b.more b.szx (length payload))
      (goes_on (reached_of (partial_of key (there_at s now))) b.num b.szx)
      (nat_lt s.limit (offset_of b.num b.szx + length payload))
      (b.more && (b.num == 0) && nat_le max_partials (length (without_key key (there_at s now)))) b.more
      (answered_szx s.szx b) szx e in
      let there = put_there (new_of s now key b payload) (there_at s now) in
      let same : new_of s now key b payload ≡ p = cc in
      subst (λ (x : PartialBody). JoinedFrom s.limit (behind (parts key) b payload) x) same
      (joined_by s.limit (b.num == 0) (parts key) (partial_of key (there_at s now)) b payload key (moment_at s now) refl
      says.1
      (still_joined parts s now key h) says.4
      (full_len b.more b.szx (length payload) says.4 says.0) (not_over s.limit (offset_of b.num b.szx + length payload)
      says.2))
  joined_after Done e p f =
      let none = out_none key (there_at s now) (distinct_there (moment_at s now) s.partials h.distinct) in absurd cc
  joined_after _ e p f = still_joined parts s now key h p f

  whole_after : verdict_at s now key b (length payload) ≡ Done
      → IsWholeBody s.limit (behind (parts key) b payload) (with_block s now key b payload)
  whole_after e =
      let says = done_says (fills b.more b.szx (length payload))
      (goes_on (reached_of (partial_of key (there_at s now))) b.num b.szx)
      (nat_lt s.limit (offset_of b.num b.szx + length payload))
      (b.more && (b.num == 0) && nat_le max_partials (length (without_key key (there_at s now)))) b.more
      (answered_szx s.szx b) e in
      whole_by s.limit (b.num == 0) (parts key) (partial_of key (there_at s now)) b payload refl says.1
      (still_joined parts s now key h) says.3
      (last_len b.more b.szx (length payload) says.3 says.0) (not_over s.limit (offset_of b.num b.szx + length payload)
      says.2)

  joined_of : (c : Bool) (other : Key) → same_key key other ≡ c → (p : PartialBody)
      → partial_of other (after_block s now key b payload).partials ≡ Some p
      → JoinedFrom s.limit (if c then blocks_by (verdict_at s now key b (length payload)) b payload (parts other) else
      parts other) p
  joined_of true other is p f =
      let same = (same_key-decides key other).0 is in
      subst (λ (k : Key). partial_of k (after_block s now key b payload).partials ≡ Some p
      → JoinedFrom s.limit (blocks_by (verdict_at s now key b (length payload)) b payload (parts k)) p) same
      (joined_after (verdict_at s now key b (length payload)) refl p) f
  joined_of false other is p f =
      let ne : other ≢ key = λ e. let t : same_key key other
      ≡ true = (same_key-decides key other).1 (sym e) in absurd cc in
      still_joined parts s now other h p (sym (others_stay s now key other b payload ne) ∙ f)

pub holds : (t : AssemblyTrace) → Holds (λ key. blocks_since key t) (state_after t)
holds (Made sizes) = record { distinct = tt; few = omega arith; joined = λ key p e. absurd cc }
holds (Arrived earlier now k b payload) =
    let h = holds earlier in
    let parts : Key → List Part = λ key. blocks_since key earlier in
    let s = state_after earlier in
    record {
      distinct = distinct_by (verdict_at s now k b (length payload)) (new_of s now k b payload) (there_at s now)
          (distinct_there (moment_at s now) s.partials h.distinct);
      few = few_after s now k b payload h.few;
      joined = λ key p e. joined_of parts s now k b payload h (same_key k key) key refl p e;
    }
holds (Forgot earlier from) =
    let h = holds earlier in
    let ps = (state_after earlier).partials in
    record {
      distinct = distinct_elsewhere from ps h.distinct;
      few = omega (arith, h.few, fewer_elsewhere from ps);
      joined = λ key p e. h.joined key p (was_elsewhere from key ps p e);
    }

pub partials_by_history : PartialsByHistory
partials_by_history t key p e = (holds t).joined key p e

pub few_partials : FewPartials
few_partials t = (holds t).few

pub one_for_a_key : OneForAKey
one_for_a_key t = (holds t).distinct

pub whole_by_blocks : WholeByBlocks
whole_by_blocks t s now key b payload led h =
    let self : same_key key key ≡ true = (same_key-decides key key).1 refl in
    let done : verdict_at (state_after t) now key b (length payload)
    ≡ Done = subst (λ (x : AssemblyState). verdict_at x now key b (length payload) ≡ Done) led h in
    let whole = whole_after (λ k. blocks_since k t) (state_after t) now key b payload (holds t) done in
    subst (λ (x : AssemblyState). IsWholeBody x.limit (blocks_since key (Arrived t now key b payload))
    (with_block x now key b payload)) (sym led) (rw (self, done) whole)

pub none_left : NoneLeft
none_left t now key b payload done =
    let none = out_none key (there_at (state_after t) now)
    (distinct_there (moment_at (state_after t) now) (state_after t).partials (holds t).distinct) in
    rw done none
