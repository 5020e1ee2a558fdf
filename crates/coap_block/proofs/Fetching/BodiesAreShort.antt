-- What a fetch gathers, and the body that it gives, is never too long.
use Rattle.std.proofs.Common.{◌≡◌, ℕ, Bool, true, false, nat_lt, ◌&&◌, nat_le, ◌+◌, ◌≤◌, ◌++◌, if◌then◌else◌, List, []}
use Rattle.std.proofs.Common.{length, Option, Some, None, is_some, refl, ◌∙◌, ap, subst, sym, arith, length-append}
use Rattle.std.proofs.lemmas.Bool.Decides.{nat_tests}
use Rattle.coap_types.specs.declared.block.Block.{Block}
use Rattle.coap_block.specs.declared.fetch_verdict.Verdict.{Verdict}
use Rattle.coap_block.specs.declared.fetch_verdict.Verdict.TheVariants.{Refuse, Again, Done, Ask}
use Rattle.coap_block.specs.declared.fetch_step.FetchRefusal.TheVariants.{BadBlock, TooLarge}
use Rattle.coap_block.specs.declared.fetch_judging.TheConstants.{MAX_RESTARTS as max_restarts}
use Rattle.coap_types.specs.Piece.{offset_of}
use Rattle.coap_block.specs.Whole.{Part, joined}
use Rattle.coap_block.specs.FetchStep.{FetchState, fits, is_sized, lacks_tag, differs, verdict, after, next_num}
use Rattle.coap_block.specs.FetchStep.{next_szx}
use Rattle.coap_block.specs.Gathered.{Gathered}
use Rattle.coap_block.specs.FetchTrace.{FetchTrace, Made, Took, state_after, parts_since, GatheredIsShort, BodyIsShort}
use Rattle.coap_block.proofs.Fetching.WholeByParts.{done_says, ask_says, and_left, begins_at, none_is_start}
use Rattle.coap_block.proofs.Fetching.PartsOfHistory.{none_asks, parts_are_gathered}

not_over : (limit n : ℕ) → nat_lt limit n ≡ false → n ≤ limit
not_over limit n h = grind (arith, nat_tests)

-- a part that fits begins where the others end
short_by : (parts : List Part) (s : FetchState) (b : Block) (tag : Option (List ℕ)) (payload : List ℕ)
    → Gathered parts s
    → (fits s.asked b.num b.szx && is_sized b.more b.num b.szx (length payload)) ≡ true
    → nat_lt s.limit (offset_of b.num b.szx + length payload) ≡ false
    → length (s.gathered ++ payload) ≤ s.limit
short_by parts s b tag payload g fit big =
    let at = begins_at s.asked s.tag tag parts b.num b.szx g.awaits
    (and_left (fits s.asked b.num b.szx) (is_sized b.more b.num b.szx (length payload)) fit) in
    let is = ap length g.bytes in
    omega (
      arith,
      at,
      is,
      not_over s.limit (offset_of b.num b.szx + length payload) big,
      length-append s.gathered
          payload,
    )

alone_short : (there : Bool) (limit n : ℕ) → (if there then Refuse BadBlock else if nat_lt limit n then
    Refuse TooLarge else Done) ≡ Done → n ≤ limit
alone_short there limit n h = by there (nat_lt limit n) (not_over limit n) h
  where
    by : (there big : Bool) → (big ≡ false → n ≤ limit)
        → (if there then Refuse BadBlock else if big then Refuse TooLarge else Done) ≡ Done → n ≤ limit
    by true big f h = absurd cc
    by false true f h = absurd cc
    by false false f h = f refl

done_short : (parts : List Part) (s : FetchState) (block : Option Block) (tag : Option (List ℕ)) (payload : List ℕ)
    → Gathered parts s
    → verdict s block tag (length payload) ≡ Done → length (s.gathered ++ payload) ≤ s.limit
done_short parts s None tag payload g h =
    let none = none_is_start s.asked s.tag parts (nat_lt s.limit (length payload)) g.awaits h in
    let is : s.gathered ≡ [] = g.bytes ∙ ap joined none in
    let short = alone_short (is_some s.asked) s.limit (length payload) h in
    subst (λ (x : List ℕ). length (x ++ payload) ≤ s.limit) (sym is) short
done_short parts s (Some b) tag payload g h =
    let says = done_says (fits s.asked b.num b.szx && is_sized b.more b.num b.szx (length payload))
    (nat_lt s.limit (offset_of b.num b.szx + length payload)) (lacks_tag b tag)
    (differs s tag) (nat_le max_restarts s.restarts) b.more (next_num s b) (next_szx s b) h in
    short_by parts s b tag payload g says.0 says.3

ask_short : (parts : List Part) (s : FetchState) (b : Block) (tag : Option (List ℕ)) (payload : List ℕ) (num szx : ℕ)
    → Gathered parts s
    → verdict s (Some b) tag (length payload) ≡ Ask num szx → length (s.gathered ++ payload) ≤ s.limit
ask_short parts s b tag payload num szx g h =
    let says = ask_says (fits s.asked b.num b.szx && is_sized b.more b.num b.szx (length payload))
    (nat_lt s.limit (offset_of b.num b.szx + length payload)) (lacks_tag b tag)
    (differs s tag) (nat_le max_restarts s.restarts) b.more (next_num s b) (next_szx s b) num szx h in
    short_by parts s b tag payload g says.0 says.6

step : (v : Verdict) (parts : List Part) (s : FetchState) (block : Option Block) (tag : Option (List ℕ))
    (payload : List ℕ) → Gathered parts s
    → length s.gathered ≤ s.limit → verdict s block tag (length payload) ≡ v
    → length (after s tag payload v).gathered ≤ (after s tag payload v).limit
step (Refuse why) parts s block tag payload g short h = short
step Again parts s block tag payload g short h = omega arith
step Done parts s block tag payload g short h = omega arith
step (Ask num szx) parts s None tag payload g short h =
    absurd (none_asks (is_some s.asked) (nat_lt s.limit (length payload)) num szx h)
step (Ask num szx) parts s (Some b) tag payload g short h = ask_short parts s b tag payload num szx g h

all_short : (t : FetchTrace) → length (state_after t).gathered ≤ (state_after t).limit
all_short (Made sizes) = omega arith
all_short (Took earlier block tag payload) =
    step (verdict (state_after earlier) block tag (length payload)) (parts_since earlier)
    (state_after earlier) block tag payload
    (parts_are_gathered earlier) (all_short earlier) refl

pub gathered_is_short : GatheredIsShort
gathered_is_short t s led = subst (λ (x : FetchState). length x.gathered ≤ x.limit) (sym led) (all_short t)

pub body_is_short : BodyIsShort
body_is_short t s block tag payload led h =
    done_short (parts_since t) s block tag payload
    (subst (λ (x : FetchState). Gathered (parts_since t) x) (sym led) (parts_are_gathered t)) h
