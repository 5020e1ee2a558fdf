-- A partial body is there exactly where the last block of its key was taken recently.
use Rattle.std.proofs.Common.{◌≡◌, ◌≢◌, ◌∙◌, ℕ, Bool, true, false, ◌&&◌, ◌||◌, ◌==◌, nat_lt, nat_le, ◌+◌, ◌-◌, ◌≤◌}
use Rattle.std.proofs.Common.{List, [], ◌∷◌, length, Option, Some, None, if◌then◌else◌, refl, ap, sym, arith}
use Rattle.std.specs.Option.{option_map}
use Rattle.std.proofs.lemmas.Bool.Decides.{nat_tests}
use Rattle.coap_types.specs.declared.block.Block.{Block}
use Rattle.coap_block.specs.declared.block_verdict.BlockVerdict.{BlockVerdict}
use Rattle.coap_block.specs.declared.block_verdict.BlockVerdict.TheVariants.{Refuse, Join, Done}
use Rattle.coap_block.specs.declared.assembly_step.AssemblyRefusal.TheVariants.{EntityTooLarge}
use Rattle.coap_block.specs.declared.partial.TheConstants.{PARTIAL_LIFETIME_MS as partial_lifetime}
use Rattle.coap_block.specs.declared.assembly_judging.TheConstants.{MAX_PARTIALS as max_partials}
use Rattle.coap_types.specs.Piece.{offset_of}
use Rattle.coap_block.specs.AssemblyState.{Key, PartialBody, AssemblyState, same_key, is_live, forgotten, partial_of}
use Rattle.coap_block.specs.AssemblyState.{without_key, reached_of}
use Rattle.coap_block.specs.AssemblyStep.{fills, ends_at, goes_on, answered_szx, verdict_at, there_at, moment_at}
use Rattle.coap_block.specs.AssemblyStep.{partials_by, after_block}
use Rattle.coap_block.specs.AssemblyTrace.{AssemblyTrace, Made, Arrived, Forgot, state_after, AreDistinct}
use Rattle.coap_block.specs.PartialTimes.{last_by, last_taken, IsThereExactly, ThereByHistory, ThereAtMoment}
use Rattle.coap_block.specs.PartialTimes.{JoinsWhereMore}
use Rattle.coap_block.proofs.Facts.Keys.{same_key-decides}
use Rattle.coap_types.specs.SameEndpoint.{same_endpoint}
use Rattle.coap_block.proofs.Fields.PartialsSeen.{was_live}
use Rattle.coap_block.proofs.Joining.OneForAKey.{none_forgotten, out_none, put_there, distinct_there}
use Rattle.coap_block.proofs.Joining.OthersOfAPeer.{elsewhere_of}
use Rattle.coap_block.proofs.Joining.BlocksOfHistory.{join_says, new_of, others_stay, holds}

abbrev last_of : Option PartialBody → Option ℕ
last_of None = None
last_of (Some p) = Some p.last

abbrev if_recent : ℕ → Option ℕ → Option ℕ
if_recent at None = None
if_recent at (Some last) = if nat_le (at - last) partial_lifetime then Some last else None

-- of those that are there at a moment
there_step : (l s : Bool) (t : ℕ) (key : Key) (p : PartialBody) (ps : List PartialBody) → is_live t p ≡ l
    → same_key p.key key ≡ s
    → partial_of p.key ps ≡ None → last_of (partial_of key (forgotten t ps)) ≡ if_recent t (last_of (partial_of key ps))
    → last_of (partial_of key (if l then p ∷ forgotten t ps else forgotten t ps))
    ≡ if_recent t (last_of (if s then Some p else partial_of key ps))
there_step true true t key p ps live same none ih = rw (same, live) refl
there_step true false t key p ps live same none ih = rw same ih
there_step false true t key p ps live same none ih =
    let k : p.key ≡ key = (same_key-decides p.key key).0 same in
    let gone : partial_of key (forgotten t ps) ≡ None =
    none_forgotten key t ps (ap (λ (k : Key). partial_of k ps) (sym k) ∙ none) in
    ap last_of gone ∙ sym (ap (λ (b : Bool). if b then Some p.last else None) live)
there_step false false t key p ps live same none ih = ih

found_there : (t : ℕ) (key : Key) (ps : List PartialBody) → AreDistinct ps
    → last_of (partial_of key (forgotten t ps)) ≡ if_recent t (last_of (partial_of key ps))
found_there t key [] d = refl
found_there t key (p ∷ ps) d = there_step (is_live t p) (same_key p.key key) t key p ps refl refl d.0
    (found_there t key ps d.1)

-- what is recent at a moment was so before
recent_twice : (c t : ℕ) → c ≤ t → (last : Option ℕ) → if_recent t (if_recent c last) ≡ if_recent t last
recent_twice c t le None = refl
recent_twice c t le (Some last) = by (nat_le (c - last) partial_lifetime) (nat_le (t - last) partial_lifetime) refl refl
    (was_live c t last le)
  where
    by : (a b : Bool) → nat_le (c - last) partial_lifetime ≡ a → nat_le (t - last) partial_lifetime ≡ b
        → (b ≡ true → a ≡ true)
        → if_recent t (if a then Some last else None) ≡ (if b then Some last else None)
    by true b ha hb f = ap (λ (x : Bool). if x then Some last else None) hb
    by false true ha hb f = let e : false ≡ true = f refl in absurd cc
    by false false ha hb f = refl

just_now : (at : ℕ) → if_recent at (Some at) ≡ Some at
just_now at = let e : nat_le (at - at) partial_lifetime ≡ true = grind (arith, nat_tests) in rw e refl

module _ (s : AssemblyState) (now : ℕ) (key : Key) (b : Block) (payload : List ℕ) (d : AreDistinct s.partials)
    (last : Option ℕ)
    (here : last_of (partial_of key (there_at s now)) ≡ if_recent (moment_at s now) last) where
  joined_at : (z : Bool) (o : Option PartialBody) → (b.num == 0) ≡ z → partial_of key (there_at s now) ≡ o
      → (z || ends_at (reached_of o) (offset_of b.num b.szx)) ≡ true
      → Some (moment_at s now) ≡ if_recent (moment_at s now)
      (if z then Some (moment_at s now) else option_map (λ (earlier : ℕ). moment_at s now) last)
  joined_at true o is found at = sym (just_now (moment_at s now))
  joined_at false None is found at = absurd cc
  joined_at false (Some q) is found at = by last (sym (ap last_of found) ∙ here)
    where
      by : (l : Option ℕ) → Some q.last ≡ if_recent (moment_at s now) l
          → Some (moment_at s now) ≡ if_recent (moment_at s now) (option_map (λ (earlier : ℕ). moment_at s now) l)
      by None e = absurd cc
      by (Some x) e = sym (just_now (moment_at s now))

  after_taken : (v : BlockVerdict) → verdict_at s now key b (length payload) ≡ v
      → last_of (partial_of key (partials_by v (new_of s now key b payload) (there_at s now)))
      ≡ if_recent (moment_at s now) (last_by v b (moment_at s now) last)
  after_taken (Refuse EntityTooLarge) e = ap last_of
      (out_none key (there_at s now) (distinct_there (moment_at s now) s.partials d))
  after_taken (Join szx) e =
      let says = join_says (fills b.more b.szx (length payload))
      (goes_on (reached_of (partial_of key (there_at s now))) b.num b.szx)
      (nat_lt s.limit (offset_of b.num b.szx + length payload))
      (b.more && (b.num == 0) && nat_le max_partials (length (without_key key (there_at s now)))) b.more
      (answered_szx s.szx b) szx e in
      ap last_of (put_there (new_of s now key b payload) (there_at s now))
      ∙ joined_at (b.num == 0) (partial_of key (there_at s now)) refl refl says.1
  after_taken Done e = ap last_of (out_none key (there_at s now) (distinct_there (moment_at s now) s.partials d))
  after_taken _ e = here

-- of another key
after_other : (s : AssemblyState) (now : ℕ) (key other : Key) (b : Block) (payload : List ℕ) (last : Option ℕ)
    → other ≢ key
    → last_of (partial_of other (there_at s now)) ≡ if_recent (moment_at s now) last
    → last_of (partial_of other (after_block s now key b payload).partials) ≡ if_recent (moment_at s now) last
after_other s now key other b payload last ne was = ap last_of (others_stay s now key other b payload ne) ∙ was

there_later : (s : AssemblyState) (now : ℕ) (key : Key) (last : Option ℕ) → AreDistinct s.partials
    → last_of (partial_of key s.partials) ≡ if_recent s.clock last
    → last_of (partial_of key (there_at s now)) ≡ if_recent (moment_at s now) last
there_later s now key last d was =
    found_there (moment_at s now) key s.partials d ∙ ap (λ (o : Option ℕ). if_recent (moment_at s now) o) was
    ∙ recent_twice s.clock (moment_at s now) (omega arith) last

after_any : (c : Bool) (s : AssemblyState) (now : ℕ) (key other : Key) (b : Block) (payload : List ℕ) (last : Option ℕ)
    → AreDistinct s.partials
    → same_key key other ≡ c → last_of (partial_of other (there_at s now)) ≡ if_recent (moment_at s now) last
    → last_of (partial_of other (after_block s now key b payload).partials)
    ≡ if_recent (moment_at s now) (if c then last_by (verdict_at s now key b (length payload)) b
    (moment_at s now) last else last)
after_any true s now key other b payload last d same was =
    let k : key ≡ other = (same_key-decides key other).0 same in
    let w : last_of (partial_of key (there_at s now)) ≡ if_recent (moment_at s now) last =
    ap (λ (x : Key). last_of (partial_of x (there_at s now))) k ∙ was in
    ap (λ (x : Key). last_of (partial_of x (after_block s now key b payload).partials)) (sym k)
    ∙ after_taken s now key b payload d last w (verdict_at s now key b (length payload)) refl
after_any false s now key other b payload last d same was =
    let ne : other ≢ key = λ e. let t : same_key key other
    ≡ true = (same_key-decides key other).1 (sym e) in absurd cc in
    after_other s now key other b payload last ne was

-- of an endpoint that is forgotten nothing is there
forgets : (b : Bool) (o : Option PartialBody) (at : ℕ) (last : Option ℕ) → last_of o ≡ if_recent at last
    → last_of (if b then None else o) ≡ if_recent at (if b then None else last)
forgets true o at last h = refl
forgets false o at last h = h

at_clock : (t : AssemblyTrace) (key : Key) → last_of (partial_of key (state_after t).partials)
    ≡ if_recent (state_after t).clock (last_taken key t)
at_clock (Made sizes) key = refl
at_clock (Arrived earlier now k b payload) key =
    let d = (holds earlier).distinct in
    after_any (same_key k key) (state_after earlier) now k key b payload (last_taken key earlier) d refl
    (there_later (state_after earlier) now key (last_taken key earlier) d (at_clock earlier key))
at_clock (Forgot earlier from) key =
    ap last_of (elsewhere_of from key (state_after earlier).partials)
    ∙ forgets (same_endpoint key.from from) (partial_of key (state_after earlier).partials) (state_after earlier).clock
    (last_taken key earlier) (at_clock earlier key)

within : (at last : ℕ) → nat_le (at - last) partial_lifetime ≡ true → at ≤ last + partial_lifetime
within at last h = grind (arith, nat_tests)

past : (at last : ℕ) → nat_le (at - last) partial_lifetime ≡ false → at ≤ last + partial_lifetime → ⊥
past at last h le = grind (arith, nat_tests)

exactly : (found : Option PartialBody) (last : Option ℕ) (at : ℕ) → last_of found ≡ if_recent at last
    → IsThereExactly last at found
exactly None None at e = record { when = ((λ h. absurd cc), (λ h. absurd h)); since = tt }
exactly (Some p) None at e = absurd cc
exactly None (Some l) at e = by (nat_le (at - l) partial_lifetime) refl e
  where
    by : (b : Bool) → nat_le (at - l) partial_lifetime ≡ b → None ≡ (if b then Some l else None)
        → IsThereExactly (Some l) at None
    by true is e = absurd cc
    by false is e = record { when = ((λ h. absurd cc), (λ h. absurd (past at l is h))); since = tt }
exactly (Some p) (Some l) at e = by (nat_le (at - l) partial_lifetime) refl e
  where
    by : (b : Bool) → nat_le (at - l) partial_lifetime ≡ b → Some p.last ≡ (if b then Some l else None)
        → IsThereExactly (Some l) at (Some p)
    by true is e = record { when = ((λ h. within at l is), (λ h. refl)); since = sym e }
    by false is e = absurd cc

pub there_by_history : ThereByHistory
there_by_history t key = exactly (partial_of key (state_after t).partials) (last_taken key t) (state_after t).clock
    (at_clock t key)

pub there_at_moment : ThereAtMoment
there_at_moment t now key =
    exactly (partial_of key (there_at (state_after t) now)) (last_taken key t) (moment_at (state_after t) now)
    (there_later (state_after t) now key (last_taken key t) (holds t).distinct (at_clock t key))

pub joins_where_more : JoinsWhereMore
joins_where_more t now key b len szx h =
    let s = state_after t in
    (join_says (fills b.more b.szx len) (goes_on (reached_of (partial_of key (there_at s now))) b.num b.szx)
    (nat_lt s.limit (offset_of b.num b.szx + len))
    (b.more && (b.num == 0) && nat_le max_partials (length (without_key key (there_at s now)))) b.more
    (answered_szx s.szx b) szx h).4
