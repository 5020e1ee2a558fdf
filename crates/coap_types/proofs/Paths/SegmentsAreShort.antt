-- The segments of a request's recognised options are short, so only their number refuses them as a path.
use Rattle.std.proofs.Common.{◌≡◌, ℕ, ◌+◌, ◌≤◌, ◌==◌, ◌&&◌, ◌∙◌, nat_le, nat_lt, Bool, true, false, Some, None, List}
use Rattle.std.proofs.Common.{[], ◌∷◌, length, map, All, refl, ap, sym, zero-add, arith, cond, if◌then◌else◌}
use Rattle.std.specs.List.{filter}
use Rattle.std.proofs.lemmas.List.Elements.{All-cons, All-head, All-nil, All-tail}
use Rattle.std.proofs.lemmas.Bool.{and_parts, eqb-true, leb-true}
use Rattle.std.proofs.lemmas.Bool.Decides.{nat_tests}
use Rattle.coap_types.specs.declared.direction.Direction.TheVariants.{Request}
use Rattle.coap_types.specs.declared.path.PathRefusal.TheVariants.{SegmentTooLong, TooManySegments}
use Rattle.coap_types.specs.CoapOption.{CoapOption}
use Rattle.coap_types.specs.OptionTable.{option_rule}
use Rattle.coap_types.specs.Recognised.{is_recognised, passes, placed}
use Rattle.coap_types.specs.declared.path.TheConstants.{MAX_SEGMENT_LEN as max_segment_len}
use Rattle.coap_types.specs.declared.path.TheConstants.{MAX_SEGMENTS as max_segments}
use Rattle.coap_types.specs.RequestPath.{MakesPathWithin, PathsOfRecognised, path_of, refusal_after}

abbrev AreShort : List (List ℕ) → Type 0
AreShort [] = Unit {0}
AreShort (s ∷ ss) = (length s ≤ 255) × AreShort ss

segment_fits : (before : List CoapOption) (o : CoapOption) → is_recognised Request before o ≡ true → o.number ≡ 11
    → length o.value ≤ 255
segment_fits before o passed eleven =
    let rule : option_rule o.number ≡ option_rule 11 = ap option_rule eleven in
    let test : passes (option_rule 11) Request before o ≡ true = ap (λ r. passes r Request before o) (sym rule)
    ∙ passed in
    let p = and_parts true (nat_le 0 (length o.value) && nat_le (length o.value) 255) test in
    let q = and_parts (nat_le 0 (length o.value)) (nat_le (length o.value) 255) p.1 in
    leb-true (length o.value) 255 q.1

abbrev kept : List (List CoapOption × CoapOption) → List CoapOption
kept ps = map (λ p. p.1) (filter (λ p. is_recognised Request p.0 p.1) ps)

one_more : (b : Bool) (o : CoapOption) (os : List CoapOption) → (o.number == 11) ≡ b
    → (o.number ≡ 11 → length o.value ≤ 255) → AreShort (path_of os)
    → AreShort (map (λ x. x.value) (cond b (o ∷ filter (λ x. x.number == 11) os) (filter (λ x. x.number == 11) os)))
one_more true o os is fits rest = (fits (eqb-true o.number 11 is), rest)
one_more false o os is fits rest = rest

kept_step : (b : Bool) (before : List CoapOption) (o : CoapOption) (ps : List (List CoapOption × CoapOption))
    → is_recognised Request before o ≡ b
    → AreShort (path_of (kept ps))
    → AreShort (path_of (map (λ p. p.1) (cond b ((before, o) ∷ filter (λ p. is_recognised Request p.0 p.1) ps)
    (filter (λ p. is_recognised Request p.0 p.1) ps))))
kept_step true before o ps is rest = one_more (o.number == 11) o (kept ps) refl (segment_fits before o is) rest
kept_step false before o ps is rest = rest

kept_short : (ps : List (List CoapOption × CoapOption)) → AreShort (path_of (kept ps))
kept_short [] = tt
kept_short (p ∷ ps) = kept_step (is_recognised Request p.0 p.1) p.0 p.1 ps refl (kept_short ps)

by_count : (count : ℕ) (ss : List (List ℕ)) → AreShort ss → count ≤ 16
    → refusal_after count ss ≡ (if nat_lt 16 (count + length ss) then Some TooManySegments else None)
by_count count [] short few = ap (λ b. if b then Some TooManySegments else None)
    (let no : false ≡ nat_lt 16 (count + 0) = grind (arith, nat_tests) in no)
by_count count (s ∷ ss) short few = go (nat_lt 255 (length s)) (nat_le 16 count) refl refl
    (λ more. by_count (count + 1) ss short.1 more)
  where
    go : (a b : Bool) → nat_lt 255 (length s) ≡ a → nat_le 16 count ≡ b
        → (count + 1 ≤ 16 → refusal_after (count + 1) ss
        ≡ (if nat_lt 16 (count + 1 + length ss) then Some TooManySegments else None))
        → (if a then Some SegmentTooLong else if b then Some TooManySegments else refusal_after (count + 1) ss)
        ≡ (if nat_lt 16 (count + length (s ∷ ss)) then Some TooManySegments else None)
    go true b long is rest = let fits : length s ≤ 255 = short.0 in absurd (grind (arith, nat_tests))
    go false true long is rest = ap (λ t. if t then Some TooManySegments else None)
        (let yes : true ≡ nat_lt 16 (count + length (s ∷ ss)) = grind (arith, nat_tests) in yes)
    go false false long is rest =
        rest (grind (arith, nat_tests))
        ∙ ap (λ n. if nat_lt 16 n then Some TooManySegments else None)
        (let same : count + 1 + length ss ≡ count + length (s ∷ ss) = omega arith in same)

pub paths_of_recognised : PathsOfRecognised
paths_of_recognised options =
    by_count 0 (path_of (kept (placed [] options))) (kept_short (placed [] options)) (omega arith)
    ∙ ap (λ (n : ℕ). if nat_lt 16 n then Some TooManySegments else None)
    (zero-add (length (path_of (kept (placed [] options)))))

abbrev IsShort : List ℕ → Type 0
IsShort segment = length segment ≤ max_segment_len

module _ (s : List ℕ) (ss : List (List ℕ)) (count : ℕ) where
  -- one segment more is refused by its length, by the count, or by those behind it
  taken : (a b : Bool) → nat_lt max_segment_len (length s) ≡ a → nat_le max_segments count ≡ b
      → (if a then Some SegmentTooLong else if b then Some TooManySegments else refusal_after (count + 1) ss) ≡ None
      → IsShort s × (count + 1 ≤ max_segments) × (refusal_after (count + 1) ss ≡ None)
  taken true b long is none = absurd (cc none)
  taken false true long is none = absurd (cc none)
  taken false false long is none = (grind (arith, nat_tests), grind (arith, nat_tests), none)

  takes : (a b : Bool) → nat_lt max_segment_len (length s) ≡ a → nat_le max_segments count ≡ b → IsShort s
      → count + 1 ≤ max_segments
      → refusal_after (count + 1) ss ≡ None → (if a then Some SegmentTooLong else if b then Some TooManySegments else
      refusal_after (count + 1) ss) ≡ None
  takes true b long is short few none = absurd (grind (arith, nat_tests))
  takes false true long is short few none = absurd (grind (arith, nat_tests))
  takes false false long is short few none = none

none_within : (count : ℕ) (ss : List (List ℕ)) → count ≤ max_segments → refusal_after count ss ≡ None
    → (count + length ss ≤ max_segments) × All IsShort ss
none_within count [] few none = (omega (arith, few), All-nil IsShort)
none_within count (s ∷ ss) few none =
    let one = taken s ss count (nat_lt max_segment_len (length s)) (nat_le max_segments count) refl refl none in
    let rest = none_within (count + 1) ss one.1 one.2 in
    let more = rest.0 in
    (omega (arith, more), All-cons IsShort s ss one.0 rest.1)

within_none : (count : ℕ) (ss : List (List ℕ)) → count + length ss ≤ max_segments → All IsShort ss
    → refusal_after count ss ≡ None
within_none count [] few short = refl
within_none count (s ∷ ss) few short =
    takes s ss count (nat_lt max_segment_len (length s)) (nat_le max_segments count) refl refl
    (All-head IsShort s ss short) (omega (arith, few))
    (within_none (count + 1) ss (omega (arith, few)) (All-tail IsShort s ss short))

pub makes_path_within : MakesPathWithin
makes_path_within segments = (
  λ none. let w = none_within 0 segments (omega arith) none in let few =
      w.0 in record { few = omega (arith, few); short = w.1 },
  λ held. let few = held.few in within_none 0 segments (omega (arith, few)) held.short,
)
