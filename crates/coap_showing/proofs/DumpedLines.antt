-- A dump is read line by line, and the worst status so far is that of the lines so far.
use Rattle.std.proofs.Common.{◌≡◌, ◌≢◌, ◌∙◌, ◌+◌, ◌-◌, ap, sym, refl, subst, ℕ, Bool, true, false, cond, arith, max}
use Rattle.std.proofs.Common.{map}
use Rattle.std.proofs.Common.{List, [], ◌∷◌, ◌++◌, ◌==◌, length, Option, Some, None, IfSome, take, slice_index}
use Rattle.std.proofs.Common.{nat_lt}
use Rattle.std.proofs.Common.{◌&&◌, ◌⊎◌, if◌then◌else◌, inl, inr}
use Rattle.std.specs.List.{onto_first}
use Rattle.std.specs.Io.BufRead.{DropsThrough, drop_through, strip_last, take_through}
use Rattle.std.specs.Io.KnownBytes.{IsAtEnd}
use Rattle.std.proofs.lemmas.List.{append-nil, append_assoc}
use Rattle.std.proofs.lemmas.Bool.Decides.{nat_tests}
use Rattle.coap_showing.specs.Dumps.{IsDumped, IsLineStatus, dump_lines, worst_of}
use Rattle.coap_scripts.specs.Script.{EachOf, lines_of}
use Rattle.coap_status.specs.StatusNumbers.{status_number}
use Rattle.coap_status.specs.declared.status.Status.{Status}
use Rattle.coap_status.specs.declared.status.Status.TheVariants as status
use Rattle.coap_showing.specs.Dumps.{IsOfScript}

-- ---- the first line of a text

onto_if : (c : Bool) (x k : ℕ) (l : List ℕ) → (if c then x ∷ take k l else x ∷ l) ≡ x ∷ (if c then take k l else l)
onto_if true x k l = refl
onto_if false x k l = refl

is_some : (x : ℕ) (t : List ℕ) → nat_lt 0 (length (x ∷ t)) ≡ true
is_some x t = grind (arith, nat_tests)

strip_is : (x : ℕ) (t : List ℕ) → strip_last 10 (x ∷ t)
    ≡ (if slice_index (x ∷ t) (length t) == 10 then take (length t) (x ∷ t) else x ∷ t)
strip_is x t =
    let less : length (x ∷ t) - 1 ≡ length t = omega arith in
    ap (λ (c : Bool). if c && (slice_index (x ∷ t) (length (x ∷ t) - 1) == 10) then take (length (x ∷ t) - 1) (x ∷ t)
    else x ∷ t) (is_some x t)
    ∙ ap (λ (n : ℕ). if slice_index (x ∷ t) n == 10 then take n (x ∷ t) else x ∷ t) less

strip_onto : (x : ℕ) (t : List ℕ) → t ≢ [] → strip_last 10 (x ∷ t) ≡ x ∷ strip_last 10 t
strip_onto x [] some = absurd (some refl)
strip_onto x (b ∷ bs) some =
    strip_is x (b ∷ bs) ∙ onto_if (slice_index (b ∷ bs) (length bs) == 10) x (length bs) (b ∷ bs)
    ∙ ap (λ l. x ∷ l) (sym (strip_is b bs))

some_by : (c : Bool) (x : ℕ) (xs : List ℕ) → (if c then x ∷ [] else x ∷ xs) ≢ []
some_by true x xs = λ is. cc is
some_by false x xs = λ is. cc is

first_by : (c : Bool) (x : ℕ) (xs : List ℕ) → (x == 10) ≡ c
    → (xs ≢ [] → lines_of xs ≡ strip_last 10 (take_through 10 xs) ∷ lines_of (drop_through 10 xs))
    → cond c ([] ∷ lines_of xs) (onto_first x (lines_of xs))
    ≡ strip_last 10 (if c then x ∷ [] else x ∷ take_through 10 xs) ∷ lines_of (if c then xs else drop_through 10 xs)
first_by true x xs is onward = ap (λ (c : Bool). (if c then [] else x ∷ []) ∷ lines_of xs) (sym is)
first_by false x [] is onward = ap (λ (c : Bool). (if c then [] else x ∷ []) ∷ []) (sym is)
first_by false x (y ∷ ys) is onward =
    ap (onto_first x) (onward (λ none. cc none))
    ∙ ap (λ line. line ∷ lines_of (drop_through 10 (y ∷ ys)))
    (sym (strip_onto x (take_through 10 (y ∷ ys)) (some_by (y == 10) y (take_through 10 ys))))

pub first_is : (xs : List ℕ) → xs ≢ []
    → lines_of xs ≡ strip_last 10 (take_through 10 xs) ∷ lines_of (drop_through 10 xs)
first_is [] some = absurd (some refl)
first_is (x ∷ xs) some = first_by (x == 10) x xs refl (first_is xs)

-- ---- the lines so far

pub record Dumps (start now : Option (List ℕ)) (worst : Status) : Type 0 where
  pub lines : List (List ℕ)
  pub statuses : List Status
  pub each : EachOf (λ s line. IsLineStatus line s) lines statuses
  pub most : status_number worst ≡ worst_of statuses
  pub joins : IfSome start (λ text. (left : List ℕ) × (now ≡ Some left) × (lines ++ dump_lines left ≡ dump_lines text))

each_more : (lines : List (List ℕ)) (ss : List Status) (line : List ℕ) (s : Status)
    → EachOf (λ s line. IsLineStatus line s) lines ss → IsLineStatus line s → EachOf (λ s line. IsLineStatus line s)
    (lines ++ line ∷ []) (ss ++ s ∷ [])
each_more [] [] line s h one = (one, tt)
each_more (l ∷ lines) (t ∷ ss) line s h one = (h.0, each_more lines ss line s h.1 one)
each_more [] (t ∷ ss) line s h one = absurd h
each_more (l ∷ lines) [] line s h one = absurd h

most_more : (ss : List Status) (s : Status) → max (worst_of ss) (status_number s) ≡ worst_of (ss ++ s ∷ [])
most_more [] s = omega arith
most_more (t ∷ ss) s = let onward = most_more ss s in omega (arith, onward)

pub begun : (start : Option (List ℕ)) → Dumps start start status.Done
begun None = record { lines = []; statuses = []; each = tt; most = refl; joins = tt }
begun (Some text) = record { lines = []; statuses = []; each = tt; most = refl; joins = (text, refl, refl) }

joined_on : (start old new : Option (List ℕ)) (lines : List (List ℕ)) (bytes : List ℕ) → bytes ≢ []
    → IfSome old (λ xs. bytes ≡ take_through 10 xs) → DropsThrough old new 10
    → IfSome start (λ text. (left : List ℕ) × (old ≡ Some left) × (lines ++ dump_lines left ≡ dump_lines text))
    → IfSome start (λ text. (left : List ℕ) × (new ≡ Some left)
    × ((lines ++ strip_last 13 (strip_last 10 bytes) ∷ []) ++ dump_lines left ≡ dump_lines text))
joined_on None old new lines bytes some are rest so = tt
joined_on (Some text) None new lines bytes some are rest so = cc so.1
joined_on (Some text) (Some xs) new lines bytes some are rest so =
    let left : List ℕ = so.0 in
    let is : xs ≡ left = cc so.1 in
    let line = strip_last 13 (strip_last 10 bytes) in
    let there : xs ≢ [] = λ none. some (are ∙ ap (take_through 10) none) in (
      drop_through 10 xs,
      rest,
      append_assoc lines (line ∷ []) (dump_lines (drop_through 10 xs))
          ∙ ap (λ (b : List ℕ). lines ++ strip_last 13 (strip_last 10 b) ∷ dump_lines (drop_through 10 xs)) are
          ∙ ap (λ ls. lines ++ map (strip_last 13) ls) (sym (first_is xs there))
          ∙ ap (λ t. lines ++ dump_lines t) is ∙ so.2,
    )

pub goes_on : (start old new : Option (List ℕ)) (worst came : Status) (bytes : List ℕ) → bytes ≢ []
    → IfSome old (λ xs. bytes ≡ take_through 10 xs) → DropsThrough old new 10
    → IsLineStatus (strip_last 13 (strip_last 10 bytes)) came → Dumps start old worst → (u : Status)
    → status_number u ≡ max (status_number worst) (status_number came)
    → Dumps start new u
goes_on start old new worst came bytes some are rest one so u is = record {
  lines = so.lines ++ strip_last 13 (strip_last 10 bytes) ∷ [];
  statuses = so.statuses ++ came ∷ [];
  each = each_more so.lines so.statuses (strip_last 13 (strip_last 10 bytes)) came so.each one;
  most = is ∙ ap (λ w. max w (status_number came)) so.most ∙ most_more so.statuses came;
  joins = joined_on start old new so.lines bytes some are rest so.joins;
}

pub at_end : (start old : Option (List ℕ)) (worst : Status) → IsAtEnd old → Dumps start old worst
    → IfSome start (λ text. IsDumped text worst)
at_end None old worst end so = tt
at_end (Some text) None worst end so = let j = so.joins in cc j.1
at_end (Some text) (Some xs) worst end so =
    let j = so.joins in
    let left : List ℕ = j.0 in
    let none : left ≡ [] = cc (j.1, end) in (
      so.statuses,
      subst (λ ls. EachOf (λ s line. IsLineStatus line s) ls so.statuses)
          (sym (append-nil so.lines) ∙ ap (λ t. so.lines ++ dump_lines t) (sym none) ∙ j.2) so.each,
      so.most,
    )

-- something was read
pub some_read : (bytes : List ℕ) (n : ℕ) → length bytes ≡ 0 + n → n ≢ 0 → bytes ≢ []
some_read [] n is some = λ none. some (omega (arith, is))
some_read (b ∷ bs) n is some = λ none. cc none

-- ---- which statuses there are

pub of_line : (line : List ℕ) (s : Status) → IsLineStatus line s → IsOfScript s
of_line line status.Done is = inl refl
of_line line status.Refused is = inr (inl refl)
of_line line status.Words is = inr (inr refl)
of_line line status.Failed is = absurd is
of_line line status.Memory is = absurd is

pub one_of : (one other s : Status) → IsOfScript one → IsOfScript other → (s ≡ one) ⊎ (s ≡ other) → IsOfScript s
one_of one other s is so (inl e) = subst IsOfScript (sym e) is
one_of one other s is so (inr e) = subst IsOfScript (sym e) so
