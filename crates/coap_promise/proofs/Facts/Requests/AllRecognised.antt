-- A server recognises each elective option of a PUT, a POST or a DELETE.
use Rattle.std.proofs.Common.{◌≡◌, ◌<◌, ℕ, ◌%◌, ◌==◌, nat_le, Bool, true, false, ◌&&◌, ◌||◌, not, Option, Some, None}
use Rattle.std.proofs.Common.{List, [], ◌∷◌, ◌++◌, length, map, ap, arith}
use Rattle.std.specs.Prelude.{IfSome}
use Rattle.std.proofs.lemmas.Bool.{le-leb}
use Rattle.std.proofs.lemmas.Bool.Decides.{nat_tests}
use Rattle.coap_types.specs.CoapOption.{CoapOption, option}
use Rattle.coap_types.specs.OptionValues.{uint_option}
use Rattle.coap_types.specs.Recognised.{is_critical, has_number}
use Rattle.coap_types.specs.Uint.{uint}
use Rattle.coap_types.specs.declared.direction.Direction.TheVariants.{Request}
use Rattle.coap_types.specs.declared.option_number.TheConstants.{CONTENT_FORMAT as content_format}
use Rattle.coap_types.proofs.Facts.Uints.{few_bytes, uint_spells}
use Rattle.coap_promise.proofs.Facts.Requests.OptionsKept as O

abbrev pub KnownElective : List CoapOption → List CoapOption → Type 0
KnownElective = O.KnownElective Request

-- options one behind the other

pub has_more : (number : ℕ) (before : List CoapOption) (o : CoapOption) → has_number number before ≡ false
    → (o.number == number) ≡ false → has_number number (before ++ o ∷ []) ≡ false
has_more number [] o h k = ap (λ b. b || false) k
has_more number (x ∷ xs) o h k = by (x.number == number) h (λ z. has_more number xs o z k)
  where
    by : (b : Bool) → (b || has_number number xs) ≡ false
        → (has_number number xs ≡ false → has_number number (xs ++ o ∷ []) ≡ false)
        → (b || has_number number (xs ++ o ∷ [])) ≡ false
    by true z f = absurd (cc z)
    by false z f = f z

-- no Content-Format stands before
abbrev pub NoFormat : List CoapOption → Type 0
NoFormat before = has_number content_format before ≡ false

pub run_known : (n : ℕ) (vs : List (List ℕ)) (rest : List CoapOption) → (n % 2 == 1) ≡ true
    → (n == content_format) ≡ false → (before : List CoapOption) → NoFormat before
    → ((b : List CoapOption) → NoFormat b → KnownElective b rest) → KnownElective before (map (option n) vs ++ rest)
run_known n [] rest odd other before none f = f before none
run_known n (v ∷ vs) rest odd other before none f = (
  (λ even. cc (odd, even)),
  run_known n vs rest odd other (before ++ option n v ∷ [])
      (has_more content_format before (option n v) none other) f,
)

pub one_known : (o : CoapOption) (rest : List CoapOption) → is_critical o ≡ true → (o.number == content_format) ≡ false
    → (before : List CoapOption) → NoFormat before
    → ((b : List CoapOption) → NoFormat b → KnownElective b rest) → KnownElective before (o ∷ rest)
one_known o rest odd other before none f = (
  (λ even. cc (odd, even)),
  f (before ++ o ∷ []) (has_more content_format before o none other),
)

-- the format has at most two bytes

length_of : (n : ℕ) → n < 65536 → nat_le (length (uint n)) 2 ≡ true
length_of n small = le-leb (length (uint n)) 2 (few_bytes (uint n) n 2 (uint_spells n (omega (arith, small))) small)

pub zero_least : (n : ℕ) → nat_le 0 n ≡ true
zero_least n = grind (arith, nat_tests)

is_known : (value : List ℕ) (h l : Bool) → h ≡ false → l ≡ true → (not h && nat_le 0 (length value) && l) ≡ true
is_known value true l k m = absurd (cc k)
is_known value false true k m = ap (λ b. b && true) (zero_least (length value))
is_known value false false k m = absurd (cc m)

pub format_known : (format : Option ℕ) (rest : List CoapOption) → IfSome format (λ f. f < 65536)
    → (before : List CoapOption) → NoFormat before
    → ((b : List CoapOption) → KnownElective b rest) → KnownElective before (uint_option content_format format ++ rest)
format_known None rest small before none f = f before
format_known (Some n) rest small before none f = (
  (λ even. is_known (uint n) (has_number content_format before) (nat_le (length (uint n)) 2) none
      (length_of n small)),
  f (before ++ option content_format (uint n) ∷ []),
)

pub critical_known : (o : CoapOption) (before : List CoapOption) → is_critical o ≡ true → KnownElective before (o ∷ [])
critical_known o before odd = ((λ even. cc (odd, even)), tt)
