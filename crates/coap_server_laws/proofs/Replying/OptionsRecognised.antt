-- A client recognises each critical option of a response that has ETag, Observe, Content-Format, Block2 and Block1 at
-- most, once each, where the values of the blocks have three bytes.
use Rattle.std.proofs.Common.{◌≡◌, ◌<◌, ◌≤◌, ℕ, ◌/◌, ◌%◌, ◌==◌, nat_le, Bool, true, false, ◌&&◌, ◌||◌, not}
use Rattle.std.proofs.Common.{Option, Some, None, List, [], ◌∷◌, ◌++◌, length, refl, ap, subst, ◌∙◌, cond, arith}
use Rattle.std.specs.Prelude.{IfSome}
use Rattle.std.specs.List.{list_any}
use Rattle.std.specs.Option.{option_map}
use Rattle.std.proofs.lemmas.Bool.{le-leb, and_parts}
use Rattle.std.proofs.lemmas.Bool.Decides.{nat_tests}
use Rattle.coap_types.specs.BlockValue.{block_by, block_value, more_bit}
use Rattle.coap_types.specs.CoapOption.{CoapOption, option}
use Rattle.coap_types.specs.OptionValues.{option_with, uint_at, uint_option}
use Rattle.coap_types.specs.Recognised.{placed, is_recognised, is_critical, has_number, lacks_critical}
use Rattle.coap_types.specs.Uint.{uint}
use Rattle.coap_types.specs.declared.block.Block.{Block}
use Rattle.coap_types.specs.declared.block.TheConstants.{MAX_NUM as max_num}
use Rattle.coap_types.specs.declared.direction.Direction.TheVariants.{Response}
use Rattle.coap_types.specs.declared.option_number.TheConstants.{BLOCK1 as block1}
use Rattle.coap_types.specs.declared.szx.TheConstants.{MAX_SZX as max_szx}
use Rattle.coap_types.proofs.Facts.Uints.{few_bytes, uint_spells}
use Rattle.coap_resource.specs.RequestOptions.{block_said}
use Rattle.coap_resource.specs.ResponseOptions.{block_number}
use Rattle.coap_resource.specs.Serves.{Question, Reply}
use Rattle.coap_server.specs.Responses.{response_with}
use Rattle.coap_server.specs.Uploads.{continuing, last_block}

abbrev lacking : List CoapOption → List CoapOption → Bool
lacking before os = list_any (λ p. is_critical p.1 && not (is_recognised Response p.0 p.1)) (placed before os)

-- a number that three bytes spell
abbrev pub IsSmall : Option ℕ → Type 0
IsSmall o = IfSome o (λ n. n < 16777216)

has_more : (number : ℕ) (before : List CoapOption) (o : CoapOption) → has_number number before ≡ false
    → (o.number == number) ≡ false → has_number number (before ++ o ∷ []) ≡ false
has_more number [] o h k = ap (λ b. b || false) k
has_more number (x ∷ xs) o h k = by (x.number == number) h (λ z. has_more number xs o z k)
  where
    by : (b : Bool) → (b || has_number number xs) ≡ false
        → (has_number number xs ≡ false → has_number number (xs ++ o ∷ []) ≡ false)
        → (b || has_number number (xs ++ o ∷ [])) ≡ false
    by true z f = absurd (cc z)
    by false z f = f z

-- no Block option stands before
abbrev NoBlocks : List CoapOption → Type 0
NoBlocks before = (has_number 23 before ≡ false) × (has_number 27 before ≡ false)

abbrev Understood : List CoapOption → Type 0
Understood rest = (before : List CoapOption) → NoBlocks before → lacking before rest ≡ false

elective : (n : ℕ) (value : List ℕ) (rest : List CoapOption) → (n % 2 == 1) ≡ false → (n == 23) ≡ false
    → (n == 27) ≡ false → Understood rest → Understood (option n value ∷ rest)
elective n value rest even two one f before none =
    ap (λ b. (b && not (is_recognised Response before (option n value)))
    || lacking (before ++ option n value ∷ []) rest) even
    ∙ f (before ++ option n value ∷ [])
    (has_more 23 before (option n value) none.0 two, has_more 27 before (option n value) none.1 one)

elective_with : (n : ℕ) (o : Option (List ℕ)) (rest : List CoapOption) → (n % 2 == 1) ≡ false → (n == 23) ≡ false
    → (n == 27) ≡ false → Understood rest → Understood (option_with n o ++ rest)
elective_with n None rest even two one f = f
elective_with n (Some value) rest even two one f = elective n value rest even two one f

elective_uint : (n : ℕ) (o : Option ℕ) (rest : List CoapOption) → (n % 2 == 1) ≡ false → (n == 23) ≡ false
    → (n == 27) ≡ false → Understood rest → Understood (uint_option n o ++ rest)
elective_uint n None rest even two one f = f
elective_uint n (Some k) rest even two one f = elective n (uint k) rest even two one f

-- a Block option

length_of : (n : ℕ) → n < 16777216 → nat_le (length (uint n)) 3 ≡ true
length_of n small = le-leb (length (uint n)) 3 (few_bytes (uint n) n 3 (uint_spells n (omega (arith, small))) small)

zero_least : (n : ℕ) → nat_le 0 n ≡ true
zero_least n = grind (arith, nat_tests)

is_known : (value : List ℕ) (h l : Bool) → h ≡ false → l ≡ true → (not h && nat_le 0 (length value) && l) ≡ true
is_known value true l k m = absurd (cc k)
is_known value false true k m = ap (λ b. b && true) (zero_least (length value))
is_known value false false k m = absurd (cc m)

then_none : (r k : Bool) → r ≡ true → k ≡ false → (not r || k) ≡ false
then_none true k is h = h
then_none false k is h = absurd (cc is)

block_known : (n : ℕ) (before : List CoapOption) → n < 16777216 → has_number 23 before ≡ false
    → is_recognised Response before (option 23 (uint n)) ≡ true
block_known n before small none = is_known (uint n) (has_number 23 before) (nat_le (length (uint n)) 3) none
    (length_of n small)

upload_known : (n : ℕ) (before : List CoapOption) → n < 16777216 → has_number 27 before ≡ false
    → is_recognised Response before (option 27 (uint n)) ≡ true
upload_known n before small none = is_known (uint n) (has_number 27 before) (nat_le (length (uint n)) 3) none
    (length_of n small)

with_upload : (o : Option ℕ) → IsSmall o → (before : List CoapOption) → has_number 27 before ≡ false
    → lacking before (uint_option 27 o) ≡ false
with_upload None small before none = refl
with_upload (Some n) small before none =
    then_none (is_recognised Response before (option 27 (uint n))) false (upload_known n before small none) refl

with_block : (o u : Option ℕ) → IsSmall o → IsSmall u → Understood (uint_option 23 o ++ uint_option 27 u)
with_block None u small last before none = with_upload u last before none.1
with_block (Some n) u small last before none =
    then_none (is_recognised Response before (option 23 (uint n)))
    (lacking (before ++ option 23 (uint n) ∷ []) (uint_option 27 u)) (block_known n before small none.0)
    (with_upload u last (before ++ option 23 (uint n) ∷ []) (has_more 27 before (option 23 (uint n)) none.1 refl))

-- what the store replies
pub response_understood : (reply : Reply) (sequence block : Option ℕ) → IsSmall (block_number reply.block2)
    → IsSmall block → lacks_critical Response (response_with reply sequence block).options ≡ false
response_understood reply sequence block small last =
    let blocks = with_block (block_number reply.block2) block small last in
    let format = elective_uint 12 reply.format _ refl refl refl blocks in
    let observe = elective_uint 6 sequence _ refl refl refl format in
    elective_with 4 reply.tag _ refl refl refl observe [] (refl, refl)

-- the value of a block

more_small : (b : Bool) → more_bit b ≤ 8
more_small true = omega arith
more_small false = omega arith

pub value_small : (num szx : ℕ) (more : Bool) → num ≤ 1048575 → szx ≤ 6
    → block_value (record { num = num; more = more; szx = szx }) < 16777216
value_small num szx more low size = let bit = more_small more in omega (arith, bit, low, size)

le_of : (a b : ℕ) → nat_le a b ≡ true → a ≤ b
le_of a b h = grind (arith, nat_tests, h)

-- a block that is read has such a value
pub said_small : (n : ℕ) (b : Block) → block_by n ≡ Some b → (b.num ≤ 1048575) × (b.szx ≤ 6)
said_small n b h = by (nat_le (n / 16) max_num && nat_le (n % 8) max_szx) refl h
  where
    by : (c : Bool) → (nat_le (n / 16) max_num && nat_le (n % 8) max_szx) ≡ c
        → cond c (Some (record { num = n / 16; more = (n / 8 % 2 == 1); szx = n % 8 })) None ≡ Some b
        → (b.num ≤ 1048575) × (b.szx ≤ 6)
    by true is k =
        let same : record { num = n / 16; more = (n / 8 % 2 == 1); szx = n % 8 } ≡ b = cc k in
        let parts = and_parts (nat_le (n / 16) max_num) (nat_le (n % 8) max_szx) is in
        subst (λ (x : Block). (x.num ≤ 1048575) × (x.szx ≤ 6)) same
        (le_of (n / 16) 1048575 parts.0, le_of (n % 8) 6 parts.1)
    by false is k = absurd (cc k)

-- Block1 of a response to the last block of an upload
pub last_small : (q : Question) → IsSmall (last_block q)
last_small q = by (uint_at block1 q.options)
  where
    one : (o : Option Block) → ((b : Block) → o ≡ Some b → (b.num ≤ 1048575) × (b.szx ≤ 6))
        → IsSmall (option_map (λ (b : Block). block_value (record b { more = false })) o)
    one None f = tt
    one (Some b) f = let k = f b refl in value_small b.num b.szx false k.0 k.1

    by : (o : Option ℕ)
        → IsSmall (option_map (λ (b : Block). block_value (record b { more = false })) (block_said o))
    by None = tt
    by (Some n) = one (block_by n) (said_small n)

-- 2.31
pub continue_understood : (size : ℕ) (b : Block) → b.num ≤ 1048575 → size ≤ 6
    → lacks_critical Response (continuing size b).options ≡ false
continue_understood size b low small =
    with_upload (Some (block_value (record { num = b.num; more = true; szx = size })))
    (value_small b.num size true low small) [] refl
