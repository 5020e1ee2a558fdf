-- What a client reads from the options of a response is what the server wrote.
use Rattle.std.proofs.Common.{◌≡◌, ◌<◌, ◌≤◌, ℕ, ◌+◌, ◌*◌, ◌/◌, ◌%◌, ◌^◌, ◌==◌, nat_le, nat_lt, Bool, true, false, ◌&&◌}
use Rattle.std.proofs.Common.{Option, Some, None, List, [], ◌∷◌, ◌++◌, length, refl, ap, sym, ◌∙◌, cond, arith}
use Rattle.std.specs.Prelude.{IfSome}
use Rattle.std.specs.Cmp.{unsigned_Decides}
use Rattle.std.specs.Option.{option_map}
use Rattle.std.proofs.lemmas.Bool.{le-leb, lt-ltb, ltb-true}
use Rattle.coap_types.specs.BlockValue.{block_by, block_in, block_value, more_bit}
use Rattle.coap_types.specs.CoapOption.{CoapOption}
use Rattle.coap_types.specs.OptionValues.{option_with, uint_option, value_of}
use Rattle.coap_types.specs.Recognised.{lacks_critical, recognised}
use Rattle.coap_types.specs.Uint.{uint, uint_value, number_of}
use Rattle.coap_types.specs.declared.block.Block.{Block}
use Rattle.coap_types.specs.declared.direction.Direction.TheVariants.{Response}
use Rattle.coap_types.specs.declared.option_number.TheConstants.{ETAG as etag, OBSERVE as observe}
use Rattle.coap_types.specs.declared.option_number.TheConstants.{CONTENT_FORMAT as content_format, BLOCK1 as block1}
use Rattle.coap_types.specs.declared.option_number.TheConstants.{BLOCK2 as block2}
use Rattle.coap_types.proofs.Facts.Blocks.{block_reads_back}
use Rattle.coap_types.proofs.Facts.Uints.{few_bytes, uint_spells, uint_read}
use Rattle.coap_resource.specs.RequestOptions.{format_of, within_16}
use Rattle.coap_promise.proofs.Facts.Requests.OptionsKept as O

-- the options of a response of the store, in their order
abbrev pub written : Option (List ℕ) → Option ℕ → Option ℕ → Option ℕ → Option ℕ → List CoapOption
written tag sequence format block more = option_with etag tag
    ++ (uint_option observe sequence ++ (uint_option content_format format
    ++ (uint_option block2 block ++ uint_option block1 more)))

abbrev KnownElective : List CoapOption → List CoapOption → Type 0
KnownElective = O.KnownElective Response

-- the elective ones have the lengths that are allowed

zero_least : (n : ℕ) → nat_le 0 n ≡ true
zero_least n = le-leb 0 n (omega arith)

short : (n most : ℕ) → n < 256 ^ most → n < 2 ^ 32 → nat_le 0 (length (uint n)) && nat_le (length (uint n)) most ≡ true
short n most h small = ap (λ b. b && nat_le (length (uint n)) most) (zero_least (length (uint n)))
    ∙ le-leb (length (uint n)) most (few_bytes (uint n) n most (uint_spells n small) h)

format_fits : (n : ℕ) → n < 65536 → (nat_le 0 (length (uint n)) && nat_le (length (uint n)) 2) ≡ true
format_fits n h = short n 2 h (omega (arith, h))

sequence_fits : (n : ℕ) → n < 16777216 → (nat_le 0 (length (uint n)) && nat_le (length (uint n)) 3) ≡ true
sequence_fits n h = short n 3 h (omega (arith, h))

tag_fits : (tag : List ℕ) → length tag ≡ 8 → (nat_le 1 (length tag) && nat_le (length tag) 8) ≡ true
tag_fits tag h = ap (λ n. nat_le 1 n && nat_le n 8) h

blocks_known : (before : List CoapOption) (block more : Option ℕ)
    → KnownElective before (uint_option block2 block ++ uint_option block1 more)
blocks_known before None None = tt
blocks_known before None (Some m) = ((λ even. cc even), tt)
blocks_known before (Some b) None = ((λ even. cc even), tt)
blocks_known before (Some b) (Some m) = ((λ even. cc even), ((λ even. cc even), tt))

all_known : (tag : List ℕ) (sequence format block more : Option ℕ) → length tag ≡ 8
    → IfSome sequence (λ n. n < 16777216) → IfSome format (λ f. f < 65536)
    → KnownElective [] (written (Some tag) sequence format block more)
all_known tag None None block more t s f = ((λ even. tag_fits tag t), blocks_known _ block more)
all_known tag (Some n) None block more t s f =
    ((λ even. tag_fits tag t), ((λ even. sequence_fits n s), blocks_known _ block more))
all_known tag None (Some k) block more t s f =
    ((λ even. tag_fits tag t), ((λ even. format_fits k f), blocks_known _ block more))
all_known tag (Some n) (Some k) block more t s f =
    ((λ even. tag_fits tag t), ((λ even. sequence_fits n s), ((λ even. format_fits k f), blocks_known _ block more)))

-- What is read from them.
module _ (tag : List ℕ) (sequence format block more : Option ℕ) (long : length tag ≡ 8)
    (low : IfSome sequence (λ n. n < 16777216)) (small : IfSome format (λ f. f < 65536)) where
  abbrev os : List CoapOption
  os = written (Some tag) sequence format block more

  pub all_read : lacks_critical Response os ≡ false → recognised Response os ≡ os
  all_read none = O.all_recognised Response os none (all_known tag sequence format block more long low small)

value_behind : (number : ℕ) (block more : Option ℕ) → (block2 == number) ≡ false → (block1 == number) ≡ false
    → value_of number (uint_option block2 block ++ uint_option block1 more) ≡ None
value_behind number None None a b = refl
value_behind number None (Some m) a b = ap (λ c. cond c (Some (uint m)) None) b
value_behind number (Some n) None a b = ap (λ c. cond c (Some (uint n)) None) a
value_behind number (Some n) (Some m) a b = ap
    (λ c. cond c (Some (uint n)) (cond (block1 == number) (Some (uint m)) None)) a
    ∙ ap (λ c. cond c (Some (uint m)) None) b

pub sequence_read : (tag : List ℕ) (sequence format block more : Option ℕ)
    → value_of observe (written (Some tag) sequence format block more) ≡ option_map uint sequence
sequence_read tag None None block more = value_behind observe block more refl refl
sequence_read tag None (Some f) block more = value_behind observe block more refl refl
sequence_read tag (Some s) format block more = refl

format_behind : (block more : Option ℕ) → format_of (uint_option block2 block ++ uint_option block1 more) ≡ None
format_behind block more = ap (λ v. within_16 (elim v [ None ↦ None | Some x ↦ uint_value x ]))
    (value_behind content_format block more refl refl)

small_format : (n : ℕ) → n < 65536 → within_16 (uint_value (uint n)) ≡ Some n
small_format n h = ap within_16 (uint_read n (omega (arith, h))) ∙ ap (λ b. cond b (Some n) None) (lt-ltb n 65536 h)

pub format_read : (tag : List ℕ) (sequence format block more : Option ℕ) → IfSome format (λ f. f < 65536)
    → format_of (written (Some tag) sequence format block more) ≡ format
format_read tag None None block more small = format_behind block more
format_read tag (Some s) None block more small = format_behind block more
format_read tag None (Some f) block more small = small_format f small
format_read tag (Some s) (Some f) block more small = small_format f small

block_there : (block more : Option ℕ) → value_of block2 (uint_option block2 block ++ uint_option block1 more)
    ≡ option_map uint block
block_there None None = refl
block_there None (Some m) = refl
block_there (Some n) more = refl

pub block_read : (tag : List ℕ) (sequence format block more : Option ℕ)
    → value_of block2 (written (Some tag) sequence format block more) ≡ option_map uint block
block_read tag None None block more = block_there block more
block_read tag (Some s) None block more = block_there block more
block_read tag None (Some f) block more = block_there block more
block_read tag (Some s) (Some f) block more = block_there block more

-- a block that is read is the one that was written

short_uint : (n : ℕ) → nat_le (length (uint n)) 3 ≡ true → n < 16777216
short_uint n h = by (n == 0) (nat_lt n 256) (nat_lt n (256 ^ 2)) (nat_lt n (256 ^ 3)) refl refl refl refl h
  where
    by : (a b c d : Bool) → (n == 0) ≡ a → nat_lt n 256 ≡ b → nat_lt n (256 ^ 2) ≡ c → nat_lt n (256 ^ 3) ≡ d
        → nat_le (length (cond a [] (cond b (n ∷ [])
        (cond c (n / 256 ∷ n % 256 ∷ []) (cond d (n / 256 ^ 2 ∷ n / 256 % 256 ∷ n % 256 ∷ [])
        (n / 256 ^ 3 ∷ n / 256 ^ 2 % 256 ∷ n / 256 % 256 ∷ n % 256 ∷ [])))))) 3 ≡ true
        → n < 16777216
    by true b c d p q r s h = let zero : n ≡ 0 = (unsigned_Decides n 0).0 p in omega (arith, zero)
    by false true c d p q r s h = let k = ltb-true n 256 q in omega (arith, k)
    by false false true d p q r s h = let k = ltb-true n (256 ^ 2) r in omega (arith, k)
    by false false false true p q r s h = ltb-true n (256 ^ 3) s
    by false false false false p q r s h = absurd (cc h)

small_num : (num bit szx : ℕ) → num * 16 + bit + szx < 16777216 → num ≤ 1048575
small_num num bit szx h = omega (arith, h)

pub same_block : (x b : Block) → x.szx ≤ 6 → block_in (uint (block_value x)) ≡ Some b → x ≡ b
same_block x b size h = by (nat_le (length (uint (block_value x))) 3) refl h
  where
    by : (c : Bool) → nat_le (length (uint (block_value x))) 3 ≡ c
        → cond c (block_by (number_of (uint (block_value x)))) None ≡ Some b → x ≡ b
    by false is h = absurd (cc h)
    by true is h =
        let n : ℕ = block_value x in
        let low : n < 16777216 = short_uint n is in
        let spelt : number_of (uint n) ≡ n = (uint_spells n (omega (arith, low))).spelt in
        let k : Some x ≡ Some b = sym (block_reads_back x (small_num x.num (more_bit x.more) x.szx low) size)
        ∙ (ap block_by (sym spelt) ∙ h) in
        cc k
