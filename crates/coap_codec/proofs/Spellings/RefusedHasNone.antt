-- A refused message has no spelling that fits the room.
use Rattle.std.proofs.Common.{◌≡◌, ℕ, ◌≤◌, true, List, [], ◌∷◌, ◌++◌, length, refl, ap, ◌∙◌, arith}
use Rattle.std.specs.List.{list_all}
use Rattle.std.proofs.lemmas.Bool.{le-leb}
use Rattle.std.proofs.lemmas.List.{length-append}
use Rattle.coap_types.specs.CoapOption.{CoapOption}
use Rattle.coap_codec.specs.Extension.{Ext}
use Rattle.coap_codec.specs.Options.{Options}
use Rattle.coap_codec.specs.Message.{Message, marked, Spells}
use Rattle.coap_codec.specs.Refused.{ascends, is_short, Refused}
use Rattle.coap_codec.specs.declared.encoder.Refusal.{Refusal}
use Rattle.coap_codec.specs.declared.encoder.Refusal.TheVariants.{NoRoom, OptionOrder, OptionTooLong, EmptyNotBare}
use Rattle.coap_codec.proofs.Spellings.OneSpelling.{one_spelling}

pub Ext-most : (n nibble : ℕ) (more : List ℕ) → Ext n nibble more → n ≤ 65804
Ext-most n nibble [] p = omega arith
Ext-most n nibble (b ∷ []) p = omega arith
Ext-most n nibble (a ∷ b ∷ []) p = omega arith
Ext-most n nibble (a ∷ b ∷ c ∷ more) p = absurd p

pub Options-ascends : (options : List CoapOption) (base : ℕ) (bytes : List ℕ) → Options base bytes options
    → ascends base options ≡ true
Options-ascends [] base bytes o = refl
Options-ascends (option ∷ options) base bytes o =
    rw (le-leb base option.number o.3.rises) (Options-ascends options option.number o.1 o.4)

pub Options-short : (options : List CoapOption) (base : ℕ) (bytes : List ℕ) → Options base bytes options
    → list_all is_short options ≡ true
Options-short [] base bytes o = refl
Options-short (option ∷ options) base bytes o =
    let short = Ext-most (length option.value) o.3.len o.3.more_len o.3.value in
    rw (le-leb (length option.value) 65804 short) (Options-short options option.number o.1 o.4)

-- an option takes at least a byte
pub Options-long : (options : List CoapOption) (base : ℕ) (bytes : List ℕ) → Options base bytes options
    → length options ≤ length bytes
Options-long [] base bytes o = omega arith
Options-long (option ∷ options) base bytes o =
    let rest = Options-long options option.number o.1 o.4 in
    let parts = ap length o.2 ∙ length-append o.0 o.1 in
    let first = ap length o.3.parts in
    omega arith

pub marked-long : (payload : List ℕ) → length payload ≤ length (marked payload)
marked-long [] = omega arith
marked-long (b ∷ bytes) = omega arith

pub refused_unspelled : (r : Refusal) (m : Message) (room : ℕ) → Refused r m room → (bytes : List ℕ) → Spells bytes m
    → length bytes ≤ room → ⊥
refused_unspelled EmptyNotBare m room h bytes s fits =
    let four = s.empty h.0 in
    let options = Options-long m.options 0 s.option_bytes s.options in
    let payload = marked-long m.payload in
    let whole = ap length s.parts in
    omega (
      arith,
      length-append m.token (s.option_bytes ++ marked m.payload),
      length-append s.option_bytes (marked m.payload),
    )
refused_unspelled OptionOrder m room h bytes s fits = let order =
    Options-ascends m.options 0 s.option_bytes s.options in let no = h.1 in absurd cc
refused_unspelled OptionTooLong m room h bytes s fits = let short =
    Options-short m.options 0 s.option_bytes s.options in let no = h.2 in absurd cc
refused_unspelled NoRoom m room h bytes s fits = let same =
    ap length (one_spelling m bytes h.0 s h.1) in omega (arith, h.2)
