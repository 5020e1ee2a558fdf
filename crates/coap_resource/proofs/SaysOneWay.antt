-- The options of a response, as the function gives them, are those that say it.
use Rattle.std.proofs.Common.{◌≡◌, ℕ, ◌^◌, ◌<◌, ◌≤◌, ◌++◌, Bool, true, false, Option, Some, None, List, IfSome, refl}
use Rattle.std.proofs.Common.{ap, sym, ◌∙◌, arith}
use Rattle.std.specs.Option.{option_map}
use Rattle.coap_types.specs.BlockValue.{block_value}
use Rattle.coap_types.specs.OptionValues.{option_with, uint_option}
use Rattle.coap_types.specs.Uint.{uint}
use Rattle.coap_types.specs.declared.block.Block.{Block}
use Rattle.coap_types.specs.declared.block.TheConstants.{MAX_NUM as max_num}
use Rattle.coap_types.specs.declared.option_number.TheConstants as numbers
use Rattle.coap_types.specs.declared.szx.TheConstants.{MAX_SZX as max_szx}
use Rattle.coap_types.proofs.Facts.Uints.{one_spelling, uint_spells}
use Rattle.coap_resource.specs.ResponseOptions.{IsUint, SaysOneWay, block_number, response_options}

abbrev IsSmall : Option ℕ → Type 0
IsSmall number = IfSome number (λ n. n < 2 ^ 32)

spelled : (number : Option ℕ) → IsSmall number → IsUint number (option_map uint number)
spelled None small = tt
spelled (Some n) small = uint_spells n small

one_way : (number : Option ℕ) (bytes : Option (List ℕ)) → IsSmall number → IsUint number bytes
    → bytes ≡ option_map uint number
one_way None None small is = refl
one_way (Some n) (Some b) small is = ap (λ (x : List ℕ). Some x) (one_spelling b (uint n) n is (uint_spells n small))
one_way None (Some b) small is = absurd is
one_way (Some n) None small is = absurd is

as_option : (option : ℕ) (number : Option ℕ) → option_with option (option_map uint number) ≡ uint_option option number
as_option option None = refl
as_option option (Some n) = refl

small_format : (format : Option ℕ) → IfSome format (λ f. f < 2 ^ 16) → IsSmall format
small_format None small = tt
small_format (Some f) small = omega (arith, small)

small_value : (num szx : ℕ) (more : Bool) → num ≤ max_num → szx ≤ max_szx
    → block_value (record { num = num; more = more; szx = szx }) < 2 ^ 32
small_value num szx true few least = omega (arith, few, least)
small_value num szx false few least = omega (arith, few, least)

small_block : (block : Option Block) → IfSome block (λ b. (b.num ≤ max_num) × (b.szx ≤ max_szx))
    → IsSmall (block_number block)
small_block None fits = tt
small_block (Some b) fits = small_value b.num b.szx b.more fits.0 fits.1

pub says_one_way : SaysOneWay
says_one_way reply options fits =
    let format = small_format reply.format fits.format in
    let block = small_block reply.block2 fits.block2 in
    let listed : option_with numbers.ETAG reply.tag
    ++ (option_with numbers.CONTENT_FORMAT (option_map uint reply.format)
    ++ option_with numbers.BLOCK2 (option_map uint (block_number reply.block2)))
    ≡ response_options reply =
    ap (λ os. option_with numbers.ETAG reply.tag
    ++ (os ++ option_with numbers.BLOCK2 (option_map uint (block_number reply.block2))))
    (as_option numbers.CONTENT_FORMAT reply.format)
    ∙ ap (λ os. option_with numbers.ETAG reply.tag ++ (uint_option numbers.CONTENT_FORMAT reply.format ++ os))
    (as_option numbers.BLOCK2 (block_number reply.block2)) in (
      λ says.
          says.list
          ∙ (ap (λ b. option_with numbers.ETAG reply.tag
          ++ (option_with numbers.CONTENT_FORMAT b ++ option_with numbers.BLOCK2 says.block2))
          (one_way reply.format says.format format says.format_is)
          ∙ (ap (λ b. option_with numbers.ETAG reply.tag
          ++ (option_with numbers.CONTENT_FORMAT (option_map uint reply.format) ++ option_with numbers.BLOCK2 b))
          (one_way (block_number reply.block2) says.block2 block says.block2_is)
          ∙ listed)),
      λ is. record {
        format = option_map uint reply.format;
        block2 = option_map uint (block_number reply.block2);
        format_is = spelled reply.format format;
        block2_is = spelled (block_number reply.block2) block;
        list = is ∙ sym listed;
      },
    )
