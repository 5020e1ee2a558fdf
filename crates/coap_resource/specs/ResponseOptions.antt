-- The options that say a response, and how large a response is (RFC 7252, sections 3.2, 4.6, 5.10.3 and 5.10.6; RFC
-- 7959, section 2.2).
use Rattle.std.specs.Prelude.{◌≡◌, ◌↔◌, ℕ, ◌^◌, ◌<◌, ◌≤◌, ◌++◌, List, length, Option, Some, None, IfSome}
use Rattle.coap_types.specs.CoapOption.{CoapOption}
use Rattle.coap_types.specs.BlockValue.{block_value}
use Rattle.coap_types.specs.OptionValues.{option_with, uint_option}
use Rattle.coap_types.specs.Piece.{size_of}
use Rattle.coap_types.specs.Roles.{role_of}
use Rattle.coap_types.specs.declared.block.Block.{Block}
use Rattle.coap_types.specs.declared.block.TheConstants.{MAX_NUM as max_num}
use Rattle.coap_types.specs.declared.szx.TheConstants.{MAX_SZX as max_szx}
use Rattle.coap_types.specs.declared.tag.TheConstants.{MAX_TAG_LEN as max_tag_len}
use Rattle.coap_types.specs.Uint.{IsSpelling}
use Rattle.coap_types.specs.declared.role.Role.TheVariants.{Response}
use Rattle.coap_types.specs.declared.option_number.TheConstants as numbers
use Rattle.coap_resource.specs.Serves.{Reply}

-- the value of an option in the uint format, where there is a number: the fewest bytes that spell it
abbrev pub IsUint : Option ℕ → Option (List ℕ) → Type 0
IsUint None None = Unit {0}
IsUint (Some number) (Some bytes) = IsSpelling bytes number
IsUint None (Some bytes) = ⊥
IsUint (Some number) None = ⊥

-- what Block2 says: NUM, M and SZX in one number
abbrev pub block_number : Option Block → Option ℕ
block_number None = None
block_number (Some b) = Some (block_value b)

-- The options are ETag, Content-Format and Block2 in this order, each where the response has it.
pub record Says (reply : Reply) (options : List CoapOption) : Type 0 where
  pub format : Option (List ℕ)
  pub block2 : Option (List ℕ)
  pub format_is : IsUint reply.format format
  pub block2_is : IsUint (block_number reply.block2) block2
  pub list : options ≡ option_with numbers.ETAG reply.tag
      ++ (option_with numbers.CONTENT_FORMAT format ++ option_with numbers.BLOCK2 block2)

-- .. the same as a function
abbrev pub response_options : Reply → List CoapOption
response_options reply =
    option_with numbers.ETAG reply.tag
    ++ (uint_option numbers.CONTENT_FORMAT reply.format ++ uint_option numbers.BLOCK2 (block_number reply.block2))

-- A response has a code of one byte and of a response, and its values have the lengths that the options allow: those of
-- ETag, 2 bytes of Content-Format, 20 bits of NUM. Its payload is at most a block of the largest size.
pub record Fits (reply : Reply) : Type 0 where
  pub role : role_of reply.code ≡ Response
  pub code : reply.code < 2 ^ 8
  pub tag : IfSome reply.tag (λ t. length t ≤ max_tag_len)
  pub format : IfSome reply.format (λ f. f < 2 ^ 16)
  pub block2 : IfSome reply.block2 (λ b. (b.num ≤ max_num) × (b.szx ≤ max_szx))
  pub part : length reply.part ≤ size_of max_szx

-- Such a response says its options in one way.
abbrev pub SaysOneWay : Type 0
SaysOneWay = (reply : Reply) (options : List CoapOption) → Fits reply
    → Says reply options ↔ (options ≡ response_options reply)
