-- What a response of a server carries (RFC 7252, sections 3.2 and 5.10; RFC 7641, section 2; RFC 7959, section 2.1).
use Rattle.std.specs.Prelude.{ℕ, Option, [], ◌++◌}
use Rattle.coap_types.specs.OptionValues.{option_with, uint_option}
use Rattle.coap_types.specs.declared.option_number.TheConstants.{ETAG as etag, OBSERVE as observe}
use Rattle.coap_types.specs.declared.option_number.TheConstants.{CONTENT_FORMAT as content_format, BLOCK2 as block2}
use Rattle.coap_types.specs.declared.option_number.TheConstants.{BLOCK1 as block1}
use Rattle.coap_resource.specs.ResponseOptions.{block_number}
use Rattle.coap_resource.specs.Serves.{Reply}
use Rattle.coap_exchange.specs.AnswererTrace as E

-- a code, without options and payload
abbrev pub bare : ℕ → E.Response
bare code = record { code = code; options = []; payload = [] }

-- What the store answers, with Observe and Block1 where they are given: ETag, Observe, Content-Format, Block2 and
-- Block1 in the order of their numbers.
abbrev pub response_with : Reply → Option ℕ → Option ℕ → E.Response
response_with reply sequence block = record {
  code = reply.code;
  options =
      option_with etag reply.tag ++ (uint_option observe sequence ++ (uint_option content_format reply.format
      ++ (uint_option block2 (block_number reply.block2) ++ uint_option block1 block)));
  payload = reply.part;
}
