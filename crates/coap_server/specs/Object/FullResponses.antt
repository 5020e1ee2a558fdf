-- What a response of a server says, by the values of its options (RFC 7252, section 5.10; RFC 7641, section 2; RFC
-- 7959, section 2.1).
use Rattle.std.specs.Prelude.{ℕ, Option, List, ◌++◌}
use Rattle.coap_types.specs.OptionValues.{option_with}
use Rattle.coap_types.specs.declared.option_number.TheConstants.{ETAG as etag, OBSERVE as observe}
use Rattle.coap_types.specs.declared.option_number.TheConstants.{CONTENT_FORMAT as content_format, BLOCK2 as block2}
use Rattle.coap_types.specs.declared.option_number.TheConstants.{BLOCK1 as block1}
use Rattle.coap_exchange.specs.AnswererTrace.{Response}

-- ETag, Observe, Content-Format, Block2 and Block1, each where it has a value
abbrev pub response_as : ℕ → (tag sequence format part_block whole_block : Option (List ℕ)) → List ℕ → Response
response_as code tag sequence format part_block whole_block payload = record {
  code = code;
  options =
      option_with etag tag ++ (option_with observe sequence
      ++ (option_with content_format format ++ (option_with block2 part_block ++ option_with block1 whole_block)));
  payload = payload;
}
