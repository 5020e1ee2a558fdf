-- The options that are recognised, by their numbers (RFC 7252, section 5.10, table 4; RFC 7641, section 2; RFC 7959,
-- sections 2.1 and 4).
use Rattle.std.specs.Prelude.{ℕ, Option, Some, None, List, [], ◌∷◌, ◌==◌, if◌then◌else◌}
use Rattle.coap_types.specs.declared.option_number.TheConstants.{IF_MATCH as if_match, URI_HOST as uri_host}
use Rattle.coap_types.specs.declared.option_number.TheConstants.{ETAG as etag, IF_NONE_MATCH as if_none_match}
use Rattle.coap_types.specs.declared.option_number.TheConstants.{OBSERVE as observe, URI_PORT as uri_port}
use Rattle.coap_types.specs.declared.option_number.TheConstants.{URI_PATH as uri_path, CONTENT_FORMAT as content_format}
use Rattle.coap_types.specs.declared.option_number.TheConstants.{ACCEPT as accept, BLOCK2 as block2, BLOCK1 as block1}
use Rattle.coap_types.specs.declared.option_number.TheConstants.{SIZE2 as size2, PROXY_URI as proxy_uri}
use Rattle.coap_types.specs.declared.option_number.TheConstants.{PROXY_SCHEME as proxy_scheme, SIZE1 as size1}
use Rattle.coap_types.specs.declared.option_rule.Rule.{Rule}
use Rattle.coap_types.specs.declared.option_rule.Occurrence.{Occurrence}
use Rattle.coap_types.specs.declared.option_rule.Occurrence.TheVariants.{Never, Once, Repeatable}

-- the fewest and the most bytes, and how often in a request and in a response
abbrev pub rule_of : ℕ → ℕ → Occurrence → Occurrence → Rule
rule_of fewest most in_request in_response =
    record { min_len = fewest; max_len = most; in_request = in_request; in_response = in_response }

-- the table: one line an option
abbrev pub option_table : List (ℕ × Rule)
option_table =
    (if_match, rule_of 0 8 Repeatable Never) ∷
    (uri_host, rule_of 1 255 Once Never) ∷
    (etag, rule_of 1 8 Repeatable Once) ∷
    (if_none_match, rule_of 0 0 Once Never) ∷
    (observe, rule_of 0 3 Once Once) ∷
    (uri_port, rule_of 0 2 Once Never) ∷
    (uri_path, rule_of 0 255 Repeatable Never) ∷
    (content_format, rule_of 0 2 Once Once) ∷
    (accept, rule_of 0 2 Once Never) ∷
    (block2, rule_of 0 3 Once Once) ∷
    (block1, rule_of 0 3 Once Once) ∷
    (size2, rule_of 0 4 Once Once) ∷
    (proxy_uri, rule_of 1 1034 Once Never) ∷
    (proxy_scheme, rule_of 1 255 Once Never) ∷
    (size1, rule_of 0 4 Once Once) ∷
    []

-- the line of a number, if it has one
abbrev pub line_of : ℕ → List (ℕ × Rule) → Option Rule
line_of number [] = None
line_of number (line ∷ lines) = if number == line.0 then Some line.1 else line_of number lines

-- what is recognised of the option of a number; nothing where it is not in the table
abbrev pub option_rule : ℕ → Option Rule
option_rule number = line_of number option_table
