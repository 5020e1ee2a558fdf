-- A datagram in words.
use Rattle.std.specs.Prelude.{ℕ, ◌+◌, ◌/◌, ◌%◌, ◌^◌, Bool, ◌&&◌, ◌==◌, not, List, [], ◌∷◌, ◌++◌, codes, decimal, length}
use Rattle.std.specs.Prelude.{Option, Some, None, Result, Ok, Err, if◌then◌else◌}
use Rattle.std.specs.Int.{w16, to_be_bytes}
use Rattle.std.specs.List.{filter, flat_map}
use Rattle.hex.specs.Hex.{encode_lower}
use Rattle.coap_codec.specs.Decoded.{decoded}
use Rattle.coap_codec.specs.Faulty.{reason_name, reason_number}
use Rattle.coap_codec.specs.Message.{Message}
use Rattle.coap_codec.specs.declared.fault.Reason.{Reason}
use Rattle.coap_types.specs.BlockValue.{block_in}
use Rattle.coap_types.specs.CoapOption.{CoapOption}
use Rattle.coap_types.specs.RequestPath.{path_of}
use Rattle.coap_types.specs.Text.{code_text, kind_text}
use Rattle.coap_types.specs.Uint.{uint_value}
use Rattle.coap_types.specs.declared.block.Block.{Block as BlockValue}
use Rattle.coap_types.specs.declared.option_number.TheConstants.{URI_PATH as uri_path}
use Rattle.coap_print.specs.CodeNames.{code_name, is_request_code}
use Rattle.coap_print.specs.OptionNames.{option_form}
use Rattle.coap_print.specs.Segments.{path_text}
use Rattle.coap_print.specs.declared.message_words.Form.{Form}
use Rattle.coap_print.specs.declared.message_words.Form.TheVariants.{Block, Bytes, Number}

-- the text in front, where there is one
abbrev pub behind : List ℕ → Option (List ℕ) → List ℕ
behind front None = []
behind front (Some text) = front ++ text

-- the type, the code, the Message ID and the token (RFC 7252, section 3)
abbrev pub head_text : Message → List ℕ
head_text m =
    kind_text m.kind ++ (codes " " ++ (code_text (record { 0 = m.code }) ++ (codes " "
    ++ (encode_lower (to_be_bytes w16 m.id) ++ (codes " [" ++ (encode_lower m.token ++ codes "]"))))))

-- what the code is called, where it has a name
abbrev pub name_text : ℕ → List ℕ
name_text code = behind (codes " ") (code_name (code / 32) (code % 32))

-- the path of a request
abbrev pub asked_text : Message → List ℕ
asked_text m = if is_request_code m.code then codes " " ++ path_text (path_of m.options) else []

-- bytes in hex, where there are any
abbrev pub bytes_text : List ℕ → List ℕ
bytes_text [] = []
bytes_text (byte ∷ bytes) = codes " " ++ encode_lower (byte ∷ bytes)

-- a number, or the bytes that are none (RFC 7252, section 3.2)
abbrev pub number_text : Option ℕ → List ℕ → List ℕ
number_text None value = bytes_text value
number_text (Some number) value = codes " " ++ decimal number

-- a block as NUM/M/size, or the bytes that are none (RFC 7959, section 3)
abbrev pub block_text : Option BlockValue → List ℕ → List ℕ
block_text None value = bytes_text value
block_text (Some block) value =
    codes " " ++ (decimal block.num ++ (codes "/" ++ (decimal (if block.more then 1 else 0)
    ++ (codes "/" ++ decimal (2 ^ (block.szx + 4))))))

-- the value of an option
abbrev pub value_text : Form → List ℕ → List ℕ
value_text Bytes value = bytes_text value
value_text Number value = number_text (uint_value value) value
value_text Block value = block_text (block_in value) value

-- the name of an option and its value; the number and the bytes of one that has no name here
abbrev pub named_text : Option (List ℕ × Form) → CoapOption → List ℕ
named_text None option = codes "option " ++ (decimal option.number ++ bytes_text option.value)
named_text (Some row) option = row.0 ++ value_text row.1 option.value

abbrev pub option_text : CoapOption → List ℕ
option_text option = codes ", " ++ named_text (option_form option.number) option

-- it stands among the options: it is none of the path of a request
abbrev pub is_listed : ℕ → CoapOption → Bool
is_listed code option = not (is_request_code code && option.number == uri_path)

abbrev pub options_text : ℕ → List CoapOption → List ℕ
options_text code options = flat_map option_text (filter (is_listed code) options)

-- how many bytes a payload has, where it has any
abbrev pub length_text : ℕ → List ℕ
length_text len = if len == 0 then [] else codes ", " ++ (decimal len ++ codes " B")

abbrev pub message_text : Message → List ℕ
message_text m =
    head_text m ++ (name_text m.code ++ (asked_text m ++ (options_text m.code m.options
    ++ length_text (length m.payload))))

-- the number of the reason, its name and the place
abbrev pub fault_text : Reason → ℕ → List ℕ
fault_text reason at =
    codes "fault " ++ (decimal (reason_number reason) ++ (codes " " ++ (reason_name reason
    ++ (codes " at " ++ decimal at))))

-- the message that is read, or the first fault
abbrev pub read_text : Result Message (Reason × ℕ) → List ℕ
read_text (Ok m) = message_text m
read_text (Err fault) = fault_text fault.0 fault.1

abbrev pub datagram_text : List ℕ → List ℕ
datagram_text bytes = read_text (decoded bytes)
