-- What is written of a datagram is shown, and no command to a terminal.
use Rattle.std.proofs.Common.{◌≡◌, ◌++◌, ◌∷◌, [], ℕ, ◌+◌, ◌/◌, ◌%◌, ◌^◌, List, Bool, true, false, ◌==◌}
use Rattle.std.proofs.Common.{length, map, refl, ap, subst, arith, All, codes, decimal, if◌then◌else◌, Option, Some}
use Rattle.std.proofs.Common.{None, Result, Ok, Err}
use Rattle.std.proofs.lemmas.Bool.{and_parts}
use Rattle.std.proofs.lemmas.List.Elements.{All-cons, All-head, All-nil, All-tail}
use Rattle.std.specs.Int.{byte_at, to_be_bytes, w16}
use Rattle.std.specs.List.{filter, flat_map, list_all}
use Rattle.hex.specs.Hex.{encode_lower}
use Rattle.coap_codec.specs.Decoded.{decoded}
use Rattle.coap_codec.specs.Faulty.{reason_name, reason_number}
use Rattle.coap_codec.specs.Laws.{MessageIsDecoded}
use Rattle.coap_codec.specs.Message.{Message}
use Rattle.coap_codec.specs.OfBytes.{BytesSpellBytes, IsOfBytes}
use Rattle.coap_codec.specs.declared.fault.Reason.{Reason}
use Rattle.coap_codec.specs.declared.fault.Reason.TheVariants.{Short, Version, TokenLength, TokenCut, EmptyNotBare}
use Rattle.coap_codec.specs.declared.fault.Reason.TheVariants.{DeltaReserved, LengthReserved, OptionCut, NumberTooLarge}
use Rattle.coap_codec.specs.declared.fault.Reason.TheVariants.{NoPayload}
use Rattle.coap_types.specs.BlockValue.{block_in}
use Rattle.coap_types.specs.Bytes.{AreBytes}
use Rattle.coap_types.specs.CoapOption.{CoapOption}
use Rattle.coap_types.specs.RequestPath.{path_of}
use Rattle.coap_types.specs.Text.{code_text, kind_text}
use Rattle.coap_types.specs.Uint.{uint_value}
use Rattle.coap_types.specs.declared.block.Block.{Block as BlockValue}
use Rattle.coap_types.specs.declared.message.Kind.{Kind}
use Rattle.coap_types.specs.declared.message.Kind.TheVariants.{Con, Non, Ack, Rst}
use Rattle.coap_types.specs.declared.option_number.TheConstants.{URI_PATH}
use Rattle.coap_types.proofs.Facts.Bytes.{AreBytes-cons, AreBytes-nil}
use Rattle.coap_print.specs.CodeNames.{client_error_names, is_request_code, name_at, names_of, request_names}
use Rattle.coap_print.specs.CodeNames.{server_error_names, success_names}
use Rattle.coap_print.specs.Datagrams.{asked_text, behind, block_text, bytes_text, datagram_text, fault_text, head_text}
use Rattle.coap_print.specs.Datagrams.{is_listed, length_text, message_text, name_text, named_text, number_text}
use Rattle.coap_print.specs.Datagrams.{option_text}
use Rattle.coap_print.specs.Datagrams.{options_text, read_text, value_text}
use Rattle.coap_print.specs.OptionNames.{option_form, option_rows, row_of}
use Rattle.coap_print.specs.Printable.{AreShown}
use Rattle.coap_print.specs.Segments.{path_text}
use Rattle.coap_print.specs.declared.message_words.Form.{Form}
use Rattle.coap_print.specs.declared.message_words.Form.TheVariants.{Block, Bytes, Number}
use Rattle.coap_print.proofs.Shown.{are_shown, both_shown, decimal_shown, either_shown, none_shown, printable_shown}
use Rattle.coap_print.proofs.Shown.{tested_shown}
use Rattle.coap_print.proofs.WrittenHex.{hex_printable}
use Rattle.coap_print.proofs.WrittenPaths.{path_printable}

hex_shown : (bytes : List ℕ) → AreBytes bytes → AreShown (encode_lower bytes)
hex_shown bytes are = printable_shown (encode_lower bytes) (hex_printable bytes are)

-- bytes behind some words
pub bytes_shown : (bytes : List ℕ) → AreBytes bytes → AreShown (bytes_text bytes)
bytes_shown [] are = none_shown
bytes_shown (b ∷ bs) are =
    both_shown (codes " ") (encode_lower (b ∷ bs)) (tested_shown (codes " ") refl) (hex_shown (b ∷ bs) are)

kind_shown : (kind : Kind) → AreShown (kind_text kind)
kind_shown Con = tested_shown (codes "CON") refl
kind_shown Non = tested_shown (codes "NON") refl
kind_shown Ack = tested_shown (codes "ACK") refl
kind_shown Rst = tested_shown (codes "RST") refl

-- words in front of what is shown
words : (front : List ℕ) → are_shown front ≡ true → (rest : List ℕ) → AreShown rest → AreShown (front ++ rest)
words front is rest are = both_shown front rest (tested_shown front is) are

-- .. and a number
number : (n : ℕ) (rest : List ℕ) → AreShown rest → AreShown (decimal n ++ rest)
number n rest are = both_shown (decimal n) rest (decimal_shown n) are

code_shown : (code : ℕ) → AreShown (code_text (record { 0 = code }))
code_shown code =
    let point : List ℕ = decimal (code / 32) ++ codes "." in
    let tens : List ℕ = point ++ decimal (code % 32 / 10) in
    both_shown tens (decimal (code % 32 % 10))
    (both_shown point (decimal (code % 32 / 10)) (number (code / 32) (codes ".") (tested_shown (codes ".") refl))
    (decimal_shown (code % 32 / 10)))
    (decimal_shown (code % 32 % 10))

id_bytes : (id : ℕ) → AreBytes (to_be_bytes w16 id)
id_bytes id =
    AreBytes-cons (byte_at 1 id) (byte_at 0 id ∷ []) (omega arith)
    (AreBytes-cons (byte_at 0 id) [] (omega arith) AreBytes-nil)

head_shown : (m : Message) → AreBytes m.token → AreShown (head_text m)
head_shown m are =
    let kind : List ℕ = kind_text m.kind in
    let code : List ℕ = code_text (record { 0 = m.code }) in
    let id : List ℕ = encode_lower (to_be_bytes w16 m.id) in
    let token : List ℕ = encode_lower m.token ++ codes "]" in
    let a : AreShown token = both_shown (encode_lower m.token) (codes "]") (hex_shown m.token are)
    (tested_shown (codes "]") refl) in
    let opened : List ℕ = codes " [" ++ token in
    let from_id : List ℕ = id ++ opened in
    let from_code : List ℕ = code ++ (codes " " ++ from_id) in
    let b : AreShown from_id = both_shown id opened (hex_shown (to_be_bytes w16 m.id) (id_bytes m.id))
    (words (codes " [") refl token a) in
    let c : AreShown from_code = both_shown code (codes " " ++ from_id) (code_shown m.code)
    (words (codes " ") refl from_id b) in
    both_shown kind (codes " " ++ from_code) (kind_shown m.kind) (words (codes " ") refl from_code c)

-- each name is shown
abbrev names_shown : List (ℕ × List ℕ) → Bool
names_shown rows = list_all (λ row. are_shown row.1) rows

here_or_behind : (b : Bool) (name : List ℕ) (more : Option (List ℕ)) → AreShown (codes " " ++ name)
    → AreShown (behind (codes " ") more) → AreShown (behind (codes " ") (if b then Some name else more))
here_or_behind true name more one other = one
here_or_behind false name more one other = other

name_at_shown : (rows : List (ℕ × List ℕ)) (detail : ℕ) → names_shown rows ≡ true
    → AreShown (behind (codes " ") (name_at rows detail))
name_at_shown [] detail all = none_shown
name_at_shown (row ∷ rows) detail all =
    let parts = and_parts (are_shown row.1) (names_shown rows) all in
    here_or_behind (row.0 == detail) row.1 (name_at rows detail)
    (words (codes " ") refl row.1 (tested_shown row.1 parts.0))
    (name_at_shown rows detail parts.1)

either_named : (b : Bool) (x y : List (ℕ × List ℕ)) → names_shown x ≡ true → names_shown y ≡ true
    → names_shown (if b then x else y) ≡ true
either_named true x y one other = one
either_named false x y one other = other

named : (class : ℕ) → names_shown (names_of class) ≡ true
named class =
    either_named (class == 0) request_names _ refl
    (either_named (class == 2) success_names _ refl
    (either_named (class == 4) client_error_names _ refl (either_named (class == 5) server_error_names [] refl refl)))

name_shown : (code : ℕ) → AreShown (name_text code)
name_shown code = name_at_shown (names_of (code / 32)) (code % 32) (named (code / 32))

asked_shown : (m : Message) → All AreBytes (path_of m.options) → AreShown (asked_text m)
asked_shown m are =
    either_shown (is_request_code m.code) (codes " " ++ path_text (path_of m.options)) []
    (words (codes " ") refl (path_text (path_of m.options))
    (printable_shown (path_text (path_of m.options)) (path_printable (path_of m.options) are)))
    none_shown

if_of_path : (b : Bool) (o : CoapOption) (os : List CoapOption) → AreBytes o.value → All AreBytes (path_of os)
    → All AreBytes (map (λ (x : CoapOption). x.value)
    (if b then o ∷ filter (λ x. x.number == URI_PATH) os else filter (λ x. x.number == URI_PATH) os))
if_of_path true o os here rest = All-cons AreBytes o.value (path_of os) here rest
if_of_path false o os here rest = rest

path_bytes : (os : List CoapOption) → All (λ o. AreBytes o.value) os → All AreBytes (path_of os)
path_bytes [] are = All-nil AreBytes
path_bytes (o ∷ os) are =
    if_of_path (o.number == URI_PATH) o os (All-head (λ (x : CoapOption). AreBytes x.value) o os are)
    (path_bytes os (All-tail (λ (x : CoapOption). AreBytes x.value) o os are))

number_shown : (number : Option ℕ) (value : List ℕ) → AreBytes value → AreShown (number_text number value)
number_shown None value are = bytes_shown value are
number_shown (Some n) value are = both_shown (codes " ") (decimal n) (tested_shown (codes " ") refl) (decimal_shown n)

block_shown : (block : Option BlockValue) (value : List ℕ) → AreBytes value → AreShown (block_text block value)
block_shown None value are = bytes_shown value are
block_shown (Some b) value are =
    let size : List ℕ = decimal (2 ^ (b.szx + 4)) in
    let more : List ℕ = decimal (if b.more then 1 else 0) ++ (codes "/" ++ size) in
    words (codes " ") refl (decimal b.num ++ (codes "/" ++ more))
    (number b.num (codes "/" ++ more) (words (codes "/") refl more
    (number (if b.more then 1 else 0) (codes "/" ++ size)
    (words (codes "/") refl size (decimal_shown (2 ^ (b.szx + 4)))))))

value_shown : (form : Form) (value : List ℕ) → AreBytes value → AreShown (value_text form value)
value_shown Bytes value are = bytes_shown value are
value_shown Number value are = number_shown (uint_value value) value are
value_shown Block value are = block_shown (block_in value) value are

-- each option has a name that is shown
abbrev options_named : List (ℕ × List ℕ × Form) → Bool
options_named rows = list_all (λ row. are_shown row.1) rows

named_option_shown : (row : Option (List ℕ × Form)) (o : CoapOption) → AreBytes o.value
    → ((x : List ℕ × Form) → row ≡ Some x → AreShown x.0) → AreShown (named_text row o)
named_option_shown None o are name =
    words (codes "option ") refl (decimal o.number ++ bytes_text o.value)
    (number o.number (bytes_text o.value) (bytes_shown o.value are))
named_option_shown (Some row) o are name =
    both_shown row.0 (value_text row.1 o.value) (name row refl) (value_shown row.1 o.value are)

abbrev name_or_none : Option (List ℕ × Form) → List ℕ
name_or_none None = []
name_or_none (Some x) = x.0

row_shown : (rows : List (ℕ × List ℕ × Form)) (n : ℕ) → options_named rows ≡ true → (x : List ℕ × Form)
    → row_of rows n ≡ Some x → AreShown x.0
row_shown [] n all x is = absurd (cc is)
row_shown (row ∷ rows) n all x is =
    let parts = and_parts (are_shown row.1) (options_named rows) all in
    elim (row.0 == n) as (λ b. (if b then Some (row.1, row.2) else row_of rows n) ≡ Some x → AreShown x.0) [
      | true ↦ λ here. subst AreShown (ap name_or_none here) (tested_shown row.1 parts.0)
      | false ↦ λ there. row_shown rows n parts.1 x there
    ] is

option_shown : (o : CoapOption) → AreBytes o.value → AreShown (option_text o)
option_shown o are =
    words (codes ", ") refl (named_text (option_form o.number) o)
    (named_option_shown (option_form o.number) o are (row_shown option_rows o.number refl))

if_listed : (b : Bool) (o : CoapOption) (os : List CoapOption) → AreShown (option_text o)
    → AreShown (flat_map option_text os) → AreShown (flat_map option_text (if b then o ∷ os else os))
if_listed true o os here rest = both_shown (option_text o) (flat_map option_text os) here rest
if_listed false o os here rest = rest

options_shown : (code : ℕ) (os : List CoapOption) → All (λ o. AreBytes o.value) os → AreShown (options_text code os)
options_shown code [] are = none_shown
options_shown code (o ∷ os) are =
    if_listed (is_listed code o) o (filter (is_listed code) os)
    (option_shown o (All-head (λ (x : CoapOption). AreBytes x.value) o os are))
    (options_shown code os (All-tail (λ (x : CoapOption). AreBytes x.value) o os are))

length_shown : (len : ℕ) → AreShown (length_text len)
length_shown len =
    either_shown (len == 0) [] (codes ", " ++ decimal len ++ codes " B") none_shown
    (words (codes ", ") refl (decimal len ++ codes " B") (number len (codes " B") (tested_shown (codes " B") refl)))

message_shown : (m : Message) → IsOfBytes m → AreShown (message_text m)
message_shown m is =
    let len : List ℕ = length_text (length m.payload) in
    let options : List ℕ = options_text m.code m.options in
    both_shown (head_text m) (name_text m.code ++ (asked_text m ++ (options ++ len))) (head_shown m is.token)
    (both_shown (name_text m.code) (asked_text m ++ (options ++ len)) (name_shown m.code)
    (both_shown (asked_text m) (options ++ len) (asked_shown m (path_bytes m.options is.values))
    (both_shown options len (options_shown m.code m.options is.values) (length_shown (length m.payload)))))

reason_shown : (reason : Reason) → are_shown (reason_name reason) ≡ true
reason_shown Short = refl
reason_shown Version = refl
reason_shown TokenLength = refl
reason_shown TokenCut = refl
reason_shown EmptyNotBare = refl
reason_shown DeltaReserved = refl
reason_shown LengthReserved = refl
reason_shown OptionCut = refl
reason_shown NumberTooLarge = refl
reason_shown NoPayload = refl

fault_shown : (reason : Reason) (at : ℕ) → AreShown (fault_text reason at)
fault_shown reason at =
    let place : List ℕ = codes " at " ++ decimal at in
    words (codes "fault ") refl (decimal (reason_number reason) ++ (codes " " ++ (reason_name reason ++ place)))
    (number (reason_number reason) (codes " " ++ (reason_name reason ++ place))
    (words (codes " ") refl (reason_name reason ++ place)
    (words (reason_name reason) (reason_shown reason) place
    (words (codes " at ") refl (decimal at) (decimal_shown at)))))

read_shown : (read : Result Message (Reason × ℕ)) → ((m : Message) → read ≡ Ok m → IsOfBytes m)
    → AreShown (read_text read)
read_shown (Ok m) is = message_shown m (is m refl)
read_shown (Err fault) is = fault_shown fault.0 fault.1

pub datagram_shown : MessageIsDecoded → BytesSpellBytes → (bytes : List ℕ) → AreBytes bytes
    → AreShown (datagram_text bytes)
datagram_shown is of bytes are =
    read_shown (decoded bytes) (λ m read. of bytes m ((is bytes m are).0 read) are)
