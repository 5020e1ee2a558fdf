-- The one spelling of a message (RFC 7252, section 3). `spelling_law` says that these bytes spell it, and no others.
use Rattle.std.specs.Prelude.{ℕ, ◌+◌, ◌-◌, ◌*◌, nat_lt, if◌then◌else◌, List, [], ◌∷◌, ◌++◌, length}
use Rattle.byteorder.specs.Endian.{big_bytes}
use Rattle.coap_types.specs.CoapOption.{CoapOption}
use Rattle.coap_codec.specs.Message.{Message, header, marked}

-- the nibble of a number
abbrev pub nibble : ℕ → ℕ
nibble n = if nat_lt n 13 then n else if nat_lt n 269 then 13 else 14

-- the bytes that extend it
abbrev pub more : ℕ → List ℕ
more n = if nat_lt n 13 then [] else if nat_lt n 269 then (n - 13) ∷ [] else big_bytes 2 (n - 269)

-- an option behind one of number base
unfoldable pub option_bytes : ℕ → CoapOption → List ℕ
option_bytes base option =
    (nibble (option.number - base) * 16 + nibble (length option.value)) ∷
    (more (option.number - base) ++ (more (length option.value) ++ option.value))

-- options, the first behind one of number base
unfoldable pub options_bytes : ℕ → List CoapOption → List ℕ
options_bytes base [] = []
options_bytes base (option ∷ options) = option_bytes base option ++ options_bytes option.number options

-- the bytes of a message
abbrev pub message_bytes : Message → List ℕ
message_bytes m = header m ++ (m.token ++ (options_bytes 0 m.options ++ marked m.payload))
