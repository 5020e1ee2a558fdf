-- What the first four bytes of a datagram say, sound or not (RFC 7252, section 3).
use Rattle.std.specs.Prelude.{ℕ, ◌/◌, ◌%◌, ◌==◌, if◌then◌else◌, List, drop, slice_index}
use Rattle.byteorder.specs.Endian.{big_number}
use Rattle.coap_types.specs.declared.message.Kind.{Kind}
use Rattle.coap_types.specs.declared.message.Kind.TheVariants.{Con, Non, Ack, Rst}

-- the version, in the upper two bits of the first byte
abbrev pub version : List ℕ → ℕ
version bytes = slice_index bytes 0 / 64

-- the type, in the next two bits
abbrev pub kind_of : ℕ → Kind
kind_of first = if first / 16 % 4 == 0 then Con else if first / 16 % 4 == 1 then Non else if first / 16 % 4 == 2 then
    Ack else Rst

-- the token length, in the lower four bits
abbrev pub token_length : List ℕ → ℕ
token_length bytes = slice_index bytes 0 % 16

-- the code, in the second byte
abbrev pub code : List ℕ → ℕ
code bytes = slice_index bytes 1

-- the Message ID, in the third and fourth byte, most significant first
abbrev pub id_of : List ℕ → ℕ
id_of bytes = big_number 2 (drop 2 bytes)
