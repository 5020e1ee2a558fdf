-- Fields of bytes: a number that stands at a place, and the bytes of a number.
use Rattle.std.specs.Prelude.{ℕ, ◌+◌, List, [], ◌∷◌, slice_index}
use Rattle.std.specs.Int.{w16, w32, from_be_bytes, from_le_bytes, to_be_bytes, to_le_bytes}
use Rattle.coap_pcap.specs.declared.fields.Order.{Order}
use Rattle.coap_pcap.specs.declared.fields.Order.TheVariants.{Little, Big}

-- the number of 16 bits that stands at a place, in this byte order; and the one of 32 bits
unfoldable pub half_at : Order → List ℕ → ℕ → ℕ
half_at Little bytes at = from_le_bytes w16 (slice_index bytes at ∷ slice_index bytes (at + 1) ∷ [])
half_at Big bytes at = from_be_bytes w16 (slice_index bytes at ∷ slice_index bytes (at + 1) ∷ [])

abbrev pub four_at : List ℕ → ℕ → List ℕ
four_at bytes at =
    slice_index bytes at ∷ slice_index bytes (at + 1) ∷ slice_index bytes (at + 2) ∷ slice_index bytes (at + 3) ∷ []

unfoldable pub word_at : Order → List ℕ → ℕ → ℕ
word_at Little bytes at = from_le_bytes w32 (four_at bytes at)
word_at Big bytes at = from_be_bytes w32 (four_at bytes at)

-- the bytes of a number of 16 bits, the highest first; of one of 16 and of 32 bits, the lowest first
abbrev pub half : ℕ → List ℕ
half n = to_be_bytes w16 n

abbrev pub low_half : ℕ → List ℕ
low_half n = to_le_bytes w16 n

abbrev pub low_word : ℕ → List ℕ
low_word n = to_le_bytes w32 n
