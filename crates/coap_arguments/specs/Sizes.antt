-- The sizes of blocks, by their exponents less 4 (RFC 7959, section 2.2).
use Rattle.std.specs.Prelude.{ℕ, List, [], ◌∷◌, ◌≡◌, ◌⊎◌, None, Some, codes, slice_get}
use Rattle.clap.specs.Words.{Row, Text, first_of}
use Rattle.coap_types.specs.declared.szx.TheConstants.{MAX_SZX as max_szx}
use Rattle.coap_arguments.specs.Values.{IsValue}

abbrev pub sizes : List Text
sizes = codes "16" ∷ codes "32" ∷ codes "64" ∷ codes "128" ∷ codes "256" ∷ codes "512" ∷ codes "1024" ∷ []

-- `--size` has this size, or is left out and stands for the greatest
abbrev pub HasSize : List Row → ℕ → Type 0
HasSize values szx = ((first_of (codes "size") values ≡ None) × (szx ≡ max_szx))
    ⊎ ((text : Text) × IsValue (codes "size") values text × (slice_get sizes szx ≡ Some text))

-- `--size` has a value that is none
abbrev pub HasNoSize : List Row → Type 0
HasNoSize values = (text : Text) × IsValue (codes "size") values text
    × ((szx : ℕ) → slice_get sizes szx ≡ Some text → ⊥)
