-- The word and the base that an end begins with: chosen, or drawn.
use Rattle.std.specs.Prelude.{◌≡◌, ⊤, ℕ, List}
use Rattle.std.specs.Int.{from_le_bytes, w64}
use Rattle.coap_resource.specs.Base.{IsBase, base_of_word}
use Rattle.coap_arguments.specs.declared.orders.WordChoice.{WordChoice}
use Rattle.coap_arguments.specs.declared.orders.WordChoice.TheVariants.{Given, Random}
use Rattle.coap_wires.specs.declared.word.Origin.{Origin}

-- the word that is chosen; a random one may be any
abbrev pub IsWord : WordChoice → ℕ → Type 0
IsWord (Given n) word = word ≡ n
IsWord Random word = ⊤

-- what random bytes are (`draws` says of a source which it may give), as a word: the first byte is the least
abbrev pub IsRandom : (draws : List ℕ → Type 0) → ℕ → Type 0
IsRandom draws word = (bytes : List ℕ) × draws bytes × (word ≡ from_le_bytes w64 bytes)

-- .. where none is given
abbrev pub IsDrawnWord : (draws : List ℕ → Type 0) → WordChoice → ℕ → Type 0
IsDrawnWord draws (Given n) word = word ≡ n
IsDrawnWord draws Random word = IsRandom draws word

-- the version after which a server's versions begin: with a word that is given 0, as each time; else one that is drawn
abbrev pub IsBaseOf : WordChoice → ℕ → Type 0
IsBaseOf (Given n) base = base ≡ 0
IsBaseOf Random base = IsBase base

-- .. chosen by such a word
abbrev pub IsDrawnBase : (draws : List ℕ → Type 0) → WordChoice → ℕ → Type 0
IsDrawnBase draws (Given n) base = base ≡ 0
IsDrawnBase draws Random base = (word : ℕ) × IsRandom draws word × (base ≡ base_of_word word)

-- what a server begins with
abbrev pub IsOrigin : WordChoice → Origin → Type 0
IsOrigin choice origin = IsWord choice origin.word × IsBaseOf choice origin.base

-- .. where that is drawn
abbrev pub IsDrawnOrigin : (draws : List ℕ → Type 0) → WordChoice → Origin → Type 0
IsDrawnOrigin draws choice origin =
    IsOrigin choice origin × IsDrawnWord draws choice origin.word × IsDrawnBase draws choice origin.base
