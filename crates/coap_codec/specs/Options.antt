-- The options of a message, one after another (RFC 7252, section 3.1).
use Rattle.std.specs.Prelude.{◌≡◌, ℕ, ◌+◌, ◌*◌, ◌-◌, ◌^◌, ◌<◌, ◌≤◌, List, [], ◌∷◌, ◌++◌, length}
use Rattle.coap_types.specs.CoapOption.{CoapOption}
use Rattle.coap_codec.specs.Extension.{Ext}

-- The bytes are one option, behind an option of number base: a byte of two nibbles, the bytes that extend the
-- delta, those that extend the length, and the value. The delta is the number less base; no number is below
-- base, and none above 65535.
pub record IsOption (base : ℕ) (option : CoapOption) (bytes : List ℕ) : Type 0 where
  pub rises : base ≤ option.number
  pub fits : option.number < 2 ^ 16
  pub delta : ℕ
  pub more_delta : List ℕ
  pub len : ℕ
  pub more_len : List ℕ
  pub number : Ext (option.number - base) delta more_delta
  pub value : Ext (length option.value) len more_len
  pub parts : bytes ≡ (delta * 16 + len) ∷ (more_delta ++ (more_len ++ option.value))

-- The bytes are these options in order, the first behind an option of number base.
abbrev pub Options : ℕ → List ℕ → List CoapOption → Type 0
Options base bytes [] = bytes ≡ []
Options base bytes (option ∷ options) =
    (first : List ℕ) × (rest : List ℕ) × (bytes ≡ first ++ rest) × IsOption base option first
    × Options option.number rest options
