-- What is wrong with a datagram that spells no message (RFC 7252, section 3): the first fault from left to right.
use Rattle.std.specs.Prelude.{◌≡◌, ◌≢◌, ℕ, ◌+◌, ◌-◌, ◌/◌, ◌%◌, ◌^◌, ◌<◌, ◌≤◌, ◌⊎◌, ◌==◌, if◌then◌else◌, Option, Some}
use Rattle.std.specs.Prelude.{None, List, [], ◌∷◌, ◌++◌, length, drop, slice_index, codes}
use Rattle.coap_types.specs.CoapOption.{CoapOption}
use Rattle.coap_types.specs.declared.message.Id.{Id}
use Rattle.coap_types.specs.declared.message.Kind.{Kind}
use Rattle.coap_types.specs.declared.message.TheConstants.Code.{EMPTY as empty_code}
use Rattle.coap_codec.specs.Extension.{Ext}
use Rattle.coap_codec.specs.Header.{version, kind_of, token_length, code, id_of}
use Rattle.coap_codec.specs.Options.{Options}
use Rattle.coap_codec.specs.declared.fault.Reason.{Reason}
use Rattle.coap_codec.specs.declared.fault.Reason.TheVariants.{Short, Version, TokenLength, TokenCut, EmptyNotBare}
use Rattle.coap_codec.specs.declared.fault.Reason.TheVariants.{DeltaReserved, LengthReserved, OptionCut, NumberTooLarge}
use Rattle.coap_codec.specs.declared.fault.Reason.TheVariants.{NoPayload}
use Rattle.coap_types.specs.declared.token.TheConstants.{MAX_TOKEN_LEN as max_token_len}

-- how the reasons are counted
abbrev pub reason_number : Reason → ℕ
reason_number Short = 1
reason_number Version = 2
reason_number TokenLength = 3
reason_number TokenCut = 4
reason_number EmptyNotBare = 5
reason_number DeltaReserved = 6
reason_number LengthReserved = 7
reason_number OptionCut = 8
reason_number NumberTooLarge = 9
reason_number NoPayload = 10

-- what they are called in print
abbrev pub reason_name : Reason → List ℕ
reason_name Short = codes "Short"
reason_name Version = codes "Version"
reason_name TokenLength = codes "TokenLength"
reason_name TokenCut = codes "TokenCut"
reason_name EmptyNotBare = codes "EmptyNotBare"
reason_name DeltaReserved = codes "DeltaReserved"
reason_name LengthReserved = codes "LengthReserved"
reason_name OptionCut = codes "OptionCut"
reason_name NumberTooLarge = codes "NumberTooLarge"
reason_name NoPayload = codes "NoPayload"

-- the number of the last option, base where there is none
abbrev pub last_number : ℕ → List CoapOption → ℕ
last_number base [] = base
last_number base (option ∷ options) = last_number option.number options

-- The longest run of whole options in front of the bytes leaves this rest, behind an option of this number.
pub record Leaves (bytes : List ℕ) (number : ℕ) (rest : List ℕ) : Type 0 where
  pub options : List CoapOption
  pub front : List ℕ
  pub run : Options 0 front options
  pub parts : bytes ≡ front ++ rest
  pub last : number ≡ last_number 0 options
  pub longest : (others : List CoapOption) (run left : List ℕ) → Options 0 run others → bytes ≡ run ++ left
      → length run ≤ length front

-- how many bytes extend a nibble
abbrev pub needs : ℕ → ℕ
needs nibble = if nibble == 13 then 1 else if nibble == 14 then 2 else 0

-- Behind an option's first byte, the bytes say this delta and this length, and then this rest is left.
pub record HeadsOption (first : ℕ) (bytes : List ℕ) (delta len : ℕ) (rest : List ℕ) : Type 0 where
  pub more_delta : List ℕ
  pub more_len : List ℕ
  pub number : Ext delta (first / 16) more_delta
  pub value : Ext len (first % 16) more_len
  pub parts : bytes ≡ more_delta ++ (more_len ++ rest)

-- What is wrong with the rest behind the whole options: a delta nibble 15 that is no payload marker; a length nibble
-- 15; an extension or a value that is cut; a number above 65535; a payload marker as the last byte.
abbrev pub BadRest : ℕ → List ℕ → Reason → Type 0
BadRest base (first ∷ bytes) DeltaReserved = (first / 16 ≡ 15) × (first ≢ 255)
BadRest base (first ∷ bytes) LengthReserved = (first % 16 ≡ 15) × (first / 16 ≢ 15)
BadRest base (first ∷ bytes) OptionCut = (first / 16 ≢ 15) × (first % 16 ≢ 15) ×
    ((length bytes < needs (first / 16) + needs (first % 16))
    ⊎ ((delta : ℕ) × (len : ℕ) × (rest : List ℕ) × HeadsOption first bytes delta len rest × (base + delta < 2 ^ 16)
    × (length rest < len)))
BadRest base (first ∷ bytes) NumberTooLarge = (first / 16 ≢ 15) × (first % 16 ≢ 15) ×
    ((delta : ℕ) × (len : ℕ) × (rest : List ℕ) × HeadsOption first bytes delta len rest × (2 ^ 16 ≤ base + delta))
BadRest base (first ∷ bytes) NoPayload = (first ≡ 255) × (bytes ≡ [])
BadRest base _ _ = ⊥

-- The place of a fault in len bytes whose rest begins at p: the end where bytes are missing, else p.
abbrev pub place : Reason → ℕ → ℕ → ℕ
place OptionCut p len = len
place NoPayload p len = len
place _ p len = p

-- The header is sound: four bytes, version 1, a token length of at most 8.
pub record IsHeader (bytes : List ℕ) : Type 0 where
  pub long : 4 ≤ length bytes
  pub version : version bytes ≡ 1
  pub token : token_length bytes ≤ max_token_len

-- The token is there too, and an Empty message has nothing behind its header.
pub record IsFramed (bytes : List ℕ) : Type 0 where
  pub header : IsHeader bytes
  pub bare : code bytes ≡ empty_code.0 → (token_length bytes ≡ 0) × (length bytes ≡ 4)
  pub token : 4 + token_length bytes ≤ length bytes

-- The bytes are faulty for this reason at this place. Each case says what the reasons before it leave.
abbrev pub Faulty : List ℕ → Reason → ℕ → Type 0
Faulty bytes Short at = (length bytes < 4) × (at ≡ length bytes)
Faulty bytes Version at = (4 ≤ length bytes) × (version bytes ≢ 1) × (at ≡ 0)
Faulty bytes TokenLength at = (4 ≤ length bytes) × (version bytes ≡ 1) × (8 < token_length bytes) × (at ≡ 0)
Faulty bytes EmptyNotBare at = IsHeader bytes × (code bytes ≡ empty_code.0)
    × ((token_length bytes ≢ 0) ⊎ (4 < length bytes)) × (at ≡ 4)
Faulty bytes TokenCut at = IsHeader bytes × (code bytes ≢ empty_code.0) × (length bytes < 4 + token_length bytes)
    × (at ≡ length bytes)
Faulty bytes reason at = IsFramed bytes ×
    ((number : ℕ) × (rest : List ℕ) × Leaves (drop (4 + token_length bytes) bytes) number rest
    × BadRest number rest reason
    × (at ≡ place reason (length bytes - length rest) (length bytes)))

-- The type and the Message ID of a faulty datagram, by which it can be rejected (section 4.2): there are none where
-- the header is short or of another version.
abbrev pub head_of : Reason → List ℕ → Option (Kind × Id)
head_of Short bytes = None
head_of Version bytes = None
head_of _ bytes = Some (kind_of (slice_index bytes 0), record { 0 = id_of bytes })
