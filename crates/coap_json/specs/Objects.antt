-- An object of a line of JSON: its members in order, and its text (RFC 8259, sections 2, 4, 6 and 7).
use Rattle.std.specs.Prelude.{◌≡◌, ℕ, List, [], ◌∷◌, ◌++◌, codes, decimal, length, Option, Some, None, if◌then◌else◌}
use Rattle.std.specs.Str.{is_utf8}
use Rattle.hex.specs.Hex.{encode_lower}
use Rattle.json.specs.Json.{Json, null, number, string, object, Members, no_members, member, document}
use Rattle.json.specs.Print.{print}
use Rattle.json.specs.Tree.{json_tokens}
use Rattle.std.specs.Io.KnownBytes.{Appends}

-- a member: its name and its value
abbrev pub Field : Type 0
Field = List ℕ × Json

abbrev pub members_of : List Field → Members
members_of [] = no_members
members_of (f ∷ fs) = member f.0 f.1 (members_of fs)

-- the object that has these members, in this order
abbrev pub object_of : List Field → Json
object_of fields = object (members_of fields)

-- a number from 0 on, in decimal
abbrev pub whole : ℕ → Json
whole n = number (decimal n)

-- .. null where there is none
abbrev pub whole_or_null : Option ℕ → Json
whole_or_null None = null
whole_or_null (Some n) = whole n

-- bytes in lower case hex
abbrev pub hex : List ℕ → Json
hex bytes = string (encode_lower bytes)

-- .. null where there are none
abbrev pub hex_or_null : Option (List ℕ) → Json
hex_or_null None = null
hex_or_null (Some bytes) = hex bytes

-- what the bytes are: text where they are UTF-8, and else in hex
abbrev pub content_field : List ℕ → Field
content_field bytes = if is_utf8 bytes then (codes "text", string bytes) else (codes "hex", hex bytes)

-- how many bytes there are, and what they are
abbrev pub bytes_fields : List ℕ → List Field
bytes_fields bytes = (codes "bytes", whole (length bytes)) ∷ content_field bytes ∷ []

-- how each object begins: when, in milliseconds, and what is told
abbrev pub head_fields : ℕ → List ℕ → List Field
head_fields ms name = (codes "ms", whole ms) ∷ (codes "report", string name) ∷ []

-- the object that tells this of a moment
abbrev pub told_object : ℕ → List ℕ → List Field → Json
told_object ms name fields = object_of (head_fields ms name ++ fields)

-- a line: the text of a value, with no space, and the end of the line
abbrev pub line_of : Json → List ℕ
line_of value = print (json_tokens value) ++ 10 ∷ []

-- the line is that of this value, and what is read of its text is the value
pub record IsLineOf (line : List ℕ) (value : Json) : Type 0 where
  pub text : line ≡ line_of value
  pub reads : document (print (json_tokens value)) ≡ Some value

-- the line of an object is written behind what a writer has
abbrev pub WritesObject : (old new : Option (List ℕ)) → Json → Type 0
WritesObject old new value = (line : List ℕ) × IsLineOf line value × Appends old new line
