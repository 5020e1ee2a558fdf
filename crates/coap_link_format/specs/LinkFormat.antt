-- The link format (RFC 6690, section 2), in bytes.
use Rattle.std.specs.Prelude.{◌≡◌, ◌≢◌, ⊤, ℕ, Bool, true, false, ◌==◌, ◌&&◌, ◌||◌, nat_le, List, [], ◌∷◌, ◌++◌}

abbrev pub within : ℕ → ℕ → ℕ → Bool
within low high b = nat_le low b && nat_le b high

-- ---- which bytes stand where

-- A byte of a URI reference: unreserved, reserved, or `%` (RFC 3986, section 2): `!`, `#` to `;`, `=`, `?` to `[`, `]`,
-- `_`, `a` to `z`, `~`
abbrev pub is_target : ℕ → Bool
is_target b = (b == 33) || (within 35 59 b || ((b == 61) || (within 63 91 b || ((b == 93) || ((b == 95)
    || (within 97 122 b || (b == 126)))))))

-- attr-char (RFC 5987, section 3.2.1): `!`, `#`, `$`, `&`, `+`, `-`, `.`, digits, letters, `^`, `_`, `` ` ``, `|`, `~`
abbrev pub is_name : ℕ → Bool
is_name b = (b == 33) || ((b == 35) || ((b == 36) || ((b == 38) || ((b == 43) || ((b == 45) || ((b == 46)
    || (within 48 57 b || (within 65 90 b || (within 94 122 b || ((b == 124) || (b == 126)))))))))))

-- ptokenchar: what is printed, but for the space, `"`, `,`, `;` and `\`
abbrev pub is_token : ℕ → Bool
is_token b = (b == 33) || (within 35 43 b || (within 45 58 b || (within 60 91 b || within 93 126 b)))

-- A byte of a quoted string that stands for itself: all but controls, `"` and `\`; a tab is no control here (RFC 7230,
-- section 3.2.6, without which lines could be folded)
abbrev pub is_quoted : ℕ → Bool
is_quoted b = (b == 9) || (within 32 33 b || (within 35 91 b || (within 93 126 b || within 128 255 b)))

-- .. and one that may stand behind a `\`
abbrev pub is_escaped : ℕ → Bool
is_escaped b = (b == 9) || (within 32 126 b || within 128 255 b)

abbrev pub Each : (ℕ → Bool) → List ℕ → Type 0
Each test [] = ⊤
Each test (b ∷ bs) = (test b ≡ true) × Each test bs

-- at least one
abbrev pub Some1 : (ℕ → Bool) → List ℕ → Type 0
Some1 test [] = ⊥
Some1 test (b ∷ bs) = (test b ≡ true) × Each test bs

-- ---- what they spell

-- what stands between the quotes (`"` is 34, `\` 92)
pub data IsQuoted : List ℕ → Type 0 where
  quoted_end : (text : List ℕ) → text ≡ [] → IsQuoted text
  quoted_plain : (text : List ℕ) (b : ℕ) (rest : List ℕ) → is_quoted b ≡ true → IsQuoted rest → text ≡ b ∷ rest
      → IsQuoted text
  quoted_escaped : (text : List ℕ) (b : ℕ) (rest : List ℕ) → is_escaped b ≡ true → IsQuoted rest → text ≡ 92 ∷ b ∷ rest
      → IsQuoted text

-- link-param: a name; `=` (61) and a token or a quoted string, where it has a value; one with a `*` (42) has a token
pub data IsAttribute (text : List ℕ) : Type 0 where
  alone : Some1 is_name text → IsAttribute text
  token : (name value : List ℕ) → Some1 is_name name → Some1 is_token value → text ≡ name ++ 61 ∷ value
      → IsAttribute text
  quoted : (name value : List ℕ) → Some1 is_name name → IsQuoted value → text ≡ name ++ (61 ∷ 34 ∷ value ++ 34 ∷ [])
      → IsAttribute text
  extended : (name value : List ℕ) → Some1 is_name name → Some1 is_token value → text ≡ name ++ 42 ∷ 61 ∷ value
      → IsAttribute text

-- *( ";" link-param )
pub data AreAttributes : List ℕ → Type 0 where
  no_more : (text : List ℕ) → text ≡ [] → AreAttributes text
  one_more : (text : List ℕ) (first rest : List ℕ) → IsAttribute first → AreAttributes rest → text ≡ 59 ∷ first ++ rest
      → AreAttributes text

-- link-value: the target in angle brackets, and attributes
pub record IsLink (text : List ℕ) : Type 0 where
  pub target : List ℕ
  pub attributes : List ℕ
  pub each : Each is_target target
  pub are : AreAttributes attributes
  pub parts : text ≡ 60 ∷ target ++ 62 ∷ attributes

-- link-value-list: a comma (44) stands between two
abbrev pub behind : List (List ℕ) → List ℕ
behind [] = []
behind (link ∷ links) = 44 ∷ link ++ behind links

abbrev pub joined : List (List ℕ) → List ℕ
joined [] = []
joined (link ∷ links) = link ++ behind links

abbrev pub AreLinks : List (List ℕ) → Type 0
AreLinks [] = ⊤
AreLinks (link ∷ links) = IsLink link × AreLinks links

pub record Spells (text : List ℕ) (links : List (List ℕ)) : Type 0 where
  pub each : AreLinks links
  pub joins : text ≡ joined links
