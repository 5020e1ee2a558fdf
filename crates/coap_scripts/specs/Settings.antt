-- What a script says of how a server is set up: a setting a line, or nothing.
use Rattle.std.specs.Prelude.{◌≡◌, ◌≢◌, ◌≤◌, ◌<◌, ◌^◌, ◌==◌, ℕ, Bool, true, List, [], ◌∷◌, codes}
use Rattle.coap_types.specs.declared.body_limit.TheConstants.{MAX_BODY_LIMIT as max_body_limit}
use Rattle.coap_scripts.specs.Script.{Begins, NamesPath, SaysPath}
use Rattle.coap_scripts.specs.ScriptWords.{IsCut, SaysNumber}
use Rattle.coap_scripts.specs.declared.script.settings.Setting as S
use Rattle.coap_scripts.specs.declared.script.settings.Setting.TheVariants as setting
use Rattle.coap_scripts.specs.declared.script.setting_words.SettingKind.{SettingKind}
use Rattle.coap_scripts.specs.declared.script.setting_words.SettingKind.TheVariants as kind

-- what a path holds, with its format; how many milliseconds the requests of a path wait; that the observers of a path
-- are
-- told in Non-confirmable messages; the longest body in bytes
pub data Setting : Type 0 where
  Nothing : Setting
  Hold : (path : List (List ℕ)) (format : ℕ) (body : List ℕ) → Setting
  Delay : (path : List (List ℕ)) (ms : ℕ) → Setting
  Plain : (path : List (List ℕ)) → Setting
  Limit : (most : ℕ) → Setting

-- .. as a program has it
module _ {A : Type 0} where
  abbrev pub setting_of : S.Setting A → Setting
  setting_of setting.Nothing = Nothing
  setting_of (setting.Hold path format body) = Hold path format body
  setting_of (setting.Delay path ms) = Delay path ms
  setting_of (setting.Plain path) = Plain path
  setting_of (setting.Limit most) = Limit most

-- by which word a kind of setting is named
abbrev pub setting_word : SettingKind → List ℕ
setting_word kind.Hold = codes "hold"
setting_word kind.Delay = codes "delay"
setting_word kind.Plain = codes "plain"
setting_word kind.Limit = codes "limit"

-- a line says nothing that is empty, or that begins with `#` (35)
abbrev pub is_comment : List ℕ → Bool
is_comment [] = true
is_comment (b ∷ bs) = b == 35

-- a word, which is a path, and what comes behind the space after it
abbrev pub SaysFront : List (List ℕ) → List ℕ → List ℕ → Type 0
SaysFront path rest line = (word : List ℕ) × IsCut 32 line word rest × (word ≢ []) × NamesPath word path

-- the format of a body, and the body: the bytes behind the space after it
abbrev pub SaysContent : ℕ → List ℕ → List ℕ → Type 0
SaysContent format body line =
    (digits : List ℕ) × IsCut 32 line digits body × SaysNumber digits format × (format < 2 ^ 16)

-- a path, and what it holds
abbrev pub SaysHold : List (List ℕ) → ℕ → List ℕ → List ℕ → Type 0
SaysHold path format body line = (rest : List ℕ) × SaysFront path rest line × SaysContent format body rest

-- a path, and how many milliseconds its requests wait
abbrev pub SaysDelay : List (List ℕ) → ℕ → List ℕ → Type 0
SaysDelay path ms line = (rest : List ℕ) × SaysFront path rest line × SaysNumber rest ms

-- a path that ends the line
abbrev pub SaysPlain : List (List ℕ) → List ℕ → Type 0
SaysPlain path line = SaysPath line path

-- the longest body, in bytes
abbrev pub SaysLimit : ℕ → List ℕ → Type 0
SaysLimit most line = SaysNumber line most × (1 ≤ most) × (most ≤ max_body_limit)

-- A line says a setting: its word, a space, and what that needs.
abbrev pub SaysSetting : Setting → List ℕ → Type 0
SaysSetting Nothing line = is_comment line ≡ true
SaysSetting (Hold path format body) line = Begins (setting_word kind.Hold) (SaysHold path format body) line
SaysSetting (Delay path ms) line = Begins (setting_word kind.Delay) (SaysDelay path ms) line
SaysSetting (Plain path) line = Begins (setting_word kind.Plain) (SaysPlain path) line
SaysSetting (Limit most) line = Begins (setting_word kind.Limit) (SaysLimit most) line

-- it says none
abbrev pub SaysNoSetting : List ℕ → Type 0
SaysNoSetting line = (s : Setting) → SaysSetting s line → ⊥
