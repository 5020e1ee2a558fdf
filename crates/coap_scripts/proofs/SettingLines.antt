-- A line says one setting at most, and none where its word or what follows is not as it has to be.
use Rattle.std.proofs.Common.{◌≡◌, ◌≢◌, ◌⊎◌, ◌∙◌, ap, sym, refl, subst, ℕ, Bool, true, false, ◌<◌, ◌≤◌, ◌^◌, List}
use Rattle.std.proofs.Common.{[], ◌∷◌}
use Rattle.std.proofs.Common.{◌++◌, ◌+◌, inl, inr, arith, map, length, true≢false}
use Rattle.std.proofs.lemmas.List.Elements.{All-head, All-tail}
use Rattle.coap_types.specs.declared.body_limit.TheConstants.{MAX_BODY_LIMIT as max_body_limit}
use Rattle.coap_arguments.specs.PathText.{IsNoPath}
use Rattle.coap_scripts.specs.Script.{Begins, IsFirstBad, NamesPath, lines_of}
use Rattle.coap_scripts.specs.ScriptRefusals.{of_line}
use Rattle.coap_scripts.specs.ScriptWords.{IsCut, IsWord, Lacks, SaysNumber}
use Rattle.coap_scripts.specs.Settings.{SaysContent, SaysDelay, SaysFront, SaysHold, SaysLimit}
use Rattle.coap_scripts.specs.Settings.{SaysNoSetting, SaysPlain, SaysSetting, Setting, is_comment, setting_word}
use Rattle.coap_scripts.specs.Settings.{Nothing, Hold, Delay, Plain, Limit}
use Rattle.coap_scripts.specs.declared.script.refusal.LineRefusal.{LineRefusal}
use Rattle.coap_scripts.specs.declared.script.refusal.LineRefusal.TheVariants as refusal
use Rattle.coap_scripts.specs.declared.script.setting_words.SettingKind.{SettingKind}
use Rattle.coap_scripts.specs.declared.script.setting_words.SettingKind.TheVariants as kind
use Rattle.coap_scripts.specs.declared.script.refusal.ScriptRefusal.{ScriptRefusal}
use Rattle.coap_scripts.specs.declared.script.refusal.ScriptRefusal.TheVariants as script
use Rattle.coap_scripts.proofs.ScriptLines.{IsFirst, Reads, first_bad}
use Rattle.coap_scripts.proofs.ScriptWords.{cut_has}

-- ---- a text is cut in one way

heads : (a b : ℕ) (s t : List ℕ) → a ∷ s ≡ b ∷ t → a ≡ b
heads a b s t e = cc e

tails : (a b : ℕ) (s t : List ℕ) → a ∷ s ≡ b ∷ t → s ≡ t
tails a b s t e = cc e

cut_same : (byte : ℕ) (first rest other left : List ℕ) → first ++ byte ∷ rest ≡ other ++ byte ∷ left
    → Lacks byte first → Lacks byte other → (first ≡ other) × (rest ≡ left)
cut_same byte [] rest [] left e h k = (refl, tails byte byte rest left e)
cut_same byte [] rest (x ∷ other) left e h k =
    absurd (All-head (λ y. y ≢ byte) x other k (sym (heads byte x rest (other ++ byte ∷ left) e)))
cut_same byte (x ∷ first) rest [] left e h k =
    absurd (All-head (λ y. y ≢ byte) x first h (heads x byte (first ++ byte ∷ rest) left e))
cut_same byte (x ∷ first) rest (y ∷ other) left e h k =
    let so = cut_same byte first rest other left
    (tails x y (first ++ byte ∷ rest) (other ++ byte ∷ left) e)
    (All-tail (λ z. z ≢ byte) x first h) (All-tail (λ z. z ≢ byte) y other k) in
    let front : x ≡ y = heads x y (first ++ byte ∷ rest) (other ++ byte ∷ left) e in
    (cc (front, so.0), so.1)

pub cut_once : (byte : ℕ) (text first rest other left : List ℕ) → IsCut byte text first rest
    → IsCut byte text other left → (first ≡ other) × (rest ≡ left)
cut_once byte text first rest other left a b = cut_same byte first rest other left (sym a.0 ∙ b.0) a.1 b.1

-- ---- a line of a word and a rest

pub begins_so : (line word rest named : List ℕ) (Is : List ℕ → Type 0) → IsCut 32 line word rest → Begins named Is line
    → (word ≡ named) × Is rest
begins_so line word rest named Is cut says =
    let so = cut_once 32 line word rest named says.0 cut says.1 in
    (so.0, subst Is (sym so.1) says.2)

-- what follows the word of this kind says nothing
abbrev pub SaysNone : SettingKind → List ℕ → Type 0
SaysNone kind.Hold rest = (path : List (List ℕ)) (format : ℕ) (body : List ℕ) → SaysHold path format body rest → ⊥
SaysNone kind.Delay rest = (path : List (List ℕ)) (ms : ℕ) → SaysDelay path ms rest → ⊥
SaysNone kind.Plain rest = (path : List (List ℕ)) → SaysPlain path rest → ⊥
SaysNone kind.Limit rest = (most : ℕ) → SaysLimit most rest → ⊥

-- the words differ in their first letters
abbrev first_of : List ℕ → ℕ
first_of [] = 0
first_of (b ∷ bs) = b

-- a setting is of the kind whose word the line begins with
of_kind : (k : SettingKind) (s : Setting) (line word rest : List ℕ) → is_comment line ≡ false → IsCut 32 line word rest
    → word ≡ setting_word k → SaysNone k rest → SaysSetting s line → ⊥
of_kind k Nothing line word rest uncommented cut is none says = true≢false (sym says ∙ uncommented)
of_kind kind.Hold (Hold path format body) line word rest uncommented cut is none says =
    none path format body (begins_so line word rest (setting_word kind.Hold) (SaysHold path format body) cut says).1
of_kind kind.Delay (Hold path format body) line word rest uncommented cut is none says =
    let so = begins_so line word rest (setting_word kind.Hold) (SaysHold path format body) cut says in
    let n : 100 ≡ 104 = ap first_of (sym is ∙ so.0) in absurd (omega (arith, n))
of_kind kind.Plain (Hold path format body) line word rest uncommented cut is none says =
    let so = begins_so line word rest (setting_word kind.Hold) (SaysHold path format body) cut says in
    let n : 112 ≡ 104 = ap first_of (sym is ∙ so.0) in absurd (omega (arith, n))
of_kind kind.Limit (Hold path format body) line word rest uncommented cut is none says =
    let so = begins_so line word rest (setting_word kind.Hold) (SaysHold path format body) cut says in
    let n : 108 ≡ 104 = ap first_of (sym is ∙ so.0) in absurd (omega (arith, n))
of_kind kind.Hold (Delay path ms) line word rest uncommented cut is none says =
    let so = begins_so line word rest (setting_word kind.Delay) (SaysDelay path ms) cut says in
    let n : 104 ≡ 100 = ap first_of (sym is ∙ so.0) in absurd (omega (arith, n))
of_kind kind.Delay (Delay path ms) line word rest uncommented cut is none says =
    none path ms (begins_so line word rest (setting_word kind.Delay) (SaysDelay path ms) cut says).1
of_kind kind.Plain (Delay path ms) line word rest uncommented cut is none says =
    let so = begins_so line word rest (setting_word kind.Delay) (SaysDelay path ms) cut says in
    let n : 112 ≡ 100 = ap first_of (sym is ∙ so.0) in absurd (omega (arith, n))
of_kind kind.Limit (Delay path ms) line word rest uncommented cut is none says =
    let so = begins_so line word rest (setting_word kind.Delay) (SaysDelay path ms) cut says in
    let n : 108 ≡ 100 = ap first_of (sym is ∙ so.0) in absurd (omega (arith, n))
of_kind kind.Hold (Plain path) line word rest uncommented cut is none says =
    let so = begins_so line word rest (setting_word kind.Plain) (SaysPlain path) cut says in
    let n : 104 ≡ 112 = ap first_of (sym is ∙ so.0) in absurd (omega (arith, n))
of_kind kind.Delay (Plain path) line word rest uncommented cut is none says =
    let so = begins_so line word rest (setting_word kind.Plain) (SaysPlain path) cut says in
    let n : 100 ≡ 112 = ap first_of (sym is ∙ so.0) in absurd (omega (arith, n))
of_kind kind.Plain (Plain path) line word rest uncommented cut is none says =
    none path (begins_so line word rest (setting_word kind.Plain) (SaysPlain path) cut says).1
of_kind kind.Limit (Plain path) line word rest uncommented cut is none says =
    let so = begins_so line word rest (setting_word kind.Plain) (SaysPlain path) cut says in
    let n : 108 ≡ 112 = ap first_of (sym is ∙ so.0) in absurd (omega (arith, n))
of_kind kind.Hold (Limit most) line word rest uncommented cut is none says =
    let so = begins_so line word rest (setting_word kind.Limit) (SaysLimit most) cut says in
    let n : 104 ≡ 108 = ap first_of (sym is ∙ so.0) in absurd (omega (arith, n))
of_kind kind.Delay (Limit most) line word rest uncommented cut is none says =
    let so = begins_so line word rest (setting_word kind.Limit) (SaysLimit most) cut says in
    let n : 100 ≡ 108 = ap first_of (sym is ∙ so.0) in absurd (omega (arith, n))
of_kind kind.Plain (Limit most) line word rest uncommented cut is none says =
    let so = begins_so line word rest (setting_word kind.Limit) (SaysLimit most) cut says in
    let n : 112 ≡ 108 = ap first_of (sym is ∙ so.0) in absurd (omega (arith, n))
of_kind kind.Limit (Limit most) line word rest uncommented cut is none says =
    none most (begins_so line word rest (setting_word kind.Limit) (SaysLimit most) cut says).1

pub none_of : (k : SettingKind) (line word rest : List ℕ) → is_comment line ≡ false → IsCut 32 line word rest
    → word ≡ setting_word k → SaysNone k rest → SaysNoSetting line
none_of k line word rest uncommented cut is none = λ s says. of_kind k s line word rest uncommented cut is none says

-- a line of one word says nothing but a comment
pub none_uncut : (line : List ℕ) → is_comment line ≡ false → IsWord line → SaysNoSetting line
none_uncut line uncommented whole = go
  where
    go : (s : Setting) → SaysSetting s line → ⊥
    go Nothing says = true≢false (sym says ∙ uncommented)
    go (Hold path format body) says = cut_has 32 line (setting_word kind.Hold) says.0 says.1 whole
    go (Delay path ms) says = cut_has 32 line (setting_word kind.Delay) says.0 says.1 whole
    go (Plain path) says = cut_has 32 line (setting_word kind.Plain) says.0 says.1 whole
    go (Limit most) says = cut_has 32 line (setting_word kind.Limit) says.0 says.1 whole

-- .. nor does one whose word names no kind
pub none_named : (line word rest : List ℕ) → is_comment line ≡ false → IsCut 32 line word rest
    → ((k : SettingKind) → word ≡ setting_word k → ⊥) → SaysNoSetting line
none_named line word rest uncommented cut unnamed = go
  where
    go : (s : Setting) → SaysSetting s line → ⊥
    go Nothing says = true≢false (sym says ∙ uncommented)
    go (Hold path format body) says =
        unnamed kind.Hold (cut_once 32 line word rest (setting_word kind.Hold) says.0 cut says.1).0
    go (Delay path ms) says =
        unnamed kind.Delay (cut_once 32 line word rest (setting_word kind.Delay) says.0 cut says.1).0
    go (Plain path) says =
        unnamed kind.Plain (cut_once 32 line word rest (setting_word kind.Plain) says.0 cut says.1).0
    go (Limit most) says =
        unnamed kind.Limit (cut_once 32 line word rest (setting_word kind.Limit) says.0 cut says.1).0

-- ---- a path in front of a rest

pub no_front : (line : List ℕ) → IsWord line → (path : List (List ℕ)) (rest : List ℕ) → SaysFront path rest line → ⊥
no_front line whole path rest says = cut_has 32 line says.0 rest says.1 whole

pub no_empty_front : (line word left : List ℕ) → IsCut 32 line word left → word ≡ []
    → (path : List (List ℕ)) (rest : List ℕ) → SaysFront path rest line → ⊥
no_empty_front line word left cut none path rest says =
    says.2 (sym (cut_once 32 line word left says.0 rest cut says.1).0 ∙ none)

pub no_path_front : (line word left : List ℕ) → IsCut 32 line word left → IsNoPath word
    → (path : List (List ℕ)) (rest : List ℕ) → SaysFront path rest line → ⊥
no_path_front line word left cut none path rest says =
    let so = (cut_once 32 line word left says.0 rest cut says.1).0 in
    let named = subst (λ (w : List ℕ). NamesPath w path) (sym so) says.3 in
    none path named.0 named.1

-- the rest is the one that stands behind the path
pub front_rest : (line : List ℕ) (path other : List (List ℕ)) (rest left : List ℕ) → SaysFront path rest line
    → SaysFront other left line → rest ≡ left
front_rest line path other rest left a b = (cut_once 32 line a.0 rest b.0 left a.1 b.1).1

pub no_content_hold : (line : List ℕ) (own : List (List ℕ)) (rest : List ℕ) → SaysFront own rest line
    → ((format : ℕ) (body : List ℕ) → SaysContent format body rest → ⊥)
    → (path : List (List ℕ)) (format : ℕ) (body : List ℕ) → SaysHold path format body line → ⊥
no_content_hold line own rest front none path format body says =
    none format body (subst (SaysContent format body) (sym (front_rest line own path rest says.0 front says.1)) says.2)

pub no_number_delay : (line : List ℕ) (own : List (List ℕ)) (rest : List ℕ) → SaysFront own rest line
    → ((n : ℕ) → SaysNumber rest n → ⊥) → (path : List (List ℕ)) (ms : ℕ) → SaysDelay path ms line → ⊥
no_number_delay line own rest front none path ms says =
    none ms (subst (λ (w : List ℕ). SaysNumber w ms) (sym (front_rest line own path rest says.0 front says.1)) says.2)

-- ---- a format in front of a body

pub no_content : (line : List ℕ) → IsWord line → (format : ℕ) (body : List ℕ) → SaysContent format body line → ⊥
no_content line whole format body says = cut_has 32 line says.0 body says.1 whole

pub no_format : (line digits left : List ℕ) → IsCut 32 line digits left
    → ((n : ℕ) → SaysNumber digits n → n < 2 ^ 16 → ⊥)
    → (format : ℕ) (body : List ℕ) → SaysContent format body line → ⊥
no_format line digits left cut none format body says =
    none format (subst (λ (w : List ℕ). SaysNumber w format)
    (sym (cut_once 32 line digits left says.0 body cut says.1).0) says.2) says.3

-- a word says one number
pub one_number : (word : List ℕ) (n m : ℕ) → SaysNumber word n → SaysNumber word m → n ≡ m
one_number word n m a b = sym a.1 ∙ b.1

-- ---- why a line is refused

-- for want of memory, or since what is said is none
abbrev pub Refuses : Type 0 → LineRefusal → Type 0
Refuses None e = (e ≡ refusal.Memory) ⊎ ((e ≡ refusal.Unreadable) × None)

pub refuses_on : (P Q : Type 0) (e : LineRefusal) → (P → Q) → Refuses P e → Refuses Q e
refuses_on P Q e on (inl memory) = inl memory
refuses_on P Q e on (inr h) = inr (h.0, on h.1)

pub no_front_delay : (line : List ℕ) → ((path : List (List ℕ)) (rest : List ℕ) → SaysFront path rest line → ⊥)
    → (path : List (List ℕ)) (ms : ℕ) → SaysDelay path ms line → ⊥
no_front_delay line none path ms says = none path says.0 says.1

pub no_front_hold : (line : List ℕ) → ((path : List (List ℕ)) (rest : List ℕ) → SaysFront path rest line → ⊥)
    → (path : List (List ℕ)) (format : ℕ) (body : List ℕ) → SaysHold path format body line → ⊥
no_front_hold line none path format body says = none path says.0 says.1

-- a line that says none is the first, where those before it say settings
pub bad_at : {X : Type 0} (view : X → Setting) (text left line behind : List ℕ) (xs : List X) (n : ℕ)
    (r : LineRefusal) (e : ScriptRefusal) → left ≢ [] → IsFirst left line behind → Reads SaysSetting view text left xs
    → n ≡ length xs + 1 → Refuses (SaysNoSetting line) r → e ≡ of_line n r
    → (e ≡ script.Memory) ⊎ ((number : ℕ) × (e ≡ script.Line number) × IsFirstBad SaysSetting (lines_of text) number)
bad_at view text left line behind xs n r e some first so counted (inl memory) is = inl (is ∙ ap (of_line n) memory)
bad_at view text left line behind xs n r e some first so counted (inr h) is =
    inr (
      n,
      is ∙ ap (of_line n) h.0,
      first_bad SaysSetting view text left line behind xs n some first counted h.1 so,
    )
