-- Where a parse finds no fault, it enters a subcommand where one is required, and never `help`.
use Rattle.std.proofs.Common.{◌≡◌, ◌∙◌, sym, refl, subst, ℕ, Bool, true, false, not, cond, ◌&&◌, ◌||◌, List, [], ◌∷◌}
use Rattle.std.proofs.Common.{fold, Option, Some, None, is_some, true≢false, codes}
use Rattle.std.specs.List.{find, list_all, list_any}
use Rattle.std.specs.Option.{option_map_or}
use Rattle.std.specs.Str.{bytes_eq}
use Rattle.std.specs.Prelude.{option_map}
use Rattle.std.proofs.lemmas.Slice.Eq.{bytes_eq-Decides}
use Rattle.clap.proofs.WalkLemmas.{both}
use Rattle.clap.specs.Kinds.{check_kinds, or_else}
use Rattle.clap.specs.Walk.{Held, Names, Outcome, Row, Rule, Step, Text, Waiting, Walk, after_flag, after_step}
use Rattle.clap.specs.Walk.{answers_to, arg_by_index, arg_by_long, bundle, done, idle, long_met, long_or_other, next}
use Rattle.clap.specs.Walk.{nothing_held, option, plain, plain_word, positional, refused, rows_after, short_or_plain}
use Rattle.clap.specs.Walk.{stop_after, subcommand, subcommand_met, subcommand_or_other, to_positional, trailing}
use Rattle.clap.specs.Walk.{value, waits, walk_from, walked, walked_from, word_met}
use Rattle.clap.specs.Faults.{entered_fault, fault_of, other_fault, step_fault, turn_fault, walk_fault, word_fault}
use Rattle.clap.specs.Lexer.{long_of, short_of}
use Rattle.clap.specs.Simple.{App, Shape, argument_words, built, entered, label_of, names_of, rows_at, subcommand_of}
use Rattle.clap.specs.declared.error.kind.ErrorKind.TheVariants as kind
use Rattle.coap_arguments.proofs.FilledRows.{find_passes, no_fault}
use Rattle.coap_arguments.proofs.GivenWords.{level_checks}

abbrev is_help : Text → Bool
is_help name = bytes_eq name (codes "help")

-- the walk stopped at the subcommand `help`
abbrev pub stops_at_help : Option (Text × List Text) → Bool
stops_at_help stop = option_map_or (λ p. is_help p.0) stop false

-- the step enters `help`
abbrev enters_help : Step → Bool
enters_help (subcommand name) = is_help name
enters_help (next waiting) = false
enters_help (trailing position) = false
enters_help value = false

plain_enters : (c : List Rule) (waiting : Waiting) (word : Text) (h : Held)
    → enters_help (plain_word c waiting word h).1 ≡ false
plain_enters c idle word h = refl
plain_enters c (option id) word h = refl
plain_enters c positional word h = refl

flag_enters : (c : List Rule) (waiting : Waiting) (word : Text) (h : Held) (o : Outcome)
    → enters_help (after_flag c waiting word h o).1 ≡ false
flag_enters c waiting word h done = refl
flag_enters c waiting word h (waits id) = refl
flag_enters c waiting word h plain = plain_enters c waiting word h
flag_enters c waiting word h refused = plain_enters c waiting word h

short_enters : (c : List Rule) (waiting : Waiting) (word : Text) (o : Option Text) (h : Held)
    → enters_help (short_or_plain c waiting word o h).1 ≡ false
short_enters c waiting word None h = plain_enters c waiting word h
short_enters c waiting word (Some flags) h = flag_enters c waiting word (bundle c flags h).0 (bundle c flags h).1

long_enters : (c : List Rule) (waiting : Waiting) (word : Text) (o : Option (Text × Option Text)) (h : Held)
    → enters_help (long_or_other c waiting word o h).1 ≡ false
long_enters c waiting word None h = short_enters c waiting word (short_of word) h
long_enters c waiting word (Some p) h = flag_enters c waiting word (long_met c (arg_by_long c p.0) p.1 h).0
    (long_met c (arg_by_long c p.0) p.1 h).1

module _ (s : Shape) (names : Names) (helps : s.disable_help_subcommand ≡ false) where
  other_enters : (o : Option Text) (waiting : Waiting) (position : ℕ) (word : Text) (h : Held)
      → other_fault s o word h ≡ []
      → enters_help (subcommand_or_other s.rules o waiting position word h).1 ≡ false
  other_enters (Some name) waiting position word h none = go (is_help name) refl (rw helps at none)
    where
      go : (b : Bool) → is_help name ≡ b → cond (is_help name && true) (kind.DisplayHelp ∷ kind.InvalidSubcommand ∷ [])
          [] ≡ [] → is_help name ≡ false
      go true is fine =
          let bad : kind.DisplayHelp ∷ kind.InvalidSubcommand ∷ [] ≡ [] = rw is at fine in cc
      go false is fine = is
  other_enters None waiting position word h none = go (bytes_eq word (45 ∷ 45 ∷ []))
    where
      go : (b : Bool) → enters_help (cond b (h, trailing position)
          (long_or_other s.rules waiting word (long_of word) h)).1 ≡ false
      go true = refl
      go false = long_enters s.rules waiting word (long_of word) h

  met_enters : (is_trailing : Bool) (waiting : Waiting) (position : ℕ) (word : Text) (h : Held)
      → word_fault s names is_trailing waiting word h ≡ []
      → enters_help (word_met s.rules names is_trailing waiting position word h).1 ≡ false
  met_enters true waiting position word h none = refl
  met_enters false waiting position word h none =
      other_enters (subcommand_met names waiting word) waiting position word h none

  positional_stops : (o : Option Rule) (word : Text) (w : Walk) (h : Held) → stops_at_help w.stopped ≡ false
      → stops_at_help (to_positional s.rules o word w h).stopped ≡ false
  positional_stops None word w h before = before
  positional_stops (Some a) word w h before = refl

  step_stops : (word : Text) (w : Walk) (h : Held) (step : Step) → enters_help step ≡ false
      → stops_at_help w.stopped ≡ false → stops_at_help (after_step s.rules word w h step).stopped ≡ false
  step_stops word w h (next waiting) is before = before
  step_stops word w h (trailing position) is before = before
  step_stops word w h (subcommand name) is before = is
  step_stops word w h value is before = positional_stops (arg_by_index s.rules w.position) word w h before

  turn_stops : (w : Walk) (word : Text) → turn_fault s names w word ≡ [] → stops_at_help w.stopped ≡ false
      → stops_at_help (walked s.rules names w word).stopped ≡ false
  unfolding walked
  turn_stops w word none before = go w.stopped none before
    where
      go : (o : Option (Text × List Text))
          → cond (is_some o) [] (or_else (word_fault s names w.is_trailing w.waiting word w.held)
          (step_fault s w.position (word_met s.rules names w.is_trailing w.waiting w.position word w.held).0
          (word_met s.rules names w.is_trailing w.waiting w.position word w.held).1)) ≡ []
          → stops_at_help o ≡ false → stops_at_help (walked_from s.rules names o w word).stopped ≡ false
      go (Some p) fine same = same
      go None fine same =
          let parts = no_fault (word_fault s names w.is_trailing w.waiting word w.held) _ fine in
          let met = word_met s.rules names w.is_trailing w.waiting w.position word w.held in
          step_stops word w met.0 met.1 (met_enters w.is_trailing w.waiting w.position word w.held parts.0) before

  walk_stops : (w : Walk) (words : List Text) → walk_fault s names w words ≡ [] → stops_at_help w.stopped ≡ false
      → stops_at_help (fold (walked s.rules names) w words).stopped ≡ false
  unfolding walk_fault
  walk_stops w [] none before = before
  walk_stops w (word ∷ rest) none before =
      let parts = no_fault (turn_fault s names w word) _ none in
      walk_stops (walked s.rules names w word) rest parts.1 (turn_stops w word parts.0 before)

-- ---- the subcommand

abbrev pub is_nil : List Text → Bool
is_nil [] = true
is_nil (x ∷ xs) = false

-- a test that each subcommand but `help` passes, and `help` has no other name
abbrev pub but_help : (Text → Bool) → Shape → Bool
but_help p s = p s.name || (is_help s.name && is_nil s.aliases)

none_wanted : (help sub missing : Bool) → check_kinds help sub missing ≡ [] → sub ≡ false
none_wanted true sub missing none = cc
none_wanted false true missing none = cc
none_wanted false false missing none = refl

has_wanted : (has required : Bool) → (not has && required) ≡ false → required ≡ true → has ≡ true
has_wanted true required none is = refl
has_wanted false required none is = absurd (true≢false (sym is ∙ none))

no_aliases : (word : Text) (aliases : List Text) → is_nil aliases ≡ true
    → list_any (λ alias. bytes_eq alias word) aliases ≡ false
no_aliases word [] h = refl
no_aliases word (x ∷ xs) h = cc

-- who answers to a name that is not `help` is not `help`
not_help : (p : Text → Bool) (s : Shape) (name : Text) → but_help p s ≡ true → is_help name ≡ false
    → answers_to name (label_of s) ≡ true → p s.name ≡ true
not_help p s name fine other answers = go (p s.name) refl fine
  where
    go : (b : Bool) → p s.name ≡ b → (b || (is_help s.name && is_nil s.aliases)) ≡ true → p s.name ≡ true
    go true is h = is
    go false is h =
        let parts = both (is_help s.name) (is_nil s.aliases) h in
        let own : s.name ≡ codes "help" = (bytes_eq-Decides s.name (codes "help")).0 parts.0 in
        let met : (bytes_eq s.name name || false) ≡ true =
        subst (λ b. (bytes_eq s.name name || b) ≡ true) (no_aliases name s.aliases parts.1) answers in
        let one : (b : Bool) → (b || false) ≡ true
        → b ≡ true = λ b. elim b as (λ v. (v || false) ≡ true → v ≡ true) [ true ↦ λ e. refl | false ↦ λ e. e ] in
        let same : s.name ≡ name = (bytes_eq-Decides s.name name).0 (one (bytes_eq s.name name) met) in
        let help : is_help name ≡ true = (bytes_eq-Decides name (codes "help")).1 (sym same ∙ own) in
        absurd (true≢false (sym help ∙ other))

entered_passes : (p : Text → Bool) (a : App) (stop : Option (Text × List Text)) → list_all (but_help p) a.subs ≡ true
    → stops_at_help stop ≡ false → is_some (entered a stop) ≡ true
    → (name : Text) × (rows : List Row) × (entered a stop ≡ Some (name, rows)) × (p name ≡ true)
entered_passes p a None all other has = cc
entered_passes p a (Some q) all other has = go (find (λ s. answers_to q.0 (label_of s)) a.subs) refl has
  where
    go : (o : Option Shape) → find (λ s. answers_to q.0 (label_of s)) a.subs ≡ o
        → is_some (option_map (λ s. rows_at s q.1) o) ≡ true
        → (name : Text) × (rows : List Row) × (option_map (λ s. rows_at s q.1) o ≡ Some (name, rows)) × (p name ≡ true)
    go None found h = cc
    go (Some s) found h =
        let one = find_passes _ (but_help p) a.subs s all found in
        (s.name, rows_after s.rules [] q.1, refl, not_help p s q.0 one.1 other one.0)

pub enters : (p : Text → Bool) (a : App) (words : List Text) → list_all (but_help p) (built a).subs ≡ true
    → (built a).top.disable_help_subcommand ≡ false
    → (built a).top.subcommand_required ≡ true → fault_of a words ≡ []
    → (name : Text) × (rows : List Row) × (subcommand_of a words ≡ Some (name, rows)) × (p name ≡ true)
enters p a words all helps required none =
    let app = built a in
    let after = argument_words a words in
    let stop = stop_after app.top.rules (names_of app) after in
    let has = is_some (entered app stop) in
    let walks = no_fault (walk_fault app.top (names_of app) (walk_from nothing_held) after) _ none in
    let checks = level_checks app.top (names_of app) nothing_held after has (entered_fault app stop) none in
    entered_passes p app stop all (walk_stops app.top (names_of app) helps (walk_from nothing_held) after walks.0 refl)
    (has_wanted has app.top.subcommand_required (none_wanted _ _ _ checks) required)
