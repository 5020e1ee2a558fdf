-- Where a parse finds no fault, each required word is given.
use Rattle.std.proofs.Common.{◌≡◌, ap, sym, refl, subst, ℕ, Bool, true, false, not, cond, ◌&&◌, ◌||◌, List, [], ◌∷◌}
use Rattle.std.proofs.Common.{fold, Option, Some, None, is_some}
use Rattle.std.specs.List.{find, list_all, list_any}
use Rattle.std.specs.Option.{option_map_or}
use Rattle.std.specs.Str.{bytes_eq}
use Rattle.std.specs.Prelude.{option_and_then, option_map, slice_get}
use Rattle.std.proofs.lemmas.Slice.Eq.{bytes_eq-Decides}
use Rattle.clap.proofs.WalkLemmas.{both}
use Rattle.clap.specs.Facts.{explicit_source}
use Rattle.clap.specs.Kinds.{Kinds, check_kinds, or_else}
use Rattle.clap.specs.Takes.{is_given}
use Rattle.clap.specs.Walk.{Held, Names, Row, Rule, Step, Text, Waiting, Walk, after_step, answers_to, arg_by_index}
use Rattle.clap.specs.Walk.{default_rows, finished, first_of, has_row, long_or_other, next, nothing_held, reading_by}
use Rattle.clap.specs.Walk.{rows_after, settled, stop_after, subcommand, subcommand_met, subcommand_or_other}
use Rattle.clap.specs.Walk.{to_positional, trailing, value, walk, walk_from, walked, walked_from, with_default}
use Rattle.clap.specs.Walk.{word_met}
use Rattle.clap.specs.Faults.{check_fault, defaults_fault, entered_fault, fault_of, flag_word_fault, level_fault}
use Rattle.clap.specs.Faults.{other_fault, positional_fault, settle_fault, step_fault, stray_fault, turn_fault}
use Rattle.clap.specs.Faults.{walk_fault, word_fault}
use Rattle.clap.specs.Lexer.{long_of}
use Rattle.clap.specs.Simple.{App, Shape, argument_words, built, entered, label_of, names_of, rows_at, subcommand_of}
use Rattle.clap.specs.declared.parser.matches.ValueSource.TheVariants.{DefaultValue}
use Rattle.coap_arguments.proofs.FilledRows.{Filled, feeds, filled_flag_word, filled_positional, filled_settled}
use Rattle.coap_arguments.proofs.FilledRows.{filled_with, find_passes, has_some, has_value, no_fault}

-- the subcommand of this name requires the argument of this id, and its arguments leave values
abbrev pub asks : Text → Text → Shape → Bool
asks name id s = not (bytes_eq s.name name) || (list_all feeds s.rules
    && list_any (λ a. a.required && bytes_eq a.id id) s.rules)

module _ (s : Shape) (names : Names) (feed : list_all feeds s.rules ≡ true) where
  -- ---- one turn

  filled_other : (o : Option Text) (waiting : Waiting) (position : ℕ) (word : Text) (h : Held)
      → other_fault s o word h ≡ [] → Filled h.rows
      → Filled (subcommand_or_other s.rules o waiting position word h).0.rows
  filled_other (Some name) waiting position word h none filled = filled
  filled_other None waiting position word h none filled = go (bytes_eq word (45 ∷ 45 ∷ [])) none
    where
      go : (b : Bool) → cond b [] (flag_word_fault s.rules s.args_override_self (long_of word) word h) ≡ []
          → Filled (cond b (h, trailing position) (long_or_other s.rules waiting word (long_of word) h)).0.rows
      go true fine = filled
      go false fine = filled_flag_word s.rules s.args_override_self feed waiting word (long_of word) h fine filled

  filled_met : (is_trailing : Bool) (waiting : Waiting) (position : ℕ) (word : Text) (h : Held)
      → word_fault s names is_trailing waiting word h ≡ [] → Filled h.rows
      → Filled (word_met s.rules names is_trailing waiting position word h).0.rows
  filled_met true waiting position word h none filled = filled
  filled_met false waiting position word h none filled =
      filled_other (subcommand_met names waiting word) waiting position word h none filled

  filled_to_positional : (o : Option Rule) (word : Text) (w : Walk) (h : Held)
      → option_map_or (λ a. positional_fault s.rules s.args_override_self a h) o (stray_fault s) ≡ []
      → Filled h.rows → Filled (to_positional s.rules o word w h).held.rows
  filled_to_positional None word w h none filled = filled
  filled_to_positional (Some a) word w h none filled =
      filled_positional s.rules s.args_override_self feed a word h none filled

  filled_after_step : (word : Text) (w : Walk) (h : Held) (step : Step) → step_fault s w.position h step ≡ []
      → Filled h.rows → Filled (after_step s.rules word w h step).held.rows
  filled_after_step word w h (next waiting) none filled = filled
  filled_after_step word w h (trailing position) none filled = filled
  filled_after_step word w h (subcommand name) none filled = filled
  filled_after_step word w h value none filled =
      filled_to_positional (arg_by_index s.rules w.position) word w h none filled

  filled_turn : (w : Walk) (word : Text) → turn_fault s names w word ≡ [] → Filled w.held.rows
      → Filled (walked s.rules names w word).held.rows
  unfolding walked
  filled_turn w word none filled = go w.stopped none
    where
      go : (o : Option (Text × List Text))
          → cond (is_some o) [] (or_else (word_fault s names w.is_trailing w.waiting word w.held)
          (step_fault s w.position (word_met s.rules names w.is_trailing w.waiting w.position word w.held).0
          (word_met s.rules names w.is_trailing w.waiting w.position word w.held).1)) ≡ []
          → Filled (walked_from s.rules names o w word).held.rows
      go (Some p) fine = filled
      go None fine =
          let parts = no_fault (word_fault s names w.is_trailing w.waiting word w.held) _ fine in
          let met = word_met s.rules names w.is_trailing w.waiting w.position word w.held in
          filled_after_step word w met.0 met.1 parts.1
          (filled_met w.is_trailing w.waiting w.position word w.held parts.0 filled)

  filled_walk : (w : Walk) (words : List Text) → walk_fault s names w words ≡ [] → Filled w.held.rows
      → Filled (fold (walked s.rules names) w words).held.rows
  unfolding walk_fault
  filled_walk w [] none filled = filled
  filled_walk w (word ∷ rest) none filled =
      let parts = no_fault (turn_fault s names w word) _ none in
      filled_walk (walked s.rules names w word) rest parts.1 (filled_turn w word parts.0 filled)

-- ---- after the walk

filled_default : (rows : List Row) (a : Rule) → Filled rows → Filled (with_default rows a)
filled_default rows a filled = go (has_row a.id rows)
  where
    given : (vs : List Text) → Filled (default_rows a.id (reading_by a) vs rows)
    given [] = filled
    given (v ∷ vs) = filled_with a.id (reading_by a) DefaultValue (v ∷ vs) rows refl filled

    go : (b : Bool) → Filled (cond b rows (default_rows a.id (reading_by a) a.defaults rows))
    go true = filled
    go false = given a.defaults

filled_defaults : (c : List Rule) (rows : List Row) → Filled rows → Filled (fold with_default rows c)
filled_defaults [] rows filled = filled
filled_defaults (a ∷ rest) rows filled = filled_defaults rest (with_default rows a) (filled_default rows a filled)

filled_level : (s : Shape) (names : Names) (h : Held) (words : List Text) (has : Bool) (below : Kinds)
    → list_all feeds s.rules ≡ true → Filled h.rows
    → level_fault s names h words has below ≡ [] → Filled (finished s.rules (walk s.rules names h words).held)
filled_level s names h words has below feed filled none =
    let end = (walk s.rules names h words).held in
    let walks = no_fault (walk_fault s names (walk_from h) words) _ none in
    let enters = no_fault below _ walks.1 in
    let settles = no_fault (settle_fault s.rules s.args_override_self end) _ enters.1 in
    filled_defaults s.rules (settled s.rules end).rows
    (filled_settled s.rules s.args_override_self feed end settles.0
    (filled_walk s names feed (walk_from h) words walks.0 filled))

pub level_checks : (s : Shape) (names : Names) (h : Held) (words : List Text) (has : Bool) (below : Kinds)
    → level_fault s names h words has below ≡ []
    → check_fault s (finished s.rules (walk s.rules names h words).held) has ≡ []
level_checks s names h words has below none =
    let end = (walk s.rules names h words).held in
    let walks = no_fault (walk_fault s names (walk_from h) words) _ none in
    let enters = no_fault below _ walks.1 in
    let settles = no_fault (settle_fault s.rules s.args_override_self end) _ enters.1 in
    (no_fault (defaults_fault (settled s.rules end).rows s.rules) _ settles.1).1

-- what no check finds missing
none_missing : (help sub missing : Bool) → check_kinds help sub missing ≡ [] → missing ≡ false
none_missing true sub missing none = cc
none_missing false true missing none = cc
none_missing false false true none = cc
none_missing false false false none = refl

in_leaf : (negates missing : Bool) → (not (negates && false) && missing) ≡ false → missing ≡ false
in_leaf true missing e = e
in_leaf false missing e = e

neither : (a b : Bool) → (a || b) ≡ false → (a ≡ false) × (b ≡ false)
neither true b e = cc
neither false b e = (refl, e)

required_given : (rules : List Rule) (rows : List Row) (id : Text)
    → list_any (λ a. a.required && not (is_given a.id rows)) rules ≡ false
    → list_any (λ a. a.required && bytes_eq a.id id) rules ≡ true → is_given id rows ≡ true
required_given [] rows id none asked = cc
required_given (a ∷ rest) rows id none asked =
    let parts = neither (a.required && not (is_given a.id rows)) _ none in
    go (a.required && bytes_eq a.id id) refl asked parts.0 (λ more. required_given rest rows id parts.1 more)
  where
    go : (b : Bool) → (a.required && bytes_eq a.id id) ≡ b
        → (b || list_any (λ x. x.required && bytes_eq x.id id) rest) ≡ true
        → (a.required && not (is_given a.id rows)) ≡ false
        → (list_any (λ x. x.required && bytes_eq x.id id) rest ≡ true → is_given id rows ≡ true)
        → is_given id rows ≡ true
    go true is h fine rec =
        let here = both a.required (bytes_eq a.id id) is in
        let same : a.id ≡ id = (bytes_eq-Decides a.id id).0 here.1 in
        let given : (b : Bool) → not b ≡ false → b
        ≡ true = λ b. elim b as (λ v. not v ≡ false → v ≡ true) [ true ↦ λ e. refl | false ↦ λ e. sym e ] in
        subst (λ t. is_given t rows ≡ true) same (given (is_given a.id rows) (rw here.0 at fine))
    go false is h fine rec = rec h

given_first : (id : Text) (rows : List Row) → Filled rows → is_given id rows ≡ true → is_some (first_of id rows) ≡ true
given_first id rows filled given = go (find (λ r. bytes_eq r.id id) rows) refl given
  where
    some : (vs : List Text) → has_some vs ≡ true → is_some (slice_get vs 0) ≡ true
    some [] h = cc
    some (v ∷ vs) h = refl

    go : (o : Option Row) → find (λ r. bytes_eq r.id id) rows ≡ o
        → option_map_or (λ r. explicit_source r.source) o false ≡ true
        → is_some (option_and_then (λ r. slice_get r.values 0) o) ≡ true
    go None is h = cc
    go (Some r) is h = some r.values (find_passes _ has_value rows r filled is).1

-- ---- the subcommand

leaf_required : (s : Shape) (words : List Text) (id : Text) → list_all feeds s.rules ≡ true
    → level_fault s [] nothing_held words false [] ≡ []
    → list_any (λ a. a.required && bytes_eq a.id id) s.rules ≡ true
    → is_some (first_of id (rows_after s.rules [] words)) ≡ true
leaf_required s words id feed none asked =
    let rows = rows_after s.rules [] words in
    let checks = level_checks s [] nothing_held words false [] none in
    let missing = in_leaf s.subcommand_negates_reqs _ (none_missing _ _ _ checks) in
    given_first id rows (filled_level s [] nothing_held words false [] feed refl none)
    (required_given s.rules rows id missing asked)

-- what `asks` says of the subcommand with this name
asked_of : (s : Shape) (name id : Text) → asks name id s ≡ true → s.name ≡ name
    → (list_all feeds s.rules ≡ true) × (list_any (λ a. a.required && bytes_eq a.id id) s.rules ≡ true)
asked_of s name id asked is =
    let same : bytes_eq s.name name ≡ true = (bytes_eq-Decides s.name name).1 is in
    both (list_all feeds s.rules) _ (rw same at asked)

entered_required : (a : App) (stop : Option (Text × List Text)) (name id : Text) (rows : List Row)
    → list_all (asks name id) a.subs ≡ true
    → entered_fault a stop ≡ [] → entered a stop ≡ Some (name, rows) → is_some (first_of id rows) ≡ true
entered_required a None name id rows asked none is = cc
entered_required a (Some p) name id rows asked none is =
    go (find (λ s. answers_to p.0 (label_of s)) a.subs) refl none is
  where
    go : (o : Option Shape) → find (λ s. answers_to p.0 (label_of s)) a.subs ≡ o
        → option_map_or (λ s. level_fault s [] nothing_held p.1 false []) o [] ≡ []
        → option_map (λ s. rows_at s p.1) o ≡ Some (name, rows) → is_some (first_of id rows) ≡ true
    go None found fine same = cc
    go (Some s) found fine same =
        let pair : rows_at s p.1 ≡ (name, rows) = ap (λ o. option_map_or (λ z. z) o (name, rows)) same in
        let own_name : s.name ≡ name = ap (λ q. q.0) pair in
        let own_rows : rows_after s.rules [] p.1 ≡ rows = ap (λ q. q.1) pair in
        let own_asked = asked_of s name id (find_passes _ (asks name id) a.subs s asked found).1 own_name in
        subst (λ rs. is_some (first_of id rs) ≡ true) own_rows (leaf_required s p.1 id own_asked.0 fine own_asked.1)

pub required_word : (a : App) (words : List Text) (name id : Text) (rows : List Row)
    → list_all (asks name id) (built a).subs ≡ true
    → fault_of a words ≡ [] → subcommand_of a words ≡ Some (name, rows) → is_some (first_of id rows) ≡ true
required_word a words name id rows asked none is =
    let app = built a in
    let after = argument_words a words in
    let stop = stop_after app.top.rules (names_of app) after in
    let walks = no_fault (walk_fault app.top (names_of app) (walk_from nothing_held) after) _ none in
    let enters = no_fault (entered_fault app stop) _ walks.1 in
    entered_required app stop name id rows asked enters.0 is
