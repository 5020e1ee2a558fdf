-- Each row that a parse gives is of an argument of the command: where all their names pass a test, all of its rows do.
use Rattle.std.proofs.Common.{◌≡◌, ◌+◌, ◌⊎◌, ◌||◌, ap, inl, inr, refl, subst, sym, unwrap_or, ℕ, Bool, true, false}
use Rattle.std.proofs.Common.{cond, ◌&&◌, zero, suc, List, [], ◌∷◌, fold}
use Rattle.std.proofs.Common.{length, drop, min, not, Option, Some, None}
use Rattle.std.specs.List.{find, list_all}
use Rattle.std.specs.Str.{bytes_eq, chars}
use Rattle.std.specs.Prelude.{encode_utf8, slice_get, option_map}
use Rattle.std.proofs.lemmas.Bool.{true≢false}
use Rattle.clap.proofs.WalkLemmas.{both}
use Rattle.clap.specs.Lexer.{long_of, short_of}
use Rattle.clap.specs.Walk.{Held, Names, Outcome, Row, Rule, Step, Text, Waiting, Walk, action_of, after_flag}
use Rattle.clap.specs.Walk.{after_step, all_of, answers_to, arg_by_id, arg_by_index, arg_by_long, arg_by_short}
use Rattle.clap.specs.Walk.{attached_value, bundle, bundle_met, bundle_step, count_of, counted, default_rows, done}
use Rattle.clap.specs.Walk.{flag_met, has_row, idle, is_pending, long_met, long_or_other, more_values}
use Rattle.clap.specs.Walk.{new_count, next, nothing_held, option, option_met, option_word, plain, plain_word}
use Rattle.clap.specs.Walk.{positional, positional_held, reacted, reading_by, refused, rows_after, settled}
use Rattle.clap.specs.Walk.{settled_rows, short_met, short_or_plain, stop_after, subcommand, subcommand_met}
use Rattle.clap.specs.Walk.{subcommand_or_other, takes_several, takes_values, to_positional, trailing, used, used_as}
use Rattle.clap.specs.Walk.{used_by_id, value, values_or_missing, waits, walk, walk_from, walked, walked_from}
use Rattle.clap.specs.Walk.{with_count, with_default, with_values, without, word_met}
use Rattle.clap.specs.Simple.{App, Shape, argument_words, built, entered, label_of, names_of, rows_at, subcommand_of}
use Rattle.clap.specs.declared.builder.value_parser.Reading.{Reading}
use Rattle.clap.specs.declared.builder.action.ArgAction.{ArgAction}
use Rattle.clap.specs.declared.builder.action.ArgAction.TheVariants.{Set, Append, SetTrue, SetFalse, Count, Help}
use Rattle.clap.specs.declared.builder.action.ArgAction.TheVariants.{HelpShort, HelpLong, Version}
use Rattle.clap.specs.declared.parser.matches.ValueSource.{ValueSource}
use Rattle.clap.specs.declared.parser.matches.ValueSource.TheVariants.{CommandLine, DefaultValue}
use Rattle.coap_arguments.proofs.FilledRows.{all_at_row, find_passes}

module _ (q : Text → Bool) where
  -- each row is of a name that passes
  abbrev pub Named : List Row → Type 0
  Named rows = list_all (λ r. q r.id) rows ≡ true

  -- ---- one use of an argument

  named_with : (id : Text) (how : Reading) (s : ValueSource) (values : List Text) (rows : List Row) → q id ≡ true
      → Named rows → Named (with_values id how s values rows)
  named_with id how s values rows own h =
      all_at_row (λ r. q r.id) id (more_values s values) _ rows
      (λ r here. ap (λ b. b && true) here) (ap (λ b. b && true) own) h

  named_count : (id : Text) (how : Reading) (s : ValueSource) (n : ℕ) (rows : List Row) → q id ≡ true
      → Named rows → Named (with_count id how s n rows)
  named_count id how s n rows own h =
      all_at_row (λ r. q r.id) id (new_count s n) _ rows
      (λ r here. ap (λ b. b && true) here) (ap (λ b. b && true) own) h

  named_without : (id : Text) (rows : List Row) → Named rows → Named (without id rows)
  named_without id rows h = all_at_row (λ r. q r.id) id (λ _. []) [] rows (λ r here. refl) refl h

  named_counted : (id : Text) (how : Reading) (values : List Text) (rows : List Row) → q id ≡ true → Named rows
      → Named (counted id how values rows)
  named_counted id how [] rows own h = named_count id how CommandLine (min (count_of id rows + 1) 255) (without id rows)
      own (named_without id rows h)
  named_counted id how (v ∷ vs) rows own h =
      named_with id how CommandLine (v ∷ vs) (without id rows) own (named_without id rows h)

  named_used_as : (x : ArgAction) (id : Text) (how : Reading) (values : List Text) (rows : List Row) → q id ≡ true
      → Named rows → Named (used_as x id how values rows)
  named_used_as Set id how values rows own h =
      named_with id how CommandLine values (without id rows) own (named_without id rows h)
  named_used_as SetTrue id how values rows own h =
      named_with id how CommandLine values (without id rows) own (named_without id rows h)
  named_used_as SetFalse id how values rows own h =
      named_with id how CommandLine values (without id rows) own (named_without id rows h)
  named_used_as Append id how values rows own h = named_with id how CommandLine values rows own h
  named_used_as Count id how values rows own h = named_counted id how values rows own h
  named_used_as Help id how values rows own h = h
  named_used_as HelpShort id how values rows own h = h
  named_used_as HelpLong id how values rows own h = h
  named_used_as Version id how values rows own h = h

  named_used : (a : Rule) (values : List Text) (rows : List Row) → q a.id ≡ true → Named rows
      → Named (used a values rows)
  named_used a values rows own h =
      named_used_as (action_of a) a.id (reading_by a) (values_or_missing a values) rows own h

  -- ---- what is held, where the name of each argument passes

  module _ (c : List Rule) (own : list_all (λ a. q a.id) c ≡ true) where
    own_one : (p : Rule → Bool) (a : Rule) → find p c ≡ Some a → q a.id ≡ true
    own_one p a is = (find_passes p (λ x. q x.id) c a own is).1

    named_pending : (p : Option (Text × List Text)) (rows : List Row) → Named rows → Named (settled_rows c p rows)
    named_pending None rows h = h
    named_pending (Some p) rows h = go (arg_by_id c p.0) refl
      where
        go : (o : Option Rule) → arg_by_id c p.0 ≡ o → Named (used_by_id o p.1 rows)
        go None is = h
        go (Some a) is = named_used a p.1 rows (own_one _ a is) h

    named_settled : (h : Held) → Named h.rows → Named (settled c h).rows
    named_settled h n = named_pending h.pending h.rows n

    named_reacted : (a : Rule) (values : List Text) (h : Held) → q a.id ≡ true → Named h.rows
        → Named (reacted c a values h).rows
    named_reacted a values h passes n = named_used a values (settled c h).rows passes (named_settled h n)

    named_option : (a : Rule) (v : Option Text) (h : Held) → q a.id ≡ true → Named h.rows
        → Named (option_met c a v h).0.rows
    named_option a (Some v) h passes n = named_reacted a (v ∷ []) h passes n
    named_option a None h passes n = named_settled h n

    named_flag : (a : Rule) (v : Option Text) (h : Held) → q a.id ≡ true → Named h.rows
        → Named (flag_met c a v h).0.rows
    named_flag a (Some v) h passes n = n
    named_flag a None h passes n = named_reacted a [] h passes n

    named_long : (name : Text) (v : Option Text) (h : Held) → Named h.rows
        → Named (long_met c (arg_by_long c name) v h).0.rows
    named_long name v h n = go (arg_by_long c name) refl
      where
        at : (a : Rule) (b : Bool) → q a.id ≡ true → Named (cond b (option_met c a v h) (flag_met c a v h)).0.rows
        at a true passes = named_option a v h passes n
        at a false passes = named_flag a v h passes n

        go : (o : Option Rule) → arg_by_long c name ≡ o → Named (long_met c o v h).0.rows
        go None is = n
        go (Some a) is = at a (takes_values a) (own_one _ a is)

    named_short : (x : ℕ) (rest : Text) (h : Held) (met : Held → Held × Outcome)
        → ((k : Held) → Named k.rows → Named (met k).0.rows) → Named h.rows
        → Named (short_met c (arg_by_short c x) rest h met).0.rows
    named_short x rest h met then n = go (arg_by_short c x) refl
      where
        at : (a : Rule) (b : Bool) → q a.id ≡ true
            → Named (cond b (option_met c a (attached_value rest) h) (met (reacted c a [] h))).0.rows
        at a true passes = named_option a (attached_value rest) h passes n
        at a false passes = then (reacted c a [] h) (named_reacted a [] h passes n)

        go : (o : Option Rule) → arg_by_short c x ≡ o → Named (short_met c o rest h met).0.rows
        go None is = n
        go (Some a) is = at a (takes_values a) (own_one _ a is)

    named_step : (k : ℕ) (x : Option ℕ) (flags : Text) (skip : ℕ) (so_far : Outcome) (h : Held)
        → ((rest : Text) (m : ℕ) (o : Outcome) (j : Held) → Named j.rows → Named (bundle_met c k rest m o j).0.rows)
        → Named h.rows → Named (bundle_step c x flags skip so_far h (bundle_met c k)).0.rows
    named_step k None flags skip so_far h then n = n
    named_step k (Some x) flags zero so_far h then n =
        let rest = drop (length (encode_utf8 x)) flags in
        named_short x rest h (bundle_met c k rest 0 done) (then rest 0 done) n
    named_step k (Some x) flags (suc skip) so_far h then n = then (drop (length (encode_utf8 x)) flags) skip so_far h n

    named_bundle : (k : ℕ) (flags : Text) (skip : ℕ) (so_far : Outcome) (h : Held) → Named h.rows
        → Named (bundle_met c k flags skip so_far h).0.rows
    unfolding bundle_met
    named_bundle zero flags skip so_far h n = n
    named_bundle (suc k) flags skip so_far h n =
        named_step k (slice_get (chars flags) 0) flags skip so_far h (λ rest m o j. named_bundle k rest m o j) n

    -- ---- one word

    named_option_word : (o : Option Rule) (id word : Text) (h : Held) → Named h.rows
        → Named (option_word o id word h).0.rows
    named_option_word None id word h n = n
    named_option_word (Some a) id word h n = n

    named_plain : (waiting : Waiting) (word : Text) (h : Held) → Named h.rows
        → Named (plain_word c waiting word h).0.rows
    named_plain idle word h n = n
    named_plain (option id) word h n = named_option_word (arg_by_id c id) id word h n
    named_plain positional word h n = n

    named_after_flag : (waiting : Waiting) (word : Text) (h : Held) (o : Outcome) → Named h.rows
        → Named (after_flag c waiting word h o).0.rows
    named_after_flag waiting word h done n = n
    named_after_flag waiting word h (waits id) n = n
    named_after_flag waiting word h plain n = named_plain waiting word h n
    named_after_flag waiting word h refused n = named_plain waiting word h n

    named_short_word : (waiting : Waiting) (word : Text) (o : Option Text) (h : Held) → Named h.rows
        → Named (short_or_plain c waiting word o h).0.rows
    named_short_word waiting word None h n = named_plain waiting word h n
    named_short_word waiting word (Some flags) h n =
        named_after_flag waiting word (bundle c flags h).0 (bundle c flags h).1
        (named_bundle (length flags) flags h.skip plain (record h { skip = 0 }) n)

    named_flag_word : (waiting : Waiting) (word : Text) (o : Option (Text × Option Text)) (h : Held) → Named h.rows
        → Named (long_or_other c waiting word o h).0.rows
    named_flag_word waiting word None h n = named_short_word waiting word (short_of word) h n
    named_flag_word waiting word (Some p) h n =
        named_after_flag waiting word (long_met c (arg_by_long c p.0) p.1 h).0 (long_met c (arg_by_long c p.0) p.1 h).1
        (named_long p.0 p.1 h n)

    named_other : (o : Option Text) (waiting : Waiting) (position : ℕ) (word : Text) (h : Held) → Named h.rows
        → Named (subcommand_or_other c o waiting position word h).0.rows
    named_other (Some name) waiting position word h n = n
    named_other None waiting position word h n = go (bytes_eq word (45 ∷ 45 ∷ []))
      where
        go : (b : Bool) → Named (cond b (h, trailing position) (long_or_other c waiting word (long_of word) h)).0.rows
        go true = n
        go false = named_flag_word waiting word (long_of word) h n

    named_met : (names : Names) (is_trailing : Bool) (waiting : Waiting) (position : ℕ) (word : Text) (h : Held)
        → Named h.rows
        → Named (word_met c names is_trailing waiting position word h).0.rows
    named_met names true waiting position word h n = n
    named_met names false waiting position word h n =
        named_other (subcommand_met names waiting word) waiting position word h n

    named_positional : (a : Rule) (word : Text) (h : Held) → Named h.rows → Named (positional_held c a word h).rows
    named_positional a word h n = go (is_pending a h.pending && takes_several a)
      where
        go : (b : Bool) → Named (cond b h (settled c h)).rows
        go true = n
        go false = named_settled h n

    named_to_positional : (o : Option Rule) (word : Text) (w : Walk) (h : Held) → Named h.rows
        → Named (to_positional c o word w h).held.rows
    named_to_positional None word w h n = n
    named_to_positional (Some a) word w h n = named_positional a word h n

    named_after_step : (word : Text) (w : Walk) (h : Held) (step : Step) → Named h.rows
        → Named (after_step c word w h step).held.rows
    named_after_step word w h (next waiting) n = n
    named_after_step word w h (trailing position) n = n
    named_after_step word w h (subcommand name) n = n
    named_after_step word w h value n = named_to_positional (arg_by_index c w.position) word w h n

    named_turn : (names : Names) (w : Walk) (word : Text) → Named w.held.rows → Named (walked c names w word).held.rows
    unfolding walked
    named_turn names w word n = go w.stopped
      where
        go : (o : Option (Text × List Text)) → Named (walked_from c names o w word).held.rows
        go (Some p) = n
        go None =
            let met = word_met c names w.is_trailing w.waiting w.position word w.held in
            named_after_step word w met.0 met.1
            (named_met names w.is_trailing w.waiting w.position word w.held n)

    named_walk : (names : Names) (w : Walk) (words : List Text) → Named w.held.rows
        → Named (fold (walked c names) w words).held.rows
    named_walk names w [] n = n
    named_walk names w (word ∷ rest) n = named_walk names (walked c names w word) rest (named_turn names w word n)

  -- ---- after the walk

  named_default : (rows : List Row) (a : Rule) → q a.id ≡ true → Named rows → Named (with_default rows a)
  named_default rows a own n = go (has_row a.id rows)
    where
      given : (vs : List Text) → Named (default_rows a.id (reading_by a) vs rows)
      given [] = n
      given (v ∷ vs) = named_with a.id (reading_by a) DefaultValue (v ∷ vs) rows own n

      go : (b : Bool) → Named (cond b rows (default_rows a.id (reading_by a) a.defaults rows))
      go true = n
      go false = given a.defaults

  named_defaults : (c : List Rule) (rows : List Row) → list_all (λ a. q a.id) c ≡ true → Named rows
      → Named (fold with_default rows c)
  named_defaults [] rows own n = n
  named_defaults (a ∷ rest) rows own n =
      let parts = both (q a.id) (list_all (λ x. q x.id) rest) own in
      named_defaults rest (with_default rows a) parts.1 (named_default rows a parts.0 n)

  named_after : (c : List Rule) (names : Names) (words : List Text) → list_all (λ a. q a.id) c ≡ true
      → Named (rows_after c names words)
  named_after c names words own =
      let end = (walk c names nothing_held words).held in
      named_defaults c (settled c end).rows own
      (named_settled c own end (named_walk c own names (walk_from nothing_held) words refl))

-- ---- the subcommand

-- it has another name than this one
abbrev pub is_other : Text → Text → Bool
is_other id name = not (bytes_eq name id)

-- a subcommand that the test leaves out has no argument of this name
abbrev pub lacks : (Text → Bool) → Text → Shape → Bool
lacks p id s = p s.name || list_all (λ a. is_other id a.id) s.rules

no_row : (id : Text) (rows : List Row) → Named (is_other id) rows → all_of id rows ≡ None
no_row id [] n = refl
no_row id (r ∷ rs) n =
    let parts = both (is_other id r.id) (list_all (λ x. is_other id x.id) rs) n in
    go (bytes_eq r.id id) parts.0 (no_row id rs parts.1)
  where
    go : (b : Bool) → not b ≡ true → all_of id rs ≡ None
        → option_map (λ (x : Row). x.values) (cond b (Some r) (find (λ x. bytes_eq x.id id) rs)) ≡ None
    go true other rec = absurd (true≢false (sym other))
    go false other rec = rec

-- the test passes, or nothing was given for the argument
pub taken_or_not : (p : Text → Bool) (id : Text) (a : App) (words : List Text) (name : Text) (rows : List Row)
    → list_all (lacks p id) (built a).subs ≡ true
    → subcommand_of a words ≡ Some (name, rows) → (all_of id rows ≡ None) ⊎ (p name ≡ true)
taken_or_not p id a words name rows all is =
    at (stop_after (built a).top.rules (names_of (built a)) (argument_words a words)) is
  where
    here : (s : Shape) (rest : List Text) (b : Bool) → p s.name ≡ b → (b || list_all (λ x. is_other id x.id) s.rules)
        ≡ true
        → rows_at s rest ≡ (name, rows) → (all_of id rows ≡ None) ⊎ (p name ≡ true)
    here s rest true passes fine same =
        inr (subst (λ n. p n ≡ true) (ap (λ (x : Text × List Row). x.0) same) passes)
    here s rest false passes fine same =
        inl (subst (λ r. all_of id r ≡ None) (ap (λ (x : Text × List Row). x.1) same)
        (no_row id (rows_after s.rules [] rest) (named_after (is_other id) s.rules [] rest fine)))

    found : (rest : List Text) (word : Text) (o : Option Shape)
        → find (λ s. answers_to word (label_of s)) (built a).subs ≡ o
        → option_map (λ s. rows_at s rest) o ≡ Some (name, rows) → (all_of id rows ≡ None) ⊎ (p name ≡ true)
    found rest word None met same = cc
    found rest word (Some s) met same =
        here s rest (p s.name) refl (find_passes _ (lacks p id) (built a).subs s all met).1
        (ap (λ (o : Option (Text × List Row)). unwrap_or o (name, rows)) same)

    at : (stop : Option (Text × List Text)) → entered (built a) stop ≡ Some (name, rows)
        → (all_of id rows ≡ None) ⊎ (p name ≡ true)
    at None same = cc
    at (Some stop) same = found stop.1 stop.0 _ refl same
