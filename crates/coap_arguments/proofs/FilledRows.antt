-- Where a parse finds no fault, each row has a value.
use Rattle.std.proofs.Common.{◌≡◌, ◌∙◌, ap, ap₂, refl, subst, ℕ, Bool, true, false, cond, ◌&&◌, zero, suc, List, []}
use Rattle.std.proofs.Common.{◌∷◌, ◌++◌, length, drop, Option, Some, None, is_some, nat_lt}
use Rattle.std.specs.List.{find, list_all}
use Rattle.std.specs.Option.{option_map_or}
use Rattle.std.specs.Str.{bytes_eq, chars}
use Rattle.std.specs.Prelude.{encode_utf8, slice_get}
use Rattle.std.proofs.lemmas.List.Folds.{list_all-append}
use Rattle.clap.proofs.WalkLemmas.{both}
use Rattle.clap.specs.Facts.{unwrap_or_range}
use Rattle.clap.specs.Kinds.{Kinds, or_else, range_kinds}
use Rattle.clap.specs.Walk.{Held, Outcome, Row, Rule, Text, Waiting, action_of, after_flag, arg_by_id, arg_by_long}
use Rattle.clap.specs.Walk.{arg_by_short, at_row, attached_value, bundle, bundle_met, bundle_step, done, flag_met}
use Rattle.clap.specs.Walk.{idle, is_pending, long_met, long_or_other, more_values, most_values, option, option_met}
use Rattle.clap.specs.Walk.{option_word, plain, plain_word, positional, positional_held, reacted, reading_by, refused}
use Rattle.clap.specs.Walk.{settled, settled_rows, short_met, short_or_plain, takes_several, takes_values, used}
use Rattle.clap.specs.Walk.{used_as, used_by_id, values_or_missing, waits, with_values, without}
use Rattle.clap.specs.Faults.{action_fault, bundle_fault, bundle_step_fault, flag_word_fault, flags_fault, long_fault}
use Rattle.clap.specs.Faults.{option_fault, positional_fault, react_fault, settle_fault, short_fault, use_fault}
use Rattle.clap.specs.Lexer.{short_of}
use Rattle.clap.specs.declared.builder.value_parser.Reading.{Reading}
use Rattle.clap.specs.declared.parser.matches.ValueSource.{ValueSource}
use Rattle.clap.specs.declared.builder.action.ArgAction.{ArgAction}
use Rattle.clap.specs.declared.builder.action.ArgAction.TheVariants.{Set, Append, SetTrue, SetFalse, Count, Help}
use Rattle.clap.specs.declared.builder.action.ArgAction.TheVariants.{HelpShort, HelpLong, Version}
use Rattle.clap.specs.declared.error.kind.ErrorKind.TheVariants as kind

-- each use of an argument with this action, of at least so many values, leaves a value or fails; a flag leaves those
-- that stand for a use with none
abbrev pub has_some : List Text → Bool
has_some [] = false
has_some (v ∷ vs) = true

abbrev pub feeds_by : ArgAction → ℕ → List Text → Bool
feeds_by Set least missing = nat_lt 0 least
feeds_by Append least missing = nat_lt 0 least
feeds_by SetTrue least missing = has_some missing
feeds_by Help least missing = true
feeds_by HelpShort least missing = true
feeds_by HelpLong least missing = true
feeds_by Version least missing = true
feeds_by _ least missing = false

abbrev pub feeds : Rule → Bool
feeds a = feeds_by (action_of a) (unwrap_or_range a.range).start_inclusive a.missing

abbrev pub has_value : Row → Bool
has_value r = has_some r.values

-- each row has a value
abbrev pub Filled : List Row → Type 0
Filled rows = list_all has_value rows ≡ true

-- ---- small steps

pub no_fault : (a b : Kinds) → or_else a b ≡ [] → (a ≡ []) × (b ≡ [])
no_fault [] b e = (refl, e)
no_fault (k ∷ ks) b e = cc

pub find_passes : {X : Type 0} (p q : X → Bool) (xs : List X) (x : X) → list_all q xs ≡ true → find p xs ≡ Some x
    → (p x ≡ true) × (q x ≡ true)
find_passes p q [] x all found = cc
find_passes p q (y ∷ ys) x all found =
    let parts = both (q y) (list_all q ys) all in
    go (p y) refl found (λ rest. find_passes p q ys x parts.1 rest) parts.0
  where
    go : (b : Bool) → p y ≡ b → cond b (Some y) (find p ys) ≡ Some x
        → (find p ys ≡ Some x → (p x ≡ true) × (q x ≡ true)) → q y ≡ true → (p x ≡ true) × (q x ≡ true)
    go true is same rec here =
        let one : y ≡ x = ap (λ o. option_map_or (λ z. z) o y) same in
        (subst (λ z. p z ≡ true) one is, subst (λ z. q z ≡ true) one here)
    go false is same rec here = rec same

some_append : (xs ys : List Text) → has_some xs ≡ true → has_some (xs ++ ys) ≡ true
some_append [] ys h = cc
some_append (x ∷ xs) ys h = refl

pub all_at_row : (p : Row → Bool) (id : Text) (change : Row → List Row) (missing rows : List Row)
    → ((r : Row) → p r ≡ true → list_all p (change r) ≡ true)
    → list_all p missing ≡ true → list_all p rows ≡ true → list_all p (at_row id change missing rows) ≡ true
all_at_row p id change missing [] f m h = m
all_at_row p id change missing (r ∷ rs) f m h =
    let parts = both (p r) (list_all p rs) h in
    elim (bytes_eq r.id id) as (λ b. list_all p (cond b (change r ++ rs) (r ∷ at_row id change missing rs)) ≡ true) [
      | true ↦ list_all-append p (change r) rs ∙ ap₂ (λ a b. a && b) (f r parts.0) parts.1
      | false ↦ ap₂ (λ a b. a && b) parts.0 (all_at_row p id change missing rs f m parts.1)
    ]

pub filled_with : (id : Text) (how : Reading) (s : ValueSource) (values : List Text) (rows : List Row)
    → has_some values ≡ true → Filled rows → Filled (with_values id how s values rows)
filled_with id how s values rows some h =
    all_at_row has_value id (more_values s values) _ rows
    (λ r here. ap (λ b. b && true) (some_append r.values values here)) (ap (λ b. b && true) some) h

filled_without : (id : Text) (rows : List Row) → Filled rows → Filled (without id rows)
filled_without id rows h = all_at_row has_value id (λ _. []) [] rows (λ r here. refl) refl h

-- ---- one use of an argument

-- a use that is no fault gives a value where one is wanted
some_values : (least most : ℕ) (values : List Text) → nat_lt 0 least ≡ true
    → range_kinds least most (length values) ≡ [] → has_some values ≡ true
some_values least most [] wanted none =
    let bad : kind.InvalidValue ∷ [] ≡ [] = rw wanted at none in cc
some_values least most (v ∷ vs) wanted none = refl

own_values : (a : Rule) (values : List Text) → has_some values ≡ true → has_some (values_or_missing a values) ≡ true
own_values a [] some = cc
own_values a (v ∷ vs) some = refl

missing_values : (a : Rule) (values : List Text) → has_some a.missing ≡ true
    → has_some (values_or_missing a values) ≡ true
missing_values a [] some = some
missing_values a (v ∷ vs) some = refl

filled_used_as : (x : ArgAction) (least most : ℕ) (again : Bool) (a : Rule) (values : List Text) (now rows : List Row)
    → feeds_by x least a.missing ≡ true
    → range_kinds least most (length values) ≡ [] → action_fault x again a (values_or_missing a values) now ≡ []
    → Filled rows
    → Filled (used_as x a.id (reading_by a) (values_or_missing a values) rows)
filled_used_as Set least most again a values now rows feed range none h =
    filled_with a.id (reading_by a) _ _ _ (own_values a values (some_values least most values feed range))
    (filled_without a.id rows h)
filled_used_as Append least most again a values now rows feed range none h =
    filled_with a.id (reading_by a) _ _ _ (own_values a values (some_values least most values feed range)) h
filled_used_as SetTrue least most again a values now rows feed range none h =
    filled_with a.id (reading_by a) _ _ _ (missing_values a values feed) (filled_without a.id rows h)
filled_used_as SetFalse least most again a values now rows feed range none h = cc
filled_used_as Count least most again a values now rows feed range none h = cc
filled_used_as Help least most again a values now rows feed range none h = h
filled_used_as HelpShort least most again a values now rows feed range none h = h
filled_used_as HelpLong least most again a values now rows feed range none h = h
filled_used_as Version least most again a values now rows feed range none h = h

filled_used : (again : Bool) (a : Rule) (values : List Text) (now rows : List Row) → feeds a ≡ true
    → use_fault again a values now ≡ [] → Filled rows → Filled (used a values rows)
filled_used again a values now rows feed none h =
    let parts = no_fault (range_kinds (unwrap_or_range a.range).start_inclusive (most_values a) (length values)) _ none
    in
    filled_used_as (action_of a) (unwrap_or_range a.range).start_inclusive
    (most_values a) again a values now rows feed parts.0 parts.1 h

-- ---- what is held

module _ (c : List Rule) (again : Bool) (feed : list_all feeds c ≡ true) where
  filled_pending : (p : Option (Text × List Text)) (rows : List Row)
      → option_map_or (λ q. option_map_or (λ a. use_fault again a q.1 rows) (arg_by_id c q.0) []) p [] ≡ []
      → Filled rows → Filled (settled_rows c p rows)
  filled_pending None rows none h = h
  filled_pending (Some q) rows none h = go (arg_by_id c q.0) refl none
    where
      go : (o : Option Rule) → arg_by_id c q.0 ≡ o → option_map_or (λ a. use_fault again a q.1 rows) o [] ≡ []
          → Filled (used_by_id o q.1 rows)
      go None is fine = h
      go (Some a) is fine = filled_used again a q.1 rows rows (find_passes _ feeds c a feed is).1 fine h

  pub filled_settled : (h : Held) → settle_fault c again h ≡ [] → Filled h.rows → Filled (settled c h).rows
  filled_settled h none filled = filled_pending h.pending h.rows none filled

  filled_reacted : (a : Rule) (values : List Text) (h : Held) → feeds a ≡ true → react_fault c again a values h ≡ []
      → Filled h.rows → Filled (reacted c a values h).rows
  filled_reacted a values h own none filled =
      let parts = no_fault (settle_fault c again h) _ none in
      filled_used again a values (settled c h).rows (settled c h).rows own parts.1 (filled_settled h parts.0 filled)

  filled_option : (a : Rule) (v : Option Text) (h : Held) → feeds a ≡ true → option_fault c again a v h ≡ []
      → Filled h.rows → Filled (option_met c a v h).0.rows
  filled_option a (Some v) h own none filled = filled_reacted a (v ∷ []) h own none filled
  filled_option a None h own none filled = filled_settled h none filled

  filled_flag : (a : Rule) (v : Option Text) (h : Held) → feeds a ≡ true
      → cond (is_some v) (kind.TooManyValues ∷ []) (react_fault c again a [] h) ≡ [] → Filled h.rows
      → Filled (flag_met c a v h).0.rows
  filled_flag a (Some v) h own none filled = filled
  filled_flag a None h own none filled = filled_reacted a [] h own none filled

  filled_long : (name : Text) (v : Option Text) (h : Held) → long_fault c again (arg_by_long c name) v h ≡ []
      → Filled h.rows → Filled (long_met c (arg_by_long c name) v h).0.rows
  filled_long name v h none filled = go (arg_by_long c name) refl none
    where
      at : (a : Rule) (b : Bool) → feeds a ≡ true
          → cond b (option_fault c again a v h) (cond (is_some v) (kind.TooManyValues ∷ [])
          (react_fault c again a [] h)) ≡ []
          → Filled (cond b (option_met c a v h) (flag_met c a v h)).0.rows
      at a true own fine = filled_option a v h own fine filled
      at a false own fine = filled_flag a v h own fine filled

      go : (o : Option Rule) → arg_by_long c name ≡ o → long_fault c again o v h ≡ [] → Filled (long_met c o v h).0.rows
      go None is fine = filled
      go (Some a) is fine = at a (takes_values a) (find_passes _ feeds c a feed is).1 fine

  filled_short : (x : ℕ) (rest : Text) (h : Held) (fault : Held → Kinds) (met : Held → Held × Outcome)
      → ((k : Held) → fault k ≡ [] → Filled k.rows → Filled (met k).0.rows)
      → short_fault c again (arg_by_short c x) rest h fault ≡ [] → Filled h.rows
      → Filled (short_met c (arg_by_short c x) rest h met).0.rows
  filled_short x rest h fault met then none filled = go (arg_by_short c x) refl none
    where
      at : (a : Rule) (b : Bool) → feeds a ≡ true
          → cond b (option_fault c again a (attached_value rest) h)
          (or_else (react_fault c again a [] h) (fault (reacted c a [] h))) ≡ []
          → Filled (cond b (option_met c a (attached_value rest) h) (met (reacted c a [] h))).0.rows
      at a true own fine = filled_option a (attached_value rest) h own fine filled
      at a false own fine =
          let parts = no_fault (react_fault c again a [] h) _ fine in
          then (reacted c a [] h) parts.1 (filled_reacted a [] h own parts.0 filled)

      go : (o : Option Rule) → arg_by_short c x ≡ o → short_fault c again o rest h fault ≡ []
          → Filled (short_met c o rest h met).0.rows
      go None is fine = filled
      go (Some a) is fine = at a (takes_values a) (find_passes _ feeds c a feed is).1 fine

  filled_step : (k : ℕ) (x : Option ℕ) (flags : Text) (skip : ℕ) (so_far : Outcome) (h : Held)
      → ((rest : Text) (n : ℕ) (o : Outcome) (j : Held) → flags_fault c again k rest n j ≡ [] → Filled j.rows
      → Filled (bundle_met c k rest n o j).0.rows)
      → bundle_step_fault c again x flags skip h (flags_fault c again k) ≡ [] → Filled h.rows
      → Filled (bundle_step c x flags skip so_far h (bundle_met c k)).0.rows
  filled_step k None flags skip so_far h then none filled = filled
  filled_step k (Some x) flags zero so_far h then none filled =
      let rest = drop (length (encode_utf8 x)) flags in
      filled_short x rest h (flags_fault c again k rest 0) (bundle_met c k rest 0 done) (then rest 0 done) none filled
  filled_step k (Some x) flags (suc skip) so_far h then none filled = then
      (drop (length (encode_utf8 x)) flags) skip so_far h none filled

  filled_bundle : (k : ℕ) (flags : Text) (skip : ℕ) (so_far : Outcome) (h : Held)
      → flags_fault c again k flags skip h ≡ [] → Filled h.rows → Filled (bundle_met c k flags skip so_far h).0.rows
  unfolding bundle_met flags_fault
  filled_bundle zero flags skip so_far h none filled = filled
  filled_bundle (suc k) flags skip so_far h none filled =
      filled_step k (slice_get (chars flags) 0) flags skip so_far h
      (λ rest n o j fine. filled_bundle k rest n o j fine) none filled

  -- ---- one word

  filled_option_word : (o : Option Rule) (id word : Text) (h : Held) → Filled h.rows
      → Filled (option_word o id word h).0.rows
  filled_option_word None id word h filled = filled
  filled_option_word (Some a) id word h filled = filled

  filled_plain : (waiting : Waiting) (word : Text) (h : Held) → Filled h.rows
      → Filled (plain_word c waiting word h).0.rows
  filled_plain idle word h filled = filled
  filled_plain (option id) word h filled = filled_option_word (arg_by_id c id) id word h filled
  filled_plain positional word h filled = filled

  filled_after_flag : (waiting : Waiting) (word : Text) (h : Held) (o : Outcome) → Filled h.rows
      → Filled (after_flag c waiting word h o).0.rows
  filled_after_flag waiting word h done filled = filled
  filled_after_flag waiting word h (waits id) filled = filled
  filled_after_flag waiting word h plain filled = filled_plain waiting word h filled
  filled_after_flag waiting word h refused filled = filled_plain waiting word h filled

  filled_short_word : (waiting : Waiting) (word : Text) (o : Option Text) (h : Held)
      → option_map_or (λ flags. bundle_fault c again flags h) o [] ≡ [] → Filled h.rows
      → Filled (short_or_plain c waiting word o h).0.rows
  filled_short_word waiting word None h none filled = filled_plain waiting word h filled
  filled_short_word waiting word (Some flags) h none filled =
      filled_after_flag waiting word (bundle c flags h).0 (bundle c flags h).1
      (filled_bundle (length flags) flags h.skip plain (record h { skip = 0 }) none filled)

  pub filled_flag_word : (waiting : Waiting) (word : Text) (o : Option (Text × Option Text)) (h : Held)
      → flag_word_fault c again o word h ≡ [] → Filled h.rows
      → Filled (long_or_other c waiting word o h).0.rows
  filled_flag_word waiting word None h none filled = filled_short_word waiting word (short_of word) h none filled
  filled_flag_word waiting word (Some p) h none filled =
      filled_after_flag waiting word (long_met c (arg_by_long c p.0) p.1 h).0 (long_met c (arg_by_long c p.0) p.1 h).1
      (filled_long p.0 p.1 h none filled)

  pub filled_positional : (a : Rule) (word : Text) (h : Held) → positional_fault c again a h ≡ [] → Filled h.rows
      → Filled (positional_held c a word h).rows
  filled_positional a word h none filled = go (is_pending a h.pending && takes_several a) none
    where
      go : (b : Bool) → cond b [] (settle_fault c again h) ≡ [] → Filled (cond b h (settled c h)).rows
      go true fine = filled
      go false fine = filled_settled h fine filled
