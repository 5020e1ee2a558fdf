-- What has a value the subcommand takes: its arguments are those that the command line gives it.
use Rattle.std.proofs.Common.{◌≡◌, ◌⊎◌, ◌&&◌, ◌||◌, inl, inr, ap, refl, sym, subst, Bool, true, false, not, List, []}
use Rattle.std.proofs.Common.{◌∷◌, Option, Some, None, option_map, unwrap_or, true≢false}
use Rattle.std.specs.List.{find, list_all, list_any}
use Rattle.std.specs.Prelude.{option_and_then, slice_get}
use Rattle.std.specs.Str.{bytes_eq}
use Rattle.std.proofs.lemmas.Slice.Eq.{bytes_eq-Decides}
use Rattle.clap.specs.Simple.{Shape, built}
use Rattle.clap.specs.Words.{Row, Rule, Text, all_of, first_of}
use Rattle.coap_arguments.proofs.Facts.WhoTakes.{is_in}
use Rattle.coap_arguments.proofs.OwnRows.{is_other, lacks, taken_or_not}
use Rattle.coap_arguments.specs.CommandLine.{coap_app}
use Rattle.coap_arguments.specs.Texts.{texts_of}
use Rattle.coap_arguments.specs.Values.{Enters, IsValue}

abbrev pub has_rule : Text → Shape → Bool
has_rule id s = list_any (λ a. bytes_eq a.id id) s.rules

abbrev pub takes_in : List Shape → Text → Text → Bool
takes_in subs name id = list_any (λ s. bytes_eq s.name name && has_rule id s) subs

-- the subcommand of this name has an argument of this one
abbrev pub takes : Text → Text → Bool
takes name id = takes_in (built coap_app).subs name id

-- none of these subcommands has it
abbrev pub none_take : List Text → Text → Bool
none_take names id = list_all (λ n. not (takes n id)) names

-- ---- tests

right_of : (a b : Bool) → b ≡ true → (a || b) ≡ true
right_of true b h = refl
right_of false b h = h

both_are : (a b : Bool) → a ≡ true → b ≡ true → (a && b) ≡ true
both_are true b h k = k
both_are false b h k = h

first_of_both : (a b : Bool) → (a && b) ≡ true → a ≡ true
first_of_both true b h = refl
first_of_both false b h = h

rest_of_both : (a b : Bool) → (a && b) ≡ true → b ≡ true
rest_of_both true b h = h
rest_of_both false b h = absurd (true≢false (sym h))

-- ---- an argument is among those of a subcommand, or all of these are others

all_other : (id : Text) (rules : List Rule) → list_any (λ a. bytes_eq a.id id) rules ≡ false
    → list_all (λ a. is_other id a.id) rules ≡ true
all_other id [] none = refl
all_other id (a ∷ rest) none = go (bytes_eq a.id id) none (λ h. all_other id rest h)
  where
    go : (b : Bool) → (b || list_any (λ x. bytes_eq x.id id) rest) ≡ false
        → (list_any (λ x. bytes_eq x.id id) rest ≡ false → list_all (λ x. is_other id x.id) rest ≡ true)
        → (not b && list_all (λ x. is_other id x.id) rest) ≡ true
    go true h more = absurd (true≢false h)
    go false h more = more h

one_lacks : (all : List Shape) (id : Text) (s : Shape) → (has_rule id s ≡ true → takes_in all s.name id ≡ true)
    → lacks (λ n. takes_in all n id) id s ≡ true
one_lacks all id s has = go (has_rule id s) refl
  where
    go : (b : Bool) → has_rule id s ≡ b → lacks (λ n. takes_in all n id) id s ≡ true
    go true is = subst (λ b. (b || list_all (λ a. is_other id a.id) s.rules) ≡ true) (sym (has is)) refl
    go false is = right_of (takes_in all s.name id) (list_all (λ a. is_other id a.id) s.rules) (all_other id s.rules is)

all_lack : (all some : List Shape) (id : Text) → ((name : Text) → takes_in some name id ≡ true → takes_in all name id
    ≡ true) → list_all (lacks (λ n. takes_in all n id) id) some ≡ true
all_lack all [] id has = refl
all_lack all (s ∷ rest) id has =
    both_are (lacks (λ n. takes_in all n id) id s) (list_all (lacks (λ n. takes_in all n id) id) rest)
    (one_lacks all id s (λ own. has s.name (here own)))
    (all_lack all rest id (λ name more. has name
    (right_of (bytes_eq s.name name && has_rule id s) (takes_in rest name id) more)))
  where
    here : has_rule id s ≡ true → takes_in (s ∷ rest) s.name id ≡ true
    here own =
        let same : bytes_eq s.name s.name ≡ true = (bytes_eq-Decides s.name s.name).1 refl in
        subst (λ b. (b || takes_in rest s.name id) ≡ true)
        (sym (both_are (bytes_eq s.name s.name) (has_rule id s) same own)) refl

taken : (words : List Text) (name : Text) (rows : List Row) → Enters words name rows → (id : Text)
    → (all_of id rows ≡ None) ⊎ (takes name id ≡ true)
taken words name rows e id =
    let subs = (built coap_app).subs in
    taken_or_not (λ n. takes n id) id coap_app words name rows (all_lack subs subs id (λ n h. h)) e.entered

-- ---- what a subcommand does not take is not given

pub pick : (p : Text → Bool) (names : List Text) (name : Text) → list_all p names ≡ true → is_in names name ≡ true
    → p name ≡ true
pick p [] name all on = absurd (true≢false (sym on))
pick p (known ∷ names) name all on =
    go (bytes_eq known name) refl on (λ h. pick p names name (rest_of_both (p known) (list_all p names) all) h)
  where
    go : (b : Bool) → bytes_eq known name ≡ b → (b || is_in names name) ≡ true
        → (is_in names name ≡ true → p name ≡ true) → p name ≡ true
    go true same here more =
        subst (λ (n : Text). p n ≡ true) ((bytes_eq-Decides known name).0 same)
        (first_of_both (p known) (list_all p names) all)
    go false same here more = more here

not_both : (b : Bool) → not b ≡ true → b ≡ true → ⊥
not_both true h k = true≢false (sym h)
not_both false h k = true≢false (sym k)

pub untaken : (names words : List Text) (name : Text) (rows : List Row) → Enters words name rows
    → is_in names name ≡ true → (id : Text) → none_take names id ≡ true → all_of id rows ≡ None
untaken names words name rows e on id none = elim (taken words name rows e id) [
  | inl nothing ↦ nothing
  | inr is ↦ absurd (not_both (takes name id) (pick (λ n. not (takes n id)) names name none on) is)
]

pub no_value : (id : Text) (rows : List Row) (text : Text) → all_of id rows ≡ None → IsValue id rows text → ⊥
no_value id rows text none is = go (find (λ r. bytes_eq r.id id) rows) is none
  where
    go : (o : Option Row) → option_and_then (λ r. slice_get r.values 0) o ≡ Some text
        → option_map (λ (r : Row). r.values) o ≡ None → ⊥
    go None is none = cc
    go (Some r) is none = cc

pub no_first : (id : Text) (rows : List Row) → all_of id rows ≡ None → first_of id rows ≡ None
no_first id rows none = go (find (λ r. bytes_eq r.id id) rows) none
  where
    go : (o : Option Row) → option_map (λ (r : Row). r.values) o ≡ None
        → option_and_then (λ r. slice_get r.values 0) o ≡ None
    go None none = refl
    go (Some r) none = cc

pub no_texts : (id : Text) (rows : List Row) → all_of id rows ≡ None → texts_of id rows ≡ []
no_texts id rows none = ap (λ (o : Option (List Text)). unwrap_or o []) none
