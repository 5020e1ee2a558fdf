-- What clap's clauses say of the words of this program.
use Rattle.std.proofs.Common.{◌≡◌, ◌∙◌, ◌⊎◌, ap, ap₂, sym, refl, subst, Bool, true, false, ◌||◌, List, [], Option}
use Rattle.std.proofs.Common.{Some, None, option_map, unwrap_or, codes, inl, inr, Result, Ok, Err}
use Rattle.std.specs.List.{list_all}
use Rattle.std.specs.Str.{bytes_eq}
use Rattle.std.specs.Result.{IfErr, IfOk, IsErrAnd, MatchResult}
use Rattle.std.proofs.lemmas.Slice.Eq.{bytes_eq-Decides}
use Rattle.clap.proofs.OnLiterals.{clap_on_literals}
use Rattle.clap.specs.Simple.{built}
use Rattle.clap.specs.Words.{App, HasKind, HasMatchesOf, IsAmong, Kinds, Row, Text, fault_of, is_simple}
use Rattle.clap.specs.Words.{is_simple_and_free, kind_of, subcommand_name_of, subcommand_of, subcommand_rows_of}
use Rattle.clap.specs.declared.error.Error.{Error}
use Rattle.clap.specs.declared.parser.matches.ArgMatches.{ArgMatches}
use Rattle.coap_arguments.specs.Asking.{IsAsk, SendsBody}
use Rattle.coap_arguments.specs.CommandLine.{coap_app}
use Rattle.coap_arguments.specs.Plains.{IsWrongPlain}
use Rattle.coap_arguments.specs.Values.{Enters, IsGiven}
use Rattle.coap_arguments.specs.Words.{AsksFor, AsksForIn, IsVersion, IsWrong, IsWrongIn}
use Rattle.coap_arguments.specs.WrongOptions.{IsWrongOption, IsWrongServing}
use Rattle.coap_arguments.specs.Wrongs.{IsWrongOfClap}
use Rattle.coap_arguments.specs.declared.orders.Order.{Order}
use Rattle.coap_arguments.specs.declared.orders.Wrong.{Wrong}
use Rattle.coap_arguments.specs.declared.orders.Wrong.TheVariants.{Words, Path, Number, Word, Address, Size, Tags}
use Rattle.coap_arguments.specs.declared.orders.Wrong.TheVariants.{Setting, Body, Store, Plains, Ends, Together}
use Rattle.coap_arguments.specs.declared.orders.Wrong.TheVariants.{NoPath, Uri, Beside}
use Rattle.coap_arguments.specs.declared.orders.Wrong.TheVariants.{Hex, Memory}
use Rattle.coap_arguments.proofs.Entered.{enters}
use Rattle.coap_arguments.proofs.GivenWords.{asks, required_word}

-- ---- a name and its rows, where each is known by itself

abbrev pub both : {X : Type 0} → (X → Text) → (X → List Row) → X → Text × List Row
both f g x = (f x, g x)

joined : {X : Type 0} (s : Option X) (f : X → Text) (g : X → List Row) (n : Text) (r : List Row)
    → Some n ≡ option_map f s → Some r ≡ option_map (λ (p : Text × List Row). p.1) (option_map (both f g) s)
    → option_map (both f g) s ≡ Some (n, r)
joined None f g n r a b = cc
joined (Some x) f g n r a b =
    let pair : Text → List Row → Option (Text × List Row) = λ u v. Some (u, v) in
    ap₂ pair (ap (λ o. unwrap_or o n) (sym a)) (ap (λ o. unwrap_or o r) (sym b))

-- ---- the command line itself

is_simple_coap : is_simple coap_app ≡ true
unfolding clap_on_literals
is_simple_coap = refl

is_free_coap : is_simple_and_free coap_app ≡ true
unfolding clap_on_literals
is_free_coap = refl

-- it names a server
abbrev pub NamesServer : Text → Type 0
NamesServer name = (name ≡ codes "ping") ⊎ ((name ≡ codes "discover") ⊎ IsAsk name)

-- the names of the subcommands, but for `help`
abbrev pub IsOurs : Text → Type 0
IsOurs name =
    (name ≡ codes "show") ⊎ ((name ≡ codes "answer") ⊎ ((name ≡ codes "pair")
    ⊎ ((name ≡ codes "serve") ⊎ ((name ≡ codes "sim") ⊎ ((name ≡ codes "dump") ⊎ NamesServer name)))))

-- the same as tests
abbrev sends_body : Text → Bool
sends_body name = bytes_eq name (codes "put") || bytes_eq name (codes "post")

abbrev is_ask : Text → Bool
is_ask name = bytes_eq name (codes "get") || (bytes_eq name (codes "observe")
    || (bytes_eq name (codes "delete") || sends_body name))

abbrev names_server : Text → Bool
names_server name = bytes_eq name (codes "ping") || (bytes_eq name (codes "discover") || is_ask name)

abbrev is_ours : Text → Bool
is_ours name =
    bytes_eq name (codes "show")
    || (bytes_eq name (codes "answer") || (bytes_eq name (codes "pair")
    || (bytes_eq name (codes "serve") || (bytes_eq name (codes "sim") ||
    (bytes_eq name (codes "dump") || names_server name)))))

-- the name is this one, or the other test holds
first_or : (P : Type 0) (name known : Text) (rest : Bool) → (rest ≡ true → P) → (bytes_eq name known || rest) ≡ true
    → (name ≡ known) ⊎ P
first_or P name known rest other is = go (bytes_eq name known) refl is
  where
    go : (b : Bool) → bytes_eq name known ≡ b → (b || rest) ≡ true → (name ≡ known) ⊎ P
    go true same h = inl ((bytes_eq-Decides name known).0 same)
    go false same h = inr (other h)

is_name : (name known : Text) → bytes_eq name known ≡ true → name ≡ known
is_name name known is = (bytes_eq-Decides name known).0 is

one_sends : (name : Text) → sends_body name ≡ true → SendsBody name
one_sends name is = first_or _ name (codes "put") _ (is_name name (codes "post")) is

one_asks : (name : Text) → is_ask name ≡ true → IsAsk name
one_asks name is = first_or _ name (codes "get") _
    (first_or _ name (codes "observe") _ (first_or _ name (codes "delete") _ (one_sends name))) is

one_names_server : (name : Text) → names_server name ≡ true → NamesServer name
one_names_server name is = first_or _ name (codes "ping") _ (first_or _ name (codes "discover") _ (one_asks name)) is

one_of_ours : (name : Text) → is_ours name ≡ true → IsOurs name
one_of_ours name is =
    first_or _ name (codes "show") _
    (first_or _ name (codes "answer") _
    (first_or _ name (codes "pair") _
    (first_or _ name (codes "serve") _
    (first_or _ name (codes "sim") _
    (first_or _ name (codes "dump") _ (one_names_server name)))))) is

-- words that clap takes enter one of them
enters_ours : (words : List Text) → fault_of coap_app words ≡ []
    → (name : Text) × (rows : List Row) × (subcommand_of coap_app words ≡ Some (name, rows)) × (is_ours name ≡ true)
unfolding clap_on_literals
enters_ours words none = enters is_ours coap_app words refl refl refl none

-- and each word that has to be there is there
pub show_hex : (words : List Text) (rows : List Row) → Enters words (codes "show") rows → IsGiven (codes "HEX") rows
unfolding clap_on_literals
show_hex words rows e = required_word coap_app words (codes "show") (codes "HEX") rows refl e.taken e.entered

pub answer_path : (words : List Text) (rows : List Row) → Enters words (codes "answer") rows
    → IsGiven (codes "PATH") rows
unfolding clap_on_literals
answer_path words rows e = required_word coap_app words (codes "answer") (codes "PATH") rows refl e.taken e.entered

pub answer_body : (words : List Text) (rows : List Row) → Enters words (codes "answer") rows
    → IsGiven (codes "BODY") rows
unfolding clap_on_literals
answer_body words rows e = required_word coap_app words (codes "answer") (codes "BODY") rows refl e.taken e.entered

pub answer_hex : (words : List Text) (rows : List Row) → Enters words (codes "answer") rows → IsGiven (codes "HEX") rows
unfolding clap_on_literals
answer_hex words rows e = required_word coap_app words (codes "answer") (codes "HEX") rows refl e.taken e.entered

pub pair_path : (words : List Text) (rows : List Row) → Enters words (codes "pair") rows → IsGiven (codes "PATH") rows
unfolding clap_on_literals
pair_path words rows e = required_word coap_app words (codes "pair") (codes "PATH") rows refl e.taken e.entered

pub pair_body : (words : List Text) (rows : List Row) → Enters words (codes "pair") rows → IsGiven (codes "BODY") rows
unfolding clap_on_literals
pair_body words rows e = required_word coap_app words (codes "pair") (codes "BODY") rows refl e.taken e.entered

pub serve_port : (words : List Text) (rows : List Row) → Enters words (codes "serve") rows → IsGiven (codes "PORT") rows
unfolding clap_on_literals
serve_port words rows e = required_word coap_app words (codes "serve") (codes "PORT") rows refl e.taken e.entered

-- the subcommands that name a server require this argument
abbrev NamingRequires : Text → Type 0
NamingRequires id = (name : Text) → NamesServer name → list_all (asks name id) (built coap_app).subs ≡ true

by_name : (id name known : Text) → list_all (asks known id) (built coap_app).subs ≡ true → name ≡ known
    → list_all (asks name id) (built coap_app).subs ≡ true
by_name id name known is same = subst (λ n. list_all (asks n id) (built coap_app).subs ≡ true) (sym same) is

requires_port : NamingRequires (codes "PORT|URI")
unfolding clap_on_literals
requires_port name (inl is) = by_name (codes "PORT|URI") name _ refl is
requires_port name (inr (inl is)) = by_name (codes "PORT|URI") name _ refl is
requires_port name (inr (inr (inl is))) = by_name (codes "PORT|URI") name _ refl is
requires_port name (inr (inr (inr (inl is)))) = by_name (codes "PORT|URI") name _ refl is
requires_port name (inr (inr (inr (inr (inl is))))) = by_name (codes "PORT|URI") name _ refl is
requires_port name (inr (inr (inr (inr (inr (inl is)))))) = by_name (codes "PORT|URI") name _ refl is
requires_port name (inr (inr (inr (inr (inr (inr is)))))) = by_name (codes "PORT|URI") name _ refl is

pub server_port : (words : List Text) (name : Text) (rows : List Row) → NamesServer name → Enters words name rows
    → IsGiven (codes "PORT|URI") rows
server_port words name rows is e =
    required_word coap_app words name (codes "PORT|URI") rows (requires_port name is) e.taken e.entered

pub sim_file : (words : List Text) (rows : List Row) → Enters words (codes "sim") rows → IsGiven (codes "FILE") rows
unfolding clap_on_literals
sim_file words rows e = required_word coap_app words (codes "sim") (codes "FILE") rows refl e.taken e.entered

-- ---- what is wrong

-- in the value of an option is wrong in the subcommand
pub value_wrong : (name : Text) (rows : List Row) (w : Wrong) → IsWrongOption rows w → IsWrongIn name rows w
value_wrong name rows (Words error) h = absurd h
value_wrong name rows (Path refusal) h = absurd h
value_wrong name rows (Number refusal) h = h
value_wrong name rows Word h = h
value_wrong name rows (Address refusal) h = h
value_wrong name rows Size h = h
value_wrong name rows (Tags refusal) h = h
value_wrong name rows (Setting refusal) h = h
value_wrong name rows Body h = absurd h
value_wrong name rows Store h = absurd h
value_wrong name rows Plains h = absurd h
value_wrong name rows (Ends refusal) h = absurd h
value_wrong name rows (Together refusal) h = absurd h
value_wrong name rows NoPath h = absurd h
value_wrong name rows (Uri refusal) h = absurd h
value_wrong name rows (Beside refusal) h = absurd h
value_wrong name rows Hex h = absurd h
value_wrong name rows Memory h = tt

plain_wrong : (name : Text) (rows : List Row) (w : Wrong) → IsWrongPlain rows w → IsWrongIn name rows w
plain_wrong name rows (Words error) h = absurd h
plain_wrong name rows (Path refusal) h = inr h
plain_wrong name rows (Number refusal) h = absurd h
plain_wrong name rows Word h = absurd h
plain_wrong name rows (Address refusal) h = absurd h
plain_wrong name rows Size h = absurd h
plain_wrong name rows (Tags refusal) h = absurd h
plain_wrong name rows (Setting refusal) h = absurd h
plain_wrong name rows Body h = absurd h
plain_wrong name rows Store h = absurd h
plain_wrong name rows Plains h = h
plain_wrong name rows (Ends refusal) h = absurd h
plain_wrong name rows (Together refusal) h = absurd h
plain_wrong name rows NoPath h = absurd h
plain_wrong name rows (Uri refusal) h = absurd h
plain_wrong name rows (Beside refusal) h = absurd h
plain_wrong name rows Hex h = absurd h
plain_wrong name rows Memory h = tt

-- so is what is wrong in the values by which a server is set up
pub serving_wrong : (name : Text) (rows : List Row) (w : Wrong) → IsWrongServing rows w → IsWrongIn name rows w
serving_wrong name rows w (inl h) = value_wrong name rows w h
serving_wrong name rows w (inr h) = plain_wrong name rows w h

-- ---- a parse that succeeds

module _ (app : App) (is : app ≡ coap_app) (words : List Text) (m : ArgMatches) (found : HasMatchesOf app words m)
    (kinds : is_simple_and_free app ≡ true → fault_of app words ≡ []) where
  no_faults : fault_of coap_app words ≡ []
  no_faults = ap (λ (a : App). fault_of a words) (sym is) ∙ kinds (ap is_simple_and_free is ∙ is_free_coap)

  rows_are : subcommand_rows_of m ≡ subcommand_of coap_app words
  rows_are = (found (ap is_simple is ∙ is_simple_coap)).1 ∙ ap (λ (a : App). subcommand_of a words) is

  -- the subcommand that it met, by its name and by its rows
  pub enters_met : (name known : Text) (rows : List Row) → name ≡ known → Some name ≡ subcommand_name_of m
      → Some rows ≡ option_map (λ (p : Text × List Row). p.1) (subcommand_rows_of m)
      → Enters words known rows
  enters_met name known rows same by_name by_rows =
      let met : subcommand_rows_of m ≡ Some (name, rows) = joined _ _ _ _ _ by_name by_rows in
      subst (λ n. Enters words n rows) same (record { taken = no_faults; entered = sym rows_are ∙ met })

-- which is one of ours
pub ours : (words : List Text) (name : Text) (rows : List Row) → Enters words name rows → IsOurs name
ours words name rows e =
    let one = enters_ours words e.taken in
    let same : one.0 ≡ name = ap (λ (o : Option (Text × List Row)). (unwrap_or o (name, rows)).0)
    (sym one.2 ∙ e.entered) in
    one_of_ours name (subst (λ n. is_ours n ≡ true) same one.3)

-- ---- what a subcommand answers

pub said_by : (words : List Text) (name : Text) (rows : List Row) (r : Result Order Wrong) → Enters words name rows
    → MatchResult r (AsksForIn name rows) (IsWrongIn name rows) → IfOk r (AsksFor words)
said_by words name rows (Ok o) e h = inr (name, rows, e, h)
said_by words name rows (Err w) e h = tt

wrong_in : (words : List Text) (name : Text) (rows : List Row) (w : Wrong) → Enters words name rows
    → IsWrongIn name rows w → IsWrong words w
wrong_in words name rows (Words error) e h = absurd h
wrong_in words name rows (Path refusal) e h = (name, rows, e, h)
wrong_in words name rows (Number refusal) e h = (name, rows, e, h)
wrong_in words name rows Word e h = (name, rows, e, h)
wrong_in words name rows (Address refusal) e h = (name, rows, e, h)
wrong_in words name rows Size e h = (name, rows, e, h)
wrong_in words name rows (Tags refusal) e h = (name, rows, e, h)
wrong_in words name rows (Setting refusal) e h = (name, rows, e, h)
wrong_in words name rows Body e h = (name, rows, e, h)
wrong_in words name rows Store e h = (name, rows, e, h)
wrong_in words name rows Plains e h = (name, rows, e, h)
wrong_in words name rows (Ends refusal) e h = (name, rows, e, h)
wrong_in words name rows (Together refusal) e h = (name, rows, e, h)
wrong_in words name rows NoPath e h = (name, rows, e, h)
wrong_in words name rows (Uri refusal) e h = (name, rows, e, h)
wrong_in words name rows (Beside refusal) e h = (name, rows, e, h)
wrong_in words name rows Hex e h = (name, rows, e, h)
wrong_in words name rows Memory e h = tt

pub wrong_by : (words : List Text) (name : Text) (rows : List Row) (r : Result Order Wrong) → Enters words name rows
    → MatchResult r (AsksForIn name rows) (IsWrongIn name rows) → IfErr r (IsWrong words)
wrong_by words name rows (Ok o) e h = tt
wrong_by words name rows (Err w) e h = wrong_in words name rows w e h

-- ---- a parse that fails

wrong_of_clap : (words : List Text) (faults : Kinds) (e : Error) (w : Wrong) → (IsVersion words → ⊥)
    → fault_of coap_app words ≡ faults → IsWrongOfClap e w → HasKind faults e → IsWrong words w
wrong_of_clap words faults e (Words own) other same h kind = (
  other,
  subst (λ ks. IsAmong (kind_of own) ks) (sym same)
      (subst (λ x. IsAmong (kind_of x) faults) (sym h.0)
      (elim kind [ inl none ↦ absurd (h.1 none) | inr among ↦ among ])),
)
wrong_of_clap words faults e (Path refusal) other same h kind = absurd h
wrong_of_clap words faults e (Number refusal) other same h kind = absurd h
wrong_of_clap words faults e Word other same h kind = absurd h
wrong_of_clap words faults e (Address refusal) other same h kind = absurd h
wrong_of_clap words faults e Size other same h kind = absurd h
wrong_of_clap words faults e (Tags refusal) other same h kind = absurd h
wrong_of_clap words faults e (Setting refusal) other same h kind = absurd h
wrong_of_clap words faults e Body other same h kind = absurd h
wrong_of_clap words faults e Store other same h kind = absurd h
wrong_of_clap words faults e Plains other same h kind = absurd h
wrong_of_clap words faults e (Ends refusal) other same h kind = absurd h
wrong_of_clap words faults e (Together refusal) other same h kind = absurd h
wrong_of_clap words faults e NoPath other same h kind = absurd h
wrong_of_clap words faults e (Uri refusal) other same h kind = absurd h
wrong_of_clap words faults e (Beside refusal) other same h kind = absurd h
wrong_of_clap words faults e Hex other same h kind = absurd h
wrong_of_clap words faults e Memory other same h kind = tt

pub refused_by_clap : (app : App) → app ≡ coap_app → (words : List Text) (e : Error) (r : Result Order Wrong)
    → (IsVersion words → ⊥) → IsErrAnd r (λ w. IsWrongOfClap e w)
    → (is_simple_and_free app ≡ true → HasKind (fault_of app words) e) → IfErr r (IsWrong words)
refused_by_clap app is words e (Ok o) other h kinds = tt
refused_by_clap app is words e (Err w) other h kinds =
    wrong_of_clap words (fault_of app words) e w other (ap (λ (a : App). fault_of a words) (sym is)) h
    (kinds (ap is_simple_and_free is ∙ is_free_coap))
