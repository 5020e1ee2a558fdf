-- What the words say of a journal, and of the server that goes on from it.
use Rattle.std.specs.Prelude.{◌≡◌, ◌++◌, ℕ, Bool, true, false, List, [], Option, Some, None, fold}
use Rattle.std.specs.Borrow.{Bor}
use Rattle.coap_resource.specs.declared.tally.TheConstants.{MAX_CHANGES_PER_WINDOW as max_changes}
use Rattle.coap_types.specs.declared.szx.TheConstants.{MAX_SZX as max_szx}
use Rattle.coap_arguments.specs.declared.orders.Delay.{Delay}
use Rattle.coap_arguments.specs.declared.orders.Journal.{Journal}
use Rattle.coap_arguments.specs.declared.orders.ServeOptions.{ServeOptions}
use Rattle.coap_arguments.specs.declared.orders.WordChoice.{WordChoice}
use Rattle.coap_arguments.specs.declared.orders.WordChoice.TheVariants.{Given, Random}
use Rattle.coap_wires.specs.Words.{IsBaseOf, IsDrawnBase, IsDrawnWord, IsRandom, IsWord}
use Rattle.coap_serving.specs.declared.journal_words.Says.{Says}
use Rattle.coap_journal.specs.Input.{spelled}
use Rattle.coap_journal.specs.Input as input
use Rattle.coap_journal.specs.declared.beginning.Beginning.{Beginning}
use Rattle.coap_journal_file.specs.declared.wishes.Wishes.{Wishes}
use Rattle.coap_kept.specs.declared.keep_words.Keeping.{Keeping}

-- the inputs that a server takes before any other: its delays and its plain paths
abbrev pub with_delay_bytes : List ℕ → Delay → List ℕ
with_delay_bytes before delay = before ++ spelled (input.Delay delay.path delay.ms)

abbrev pub with_plain_bytes : List ℕ → List (List ℕ) → List ℕ
with_plain_bytes before path = before ++ spelled (input.Plain path)

abbrev pub setup_bytes : ServeOptions → List ℕ
setup_bytes options = fold with_plain_bytes (fold with_delay_bytes [] options.delays.items) options.plains.items

-- the word that is said, if any
abbrev pub said_word : WordChoice → Option ℕ
said_word (Given word) = Some word
said_word Random = None

-- what is wished for where it is said
abbrev pub said : Bool → ℕ → Option ℕ
said true n = Some n
said false n = None

abbrev pub word_if : Bool → WordChoice → Option ℕ
word_if true choice = said_word choice
word_if false choice = None

abbrev pub IsSaidSetup : List ℕ → Option (Bor (List ℕ)) → Type 0
IsSaidSetup inputs None = inputs ≡ []
IsSaidSetup inputs (Some wish) = wish.now ≡ inputs

-- what else the words say beside a journal
abbrev pub said_beside : Journal → Says
said_beside journal = record {
  word = journal.says_word;
  limit = journal.says_limit;
  remembered = journal.says_remembered;
  renews = journal.renews;
}

-- the words say this of how a server began, where they say such things
pub record AreWishesBy (options : ServeOptions) (says : Says) (inputs : List ℕ) (wishes : Wishes) : Type 0 where
  pub word : wishes.word ≡ word_if says.word options.word
  pub limit : wishes.limit ≡ said says.limit options.limit
  pub remembered : wishes.remembered ≡ said says.remembered options.remembered
  pub setup : IsSaidSetup inputs wishes.setup

-- the word of a server that begins: drawn, where the words say none
abbrev pub choice_if : Bool → WordChoice → WordChoice
choice_if true choice = choice
choice_if false choice = Random

-- .. and its base: drawn where it begins anew, whatever its word
abbrev pub base_choice : Bool → WordChoice → WordChoice
base_choice true choice = Random
base_choice false choice = choice

-- what a server begins with
pub record IsDrawnBy (options : ServeOptions) (says : Says) (beginning : Beginning) : Type 0 where
  pub word : IsWord (choice_if says.word options.word) beginning.seed.word
  pub base : IsBaseOf (base_choice says.renews (choice_if says.word options.word)) beginning.base
  pub limit : beginning.configuration.limit ≡ options.limit
  pub remembered : beginning.configuration.remembered ≡ options.remembered
  pub szx : beginning.configuration.szx ≡ max_szx
  pub changes : beginning.configuration.changes ≡ max_changes

-- .. where that is drawn (`draws` says of a source which bytes it may give)
pub record IsDrawnFrom (draws : List ℕ → Type 0) (options : ServeOptions) (says : Says) (beginning : Beginning) : Type 0
  where
    pub word : IsDrawnWord draws (choice_if says.word options.word) beginning.seed.word
    pub key0 : IsRandom draws beginning.seed.key0
    pub key1 : IsRandom draws beginning.seed.key1
    pub base : IsDrawnBase draws (base_choice says.renews (choice_if says.word options.word)) beginning.base

-- what the program says of a file of this name is what the words say
pub record IsKeepingBy (options : ServeOptions) (file : List ℕ) (says : Says) (keeping : Keeping) : Type 0 where
  pub name : keeping.name.now ≡ file
  pub wishes : AreWishesBy options says (setup_bytes options) keeping.wishes
  pub drawn : IsDrawnBy options says keeping.drawn
  pub setup : keeping.setup.now ≡ setup_bytes options
  pub renews : keeping.renews ≡ says.renews
