-- The paths whose observers are told in Non-confirmable messages, as `--plain PATH`, again and again, names them.
use Rattle.std.specs.Prelude.{ℕ, Bool, ◌≡◌, ◌<◌, ◌≤◌, ◌++◌, ◌∷◌, [], ⊤, Any, List, codes, length, if◌then◌else◌}
use Rattle.std.specs.List.{list_any}
use Rattle.clap.specs.Words.{Row, Text}
use Rattle.coap_types.specs.Path.{HoldsAtMost, same_path}
use Rattle.coap_types.specs.declared.path.PathRefusal.{PathRefusal}
use Rattle.coap_types.specs.declared.path.TheConstants.{MAX_SEGMENT_LEN as max_segment_len}
use Rattle.coap_types.specs.declared.path.TheConstants.{MAX_SEGMENTS as max_segments}
use Rattle.coap_arguments.specs.PathText.{IsNoPath, IsPathText, IsTrueOf}
use Rattle.coap_arguments.specs.Texts.{texts_of}
use Rattle.coap_arguments.specs.declared.orders.TheConstants.{MAX_PLAINS as max_plains}
use Rattle.coap_arguments.specs.declared.orders.Wrong.{Wrong}
use Rattle.coap_arguments.specs.declared.orders.Wrong.TheVariants.{Words, Path, Number, Word, Address, Size, Tags}
use Rattle.coap_arguments.specs.declared.orders.Wrong.TheVariants.{Setting, Body, Store, Plains, Ends, Together}
use Rattle.coap_arguments.specs.declared.orders.Wrong.TheVariants.{NoPath, Uri, Beside}
use Rattle.coap_arguments.specs.declared.orders.Wrong.TheVariants.{Hex, Memory}

-- the path is one of these
abbrev pub is_among : List (List ℕ) → List (List (List ℕ)) → Bool
is_among path paths = list_any (λ p. same_path p path) paths

-- these paths, and this one behind them where it is none of them
abbrev pub with_path : List (List ℕ) → List (List (List ℕ)) → List (List (List ℕ))
with_path path paths = if is_among path paths then paths else paths ++ path ∷ []

-- each text is one of a path; and the known paths, behind them those of the texts, are these, each once
abbrev pub Names : List (List (List ℕ)) → List Text → List (List (List ℕ)) → Type 0
Names known [] paths = paths ≡ known
Names known (text ∷ texts) paths = (path : List (List ℕ)) × IsPathText text path
    × HoldsAtMost max_segments max_segment_len path × Names (with_path path known) texts paths

-- the values of `--plain`
abbrev pub plain_texts : List Row → List Text
plain_texts values = texts_of (codes "plain") values

-- they name these paths, in the order in which each is named first, and no more than a server takes
abbrev pub HasPlains : List Row → List (List (List ℕ)) → Type 0
HasPlains values paths = Names [] (plain_texts values) paths × (length paths ≤ max_plains)

-- one is a text of no path, for this reason
abbrev pub HasNoPlain : List Row → PathRefusal → Type 0
HasNoPlain values refusal = Any (λ text. IsNoPath text × IsTrueOf refusal text) (plain_texts values)

-- the first of them alone name more paths than a server takes
abbrev pub HasTooManyPlains : List Row → Type 0
HasTooManyPlains values = (first : List Text) × (rest : List Text) × (paths : List (List (List ℕ)))
    × (plain_texts values ≡ first ++ rest) × Names [] first paths × (max_plains < length paths)

-- this is wrong in the values of `--plain`
abbrev pub IsWrongPlain : List Row → Wrong → Type 0
IsWrongPlain values (Words error) = ⊥
IsWrongPlain values (Path refusal) = HasNoPlain values refusal
IsWrongPlain values (Number refusal) = ⊥
IsWrongPlain values Word = ⊥
IsWrongPlain values (Address refusal) = ⊥
IsWrongPlain values Size = ⊥
IsWrongPlain values (Tags refusal) = ⊥
IsWrongPlain values (Setting refusal) = ⊥
IsWrongPlain values Body = ⊥
IsWrongPlain values Store = ⊥
IsWrongPlain values Plains = HasTooManyPlains values
IsWrongPlain values (Ends refusal) = ⊥
IsWrongPlain values (Together refusal) = ⊥
IsWrongPlain values NoPath = ⊥
IsWrongPlain values (Uri refusal) = ⊥
IsWrongPlain values (Beside refusal) = ⊥
IsWrongPlain values Hex = ⊥
IsWrongPlain values Memory = ⊤
