-- What a frame of a journal has in it.
use Rattle.std.specs.Prelude.{◌≡◌, ◌≢◌, ◌≤◌, ◌<◌, ◌^◌, ℕ, List, ◌∷◌, ◌++◌, length}
use Rattle.coap_journal.specs.Frames.{frame}
use Rattle.coap_journal.specs.Input.{Input, all_spelled}
use Rattle.coap_journal.specs.Numbers.{number, short}
use Rattle.coap_journal.specs.declared.beginning.BeginError.{BeginError}
use Rattle.coap_journal.specs.declared.beginning.BeginError.TheVariants.{OtherFormat, OtherLaw, Unreadable}
use Rattle.coap_journal.specs.declared.beginning.Beginning.{Beginning}
use Rattle.coap_journal.specs.declared.beginning.Configuration.{Configuration}
use Rattle.coap_journal.specs.declared.beginning.Life.{Life}
use Rattle.coap_journal.specs.declared.beginning.Seed.{Seed}
use Rattle.coap_journal.specs.declared.beginning.TheConstants.{FORMAT as format, LAW as law}
use Rattle.coap_types.specs.declared.body_limit.TheConstants.{MAX_BODY_LIMIT as max_body_limit}
use Rattle.coap_types.specs.declared.remembered.TheConstants.{MAX_REMEMBERED as max_remembered}
use Rattle.coap_types.specs.declared.szx.TheConstants.{MAX_SZX as max_szx}

-- How the server began and its first life, in the first frame. A further life. A turn, and the latest moment
-- then: so many datagrams were taken from the server, and then it took these inputs.
pub data Record : Type 0 where
  Begun : (beginning : Beginning) (life : Life) → Record
  Woke : (life : Life) → Record
  Turn : (moment taken : ℕ) (inputs : List Input) → Record

abbrev pub life_bytes : Life → List ℕ
life_bytes l = number l.boot.high ++ (number l.boot.low ++ (number l.uptime ++ number l.moment.0))

abbrev pub configuration_bytes : Configuration → List ℕ
configuration_bytes c = short c.szx ++ (short c.limit ++ (short c.remembered ++ short c.changes))

abbrev pub seed_bytes : Seed → List ℕ
seed_bytes s = number s.word ++ (number s.key0 ++ number s.key1)

-- the number of the format and that of the law in front
abbrev pub beginning_bytes : Beginning → List ℕ
beginning_bytes b =
    short format ++ (short law ++ (configuration_bytes b.configuration ++ (seed_bytes b.seed ++ number b.base)))

-- the bytes of a record: its kind, and its parts
abbrev pub record_bytes : Record → List ℕ
record_bytes (Begun beginning life) = 7 ∷ (beginning_bytes beginning ++ life_bytes life)
record_bytes (Woke life) = 8 ∷ life_bytes life
record_bytes (Turn moment taken inputs) = 9 ∷ (number moment ++ (number taken ++ all_spelled inputs))

-- the numbers of a configuration are some that an end can have
pub record IsConfiguration (c : Configuration) : Type 0 where
  pub szx : c.szx ≤ max_szx
  pub some : 1 ≤ c.limit
  pub limit : c.limit ≤ max_body_limit
  pub one : 1 ≤ c.remembered
  pub remembered : c.remembered ≤ max_remembered

-- in the bytes of a first record the number of a format stands; in this format, that of a law
abbrev pub NamesFormat : ℕ → List ℕ → Type 0
NamesFormat n bytes = (n < 2 ^ 32) × (rest : List ℕ) × (bytes ≡ 7 ∷ (short n ++ rest))

abbrev pub NamesLaw : ℕ → List ℕ → Type 0
NamesLaw n bytes = (n < 2 ^ 32) × (rest : List ℕ) × (bytes ≡ 7 ∷ (short format ++ (short n ++ rest)))

-- no server can begin as the bytes spell
abbrev pub SpellsNone : List ℕ → Type 0
SpellsNone bytes =
    (b : Beginning) (l : Life) → IsConfiguration b.configuration → bytes ≡ record_bytes (Begun b l) → ⊥

-- Why the bytes of a first record aren't read: they are of another format, or of another law; or neither stands there,
-- and no server can begin so.
abbrev pub IsUnread : List ℕ → BeginError → Type 0
IsUnread bytes (OtherFormat n) = (n ≢ format) × NamesFormat n bytes
IsUnread bytes (OtherLaw n) = (n ≢ law) × NamesLaw n bytes
IsUnread bytes Unreadable = ((n : ℕ) → n ≢ format → NamesFormat n bytes → ⊥)
    × ((n : ℕ) → n ≢ law → NamesLaw n bytes → ⊥) × SpellsNone bytes

-- a whole frame stands in front of a file, and what it holds isn't read
abbrev pub FirstIsUnread : List ℕ → BeginError → Type 0
FirstIsUnread file why =
    (body : List ℕ) × (rest : List ℕ) × (length body < 2 ^ 32) × (file ≡ frame 0 body ++ rest) × IsUnread body why
