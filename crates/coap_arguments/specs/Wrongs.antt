-- What an error of a crate below is among those of this one, and the numbers of these.
use Rattle.std.specs.Prelude.{◌≡◌, ◌≢◌, ℕ}
use Rattle.clap.specs.Words.{kind_of}
use Rattle.clap.specs.declared.error.Error.{Error}
use Rattle.clap.specs.declared.error.kind.ErrorKind.TheVariants as kind
use Rattle.coap_types.specs.declared.path.PathRefusal.{PathRefusal}
use Rattle.coap_types.specs.declared.path.PathRefusal.TheVariants as refusal
use Rattle.hex.specs.declared.FromHexError.{FromHexError}
use Rattle.hex.specs.declared.FromHexError.TheVariants as hex
use Rattle.coap_arguments.specs.declared.orders.Wrong.{Wrong}
use Rattle.coap_arguments.specs.declared.orders.Wrong.TheVariants.{Words, Path, Number, Word, Address, Size, Tags}
use Rattle.coap_arguments.specs.declared.orders.Wrong.TheVariants.{Setting, Body, Store, Plains, Ends, Together}
use Rattle.coap_arguments.specs.declared.orders.Wrong.TheVariants.{NoPath, Uri, Beside}
use Rattle.coap_arguments.specs.declared.orders.Wrong.TheVariants.{Hex, Memory}

-- the number of a refusal: that of the words has a text for each cause
abbrev pub wrong_number : Wrong → ℕ
wrong_number (Words error) = 1
wrong_number (Path refusal) = 1
wrong_number (Number refusal) = 1
wrong_number Word = 1
wrong_number (Address refusal) = 1
wrong_number Size = 1
wrong_number (Tags refusal) = 1
wrong_number (Setting refusal) = 1
wrong_number Body = 1
wrong_number Store = 1
wrong_number Plains = 1
wrong_number (Ends refusal) = 1
wrong_number (Together refusal) = 1
wrong_number NoPath = 1
wrong_number (Uri refusal) = 1
wrong_number (Beside refusal) = 1
wrong_number Hex = 2
wrong_number Memory = 3

-- an error of clap is handed on as it is, but for want of memory, which stays that
abbrev pub IsWrongOfClap : Error → Wrong → Type 0
IsWrongOfClap error (Words own) = (own ≡ error) × (kind_of error ≢ kind.OutOfMemory)
IsWrongOfClap error Memory = kind_of error ≡ kind.OutOfMemory
IsWrongOfClap error (Path refusal) = ⊥
IsWrongOfClap error (Number refusal) = ⊥
IsWrongOfClap error Word = ⊥
IsWrongOfClap error (Address refusal) = ⊥
IsWrongOfClap error Size = ⊥
IsWrongOfClap error (Tags refusal) = ⊥
IsWrongOfClap error (Setting refusal) = ⊥
IsWrongOfClap error Body = ⊥
IsWrongOfClap error Store = ⊥
IsWrongOfClap error Plains = ⊥
IsWrongOfClap error (Ends refusal) = ⊥
IsWrongOfClap error (Together refusal) = ⊥
IsWrongOfClap error NoPath = ⊥
IsWrongOfClap error (Uri refusal) = ⊥
IsWrongOfClap error (Beside refusal) = ⊥
IsWrongOfClap error Hex = ⊥

abbrev pub wrong_path : PathRefusal → Wrong
wrong_path refusal.Memory = Memory
wrong_path refusal.SegmentTooLong = Path refusal.SegmentTooLong
wrong_path refusal.TooManySegments = Path refusal.TooManySegments

abbrev pub wrong_hex : FromHexError → Wrong
wrong_hex hex.OutOfMemory = Memory
wrong_hex _ = Hex
