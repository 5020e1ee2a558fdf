-- What is wrong in the values of options, whatever subcommand takes them.
use Rattle.std.specs.Prelude.{List, ◌⊎◌, ⊤}
use Rattle.clap.specs.Words.{Row}
use Rattle.coap_arguments.specs.Addresses.{HasNoAddress}
use Rattle.coap_arguments.specs.Asking.{HasNoTags}
use Rattle.coap_arguments.specs.Plains.{IsWrongPlain}
use Rattle.coap_arguments.specs.Serving.{HasNoSetting}
use Rattle.coap_arguments.specs.Sizes.{HasNoSize}
use Rattle.coap_arguments.specs.Values.{HasNoNumber, HasNoWord}
use Rattle.coap_arguments.specs.declared.orders.Wrong.{Wrong}
use Rattle.coap_arguments.specs.declared.orders.Wrong.TheVariants.{Words, Path, Number, Word, Address, Size, Tags}
use Rattle.coap_arguments.specs.declared.orders.Wrong.TheVariants.{Setting, Body, Store, Plains, Ends, Together}
use Rattle.coap_arguments.specs.declared.orders.Wrong.TheVariants.{NoPath, Uri, Beside}
use Rattle.coap_arguments.specs.declared.orders.Wrong.TheVariants.{Hex, Memory}

-- this is wrong in them
abbrev pub IsWrongOption : List Row → Wrong → Type 0
IsWrongOption values (Words error) = ⊥
IsWrongOption values (Path refusal) = ⊥
IsWrongOption values (Number refusal) = HasNoNumber refusal values
IsWrongOption values Word = HasNoWord values
IsWrongOption values (Address refusal) = HasNoAddress refusal values
IsWrongOption values Size = HasNoSize values
IsWrongOption values (Tags refusal) = HasNoTags refusal values
IsWrongOption values (Setting refusal) = HasNoSetting refusal values
IsWrongOption values Body = ⊥
IsWrongOption values Store = ⊥
IsWrongOption values Plains = ⊥
IsWrongOption values (Ends refusal) = ⊥
IsWrongOption values (Together refusal) = ⊥
IsWrongOption values NoPath = ⊥
IsWrongOption values (Uri refusal) = ⊥
IsWrongOption values (Beside refusal) = ⊥
IsWrongOption values Hex = ⊥
IsWrongOption values Memory = ⊤

-- this is wrong in the values by which a server is set up
abbrev pub IsWrongServing : List Row → Wrong → Type 0
IsWrongServing values wrong = IsWrongOption values wrong ⊎ IsWrongPlain values wrong
