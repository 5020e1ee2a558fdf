-- A flag for each number up to that of Size1, which says whether an option of the number was seen.
use Rattle.std.specs.Prelude.{◌≡◌, ℕ, ◌<◌, ◌+◌, Bool, false, List, slice_index_or}
use Rattle.coap_types.specs.CoapOption.{CoapOption}
use Rattle.coap_types.specs.declared.option_number.TheConstants.{SIZE1 as size1}
use Rattle.coap_types.specs.Recognised.{has_number}

abbrev pub Remembers : List Bool → List CoapOption → Type 0
Remembers seen before = (number : ℕ) → number < size1 + 1 → slice_index_or seen number false ≡ has_number number before
