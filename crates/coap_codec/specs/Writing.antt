-- The steps of the writer, on lists. Only private contracts cite them; what is written is said in Spelling.
use Rattle.std.specs.Prelude.{◌≡◌, ℕ, ◌+◌, ◌-◌, ◌^◌, ◌<◌, ◌≤◌, true, nat_lt, if◌then◌else◌, Option, Some, None, List}
use Rattle.std.specs.Prelude.{◌++◌, length, take, drop}
use Rattle.std.specs.List.{list_all}
use Rattle.coap_types.specs.CoapOption.{CoapOption}
use Rattle.coap_types.specs.declared.options.Opt.{Opt}
use Rattle.coap_codec.specs.Message.{Message, marked, Spells}
use Rattle.coap_codec.specs.Refused.{ascends, is_short}
use Rattle.coap_codec.specs.Spelling.{options_bytes, message_bytes}

-- the number is one that an option may have
abbrev pub HasNumber : Opt → Type 0
HasNumber option = option.number < 2 ^ 16

-- new is old with these bytes at this place
abbrev pub Puts : List ℕ → ℕ → List ℕ → List ℕ → Type 0
Puts old at bytes new = new ≡ take at old ++ (bytes ++ drop (at + length bytes) old)

-- how many bytes a message of this token, these options and this payload has
abbrev pub spelled_length : List ℕ → List CoapOption → List ℕ → ℕ
spelled_length token options payload = 4 + (length token + (length (options_bytes 0 options) + length (marked payload)))

-- The message can be written into this room, and what is written spells it.
pub record IsWritable (m : Message) (room : ℕ) : Type 0 where
  pub order : ascends 0 m.options ≡ true
  pub short : list_all is_short m.options ≡ true
  pub fits : length (message_bytes m) ≤ room
  pub spelled : Spells (message_bytes m) m

-- what is left of the room behind n bytes
abbrev pub room_after : ℕ → ℕ → Option ℕ
room_after room n = if nat_lt room n then None else Some (room - n)
