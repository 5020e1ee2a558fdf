-- What is told of options that are read each in turn (RFC 7252, section 3.1).
use Rattle.std.specs.Prelude.{◌≡◌, ◌≤◌, ◌+◌, ℕ, ℤ, pos, List, [], ◌∷◌, length, take, drop}
use Rattle.coap_types.specs.CoapOption.{CoapOption}
use Rattle.coap_codec.specs.Message.{Message, Spells, marked}
use Rattle.coap_options.specs.Standing.{IsNext, StandsAt}
use Rattle.coap_options.specs.declared.cursor.Cursor.{Cursor}
use Rattle.knifesilver_exchange.specs.declared.option_walk.KsOption.{KsOption}
use Rattle.knifesilver_exchange.specs.declared.option_walk.KsOptions.{KsOptions}

-- the cursor that C keeps
abbrev pub cursor_of : KsOptions → Cursor
cursor_of c = record { at = c.at; end = c.end; number = c.number }

-- one that stands at the end of no bytes
abbrev pub ended : KsOptions
ended = record { at = 0; end = 0; number = 0 }

-- it stands before all options of what the datagram spells, and its end before the payload with its marker; nothing is
-- spelled
abbrev pub Begins : List ℕ → KsOptions → Type 0
Begins datagram c = (m : Message) × Spells datagram m × StandsAt datagram (cursor_of c) m.options
    × (drop c.end datagram ≡ marked m.payload)

abbrev pub IsNoMessage : List ℕ → Type 0
IsNoMessage datagram = (m : Message) → Spells datagram m → ⊥

-- the option, whose value lies in the datagram
pub record IsTold (datagram : List ℕ) (told : KsOption) (o : CoapOption) : Type 0 where
  pub number : told.number ≡ o.number
  pub len : told.value_len ≡ length o.value
  pub within : told.value_at + told.value_len ≤ length datagram
  pub value : take told.value_len (drop told.value_at datagram) ≡ o.value

-- the option that lies ahead of the one and behind the other
abbrev pub Tells : List ℕ → KsOptions → KsOptions → KsOption → Type 0
Tells datagram old new told =
    (o : CoapOption) × IsNext datagram (cursor_of old) (cursor_of new) o × IsTold datagram told o

-- the first of these options, and the cursor stands before the others; 0 where there are none
abbrev pub TellsFirst : List ℕ → ℤ → KsOptions → KsOption → List CoapOption → Type 0
TellsFirst datagram answer new told [] = answer ≡ pos 0
TellsFirst datagram answer new told (o ∷ os) =
    (answer ≡ pos 1) × IsTold datagram told o × StandsAt datagram (cursor_of new) os
