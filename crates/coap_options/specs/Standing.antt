-- Where the reading of options stands in a datagram (RFC 7252, section 3.1).
use Rattle.std.specs.Prelude.{◌≡◌, ◌≤◌, ◌<◌, ◌⊎◌, ◌-◌, ℕ, List, [], ◌∷◌, ◌++◌, length, take, drop, Result}
use Rattle.std.specs.Prelude.{Ok, Option, Some, None}
use Rattle.coap_types.specs.CoapOption.{CoapOption, option_of}
use Rattle.coap_types.specs.declared.options.Opt.{Opt}
use Rattle.coap_codec.specs.Extension.{Ext}
use Rattle.coap_codec.specs.Options.{IsOption, Options}
use Rattle.coap_options.specs.declared.cursor.Astray.{Astray}
use Rattle.coap_options.specs.declared.cursor.Cursor.{Cursor}

-- what lies between the cursor and the end of the options
abbrev pub ahead : List ℕ → Cursor → List ℕ
ahead datagram c = take (c.end - c.at) (drop c.at datagram)

-- both lie in the datagram, in order
pub record IsWithin (datagram : List ℕ) (c : Cursor) : Type 0 where
  pub rises : c.at ≤ c.end
  pub fits : c.end ≤ length datagram

-- The cursor stands before these options: what lies ahead is just these, behind an option of its number.
pub record StandsAt (datagram : List ℕ) (c : Cursor) (os : List CoapOption) : Type 0 where
  pub within : IsWithin datagram c
  pub options : Options c.number (ahead datagram c) os

-- The one cursor is behind the option, the other before it: what lies ahead of that is the option, and then what lies
-- ahead of this.
pub record IsNext (datagram : List ℕ) (before behind : Cursor) (o : CoapOption) : Type 0 where
  pub within : IsWithin datagram before
  pub stays : IsWithin datagram behind
  pub end : behind.end ≡ before.end
  pub number : behind.number ≡ o.number
  pub first : List ℕ
  pub option : IsOption before.number o first
  pub parts : ahead datagram before ≡ first ++ ahead datagram behind

-- no option is left
pub record IsAtEnd (datagram : List ℕ) (c : Cursor) : Type 0 where
  pub within : IsWithin datagram c
  pub end : c.at ≡ c.end

-- no bytes in front of these are an option behind one of this number
abbrev pub HasNone : ℕ → List ℕ → Type 0
HasNone base bytes = (o : CoapOption) (first rest : List ℕ) → IsOption base o first → bytes ≡ first ++ rest → ⊥

-- .. nor a number that begins with this nibble
abbrev pub SaysNone : ℕ → List ℕ → Type 0
SaysNone nibble bytes = (n : ℕ) (more rest : List ℕ) → Ext n nibble more → bytes ≡ more ++ rest → ⊥

-- The cursor stands before no options: it lies outside the datagram, or what lies ahead begins with none.
abbrev pub IsAstray : List ℕ → Cursor → Type 0
IsAstray datagram c = (IsWithin datagram c → ⊥) ⊎ ((c.at < c.end) × HasNone c.number (ahead datagram c))

-- the value of an option lies right in front of the cursor
abbrev pub IsBehind : List ℕ → Cursor → List ℕ → Type 0
IsBehind datagram c value =
    (length value ≤ c.at) × (take (length value) (drop (c.at - length value) datagram) ≡ value)

-- of these options the first is found, and the cursor stands before the others; or there is none
abbrev pub IsFirst : List ℕ → Result (Option Opt) Astray → Cursor → List CoapOption → Type 0
IsFirst datagram found c [] = found ≡ Ok None
IsFirst datagram found c (o ∷ os) =
    (first : Opt) × (found ≡ Ok (Some first)) × (option_of first ≡ o) × StandsAt datagram c os
