-- The places of a link, and which place follows each byte.
use Rattle.std.specs.Prelude.{ℕ, suc, Bool, true, false, ◌==◌, List, [], ◌∷◌, Option, Some, None, if◌then◌else◌}
use Rattle.coap_link_format.specs.LinkFormat.{is_escaped, is_name, is_quoted, is_target, is_token}
use Rattle.coap_link_format.specs.declared.places.Place.{Place}
use Rattle.coap_link_format.specs.declared.places.Place.TheVariants as place

abbrev pub if_so : Bool → Place → Option Place
if_so so p = if so then Some p else None

abbrev pub after_attribute : ℕ → Option Place
after_attribute b = if_so (b == 59) place.NameBegin

-- a link may end there
abbrev pub is_end : Place → Bool
is_end place.Begin = false
is_end place.Target = false
is_end place.Behind = true
is_end place.NameBegin = false
is_end place.Name = true
is_end place.Star = false
is_end place.ExtendedBegin = false
is_end place.ValueBegin = false
is_end place.Token = true
is_end place.Quoted = false
is_end place.Escaped = false
is_end place.Closed = true

-- the place behind this byte, where it may stand there
abbrev pub next_place : Place → ℕ → Option Place
next_place place.Begin b = if_so (b == 60) place.Target
next_place place.Target b = if b == 62 then Some place.Behind else if_so (is_target b) place.Target
next_place place.Behind b = after_attribute b
next_place place.NameBegin b = if_so (is_name b) place.Name
next_place place.Name b =
    if b == 61 then Some place.ValueBegin
    else (if b == 42 then Some place.Star
    else (if b == 59 then Some place.NameBegin else if_so (is_name b) place.Name))
next_place place.Star b = if_so (b == 61) place.ExtendedBegin
next_place place.ExtendedBegin b = if_so (is_token b) place.Token
next_place place.ValueBegin b = if b == 34 then Some place.Quoted else if_so (is_token b) place.Token
next_place place.Token b = if b == 59 then Some place.NameBegin else if_so (is_token b) place.Token
next_place place.Quoted b =
    if b == 34 then Some place.Closed
    else (if b == 92 then Some place.Escaped else if_so (is_quoted b) place.Quoted)
next_place place.Escaped b = if_so (is_escaped b) place.Quoted
next_place place.Closed b = after_attribute b

abbrev pub after_step : Place → Option Place → (Place → ℕ × Place) → ℕ × Place
after_step p None onward = (0, p)
after_step p (Some q) onward = (suc (onward q).0, (onward q).1)

-- how many bytes lead on from a place, and where to
abbrev pub walked : Place → List ℕ → ℕ × Place
walked p [] = (0, p)
walked p (b ∷ bs) = after_step p (next_place p b) (λ q. walked q bs)
