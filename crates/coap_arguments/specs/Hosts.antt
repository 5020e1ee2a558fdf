-- Where a server is: an address of IPv4, an address of IPv6 (RFC 4291, section 2.2), behind which the number of its
-- zone may stand (RFC 4007, section 11), or the name of a host (RFC 1123, section 2.1).
use Rattle.std.specs.Prelude.{ℕ, Bool, [], ◌∷◌, ◌++◌, ◌≡◌, ◌⊎◌, ◌<◌, ◌^◌, ◌==◌, ◌&&◌, ◌||◌, true, false}
use Rattle.std.specs.Prelude.{length, nat_le}
use Rattle.std.specs.List.{list_all, list_any}
use Rattle.std.specs.Net.Addr.{ipv4_octets}
use Rattle.std.specs.Net.Grammar.{IsIpv4Text, IsIpv6Text}
use Rattle.std.specs.Str.Parse.{IsNumeral, digits_value}
use Rattle.clap.specs.Words.{Text}
use Rattle.coap_arguments.specs.Marks.{before, behind, has}
use Rattle.coap_arguments.specs.declared.hosts.Address.{Address}
use Rattle.coap_arguments.specs.declared.hosts.Address.TheVariants.{Four, Six}
use Rattle.coap_arguments.specs.declared.hosts.Host.{Host}
use Rattle.coap_arguments.specs.declared.hosts.Host.TheVariants.{At, Name}
use Rattle.coap_arguments.specs.declared.hosts.TheConstants.{MAX_NAME_LEN as max_name_len}

-- the text is this address of IPv4
abbrev pub IsFourText : Text → Address → Type 0
IsFourText text (Four ip) = IsIpv4Text text ip
IsFourText text (Six ip scope) = ⊥

-- the digits are the number of a zone
abbrev pub IsZone : Text → ℕ → Type 0
IsZone digits n = IsNumeral 10 digits × (digits_value 10 digits ≡ n) × (n < 2 ^ 32)

-- they say it, or none is said, which is 0
abbrev pub IsScope : Bool → Text → ℕ → Type 0
IsScope false digits n = n ≡ 0
IsScope true digits n = IsZone digits n

-- the text is this address of IPv6; where a `%` (37) stands in it, the number of its zone stands behind
abbrev pub IsSixText : Text → Address → Type 0
IsSixText text (Four ip) = ⊥
IsSixText text (Six ip scope) = IsIpv6Text (before 37 text) ip × IsScope (has 37 text) (behind 37 text) scope

-- the text is the other in brackets
abbrev pub IsBracketed : Text → Text → Type 0
IsBracketed text inside = text ≡ 91 ∷ inside ++ 93 ∷ []

-- the text is this address; one of IPv6 may stand in brackets, as in a URI
abbrev pub IsAddressText : Text → Address → Type 0
IsAddressText text address = IsFourText text address
    ⊎ (IsSixText text address ⊎ ((inside : Text) × IsBracketed text inside × IsSixText inside address))

-- a letter; what may stand in a name: a letter, a digit, `-` (45), `.` (46) or `_` (95)
abbrev pub is_letter : ℕ → Bool
is_letter b = (nat_le 65 b && nat_le b 90) || (nat_le 97 b && nat_le b 122)

abbrev pub may_name : ℕ → Bool
may_name b = is_letter b || ((nat_le 48 b && nat_le b 57) || ((b == 45) || ((b == 46) || (b == 95))))

-- the text may be the name of a host: one without a letter is none
abbrev pub is_name : Text → Bool
is_name text = nat_le (length text) max_name_len && (list_any is_letter text && list_all may_name text)

-- the text says this host
abbrev pub IsHostText : Text → Host → Type 0
IsHostText text (At address) = IsAddressText text address
IsHostText text (Name name) = (name.now ≡ text) × (is_name text ≡ true)

-- the address of this machine to itself
abbrev pub IsLoopback : Address → Type 0
IsLoopback (Four ip) = ipv4_octets ip ≡ 127 ∷ 0 ∷ 0 ∷ 1 ∷ []
IsLoopback (Six ip scope) = ⊥

abbrev pub IsNear : Host → Type 0
IsNear (At address) = IsLoopback address
IsNear (Name name) = ⊥
