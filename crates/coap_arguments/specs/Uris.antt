-- A URI in the place of PORT and PATH: `coap://HOST`, `:PORT` where one is said, and a path (RFC 7252, section 6.1; RFC
-- 3986, section 3).
use Rattle.std.specs.Prelude.{ℕ, Bool, List, [], ◌∷◌, ◌≡◌, ◌⊎◌, ◌<◌, ◌-◌, ◌^◌, ◌==◌, ◌&&◌, Any, true, false, codes}
use Rattle.std.specs.Prelude.{if◌then◌else◌, length, map}
use Rattle.std.specs.Char.{to_ascii_lowercase}
use Rattle.std.specs.Str.Parse.{IsNumeral, digits_value}
use Rattle.clap.specs.Words.{Text}
use Rattle.coap_paths.specs.Uris.{AreEscaped, IsNamed, named}
use Rattle.coap_types.specs.declared.path.TheConstants.{MAX_SEGMENT_LEN as max_segment_len}
use Rattle.coap_types.specs.declared.path.TheConstants.{MAX_SEGMENTS as max_segments}
use Rattle.coap_arguments.specs.Hosts.{IsFourText, IsSixText, is_name}
use Rattle.coap_arguments.specs.Marks.{before, behind, has, is_nothing}
use Rattle.coap_arguments.specs.declared.hosts.Host.{Host}
use Rattle.coap_arguments.specs.declared.hosts.Host.TheVariants.{At, Name}
use Rattle.coap_arguments.specs.declared.hosts.Server.{Server}
use Rattle.coap_arguments.specs.declared.orders.TheConstants.{DEFAULT_PORT as default_port}
use Rattle.coap_arguments.specs.declared.refusals.UriRefusal.{UriRefusal}
use Rattle.coap_arguments.specs.declared.refusals.UriRefusal.TheVariants as refusal

-- the text is a URI with an authority: behind its first `:` (58) stand `//` (47) and this
abbrev pub IsUri : Text → Text → Type 0
IsUri text rest = behind 58 text ≡ 47 ∷ 47 ∷ rest

-- what stands before that `:` is `coap`, in letters of either case (RFC 3986, section 3.1)
abbrev pub IsOfCoap : Text → Type 0
IsOfCoap text = map to_ascii_lowercase (before 58 text) ≡ map to_ascii_lowercase (codes "coap")

-- the authority stands before the first slash, and the path behind it (RFC 3986, sections 3.2 and 3.3)
abbrev pub authority_of : Text → Text
authority_of rest = before 47 rest

abbrev pub path_text : Text → Text
path_text rest = behind 47 rest

-- the authority begins with a bracket, `[` (91), which ends at the first `]` (93)
abbrev pub is_bracketed : Text → Bool
is_bracketed [] = false
is_bracketed (b ∷ bs) = b == 91

-- the host: what stands before the first `:` that is not in brackets (RFC 3986, section 3.2.2), and the port behind it
abbrev pub host_text : Text → Text
host_text authority = if is_bracketed authority then before 93 authority else before 58 authority

abbrev pub port_text : Text → Text
port_text authority = behind 58 (if is_bracketed authority then behind 93 authority else authority)

-- a bracket is closed, and between it and the `:` of the port nothing stands
abbrev pub is_closed : Text → Bool
is_closed authority =
    if is_bracketed authority then has 93 authority && is_nothing (before 58 (behind 93 authority)) else true

-- this host: an address of IPv4, one of IPv6, in front of which the bracket stands, or a name
abbrev pub IsUriHost : Text → Host → Type 0
IsUriHost text (At address) = IsFourText text address
    ⊎ ((inside : Text) × (text ≡ 91 ∷ inside) × IsSixText inside address)
IsUriHost text (Name name) = (name.now ≡ text) × (is_name text ≡ true)

-- the digits of a port; where there are none, it is the usual one (RFC 7252, section 6.1)
abbrev pub IsPortText : Text → ℕ → Type 0
IsPortText text port = ((text ≡ []) × (port ≡ default_port)) ⊎ (IsNumeral 10 text × (digits_value 10 text ≡ port))

-- the authority, which has no user, is this server's
pub record IsServerText (authority : Text) (server : Server) : Type 0 where
  pub closed : is_closed authority ≡ true
  pub at : IsUriHost (host_text authority) server.host
  pub on : IsPortText (port_text authority) server.port

-- Where the resource of a URI of CoAP is: at this server, and at this path (RFC 7252, section 6.4). The URI has no
-- fragment, behind `#` (35), no query, behind `?` (63), and no user, before `@` (64).
pub record IsPlace (text rest : Text) (server : Server) (path : List (List ℕ)) : Type 0 where
  pub scheme : IsOfCoap text
  pub fragment : has 35 rest ≡ false
  pub query : has 63 rest ≡ false
  pub user : has 64 (authority_of rest) ≡ false
  pub at : IsServerText (authority_of rest) server
  pub says : IsNamed (path_text rest) path

abbrev pub HasNoHost : Text → Type 0
HasNoHost authority = (host : Host) → IsUriHost (host_text authority) host → ⊥

-- the refusal is true of the authority
abbrev pub IsWrongServer : UriRefusal → Text → Type 0
IsWrongServer refusal.Six authority = (is_closed authority ≡ false)
    ⊎ ((is_bracketed authority ≡ true) × HasNoHost authority)
IsWrongServer refusal.Host authority = (is_bracketed authority ≡ false) × HasNoHost authority
IsWrongServer refusal.Port authority = (port : ℕ) → IsPortText (port_text authority) port → 2 ^ 16 - 1 < port
IsWrongServer _ authority = ⊥

-- the refusal is true of the URI
abbrev pub IsWrongUri : UriRefusal → Text → Text → Type 0
IsWrongUri refusal.Scheme text rest = IsOfCoap text → ⊥
IsWrongUri refusal.Fragment text rest = has 35 rest ≡ true
IsWrongUri refusal.Query text rest = has 63 rest ≡ true
IsWrongUri refusal.User text rest = has 64 (authority_of rest) ≡ true
IsWrongUri refusal.Six text rest = IsWrongServer refusal.Six (authority_of rest)
IsWrongUri refusal.Host text rest = IsWrongServer refusal.Host (authority_of rest)
IsWrongUri refusal.Port text rest = IsWrongServer refusal.Port (authority_of rest)
IsWrongUri refusal.Percent text rest = AreEscaped (path_text rest) → ⊥
IsWrongUri refusal.SegmentTooLong text rest = Any (λ s. max_segment_len < length s) (named (path_text rest))
IsWrongUri refusal.TooManySegments text rest = max_segments < length (named (path_text rest))
