-- What a server keeps of uploads in blocks (RFC 7959, section 2.5).
use Rattle.std.specs.Prelude.{ℕ, Bool, not, ◌&&◌, ◌-◌, ◌==◌, nat_le, List, [], ◌∷◌, ◌++◌, length, filter, find, Option}
use Rattle.std.specs.Prelude.{Some, None, if◌then◌else◌}
use Rattle.coap_types.specs.declared.endpoint.Endpoint.{Endpoint}
use Rattle.coap_types.specs.declared.request.Method.{Method}
use Rattle.coap_types.specs.MethodCode.{method_code}
use Rattle.coap_types.specs.Path.{same_path}
use Rattle.coap_types.specs.SameEndpoint.{same_endpoint}
use Rattle.coap_block.specs.Sizes.{Sizes}
use Rattle.coap_block.specs.declared.partial.TheConstants.{PARTIAL_LIFETIME_MS as partial_lifetime}

-- what tells an upload from the others: who sends it, and the resource and the method that it is for
pub record Key : Type 0 where
  pub from : Endpoint
  pub path : List (List ℕ)
  pub method : Method

-- methods are told apart by their codes (RFC 7252, section 12.1.1)
abbrev pub same_method : Method → Method → Bool
same_method a b = (method_code a).0 == (method_code b).0

-- equal in each part
abbrev pub same_key : Key → Key → Bool
same_key a b = same_endpoint a.from b.from && (same_path a.path b.path && same_method a.method b.method)

-- the bytes that were joined of one upload, and when the last of its blocks came
pub record PartialBody : Type 0 where
  pub key : Key
  pub bytes : List ℕ
  pub last : ℕ

-- the server's block size and its longest body, the last moment that was handed in, and a partial body for each upload
pub record AssemblyState : Type 0 where
  pub szx : ℕ
  pub limit : ℕ
  pub clock : ℕ
  pub partials : List PartialBody

abbrev pub nothing_yet : Sizes → AssemblyState
nothing_yet sizes = record { szx = sizes.szx; limit = sizes.limit; clock = 0; partials = [] }

-- at most so long ago did its last block come (EXCHANGE_LIFETIME: RFC 7252, section 4.8.2)
abbrev pub is_live : ℕ → PartialBody → Bool
is_live now p = nat_le (now - p.last) partial_lifetime

-- those of which the last block is no longer ago: the others are dropped
abbrev pub forgotten : ℕ → List PartialBody → List PartialBody
forgotten now ps = filter (is_live now) ps

-- the partial body of a key
abbrev pub partial_of : Key → List PartialBody → Option PartialBody
partial_of key ps = find (λ p. same_key p.key key) ps

-- without the partial body of that key
abbrev pub without_key : Key → List PartialBody → List PartialBody
without_key key [] = []
without_key key (p ∷ ps) = if same_key p.key key then ps else p ∷ without_key key ps

-- with this partial body, in place of one of its key
abbrev pub put : PartialBody → List PartialBody → List PartialBody
put new [] = new ∷ []
put new (p ∷ ps) = if same_key p.key new.key then new ∷ ps else p ∷ put new ps

-- the bytes that a block goes behind: block 0 begins anew
abbrev pub bytes_of : Option PartialBody → List ℕ
bytes_of None = []
bytes_of (Some p) = p.bytes

abbrev pub joined_before : Key → ℕ → List PartialBody → List ℕ
joined_before key num ps = if num == 0 then [] else bytes_of (partial_of key ps)

-- and with its payload
abbrev pub with_payload : Key → ℕ → List ℕ → List PartialBody → List ℕ
with_payload key num payload ps = joined_before key num ps ++ payload

-- the partial body of a key with a block that came then
abbrev pub body_with : Key → ℕ → List ℕ → ℕ → List PartialBody → PartialBody
body_with key num payload now ps = record { key = key; bytes = with_payload key num payload ps; last = now }

-- how many bytes there are of that key, if it has a partial body
abbrev pub reached_of : Option PartialBody → Option ℕ
reached_of None = None
reached_of (Some p) = Some (length p.bytes)

abbrev pub reached : Key → List PartialBody → Option ℕ
reached key ps = reached_of (partial_of key ps)

-- those of uploads from other endpoints, in order
abbrev pub elsewhere : Endpoint → List PartialBody → List PartialBody
elsewhere from ps = filter (λ p. not (same_endpoint p.key.from from)) ps

-- an endpoint that never comes again: its partial bodies go
abbrev pub without_peer : Endpoint → AssemblyState → AssemblyState
without_peer from s = record s { partials = elsewhere from s.partials }
