-- What a datagram was that the message layer made a request, a response or a Reset of (RFC 7252, sections 4.2 and 4.3).
use Rattle.std.specs.Prelude.{◌≡◌, ◌⊎◌, ℕ, Bool, true, List}
use Rattle.coap_types.specs.Roles.{role_of}
use Rattle.coap_types.specs.declared.endpoint.Endpoint.{Endpoint}
use Rattle.coap_types.specs.declared.message.Kind.TheVariants.{Con, Non, Rst}
use Rattle.coap_types.specs.declared.role.Role.TheVariants as role
use Rattle.coap_codec.specs.Message.{Message, Spells}
use Rattle.coap_layer.specs.Machine.State.{State, is_free, is_outstanding}
use Rattle.coap_layer.specs.Trace.{Disposition, Request, Response, Reset}

-- a Reset of what is outstanding
pub record IsReset (outstanding : ℕ → Bool) (bytes : List ℕ) (id : ℕ) : Type 0 where
  pub message : Message
  pub spelled : Spells bytes message
  pub kind : message.kind ≡ Rst
  pub class : role_of message.code ≡ role.Empty
  pub id_is : message.id ≡ id
  pub awaited : outstanding id ≡ true

-- a NON is remembered where a Message ID is free
abbrev pub Became : (outstanding : ℕ → Bool) (free : Bool) (bytes : List ℕ) → Disposition → Type 0
Became outstanding free bytes (Request m kept) =
    Spells bytes m × (((m.kind ≡ Con) × (kept ≡ true)) ⊎ ((m.kind ≡ Non) × (kept ≡ free)))
Became outstanding free bytes (Response m) = Spells bytes m × (role_of m.code ≡ role.Response)
Became outstanding free bytes (Reset id) = IsReset outstanding bytes id
Became outstanding free bytes _ = Unit {0}

abbrev pub Arrived : State → ℕ → Endpoint → List ℕ → Disposition → Type 0
Arrived s at from bytes d =
    Became (λ id. is_outstanding from id s.open_cons) (is_free at s.upcoming s.last_used) bytes d
