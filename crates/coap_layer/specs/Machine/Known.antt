-- What a layer knows of a message that arrives (RFC 7252, sections 4.2, 4.4 and 4.5).
use Rattle.std.specs.Prelude.{◌≡◌, ℕ}
use Rattle.coap_types.specs.declared.endpoint.Endpoint.{Endpoint}
use Rattle.coap_layer.specs.Machine.State.{State, is_free, is_full, is_outstanding, is_remembered}
use Rattle.coap_layer.specs.declared.arrival.Known.{Known}

-- of one from there, with this Message ID
pub record IsKnown (s : State) (at : ℕ) (from : Endpoint) (id : ℕ) (known : Known) : Type 0 where
  pub outstanding : known.outstanding ≡ is_outstanding from id s.open_cons
  pub remembered : known.remembered ≡ is_remembered at from id s.arrived
  pub full : known.full ≡ is_full s.most at s.arrived
  pub free : known.free ≡ is_free at s.upcoming s.last_used
