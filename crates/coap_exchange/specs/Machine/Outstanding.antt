-- The CON that is outstanding for the exchange that runs (RFC 7252, section 4.2), and what becomes of the separate
-- responses that a server's side lists.
use Rattle.std.specs.Prelude.{◌≡◌, ◌⊎◌, ℕ, ◌&&◌, not, Option, Some, None, List, [], ◌∷◌}
use Rattle.coap_types.specs.declared.endpoint.Endpoint.{Endpoint}
use Rattle.coap_types.specs.declared.endpoint.Moment.{Moment}
use Rattle.coap_layer.specs.Machine.State as L
use Rattle.coap_layer.specs.Words.{Open}
use Rattle.coap_exchange.specs.declared.asker.Exchange.{Exchange}
use Rattle.coap_exchange.specs.declared.listed.Listed.{Listed}
use Rattle.coap_exchange.specs.declared.separate.Separate.{Separate}
use Rattle.coap_exchange.specs.AnswererSteps.{goes_to}
use Rattle.coap_exchange.specs.AskerTrace.{Call}
use Rattle.coap_exchange.specs.AskerLaw.{own_of}
use Rattle.coap_exchange.specs.AskerFollows.{Begun, last_begun}
use Rattle.coap_layer.specs.declared.setup.Setup.{Setup}

-- the request of the exchange was sent when that began, and is not acknowledged: its CON alone is outstanding
pub record IsSent (server : Endpoint) (x : Exchange) (b : Option Begun) (cs : List Open) : Type 0 where
  pub con : Open
  pub only : cs ≡ con ∷ []
  pub to_is : con.to ≡ server
  pub id_is : con.id ≡ x.id.0
  pub unheard : x.acked ≡ None
  pub begun : Begun
  pub last : b ≡ Some begun
  pub first : con.first ≡ begun.at
  pub timeout : con.timeout ≡ begun.timeout

-- it was acknowledged: nothing is outstanding
pub record IsHeard (x : Exchange) (cs : List Open) : Type 0 where
  pub none : cs ≡ []
  pub at : Moment
  pub since : x.acked ≡ Some at

-- the CONs that are outstanding are the request of the exchange that runs, or none
abbrev pub Lone : Endpoint → Option Exchange → Option Begun → List Open → Type 0
Lone server None b cs = cs ≡ []
Lone server (Some x) b cs = IsSent server x b cs ⊎ IsHeard x cs

-- the layer beneath has come as far as these calls: its clock is theirs, and what it has outstanding is their request
pub record IsBeneath (server : Endpoint) (setup : Setup) (t : List Call) (h : L.State) : Type 0 where
  pub clock : h.clock ≡ (own_of server setup t).clock
  pub lone : Lone (own_of server setup t).server (own_of server setup t).running (last_begun server setup t) h.open_cons

-- the separate response to this endpoint with this id is off the list
abbrev pub over : Endpoint → ℕ → Listed Separate → Listed Separate
over to id k = record k { now = k.now && not (goes_to to id k.entry) }
