-- What a table of names says of the peers of a socket of IPv6.
use Rattle.std.specs.Prelude.{◌≡◌, ◌&&◌, ◌==◌, nat_eq, ℕ, max, Bool, is_some, if◌then◌else◌, Option, Some, None}
use Rattle.std.specs.Prelude.{Result, Ok, Err}
use Rattle.std.specs.Cmp.Lexicographic.{pointwise}
use Rattle.coap_types.specs.declared.endpoint.Endpoint.{Endpoint}
use Rattle.coap_names.specs.Steps.{Step}
use Rattle.coap_names.specs.Tables.{State, keyed, named}
use Rattle.coap_names.specs.Trace.{Did, Full, NameOf, Named, Sent, Spent}
use Rattle.coap_names.specs.declared.names.NamesRefusal.{NamesRefusal}
use Rattle.coap_names.specs.declared.names.NamesRefusal.TheVariants as refusal
use Rattle.coap_links.specs.Sockets.{is_of_this_network}
use Rattle.coap_links.specs.declared.peer_names.SixPeer.{SixPeer}

-- two peers are the same
abbrev pub same_peer : SixPeer → SixPeer → Bool
same_peer a b = pointwise nat_eq a.ip b.ip && ((a.port == b.port) && (a.scope == b.scope))

abbrev pub Table : Type 0
Table = State SixPeer

-- A datagram came from this peer, and the table answers so, which is a step of it. One that is refused memory is the
-- very table that it was, in which the peer had no name.
abbrev pub Answers : Table → ℕ → SixPeer → Result Endpoint NamesRefusal → Table → Type 0
Answers old now peer (Ok name) new = Step same_peer old (max old.clock now) (NameOf peer) (Named name) new
Answers old now peer (Err refusal.Full) new = Step same_peer old (max old.clock now) (NameOf peer) Full new
Answers old now peer (Err refusal.Spent) new = Step same_peer old (max old.clock now) (NameOf peer) Spent new
Answers old now peer (Err refusal.Memory) new = (named same_peer old peer ≡ None) × (new ≡ old)

-- the name of an answer, where it is one of "this network"
abbrev pub name_in : Result Endpoint NamesRefusal → Option Endpoint
name_in (Ok name) = if is_of_this_network name.ip then Some name else None
name_in (Err refusal) = None

-- the peer's name is that of the table's answer
abbrev pub IsNameOf : Table → ℕ → SixPeer → Option Endpoint → Table → Type 0
IsNameOf old now peer name new =
    (answer : Result Endpoint NamesRefusal) × Answers old now peer answer new × (name ≡ name_in answer)

-- a datagram goes to the peer that has this name
pub record IsSentTo (old : Table) (now : ℕ) (name : Endpoint) (peer : Option SixPeer) (new : Table) : Type 0 where
  pub key : peer ≡ keyed old name
  pub step : Step same_peer old (max old.clock now) (Sent name) (Did (is_some peer)) new

-- A table that is shared names a peer so; it names none while it is lent to another.
pub data NamesPeer (lent : Type 0) (now : ℕ) (peer : SixPeer) (name : Option Endpoint) : Type 0 where
  by_table : (old new : Table) → IsNameOf old now peer name new → NamesPeer lent now peer name
  while_lent : lent → name ≡ None → NamesPeer lent now peer name

-- .. has that peer for a name to which a datagram goes
pub data SendsToName (lent : Type 0) (now : ℕ) (name : Endpoint) (peer : Option SixPeer) : Type 0 where
  to_peer : (old new : Table) → IsSentTo old now name peer new → SendsToName lent now name peer
  to_none : lent → peer ≡ None → SendsToName lent now name peer

-- .. tells that peer of a name
pub data TellsPeer (lent : Type 0) (name : Endpoint) (peer : Option SixPeer) : Type 0 where
  of_table : (s : Table) → peer ≡ keyed s name → TellsPeer lent name peer
  of_none : lent → peer ≡ None → TellsPeer lent name peer
