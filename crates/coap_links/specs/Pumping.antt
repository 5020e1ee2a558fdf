-- One turn of an end over a link: all that is out is sent, at most one datagram is received, and it is fed.
use Rattle.std.specs.Prelude.{ℕ, List, [], ◌∷◌, ◌≡◌, ◌-◌, ⊤, Option, Some, None, is_some, Result, Ok, Err, length}
use Rattle.coap_types.specs.declared.endpoint.Endpoint.{Endpoint}
use Rattle.coap_layer.specs.Trace as layer
use Rattle.coap_links.specs.Carried.{Packet}
use Rattle.coap_links.specs.declared.driver.Pumped.{Pumped}

-- Each of these datagrams, in this order, is taken from the end and then handed to the link. Nothing else happens to
-- either.
abbrev pub SendsAll : {E L : Type 0} → (E → layer.Packet → E → Type 0) → (L → Endpoint → List ℕ → L → Type 0)
    → E → L → List layer.Packet → E → L → Type 0
SendsAll gives sends e l [] f m = (f ≡ e) × (m ≡ l)
SendsAll gives sends e l (p ∷ ps) f m =
    (e1 : _) × (l1 : _) × gives e p e1 × sends l p.to p.bytes l1 × SendsAll gives sends e1 l1 ps f m

-- What came is fed; where nothing came, nothing happens to the end.
abbrev pub IsFed : {E : Type 0} → (E → ℕ → Endpoint → List ℕ → ℕ → E → Type 0) → E → ℕ → Option Packet → ℕ → E → Type 0
IsFed feeds e now None word f = f ≡ e
IsFed feeds e now (Some p) word f = feeds e now p.0 p.1 word f

-- What came is lost: its feed was refused memory, as it takes some.
abbrev pub IsLost : {E : Type 0} → (E → ℕ → Endpoint → List ℕ → Type 0) → E → ℕ → Option Packet → E → Type 0
IsLost quiet e now None f = ⊥
IsLost quiet e now (Some p) f = (quiet e now p.0 p.1 → ⊥) × (f ≡ e)

-- A feed is refused memory only where a datagram came that doesn't do without, and which is then lost.
abbrev pub IsFedOrLost : {E X : Type 0} → (E → ℕ → Endpoint → List ℕ → Type 0)
    → (E → ℕ → Endpoint → List ℕ → ℕ → E → Type 0) → E → ℕ → Option Packet → ℕ → E → Result Pumped X → Type 0
IsFedOrLost quiet feeds e now came word f (Ok p) = IsFed feeds e now came word f × (p.fed ≡ is_some came)
IsFedOrLost quiet feeds e now came word f (Err x) = IsLost quiet e now came f

-- The numbers of a turn: how many datagrams were out, and by how much the faults of the link rose.
abbrev pub IsCounted : {X : Type 0} → (out before after : ℕ) → Result Pumped X → Type 0
IsCounted out before after (Ok p) = (p.sent ≡ out) × (p.lost ≡ after - before)
IsCounted out before after (Err x) = ⊤

-- The turn: all that is out is sent, so that nothing is out; then one receive; what it gave is fed. (`quiet` is that a
-- feed takes no memory, `faults` how many calls of the link failed.)
abbrev pub Pumps : {E L X : Type 0} → (E → List layer.Packet) → (E → layer.Packet → E → Type 0)
    → (L → Endpoint → List ℕ → L → Type 0) → (L → Option Packet → L → Type 0) → (L → ℕ)
    → (E → ℕ → Endpoint → List ℕ → Type 0) → (E → ℕ → Endpoint → List ℕ → ℕ → E → Type 0)
    → E → L → ℕ → ℕ → Result Pumped X → E → L → Type 0
Pumps waiting gives sends receives faults quiet feeds e l now word result f m =
    (e1 : _) × (l1 : _) × (came : Option Packet)
    × SendsAll gives sends e l (waiting e) e1 l1 × (waiting e1 ≡ []) × receives l1 came m
    × IsFedOrLost quiet feeds e1 now came word f result
    × IsCounted (length (waiting e)) (faults l) (faults m) result
