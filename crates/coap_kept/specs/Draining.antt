-- What waits at an end is dropped: it is taken from its journal, and counted, but not sent.
use Rattle.std.specs.Prelude.{◌≡◌, List, [], ◌∷◌, if◌then◌else◌}
use Rattle.coap_layer.specs.Trace.{Packet}
use Rattle.coap_journaled.specs.Journal.{IsTaken, Journal, is_open}

-- what may go out: nothing, where an input isn't in the file
abbrev pub may_go : {S F : Type 0} → (S → List Packet) → Journal S F → List Packet
may_go waiting j = if is_open j then waiting j.end else []

-- These are taken, one after the other, and nothing else happens. (`gives` is what a datagram that is taken makes of
-- the end.)
abbrev pub Drops : {S F : Type 0} → (S → Packet → S → Type 0) → Journal S F → List Packet → Journal S F → Type 0
Drops gives old [] new = new ≡ old
Drops {S} {F} gives old (p ∷ ps) new =
    (between : Journal S F) × IsTaken old between × gives old.end p between.end × Drops gives between ps new
