-- The Reset of what isn't outstanding is that of the last datagram.
use Rattle.std.proofs.Common.{List, [], ◌∷◌, refl}
use Rattle.coap_exchange.specs.AnswererTrace.{Call, Incoming}
use Rattle.coap_exchange.specs.AnswererTells.{UnmatchedTold}

pub unmatched_told : (t : List Call) → UnmatchedTold t
unmatched_told [] = refl
unmatched_told (Incoming now from bytes up answer ∷ t) = refl
unmatched_told (_ ∷ t) = unmatched_told t
