-- What goes out of a server that went on after a silence (RFC 7252, section 4.2).
use Rattle.std.specs.Prelude.{◌≡◌, Some, List, ◌++◌}
use Rattle.coap_types.specs.Past.{Ever}
use Rattle.coap_layer.specs.Sends.{CopyOut, FirstOut, PlainOut, ReplyOut, ResetOut, StoredOut}
use Rattle.coap_layer.specs.Trace.{Entry, Packet}
use Rattle.coap_layer.specs.Words.{begun}

-- A datagram that goes out is made now, or is a copy of a Confirmable message that was begun after the silence, or is
-- the reply that was given to what arrives again. (`past` is what was before the silence, and `later` what was since.)
pub data GoesAnew (past later : List Entry) (e : Entry) (p : Packet) : Type 0 where
  first : FirstOut e p → GoesAnew past later e p
  copy : (c : CopyOut (later ++ past) e p) → Ever (λ b. begun b ≡ Some c.con) later → GoesAnew past later e p
  plain : PlainOut e p → GoesAnew past later e p
  reply : ReplyOut (later ++ past) e p → GoesAnew past later e p
  stored : StoredOut (later ++ past) e p → GoesAnew past later e p
  reset : ResetOut e p → GoesAnew past later e p
