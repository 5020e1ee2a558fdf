-- What a message is for the layer, by what is known of it, as a function (RFC 7252, sections 4.2, 4.3 and 4.5).
use Rattle.std.specs.Prelude.{Bool, true, false}
use Rattle.coap_types.specs.declared.message.Kind.{Kind}
use Rattle.coap_types.specs.declared.message.Kind.TheVariants.{Con, Non, Ack, Rst}
use Rattle.coap_types.specs.declared.role.Role.{Role}
use Rattle.coap_types.specs.declared.role.Role.TheVariants as role
use Rattle.coap_codec.specs.Message.{Message}
use Rattle.coap_layer.specs.Trace.{Disposition, Dropped, Replayed, Rejected, Request, Response, Acked, Reset}
use Rattle.coap_layer.specs.Trace.{Unmatched}

abbrev pub again_or : (remembered full : Bool) → Disposition → Disposition
again_or true full u = Replayed
again_or false true u = Dropped
again_or false false u = u

-- by type, code, and whether a CON to there with this id is outstanding, it is remembered, the table is full, and a
-- Message ID is free
abbrev pub up_of : Kind → Role → Message → (outstanding remembered full free : Bool) → Disposition
up_of Con role.Empty m o r f i = Rejected
up_of Con role.Reserved m o r f i = Rejected
up_of Con role.Request m o r f i = again_or r f (Request m true)
up_of Con role.Response m o r f i = again_or r f (Response m)
up_of Non role.Empty m o r f i = Dropped
up_of Non role.Reserved m o r f i = Dropped
up_of Non role.Request m o r f i = again_or r f (Request m i)
up_of Non role.Response m o r f i = again_or r f (Response m)
up_of Ack role.Empty m true r f i = Acked m.id
up_of Ack role.Response m true r f i = Response m
up_of Rst role.Empty m true r f i = Reset m.id
up_of Ack role.Empty m false r f i = Dropped
up_of Ack role.Response m false r f i = Dropped
up_of Rst role.Empty m false r f i = Unmatched m.id
up_of Ack role.Request m o r f i = Dropped
up_of Ack role.Reserved m o r f i = Dropped
up_of Rst role.Request m o r f i = Dropped
up_of Rst role.Response m o r f i = Dropped
up_of Rst role.Reserved m o r f i = Dropped
