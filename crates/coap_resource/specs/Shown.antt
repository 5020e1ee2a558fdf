-- A representation as the specification sees it.
use Rattle.std.specs.Prelude.{Option, Some, None}
use Rattle.coap_resource.specs.declared.representation.Representation.{Representation}
use Rattle.coap_resource.specs.Content.{Held}

abbrev pub held_of : {A : Type 0} → Representation A → Held
held_of r = record { version = r.version; format = r.format; body = r.body }

abbrev pub shown : {A : Type 0} → Option (Representation A) → Option Held
shown None = None
shown (Some r) = Some (record { version = r.version; format = r.format; body = r.body })
