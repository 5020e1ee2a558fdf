-- What bytes say, as a function (RFC 7252, section 3): the message that they spell, or their first fault and its place.
-- The law `one_reading` says that it is just that, so whoever cites it need not know the steps (Reading).
use Rattle.std.specs.Prelude.{◌≡◌, ℕ, List, Some, None, Result, Ok, Err}
use Rattle.coap_codec.specs.Faulty.{head_of}
use Rattle.coap_codec.specs.Message.{Message}
use Rattle.coap_codec.specs.Reading.{frame_fault, body_at}
use Rattle.coap_codec.specs.declared.fault.Fault.{Fault}
use Rattle.coap_codec.specs.declared.fault.Reason.{Reason}

unfoldable pub decoded : List ℕ → Result Message (Reason × ℕ)
decoded bytes = elim (frame_fault bytes) [ Some fault ↦ Err fault | None ↦ body_at bytes ]

-- an answer of `decode` says that
abbrev pub Reads : List ℕ → Result Message Fault → Type 0
Reads bytes (Ok m) = decoded bytes ≡ Ok m
Reads bytes (Err f) = (decoded bytes ≡ Err (f.reason, f.at)) × (f.head ≡ head_of f.reason bytes)
