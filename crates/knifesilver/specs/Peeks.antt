-- What is told of a datagram that is looked at (RFC 7252, section 3).
use Rattle.std.specs.Prelude.{◌≡◌, ◌<◌, ℕ, List, length, Option, Some, None}
use Rattle.coap_types.specs.RequestPath.{path_of}
use Rattle.coap_types.specs.declared.message.Id.{Id}
use Rattle.coap_types.specs.declared.message.Kind.{Kind}
use Rattle.coap_codec.specs.Faulty.{Faulty, head_of}
use Rattle.coap_codec.specs.Message.{Message, Spells, kind_number}
use Rattle.coap_codec.specs.declared.fault.Reason.{Reason}
use Rattle.knifesilver.specs.declared.peek.KsMessage.{KsMessage}
use Rattle.coap_paths.specs.PathTexts.{IsText, text_of}
use Rattle.knifesilver.specs.ShortBytes.{AreIn}

-- its type, code, Message ID and token, how long its payload is, and its path, as text at the front of the room
abbrev pub IsTold : KsMessage → (room : List ℕ) → Message → Type 0
IsTold told room m = (told.fault_at ≡ 0) × (told.kind ≡ kind_number m.kind) × (told.code ≡ m.code) × (told.id ≡ m.id)
    × AreIn m.token told.token told.token_len × (told.payload_len ≡ length m.payload)
    × IsText (path_of m.options) room told.path_len

-- the datagram spells a message, and that is told
abbrev pub Tells : List ℕ → KsMessage → (room : List ℕ) → Type 0
Tells datagram told room = (m : Message) × Spells datagram m × IsTold told room m

-- .. or it spells one whose path as text is longer than the room
abbrev pub IsTooLong : List ℕ → (room : ℕ) → Type 0
IsTooLong datagram room = (m : Message) × Spells datagram m × (room < length (text_of (path_of m.options)))

-- the type and the Message ID, where the fault leaves them: 255 and 0 where it hides them
abbrev pub IsHead : KsMessage → Option (Kind × Id) → Type 0
IsHead told None = (told.kind ≡ 255) × (told.id ≡ 0)
IsHead told (Some head) = (told.kind ≡ kind_number head.0) × (told.id ≡ head.1.0)

-- nothing else is told of it
abbrev pub IsBare : KsMessage → Type 0
IsBare told = (told.code ≡ 0) × (told.token_len ≡ 0) × (told.path_len ≡ 0) × (told.payload_len ≡ 0)

-- the datagram has this fault as its first (section 4.2), and where it is is told
abbrev pub IsFault : List ℕ → KsMessage → Reason → Type 0
IsFault datagram told reason =
    Faulty datagram reason told.fault_at × IsHead told (head_of reason datagram) × IsBare told
