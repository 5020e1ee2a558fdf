-- Which texts come of a datagram (RFC 7252, section 3).
use Rattle.std.specs.Prelude.{◌≡◌, ℕ, List, []}
use Rattle.coap_codec.specs.Message.{Message, Spells}
use Rattle.coap_page.specs.declared.ended.Ended.{Ended}
use Rattle.coap_page.specs.declared.ended.Ended.TheVariants as ended

-- a message that it spells is told, or the fault of one that spells none
abbrev pub IsShown : List ℕ → Ended → List ℕ → Type 0
IsShown datagram ended.Done text = (message : Message) × Spells datagram message
IsShown datagram ended.Refused text = (message : Message) → Spells datagram message → ⊥
IsShown datagram ended.Words text = ⊥
IsShown datagram ended.Small text = ⊥
IsShown datagram ended.Memory text = text ≡ []
