-- A ping: an Empty Confirmable message, and the Reset that answers it (RFC 7252, sections 4.1 to 4.3).
use Rattle.std.specs.Prelude.{◌≡◌, ℕ, ◌+◌, ◌/◌, ◌%◌, Bool, List, [], ◌∷◌, if◌then◌else◌, nat_le, ◌-◌}
use Rattle.coap_types.specs.declared.endpoint.Endpoint.{Endpoint}
use Rattle.coap_types.specs.declared.message.TheConstants.{MESSAGE_IDS as message_ids}
use Rattle.coap_types.specs.declared.transmission.TheConstants.{ACK_TIMEOUT_MS as ack_timeout}
use Rattle.coap_types.specs.declared.transmission.TheConstants.{MAX_TRANSMIT_WAIT_MS as max_transmit_wait}
use Rattle.coap_types.specs.declared.transmission.TheConstants.{TIMEOUT_VALUES as timeout_values}
use Rattle.coap_layer.specs.EmptyMessages.{reset_bytes}
use Rattle.coap_layer.specs.Words.{Open}

-- version 1, type CON, no token; code 0.00; the Message ID (section 3)
abbrev pub ping_bytes : ℕ → List ℕ
ping_bytes id = 0x40 ∷ 0 ∷ id / 256 ∷ id % 256 ∷ []

-- A ping that is sent first at this moment: the word picks its Message ID and its initial timeout, from ACK_TIMEOUT to
-- one and a half times that (section 4.2).
abbrev pub begun : ℕ → Endpoint → ℕ → Open
begun now to word =
    record {
      to = to;
      id = word % message_ids;
      bytes = ping_bytes (word % message_ids);
      timeout = ack_timeout + word % timeout_values;
      first = now;
      last = now;
    }

-- it is sent again
abbrev pub sent_at : ℕ → Open → Open
sent_at now p = record p { last = now }

-- What came from there answers it: the Reset of its Message ID, and nothing else (section 4.2).
abbrev pub IsAnswer : Open → Endpoint → List ℕ → Type 0
IsAnswer p from bytes = (from ≡ p.to) × (bytes ≡ reset_bytes p.id)

-- nothing is awaited any more: MAX_TRANSMIT_WAIT has passed since it was sent first (section 4.8.2)
abbrev pub is_over : ℕ → Open → Bool
is_over now p = nat_le max_transmit_wait (now - p.first)
