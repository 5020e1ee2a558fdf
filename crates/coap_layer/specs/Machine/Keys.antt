-- How a key of what is remembered is hashed. No public clause cites this module.
use Rattle.std.specs.Prelude.{ℕ, ◌+◌, ◌*◌}
use Rattle.std.specs.Int.{from_be_bytes, w32}
use Rattle.coap_types.specs.declared.message.TheConstants.{MESSAGE_IDS as message_ids}
use Rattle.coap_layer.specs.declared.dedup.Key.{Key}
use Rattle.coap_layer.specs.declared.dedup.TheConstants.{PORTS as ports}

-- a key as one number: the address, the port and the Message ID (RFC 7252, sections 1.2 and 3)
abbrev pub packed : Key → ℕ
packed k = (from_be_bytes w32 k.from.ip * ports + k.from.port) * message_ids + k.id.0
