-- Which call of a message layer gives it what a datagram carries: a reply, a NON or a CON (RFC 7252, sections 4.2 and
-- 4.3).
use Rattle.std.specs.Prelude.{◌≡◌, ◌⊎◌, ℕ, ◌<◌, ◌^◌}
use Rattle.coap_types.specs.declared.message.Kind.{Kind}
use Rattle.coap_codec.specs.Message.{Spells}
use Rattle.coap_codec.specs.Spelling.{message_bytes}
use Rattle.coap_layer.specs.Trace.{Content, with_head, Packet, Call, Reply, Confirm, Plain}

-- a reply, as it is given
pub record GivesReply (p : Packet) (call : Call) : Type 0 where
  pub id : ℕ
  pub call_is : call ≡ Reply p.to id p.bytes
  pub small : id < 2 ^ 16

-- a NON or a CON with this content
pub record GivesMessage (p : Packet) (call : Call) : Type 0 where
  pub kind : Kind
  pub content : Content
  pub id : ℕ
  pub call_is : (call ≡ Plain p.to content) ⊎ ((word : ℕ) × (call ≡ Confirm p.to content word))
  pub bytes : p.bytes ≡ message_bytes (with_head kind id content)
  pub spells : Spells p.bytes (with_head kind id content)

abbrev pub Source : Packet → Call → Type 0
Source p call = GivesReply p call ⊎ GivesMessage p call
