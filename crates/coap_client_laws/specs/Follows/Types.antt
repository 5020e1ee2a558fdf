-- Of which types the messages are that a client takes (RFC 7252, section 5.2; RFC 7641, section 3.5).
use Rattle.std.specs.Prelude.{◌≡◌, ◌⊎◌, Some, List}
use Rattle.coap_types.specs.Past.{Always}
use Rattle.coap_types.specs.declared.message.Kind.TheVariants.{Con, Non, Ack}
use Rattle.coap_codec.specs.Message.{Message}
use Rattle.coap_client_laws.specs.Follows.Notified.{notes}
use Rattle.coap_client.specs.Trace.{Call}
use Rattle.coap_client.specs.Sendings.{hears}

-- a notification comes in a CON or a NON; the answer to a request in these, or in an acknowledgement
pub record IsOfType (c : Call) : Type 0 where
  pub noted : (m : Message) → notes c ≡ Some m → (m.kind ≡ Con) ⊎ (m.kind ≡ Non)
  pub heard : (m : Message) → hears c ≡ Some m → (m.kind ≡ Con) ⊎ ((m.kind ≡ Non) ⊎ (m.kind ≡ Ack))

abbrev pub AreOfTypes : List Call → Type 0
AreOfTypes t = Always (λ past c. IsOfType c) t
