-- What a client replies to a response that comes in a CON (RFC 7252, sections 4.2 and 5.3.2).
use Rattle.std.specs.Prelude.{◌≡◌, ◌⊎◌, ℕ, Bool, Option, List, [], ◌∷◌, ◌++◌, Result}
use Rattle.coap_types.specs.Past.{Always}
use Rattle.coap_types.specs.declared.endpoint.Endpoint.{Endpoint}
use Rattle.coap_types.specs.declared.message.Kind.TheVariants.{Con}
use Rattle.coap_codec.specs.Message.{Message}
use Rattle.coap_layer.specs.EmptyMessages.{ack_bytes, reset_bytes}
use Rattle.coap_layer.specs.Trace as L
use Rattle.coap_layer.specs.declared.setup.Setup.{Setup}
use Rattle.coap_block.specs.Sizes.{Sizes}
use Rattle.coap_exchange.specs.declared.asker.AskRefusal.{AskRefusal}
use Rattle.coap_exchange.specs.declared.asker.Event.{Event}
use Rattle.coap_client.specs.Trace.{Call, Feeds}
use Rattle.coap_client_laws.specs.Follows.Adds.{call_adds}

-- The response is handed up, and the next entry of the message layer is the reply to it: an Empty acknowledgement or a
-- Reset with its Message ID, at that moment.
pub record RepliesNext (from : Endpoint) (bytes : List ℕ) (m : Message) (adds : List L.Entry) : Type 0 where
  pub later : List L.Entry
  pub reply : L.Entry
  pub arrival : L.Entry
  pub adds_are : adds ≡ later ++ reply ∷ arrival ∷ []
  pub came : arrival.call ≡ L.Receive from bytes
  pub up : arrival.answer ≡ L.Becomes (L.Response m)
  pub empty : List ℕ
  pub replies : reply.call ≡ L.Reply from m.id empty
  pub is_empty : (empty ≡ ack_bytes m.id) ⊎ (empty ≡ reset_bytes m.id)
  pub at_once : reply.at ≡ arrival.at

-- It replies so to each, whatever it makes of it.
abbrev pub RepliesToCons : Endpoint → (sizes : Sizes) (setup : Setup) → List Call → Type 0
RepliesToCons server sizes setup t =
    Always (λ past c. (now : ℕ) (from : Endpoint) (bytes : List ℕ) (w : ℕ) (m : Message) (settled : Bool)
    (event : Option Event) (sent : L.Answer) (token : Result (List ℕ) AskRefusal) (kept : Bool)
    → c ≡ Feeds now from bytes w (L.Becomes (L.Response m)) settled event sent token kept → m.kind ≡ Con
    → RepliesNext from bytes m (call_adds server sizes setup past c)) t
