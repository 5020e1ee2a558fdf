-- What a server's message layer is given in a call is Empty, or carries a response that this very call made: the reply
-- to a request, a 2.31, a refusal, or a notification of what the path holds here (RFC 7252, sections 4.2 and 5.2).
use Rattle.std.specs.Prelude.{◌≡◌, ◌⊎◌, ℕ, Some, List}
use Rattle.coap_types.specs.Past.{Ever, Always}
use Rattle.coap_types.specs.declared.endpoint.Endpoint.{Endpoint}
use Rattle.coap_codec.specs.Message.{Message, Spells}
use Rattle.coap_layer.specs.Sends.{PlainOut}
use Rattle.coap_layer.specs.Trace as L
use Rattle.coap_layer.specs.Words.{Open, begun}
use Rattle.coap_layer.specs.declared.setup.Setup.{Setup}
use Rattle.coap_resource.specs.Limits.{Limits}
use Rattle.coap_server.specs.Trace.{Call}
use Rattle.coap_server_laws.specs.Follows.Adds.{call_adds}
use Rattle.coap_server_laws.specs.Follows.Gives.{IsEmpty, CarriesResponse}

module _ (limits : Limits) (szx : ℕ) (setup : Setup) where
  -- the message is Empty, or carries a response that the call made, to there
  pub record Made (to : Endpoint) (m : Message) (t : List Call) (c : Call) : Type 0 where
    pub packet : L.Packet
    pub there : packet.to ≡ to
    pub spells : Spells packet.bytes m
    pub made : IsEmpty packet ⊎ CarriesResponse limits szx setup packet t c

  -- so is each Confirmable message that begins in this call, each Non-confirmable one, and each reply
  pub record MakesWhatItGives (t : List Call) (c : Call) : Type 0 where
    pub cons : (to : Endpoint) (m : Message) (con : Open) → Ever (λ b. begun b ≡ Some con)
        (call_adds limits szx setup t c)
        → con.to ≡ to → Spells con.bytes m → Made to m t c
    pub nons : (to : Endpoint) (m : Message) (bytes : List ℕ)
        → Ever (λ b. PlainOut b (record { to = to; bytes = bytes })) (call_adds limits szx setup t c) → Spells bytes m
        → Made to m t c
    pub replies : (to : Endpoint) (m : Message) (bytes : List ℕ)
        → Ever (λ (b : L.Entry). b.call ≡ L.Reply to m.id bytes) (call_adds limits szx setup t c) → Spells bytes m
        → Made to m t c

  abbrev pub AllMadeHere : List Call → Type 0
  AllMadeHere t = Always (λ past c. MakesWhatItGives past c) t
