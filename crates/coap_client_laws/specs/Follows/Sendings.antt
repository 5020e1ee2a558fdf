-- What a client sends for the first time, and how often (RFC 7252, sections 4.3, 5.2 and 5.3.1).
use Rattle.std.specs.Prelude.{◌≡◌, Some, List}
use Rattle.coap_types.specs.Past.{Ever}
use Rattle.coap_types.specs.declared.endpoint.Endpoint.{Endpoint}
use Rattle.coap_codec.specs.Message.{Message, Spells}
use Rattle.coap_layer.specs.Trace as L
use Rattle.coap_layer.specs.Words.{Open, begun}

-- the call sends a Non-confirmable message
abbrev pub SendsNon : L.Entry → Type 0
SendsNon e = (to : Endpoint) × (content : L.Content) × (e.call ≡ L.Plain to content)

-- It sends none (section 4.3).
abbrev pub NoNons : List L.Entry → Type 0
NoNons t = Ever SendsNon t → ⊥

-- One CON at most has a token: what it spells is not begun again (section 5.3.1).
abbrev pub OneCon : List L.Entry → Type 0
OneCon t =
    (a b : Open) → Ever (λ e. begun e ≡ Some a) t → Ever (λ e. begun e ≡ Some b) t → (x y : Message)
    → Spells a.bytes x → Spells b.bytes y → x.token ≡ y.token → a ≡ b
