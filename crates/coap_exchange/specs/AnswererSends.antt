-- What the server's side sends: a response goes to where its request came from, with its token, and a CON begins only
-- where none is outstanding (RFC 7252, sections 4.7, 5.2 and 5.3.2; RFC 7641, section 4.2).
use Rattle.std.specs.Prelude.{◌≡◌, ◌≢◌, ℕ, true, Option, Some, None, List, [], ◌∷◌, IfSome}
use Rattle.coap_types.specs.Past.{Always}
use Rattle.coap_types.specs.declared.endpoint.Endpoint.{Endpoint}
use Rattle.coap_types.specs.declared.message.Kind.{Kind}
use Rattle.coap_types.specs.declared.message.Kind.TheVariants.{Con, Non, Ack}
use Rattle.coap_codec.specs.Message.{Message, Spells}
use Rattle.coap_layer.specs.Rows.{Busy}
use Rattle.coap_layer.specs.Trace.{Entry}
use Rattle.coap_layer.specs.declared.setup.Setup.{Setup}
use Rattle.coap_exchange.specs.AnswererTrace.{Response, Call, Answers, Responds, Ready, Notifies, NotifiesPlain}
use Rattle.coap_exchange.specs.AnswererLaw.{below_of}

-- the message that carries a response or a notification
abbrev pub carrying : Kind → ℕ → List ℕ → Response → Message
carrying kind id token r =
    record { kind = kind; code = r.code; id = id; token = token; options = r.options; payload = r.payload }

-- a call of the message layer sends this message there, and nothing else
pub record SendsThere (e : Entry) (to : Endpoint) (m : Message) : Type 0 where
  pub bytes : List ℕ
  pub out : e.out ≡ record { to = to; bytes = bytes } ∷ []
  pub spells : Spells bytes m

-- .. and it is the one call of that layer that this call makes
pub record SendsOne (setup : Setup) (past : List Call) (c : Call) (to : Endpoint) (m : Message) : Type 0 where
  pub entry : Entry
  pub makes : below_of setup (c ∷ past) ≡ entry ∷ below_of setup past
  pub sends : SendsThere entry to m

-- A response goes to the endpoint of its request and carries its token: in the acknowledgement of a CON, whose
-- Message ID it has (section 5.2.1); to a NON in a NON (5.2.3); later in a CON (5.2.2). A notification goes in a CON
-- or a NON to its observer, with the token of the registration (RFC 7641, sections 4.2 and 4.5).
abbrev pub GoesBack : Setup → List Call → Call → Type 0
GoesBack setup past (Answers a r below) =
    (a.kind ≡ Con → SendsOne setup past (Answers a r below) a.from (carrying Ack a.id.0 a.token r))
    × (a.kind ≢ Con → (id : ℕ) × SendsOne setup past (Answers a r below) a.from (carrying Non id a.token r))
GoesBack setup past (Responds now a r w id) =
    SendsOne setup past (Responds now a r w id) a.from (carrying Con id a.token r)
GoesBack setup past (Notifies now to token r w id) =
    SendsOne setup past (Notifies now to token r w id) to (carrying Con id token r)
GoesBack setup past (NotifiesPlain now to token r id) =
    SendsOne setup past (NotifiesPlain now to token r id) to (carrying Non id token r)
GoesBack setup past _ = Unit {0}

abbrev pub AllGoBack : Setup → List Call → Type 0
AllGoBack setup trace = Always (GoesBack setup) trace

-- the endpoint to which a call begins a CON
abbrev pub begins : Call → Option Endpoint
begins (Responds now a r word id) = Some a.from
begins (Notifies now to token r word id) = Some to
begins _ = None

-- A separate response and a notification begin only where no CON to that endpoint is outstanding (NSTART is 1,
-- section 4.7).
abbrev pub BeginAlone : Setup → List Call → Type 0
BeginAlone setup trace = Always (λ past c. IfSome (begins c) (λ to. Busy (below_of setup past) to → ⊥)) trace

-- An endpoint is said to be ready only where no CON to it is outstanding. What is sent to it behind that, as a
-- notification in a NON, goes out alone too.
abbrev pub ReadyAlone : Setup → List Call → Type 0
ReadyAlone setup trace =
    Always (λ past c. (now : ℕ) (to : Endpoint) → c ≡ Ready now to true → Busy (below_of setup past) to → ⊥) trace
