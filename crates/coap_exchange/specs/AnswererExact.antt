-- The law leaves each call of the server's side one answer, and one of the layer beneath it.
use Rattle.std.specs.Prelude.{◌≡◌, ℕ, Bool, Option, List, ◌∷◌}
use Rattle.coap_types.specs.declared.endpoint.Endpoint.{Endpoint}
use Rattle.coap_codec.specs.Message.{Message}
use Rattle.coap_layer.specs.Trace as L
use Rattle.coap_exchange.specs.declared.answerer.Asked.{Asked}
use Rattle.coap_exchange.specs.declared.answerer.Due.{Due}
use Rattle.coap_exchange.specs.AnswererTrace.{Response, Call, Incoming, Answers, Defers, Ticks, Responds, Ready}
use Rattle.coap_exchange.specs.AnswererTrace.{Notifies, NotifiesPlain, Take}
use Rattle.coap_exchange.specs.AnswererLaw.{ResponseLaw}
use Rattle.coap_layer.specs.declared.setup.Setup.{Setup}

pub record IsExact (setup : Setup) (past : List Call) : Type 0 where
  pub incoming :
      (now : ℕ) (from : Endpoint) (bytes : List ℕ) (up other : L.Answer) (answer another : Option (Asked × Message))
      → ResponseLaw setup (Incoming now from bytes up answer ∷ past)
      → ResponseLaw setup (Incoming now from bytes other another ∷ past) → (up ≡ other) × (answer ≡ another)
  pub answers : (a : Asked) (r : Response) (below other : L.Answer) → ResponseLaw setup (Answers a r below ∷ past)
      → ResponseLaw setup (Answers a r other ∷ past) → below ≡ other
  pub defers : (now : ℕ) (a : Asked) (delay : ℕ) (answer another : Bool)
      → ResponseLaw setup (Defers now a delay answer ∷ past) → ResponseLaw setup (Defers now a delay another ∷ past)
      → answer ≡ another
  pub ticks :
      (now : ℕ) (below other : L.Answer) (room space : Bool) (answer another : Due)
      → ResponseLaw setup (Ticks now below room answer ∷ past)
      → ResponseLaw setup (Ticks now other space another ∷ past)
      → (below ≡ other) × (answer ≡ another)
  pub responds : (now : ℕ) (a : Asked) (r : Response) (w id another : ℕ)
      → ResponseLaw setup (Responds now a r w id ∷ past) → ResponseLaw setup (Responds now a r w another ∷ past)
      → id ≡ another
  pub ready : (now : ℕ) (to : Endpoint) (answer another : Bool) → ResponseLaw setup (Ready now to answer ∷ past)
      → ResponseLaw setup (Ready now to another ∷ past) → answer ≡ another
  pub notifies :
      (now : ℕ) (to : Endpoint) (token : List ℕ) (r : Response) (w id another : ℕ)
      → ResponseLaw setup (Notifies now to token r w id ∷ past)
      → ResponseLaw setup (Notifies now to token r w another ∷ past) → id ≡ another
  pub notifies_plain :
      (now : ℕ) (to : Endpoint) (token : List ℕ) (r : Response) (id another : ℕ)
      → ResponseLaw setup (NotifiesPlain now to token r id ∷ past)
      → ResponseLaw setup (NotifiesPlain now to token r another ∷ past) → id ≡ another
  pub take : (answer another : Option L.Packet) → ResponseLaw setup (Take answer ∷ past)
      → ResponseLaw setup (Take another ∷ past) → answer ≡ another
