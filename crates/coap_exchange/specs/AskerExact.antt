-- The law leaves each call of the client's side one answer, and one of the layer beneath it.
use Rattle.std.specs.Prelude.{◌≡◌, ℕ, Bool, Option, List, ◌∷◌, Result}
use Rattle.coap_types.specs.declared.endpoint.Endpoint.{Endpoint}
use Rattle.coap_layer.specs.Trace as L
use Rattle.coap_exchange.specs.declared.asker.Event.{Event}
use Rattle.coap_exchange.specs.declared.asker.Turn.{Turn}
use Rattle.coap_exchange.specs.declared.asker.AskRefusal.{AskRefusal}
use Rattle.coap_exchange.specs.AskerTrace.{Request, Call, Ask, Receive, Ticks, Keep, Release, Take}
use Rattle.coap_exchange.specs.AskerSteps.{lower}
use Rattle.coap_exchange.specs.AskerLaw.{own_of, ExchangeLaw}
use Rattle.coap_layer.specs.declared.setup.Setup.{Setup}

pub record IsExact (server : Endpoint) (setup : Setup) (past : List Call) : Type 0 where
  pub ask :
      (now w : ℕ) (r : Request) (below other : L.Answer) (answer another : Result (List ℕ) AskRefusal)
      → ExchangeLaw server setup (Ask now r w below answer ∷ past)
      → ExchangeLaw server setup (Ask now r w other another ∷ past)
      → (below ≡ other) × (answer ≡ another)
  pub receive :
      (now : ℕ) (from : Endpoint) (bytes : List ℕ) (up other : L.Answer) (settled ended : Bool)
      (answer another : Option Event) → ExchangeLaw server setup (Receive now from bytes up settled answer ∷ past)
      → ExchangeLaw server setup (Receive now from bytes other ended another ∷ past)
      → (up ≡ other) × (answer ≡ another) × (lower (own_of server setup past) (Receive now from bytes up settled answer)
      ≡ lower (own_of server setup past) (Receive now from bytes other ended another))
  pub ticks :
      (now : ℕ) (below other : L.Answer) (answer another : Turn)
      → ExchangeLaw server setup (Ticks now below answer ∷ past)
      → ExchangeLaw server setup (Ticks now other another ∷ past)
      → (below ≡ other) × (answer ≡ another)
  pub keep : (token : List ℕ) (answer another : Bool) → ExchangeLaw server setup (Keep token answer ∷ past)
      → ExchangeLaw server setup (Keep token another ∷ past) → answer ≡ another
  pub release : (token : List ℕ) (answer another : Bool) → ExchangeLaw server setup (Release token answer ∷ past)
      → ExchangeLaw server setup (Release token another ∷ past) → answer ≡ another
  pub take : (answer another : Option L.Packet) → ExchangeLaw server setup (Take answer ∷ past)
      → ExchangeLaw server setup (Take another ∷ past) → answer ≡ another
