-- The law leaves each call of a client one answer, one of each layer beneath it, and one state of each after it (RFC
-- 7252, section 5.2).
use Rattle.std.specs.Prelude.{◌≡◌, ℕ, Bool, Option, List, ◌∷◌, Result}
use Rattle.coap_types.specs.declared.endpoint.Endpoint.{Endpoint}
use Rattle.coap_layer.specs.Trace as L
use Rattle.coap_layer.specs.declared.setup.Setup.{Setup}
use Rattle.coap_block.specs.Sizes.{Sizes}
use Rattle.coap_exchange.specs.declared.asker.AskRefusal.{AskRefusal}
use Rattle.coap_exchange.specs.declared.asker.Event.{Event}
use Rattle.coap_exchange.specs.declared.asker.Turn.{Turn}
use Rattle.coap_exchange.specs.AskerLaw as E
use Rattle.coap_client.specs.declared.refusals.CallRefusal.{CallRefusal}
use Rattle.coap_client.specs.declared.refusals.CancelRefusal.{CancelRefusal}
use Rattle.coap_client.specs.Trace.{Request, Reported, Requested, Call, Calls, Observes, Cancels}
use Rattle.coap_client.specs.Trace.{Forgets, Feeds, Ticks, NextOut, NextReport, Asked}
use Rattle.coap_client.specs.Law.{ClientLaw, own_of, lower_of}

-- Two calls leave the same: the client's own state, that of its exchanges, and what was asked of its message layer,
-- with each answer.
pub record LeaveAlike (server : Endpoint) (sizes : Sizes) (setup : Setup) (past : List Call) (c d : Call) : Type 0 where
  pub own : own_of sizes (c ∷ past) ≡ own_of sizes (d ∷ past)
  pub exchanges : E.own_of server setup (lower_of sizes (c ∷ past)) ≡ E.own_of server setup (lower_of sizes (d ∷ past))
  pub beneath : E.lower_of server setup (lower_of sizes (c ∷ past))
      ≡ E.lower_of server setup (lower_of sizes (d ∷ past))

-- With equal arguments, what the layers answer is equal, wherever they are asked, and so is what is answered. (What was
-- not asked, `settled`, or `sent`, `token` and `kept`, says nothing.)
pub record IsExact (server : Endpoint) (sizes : Sizes) (setup : Setup) (past : List Call) : Type 0 where
  pub calls : (now : ℕ) (r : Request) (answer another : Result ℕ CallRefusal)
      → ClientLaw server sizes setup (Calls now r answer ∷ past)
      → ClientLaw server sizes setup (Calls now r another ∷ past)
      → answer ≡ another
  pub observes : (now : ℕ) (path : List (List ℕ)) (answer another : Result ℕ CallRefusal)
      → ClientLaw server sizes setup (Observes now path answer ∷ past)
      → ClientLaw server sizes setup (Observes now path another ∷ past) → answer ≡ another
  pub cancels : (now number : ℕ) (answer another : Option CancelRefusal)
      → ClientLaw server sizes setup (Cancels now number answer ∷ past)
      → ClientLaw server sizes setup (Cancels now number another ∷ past) → answer ≡ another
  pub forgets :
      (number : ℕ) (kept left answer another : Bool) → ClientLaw server sizes setup (Forgets number kept answer ∷ past)
      → ClientLaw server sizes setup (Forgets number left another ∷ past)
      → (answer ≡ another) × LeaveAlike server sizes setup past (Forgets number kept answer)
      (Forgets number left another)
  pub feeds :
      (now : ℕ) (from : Endpoint) (bytes : List ℕ) (w : ℕ) (up other : L.Answer) (settled ended : Bool)
      (event another : Option Event) (sent gone : L.Answer) (token key : Result (List ℕ) AskRefusal)
      (kept left : Bool)
      → ClientLaw server sizes setup (Feeds now from bytes w up settled event sent token kept ∷ past)
      → ClientLaw server sizes setup (Feeds now from bytes w other ended another gone key left ∷ past)
      → (up ≡ other) × (event ≡ another) × LeaveAlike server sizes setup past
      (Feeds now from bytes w up settled event sent token kept)
      (Feeds now from bytes w other ended another gone key left)
  pub ticks :
      (now w : ℕ) (below other : L.Answer) (turn turned : Turn) (sent gone : L.Answer)
      (token key : Result (List ℕ) AskRefusal) (kept left answer another : Bool)
      → ClientLaw server sizes setup (Ticks now w below turn sent token kept answer ∷ past)
      → ClientLaw server sizes setup (Ticks now w other turned gone key left another ∷ past)
      → (below ≡ other) × (turn ≡ turned) × (answer ≡ another)
      × LeaveAlike server sizes setup past (Ticks now w below turn sent token kept answer)
      (Ticks now w other turned gone key left another)
  pub next_out : (answer another : Option L.Packet) → ClientLaw server sizes setup (NextOut answer ∷ past)
      → ClientLaw server sizes setup (NextOut another ∷ past) → answer ≡ another
  pub next_report : (answer another : Option Reported) → ClientLaw server sizes setup (NextReport answer ∷ past)
      → ClientLaw server sizes setup (NextReport another ∷ past) → answer ≡ another
  pub asked : (answer another : Option Requested) → ClientLaw server sizes setup (Asked answer ∷ past)
      → ClientLaw server sizes setup (Asked another ∷ past) → answer ≡ another
