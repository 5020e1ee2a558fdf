-- The law leaves each call of a server one answer, one of each layer beneath it, and one state of each after it.
use Rattle.std.specs.Prelude.{◌≡◌, ℕ, Bool, Option, Some, List, ◌∷◌, Result}
use Rattle.coap_types.specs.declared.endpoint.Endpoint.{Endpoint}
use Rattle.coap_codec.specs.Message.{Message}
use Rattle.coap_layer.specs.Trace as L
use Rattle.coap_layer.specs.declared.setup.Setup.{Setup}
use Rattle.coap_resource.specs.Content.{Content, Held}
use Rattle.coap_resource.specs.declared.refusal.StoreRefusal.{StoreRefusal}
use Rattle.coap_resource.specs.Limits.{Limits}
use Rattle.coap_exchange.specs.declared.answerer.Asked.{Asked}
use Rattle.coap_exchange.specs.declared.answerer.Due.{Due}
use Rattle.coap_exchange.specs.AnswererLaw as E
use Rattle.coap_server.specs.Trace.{Applied, Own, Handling, Call, Sets, Removes, Delays, Feeds, Ticks}
use Rattle.coap_server.specs.Trace.{NextOut, Gets, Plains, TellsApplied}
use Rattle.coap_server.specs.Handling.{incoming, ticking, heard}
use Rattle.coap_server.specs.Refusing.{refused_or_fed}
use Rattle.coap_server.specs.Asks.{answering, responding}
use Rattle.coap_server.specs.Law.{ServerLaw, own_of, lower_of}

-- the server when its exchanges took a datagram, and a turn
module _ (limits : Limits) (szx : ℕ) (past : List Call) where
  abbrev pub fed : ℕ → Endpoint → List ℕ → L.Answer → Option (Asked × Message) → Own
  fed now from bytes up came = heard (own_of limits szx past) now
      (incoming (own_of limits szx past) now from bytes up came)

  abbrev pub turned : ℕ → L.Answer → Bool → Due → Own
  turned now below room d = heard (own_of limits szx past) now (ticking (own_of limits szx past) now below room d)

-- Two calls leave the same: what the server and its exchanges keep, and what was asked of the message layer, with each
-- answer.
pub record LeaveAlike (limits : Limits) (szx : ℕ) (past : List Call) (c d : Call) : Type 0 where
  pub own : own_of limits szx (c ∷ past) ≡ own_of limits szx (d ∷ past)
  pub beneath : E.lower_of (lower_of limits szx (c ∷ past)) ≡ E.lower_of (lower_of limits szx (d ∷ past))

-- With equal arguments, what the layers answer is equal, wherever they are asked, and so are what becomes of a request
-- and what is answered. (What was not asked, `below`, or `room`, `passed` and `id`, says nothing.)
pub record IsExact (limits : Limits) (szx : ℕ) (setup : Setup) (past : List Call) : Type 0 where
  pub sets :
      (now : ℕ) (path : List (List ℕ)) (format : Option ℕ) (body : List ℕ) (answer another : Result ℕ StoreRefusal)
      (left other : Content) → ServerLaw limits szx setup (Sets now path format body answer left ∷ past)
      → ServerLaw limits szx setup (Sets now path format body another other ∷ past) → (answer ≡ another)
      × (left ≡ other)
  pub removes :
      (now : ℕ) (path : List (List ℕ)) (answer another : Result Bool StoreRefusal) (left other : Content)
      → ServerLaw limits szx setup (Removes now path answer left ∷ past)
      → ServerLaw limits szx setup (Removes now path another other ∷ past) → (answer ≡ another) × (left ≡ other)
  pub delays : (path : List (List ℕ)) (ms : ℕ) (answer another : Bool)
      → ServerLaw limits szx setup (Delays path ms answer ∷ past)
      → ServerLaw limits szx setup (Delays path ms another ∷ past) → answer ≡ another
  pub plains : (path : List (List ℕ)) (answer another : Bool)
      → ServerLaw limits szx setup (Plains path answer ∷ past)
      → ServerLaw limits szx setup (Plains path another ∷ past) → answer ≡ another
  pub feeds :
      (now : ℕ) (from : Endpoint) (bytes : List ℕ) (w : ℕ) (up other : L.Answer) (came come : Option (Asked × Message))
      (h k : Handling) (below beyond : L.Answer)
      → ServerLaw limits szx setup (Feeds now from bytes w up came h below ∷ past)
      → ServerLaw limits szx setup (Feeds now from bytes w other come k beyond ∷ past)
      → (up ≡ other) × (came ≡ come) × (h ≡ k)
      × (answering (fed limits szx past now from bytes up came) came h below
      ≡ answering (fed limits szx past now from bytes other come) come k beyond)
      × LeaveAlike limits szx past (Feeds now from bytes w up came h below) (Feeds now from bytes w other come k beyond)
  pub refuses :
      (now : ℕ) (from : Endpoint) (bytes : List ℕ) (w code : ℕ) (up other : L.Answer)
      (came come : Option (Asked × Message)) (response another : Option ℕ) (below beyond : L.Answer)
      → ServerLaw limits szx setup (refused_or_fed now from bytes w code up came response below ∷ past)
      → ServerLaw limits szx setup (refused_or_fed now from bytes w code other come another beyond ∷ past)
      → (up ≡ other) × (came ≡ come) × ((p : Asked × Message) → came ≡ Some p → response ≡ another)
      × LeaveAlike limits szx past (refused_or_fed now from bytes w code up came response below)
      (refused_or_fed now from bytes w code other come another beyond)
  pub ticks :
      (now w : ℕ) (below other : L.Answer) (room space : Bool) (d due : Due) (passed skipped : ℕ) (h k : Handling)
      (id number : ℕ) (answer another : Bool)
      → ServerLaw limits szx setup (Ticks now w below room d passed h id answer ∷ past)
      → ServerLaw limits szx setup (Ticks now w other space due skipped k number another ∷ past)
      → (below ≡ other) × (d ≡ due) × (h ≡ k)
      × (responding (turned limits szx past now below room d) d passed h w id
      ≡ responding (turned limits szx past now other space due) due skipped k w number) × (answer ≡ another)
      × LeaveAlike limits szx past (Ticks now w below room d passed h id answer)
      (Ticks now w other space due skipped k number another)
  pub next_out : (answer another : Option L.Packet) → ServerLaw limits szx setup (NextOut answer ∷ past)
      → ServerLaw limits szx setup (NextOut another ∷ past) → answer ≡ another
  pub gets : (path : List (List ℕ)) (answer another : Option Held)
      → ServerLaw limits szx setup (Gets path answer ∷ past)
      → ServerLaw limits szx setup (Gets path another ∷ past) → answer ≡ another
  pub tells_applied : (answer another : List Applied) → ServerLaw limits szx setup (TellsApplied answer ∷ past)
      → ServerLaw limits szx setup (TellsApplied another ∷ past) → answer ≡ another
