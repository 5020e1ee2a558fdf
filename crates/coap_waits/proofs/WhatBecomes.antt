-- What becomes of a request, from the calls of its client to the status of the program.
use Rattle.std.proofs.Common.{◌≡◌, ◌++◌, ◌∷◌, [], ℕ, Bool, List, Option, Result, Ok, Err, IfOk, OnOk, subst, sym}
use Rattle.coap_types.specs.declared.endpoint.Endpoint.{Endpoint}
use Rattle.coap_layer.specs.declared.setup.Setup.{Setup}
use Rattle.coap_block.specs.Sizes.{Sizes}
use Rattle.coap_client.specs.Led.{Led, State}
use Rattle.coap_client.specs.Object.Shown.{number_of, shown_report}
use Rattle.coap_client.specs.Trace.{Call, Calls, Request}
use Rattle.coap_client.specs.declared.client.report.CallId.{CallId}
use Rattle.coap_client.specs.declared.refusals.CallRefusal.{CallRefusal}
use Rattle.coap_client.proofs.Facts.EachCall.{led_client}
use Rattle.coap_waits.specs.Asks.{Becomes, Chain, Comes, status_after, takes_report}
use Rattle.coap_waits.specs.JsonLines.{Tells, WritesRequest}
use Rattle.coap_waits.specs.declared.calling.Outcome.{Outcome}
use Rattle.coap_waits.specs.declared.calling.Outcome.TheVariants.{GaveUp, Refused, Reported}
use Rattle.coap_status.specs.declared.status.Status.{Status}
use Rattle.coap_status.specs.declared.status.Stop.{Stop}

module _ (server : Endpoint) (sizes : Sizes) (setup : Setup) where
  -- calls behind others that led to a state
  pub led_on : (t calls : List Call) (old new : State) → Led server sizes setup t old → Chain old calls new
      → Led server sizes setup (calls ++ t) new
  led_on t [] old new led h = subst (Led server sizes setup t) (sym h) led
  led_on t (c ∷ calls) old new led h =
      led_client server sizes setup (calls ++ t) c h.0 new (led_on t calls old h.0 led h.1) h.2

  -- turns behind a call for the request, and one more
  led_through : (first last earlier : List Call) (old waited turned : State) → Led server sizes setup first old
      → Chain old earlier waited → Chain waited last turned → Led server sizes setup (last ++ (earlier ++ first)) turned
  led_through first last earlier old waited turned led h k =
      led_on (earlier ++ first) last waited turned (led_on first earlier old waited led h) k

  -- a request that was taken, and what its calls came to
  comes_becomes : (now : ℕ) (request : Request) (give_up : Option ℕ) (number : ℕ) (outcome : Outcome) (s : State)
      → Led server sizes setup (Calls now request (Ok number) ∷ []) s
      → Comes give_up now s number outcome → Becomes server sizes setup give_up request outcome
  comes_becomes now request give_up number (Refused why) s led h = absurd h
  comes_becomes now request give_up number (Reported report) s led h =
      let first : List Call = Calls now request (Ok number) ∷ [] in (
        now,
        number,
        h.2,
        h.4.0,
        h.1.0,
        h.5,
        h.4.1,
        h.1.1,
        led_client server sizes setup (h.4.0 ++ (h.1.0 ++ first)) (takes_report number (shown_report report)) h.3 h.5
            (led_through first h.4.0 h.1.0 s h.0 h.3 led h.1.2 h.4.2) h.6,
      )
  comes_becomes now request give_up number (GaveUp seconds) s led h =
      let first : List Call = Calls now request (Ok number) ∷ [] in (
        h.0,
        now,
        number,
        h.3,
        h.4,
        h.6.0,
        h.2.0,
        h.5,
        h.6.1,
        h.2.1,
        led_through first h.6.0 h.2.0 s h.1 h.5 led h.2.2 h.6.2,
      )

  pub refused_becomes : (now : ℕ) (request : Request) (give_up : Option ℕ) (answer : Result CallId CallRefusal)
      (why : CallRefusal) (s : State) → answer ≡ Err why
      → Led server sizes setup (Calls now request (number_of answer) ∷ []) s
      → Becomes server sizes setup give_up request (Refused why)
  refused_becomes now request give_up answer why s is led = (
    now,
    s,
    subst (λ (a : Result CallId CallRefusal). Led server sizes setup (Calls now request (number_of a) ∷ []) s) is led,
  )

-- the same, by what the client answered
pub taken_becomes : (Leads : Endpoint → Sizes → Setup → Type 0) (now : ℕ) (request : Request) (give_up : Option ℕ)
    (answer : Result CallId CallRefusal) (id : CallId) (s : State) (ended : Result Outcome Stop) → answer ≡ Ok id
    → ((server : Endpoint) (sizes : Sizes) (w : Setup) → Leads server sizes w
    → Led server sizes w (Calls now request (number_of answer) ∷ []) s)
    → IfOk ended (Comes give_up now s id.0)
    → IfOk ended (λ outcome. (server : Endpoint) (sizes : Sizes) (w : Setup) → Leads server sizes w
    → Becomes server sizes w give_up request outcome)
taken_becomes Leads now request give_up answer id s (Ok outcome) is led h = λ server sizes w leads.
    comes_becomes server sizes w now request give_up id.0 outcome s
    (subst (λ (a : Result CallId CallRefusal). Led server sizes w (Calls now request (number_of a) ∷ []) s) is
    (led server sizes w leads)) h
taken_becomes Leads now request give_up answer id s (Err stop) is led h = tt

-- ---- a program that ends

-- the status is told of what became of it
pub told : (Leads : Endpoint → Sizes → Setup → Type 0) (Comes : Endpoint → Sizes → Setup → Outcome → Type 0)
    (status : Outcome → Status) (outcome : Outcome) (ended : Result Status Stop)
    → ((server : Endpoint) (sizes : Sizes) (w : Setup) → Leads server sizes w → Comes server sizes w outcome)
    → IfOk ended (λ s. s ≡ status outcome)
    → IfOk ended (λ s. (server : Endpoint) (sizes : Sizes) (w : Setup) → Leads server sizes w
    → (of : Outcome) × Comes server sizes w of × (s ≡ status of))
told Leads Comes status outcome (Ok s) becomes is = λ server sizes w led. (outcome, becomes server sizes w led, is)
told Leads Comes status outcome (Err stop) becomes is = tt

-- .. and told so
pub told_as : (Leads : Endpoint → Sizes → Setup → Type 0) (json : Bool) (before after : Option (List ℕ))
    (give_up : Option ℕ) (request : Request) (outcome : Outcome) (ended : Result Status Stop)
    → ((server : Endpoint) (sizes : Sizes) (w : Setup) → Leads server sizes w
    → Becomes server sizes w give_up request outcome)
    → IfOk ended (λ s. s ≡ status_after request.method outcome)
    → OnOk ended (WritesRequest json request.method before after outcome)
    → IfOk ended (λ s. (server : Endpoint) (sizes : Sizes) (w : Setup) → Leads server sizes w
    → Tells json before after server sizes w give_up request s)
told_as Leads json before after give_up request outcome (Ok s) becomes is written =
    λ server sizes w led. (outcome, becomes server sizes w led, is, written)
told_as Leads json before after give_up request outcome (Err stop) becomes is written = tt

-- by a client that began so
pub began : (Leads : Endpoint → Sizes → Setup → Type 0) (Is : Endpoint → Sizes → Setup → Status → Type 0)
    (ended : Result Status Stop) (server : Endpoint) (sizes : Sizes) (setup : Setup) → Leads server sizes setup
    → IfOk ended (λ s. (server : Endpoint) (sizes : Sizes) (w : Setup) → Leads server sizes w → Is server sizes w s)
    → IfOk ended (Is server sizes setup)
began Leads Is (Ok s) server sizes setup led is = is server sizes setup led
began Leads Is (Err stop) server sizes setup led is = tt
