-- Calls of a client that are handed the same leave the same, and answer the same.
use Rattle.std.proofs.Common.{◌≡◌, ℕ, Bool, Option, List, ◌∷◌, Result, refl, ap, subst, ◌∙◌}
use Rattle.coap_types.specs.declared.endpoint.Endpoint.{Endpoint}
use Rattle.coap_layer.specs.Machine.State as L
use Rattle.coap_layer.specs.Machine.Steps.{left_after}
use Rattle.coap_layer.specs.Trace as M
use Rattle.coap_layer.specs.declared.setup.Setup.{Setup}
use Rattle.coap_block.specs.Sizes.{Sizes}
use Rattle.coap_exchange.specs.declared.asker.AskRefusal.{AskRefusal}
use Rattle.coap_exchange.specs.declared.asker.Event.{Event}
use Rattle.coap_exchange.specs.declared.asker.Turn.{Turn}
use Rattle.coap_client.specs.Law.{ClientLaw}
use Rattle.coap_client.specs.Led.{State, state_left}
use Rattle.coap_client.specs.Trace.{Asked, Call, Calls, Cancels, Feeds, Forgets, NextOut, NextReport, Observes}
use Rattle.coap_client.specs.Trace.{Reported, Request, Requested, Ticks}
use Rattle.coap_client.specs.declared.refusals.CallRefusal.{CallRefusal}
use Rattle.coap_client.specs.declared.refusals.CancelRefusal.{CancelRefusal}
use Rattle.coap_client_laws.specs.Follows.Exact.{IsExact, LeaveAlike}
use Rattle.coap_opaque.specs.Runs.OfClient as I
use Rattle.coap_opaque.specs.Runs.OfClient.{input_of, output_of}

-- which call it is that is handed this

is_call : (now : ℕ) (r : Request) (d : Call) → input_of d ≡ I.Calls now r
    → (answer : Result ℕ CallRefusal) × (d ≡ Calls now r answer)
is_call now r (Calls at q answer) e = (answer, cc e)
is_call now r _ e = absurd (cc e)

is_observation : (now : ℕ) (path : List (List ℕ)) (d : Call) → input_of d ≡ I.Observes now path
    → (answer : Result ℕ CallRefusal) × (d ≡ Observes now path answer)
is_observation now path (Observes at to answer) e = (answer, cc e)
is_observation now path _ e = absurd (cc e)

is_cancel : (now number : ℕ) (d : Call) → input_of d ≡ I.Cancels now number
    → (answer : Option CancelRefusal) × (d ≡ Cancels now number answer)
is_cancel now number (Cancels at n answer) e = (answer, cc e)
is_cancel now number _ e = absurd (cc e)

record IsForgotten (number : ℕ) (d : Call) : Type 0 where
  kept : Bool
  answer : Bool
  is : d ≡ Forgets number kept answer

is_forgotten : (number : ℕ) (d : Call) → input_of d ≡ I.Forgets number → IsForgotten number d
is_forgotten number (Forgets n kept answer) e = record { kept = kept; answer = answer; is = cc e }
is_forgotten number _ e = absurd (cc e)

record IsFed (now : ℕ) (from : Endpoint) (bytes : List ℕ) (word : ℕ) (d : Call) : Type 0 where
  up : M.Answer
  settled : Bool
  event : Option Event
  sent : M.Answer
  token : Result (List ℕ) AskRefusal
  kept : Bool
  is : d ≡ Feeds now from bytes word up settled event sent token kept

is_fed : (now : ℕ) (from : Endpoint) (bytes : List ℕ) (word : ℕ) (d : Call)
    → input_of d ≡ I.Feeds now from bytes word → IsFed now from bytes word d
is_fed now from bytes word (Feeds at of with w up settled event sent token kept) e = record {
  up = up;
  settled = settled;
  event = event;
  sent = sent;
  token = token;
  kept = kept;
  is = cc e;
}
is_fed now from bytes word _ e = absurd (cc e)

record IsTick (now word : ℕ) (d : Call) : Type 0 where
  below : M.Answer
  turn : Turn
  sent : M.Answer
  token : Result (List ℕ) AskRefusal
  kept : Bool
  answer : Bool
  is : d ≡ Ticks now word below turn sent token kept answer

is_tick : (now word : ℕ) (d : Call) → input_of d ≡ I.Ticks now word → IsTick now word d
is_tick now word (Ticks at w below turn sent token kept answer) e = record {
  below = below;
  turn = turn;
  sent = sent;
  token = token;
  kept = kept;
  answer = answer;
  is = cc e;
}
is_tick now word _ e = absurd (cc e)

is_next : (d : Call) → input_of d ≡ I.NextOut → (answer : Option M.Packet) × (d ≡ NextOut answer)
is_next (NextOut answer) e = (answer, refl)
is_next _ e = absurd (cc e)

is_report : (d : Call) → input_of d ≡ I.NextReport → (answer : Option Reported) × (d ≡ NextReport answer)
is_report (NextReport answer) e = (answer, refl)
is_report _ e = absurd (cc e)

is_asked : (d : Call) → input_of d ≡ I.Asked → (answer : Option Requested) × (d ≡ Asked answer)
is_asked (Asked answer) e = (answer, refl)
is_asked _ e = absurd (cc e)

module _ (server : Endpoint) (sizes : Sizes) (setup : Setup) (past : List Call)
    (exact : IsExact server sizes setup past) where
  abbrev left : Call → State
  left c = state_left server sizes setup (c ∷ past)

  abbrev Lawful : Call → Type 0
  Lawful c = ClientLaw server sizes setup (c ∷ past)

  -- calls that leave alike lead to one state
  one_left : (c d : Call) → LeaveAlike server sizes setup past c d → left c ≡ left d
  one_left c d alike =
      let own = alike.own in
      let exchanges = alike.exchanges in
      let layer = ap (left_after (L.start setup)) alike.beneath in
      λ i. record { own = own i; layer = record { own = exchanges i; layer = layer i } }

  abbrev Same : Call → Call → Type 0
  Same c d = (output_of d ≡ output_of c) × (left d ≡ left c)

  equal : (c d : Call) → d ≡ c → Same c d
  equal c d is = (ap output_of is, ap left is)

  pub same_input : (c d : Call) → input_of d ≡ input_of c → Lawful c → Lawful d → Same c d
  same_input (Calls now r answer) d e law lawful =
      let k = is_call now r d e in
      equal (Calls now r answer) d
      (k.1 ∙ ap (λ a. Calls now r a) (exact.calls now r k.0 answer (subst Lawful k.1 lawful) law))
  same_input (Observes now path answer) d e law lawful =
      let k = is_observation now path d e in
      equal (Observes now path answer) d
      (k.1 ∙ ap (λ a. Observes now path a) (exact.observes now path k.0 answer (subst Lawful k.1 lawful) law))
  same_input (Cancels now number answer) d e law lawful =
      let k = is_cancel now number d e in
      equal (Cancels now number answer) d
      (k.1 ∙ ap (λ a. Cancels now number a) (exact.cancels now number k.0 answer (subst Lawful k.1 lawful) law))
  same_input (Forgets number kept answer) d e law lawful =
      let k = is_forgotten number d e in
      let one = exact.forgets number k.kept kept k.answer answer (subst Lawful k.is lawful) law in
      (ap output_of k.is ∙ ap I.Says one.0, ap left k.is ∙ one_left _ (Forgets number kept answer) one.1)
  same_input (Feeds now from bytes word up settled event sent token kept) d e law lawful =
      let k = is_fed now from bytes word d e in
      let one = exact.feeds now from bytes word k.up up k.settled settled k.event event k.sent sent k.token token k.kept
      kept (subst Lawful k.is lawful) law in (
        ap output_of k.is,
        ap left k.is ∙ one_left _ (Feeds now from bytes word up settled event sent token kept) one.2,
      )
  same_input (Ticks now word below turn sent token kept answer) d e law lawful =
      let k = is_tick now word d e in
      let one = exact.ticks now word k.below below k.turn turn k.sent sent k.token token k.kept kept k.answer answer
      (subst Lawful k.is lawful) law in (
        ap output_of k.is ∙ ap I.Says one.2,
        ap left k.is ∙ one_left _ (Ticks now word below turn sent token kept answer) one.3,
      )
  same_input (NextOut answer) d e law lawful =
      let k = is_next d e in
      equal (NextOut answer) d (k.1 ∙ ap NextOut (exact.next_out k.0 answer (subst Lawful k.1 lawful) law))
  same_input (NextReport answer) d e law lawful =
      let k = is_report d e in
      equal (NextReport answer) d (k.1 ∙ ap NextReport (exact.next_report k.0 answer (subst Lawful k.1 lawful) law))
  same_input (Asked answer) d e law lawful =
      let k = is_asked d e in
      equal (Asked answer) d (k.1 ∙ ap Asked (exact.asked k.0 answer (subst Lawful k.1 lawful) law))
