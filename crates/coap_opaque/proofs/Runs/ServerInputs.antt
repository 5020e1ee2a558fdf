-- Calls of a server that are handed the same leave the same, and answer the same.
use Rattle.std.proofs.Common.{◌≡◌, ℕ, Bool, Option, Some, List, ◌∷◌, Result, refl, ap, ap₂, subst, ◌∙◌}
use Rattle.coap_types.specs.declared.endpoint.Endpoint.{Endpoint}
use Rattle.coap_codec.specs.Message.{Message}
use Rattle.coap_layer.specs.Machine.State as L
use Rattle.coap_layer.specs.Machine.Steps as G
use Rattle.coap_layer.specs.Machine.Steps.{left_after}
use Rattle.coap_layer.specs.Trace as M
use Rattle.coap_layer.specs.declared.setup.Setup.{Setup}
use Rattle.coap_resource.specs.Content.{Content, Held}
use Rattle.coap_resource.specs.Limits.{Limits}
use Rattle.coap_resource.specs.declared.refusal.StoreRefusal.{StoreRefusal}
use Rattle.coap_exchange.specs.declared.answerer.Asked.{Asked}
use Rattle.coap_exchange.specs.declared.answerer.Due.{Due}
use Rattle.coap_server.specs.Follows.Exact.{IsExact, LeaveAlike}
use Rattle.coap_server.specs.Law.{ServerLaw}
use Rattle.coap_server.specs.Led.{State, state_left}
use Rattle.coap_server.specs.Trace.{Applied, Call, Delays, Feeds, Gets, Handling, NextOut, Own, Plains, Refuses}
use Rattle.coap_server.specs.Trace.{Removes, Sets, TellsApplied, Ticks}
use Rattle.coap_opaque.specs.Runs.OfServer as I
use Rattle.coap_opaque.specs.Runs.OfServer.{input_of, output_of}
use Rattle.coap_server.specs.Trace.{Forgets}

-- which call it is that is handed this

record IsSet (now : ℕ) (path : List (List ℕ)) (format : Option ℕ) (body : List ℕ) (d : Call) : Type 0 where
  answer : Result ℕ StoreRefusal
  left : Content
  is : d ≡ Sets now path format body answer left

is_set : (now : ℕ) (path : List (List ℕ)) (format : Option ℕ) (body : List ℕ) (d : Call)
    → input_of d ≡ I.Sets now path format body → IsSet now path format body d
is_set now path format body (Sets at to of with answer left) e = record { answer = answer; left = left; is = cc e }
is_set now path format body _ e = absurd (cc e)

record IsRemoval (now : ℕ) (path : List (List ℕ)) (d : Call) : Type 0 where
  answer : Result Bool StoreRefusal
  left : Content
  is : d ≡ Removes now path answer left

is_removal : (now : ℕ) (path : List (List ℕ)) (d : Call) → input_of d ≡ I.Removes now path → IsRemoval now path d
is_removal now path (Removes at to answer left) e = record { answer = answer; left = left; is = cc e }
is_removal now path _ e = absurd (cc e)

is_delay : (path : List (List ℕ)) (ms : ℕ) (d : Call) → input_of d ≡ I.Delays path ms
    → (answer : Bool) × (d ≡ Delays path ms answer)
is_delay path ms (Delays to by answer) e = (answer, cc e)
is_delay path ms _ e = absurd (cc e)

is_plain : (path : List (List ℕ)) (d : Call) → input_of d ≡ I.Plains path → (answer : Bool) × (d ≡ Plains path answer)
is_plain path (Plains to answer) e = (answer, cc e)
is_plain path _ e = absurd (cc e)

record IsFed (now : ℕ) (from : Endpoint) (bytes : List ℕ) (word : ℕ) (d : Call) : Type 0 where
  up : M.Answer
  came : Option (Asked × Message)
  handling : Handling
  below : M.Answer
  is : d ≡ Feeds now from bytes word up came handling below

is_fed : (now : ℕ) (from : Endpoint) (bytes : List ℕ) (word : ℕ) (d : Call)
    → input_of d ≡ I.Feeds now from bytes word → IsFed now from bytes word d
is_fed now from bytes word (Feeds at of with w up came h below) e =
    record { up = up; came = came; handling = h; below = below; is = cc e }
is_fed now from bytes word _ e = absurd (cc e)

record IsRefusal (now : ℕ) (from : Endpoint) (bytes : List ℕ) (word code : ℕ) (d : Call) : Type 0 where
  up : M.Answer
  came : Asked × Message
  response : Option ℕ
  below : M.Answer
  is : d ≡ Refuses now from bytes word code up came response below

is_refusal : (now : ℕ) (from : Endpoint) (bytes : List ℕ) (word code : ℕ) (d : Call)
    → input_of d ≡ I.Refuses now from bytes word code → IsRefusal now from bytes word code d
is_refusal now from bytes word code (Refuses at of with w why up p response below) e =
    record { up = up; came = p; response = response; below = below; is = cc e }
is_refusal now from bytes word code _ e = absurd (cc e)

record IsTick (now word : ℕ) (d : Call) : Type 0 where
  below : M.Answer
  room : Bool
  due : Due
  passed : ℕ
  handling : Handling
  id : ℕ
  answer : Bool
  is : d ≡ Ticks now word below room due passed handling id answer

is_tick : (now word : ℕ) (d : Call) → input_of d ≡ I.Ticks now word → IsTick now word d
is_tick now word (Ticks at w below room due passed h id answer) e = record {
  below = below;
  room = room;
  due = due;
  passed = passed;
  handling = h;
  id = id;
  answer = answer;
  is = cc e;
}
is_tick now word _ e = absurd (cc e)

is_next : (d : Call) → input_of d ≡ I.NextOut → (answer : Option M.Packet) × (d ≡ NextOut answer)
is_next (NextOut answer) e = (answer, refl)
is_next _ e = absurd (cc e)

is_look : (path : List (List ℕ)) (d : Call) → input_of d ≡ I.Gets path → (answer : Option Held) × (d ≡ Gets path answer)
is_look path (Gets to answer) e = (answer, cc e)
is_look path _ e = absurd (cc e)

is_told : (d : Call) → input_of d ≡ I.TellsApplied → (answer : List Applied) × (d ≡ TellsApplied answer)
is_told (TellsApplied answer) e = (answer, refl)
is_told _ e = absurd (cc e)

is_forgetting : (peer : Endpoint) (d : Call) → input_of d ≡ I.Forgets peer → d ≡ Forgets peer
is_forgetting peer (Forgets other) e = cc e
is_forgetting peer _ e = absurd (cc e)

module _ (limits : Limits) (szx : ℕ) (setup : Setup) (past : List Call) (exact : IsExact limits szx setup past) where
  abbrev left : Call → State
  left c = state_left limits szx setup (c ∷ past)

  abbrev Lawful : Call → Type 0
  Lawful c = ServerLaw limits szx setup (c ∷ past)

  -- calls that leave alike lead to one state
  one_left : (c d : Call) → LeaveAlike limits szx past c d → left c ≡ left d
  one_left c d alike =
      ap₂ (λ (o : Own) (asks : List G.Asked). let s : State = record
      { own = o; layer = left_after (L.start setup) asks } in s) alike.own alike.beneath

  abbrev Same : Call → Call → Type 0
  Same c d = (output_of d ≡ output_of c) × (left d ≡ left c)

  equal : (c d : Call) → d ≡ c → Same c d
  equal c d is = (ap output_of is, ap left is)

  pub same_input : (c d : Call) → input_of d ≡ input_of c → Lawful c → Lawful d → Same c d
  same_input (Sets now path format body answer to) d e law lawful =
      let k = is_set now path format body d e in
      let one = exact.sets now path format body k.answer answer k.left to (subst Lawful k.is lawful) law in
      equal (Sets now path format body answer to) d (k.is ∙ ap₂ (λ a l. Sets now path format body a l) one.0 one.1)
  same_input (Removes now path answer to) d e law lawful =
      let k = is_removal now path d e in
      let one = exact.removes now path k.answer answer k.left to (subst Lawful k.is lawful) law in
      equal (Removes now path answer to) d (k.is ∙ ap₂ (λ a l. Removes now path a l) one.0 one.1)
  same_input (Delays path ms answer) d e law lawful =
      let k = is_delay path ms d e in
      equal (Delays path ms answer) d
      (k.1 ∙ ap (λ a. Delays path ms a) (exact.delays path ms k.0 answer (subst Lawful k.1 lawful) law))
  same_input (Plains path answer) d e law lawful =
      let k = is_plain path d e in
      equal (Plains path answer) d
      (k.1 ∙ ap (λ a. Plains path a) (exact.plains path k.0 answer (subst Lawful k.1 lawful) law))
  same_input (Feeds now from bytes word up came h below) d e law lawful =
      let k = is_fed now from bytes word d e in
      let one = exact.feeds now from bytes word k.up up k.came came k.handling h k.below below
      (subst Lawful k.is lawful) law in
      (ap output_of k.is, ap left k.is ∙ one_left _ (Feeds now from bytes word up came h below) one.4)
  same_input (Refuses now from bytes word code up p response below) d e law lawful =
      let k = is_refusal now from bytes word code d e in
      let one = exact.refuses now from bytes word code k.up up (Some k.came) (Some p) k.response response k.below below
      (subst Lawful k.is lawful) law in
      (ap output_of k.is, ap left k.is ∙ one_left _ (Refuses now from bytes word code up p response below) one.3)
  same_input (Ticks now word below room due passed h id answer) d e law lawful =
      let k = is_tick now word d e in
      let one = exact.ticks now word k.below below k.room room k.due due k.passed passed k.handling h k.id id k.answer
      answer (subst Lawful k.is lawful) law in (
        ap output_of k.is ∙ ap I.Says one.4,
        ap left k.is ∙ one_left _ (Ticks now word below room due passed h id answer) one.5,
      )
  same_input (NextOut answer) d e law lawful =
      let k = is_next d e in
      equal (NextOut answer) d (k.1 ∙ ap NextOut (exact.next_out k.0 answer (subst Lawful k.1 lawful) law))
  same_input (Gets path answer) d e law lawful =
      let k = is_look path d e in
      equal (Gets path answer) d
      (k.1 ∙ ap (λ a. Gets path a) (exact.gets path k.0 answer (subst Lawful k.1 lawful) law))
  same_input (TellsApplied answer) d e law lawful =
      let k = is_told d e in
      equal (TellsApplied answer) d
      (k.1 ∙ ap TellsApplied (exact.tells_applied k.0 answer (subst Lawful k.1 lawful) law))
  same_input (Forgets peer) d e law lawful = equal (Forgets peer) d (is_forgetting peer d e)
