-- The same turns make one server.
use Rattle.std.proofs.Common.{◌≡◌, ◌↔◌, Bool, Result, ℕ, List, [], ◌∷◌, ◌++◌, length, Option, Some, None, refl, sym, ap}
use Rattle.std.proofs.Common.{subst, ◌∙◌, arith}
use Rattle.coap_types.specs.declared.endpoint.Endpoint.{Endpoint}
use Rattle.coap_codec.specs.Message.{Message}
use Rattle.coap_layer.specs.Trace.{Packet}
use Rattle.coap_layer.specs.Trace as L2
use Rattle.coap_layer.specs.Machine.State as L
use Rattle.coap_layer.specs.Machine.Steps as G
use Rattle.coap_layer.specs.Machine.Steps.{left_after}
use Rattle.coap_layer.specs.declared.setup.Setup.{Setup}
use Rattle.coap_resource.specs.Limits.{Limits}
use Rattle.coap_resource.specs.Content.{Content}
use Rattle.coap_resource.specs.declared.refusal.StoreRefusal.{StoreRefusal}
use Rattle.coap_exchange.specs.AnswererLaw as X
use Rattle.coap_exchange.specs.declared.answerer.Asked.{Asked}
use Rattle.coap_exchange.specs.declared.answerer.Due.{Due}
use Rattle.coap_server.specs.Follows.Exact.{IsExact, LeaveAlike}
use Rattle.coap_server.specs.Law.{ServerLaw, lower_of, own_of}
use Rattle.coap_server.specs.Led.{Led, State, Step, state_left}
use Rattle.coap_server.specs.Trace.{Call, Delays, Feeds, Gets, Handling, NextOut, Own, Plains, Removes, Sets}
use Rattle.coap_server.specs.Trace.{Forgets, Refuses, TellsApplied, Ticks}
use Rattle.coap_server.proofs.Facts.EachCall.{led_further, led_lawful}
use Rattle.coap_journal.specs.Input.{Input, Feed, Forget, Refuse, Tick, Set, Remove, Delay, Plain}
use Rattle.coap_journal.specs.Records.{Begun, Record, Turn, Woke}
use Rattle.coap_replay.specs.Replaying.{GivesOut, Replays, Takes, TakesAll, Turned, input_of}
use Rattle.coap_replay_laws.proofs.Leading.{gives_leads, turn_leads}

-- calls of equal inputs, with the same answers

sets_same : (now : ℕ) (path : List (List ℕ)) (format : Option ℕ) (body : List ℕ) (now' : ℕ) (path' : List (List ℕ))
    (format' : Option ℕ) (body' : List ℕ) (answer : Result ℕ StoreRefusal) (left : Content)
    → Some (Set now path format body) ≡ Some (Set now' path' format' body')
    → Sets now' path' format' body' answer left ≡ Sets now path format body answer left
sets_same now path format body now' path' format' body' answer left e = cc

removes_same : (now : ℕ) (path : List (List ℕ)) (now' : ℕ) (path' : List (List ℕ)) (answer : Result Bool StoreRefusal)
    (left : Content) → Some (Remove now path) ≡ Some (Remove now' path')
    → Removes now' path' answer left ≡ Removes now path answer left
removes_same now path now' path' answer left e = cc

delays_same : (path : List (List ℕ)) (ms : ℕ) (path' : List (List ℕ)) (ms' : ℕ) (answer : Bool) → Some (Delay path ms)
    ≡ Some (Delay path' ms')
    → Delays path' ms' answer ≡ Delays path ms answer
delays_same path ms path' ms' answer e = cc

plains_same : (path : List (List ℕ)) (path' : List (List ℕ)) (answer : Bool) → Some (Plain path) ≡ Some (Plain path')
    → Plains path' answer ≡ Plains path answer
plains_same path path' answer e = cc

feeds_same : (now : ℕ) (from : Endpoint) (bytes : List ℕ) (word : ℕ) (now' : ℕ) (from' : Endpoint) (bytes' : List ℕ)
    (word' : ℕ) (up : L2.Answer) (came : Option (Asked × Message)) (h : Handling) (below : L2.Answer)
    → Some (Feed now from bytes word) ≡ Some (Feed now' from' bytes' word')
    → Feeds now' from' bytes' word' up came h below ≡ Feeds now from bytes word up came h below
feeds_same now from bytes word now' from' bytes' word' up came h below e = cc

refuses_same : (now : ℕ) (from : Endpoint) (bytes : List ℕ) (word code now' : ℕ) (from' : Endpoint) (bytes' : List ℕ)
    (word' code' : ℕ) (up : L2.Answer) (p : Asked × Message) (response : Option ℕ) (below : L2.Answer)
    → Some (Refuse now from bytes word code) ≡ Some (Refuse now' from' bytes' word' code')
    → Refuses now' from' bytes' word' code' up p response below ≡ Refuses now from bytes word code up p response below
refuses_same now from bytes word code now' from' bytes' word' code' up p response below e = cc

ticks_same : (now : ℕ) (word : ℕ) (now' : ℕ) (word' : ℕ) (below : L2.Answer) (room : Bool) (due : Due) (passed : ℕ)
    (h : Handling) (id : ℕ) (answer : Bool) → Some (Tick now word) ≡ Some (Tick now' word')
    → Ticks now' word' below room due passed h id answer ≡ Ticks now word below room due passed h id answer
ticks_same now word now' word' below room due passed h id answer e = cc

forgets_same : (peer peer' : Endpoint) → Some (Forget peer) ≡ Some (Forget peer') → Forgets peer ≡ Forgets peer'
forgets_same peer peer' e = cc

module _ (limits : Limits) (szx : ℕ) (setup : Setup)
    (exact : (past : List Call) → IsExact limits szx setup past)
    (left : (t : List Call) → ServerLaw limits szx setup t → (s : State)
    → Led limits szx setup t s ↔ (s ≡ state_left limits szx setup t)) where
  Lawful : List Call → Type 0
  Lawful t = ServerLaw limits szx setup t

  -- calls that leave alike lead to one state
  one_left : (past : List Call) (c d : Call) → LeaveAlike limits szx past c d
      → state_left limits szx setup (c ∷ past) ≡ state_left limits szx setup (d ∷ past)
  one_left past c d alike =
      ap (λ (o : Own). record {
        own = o;
        layer = left_after (L.start setup)
            (X.lower_of (lower_of limits szx (c ∷ past)));
      })
      alike.own
      ∙ ap (λ (asks : List G.Asked). record {
        own = own_of limits szx (d ∷ past);
        layer = left_after (L.start setup)
            asks;
      })
      alike.beneath

  -- calls with one input
  alike : (past : List Call) (c d : Call) (input : Input) → input_of c ≡ Some input → input_of d ≡ Some input
      → ServerLaw limits szx setup (c ∷ past) → ServerLaw limits szx setup (d ∷ past)
      → state_left limits szx setup (c ∷ past) ≡ state_left limits szx setup (d ∷ past)
  alike past c d input is other law lawful = by c d (is ∙ sym other) (some c input is) law lawful
    where
      IsSome : Option Input → Type 0
      IsSome None = ⊥
      IsSome (Some x) = Unit {0}

      some : (c : Call) (input : Input) → input_of c ≡ Some input → IsSome (input_of c)
      some c input is = subst IsSome (sym is) tt

      by : (c d : Call) → input_of c ≡ input_of d → IsSome (input_of c) → ServerLaw limits szx setup (c ∷ past)
          → ServerLaw limits szx setup (d ∷ past)
          → state_left limits szx setup (c ∷ past) ≡ state_left limits szx setup (d ∷ past)
      by (Sets now path format body answer left) (Sets now' path' format' body' answer' left') e s law lawful =
          let same : (Sets now' path' format' body' answer' left')
          ≡ (Sets now path format body answer' left') = sets_same now path format body now' path' format' body'
          answer' left' e in
          let one = (exact past).sets now path format body answer answer' left left' law
          (subst (λ (x : Call). ServerLaw limits szx setup (x ∷ past)) same lawful) in
          ap (λ (x : _). state_left limits szx setup (Sets now path format body x left ∷ past)) one.0
          ∙ ap (λ (x : _). state_left limits szx setup (Sets now path format body answer' x ∷ past)) one.1
          ∙ ap (λ (x : Call). state_left limits szx setup (x ∷ past)) (sym same)
      by (Sets now path format body answer left) (Removes now' path' answer' left') e s law lawful = absurd cc
      by (Sets now path format body answer left) (Delays path' ms' answer') e s law lawful = absurd cc
      by (Sets now path format body answer left) (Plains path' answer') e s law lawful = absurd cc
      by (Sets now path format body answer left) (Feeds now' from' bytes' word' up' came' h' below') e s law lawful
          = absurd cc
      by (Sets now path format body answer left) (Ticks now' word' below' room' due' passed' h' id' answer') e s law
          lawful = absurd cc
      by (Sets now path format body answer left) (NextOut answer') e s law lawful = absurd cc
      by (Sets now path format body answer left) (Gets path' answer') e s law lawful = absurd cc
      by (Sets now path format body answer left) (TellsApplied answer') e s law lawful = absurd cc
      by (Sets now path format body answer left)
          (Refuses now' from' bytes' word' code' up' p' response' below') e s law lawful =
          absurd cc
      by (Removes now path answer left) (Sets now' path' format' body' answer' left') e s law lawful = absurd cc
      by (Removes now path answer left) (Removes now' path' answer' left') e s law lawful =
          let same : (Removes now' path' answer' left') ≡ (Removes now path answer' left') = removes_same now path now'
          path' answer' left' e in
          let one = (exact past).removes now path answer answer' left left' law
          (subst (λ (x : Call). ServerLaw limits szx setup (x ∷ past)) same lawful) in
          ap (λ (x : _). state_left limits szx setup (Removes now path x left ∷ past)) one.0
          ∙ ap (λ (x : _). state_left limits szx setup (Removes now path answer' x ∷ past)) one.1
          ∙ ap (λ (x : Call). state_left limits szx setup (x ∷ past)) (sym same)
      by (Removes now path answer left) (Delays path' ms' answer') e s law lawful = absurd cc
      by (Removes now path answer left) (Plains path' answer') e s law lawful = absurd cc
      by (Removes now path answer left) (Feeds now' from' bytes' word' up' came' h' below') e s law lawful = absurd cc
      by (Removes now path answer left) (Ticks now' word' below' room' due' passed' h' id' answer') e s law lawful
          = absurd cc
      by (Removes now path answer left) (NextOut answer') e s law lawful = absurd cc
      by (Removes now path answer left) (Gets path' answer') e s law lawful = absurd cc
      by (Removes now path answer left) (TellsApplied answer') e s law lawful = absurd cc
      by (Removes now path answer left) (Refuses now' from' bytes' word' code' up' p' response' below') e s law lawful =
          absurd cc
      by (Delays path ms answer) (Sets now' path' format' body' answer' left') e s law lawful = absurd cc
      by (Delays path ms answer) (Removes now' path' answer' left') e s law lawful = absurd cc
      by (Delays path ms answer) (Delays path' ms' answer') e s law lawful =
          let same : (Delays path' ms' answer') ≡ (Delays path ms answer') = delays_same path ms path' ms' answer' e in
          let one = (exact past).delays path ms answer answer' law
          (subst (λ (x : Call). ServerLaw limits szx setup (x ∷ past)) same lawful) in
          ap (λ (x : _). state_left limits szx setup (Delays path ms x ∷ past)) one
          ∙ ap (λ (x : Call). state_left limits szx setup (x ∷ past)) (sym same)
      by (Delays path ms answer) (Plains path' answer') e s law lawful = absurd cc
      by (Delays path ms answer) (Feeds now' from' bytes' word' up' came' h' below') e s law lawful = absurd cc
      by (Delays path ms answer) (Ticks now' word' below' room' due' passed' h' id' answer') e s law lawful = absurd cc
      by (Delays path ms answer) (NextOut answer') e s law lawful = absurd cc
      by (Delays path ms answer) (Gets path' answer') e s law lawful = absurd cc
      by (Delays path ms answer) (TellsApplied answer') e s law lawful = absurd cc
      by (Delays path ms answer) (Refuses now' from' bytes' word' code' up' p' response' below') e s law lawful =
          absurd cc
      by (Plains path answer) (Sets now' path' format' body' answer' left') e s law lawful = absurd cc
      by (Plains path answer) (Removes now' path' answer' left') e s law lawful = absurd cc
      by (Plains path answer) (Delays path' ms' answer') e s law lawful = absurd cc
      by (Plains path answer) (Plains path' answer') e s law lawful =
          let same : (Plains path' answer') ≡ (Plains path answer') = plains_same path path' answer' e in
          let one = (exact past).plains path answer answer' law
          (subst (λ (x : Call). ServerLaw limits szx setup (x ∷ past)) same lawful) in
          ap (λ (x : _). state_left limits szx setup (Plains path x ∷ past)) one
          ∙ ap (λ (x : Call). state_left limits szx setup (x ∷ past)) (sym same)
      by (Plains path answer) (Feeds now' from' bytes' word' up' came' h' below') e s law lawful = absurd cc
      by (Plains path answer) (Ticks now' word' below' room' due' passed' h' id' answer') e s law lawful = absurd cc
      by (Plains path answer) (NextOut answer') e s law lawful = absurd cc
      by (Plains path answer) (Gets path' answer') e s law lawful = absurd cc
      by (Plains path answer) (TellsApplied answer') e s law lawful = absurd cc
      by (Plains path answer) (Refuses now' from' bytes' word' code' up' p' response' below') e s law lawful =
          absurd cc
      by (Feeds now from bytes word up came h below) (Sets now' path' format' body' answer' left') e s law lawful
          = absurd cc
      by (Feeds now from bytes word up came h below) (Removes now' path' answer' left') e s law lawful = absurd cc
      by (Feeds now from bytes word up came h below) (Delays path' ms' answer') e s law lawful = absurd cc
      by (Feeds now from bytes word up came h below) (Plains path' answer') e s law lawful = absurd cc
      by (Feeds now from bytes word up came h below) (Feeds now' from' bytes' word' up' came' h' below') e s law lawful
          =
          let same : (Feeds now' from' bytes' word' up' came' h' below')
          ≡ (Feeds now from bytes word up' came' h' below') = feeds_same now from bytes word now' from' bytes' word'
          up' came' h' below' e in
          let one = (exact past).feeds now from bytes word up up' came came' h h' below below' law
          (subst (λ (x : Call). ServerLaw limits szx setup (x ∷ past)) same lawful) in
          one_left past (Feeds now from bytes word up came h below) (Feeds now from bytes word up' came' h' below')
          one.4
          ∙ ap (λ (x : Call). state_left limits szx setup (x ∷ past)) (sym same)
      by (Feeds now from bytes word up came h below) (Ticks now' word' below' room' due' passed' h' id' answer') e s law
          lawful = absurd cc
      by (Feeds now from bytes word up came h below) (NextOut answer') e s law lawful = absurd cc
      by (Feeds now from bytes word up came h below) (Gets path' answer') e s law lawful = absurd cc
      by (Feeds now from bytes word up came h below) (TellsApplied answer') e s law lawful = absurd cc
      by (Feeds now from bytes word up came h below)
          (Refuses now' from' bytes' word' code' up' p' response' below') e s law lawful =
          absurd cc
      by (Ticks now word below room due passed h id answer) (Sets now' path' format' body' answer' left') e s law lawful
          = absurd cc
      by (Ticks now word below room due passed h id answer) (Removes now' path' answer' left') e s law lawful = absurd
          cc
      by (Ticks now word below room due passed h id answer) (Delays path' ms' answer') e s law lawful = absurd cc
      by (Ticks now word below room due passed h id answer) (Plains path' answer') e s law lawful = absurd cc
      by (Ticks now word below room due passed h id answer) (Feeds now' from' bytes' word' up' came' h' below') e s law
          lawful = absurd cc
      by (Ticks now word below room due passed h id answer) (Ticks now' word' below' room' due' passed' h' id' answer')
          e s law lawful =
          let same : (Ticks now' word' below' room' due' passed' h' id' answer')
          ≡ (Ticks now word below' room' due' passed' h' id' answer') = ticks_same now word now' word' below' room'
          due' passed' h' id' answer' e in
          let one = (exact past).ticks now word below below' room room' due due' passed passed' h h' id id' answer
          answer' law (subst (λ (x : Call). ServerLaw limits szx setup (x ∷ past)) same lawful) in
          one_left past (Ticks now word below room due passed h id answer)
          (Ticks now word below' room' due' passed' h' id' answer') one.5
          ∙ ap (λ (x : Call). state_left limits szx setup (x ∷ past)) (sym same)
      by (Ticks now word below room due passed h id answer) (NextOut answer') e s law lawful = absurd cc
      by (Ticks now word below room due passed h id answer) (Gets path' answer') e s law lawful = absurd cc
      by (Ticks now word below room due passed h id answer) (TellsApplied answer') e s law lawful = absurd cc
      by (Ticks now word below room due passed h id answer)
          (Refuses now' from' bytes' word' code' up' p' response' below') e s law lawful =
          absurd cc
      by (Refuses now from bytes word code up p response below)
          (Sets now' path' format' body' answer' left') e s law lawful =
          absurd cc
      by (Refuses now from bytes word code up p response below) (Removes now' path' answer' left') e s law lawful =
          absurd cc
      by (Refuses now from bytes word code up p response below) (Delays path' ms' answer') e s law lawful =
          absurd cc
      by (Refuses now from bytes word code up p response below) (Plains path' answer') e s law lawful =
          absurd cc
      by (Refuses now from bytes word code up p response below)
          (Feeds now' from' bytes' word' up' came' h' below') e s law lawful =
          absurd cc
      by (Refuses now from bytes word code up p response below)
          (Ticks now' word' below' room' due' passed' h' id' answer') e s law lawful =
          absurd cc
      by (Refuses now from bytes word code up p response below) (NextOut answer') e s law lawful =
          absurd cc
      by (Refuses now from bytes word code up p response below) (Gets path' answer') e s law lawful =
          absurd cc
      by (Refuses now from bytes word code up p response below) (TellsApplied answer') e s law lawful =
          absurd cc
      by (Refuses now from bytes word code up p response below)
          (Refuses now' from' bytes' word' code' up' p' response' below') e s law lawful =
          let same : (Refuses now' from' bytes' word' code' up' p' response' below')
          ≡ (Refuses now from bytes word code up' p' response' below') =
          refuses_same now from bytes word code now' from' bytes' word' code' up' p' response' below' e in
          let one = (exact past).refuses now from bytes word code up up' (Some p) (Some p') response response' below
          below' law (subst (λ (x : Call). ServerLaw limits szx setup (x ∷ past)) same lawful) in
          one_left past (Refuses now from bytes word code up p response below)
          (Refuses now from bytes word code up' p' response' below') one.3
          ∙ ap (λ (x : Call). state_left limits szx setup (x ∷ past)) (sym same)
      by (Sets now path format body answer left) (Forgets peer') e s law lawful = absurd cc
      by (Removes now path answer left) (Forgets peer') e s law lawful = absurd cc
      by (Delays path ms answer) (Forgets peer') e s law lawful = absurd cc
      by (Plains path answer) (Forgets peer') e s law lawful = absurd cc
      by (Feeds now from bytes word up came h below) (Forgets peer') e s law lawful = absurd cc
      by (Refuses now from bytes word code up p response below) (Forgets peer') e s law lawful = absurd cc
      by (Ticks now word below room due passed h id answer) (Forgets peer') e s law lawful = absurd cc
      by (Forgets peer) (Sets now' path' format' body' answer' left') e s law lawful = absurd cc
      by (Forgets peer) (Removes now' path' answer' left') e s law lawful = absurd cc
      by (Forgets peer) (Delays path' ms' answer') e s law lawful = absurd cc
      by (Forgets peer) (Plains path' answer') e s law lawful = absurd cc
      by (Forgets peer) (Feeds now' from' bytes' word' up' came' h' below') e s law lawful = absurd cc
      by (Forgets peer) (Refuses now' from' bytes' word' code' up' p' response' below') e s law lawful = absurd cc
      by (Forgets peer) (Ticks now' word' below' room' due' passed' h' id' answer') e s law lawful = absurd cc
      by (Forgets peer) (NextOut answer') e s law lawful = absurd cc
      by (Forgets peer) (Gets path' answer') e s law lawful = absurd cc
      by (Forgets peer) (TellsApplied answer') e s law lawful = absurd cc
      by (Forgets peer) (Forgets peer') e s law lawful =
          ap (λ (x : Call). state_left limits szx setup (x ∷ past)) (forgets_same peer peer' e)
      by (NextOut answer) d e s law lawful = absurd s
      by (Gets path answer) d e s law lawful = absurd s
      by (TellsApplied answer) d e s law lawful = absurd s

  -- a step by one input
  takes_one : (t : List Call) (old new other : State) (input : Input) → Led limits szx setup t old → Takes old input new
      → Takes old input other → new ≡ other
  takes_one t old new other input led a b =
      let led_a = led_further limits szx setup t a.call old new led a.step in
      let led_b = led_further limits szx setup t b.call old other led b.step in
      let law_a = led_lawful limits szx setup (a.call ∷ t) new led_a in
      let law_b = led_lawful limits szx setup (b.call ∷ t) other led_b in
      (left (a.call ∷ t) law_a new).0 led_a ∙ alike t a.call b.call input a.handed b.handed law_a law_b
      ∙ sym ((left (b.call ∷ t) law_b other).0 led_b)

  all_one : (t : List Call) (old new other : State) (inputs : List Input) → Led limits szx setup t old
      → TakesAll old inputs new → TakesAll old inputs other → new ≡ other
  all_one t old new other [] led a b = a ∙ sym b
  all_one t old new other (input ∷ inputs) led a b =
      let same : a.0 ≡ b.0 = takes_one t old a.0 b.0 input led a.1 b.1 in
      all_one (a.1.call ∷ t) a.0 new other inputs (led_further limits szx setup t a.1.call old a.0 led a.1.step) a.2
      (subst (λ (s : State). TakesAll s inputs other) (sym same) b.2)

  -- so many datagrams are taken in one way
  given_one : (t : List Call) (old new other : State) (ps qs : List Packet) → Led limits szx setup t old
      → GivesOut old ps new → GivesOut old qs other → length ps ≡ length qs → (new ≡ other) × (ps ≡ qs)
  given_one t old new other [] [] led a b len = (a ∙ sym b, refl)
  given_one t old new other [] (q ∷ qs) led a b len = absurd (omega (arith, len))
  given_one t old new other (p ∷ ps) [] led a b len = absurd (omega (arith, len))
  given_one t old new other (p ∷ ps) (q ∷ qs) led a b len =
      let led_a = led_further limits szx setup t (NextOut (Some p)) old a.0 led a.1.step in
      let led_b = led_further limits szx setup t (NextOut (Some q)) old b.0 led b.1.step in
      let law_a = led_lawful limits szx setup (NextOut (Some p) ∷ t) a.0 led_a in
      let law_b = led_lawful limits szx setup (NextOut (Some q) ∷ t) b.0 led_b in
      let answers : Some p ≡ Some q = (exact t).next_out (Some p) (Some q) law_a law_b in
      let same : a.0 ≡ b.0 =
      (left (NextOut (Some p) ∷ t) law_a a.0).0 led_a
      ∙ ap (λ (x : Option Packet). state_left limits szx setup (NextOut x ∷ t)) answers
      ∙ sym ((left (NextOut (Some q) ∷ t) law_b b.0).0 led_b) in
      let rest = given_one (NextOut (Some p) ∷ t) a.0 new other ps qs led_a a.2
      (subst (λ (s : State). GivesOut s qs other) (sym same) b.2) (omega (arith, len)) in (
        rest.0,
        ap (λ (x : Packet). x ∷ ps) (some_is answers) ∙ ap (λ (xs : List Packet). q ∷ xs) rest.1,
      )
    where
      some_is : {x y : Packet} → Some x ≡ Some y → x ≡ y
      some_is e = cc e

  turn_both : (t : List Call) (old new other : State) (taken : ℕ) (inputs : List Input) (out outs : List Packet)
      → Led limits szx setup t old → Turned old taken inputs out new → Turned old taken inputs outs other
      → (new ≡ other) × (out ≡ outs)
  turn_both t old new other taken inputs out outs led a b =
      let given = given_one t old a.between b.between out outs led a.gives b.gives (a.counted ∙ sym b.counted) in
      let first = gives_leads limits szx setup t old out a.between led a.gives in (
        all_one (first.calls ++ t) a.between new other inputs first.led a.takes
            (subst (λ (s : State). TakesAll s inputs other) (sym given.0) b.takes),
        given.1,
      )

  pub replays_both : (t : List Call) (old new other : State) (records : List Record) (out outs : List Packet)
      → Led limits szx setup t old → Replays old records out new → Replays old records outs other
      → (new ≡ other) × (out ≡ outs)
  replays_both t old new other [] out outs led a b = (a.1 ∙ sym b.1, a.0 ∙ sym b.0)
  replays_both t old new other (Begun c life ∷ records) out outs led a b = absurd a.3
  replays_both t old new other (Woke life ∷ records) out outs led a b =
      let same : a.0 ≡ b.0 = a.3.1 ∙ sym b.3.1 in
      let rest = replays_both t a.0 new other records a.2 b.2 (subst (Led limits szx setup t) (sym a.3.1) led) a.5
      (subst (λ (s : State). Replays s records b.2 other) (sym same) b.5) in (
        rest.0,
        a.4 ∙ ap (λ (xs : List Packet). xs ++ a.2) (a.3.0 ∙ sym b.3.0) ∙ ap (λ (xs : List Packet). b.1 ++ xs) rest.1
            ∙ sym b.4,
      )
  replays_both t old new other (Turn moment taken inputs ∷ records) out outs led a b =
      let turn = turn_both t old a.0 b.0 taken inputs a.1 b.1 led a.3 b.3 in
      let first = turn_leads limits szx setup t old taken inputs a.1 a.0 led a.3 in
      let rest = replays_both (first.calls ++ t) a.0 new other records a.2 b.2 first.led a.5
      (subst (λ (s : State). Replays s records b.2 other) (sym turn.0) b.5) in (
        rest.0,
        a.4 ∙ ap (λ (xs : List Packet). xs ++ a.2) turn.1 ∙ ap (λ (xs : List Packet). b.1 ++ xs) rest.1 ∙ sym b.4,
      )
