-- A server has nothing to do exactly where its `due` says so.
use Rattle.std.proofs.Common.{◌≡◌, ℕ, Bool, true, false, List, ◌∷◌, ◌++◌, ap, sym, subst, refl}
use Rattle.coap_layer.specs.Machine.State as L
use Rattle.coap_layer.specs.declared.setup.Setup.{Setup}
use Rattle.coap_resource.specs.Limits.{Limits}
use Rattle.coap_exchange.specs.AnswererLaw as X
use Rattle.coap_exchange.specs.AnswererSteps as P
use Rattle.coap_exchange.specs.AnswererTrace as E
use Rattle.coap_server.specs.Asks.{lower}
use Rattle.coap_server.specs.Follows.Rests.{IsTick}
use Rattle.coap_server.specs.Law.{ServerLaw, own_of, lower_of}
use Rattle.coap_server.specs.Led.{State, Step, Led, exchanges_of}
use Rattle.coap_server.specs.Steps.{IsRight, after}
use Rattle.coap_server.specs.Trace.{Own, Call, Ticks}
use Rattle.coap_server.specs.Turns.WhenDue.{TicksDo}
use Rattle.coap_server.proofs.Facts.Exact.Leads.{led_lawful, exchanges_kept}
use Rattle.coap_server_laws.proofs.Facts.Laws as server_facts
use Rattle.coap_smooth.proofs.ByDue.ChainOf.{chain_of}

module _ (limits : Limits) (szx : ℕ) (setup : Setup) (t : List Call) (s : State) (led : Led limits szx setup t s) where
  abbrev Law : List Call → Type 0
  Law cs = ServerLaw limits szx setup cs

  -- what the law says of a further call is a step from there
  module _ (c : Call) (law : Law (c ∷ t)) where
    abbrev asks : List E.Call
    asks = lower (own_of limits szx t) c

    abbrev own_left : Own
    own_left = after (own_of limits szx t) c

    abbrev new : State
    new = record { own = own_left; layer = law.exchanges.left }

    chain : X.Exchanged (exchanges_of s) asks (exchanges_of new)
    chain =
        subst (λ (o : E.Own). X.Exchanged (exchanges_of s) asks (record { own = o; layer = law.exchanges.left }))
        (sym (exchanges_kept limits szx (c ∷ t)))
        (subst (λ (o : E.Own). X.Exchanged (record { own = o; layer = s.layer }) asks
        (record { own = X.own_of (asks ++ lower_of limits szx t); layer = law.exchanges.left }))
        (sym led.exchanges.own_is)
        (chain_of P.IsRight P.after P.lower E.start (L.start setup) asks (lower_of limits szx t) law.exchanges.rows
        law.exchanges.left law.exchanges.layer s.layer led.exchanges.layer))

    step : Step s c new
    step = record {
      right = subst (λ (o : Own). IsRight o c) (sym led.own_is) law.rows.0;
      own_is = ap (λ (o : Own). after o c) (sym led.own_is);
      under = subst (λ (o : Own). X.Exchanged (exchanges_of s) (lower o c) (exchanges_of new)) (sym led.own_is) chain;
    }

  pub rests_by_due : (now : ℕ) → TicksDo false s now → (c : Call) × IsTick now false c × Law (c ∷ t)
  rests_by_due now does =
      let k = (server_facts.goes limits szx setup t (led_lawful limits szx setup t s led)).ticks now 0 in
      let c : Call = Ticks now 0 k.0 k.1 k.2 k.3 k.4 k.5 k.6 in
      let none : k.6 ≡ false = does 0 k.0 k.1 k.2 k.3 k.4 k.5 k.6 (new c k.7) (step c k.7) in (
        Ticks now 0 k.0 k.1 k.2 k.3 k.4 k.5 false,
        (0, k.0, k.1, k.2, k.3, k.4, k.5, refl),
        subst (λ (b : Bool). Law (Ticks now 0 k.0 k.1 k.2 k.3 k.4 k.5 b ∷ t)) none k.7,
      )

  pub works_by_due : (now : ℕ) → TicksDo true s now → (c : Call) × IsTick now false c × Law (c ∷ t) → ⊥
  works_by_due now does r =
      let k = r.1 in
      let c : Call = Ticks now k.0 k.1 k.2 k.3 k.4 k.5 k.6 false in
      let law : Law (c ∷ t) = subst (λ d. Law (d ∷ t)) k.7 r.2 in
      let z : false ≡ true = does k.0 k.1 k.2 k.3 k.4 k.5 k.6 false (new c law) (step c law) in
      cc z
