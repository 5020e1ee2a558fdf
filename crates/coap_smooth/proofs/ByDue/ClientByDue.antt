-- A client has nothing to do exactly where its `due` says so.
use Rattle.std.proofs.Common.{◌≡◌, ℕ, Bool, true, false, List, [], ◌∷◌, ◌++◌, sym, subst, refl}
use Rattle.std.proofs.lemmas.List.{append-nil}
use Rattle.coap_types.specs.declared.endpoint.Endpoint.{Endpoint}
use Rattle.coap_block.specs.Sizes.{Sizes}
use Rattle.coap_layer.specs.Machine.State as L
use Rattle.coap_layer.specs.declared.setup.Setup.{Setup}
use Rattle.coap_exchange.specs.AskerLaw as X
use Rattle.coap_exchange.specs.AskerSteps as P
use Rattle.coap_exchange.specs.AskerTrace as E
use Rattle.coap_exchange.proofs.Facts.ClientSide.{led_exchanged, led_start}
use Rattle.coap_client.specs.Law.{ClientLaw, own_of, lower_of}
use Rattle.coap_client.specs.Led.{State, Step, Led}
use Rattle.coap_client.specs.Own.{Own}
use Rattle.coap_client.specs.Steps.{lower, IsRight, after}
use Rattle.coap_client.specs.Trace.{Call, Ticks}
use Rattle.coap_client.specs.Turns.Due.{TicksDo}
use Rattle.coap_client.proofs.Facts.EachCall.{client_stands}
use Rattle.coap_client_laws.specs.Follows.Rests.{IsTick}
use Rattle.coap_client_laws.proofs.Facts.EachCall.{goes_on}
use Rattle.coap_smooth.proofs.ByDue.ChainOf.{chain_of}

module _ (server : Endpoint) (sizes : Sizes) (setup : Setup) (t : List Call) (s : State)
    (led : Led server sizes setup t s) where
  abbrev Law : List Call → Type 0
  Law cs = ClientLaw server sizes setup cs

  -- what the law says of a further call is a step from there
  module _ (c : Call) (law : Law (c ∷ t)) where
    abbrev asks : List E.Call
    asks = lower (own_of sizes t) c

    beneath : X.Led server setup (lower_of sizes t) s.layer
    beneath = subst (λ cs. X.Led server setup cs s.layer) (append-nil (lower_of sizes t))
        (led_exchanged server setup [] (lower_of sizes t) (X.fresh_state server setup) s.layer (led_start server setup)
        led.layer)

    abbrev left : X.State
    left = record { own = X.own_of server setup (asks ++ lower_of sizes t); layer = law.exchanges.left }

    abbrev new : State
    new = record { own = after s.own c; layer = left }

    chain : X.Exchanged s.layer asks left
    chain =
        subst (λ (o : E.Own). X.Exchanged (record { own = o; layer = s.layer.layer }) asks left) (sym beneath.own_is)
        (chain_of P.IsRight P.after P.lower (E.start server setup.word) (L.start setup) asks (lower_of sizes t)
        law.exchanges.rows law.exchanges.left law.exchanges.layer s.layer.layer beneath.layer)

    step : Step s c new
    step = record {
      right = subst (λ (o : Own). IsRight o c) (sym led.own_is) law.rows.0;
      own_is = refl;
      under = subst (λ (o : Own). X.Exchanged s.layer (lower o c) left) (sym led.own_is) chain;
    }

  pub rests_by_due : (now : ℕ) → TicksDo false s now → (c : Call) × IsTick now false c × Law (c ∷ t)
  rests_by_due now does =
      let k = (goes_on server sizes setup t (client_stands server sizes setup t s led)).ticks now 0 in
      let c : Call = Ticks now 0 k.0 k.1 k.2 k.3 k.4 k.5 in
      let none : k.5 ≡ false = does 0 k.0 k.1 k.2 k.3 k.4 k.5 (new c k.6) (step c k.6) in (
        Ticks now 0 k.0 k.1 k.2 k.3 k.4 false,
        (0, (k.0, k.1, k.2, k.3, k.4, refl)),
        subst (λ (b : Bool). Law (Ticks now 0 k.0 k.1 k.2 k.3 k.4 b ∷ t)) none k.6,
      )

  pub works_by_due : (now : ℕ) → TicksDo true s now → (c : Call) × IsTick now false c × Law (c ∷ t) → ⊥
  works_by_due now does r =
      let k = r.1.1 in
      let c : Call = Ticks now r.1.0 k.0 k.1 k.2 k.3 k.4 false in
      let law : Law (c ∷ t) = subst (λ d. Law (d ∷ t)) k.5 r.2 in
      let z : false ≡ true = does r.1.0 k.0 k.1 k.2 k.3 k.4 false (new c law) (step c law) in
      cc z
