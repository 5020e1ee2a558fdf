-- One call more, for all calls of a server.
use Rattle.std.proofs.Common.{◌≡◌, ◌↔◌, ℕ, Some, List, [], ◌∷◌, ◌++◌, refl, ap, ◌∙◌, subst, sym}
use Rattle.coap_layer.specs.Machine.State as S
use Rattle.coap_layer.specs.Machine.Steps as G
use Rattle.coap_layer.specs.Machine.Steps.{Steps}
use Rattle.coap_layer.proofs.Facts.Calls.{steps_left}
use Rattle.coap_layer.specs.declared.setup.Setup.{Setup}
use Rattle.coap_resource.specs.Limits.{Limits}
use Rattle.coap_exchange.specs.AnswererTrace as E
use Rattle.coap_exchange.specs.AnswererLaw as X
use Rattle.coap_exchange.specs.AnswererSteps as P
use Rattle.coap_exchange.proofs.Facts.ServerSide.{led_start, led_exchanged, led_law}
use Rattle.coap_server.specs.Trace.{Own, Call, Feeds, Refuses, Ticks, NextOut, Forgets}
use Rattle.coap_server.specs.Handling.{incoming, ticking, heard}
use Rattle.coap_server.specs.Asks.{answering, responding, lower}
use Rattle.coap_server.specs.Refusing.{refusing}
use Rattle.coap_server.specs.Steps.{IsRight, after, exchanges_after}
use Rattle.coap_server.specs.Law.{own_of, lower_of, ServerLaw}
use Rattle.coap_server.proofs.Facts.Exact.Asked.{joined}
use Rattle.coap_server.specs.Led.{State, exchanges_of, fresh_state, Step, Led, state_left}

-- what they keep is what their calls add up to
calls_kept : (cs past : List E.Call) → exchanges_after (X.own_of past) cs ≡ X.own_of (cs ++ past)
calls_kept [] past = refl
calls_kept (c ∷ cs) past = ap (λ s. P.after s c) (calls_kept cs past)

pub kept_behind : (s : E.Own) (first : E.Call) (asks past : List E.Call) → s ≡ X.own_of past
    → exchanges_after (P.after s first) asks ≡ X.own_of ((asks ++ first ∷ []) ++ past)
kept_behind s first asks past e = ap (λ z. exchanges_after (P.after z first) asks) e
    ∙ (calls_kept asks (first ∷ past) ∙ ap X.own_of (sym (joined asks first past)))

pub exchanges_kept : (limits : Limits) (szx : ℕ) (t : List Call)
    → (own_of limits szx t).exchanges ≡ X.own_of (lower_of limits szx t)
exchanges_kept limits szx [] = refl
exchanges_kept limits szx (Feeds now from bytes word up came h below ∷ t) =
    let s : Own = own_of limits szx t in
    let first : E.Call = incoming s now from bytes up came in
    kept_behind s.exchanges first (answering (heard s now first) came h below) (lower_of limits szx t)
    (exchanges_kept limits szx t)
exchanges_kept limits szx (Refuses now from bytes word code up p response below ∷ t) =
    let s : Own = own_of limits szx t in
    kept_behind s.exchanges (incoming s now from bytes up (Some p)) (refusing p.0 response below)
    (lower_of limits szx t) (exchanges_kept limits szx t)
exchanges_kept limits szx (Ticks now word below room d passed h id answer ∷ t) =
    let s : Own = own_of limits szx t in
    let first : E.Call = ticking s now below room d in
    kept_behind s.exchanges first (responding (heard s now first) d passed h word id) (lower_of limits szx t)
    (exchanges_kept limits szx t)
exchanges_kept limits szx (NextOut answer ∷ t) = ap (λ s. P.after s (E.Take answer)) (exchanges_kept limits szx t)
exchanges_kept limits szx (Forgets peer ∷ t) = ap (λ s. P.after s (E.Forgets peer)) (exchanges_kept limits szx t)
exchanges_kept limits szx (_ ∷ t) = exchanges_kept limits szx t

module _ (limits : Limits) (szx : ℕ) (setup : Setup) where
  pub led_empty : Led limits szx setup [] (fresh_state limits szx setup)
  led_empty = record { rows = tt; own_is = refl; exchanges = led_start setup }

  pub led_further : (t : List Call) (c : Call) (old new : State) → Led limits szx setup t old → Step old c new
      → Led limits szx setup (c ∷ t) new
  led_further t c old new led step =
      record {
        rows = (subst (λ s. IsRight s c) led.own_is step.right, led.rows);
        own_is = step.own_is ∙ ap (λ s. after s c) led.own_is;
        exchanges = led_exchanged setup (lower_of limits szx t) (lower (own_of limits szx t) c) (exchanges_of old)
            (exchanges_of new) led.exchanges
            (subst (λ s. X.Exchanged (exchanges_of old) (lower s c) (exchanges_of new)) led.own_is step.under);
      }

  pub led_lawful : (t : List Call) (s : State) → Led limits szx setup t s → ServerLaw limits szx setup t
  led_lawful t s led = record {
    rows = led.rows;
    exchanges = led_law setup (lower_of limits szx t) (exchanges_of s) led.exchanges;
  }

  -- the calls lead to this state, and to no other

  abbrev asks : List Call → List G.Asked
  asks t = X.lower_of (lower_of limits szx t)

  pub led_state : (t : List Call) (s : State) → Led limits szx setup t s → s ≡ state_left limits szx setup t
  led_state t s led = ap (λ (o : Own). record { own = o; layer = s.layer }) led.own_is
      ∙ ap (λ (l : S.State). record { own = own_of limits szx t; layer = l })
      (steps_left (S.start setup) (asks t) s.layer led.exchanges.layer)

  leads_there : (t : List Call) → ServerLaw limits szx setup t → Led limits szx setup t (state_left limits szx setup t)
  leads_there t law = record {
    rows = law.rows;
    own_is = refl;
    exchanges = record {
      rows = law.exchanges.rows;
      own_is = exchanges_kept limits szx t;
      layer = subst (Steps (S.start setup) (asks t))
          (steps_left (S.start setup) (asks t) law.exchanges.left law.exchanges.layer) law.exchanges.layer;
    };
  }

  pub one_state : (t : List Call) → ServerLaw limits szx setup t → (s : State)
      → Led limits szx setup t s ↔ (s ≡ state_left limits szx setup t)
  one_state t law s = (
    led_state t s,
    λ same. subst (Led limits szx setup t) (sym same) (leads_there t law),
  )
