-- What is kept beside the exchanges still fits them.
use Rattle.std.proofs.Common.{◌≡◌, ℕ, Bool, Option, Some, None, length, max, ◌-◌, arith, ap, sym, subst, refl, ◌∙◌}
use Rattle.std.specs.Option.{option_map}
use Rattle.coap_types.specs.declared.endpoint.Endpoint.{Endpoint}
use Rattle.coap_types.specs.declared.endpoint.Moment.{Moment}
use Rattle.coap_layer.specs.Trace as L
use Rattle.coap_layer.specs.declared.setup.Setup.{Setup}
use Rattle.coap_exchange.specs.declared.answerer.Asked.{Asked}
use Rattle.coap_exchange.specs.declared.answerer.Due.{Due}
use Rattle.coap_exchange.specs.declared.answerer.Due.TheVariants as due
use Rattle.coap_exchange.specs.declared.separate.Deferred.{Deferred}
use Rattle.coap_exchange.specs.AnswererLaw.{State, Step, fresh_state}
use Rattle.coap_exchange.specs.AnswererSteps.{ready_at, without_ready}
use Rattle.coap_exchange.specs.AnswererTrace.{Own, Response, Responds, Take, Ticks}
use Rattle.coap_exchange.specs.Machine.AnswererShown.{Shown, MayNotify, MayRespond}
use Rattle.coap_handlers.specs.declared.responder.Ready.{Ready}
use Rattle.coap_handlers.specs.Shown.{IsHeld, called_ready}
use Rattle.coap_handlers.proofs.CountsDeferred.{fewer_when, same_most}

-- of a new server
pub fresh : (new : Shown) (setup : Setup) (most : ℕ) → new.state ≡ fresh_state setup → most ≡ setup.remembered
    → IsHeld new None None 0 most
fresh new setup most start is = record {
  pending = ap (λ (s : State). s.own.pending) (sym start);
  answerable = λ x is. absurd cc;
  ready = λ r is. absurd cc;
  count = ap (λ (s : State). length s.own.deferred) (sym start);
  most = is ∙ ap (λ (s : State). s.layer.most) (sym start);
}

-- behind a datagram that is given out
pub taken : (old new : Shown) (asked : Option Asked) (told : Option Ready) (deferred most : ℕ)
    (answer : Option L.Packet) → IsHeld old asked told deferred most → Step old.state (Take answer) new.state
    → new.answerable ≡ old.answerable
    → ((at : ℕ) (there : Endpoint) → MayNotify old at there → MayNotify new at there)
    → IsHeld new asked told deferred most
taken old new asked told deferred most answer held step same kept = record {
  pending = held.pending ∙ ap (λ (o : Own). o.pending) (sym step.own_is);
  answerable = λ x is. same ∙ held.answerable x is;
  ready = λ r is. let may = held.ready r is in record {
    ready = subst (λ (o : Own). option_map (λ (d : Deferred). d.asked) (ready_at o r.at.0) ≡ Some r.asked)
        (sym step.own_is) may.ready;
    con = kept r.at.0 r.asked.from may.con;
  };
  count = held.count ∙ ap (λ (o : Own). length o.deferred) (sym step.own_is);
  most = held.most ∙ sym (same_most old.state new.state (Take answer) step);
}

-- behind a tick
may_respond : (new : Shown) (now : Moment) (d : Due) → ((a : Asked) → d ≡ due.Ready a → MayRespond new now.0 a)
    → (r : Ready) → called_ready now d ≡ Some r → MayRespond new r.at.0 r.asked
may_respond new now (due.Ready a) may r is =
    let same : record { at = now; asked = a } ≡ r = cc in
    subst (λ (x : Ready). MayRespond new x.at.0 x.asked) same (may a refl)
may_respond new now due.Idle may r is = absurd cc
may_respond new now due.Copied may r is = absurd cc
may_respond new now due.Expired may r is = absurd cc

pub ticked : (old new : Shown) (asked : Option Asked) (before : Option Ready) (deferred most : ℕ) (now : Moment)
    (d : Due) (done : L.Answer) (room : Bool) (told : Option Ready) → IsHeld old asked before deferred most
    → Step old.state (Ticks now.0 done room d) new.state → ((a : Asked) → d ≡ due.Ready a → MayRespond new now.0 a)
    → told ≡ called_ready now d → IsHeld new None told deferred most
ticked old new asked before deferred most now d done room told held step may is = record {
  pending = ap (λ (o : Own). o.pending) (sym step.own_is);
  answerable = λ x none. absurd cc;
  ready = λ r some. may_respond new now d may r (sym is ∙ some);
  count = held.count ∙ ap (λ (o : Own). length o.deferred) (sym step.own_is);
  most = held.most ∙ sym (same_most old.state new.state (Ticks now.0 done room d) step);
}

-- behind the answer to a deferred request
pub responded : (old new : Shown) (asked : Option Asked) (told : Option Ready) (deferred most at : ℕ) (a : Asked)
    (r : Response) (word id : ℕ) → IsHeld old asked told deferred most → MayRespond old at a
    → Step old.state (Responds at a r word id) new.state → IsHeld new None None (deferred - 1) most
responded old new asked told deferred most at a r word id held may step =
    let s = old.state.own in
    let fewer = fewer_when (max s.clock at) s.separate s.deferred (ready_at s at) a refl may.ready in record {
      pending = ap (λ (o : Own). o.pending) (sym step.own_is);
      answerable = λ x none. absurd cc;
      ready = λ x none. absurd cc;
      count = (let so : deferred - 1 ≡ length (without_ready (max s.clock at) s.separate s.deferred) =
          omega (arith, fewer, held.count) in so) ∙ ap (λ (o : Own). length o.deferred) (sym step.own_is);
      most = held.most ∙ sym (same_most old.state new.state (Responds at a r word id) step);
    }
