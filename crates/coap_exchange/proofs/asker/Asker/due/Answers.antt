use Rattle.std.proofs.Common.{◌<◌, ◌^◌, ◌≡◌, ◌∙◌, ℕ, List, max, ap, arith, subst, refl}
use Rattle.coap_types.specs.declared.endpoint.Endpoint.{Endpoint}
use Rattle.coap_types.specs.FirstMoment.{IsFirstMoment}
use Rattle.coap_layer.specs.Machine.Waits.{any_has_step}
use Rattle.coap_layer.specs.declared.setup.Setup.{Setup}
use Rattle.coap_exchange.specs.AskerArrivals.{acked_in, has_waited}
use Rattle.coap_exchange.specs.AskerLaw.{Led, State}
use Rattle.coap_exchange.specs.AskerTrace.{Call}
use Rattle.coap_exchange.specs.Machine.AskerShown.{state_of}
use Rattle.coap_exchange.specs.Machine.Rests.{AskerRests, AskerTurns, has_turn}
use Rattle.coap_exchange.proofs.Resting.AtFirstMoments.{none_of, some_of, does_of, from_of}
use Rattle.coap_exchange.proofs.Resting.ClientRests.{rests, turns}
use Rattle.coap_exchange.proofs.asker.Asker.due.Goals as goal

pub returns : goal.returns
returns g c =
    let l = c.self.inside.layer.state in
    let held = c.self.inside.held in
    let s0 : State = state_of l c.self.inside.server c.self.inside.word held in
    let s : State = c.args.self.now.state in
    let view : s0 ≡ s = ap (λ x. x.state) c.self.view_is in
    let now = c.args.now.0 in
    let from = c.later-from.result.0 in
    let clock : c.clock.result.0 ≡ l.clock = c.clock.ensures in
    let at : from ≡ max l.clock now = c.later-from.ensures ∙ ap (λ (n : ℕ). max n now) clock in
    let same : max l.clock from ≡ from = omega (arith, at) in
    let steps : IsFirstMoment (λ later. any_has_step later l.open_cons) from c.due.result =
    subst (λ (n : ℕ). IsFirstMoment (λ later. any_has_step later l.open_cons) n c.due.result) same
    c.due.ensures.first in
    let here : IsFirstMoment (has_turn s0) from c.earlier.result =
    c.earlier.ensures (λ later. any_has_step later l.open_cons) (λ later. has_waited later (acked_in held.running)) from
    steps c.waited_from.ensures.first in
    let from_is : from ≡ max s.own.clock now = at ∙ ap (λ (x : State). max x.own.clock now) view in
    let first : IsFirstMoment (has_turn s) (max s.own.clock now) c.earlier.result =
    subst (λ (n : ℕ). IsFirstMoment (has_turn s) n c.earlier.result) from_is
    (subst (λ (x : State). IsFirstMoment (has_turn x) from c.earlier.result) view here) in
    let clocks : s.layer.clock ≡ s.own.clock = subst (λ (x : State). x.layer.clock ≡ x.own.clock) view refl in
    let range : max s.own.clock now < 2 ^ 64 = rw from_is at c.waited_from.ensures.range in
    record {
      none = none_of s.own.clock (has_turn s) (AskerRests s) (λ later free. rests s later clocks free) now
          c.earlier.result range first;
      some = some_of s.own.clock (has_turn s) (AskerRests s) (λ later free. rests s later clocks free) now
          c.earlier.result first;
      does = does_of s.own.clock (has_turn s)
          (λ at. (server : Endpoint) (setup : Setup) (t : List Call) → Led server setup t s → AskerTurns s at)
          (λ at due server setup t led. turns server setup t s at led clocks due) now c.earlier.result first;
      from = from_of s.own.clock (has_turn s) (max s.own.clock now) c.earlier.result first;
      first = first;
    }
