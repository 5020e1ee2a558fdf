use Rattle.std.proofs.Common.{◌<◌, ◌^◌, ◌≡◌, ◌∙◌, ◌&&◌, ℕ, List, max, ap, arith, subst, refl}
use Rattle.coap_types.specs.FirstMoment.{IsFirstMoment}
use Rattle.coap_layer.specs.Machine.State.{is_free}
use Rattle.coap_layer.specs.Machine.Waits.{any_has_step}
use Rattle.coap_layer.specs.declared.setup.Setup.{Setup}
use Rattle.coap_layer.proofs.Facts.FirstMoments.{free_on}
use Rattle.coap_exchange.specs.AnswererLaw.{Led, State}
use Rattle.coap_exchange.specs.AnswererTrace.{Call}
use Rattle.coap_exchange.specs.Machine.AnswererShown.{sending_as, state_of}
use Rattle.coap_exchange.specs.Machine.Listed.{listed}
use Rattle.coap_exchange.specs.Machine.Rests.{AnswererRests, AnswererTurns, has_due, has_ready}
use Rattle.coap_exchange.proofs.Resting.AtFirstMoments.{none_of, some_of, does_of, from_of}
use Rattle.coap_exchange.proofs.Resting.ServerRests.{rests, turns, ready_on}
use Rattle.coap_exchange.proofs.answerer.Answerer.due.Goals as goal

pub returns : goal.returns
returns g c =
    let i = c.self.inside in
    let l = i.layer.state in
    let s0 : State = state_of l i.findings.pending i.deferred (listed i.separate.items) i.findings.ended
    (sending_as i.findings.unmatched) in
    let s : State = c.args.self.now.state in
    let view : s0 ≡ s = ap (λ x. x.state) c.self.view_is in
    let now = c.args.now.0 in
    let from = c.later-from.result.0 in
    let clock : c.clock.result.0 ≡ l.clock = c.clock.ensures in
    let at : from ≡ max l.clock now = c.later-from.ensures ∙ ap (λ (n : ℕ). max n now) clock in
    let same : max l.clock from ≡ from = omega (arith, at) in
    let steps : IsFirstMoment (λ later. any_has_step later l.open_cons) from c.due.result =
    subst (λ (n : ℕ). IsFirstMoment (λ later. any_has_step later l.open_cons) n c.due.result) same
    c.due.ensures.first in
    let free : IsFirstMoment (λ later. is_free later l.upcoming l.last_used) from c.free_from-free.result =
    subst (λ (n : ℕ). IsFirstMoment (λ later. is_free later l.upcoming l.last_used) n c.free_from-free.result) same
    c.free_from-free.ensures in
    let ready : IsFirstMoment (has_ready s0) from c.ready_from-ready.result =
    rw c.deref.ensures.value at c.ready_from-ready.ensures.first in
    let response : IsFirstMoment (λ later. has_ready s0 later && is_free later l.upcoming l.last_used) from
    c.latest.result =
    c.latest.ensures (has_ready s0) (λ later. is_free later l.upcoming l.last_used) from
    (λ a b le. ready_on s0.own.separate a b le s0.own.deferred) (free_on l.upcoming l.last_used) ready free in
    let here : IsFirstMoment (has_due s0) from c.earlier.result =
    c.earlier.ensures (λ later. any_has_step later l.open_cons)
    (λ later. has_ready s0 later && is_free later l.upcoming l.last_used) from steps response in
    let from_is : from ≡ max s.own.clock now = at ∙ ap (λ (x : State). max x.own.clock now) view in
    let first : IsFirstMoment (has_due s) (max s.own.clock now) c.earlier.result =
    subst (λ (n : ℕ). IsFirstMoment (has_due s) n c.earlier.result) from_is
    (subst (λ (x : State). IsFirstMoment (has_due x) from c.earlier.result) view here) in
    let clocks : s.layer.clock ≡ s.own.clock = subst (λ (x : State). x.layer.clock ≡ x.own.clock) view refl in
    let range : max s.own.clock now < 2 ^ 64 = rw from_is at c.ready_from-ready.ensures.range in
    record {
      none = none_of s.own.clock (has_due s) (AnswererRests s) (λ later free. rests s later clocks free) now
          c.earlier.result range first;
      some = some_of s.own.clock (has_due s) (AnswererRests s) (λ later free. rests s later clocks free) now
          c.earlier.result first;
      does = does_of s.own.clock (has_due s)
          (λ at. (setup : Setup) (t : List Call) → Led setup t s → AnswererTurns s at)
          (λ at due setup t led. turns setup t s at led clocks due) now c.earlier.result first;
      from = from_of s.own.clock (has_due s) (max s.own.clock now) c.earlier.result first;
      first = first;
    }
