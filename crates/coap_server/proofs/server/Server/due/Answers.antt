use Rattle.std.proofs.Common.{◌≡◌, ◌<◌, ◌^◌, ap, subst}
use Rattle.coap_types.specs.FirstMoment.{IsFirstMoment}
use Rattle.coap_server.specs.Object.Shown.{state_of}
use Rattle.coap_server.specs.Led.{State}
use Rattle.coap_server.specs.Turns.WhenDue.{has_work, latest}
use Rattle.coap_server.specs.Turns.Work.{WasLed}
use Rattle.coap_server.proofs.Calls.TicksWhenDue.{none_of, some_of, does_of, from_of}
use Rattle.coap_server.proofs.server.Server.due.Goals as goal

pub returns : goal.returns
returns g c =
    let s : State = state_of g.S.Store.content c.args.self.now in
    let view = ap (state_of g.S.Store.content) c.self.view_is in
    let was : WasLed s = subst WasLed view c.self.invariant.0 in
    let r = c.due_parts.result in
    let first : IsFirstMoment (has_work s) (latest s) r =
    subst (λ (x : State). IsFirstMoment (has_work x) (latest x) r) view c.due_parts.ensures.first in
    let clocks : s.layer.clock ≡ s.own.exchanges.clock =
    subst (λ (x : State). x.layer.clock ≡ x.own.exchanges.clock) view c.due_parts.ensures.clocks in
    let range : latest s < 2 ^ 64 = subst (λ (x : State). latest x < 2 ^ 64) view c.due_parts.ensures.range in
    record {
      none = none_of was.0 was.1 was.2 was.3 s was.4 clocks r range first;
      some = some_of was.0 was.1 was.2 was.3 s was.4 clocks r first;
      does = does_of was.0 was.1 was.2 was.3 s was.4 clocks r first;
      from = from_of was.0 was.1 was.2 was.3 s was.4 clocks r first;
    }
