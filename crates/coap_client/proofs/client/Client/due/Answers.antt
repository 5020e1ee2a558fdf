use Rattle.std.proofs.Common.{◌≡◌, ◌<◌, ◌^◌, ◌∙◌, ℕ, max, ap, arith, subst}
use Rattle.coap_types.specs.FirstMoment.{IsFirstMoment}
use Rattle.coap_exchange.specs.Machine.Rests.{has_turn}
use Rattle.coap_client.specs.Led.{State}
use Rattle.coap_client.specs.Object.Happens.{WasLed}
use Rattle.coap_client.specs.Object.Held.{seen}
use Rattle.coap_client.specs.Turns.Due.{begins, has_work, latest}
use Rattle.coap_client.proofs.Calls.DueLemmas.{none_of, some_of, does_of, from_of}
use Rattle.coap_client.proofs.client.Client.due.Goals as goal

pub returns : goal.returns
returns g c =
    let s0 : State = seen c.self.inside.parts in
    let s : State = c.args.self.now in
    let view : s0 ≡ s = c.self.view_is in
    let was : WasLed s = subst WasLed view c.self.invariant in
    let from = c.later-from.result.0 in
    let at : from ≡ latest s0 = c.later-from.ensures
    ∙ ap (λ (n : ℕ). max n c.self.inside.parts.held.clock.0) c.clock.ensures in
    let same : max s0.layer.own.clock from ≡ from = omega (arith, at) in
    let turns : IsFirstMoment (has_turn s0.layer) from c.due.result =
    subst (λ (n : ℕ). IsFirstMoment (has_turn s0.layer) n c.due.result) same c.due.ensures.first in
    let here : IsFirstMoment (has_work s0) from c.earlier.result =
    c.earlier.ensures (has_turn s0.layer) (begins s0.own) from turns c.begins_from.ensures.first in
    let from_is : from ≡ latest s = at ∙ ap latest view in
    let first : IsFirstMoment (has_work s) (latest s) c.earlier.result =
    subst (λ (n : ℕ). IsFirstMoment (has_work s) n c.earlier.result) from_is
    (subst (λ (x : State). IsFirstMoment (has_work x) from c.earlier.result) view here) in
    let range : latest s < 2 ^ 64 = rw from_is at c.begins_from.ensures.range in
    record {
      none = none_of was.0 was.1 was.2 was.3 s was.4 c.earlier.result range first;
      some = some_of was.0 was.1 was.2 was.3 s was.4 c.earlier.result first;
      does = does_of was.0 was.1 was.2 was.3 s was.4 c.earlier.result first;
      from = from_of was.0 was.1 was.2 was.3 s was.4 c.earlier.result first;
    }
