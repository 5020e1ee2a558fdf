use Rattle.std.proofs.Common.{◌≡◌, sym, subst, max}
use Rattle.coap_layer.specs.Ids.{numbers}
use Rattle.coap_layer.specs.Machine.IdState.{IdState, Led, uses_of}
use Rattle.coap_layer.proofs.Numbers.StepsOfASource.{free_led}
use Rattle.coap_layer.proofs.message_id.IdSource.is_free.Goals as goal

pub returns-clause-led : goal.returns-clause-led
returns-clause-led c word t led =
    let s : IdState = record {
      clock = c.self.inside.clock.0;
      upcoming = c.self.inside.upcoming;
      last_used = uses_of c.self.inside.last_used;
    } in
    let before : Led word t s = subst (λ x. Led word t x) (sym c.self.view_is) led in
    let now : c.later-self-inside.result.0 ≡ max c.self.inside.clock.0 c.args.now.0 = cc c.later-self-inside.ensures in
    rw now (free_led word t s c.args.now.0 c.may_give.result before
    (λ h. rw (← now) (c.may_give.ensures.yes word (numbers t) before.kept.upcoming before.kept.last_used h))
    (λ h. rw (← now) (c.may_give.ensures.no word (numbers t) before.kept.upcoming before.kept.last_used h)))
