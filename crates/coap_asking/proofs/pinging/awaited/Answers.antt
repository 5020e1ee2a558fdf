use Rattle.std.proofs.Common.{Bool, subst}
use Rattle.coap_asking.specs.Pinged.{Hears, further, not_yet}
use Rattle.coap_asking.proofs.pinging.awaited.Goals as goal

pub loop-turn-init : goal.loop-turn-init
loop-turn-init g c = not_yet

pub loop-turn-preserved : goal.loop-turn-preserved
loop-turn-preserved g c =
    further _ _ _ _ _ _ _ _ c.loop-turn.invariant
    (subst (λ (b : Bool). Hears g.L.Link.sends g.L.Link.receives c.loop-turn.ping c.loop-turn.link b
    c.is_answered-is_answered.new.link) c.if-is_answered.false c.is_answered-is_answered.ensures)
    c.in_ok-now.ensures
    (λ is. cc (c.if-is_given_up.false, c.is_given_up.ensures.1 is))
    c.send_again.ensures
    c.in_ok-bear.ensures

pub returns-then-is_answered : goal.returns-then-is_answered
returns-then-is_answered g c = (
  _,
  _,
  _,
  c.loop-turn.invariant,
  (
    _,
    subst (λ (b : Bool). Hears g.L.Link.sends g.L.Link.receives c.loop-turn.ping c.loop-turn.link b
        c.is_answered-is_answered.new.link) c.if-is_answered.true c.is_answered-is_answered.ensures,
    c.in_ok-now.ensures,
    c.elapsed.ensures,
  ),
)

pub returns-then-is_given_up : goal.returns-then-is_given_up
returns-then-is_given_up g c = (
  _,
  _,
  _,
  c.loop-turn.invariant,
  (
    _,
    subst (λ (b : Bool). Hears g.L.Link.sends g.L.Link.receives c.loop-turn.ping c.loop-turn.link b
        c.is_answered-is_answered.new.link) c.if-is_answered.false c.is_answered-is_answered.ensures,
    c.in_ok-now.ensures,
    c.is_given_up.ensures.0 c.if-is_given_up.true,
  ),
)
