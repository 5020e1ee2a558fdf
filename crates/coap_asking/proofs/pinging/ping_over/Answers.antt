use Rattle.std.proofs.Common.{◌∙◌, arith, inl, inr, refl, subst, Bool}
use Rattle.coap_asking.specs.Pinged.{IsNext, none_yet, one_more}
use Rattle.coap_asking.proofs.ToldPings.{none_told, told_done, told_on, told_refused}
use Rattle.coap_asking.proofs.pinging.ping_over.Goals as goal

pub loop-number-init : goal.loop-number-init
loop-number-init g c = record { answered = none_yet _ _ _ c.in_ok-begin.ensures; told = none_told _ _ }

pub loop-number-preserved : goal.loop-number-preserved
loop-number-preserved g c = record {
  answered = one_more _ _ _ _ _ _ _ _ c.loop-number.invariant.answered
      (subst (λ (b : Bool). IsNext g.L.Link.sends g.L.Link.receives g.L.Link.fault_count g.T.Timekeeper.tells
      c.args.pinging.now.give_up c.args.pinging.now.server c.args.pinging.now.word
      c.loop-number.number c.loop-number.begin.0 c.loop-number.link b c.ping_and_tell.new.link)
      c.if-not-branch.false c.in_ok-ping_and_tell.ensures.next)
      c.in_ok-next.ensures.2 c.in_ok-next.ensures.0 c.in_ok-next.ensures.3;
  told = told_on c.args.pinging.now.json _ _ _ _ c.loop-number.invariant.told _ c.in_ok-ping_and_tell.ensures.told.2
      (c.in_ok-ping_and_tell.ensures.told.1 ∙ c.if-not-branch.false);
}

pub returns-then-not-branch-clause-pings : goal.returns-then-not-branch-clause-pings
returns-then-not-branch-clause-pings g c =
    inr (inr (
      refl,
      c.loop-number.number,
      c.loop-number-test.true,
      (
        _,
        _,
        c.loop-number.invariant.answered,
        subst (λ (b : Bool). IsNext g.L.Link.sends g.L.Link.receives g.L.Link.fault_count
            g.T.Timekeeper.tells c.args.pinging.now.give_up c.args.pinging.now.server
            c.args.pinging.now.word c.loop-number.number c.loop-number.begin.0 c.loop-number.link b
            c.ping_and_tell.new.link)
            c.if-not-branch.true c.in_ok-ping_and_tell.ensures.next,
      ),
    ))

pub returns-then-number-pinging-clause-pings : goal.returns-then-number-pinging-clause-pings
returns-then-number-pinging-clause-pings g c =
    inr (inl (
      refl,
      c.loop-number.number,
      omega (arith, c.if-number-pinging.true),
      (
        _,
        _,
        c.loop-number.invariant.answered,
        subst (λ (b : Bool). IsNext g.L.Link.sends g.L.Link.receives g.L.Link.fault_count
            g.T.Timekeeper.tells c.args.pinging.now.give_up c.args.pinging.now.server
            c.args.pinging.now.word c.loop-number.number c.loop-number.begin.0 c.loop-number.link b
            c.ping_and_tell.new.link)
            c.if-not-branch.false c.in_ok-ping_and_tell.ensures.next,
      ),
    ))

pub returns-then-not-branch-clause-told : goal.returns-then-not-branch-clause-told
returns-then-not-branch-clause-told g c =
    told_refused c.args.pinging.now.json _ _ _ _ c.loop-number.invariant.told _ c.in_ok-ping_and_tell.ensures.told.2 _
    c.loop-number-test.true (c.in_ok-ping_and_tell.ensures.told.1 ∙ c.if-not-branch.true)

pub returns-then-number-pinging-clause-told : goal.returns-then-number-pinging-clause-told
returns-then-number-pinging-clause-told g c =
    told_done c.args.pinging.now.json _ _ _ _ c.loop-number.invariant.told _ c.in_ok-ping_and_tell.ensures.told.2 _
    c.if-number-pinging.true (c.in_ok-ping_and_tell.ensures.told.1 ∙ c.if-not-branch.false)
